-- The loop carries `Fits` of the parts so far.
use Rattle.std.proofs.Common.{take}
use Rattle.codec_forms.specs.Wire.{enc_many}
use Rattle.codec_append.specs.Fits.{Fits}
use Rattle.archive_bundle_write.proofs.each.append_each.Given as goal

abbrev pub invariant-loop-x : goal.invariant-loop-x
invariant-loop-x g l = Fits (enc_many g.form (take l.x-index l.parts)) l.at l.initial.out l.out l.e
