-- The loop keeps: the parts so far are appended behind the count, within `form.1` bytes each.
use Rattle.std.proofs.Common.{◌*◌, take}
use Rattle.codec_forms.specs.Wire.{enc_many}
use Rattle.codec_append.specs.Fits.{FitsWithin}
use Rattle.codec_answers.proofs.drained.append_first.Given as goal

abbrev pub invariant-loop-x : goal.invariant-loop-x
invariant-loop-x g l = FitsWithin (l.x-index * g.form.1) (enc_many g.form.0 (take l.x-index l.first)) l.initial.e l.initial.out l.out l.e
