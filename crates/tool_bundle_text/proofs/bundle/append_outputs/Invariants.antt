-- The loop keeps `Fits` of the first i outputs' texts.
use Rattle.codec_append.specs.Fits.{Fits}
use Rattle.tool_bundle_text.specs.Bundles.{output_text}
use Rattle.tool_text.specs.Each.{each_from}
use Rattle.std.proofs.Common.{take}
use Rattle.tool_bundle_text.proofs.bundle.append_outputs.Given as goal

abbrev pub invariant-loop-i : goal.invariant-loop-i
invariant-loop-i l = Fits (each_from (output_text l.parent) 0 (take l.i l.a)) l.at l.initial.out l.out l.e
