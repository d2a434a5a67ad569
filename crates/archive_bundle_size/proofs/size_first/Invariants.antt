-- The loop keeps: `sum` is the length of the parts so far, each of at most `most` bytes.
use Rattle.std.proofs.Common.{length}
use Rattle.codec_forms.specs.Puts.{Sizing}
use Rattle.archive_bundle_size.proofs.size_first.Given as goal

abbrev pub invariant-loop-x : goal.invariant-loop-x
invariant-loop-x g l = Sizing g.form.0 l.first g.form.1 (length l.first) l.sum l.x-index
