-- The loop keeps: of the `i` looked at, those that stay are in front and zeros behind; nothing but these cells of the book changes.
use lib.ListN.{length}
use mathlib.Core.Path.{◌≡◌}
use Prim.Native.Nat.{◌-◌, ◌≤◌}
use Rattle.book.specs.Zero.{zero_submitted}
use Rattle.book.specs.Model.{view}
use Rattle.part_ids.specs.Moving.{Moving}
use Rattle.part_change.specs.Parts.{put_cells}
use Rattle.part_change.specs.ChangeLaws.{not_is}
use Rattle.part_change.proofs.drop_submitted.Given as goal

abbrev pub invariant-loop-i : goal.invariant-loop-i
invariant-loop-i l = (l.n ≤ 16) × (l.w ≤ l.i) × (l.z ≡ zero_submitted) × (length l.out.submitted ≡ 16) × (l.n ≡ length (view l.initial.out).submitted) × (l.out ≡ put_cells l.out.submitted_count l.out.submitted l.initial.out) ×
    Moving 16 zero_submitted (not_is l.id.0) (view l.initial.out).submitted l.out.submitted l.w l.i
