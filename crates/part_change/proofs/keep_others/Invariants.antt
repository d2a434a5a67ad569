-- The loop keeps: of the `i` looked at, those of other ids are in front and zeros behind; the cells from `i` on are as they were.
use lib.ListN.{length, take}
use mathlib.Core.Path.{◌≡◌}
use Prim.Native.Nat.{◌-◌, ◌≤◌}
use Rattle.book.specs.Zero.{zero_delivery}
use Rattle.part_ids.specs.Moving.{Moving}
use Rattle.part_change.specs.ChangeLaws.{not_for}
use Rattle.part_change.proofs.keep_others.Given as goal

abbrev pub invariant-loop-i : goal.invariant-loop-i
invariant-loop-i l = (l.n ≤ 16) × (l.w ≤ l.i) × (l.z ≡ zero_delivery) × (length l.out ≡ 16) × (l.n ≡ length (take l.n l.initial.out)) × Moving 16 zero_delivery (not_for l.id.0) (take l.n l.initial.out) l.out l.w l.i
