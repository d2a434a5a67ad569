-- The loop keeps: the book is sound, and setting aside the submissions from `i` on gives what the rules give for the whole book.
use mathlib.Core.Path.{◌≡◌}
use Prim.Native.Nat.{◌≤◌}
use lib.ListN.{length}
use Rattle.call_restore_runtime.specs.RestoreLaws.{Restoring}
use Rattle.call_restore_runtime.proofs.restore_runtime_sound.Given as goal

abbrev pub invariant-loop-i : goal.invariant-loop-i
invariant-loop-i l = (l.i-end ≤ 16) × (length l.out.submitted ≡ 16) × (l.out.submitted_count ≡ l.i-end) × Restoring l.initial.out l.out l.i
