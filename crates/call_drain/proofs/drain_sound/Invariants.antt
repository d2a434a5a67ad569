-- The loop carries `Running`: what is done and what is left make the whole drain.
use Prim.Native.Nat.{◌≤◌}
use Rattle.call_drain.specs.Loop.{Running}
use Rattle.call_drain.proofs.drain_sound.Given as goal

abbrev pub invariant-loop-i : goal.invariant-loop-i
invariant-loop-i l = (l.i-end ≤ 16) × Running l.fn.b.parts l.book l.answers l.i
