-- `replay.rs`: `begin_replay`, `finish_replay_if_advanced`, `replay_rollback_height`.
use Rattle.std.specs.Prelude.{ℕ, Bool, true, false, cond, eqb, ltb}
use Rattle.book.specs.declared.Height.{Height}
use Rattle.std.specs.Prelude.{Option}
use Rattle.std.specs.Prelude.{None, Some}
use Rattle.rules.specs.Rule.{done, begin_epoch, end_epoch, note, Rule, ◌>>=◌, ◌>>◌, book, step}

abbrev pub is_at : Option Height → ℕ → Bool
is_at None n = false
is_at (Some h) n = eqb h.0 n

abbrev pub is_before : Option Height → ℕ → Bool
is_before None n = false
is_before (Some h) n = ltb h.0 n

-- "`begin` at the held height is false and changes nothing, else sets it, empties the replayed ids, true"
unfoldable pub begin_replay : Height → Rule Bool
begin_replay h = do
  b ← book
  cond (is_at b.rollback h.0) (done false) (do
    step (note (begin_epoch h))
    done true)

-- "`finish_if_advanced` clears only when height > rollback height"
unfoldable pub finish_replay_if_advanced : Height → Rule (Unit {0})
finish_replay_if_advanced h = do
  b ← book
  cond (is_before b.rollback h.0) (step (note end_epoch)) (done tt)

unfoldable pub replay_rollback_height : Rule (Option Height)
replay_rollback_height = do
  b ← book
  done b.rollback
