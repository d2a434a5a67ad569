-- `ReplayEpoch` of replay.rs: a rollback height, and the replayed ids as a rising list.
use Rattle.std.specs.Prelude.{◌≡◌, true, false, cond, not, List, [], ℕ, ◌≤◌}
use Rattle.base_lists.specs.Lists.{elemb}
use Rattle.book.specs.Model.{id_list, id_cells}
use Rattle.book.specs.declared.Height.{Height}
use Rattle.std.specs.Prelude.{Option}
use Rattle.std.specs.Prelude.{None, Some}
use Rattle.book.specs.declared.ReplayEpoch.{ReplayEpoch}
use Rattle.rules.specs.Calls.Replay.{is_at, is_before}
use Rattle.rules.specs.Steps.Notes.{unreplayed}
use Rattle.part_ids.specs.Ids.{insert_new, without_ids}
use Rattle.part_replay.specs.declared.Begun.{Begun}
use Rattle.part_replay.specs.declared.Marked.{Marked}

abbrev pub replayed_of : ReplayEpoch → List ℕ
replayed_of e = id_list e.replayed_submission_ids

-- the epoch at a height, or at none, with these ids replayed
abbrev pub epoch : Option Height → List ℕ → ReplayEpoch
epoch h is = record { rollback_height = h; replayed_submission_ids = id_cells 16 is }

-- the cells of an epoch hold its list
pub record Normal (e : ReplayEpoch) : Type 0 where
  pub count : e.replayed_submission_ids.count ≤ 16
  pub held : e.replayed_submission_ids ≡ id_cells 16 (replayed_of e)

-- paper 01: "`begin` at the held height is false and changes nothing, else sets it, empties the replayed ids, true"
unfoldable pub begun : ReplayEpoch → Height → Begun
begun e h = cond (is_at e.rollback_height h.0)
    (record { started = false; epoch = e })
    (record { started = true; epoch = epoch (Some h) [] })

-- paper 01: "`finish_if_advanced` clears only when height > rollback height"
unfoldable pub finished : ReplayEpoch → Height → ReplayEpoch
finished e h = cond (is_before e.rollback_height h.0) (epoch None []) e

-- `mark_replayed`: the id is among the replayed ones, and whether it is so anew
abbrev pub marked : ReplayEpoch → ℕ → Marked
marked e i = record { added = not (elemb i (replayed_of e)); epoch = epoch e.rollback_height (insert_new i (replayed_of e)) }

-- `remove`
abbrev pub removed : ReplayEpoch → ℕ → ReplayEpoch
removed e i = epoch e.rollback_height (unreplayed i (replayed_of e))

-- `retain`, by the ids to drop
abbrev pub kept : ReplayEpoch → List ℕ → ReplayEpoch
kept e gone = epoch e.rollback_height (without_ids gone (replayed_of e))
