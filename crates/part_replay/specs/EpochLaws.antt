-- The epoch as the rules have it: their notes on a `Rest`, read off its height and its replayed ids.
use Rattle.std.specs.Prelude.{◌≡◌, Bool, ◌&&◌, ℕ, ◌≤◌, length}
use Rattle.std.proofs.Common.{sym, ◌∙◌}
use Rattle.std.proofs.Math.Path.{ap}
use Rattle.std.proofs.Math.Bool.{true, false, cond, not}
use mathlib.Core.List.{List}
use Rattle.base_lists.specs.Lists.{elemb, insert_up}
use Rattle.base_lists.specs.Laws.{take_cells}
use Rattle.book.specs.Model.{id_cells}
use Rattle.book.specs.declared.Height.{Height}
use Rattle.std.specs.Prelude.{Option}
use Rattle.book.specs.declared.ReplayEpoch.{ReplayEpoch}
use Rattle.rules.specs.Calls.Replay.{is_at, is_before}
use Rattle.rules.specs.Rule.{begin_epoch, end_epoch, unreplay}
use Rattle.rules.specs.Steps.Notes.{Rest, noted, unreplayed, replayed_with}
use Rattle.part_ids.specs.Ids.{insert_new}
use Rattle.part_replay.specs.Epoch.{Normal, epoch, begun, finished, marked, removed}

abbrev pub epoch_of : Rest → ReplayEpoch
epoch_of s = epoch s.rollback s.replayed

pub normal_epoch : (h : Option Height) (is : List ℕ) → length is ≤ 16 → Normal (epoch h is)
normal_epoch h is l = record { count = l; held = ap (id_cells 16) (sym (take_cells 16 0 is)) }

module _ (s : Rest) where
  pub begin_starts : (h : Height) → is_at s.rollback h.0 ≡ false → begun (epoch_of s) h ≡ record { started = true; epoch = epoch_of (noted (begin_epoch h) s) }
  unfolding begun noted
  begin_starts h e = rw e

  pub begin_same : (h : Height) → is_at s.rollback h.0 ≡ true → begun (epoch_of s) h ≡ record { started = false; epoch = epoch_of s }
  unfolding begun
  begin_same h e = rw e

  pub finish_ends : (h : Height) → is_before s.rollback h.0 ≡ true → finished (epoch_of s) h ≡ epoch_of (noted end_epoch s)
  unfolding finished noted
  finish_ends h e = rw e

  pub finish_stays : (h : Height) → is_before s.rollback h.0 ≡ false → finished (epoch_of s) h ≡ epoch_of s
  unfolding finished
  finish_stays h e = rw e

  pub remove_notes : (i : ℕ) → removed (epoch_of s) i ≡ epoch_of (noted (unreplay i) s)
  unfolding noted
  remove_notes i = ap (λ (is : List ℕ). epoch s.rollback (unreplayed i is)) (take_cells 16 0 s.replayed)

  -- of a retained id
  pub mark_notes : (i : ℕ) (ids : List ℕ) → elemb i ids ≡ true → marked (epoch_of s) i ≡ record { added = not (elemb i s.replayed); epoch = epoch_of (replayed_with i ids s) }
  unfolding replayed_with
  mark_notes i ids h =
      ap (λ (is : List ℕ). record { added = not (elemb i is); epoch = epoch s.rollback (insert_new i is) }) (take_cells 16 0 s.replayed)
      ∙ ap (λ (is : List ℕ). record { added = not (elemb i s.replayed); epoch = epoch s.rollback is }) (same (elemb i s.replayed))
    where
      same : (t : Bool) → cond t s.replayed (insert_up i s.replayed) ≡ cond (elemb i ids && not t) (insert_up i s.replayed) s.replayed
      same true = rw h
      same false = rw h
