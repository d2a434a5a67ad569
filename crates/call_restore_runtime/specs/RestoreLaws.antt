-- `restore_runtime`: since ids are distinct, setting aside by id is a store at the place.
use Rattle.std.specs.Prelude.{true, ◌≡◌, ℕ, ◌+◌, ◌≤◌, ◌<◌, get_or, set}
use mathlib.Core.List.{List, map}
use Rattle.std.proofs.Math.Path.{refl, ap}
use Rattle.std.proofs.Common.{sym, ◌∙◌, drop_of_length-le}
use native.Mathlib.Omega.{arith}
use Rattle.std.proofs.Math.ListN.{length, drop}
use Rattle.std.proofs.Math.Seq.{drop-set-lt}
use Rattle.base_lists.specs.Laws.{rest_step}
use Rattle.book.specs.declared.BookData.{BookData}
use Rattle.book.specs.declared.SubmittedTx.{SubmittedTx}
use Rattle.book.specs.Zero.{zero_submitted}
use Rattle.book.specs.Model.{Book, view, back}
use Rattle.book.specs.Sound.{id_of, soundb}
use Rattle.rules.specs.Rule.{set_aside, run}
use Rattle.rules.specs.Steps.{on_book, run_book, with_slots, mark_book}
use Rattle.rules.specs.Steps.Slots.{slots_aside}
use Rattle.rules.specs.Calls.RestoreRuntime.{set_aside_each, restore_runtime}
use Rattle.part_replies.specs.Reply.{reply}
use Rattle.std.specs.Prelude.{Ok}
use Rattle.part_replies.specs.declared.Reply.{Reply}
use Rattle.part_ids.specs.Counted.{counted_get}
use Rattle.part_lookup.specs.Normal.{Normal, submitted_are}
use Rattle.part_change.specs.Changes.{stored_at}
use Rattle.part_change.specs.Parts.{put_cells}
use Rattle.part_change.specs.ChangeLaws.{store_is, mark_at}
use Rattle.part_sound_laws.specs.Holds.{Holds, holds_sound, holds_view, holds_normal, holds_lists, holds_soundb, holds_quiet}
use Rattle.part_sound_laws.specs.Acts.{act_silent}

-- the first i submissions of b have their attempts set aside, and out is the book so far
pub record Restoring (b out : BookData) (i : ℕ) : Type 0 where
  pub sound : soundb out ≡ true
  pub rest : run_book restore_runtime (view b) ≡ run_book (set_aside_each (map id_of (drop i (view out).submitted))) (view out)

pub restore_start : (b : BookData) → soundb b ≡ true → Restoring b b 0
unfolding restore_runtime run
restore_start b s = record { sound = s; rest = refl }

module _ {b out : BookData} {i : ℕ} (v : Restoring b out i) where
  normal : Normal out
  normal = holds_normal (holds_sound out v.sound)

  abbrev before : List SubmittedTx
  before = (view out).submitted

  module _ (d : SubmittedTx) {next : SubmittedTx} (l : i < out.submitted_count) (e : next ≡ with_slots slots_aside (get_or out.submitted i d)) where
    within : i < length before
    within = let c = (submitted_are out normal).count in omega arith

    taken : get_or out.submitted i d ≡ get_or before i zero_submitted
    taken = counted_get (submitted_are out normal) i d zero_submitted within

    abbrev after : Book
    after = mark_book slots_aside (id_of (get_or before i zero_submitted)) (view out)

    marked : after ≡ stored_at i next (view out)
    marked =
        mark_at (view out) (holds_lists (holds_sound out v.sound)).ids (id_of (get_or before i zero_submitted)) i within refl slots_aside
        ∙ ap (λ (x : SubmittedTx). stored_at i (with_slots slots_aside x) (view out)) (sym taken)
        ∙ ap (λ (x : SubmittedTx). stored_at i x (view out)) (sym e)

    stored : Holds (put_cells out.submitted_count (set out.submitted i next) out) after
    unfolding on_book
    stored = holds_quiet (holds_sound out v.sound) (set_aside (id_of (get_or before i zero_submitted))) refl (store_is out normal i next within ∙ ap back (sym marked))

    pub restore_turn : Restoring b (put_cells out.submitted_count (set out.submitted i next) out) (i + 1)
    unfolding set_aside_each on_book
    restore_turn = record {
      sound = holds_soundb stored;
      rest =
          v.rest
          ∙ ap (λ (ts : List SubmittedTx). run_book (set_aside_each (map id_of ts)) (view out)) (rest_step before i zero_submitted within)
          ∙ act_silent (set_aside (id_of (get_or before i zero_submitted))) (set_aside_each (map id_of (drop (i + 1) before))) (view out) refl refl
          ∙ ap (λ (ts : List SubmittedTx). run_book (set_aside_each (map id_of ts)) after) (sym left)
          ∙ ap (λ (m : Book). run_book (set_aside_each (map id_of (drop (i + 1) m.submitted))) m) (sym (holds_view stored));
    }
      where
        left : drop (i + 1) after.submitted ≡ drop (i + 1) before
        left = ap (λ (m : Book). drop (i + 1) m.submitted) marked ∙ drop-set-lt (i + 1) before i next (omega arith)

  pub restore_end : out.submitted_count ≤ i → record { answer = Ok tt; book = out } ≡ reply b (run_book restore_runtime (view b))
  unfolding set_aside_each run
  restore_end l =
      ap {B = Reply (Unit {0}) BookData} (λ (x : BookData). record { answer = Ok tt; book = x }) (holds_sound out v.sound).cells
      ∙ ap (reply b) (sym (v.rest ∙ ap (λ (ts : List SubmittedTx). run_book (set_aside_each (map id_of ts)) (view out)) (drop_of_length-le before {i = i} past)))
    where
      past : length before ≤ i
      past = let c = (submitted_are out normal).count in omega arith
