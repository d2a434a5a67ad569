-- Withdrawing ids one by one: each turn is the rules' `withdraw`, on a sound book.
use Rattle.std.specs.Prelude.{true, ◌≡◌, ℕ, Result, Ok, Err}
use Rattle.std.proofs.Common.{sym, ◌∙◌}
use mathlib.Core.List.{List, []}
use Rattle.std.proofs.Math.Path.{refl, ap}
use Rattle.book.specs.declared.BookData.{BookData}
use Rattle.book.specs.declared.refusal.Refusal.{Refusal}
use Rattle.book.specs.Model.{Book, view, back}
use Rattle.book.specs.Sound.{soundb}
use Rattle.book.specs.SoundLaws.{view_back}
use Rattle.rules.specs.Rule.{done, note, retire, remove, act, turn, ended, undone, run}
use Rattle.rules.specs.Steps.{on_book, run_book, note_book, remove_book}
use Rattle.rules.specs.Calls.Common.{withdraw, withdraw_each}
use Rattle.part_lookup.specs.Normal.{Normal}
use Rattle.part_change.specs.Changes.{retiring}
use Rattle.part_sound_laws.specs.Holds.{Holds, holds_sound, holds_view, holds_normal, holds_soundb, holds_step, holds_quiet}
use Rattle.part_sound_laws.specs.Acts.{act_silent}
use Rattle.part_sound_laws.specs.Outcomes.{Each, bind_turn}
use Rattle.part_sound_laws.specs.RetireLaws.{retire_limit, retire_book, run_full, run_retired}

-- ---- one id
module _ (b : BookData) (s : soundb b ≡ true) (i : ℕ) {k : BookData} (e : k ≡ back (remove_book i (view b))) where
  abbrev kept : Book
  kept = remove_book i (view b)

  kept_holds : Holds k kept
  unfolding on_book
  kept_holds = holds_quiet (holds_sound b s) (remove i) refl e

  pub kept_normal : Normal k
  kept_normal = holds_normal kept_holds

  retired_kept : {r : Result BookData Refusal} → r ≡ retiring i (view k) → r ≡ retiring i kept
  retired_kept h = h ∙ ap (retiring i) (holds_view kept_holds)

  first : run_book (withdraw i) (view b) ≡ run_book (act (note (retire i)) (done tt)) kept
  unfolding withdraw on_book
  first = act_silent (remove i) (act (note (retire i)) (done tt)) (view b) refl refl

  pub withdraw_full : {n : Refusal} → Err n ≡ retiring i (view k) → run_book (withdraw i) (view b) ≡ undone n
  withdraw_full h = first ∙ run_full i kept kept_holds.sound.fits (retired_kept h) (done tt)

  module _ {q : BookData} (h : Ok q ≡ retiring i (view k)) where
    next_holds : Holds q (note_book (retire i) kept)
    unfolding on_book
    next_holds =
        holds_step kept_holds (note (retire i)) (retire_limit i kept kept_holds.sound.fits (retired_kept h))
        (retire_book i kept kept_holds.sound.fits (retired_kept h) ∙ ap (λ (m : Book). back (note_book (retire i) m)) (sym (holds_view kept_holds)))

    pub next_sound : soundb q ≡ true
    next_sound = holds_soundb next_holds

    pub withdraw_on : run_book (withdraw i) (view b) ≡ ended (view q) [] tt
    unfolding run
    withdraw_on =
        first ∙ run_retired i kept kept_holds.sound.fits (retired_kept h) (done tt)
        ∙ ap (λ (m : Book). ended m [] tt) (sym (holds_view next_holds))

-- ---- all ids of a list
pub withdraws : Each withdraw_each withdraw tt
unfolding withdraw_each
withdraws = record {
  none = refl;
  more = λ i is m. bind_turn (withdraw i) (withdraw_each is) m;
}
