-- What `retain_submitted` answers, from what its parts answered: the reply of its rules.
use Rattle.std.specs.Prelude.{Bool, cond, List, ◌≡◌, ℕ, ◌≤◌, ◌<◌, length, Result}
use Rattle.std.proofs.Common.{sym, ◌∙◌, le-leb}
use Rattle.std.proofs.Math.Path.{ap}
use Rattle.std.proofs.lemmas.Bool.{lt-leb}
use Rattle.book.specs.declared.BookData.{BookData}
use Rattle.book.specs.declared.Ids.{Ids}
use Rattle.book.specs.declared.refusal.Refusal.{Refusal}
use Rattle.book.specs.declared.sound.SoundBook.{SoundBook}
use Rattle.book.specs.Model.{view, id_cells}
use Rattle.rules.specs.Rule.{Rule, done, undo, look, ◌>>◌, undone, run}
use Rattle.rules.specs.Steps.{run_book}
use Rattle.rules.specs.Doors.{ids_ok}
use Rattle.rules.specs.Calls.Common.{withdraw_each}
use Rattle.rules.specs.Calls.RetainSubmitted.{to_remove, retain_submitted}
use Rattle.part_replies.specs.Reply.{reply, ids_reply, outcome_by}
use Rattle.part_replies.specs.Settled.{settled_by}
use Rattle.part_sound_laws.specs.Outcomes.{then_answer}
use Rattle.book.specs.declared.refusal.Refusal.TheVariants as refusals

module _ (b : BookData) (is : List ℕ) where
  abbrev with_ids : Bool → Rule (List ℕ)
  with_ids t = cond t (look (λ m. withdraw_each (to_remove is m) >> done (to_remove is m))) (undo refusals.BadList)

  pub retain_many : 64 < length is → ids_reply b (undone refusals.BadList) ≡ ids_reply b (run_book (retain_submitted is) (view b))
  unfolding retain_submitted ids_ok run
  retain_many h = ap (ids_reply b) (sym (ap (λ (t : Bool). run_book (with_ids t) (view b)) (lt-leb (length is) 64 h)))

  module _ (few : length is ≤ 64) {gone : List ℕ} (g : gone ≡ to_remove is (view b)) where
    few_run : run_book (retain_submitted is) (view b) ≡ run_book (withdraw_each (to_remove is (view b)) >> done (to_remove is (view b))) (view b)
    unfolding retain_submitted ids_ok run
    few_run = ap (λ (t : Bool). run_book (with_ids t) (view b)) (le-leb (length is) 64 few)

    pub retain_is : (w : Result SoundBook Refusal) → run_book (withdraw_each gone) (view b) ≡ outcome_by tt w → {x : Ids 64} → x ≡ id_cells 64 (to_remove is (view b))
        → reply b (outcome_by x w) ≡ ids_reply b (run_book (retain_submitted is) (view b))
    retain_is w h e =
        let out = to_remove is (view b) in
        ap (λ (y : Ids 64). reply b (outcome_by y w)) e
        ∙ settled_by (id_cells 64) b out w
        ∙ ap (ids_reply b) (sym (few_run ∙ then_answer tt out w (withdraw_each out) (view b) (ap (λ (gs : List ℕ). run_book (withdraw_each gs) (view b)) (sym g) ∙ h)))
