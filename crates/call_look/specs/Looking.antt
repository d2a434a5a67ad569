-- What `look` answers, by the place of the id.
use Rattle.std.specs.Prelude.{ℕ, ◌<◌, ◌≡◌, length, get_or}
use mathlib.Core.List.{List, []}
use Rattle.std.specs.Prelude.{Option, None, Some}
use Rattle.std.proofs.Common.{sym, ◌∙◌}
use Rattle.std.proofs.Math.Path.{ap}
use Rattle.book.specs.Model.{Book, view}
use Rattle.book.specs.Zero.{zero_submitted}
use Rattle.book.specs.declared.BookData.{BookData}
use Rattle.book.specs.declared.SubmittedTx.{SubmittedTx}
use Rattle.book_answers.specs.declared.SubmissionLook.{SubmissionLook}
use Rattle.rules.specs.Calls.Look.{look_of, look_by, look_at}
use Rattle.rules.specs.Rule.{Outcome, ended, run}
use Rattle.rules.specs.Steps.{run_book}
use Rattle.part_replies.specs.Reply.{reply}
use Rattle.part_replies.specs.declared.Reply.{Reply}
use Rattle.std.specs.Prelude.{Ok}
use Rattle.part_lookup.specs.Normal.{Normal}
use Rattle.part_lookup.specs.Place.{place_of_id, has_id}
use Rattle.part_lookup.specs.PlaceLaws.{at_first, first_filter, none_passes}

module _ (i : ℕ) (m : Book) where
  pub look_none : place_of_id i m ≡ None → ended m [] None ≡ run_book (look_at i) m
  unfolding look_at run
  look_none e = ap {B = Outcome Book (Option SubmissionLook)} (λ (ts : List SubmittedTx). ended m [] (look_by ts)) (sym (none_passes (has_id i) m.submitted e))

  module _ {k : ℕ} (e : place_of_id i m ≡ Some k) where
    pub within : k < length m.submitted
    within = (at_first (has_id i) m.submitted e).within

    pub look_at_lem : ended m [] (Some (look_of (get_or m.submitted k zero_submitted))) ≡ run_book (look_at i) m
    unfolding look_at run
    look_at_lem =
        ap {B = Outcome Book (Option SubmissionLook)} (λ (ts : List SubmittedTx). ended m [] (look_by ts))
        (sym (first_filter (has_id i) m.submitted zero_submitted (at_first (has_id i) m.submitted e)))

-- a look, or none, at a book that stays
pub look_ended : (b : BookData) → Normal b → {l : Option SubmissionLook} (v : Option SubmissionLook) {o : Outcome Book (Option SubmissionLook)} → l ≡ v
    → ended (view b) [] v ≡ o → record { answer = Ok l; book = b } ≡ reply b o
look_ended b n v e q =
    ap {B = Reply (Option SubmissionLook) BookData} (λ (x : Option SubmissionLook). record { answer = Ok x; book = b }) e
    ∙ ap {B = Reply (Option SubmissionLook) BookData} (λ (x : BookData). record { answer = Ok v; book = x }) n.held
    ∙ ap (reply b) q
