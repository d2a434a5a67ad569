-- What `attempt` answers, by the place of the token.
use Rattle.std.specs.Prelude.{ℕ}
use mathlib.Core.List.{[]}
use Rattle.std.specs.Prelude.{Option, None, Some}
use Rattle.std.proofs.Math.Path.{◌≡◌, refl, ap}
use Rattle.std.proofs.Common.{sym, ◌∙◌, arith}
use Rattle.book.specs.Model.{Book, view}
use Rattle.book.specs.declared.BookData.{BookData}
use Rattle.book.specs.declared.DeliveryAttempt.{DeliveryAttempt}
use Rattle.book.specs.declared.OptionalAttempt.{OptionalAttempt}
use Rattle.rules.specs.Calls.Attempt.{attempt, attempt_by}
use Rattle.rules.specs.Rule.{Outcome, ended, run}
use Rattle.rules.specs.Steps.{run_book}
use Rattle.part_replies.specs.Reply.{attempt_in, attempt_reply}
use Rattle.part_replies.specs.declared.Reply.{Reply}
use Rattle.std.specs.Prelude.{Ok}
use Rattle.part_lookup.specs.Normal.{Normal}
use Rattle.part_lookup.specs.declared.AttemptPlace.{AttemptPlace}
use Rattle.part_lookup.specs.declared.AttemptPlace.TheVariants.{Live, SetAside, Gone, NeverIssued}
use Rattle.part_lookup.specs.Lookup.{attempt_place}
use Rattle.part_lookup.specs.LookupLaws.{found_at}
use Rattle.part_attempt_answers.specs.Live.{live_place, find_by, at}

module _ (t : ℕ) (m : Book) {p : AttemptPlace} (here : p ≡ attempt_place t m) {q : Option ℕ} (told : q ≡ live_place p) where
  pub attempt_live : {k : ℕ} → q ≡ Some k → ended m [] (Some (at m k).slots.active_attempt.attempt) ≡ run_book (attempt t) m
  unfolding attempt run
  attempt_live {k} e = ap {B = Outcome Book (Option DeliveryAttempt)} (λ (x : Option DeliveryAttempt). ended m [] x) (go p (sym told ∙ e) ∙ ap attempt_by (sym (find_by t m here)))
    where
      go : (x : AttemptPlace) → live_place x ≡ Some k → Some (at m k).slots.active_attempt.attempt ≡ attempt_by (found_at m x)
      go (Live j) z = let y : k ≡ j = cc in ap (λ (i : ℕ). Some (at m i).slots.active_attempt.attempt) y
      go (SetAside j) z = let y : ◌≡◌ {A = ℕ} 0 1 = cc in absurd (omega arith)
      go Gone z = let y : ◌≡◌ {A = ℕ} 0 1 = cc in absurd (omega arith)
      go NeverIssued z = let y : ◌≡◌ {A = ℕ} 0 1 = cc in absurd (omega arith)

  pub attempt_none : q ≡ None → ended m [] None ≡ run_book (attempt t) m
  unfolding attempt run
  attempt_none e = ap {B = Outcome Book (Option DeliveryAttempt)} (λ (x : Option DeliveryAttempt). ended m [] x) (go p (sym told ∙ e) ∙ ap attempt_by (sym (find_by t m here)))
    where
      go : (x : AttemptPlace) → live_place x ≡ None → None ≡ attempt_by (found_at m x)
      go (Live j) z = let y : ◌≡◌ {A = ℕ} 0 1 = cc in absurd (omega arith)
      go (SetAside j) z = refl
      go Gone z = refl
      go NeverIssued z = refl

-- an attempt, or none, of a book that stays
pub attempt_ended : (b : BookData) → Normal b → {a : OptionalAttempt} (v : Option DeliveryAttempt) {o : Outcome Book (Option DeliveryAttempt)} → a ≡ attempt_in v
    → ended (view b) [] v ≡ o → record { answer = Ok a; book = b } ≡ attempt_reply b o
attempt_ended b n v e q =
    ap {B = Reply OptionalAttempt BookData} (λ (x : OptionalAttempt). record { answer = Ok x; book = b }) e
    ∙ ap {B = Reply OptionalAttempt BookData} (λ (x : BookData). record { answer = Ok (attempt_in v); book = x }) n.held
    ∙ ap (attempt_reply b) q
