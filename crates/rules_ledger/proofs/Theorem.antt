-- Theorems on specs/Theorem.antt.
use Rattle.std.specs.Prelude.{ℕ, ◌≡◌}
use mathlib.Core.List.{List, [], ◌∷◌, ◌++◌}
use Rattle.std.proofs.Math.Path.{refl, subst}
use Rattle.std.proofs.Common.{ap, arith}
use Rattle.book.specs.Model.{Book}
use Rattle.rules.specs.Books.{call_book, answer_book, issued_book, book_after, answers_book}
use Rattle.rules.specs.Call.{Call, Value}
use Rattle.rules.specs.Calls.{rules}
use Rattle.rules.specs.Keyed.{pick}
use Rattle.rules.specs.Opened.{opened}
use Rattle.book_answers.specs.declared.DrainedSubmission.{DrainedSubmission}
use Rattle.rules.specs.Rule.{Outcome, ended, undone, stopped, Answer, answer, answered, issued_by}
use Rattle.rules.specs.Steps.{run_book}
use Rattle.rules_ledger.specs.Account.Counts.{counts}
use Rattle.rules_ledger.specs.Account.Exact.{exact, one_open, one_slot_lem, single, book_fits}
use Rattle.rules_ledger.specs.Account.Fates.{Settled}
use Rattle.rules_ledger.specs.Account.Tokens.{next_token_lem, tokens_run}
use Rattle.rules_ledger.specs.Events.{Told}
use Rattle.rules_ledger.specs.Ledger.{live, aside, Ledger, begun}
use Rattle.rules_ledger.specs.Run.{run_ledger, Continued, good_left, left_carry, answered_carry, issued_carry}
use Rattle.rules_ledger.proofs.Run.{agrees, good}
use Rattle.rules_ledger.specs.Tidy.{history, Tidy, Chained}
use Rattle.rules_ledger.specs.Told.{Kept, left_ledger}
use Rattle.rules_ledger.proofs.Told.{left_kept}
use Rattle.rules_ledger.specs.View.{book_of}
use Rattle.rules_ledger.specs.Theorem.{call_ledger, answer_ledger, ledger_after, answers_ledger, call_told, told_after, events_after, ledger_at, tokens_at, issued_at, Accounted}

module _ (encode : Book → List ℕ) where
  -- ---- the proof
  record Stepped (o : ℕ) (c : Call) (l : Ledger) : Type 0 where
    book : call_book encode c (book_of l) ≡ book_of (call_ledger encode c l)
    says : answer_book encode c (book_of l) ≡ answer_ledger encode c l
    goes : Continued o (history l) (call_ledger encode c l) (issued_book encode c (book_of l))

  stepped : {o : ℕ} (c : Call) (l : Ledger) → Tidy o l → Stepped o c l
  unfolding call_book call_ledger answer_book answer_ledger issued_book
  stepped c l t = record {
    book = rw (agrees (rules encode c) l t) (left_carry book_of l (run_ledger (rules encode c) l));
    says = rw (agrees (rules encode c) l t) (answered_carry book_of (run_ledger (rules encode c) l));
    goes = rw (agrees (rules encode c) l t, issued_carry book_of (run_ledger (rules encode c) l))
        (good_left l (run_ledger (rules encode c) l) t (good (rules encode c) l t));
  }

  record After (o : ℕ) (cs : List Call) (l : Ledger) : Type 0 where
    book : book_after encode cs (book_of l) ≡ book_of (ledger_after encode cs l)
    says : answers_book encode cs (book_of l) ≡ answers_ledger encode cs l
    tidy : Tidy o (ledger_after encode cs l)

  after : {o : ℕ} (cs : List Call) (l : Ledger) → Tidy o l → After o cs l
  unfolding book_after ledger_after answers_book answers_ledger
  after [] l t = record { book = refl; says = refl; tidy = t }
  after (c ∷ cs) l t =
      let s = stepped c l t in
      let k = after cs (call_ledger encode c l) s.goes.tidy in
      record {
        book = rw s.book k.book;
        says = rw (s.says, s.book) (ap (λ (x : List (Answer Value)). answer_ledger encode c l ∷ x) k.says);
        tidy = k.tidy;
      }

  told_after_lem : {o : ℕ} (cs : List Call) (s : Told) → Kept o s → Kept o (told_after encode cs s)
  unfolding told_after call_told
  told_after_lem [] s k = k
  told_after_lem (c ∷ cs) s k = told_after_lem cs (call_told encode c s) (left_kept (rules encode c) s k)

  told_ledger : (cs : List Call) (s : Told) → (told_after encode cs s).ledger ≡ ledger_after encode cs s.ledger
  unfolding told_after ledger_after call_told call_ledger
  told_ledger [] s = refl
  told_ledger (c ∷ cs) s = rw (← left_ledger (rules encode c) s) (told_ledger cs (call_told encode c s))

  ledger_append : (before after : List Call) (l : Ledger) → ledger_after encode (before ++ after) l ≡ ledger_after encode after (ledger_after encode before l)
  unfolding ledger_after
  ledger_append [] after l = refl
  ledger_append (c ∷ before) after l = ledger_append before after (call_ledger encode c l)

  ledger_one : (c : Call) (l : Ledger) → ledger_after encode (c ∷ []) l ≡ call_ledger encode c l
  unfolding ledger_after
  ledger_one c l = refl

  tidy_begun : (o n : ℕ) → Tidy o (begun o n)
  unfolding begun pick
  tidy_begun o n = record { tokens = refl; places = λ i. record { fits = tt; fresh = λ k. (refl, refl) } }

  book_begun : (o n : ℕ) → book_of (begun o n) ≡ opened o n
  unfolding begun opened book_of
  book_begun o n = refl

  settled_begun : (o n : ℕ) (cs : List Call) → Settled (ledger_after encode cs (begun o n)).rows (events_after encode cs o n)
  unfolding events_after begun pick
  settled_begun o n cs =
      let s : Told = record { ledger = begun o n; events = [] } in
      rw (← told_ledger cs s) (told_after_lem cs s (record { tidy = tidy_begun o n; settled = λ i. refl })).settled

  continued : (o n : ℕ) (before : List Call) (c : Call) → Continued o (tokens_at encode o n before) (ledger_at encode o n (before ++ c ∷ [])) (issued_at encode o n before c)
  continued o n before c =
      let a = after before (begun o n) (tidy_begun o n) in
      let s = stepped c (ledger_at encode o n before) a.tidy in
      rw (← book_begun o n, a.book, ledger_append before (c ∷ []) (begun o n), ledger_one c (ledger_at encode o n before)) s.goes

  issued_answer : (k : Outcome Book Value) (xs : List DrainedSubmission) (v : Value) → answered k ≡ answer xs v → issued_by k ≡ xs
  issued_answer (ended b ys w) xs v e = cc
  issued_answer (undone m) xs v e = absurd (let z : ◌≡◌ {A = ℕ} 0 1 = cc in omega arith)
  issued_answer (stopped b ys m) xs v e = absurd (let z : ◌≡◌ {A = ℕ} 0 1 = cc in omega arith)

  issued_is : (c : Call) (b : Book) (xs : List DrainedSubmission) (v : Value) → answer_book encode c b ≡ answer xs v → issued_book encode c b ≡ xs
  unfolding answer_book issued_book
  issued_is c b xs v e = issued_answer (run_book (rules encode c) b) xs v e

  -- for every list of calls on a book just opened
  pub ledger_theorem : (o n : ℕ) (cs : List Call) → Accounted encode o n cs
  ledger_theorem o n cs = record {
    answers = rw (← book_begun o n) a.says;
    foretold = e;
    next_token = rw e (unfold book_of in refl);
    opening = omega (arith, next_token_lem l t);
    tokens = tokens_run l t;
    fates = settled_begun o n cs;
    retained = rw e (book_fits l t);
    sum = omega (arith, next_token_lem l t, counts l.rows);
    live_slots = rw e (exact l t live refl);
    aside_slots = rw e (exact l t aside refl);
    one_entry = rw e (single l t);
    one_slot = rw e (one_slot_lem l t);
    one_row = one_open l t;
    issued = λ before c rest p. (continued o n before c).grows;
    chained = λ before c rest p. (continued o n before c).chained;
    predecessors = λ before c rest p xs v q.
        subst (λ (ys : List DrainedSubmission). Chained (tokens_at encode o n before) ys) (issued_is c (book_after encode before (opened o n)) xs v q) (continued o n before c).chained;
  }
    where
      a : After o cs (begun o n)
      a = after cs (begun o n) (tidy_begun o n)

      l : Ledger
      l = ledger_after encode cs (begun o n)

      t : Tidy o l
      t = a.tidy

      e : book_after encode cs (opened o n) ≡ book_of l
      e = rw (← book_begun o n) a.book
