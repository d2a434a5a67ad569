-- Demand 3: one claim about every list of calls on a book just opened. The ledger is computed from the two opening numbers and the calls
-- alone; `rules` says what a call emits, removes, acknowledges, stops or halts. It holds for every archive form.
use Rattle.std.specs.Prelude.{ℕ, ◌+◌, ◌-◌, ◌≤◌, false, ◌⊎◌, ◌≡◌, length}
use mathlib.Core.List.{List, [], ◌∷◌, ◌++◌, map, Memᴰ}
use Rattle.book.specs.declared.SubmittedTx.{SubmittedTx}
use Rattle.book.specs.Model.{Book}
use Rattle.book.specs.Sound.{id_of}
use Rattle.rules.specs.Books.{answer_book, issued_book, book_after, answers_book}
use Rattle.rules.specs.Call.{Call, Value}
use Rattle.rules.specs.Calls.{rules}
use Rattle.rules.specs.Keyed.{pick}
use Rattle.rules.specs.Opened.{opened}
use Rattle.book_answers.specs.declared.DrainedSubmission.{DrainedSubmission}
use Rattle.rules.specs.Rule.{Answer, answer, answered, left}
use Rattle.rules_ledger.specs.Account.Counts.{count}
use Rattle.rules_ledger.specs.Account.Exact.{Exact}
use Rattle.rules_ledger.specs.Account.Tokens.{down_to}
use Rattle.rules_ledger.specs.Events.{Event, Told, run_told, events_of, fates_of, fates_by}
use Rattle.rules_ledger.specs.Ledger.{live, aside, displaced, struck, Row, Ledger, row_id, row_token, begun}
use Rattle.rules_ledger.specs.Run.{run_ledger}
use Rattle.rules_ledger.specs.Tidy.{Open, Fits, Issue, history, grown, Chained}
use Rattle.rules_ledger.specs.View.{book_of}

module _ (encode : Book → List ℕ) where
  -- one call: the ledger left, and the answer
  unfoldable pub call_ledger : Call → Ledger → Ledger
  call_ledger c l = left l (run_ledger (rules encode c) l)

  unfoldable pub answer_ledger : Call → Ledger → Answer Value
  answer_ledger c l = answered (run_ledger (rules encode c) l)

  -- a list of calls
  unfoldable pub ledger_after : List Call → Ledger → Ledger
  ledger_after [] l = l
  ledger_after (c ∷ cs) l = ledger_after cs (call_ledger c l)

  unfoldable pub answers_ledger : List Call → Ledger → List (Answer Value)
  answers_ledger [] l = []
  answers_ledger (c ∷ cs) l = answer_ledger c l ∷ answers_ledger cs (call_ledger c l)

  -- the ledger with its events beside it, and the events of a list of calls on a book opened with next token o and next id n
  unfoldable pub call_told : Call → Told → Told
  call_told c s = left s (run_told (rules encode c) s)

  unfoldable pub told_after : List Call → Told → Told
  told_after [] s = s
  told_after (c ∷ cs) s = told_after cs (call_told c s)

  unfoldable pub events_after : List Call → ℕ → ℕ → List Event
  events_after cs o n = (told_after cs (record { ledger = begun o n; events = [] })).events

  module _ (o n : ℕ) where
    -- behind the calls of a list on a book opened with next token o and next id n: the ledger, the tokens issued, what one more call issues
    abbrev pub ledger_at : List Call → Ledger
    ledger_at before = ledger_after before (begun o n)

    abbrev pub tokens_at : List Call → List Issue
    tokens_at before = history (ledger_at before)

    abbrev pub issued_at : List Call → Call → List DrainedSubmission
    issued_at before c = issued_book encode c (book_after encode before (opened o n))

    module _ (cs : List Call) where
      abbrev book : Book
      book = book_after encode cs (opened o n)

      abbrev next : ℕ
      next = (ledger_at cs).next_token

      abbrev rows : List Row
      rows = (ledger_at cs).rows

      -- what holds of the book and the ledger after the calls cs
      pub record Accounted : Type 0 where
        -- every call is answered as the ledger foretells, and the book left is the one foretold
        pub answers : answers_book encode cs (opened o n) ≡ answers_ledger cs (begun o n)
        pub foretold : book ≡ book_of (ledger_at cs)
        -- the issued tokens are those from the opening one to the next one, a row each, the last first
        pub next_token : book.next_token.0 ≡ next
        pub opening : o ≤ next
        pub tokens : map row_token rows ≡ down_to o (next - o)
        -- of the tokens of one submission all but the last are displaced; the last is struck out exactly where the submission was removed since,
        -- else live or set aside: by the calls alone, and by the book, which does not retain a removed submission
        pub fates : (i : ℕ) → fates_of i rows ≡ fates_by (events_of i (events_after cs o n))
        pub retained : (i : ℕ) → Fits (pick id_of i book.submitted) (pick row_id i rows)
        -- the four fates are all that was issued
        pub sum : count displaced rows + count struck rows + count aside rows + count live rows ≡ next - o
        -- the live slots are the live rows and the set-aside slots the set-aside rows, under their own submissions
        pub live_slots : Exact live book rows
        pub aside_slots : Exact aside book rows
        -- at most one a submission
        pub one_entry : (i : ℕ) → length (pick id_of i book.submitted) ≤ 1
        pub one_slot : (t : SubmittedTx) → Memᴰ t book.submitted → (t.slots.active_attempt.present ≡ false) ⊎ (t.slots.completed_attempt.present ≡ false)
        pub one_row : (r s : Row) → Memᴰ r rows → Memᴰ s rows → Open r → Open s → r.id ≡ s.id → r ≡ s
        -- at every call of the list, what it issued is what the rows grow by, and names as predecessor the token of the id's last row before
        pub issued : (before : List Call) (c : Call) (rest : List Call) → cs ≡ before ++ c ∷ rest → tokens_at (before ++ c ∷ []) ≡ grown (issued_at before c) (tokens_at before)
        pub chained : (before : List Call) (c : Call) (rest : List Call) → cs ≡ before ++ c ∷ rest → Chained (tokens_at before) (issued_at before c)
        -- "In the answer of every drain in the list each submission names as predecessor the last token issued to it before"
        pub predecessors : (before : List Call) (c : Call) (rest : List Call) → cs ≡ before ++ c ∷ rest → (xs : List DrainedSubmission) (v : Value)
            → answer_book encode c (book_after encode before (opened o n)) ≡ answer xs v → Chained (tokens_at before) xs
