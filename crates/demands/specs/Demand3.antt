-- Demand 3 on one page: what holds after any calls of `SubmissionBook` on a book just opened with any two numbers. Paper 01, "The ledger of
-- demand 3". The book is the program's; the ledger is computed from the two numbers and the calls alone. Words used, and where they are defined:
--   Call                   a call with its arguments (rules/Call)
--   after, opened_book      the book that `open` gives, and the one that the methods leave, each called on the one before (submission/Calls)
--   outcome, drain_reply_to what a call comes to, and the reply of `drain` (submission/Book, submission/Answers)
--   begun, ledger_after     the ledger at first, and after calls (rules_ledger/Ledger, rules_ledger/Theorem); its steps are in rules_ledger/Steps
--   down_to, count          numbers one after the other (rules_ledger/Account/Tokens), how many rows have a fate (rules_ledger/Account/Counts)
--   fates_of, fates_by       the fates of a submission's tokens in the rows, and by what was emitted, removed and halted (rules_ledger/Events)
--   Fits, Exact            rows against the submissions retained (rules_ledger/Tidy), rows against slots (rules_ledger/Account/Exact)
--   history                the tokens issued and to whom, the last first; `grown` adds some, `Chained` is about their predecessors (rules_ledger/Tidy)
--   handed_out              the submissions in a drain's answer (Predecessors)
use Rattle.std.specs.Prelude.{ℕ, ◌+◌, ◌-◌, ◌≤◌, true, false, ◌⊎◌, ◌≡◌, length}
use mathlib.Core.List.{List, [], ◌∷◌, ◌++◌, map, Memᴰ}
use Rattle.book.specs.declared.SubmittedTx.{SubmittedTx}
use Rattle.book.specs.Model.{Book, view}
use Rattle.book.specs.Sound.{id_of}
use Rattle.archive_form.specs.Encode.{encode_model}
use Rattle.rules.specs.Call.{Call, Drain}
use Rattle.rules.specs.Calls.Drain.{drain}
use Rattle.rules.specs.Keyed.{pick}
use Rattle.book_answers.specs.declared.DrainedSubmission.{DrainedSubmission}
use Rattle.rules.specs.Rule.{issued_by}
use Rattle.part_drain_answers.specs.declared.Drained.{Drained}
use Rattle.part_replies.specs.declared.Reply.{Reply}
use Rattle.std.specs.Result.{is_ok}
use Rattle.rules_ledger.specs.Account.Counts.{count}
use Rattle.rules_ledger.specs.Account.Exact.{Exact}
use Rattle.rules_ledger.specs.Account.Tokens.{down_to}
use Rattle.rules_ledger.specs.Events.{Event, events_of, fates_of, fates_by}
use Rattle.rules_ledger.specs.Ledger.{live, aside, displaced, struck, Row, Ledger, row_id, row_token, begun}
use Rattle.rules_ledger.specs.Theorem.{ledger_after, events_after}
use Rattle.rules_ledger.specs.Tidy.{Fits, Open, Issue, history, grown, Chained}
use Rattle.submission.specs.declared.SubmissionBook.{SubmissionBook}
use Rattle.submission.specs.Answers.{drain_reply_to}
use Rattle.submission.specs.Book.{outcome}
use Rattle.submission.specs.Calls.{after, opened_book}
use Rattle.demands.specs.Predecessors.{handed_out}

module _ (token id : ℕ) where
  abbrev pub program_book : List Call → SubmissionBook
  program_book calls = after calls (opened_book token id)

  abbrev pub ledger : List Call → Ledger
  ledger calls = ledger_after encode_model calls (begun token id)

  -- behind the calls of a list: the tokens issued, and to whom; what one more call issues; what one more drain answers
  abbrev pub tokens_at : List Call → List Issue
  tokens_at before = history (ledger before)

  abbrev pub issued_at : List Call → Call → List DrainedSubmission
  issued_at before c = issued_by (outcome (program_book before) c)

  abbrev pub drain_at : List Call → Reply Drained SubmissionBook
  drain_at before = drain_reply_to (program_book before) drain

  module _ (calls : List Call) where
    -- the book's lists; the ledger's next token, and its rows, the last issued first; what was emitted, removed and halted
    abbrev book : Book
    book = view (program_book calls).parts

    abbrev next : ℕ
    next = (ledger calls).next_token

    abbrev rows : List Row
    rows = (ledger calls).rows

    abbrev events : List Event
    events = events_after encode_model calls token id

    pub record Demand3 : Type 0 where
      -- Issued tokens. They are the numbers from the opening token up to the book's next token, a row each
      pub next_token : book.next_token.0 ≡ next
      pub opening : token ≤ next
      pub tokens : map row_token rows ≡ down_to token (next - token)
      -- what a call issues, and nothing else, becomes rows; of a drain refused 11 too
      pub issued : (before : List Call) (c : Call) (rest : List Call) → calls ≡ before ++ c ∷ rest → tokens_at (before ++ c ∷ []) ≡ grown (issued_at before c) (tokens_at before)
      -- the answer of an accepted drain hands out what it issued
      pub handed : (before rest : List Call) → calls ≡ before ++ Drain ∷ rest → is_ok (drain_at before).answer ≡ true
          → tokens_at (before ++ Drain ∷ []) ≡ grown (handed_out (drain_at before)) (tokens_at before)
      -- Fates. Of one submission's tokens all but the last are displaced; the last is struck out exactly where the submission was removed since,
      -- else set aside or live
      pub fates : (i : ℕ) → fates_of i rows ≡ fates_by (events_of i events)
      -- and it was removed since exactly where the book does not retain it any more
      pub retained : (i : ℕ) → Fits (pick id_of i book.submitted) (pick row_id i rows)
      -- Sum. The four fates are all that was issued
      pub sum : count displaced rows + count struck rows + count aside rows + count live rows ≡ next - token
      -- Slots. Each live slot of the book is a live row under its submission, and each live row stands in that slot; so the set-aside ones
      pub live_slots : Exact live book rows
      pub aside_slots : Exact aside book rows
      -- at most one a submission: an id is retained once, one of its two slots is taken, one of its rows is live or set aside
      pub one_entry : (i : ℕ) → length (pick id_of i book.submitted) ≤ 1
      pub one_slot : (t : SubmittedTx) → Memᴰ t book.submitted → (t.slots.active_attempt.present ≡ false) ⊎ (t.slots.completed_attempt.present ≡ false)
      pub one_row : (r s : Row) → Memᴰ r rows → Memᴰ s rows → Open r → Open s → r.id ≡ s.id → r ≡ s
      -- Predecessors. In the answer of every drain in the list each submission names the last token issued to it before, or none
      pub predecessors : (before rest : List Call) → calls ≡ before ++ Drain ∷ rest → Chained (tokens_at before) (handed_out (drain_at before))
      -- so do the tokens that a drain refused 11 has issued
      pub behind11 : (before rest : List Call) → calls ≡ before ++ Drain ∷ rest → Chained (tokens_at before) (issued_at before Drain)
