-- The book of the program, and what a call makes of it: the rules behind the door.
use Rattle.std.specs.Prelude.{ℕ, List}
use Rattle.book.specs.declared.BookData.{BookData}
use Rattle.book.specs.Model.{Book}
use Rattle.archive_form.specs.Encode.{encode_model}
use Rattle.rules.specs.Call.{Call, Value}
use Rattle.rules.specs.Calls.{rules}
use Rattle.rules.specs.Rule.{Rule, Outcome}
use Rattle.part_replies.specs.Reply.{outcome_of, book_left, buffer_left}
use Rattle.submission.specs.declared.SubmissionBook.{SubmissionBook}

abbrev pub book_of : BookData → SubmissionBook
book_of b = record { parts = b }

unfoldable pub outcome : SubmissionBook → Call → Outcome Book Value
unfolding rules
outcome s c = outcome_of s.parts (rules encode_model c)

-- the book that the call leaves
unfoldable pub next : SubmissionBook → Call → SubmissionBook
unfolding outcome
next s c = book_of (book_left s.parts (outcome s c))

-- the lent buffer behind the call: the bytes beyond what is written stay
abbrev pub buffer_after : SubmissionBook → Rule (List ℕ) → List ℕ → List ℕ
buffer_after s r d = buffer_left d (outcome_of s.parts r)
