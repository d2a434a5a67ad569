-- What each method replies: the rules of its call behind the door, beside the next book.
use Rattle.std.specs.Prelude.{ℕ, List, Option}
use Rattle.book.specs.declared.BookData.{BookData}
use Rattle.book.specs.declared.DeliveryAttempt.{DeliveryAttempt}
use Rattle.book.specs.declared.Ids.{Ids}
use Rattle.book.specs.declared.OptionalAttempt.{OptionalAttempt}
use Rattle.book_answers.specs.declared.SubmissionDrainFailure.{SubmissionDrainFailure}
use Rattle.rules.specs.Rule.{Rule}
use Rattle.part_drain_answers.specs.declared.Drained.{Drained}
use Rattle.part_drain_answers.specs.DrainReply.{drain_reply}
use Rattle.part_replies.specs.declared.Reply.{Reply}
use Rattle.part_replies.specs.Reply.{outcome_of, reply, ids_reply, attempt_reply, written_reply}
use Rattle.submission.specs.declared.SubmissionBook.{SubmissionBook}
use Rattle.submission.specs.Book.{book_of}

-- a call's reply, with its book as one of ours
abbrev pub with_book : {A : Type 0} → Reply A BookData → Reply A SubmissionBook
with_book r = record { answer = r.answer; book = book_of r.book }

abbrev pub reply_to : {A : Type 0} → SubmissionBook → Rule A → Reply A SubmissionBook
reply_to s r = with_book (reply s.parts (outcome_of s.parts r))

-- where the value stands otherwise in the code
abbrev pub ids_reply_to : SubmissionBook → Rule (List ℕ) → Reply (Ids 64) SubmissionBook
ids_reply_to s r = with_book (ids_reply s.parts (outcome_of s.parts r))

abbrev pub attempt_reply_to : SubmissionBook → Rule (Option DeliveryAttempt) → Reply OptionalAttempt SubmissionBook
attempt_reply_to s r = with_book (attempt_reply s.parts (outcome_of s.parts r))

abbrev pub written_reply_to : SubmissionBook → Rule (List ℕ) → Reply ℕ SubmissionBook
written_reply_to s r = with_book (written_reply s.parts (outcome_of s.parts r))

abbrev pub drain_reply_to : SubmissionBook → Rule (List SubmissionDrainFailure) → Reply Drained SubmissionBook
drain_reply_to s r = with_book (drain_reply s.parts (outcome_of s.parts r))
