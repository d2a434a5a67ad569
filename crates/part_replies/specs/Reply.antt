-- What a reply says: the value of each outcome of a call's rules or the refusal, and the book that is left.
use Rattle.std.specs.Prelude.{ℕ, Bool, true, false, cond, List, [], length}
use Rattle.std.specs.Prelude.{Option, None, Some}
use Rattle.std.specs.Prelude.{Result, Ok, Err}
use Rattle.codec_forms.specs.Wire.{overlay}
use Rattle.book.specs.Model.{Book, view, back, id_cells}
use Rattle.book.specs.Sound.{soundb}
use Rattle.book.specs.Zero.{no_attempt}
use Rattle.book.specs.declared.BookData.{BookData}
use Rattle.book.specs.declared.DeliveryAttempt.{DeliveryAttempt}
use Rattle.book.specs.declared.Ids.{Ids}
use Rattle.book.specs.declared.OptionalAttempt.{OptionalAttempt}
use Rattle.book.specs.declared.refusal.Refusal.{Refusal}
use Rattle.book.specs.declared.sound.SoundBook.{SoundBook}
use Rattle.book.specs.declared.refusal.Refusal.TheVariants as refusals
use Rattle.rules.specs.Rule.{Rule, Outcome, ended, undone, stopped, mapped, run, full}
use Rattle.rules.specs.Steps.{on_book, run_book}
use Rattle.part_replies.specs.declared.Reply.{Reply}

-- ---- shared by all
-- the rules behind the door: 1, book not sound
unfoldable pub outcome_of : {A : Type 0} → BookData → Rule A → Outcome Book A
unfolding soundb view run on_book full
outcome_of b r = cond (soundb b) (run_book r (view b)) (undone refusals.NoBook)

abbrev pub answer_of : {A : Type 0} → Outcome Book A → Result A Refusal
answer_of (ended m xs v) = Ok v
answer_of (undone n) = Err n
answer_of (stopped m xs n) = Err n

-- the book that the call leaves
abbrev pub book_left : {A : Type 0} → BookData → Outcome Book A → BookData
book_left b (ended m xs v) = back m
book_left b (undone n) = b
book_left b (stopped m xs n) = back m

-- the value, and z where there is none
abbrev pub value_of : {A : Type 0} → A → Outcome Book A → A
value_of z (ended m xs v) = v
value_of z (undone n) = z
value_of z (stopped m xs n) = z

abbrev pub reply : {A : Type 0} → BookData → Outcome Book A → Reply A BookData
reply b o = record { answer = answer_of o; book = book_left b o }

-- the outcome of rules that hand nothing out, by the sound book that they leave or their refusal
abbrev pub outcome_by : {A : Type 0} → A → Result SoundBook Refusal → Outcome Book A
outcome_by v (Ok q) = ended (view q.parts) [] v
outcome_by v (Err n) = undone n

-- ---- where the value stands otherwise in the code
abbrev pub reply_by : {A B : Type 0} → (A → B) → BookData → Outcome Book A → Reply B BookData
reply_by f b o = record { answer = answer_of (mapped f o); book = book_left b o }

-- ids in counted cells
abbrev pub ids_reply : BookData → Outcome Book (List ℕ) → Reply (Ids 64) BookData
ids_reply = reply_by (id_cells 64)

-- an attempt as a mark with its cell
abbrev pub attempt_in : Option DeliveryAttempt → OptionalAttempt
attempt_in None = no_attempt
attempt_in (Some a) = record { present = true; attempt = a }

abbrev pub attempt_reply : BookData → Outcome Book (Option DeliveryAttempt) → Reply OptionalAttempt BookData
attempt_reply = reply_by attempt_in

-- the length of what is written into the lent buffer
abbrev pub written_reply : BookData → Outcome Book (List ℕ) → Reply ℕ BookData
written_reply = reply_by length

-- the bytes beyond what is written stay
abbrev pub buffer_left : List ℕ → Outcome Book (List ℕ) → List ℕ
buffer_left d o = overlay (value_of [] o) d
