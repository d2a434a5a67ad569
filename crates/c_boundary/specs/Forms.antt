-- The form of each kind of answer in bytes, and the replies of the calls told in it.
use Rattle.std.specs.Prelude.{ℕ, ◌-◌, ◌≤◌, min, ◌≡◌, refl, Bool, List, [], ◌++◌, length, take, replicate}
use Rattle.std.proofs.Common.{sym, ap, ◌∙◌, subst, arith, length-append}
use Rattle.std.specs.Prelude.{Option, None}
use Rattle.base_lists.specs.Lists.{cells}
use Rattle.codec_forms.specs.Wire.{be, enc_many}
use Rattle.archive_bundle_form.specs.Forms.{encode_height, encode_fee_intent}
use Rattle.archive_form.specs.Encode.{encode_slot}
use Rattle.codec_answers.specs.Forms.{flag_number, status_number, enc_option, encode_ids, encode_look, encode_summary, encode_final, encode_drained}
use Rattle.codec_answers.specs.Drain.{encode_failure, encode_submissions, encode_failures, encode_handed_out}
use Rattle.part_drain_answers.specs.DrainReply.{drained_by, drain_reply}
use Rattle.part_drain_answers.specs.declared.Drained.{Drained}
use Rattle.book.specs.Model.{Book, view, id_cells}
use Rattle.book.specs.declared.BookData.{BookData}
use Rattle.book.specs.declared.DeliveryAttempt.{DeliveryAttempt}
use Rattle.book_answers.specs.declared.BookSummary.{BookSummary}
use Rattle.book_answers.specs.declared.DrainedSubmission.{DrainedSubmission}
use Rattle.book_answers.specs.declared.SubmissionLook.{SubmissionLook}
use Rattle.rules.specs.Rule.{Rule, Outcome, ended, undone, stopped}
use Rattle.rules.specs.Steps.{run_book}
use Rattle.part_replies.specs.Reply.{reply_by, attempt_in, reply}
use Rattle.book_answers.specs.declared.FinalizedSubmission.{FinalizedSubmission}
use Rattle.part_replies.specs.declared.Reply.{Reply}
use Rattle.std.specs.Prelude.{Result, Ok, Err}
use Rattle.book.specs.declared.refusal.Refusal.{Refusal}
use Rattle.c_boundary.specs.Held.{held_in, Holding}
use Rattle.c_answer.specs.Answer.{GivesAnswer}
use Rattle.c_boundary.specs.Settle.{Form, boundary, Gives, GivesBook, gives_as, gives_book_as, finish, coded, told_in, coded_told, reply_as, boundary_reply, boundary_absent}
use Rattle.rules.specs.Call.{Value, no_value, failures, finalized, fee_intent_is, status_is, ids_are, flag, height_is, attempt_is, look_is, summary_is, written}
use Rattle.rules.specs.Calls.{nothing}
use Rattle.book_answers.specs.Zero.{zero_drained, zero_failure}
use Rattle.book.specs.declared.Height.{Height}
use Rattle.book.specs.declared.SubmissionFeeIntent.{SubmissionFeeIntent}
use Rattle.book_answers.specs.declared.SubmissionAttemptStatus.{SubmissionAttemptStatus}
use Rattle.book_answers.specs.declared.SubmissionDrainFailure.{SubmissionDrainFailure}
use Rattle.base_lists.specs.Laws.{take_cells}
use Rattle.c_boundary.specs.Looks.{Looks, told_by, boundary_looked}
use Rattle.book.specs.Refusals as refusals

-- ---- forms
abbrev pub no_form : {A : Type 0} → Form A
no_form xs v = []

abbrev pub status_form : Form SubmissionAttemptStatus
status_form xs v = be 1 (status_number v)

unfoldable pub ids_form : Form (List ℕ)
unfolding encode_ids
ids_form xs is = encode_ids (id_cells 64 is)

abbrev pub flag_form : Form Bool
flag_form xs v = be 1 (flag_number v)

unfoldable pub height_form : Form (Option Height)
unfolding encode_height
height_form xs v = encode_height v

unfoldable pub attempt_form : Form (Option DeliveryAttempt)
unfolding encode_slot
attempt_form xs v = encode_slot (attempt_in v)

unfoldable pub look_form : Form (Option SubmissionLook)
unfolding encode_look
look_form xs v = enc_option encode_look v

unfoldable pub summary_form : Form BookSummary
unfolding encode_summary
summary_form xs v = encode_summary v

unfoldable pub fee_intent_form : Form (Option SubmissionFeeIntent)
unfolding encode_fee_intent
fee_intent_form xs v = enc_option encode_fee_intent v

unfoldable pub final_form : Form (Option FinalizedSubmission)
unfolding encode_final
final_form xs v = enc_option encode_final v

-- what a drain hands out, then its failures
unfoldable pub drain_form : Form (List SubmissionDrainFailure)
unfolding be enc_many encode_drained encode_failure
drain_form xs fs = (be 1 (length xs) ++ enc_many encode_drained xs) ++ (be 1 (length fs) ++ enc_many encode_failure fs)

-- a coin list or an archive: the bytes themselves
abbrev pub bytes_form : Form (List ℕ)
bytes_form xs s = s

-- the value of a call in a list: in the form of its own type
abbrev pub value_form : Form Value
value_form xs no_value = []
value_form xs (failures fs) = drain_form xs fs
value_form xs (finalized f) = final_form xs f
value_form xs (fee_intent_is f) = fee_intent_form xs f
value_form xs (status_is s) = status_form xs s
value_form xs (ids_are is) = ids_form xs is
value_form xs (flag t) = flag_form xs t
value_form xs (height_is h) = height_form xs h
value_form xs (attempt_is a) = attempt_form xs a
value_form xs (look_is l) = look_form xs l
value_form xs (summary_is s) = summary_form xs s
value_form xs (written s) = bytes_form xs s

-- how the answers of one type stand among the values, and in which form
pub record ToldAs (A : Type 0) : Type 0 where
  pub value : A → Value
  pub form : Form A
  pub same : (xs : List DrainedSubmission) (v : A) → value_form xs (value v) ≡ form xs v

abbrev pub as_nothing : ToldAs (Unit {0})
as_nothing = record { value = nothing; form = no_form; same = λ xs v. refl }

abbrev pub as_status : ToldAs SubmissionAttemptStatus
as_status = record { value = status_is; form = status_form; same = λ xs v. refl }

abbrev pub as_ids : ToldAs (List ℕ)
as_ids = record { value = ids_are; form = ids_form; same = λ xs v. refl }

abbrev pub as_flag : ToldAs Bool
as_flag = record { value = flag; form = flag_form; same = λ xs v. refl }

abbrev pub as_height : ToldAs (Option Height)
as_height = record { value = height_is; form = height_form; same = λ xs v. refl }

abbrev pub as_attempt : ToldAs (Option DeliveryAttempt)
as_attempt = record { value = attempt_is; form = attempt_form; same = λ xs v. refl }

abbrev pub as_look : ToldAs (Option SubmissionLook)
as_look = record { value = look_is; form = look_form; same = λ xs v. refl }

abbrev pub as_summary : ToldAs BookSummary
as_summary = record { value = summary_is; form = summary_form; same = λ xs v. refl }

abbrev pub as_fee_intent : ToldAs (Option SubmissionFeeIntent)
as_fee_intent = record { value = fee_intent_is; form = fee_intent_form; same = λ xs v. refl }

abbrev pub as_final : ToldAs (Option FinalizedSubmission)
as_final = record { value = finalized; form = final_form; same = λ xs v. refl }

abbrev pub as_drained : ToldAs (List SubmissionDrainFailure)
as_drained = record { value = failures; form = drain_form; same = λ xs v. refl }

abbrev pub as_bytes : ToldAs (List ℕ)
as_bytes = record { value = written; form = bytes_form; same = λ xs v. refl }

-- ---- a call on bytes that hold no book
pub gives_absent : {A : Type 0} (form : Form A) (r : Rule A) (d a : List ℕ) → held_in d ≡ None → Gives (boundary form r d a) refusals.no_book d a
gives_absent form r d a e = gives_as (sym (boundary_absent form r d a e)) (record { number = refl; book = refl; answer = refl })

pub gives_book_absent : {A : Type 0} (form : Form A) (r : Rule A) (d : List ℕ) → held_in d ≡ None → GivesBook (boundary form r d []) refusals.no_book d
gives_book_absent form r d e = gives_book_as (sym (boundary_absent form r d [] e)) (record { number = refl; book = refl })

-- ---- a call's reply, which holds its value as f makes it, told by e in its form
pub record Tells {A T : Type 0} (form : Form A) (f : A → T) (e : T → List ℕ) : Type 0 where
  pub same : (xs : List DrainedSubmission) (v : A) → e (f v) ≡ form xs v

module _ {A T : Type 0} {form : Form A} {f : A → T} {e : T → List ℕ} (t : Tells form f e) (d a : List ℕ) (b : BookData) (h : Holding d b) (rule : Rule A) {r : Reply T BookData}
    (is : r ≡ reply_by f b (run_book rule (view b))) where
  told : coded e r.answer ≡ told_in form (run_book rule (view b))
  told = ap (λ (x : Reply T BookData). coded e x.answer) is ∙ coded_told form f e t.same (run_book rule (view b))

  pub given_reply : {n : ℕ} {d' a' : List ℕ} → Gives (finish (coded e r.answer) r.book d a) n d' a' → Gives (boundary form rule d a) n d' a'
  given_reply g = gives_as (boundary_reply form d a b h rule told (ap (λ (x : Reply T BookData). x.book) is)) g

  pub given_book : {n : ℕ} {d' : List ℕ} → GivesBook (finish (coded e r.answer) r.book d a) n d' → GivesBook (boundary form rule d a) n d'
  given_book g = gives_book_as (boundary_reply form d a b h rule told (ap (λ (x : Reply T BookData). x.book) is)) g

  -- the same of a call that only looks, told without its book
  pub looked_reply : Looks rule → {n : ℕ} {a' : List ℕ} → GivesAnswer (told_by (coded e r.answer) a) n a' → Gives (boundary form rule d a) n d a'
  looked_reply q g = boundary_looked form d a b h rule q told g

-- the same of a value that the code holds as the rules do
module _ {A : Type 0} {form : Form A} {e : A → List ℕ} (t : Tells form (λ v. v) e) (d a : List ℕ) (b : BookData) (h : Holding d b) (rule : Rule A) {r : Reply A BookData}
    (is : r ≡ reply b (run_book rule (view b))) where
  pub reply_given : {n : ℕ} {d' a' : List ℕ} → Gives (finish (coded e r.answer) r.book d a) n d' a' → Gives (boundary form rule d a) n d' a'
  reply_given = given_reply t d a b h rule (is ∙ reply_as b (run_book rule (view b)))

  pub reply_book : {n : ℕ} {d' : List ℕ} → GivesBook (finish (coded e r.answer) r.book d a) n d' → GivesBook (boundary form rule d a) n d'
  reply_book = given_book t d a b h rule (is ∙ reply_as b (run_book rule (view b)))

  pub reply_looked : Looks rule → {n : ℕ} {a' : List ℕ} → GivesAnswer (told_by (coded e r.answer) a) n a' → Gives (boundary form rule d a) n d a'
  reply_looked = looked_reply t d a b h rule (is ∙ reply_as b (run_book rule (view b)))

-- each kind of answer
pub tells_nothing : {A : Type 0} → Tells {A = A} {T = A} no_form (λ v. v) (λ _. [])
tells_nothing = record { same = λ xs v. refl }

pub tells_status : Tells status_form (λ v. v) (λ s. be 1 (status_number s))
tells_status = record { same = λ xs v. refl }

pub tells_flag : Tells flag_form (λ v. v) (λ t. be 1 (flag_number t))
tells_flag = record { same = λ xs v. refl }

pub tells_ids : Tells ids_form (id_cells 64) encode_ids
unfolding ids_form
tells_ids = record { same = λ xs v. refl }

pub tells_height : Tells height_form (λ v. v) encode_height
unfolding height_form
tells_height = record { same = λ xs v. refl }

pub tells_attempt : Tells attempt_form attempt_in encode_slot
unfolding attempt_form
tells_attempt = record { same = λ xs v. refl }

pub tells_look : Tells look_form (λ v. v) (enc_option encode_look)
unfolding look_form
tells_look = record { same = λ xs v. refl }

pub tells_summary : Tells summary_form (λ v. v) encode_summary
unfolding summary_form
tells_summary = record { same = λ xs v. refl }

pub tells_fee_intent : Tells fee_intent_form (λ v. v) (enc_option encode_fee_intent)
unfolding fee_intent_form
tells_fee_intent = record { same = λ xs v. refl }

pub tells_final : Tells final_form (λ v. v) (enc_option encode_final)
unfolding final_form
tells_final = record { same = λ xs v. refl }

-- ---- a drain's reply: the cells hold what the rules hand out
cells_few : {A : Type 0} (z : A) (l : List A) → length (cells 16 z l) ≡ 16 → length l ≤ 16
cells_few z l e = omega (arith, length-append l (replicate (16 - length l) z))

cells_told : {A : Type 0} (z : A) (e : A → List ℕ) (xs : List A) → length (cells 16 z xs) ≡ 16
    → be 1 (min (length xs) 16) ++ enc_many e (take (length xs) (cells 16 z xs)) ≡ be 1 (length xs) ++ enc_many e xs
cells_told z e xs h =
    let m : min (length xs) 16 ≡ length xs = omega (arith, cells_few z xs h) in
    ap (λ (n : ℕ). be 1 n ++ enc_many e (take (length xs) (cells 16 z xs))) m ∙ ap (λ l. be 1 (length xs) ++ enc_many e l) (take_cells 16 z xs)

-- of a value of the type, whose arrays have 16 cells
abbrev pub InCells : Result Drained Refusal → Type 0
InCells (Ok d) = (length d.submissions ≡ 16) × (length d.failures ≡ 16)
InCells (Err n) = Unit {0}

told_drain : (o : Outcome Book (List SubmissionDrainFailure)) → InCells (drained_by o) → coded encode_handed_out (drained_by o) ≡ told_in drain_form o
unfolding drain_form encode_handed_out encode_submissions encode_failures
told_drain (ended m xs fs) h = ap {B = Result (List ℕ) Refusal} (λ (l : List ℕ). Ok l)
    (ap (λ (l : List ℕ). l ++ encode_failures (length fs) (cells 16 zero_failure fs)) (cells_told zero_drained encode_drained xs h.0)
    ∙ ap (λ (l : List ℕ). (be 1 (length xs) ++ enc_many encode_drained xs) ++ l) (cells_told zero_failure encode_failure fs h.1))
told_drain (undone k) h = refl
told_drain (stopped m xs k) h = refl

-- what settling a drain's reply leaves; the cells are those of its type
pub record DrainGiven (r : Reply Drained BookData) (d a : List ℕ) (n : ℕ) (d' a' : List ℕ) : Type 0 where
  pub left : Gives (finish (coded encode_handed_out r.answer) r.book d a) n d' a'
  pub cells : InCells r.answer

pub given_drain : (d a : List ℕ) (b : BookData) (h : Holding d b) (rule : Rule (List SubmissionDrainFailure)) {r : Reply Drained BookData}
    → r ≡ drain_reply b (run_book rule (view b)) → {n : ℕ} {d' a' : List ℕ} → DrainGiven r d a n d' a' → Gives (boundary drain_form rule d a) n d' a'
given_drain d a b h rule {r} is g =
    let o = run_book rule (view b) in
    gives_as
    (boundary_reply drain_form d a b h rule
    (ap (λ (x : Reply Drained BookData). coded encode_handed_out x.answer) is ∙ told_drain o (subst (λ (x : Reply Drained BookData). InCells x.answer) is g.cells))
    (ap (λ (x : Reply Drained BookData). x.book) is))
    g.left
