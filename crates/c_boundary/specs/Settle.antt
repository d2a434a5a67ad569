-- A call on lent bytes: the held book, its rules, and what is left in the buffers. Written once, for any rules and any form of their answer.
use Prim.Native.Nat.{ℕ, ◌+◌, ◌≤◌, ◌<◌, zero-le}
use Rattle.std.specs.Prelude.{◌≡◌, cond, ◌&&◌, length, leb}
use Rattle.std.proofs.Math.Path.{refl, ap}
use Rattle.std.proofs.Common.{sym, ◌∙◌, subst, arith, length-append}
use mathlib.Core.List.{List, [], ◌++◌}
use Rattle.std.specs.Prelude.{Option, None, Some}
use borrow.Author.Tests.{le-leb, lt-leb}
use Rattle.codec_forms.specs.Wire.{be, overlay}
use Rattle.codec_forms.specs.Number.{be_length}
use Rattle.codec_forms.specs.Puts.{Room, Puts, puts_overlay}
use Rattle.book.specs.Model.{Book, view}
use Rattle.book.specs.SoundLaws.{view_back}
use Rattle.book.specs.declared.BookData.{BookData}
use Rattle.archive_form.specs.Encode.{encode_book}
use Rattle.book_answers.specs.declared.DrainedSubmission.{DrainedSubmission}
use Rattle.rules.specs.Rule.{Rule, Outcome, ended, undone, stopped, run, full, ◌<$>◌, mapped, run_map}
use Rattle.rules.specs.Steps.{on_book, run_book}
use Rattle.book.specs.declared.refusal.Refusal.{Refusal}
use Rattle.std.specs.Prelude.{Result, Ok, Err}
use Rattle.part_replies.specs.Reply.{answer_of, book_left, reply, reply_by}
use Rattle.codec_answers.specs.Forms.{answer_number}
use Rattle.book.specs.Refusals.{refusal_number}
use Rattle.c_boundary.specs.Held.{layout, book_bytes, held_in, Holding}
use Rattle.book.specs.Refusals as refusals

-- what a call returns, and what it leaves in the buffers
pub record Left : Type 0 where
  pub number : ℕ
  pub book : List ℕ
  pub answer : List ℕ

-- refused: every lent byte stays
abbrev pub refusal : ℕ → List ℕ → List ℕ → Left
refusal n d a = record { number = n; book = d; answer = a }

-- the book m and the answer l into their buffers; 12, and nothing changes, where one does not fit
unfoldable pub written : ℕ → Book → List ℕ → List ℕ → List ℕ → Left
unfolding overlay
written n m l d a =
    cond (leb (length (book_bytes m)) (length d) && leb (length l) (length a))
    (record { number = n; book = overlay (book_bytes m) d; answer = overlay l a })
    (refusal refusals.short_buffer d a)

-- how the rules' answer is told in bytes
abbrev pub Form : Type 0 → Type 0
Form A = List DrainedSubmission → A → List ℕ

unfoldable pub settled : {A : Type 0} → Form A → List ℕ → List ℕ → Outcome Book A → Left
unfolding written
settled form d a (ended m xs v) = written 0 m (form xs v) d a
settled form d a (undone n) = refusal (refusal_number n) d a
settled form d a (stopped m xs n) = written (refusal_number n) m [] d a

abbrev pub ruled : {A : Type 0} → Form A → Rule A → List ℕ → List ℕ → Option Book → Left
ruled form r d a None = refusal refusals.no_book d a
ruled form r d a (Some m) = settled form d a (run_book r m)

-- a call by these rules on the book that d holds, with the lent answer a
unfoldable pub boundary : {A : Type 0} → Form A → Rule A → List ℕ → List ℕ → Left
unfolding held_in settled run on_book full
boundary form r d a = ruled form r d a (held_in d)

-- rules with their answer made into another, told in a form that gives the same bytes
module _ {A B : Type 0} (f : A → B) (form : Form A) (form' : Form B) (same : (xs : List DrainedSubmission) (v : A) → form' xs (f v) ≡ form xs v) (d a : List ℕ) where
  pub settled_mapped : (o : Outcome Book A) → settled form' d a (mapped f o) ≡ settled form d a o
  unfolding settled
  settled_mapped (ended m xs v) = ap (λ (l : List ℕ). written 0 m l d a) (same xs v)
  settled_mapped (undone n) = refl
  settled_mapped (stopped m xs n) = refl

  pub boundary_mapped : (r : Rule A) → boundary form' (f <$> r) d a ≡ boundary form r d a
  unfolding boundary
  boundary_mapped r = go (held_in d)
    where
      go : (x : Option Book) → ruled form' (f <$> r) d a x ≡ ruled form r d a x
      go None = refl
      go (Some m) = ap (settled form' d a) (run_map (λ b. b) on_book f r m) ∙ settled_mapped (run_book r m)

-- what a function of the boundary leaves
pub record Gives (l : Left) (n : ℕ) (d a : List ℕ) : Type 0 where
  pub number : n ≡ l.number
  pub book : d ≡ l.book
  pub answer : a ≡ l.answer

-- the same for a call without an answer
pub record GivesBook (l : Left) (n : ℕ) (d : List ℕ) : Type 0 where
  pub number : n ≡ l.number
  pub book : d ≡ l.book

pub gives_as : {x y : Left} {n : ℕ} {d a : List ℕ} → x ≡ y → Gives x n d a → Gives y n d a
gives_as {x} {y} {n} {d} {a} q g = subst (λ (l : Left). Gives l n d a) q g

pub gives_book_as : {x y : Left} {n : ℕ} {d : List ℕ} → x ≡ y → GivesBook x n d → GivesBook y n d
gives_book_as {x} {y} {n} {d} q g = subst (λ (l : Left). GivesBook l n d) q g

-- ---- writing
pub layout_length : (s : List ℕ) → length (layout s) ≡ 8 + length s
unfolding layout
layout_length s = length-append (be 8 (length s)) s ∙ ap (λ (n : ℕ). n + length s) (be_length 8 (length s))

-- k is the length of the book's archive
pub bytes_length : (k : ℕ) (b : BookData) → k ≡ length (encode_book b) → length (book_bytes (view b)) ≡ 8 + k
unfolding book_bytes encode_book
bytes_length k b e = layout_length (encode_book b) ∙ ap (λ (n : ℕ). 8 + n) (sym e)

module _ (n : ℕ) (m : Book) (l d a : List ℕ) where
  pub written_fits : length (book_bytes m) ≤ length d → length l ≤ length a → written n m l d a ≡ record { number = n; book = overlay (book_bytes m) d; answer = overlay l a }
  unfolding written
  written_fits h k = rw (le-leb (length (book_bytes m)) (length d) h, le-leb (length l) (length a) k) refl

  pub book_short : length d < length (book_bytes m) → written n m l d a ≡ refusal refusals.short_buffer d a
  unfolding written
  book_short h = rw (lt-leb (length (book_bytes m)) (length d) h) refl

  pub answer_short : length (book_bytes m) ≤ length d → length a < length l → written n m l d a ≡ refusal refusals.short_buffer d a
  unfolding written
  answer_short h k = rw (le-leb (length (book_bytes m)) (length d) h, lt-leb (length l) (length a) k) refl

-- the bytes that hold a book begin with its own
module _ (d : List ℕ) (b : BookData) (h : Holding d b) where
  pub holding_room : length (book_bytes (view b)) ≤ length d
  unfolding book_bytes encode_book
  holding_room = h.room

  pub holding_bytes : overlay (book_bytes (view b)) d ≡ d
  unfolding book_bytes encode_book
  holding_bytes = h.bytes

pub overlay_none : (a : List ℕ) → overlay [] a ≡ a
unfolding overlay
overlay_none a = refl

-- ---- what a reply leaves: the bytes of its value, or its refusal. The book is put back in any case, since a refused call answers the book
-- that it was given
abbrev pub finish : Result (List ℕ) Refusal → BookData → List ℕ → List ℕ → Left
finish (Ok l) b d a = written 0 (view b) l d a
finish (Err n) b d a = written (refusal_number n) (view b) [] d a

-- the bytes of a value in its form
abbrev pub coded : {T : Type 0} → (T → List ℕ) → Result T Refusal → Result (List ℕ) Refusal
coded e (Ok v) = Ok (e v)
coded e (Err n) = Err n

-- the same of the rules' answer
abbrev pub told_in : {A : Type 0} → Form A → Outcome Book A → Result (List ℕ) Refusal
told_in form (ended m xs v) = Ok (form xs v)
told_in form (undone n) = Err n
told_in form (stopped m xs n) = Err n

-- an answer that the code holds as f makes it, and tells by e
module _ {A T : Type 0} (form : Form A) (f : A → T) (e : T → List ℕ) (same : (xs : List DrainedSubmission) (v : A) → e (f v) ≡ form xs v) where
  pub coded_told : (o : Outcome Book A) → coded e (answer_of (mapped f o)) ≡ told_in form o
  coded_told (ended m xs v) = ap {B = Result (List ℕ) Refusal} (λ (l : List ℕ). Ok l) (same xs v)
  coded_told (undone n) = refl
  coded_told (stopped m xs n) = refl

pub reply_as : {A : Type 0} (b : BookData) (o : Outcome Book A) → reply b o ≡ reply_by (λ v. v) b o
reply_as b (ended m xs v) = refl
reply_as b (undone n) = refl
reply_as b (stopped m xs n) = refl

module _ {A : Type 0} (form : Form A) (d a : List ℕ) (b : BookData) (h : Holding d b) where
  pub finish_settled : (o : Outcome Book A) → finish (told_in form o) (book_left b o) d a ≡ settled form d a o
  unfolding settled
  finish_settled (ended m xs v) = ap (λ (x : Book). written 0 x (form xs v) d a) (view_back m)
  finish_settled (undone n) =
      written_fits (refusal_number n) (view b) [] d a (holding_room d b h) zero-le
      ∙ ap (λ (x : List ℕ). record { number = refusal_number n; book = x; answer = overlay [] a }) (holding_bytes d b h)
      ∙ ap (λ (x : List ℕ). record { number = refusal_number n; book = d; answer = x }) (overlay_none a)
  finish_settled (stopped m xs n) = ap (λ (x : Book). written (refusal_number n) x [] d a) (view_back m)

  pub boundary_held : (r : Rule A) → boundary form r d a ≡ settled form d a (run_book r (view b))
  unfolding boundary
  boundary_held r = ap (ruled form r d a) h.held

  -- a call's reply, put into the buffers
  pub boundary_reply : (r : Rule A) {x : Result (List ℕ) Refusal} {k : BookData} → x ≡ told_in form (run_book r (view b)) → k ≡ book_left b (run_book r (view b))
      → finish x k d a ≡ boundary form r d a
  boundary_reply r {x} {k} p q = (λ i. finish (p i) (q i) d a) ∙ finish_settled (run_book r (view b)) ∙ sym (boundary_held r)

pub boundary_absent : {A : Type 0} (form : Form A) (r : Rule A) (d a : List ℕ) → held_in d ≡ None → boundary form r d a ≡ refusal refusals.no_book d a
unfolding boundary
boundary_absent form r d a e = ap (ruled form r d a) e

-- a reply without a value
pub finish_done : {T : Type 0} (x : Result T Refusal) (b : BookData) (d a : List ℕ) → written (answer_number x) (view b) [] d a ≡ finish (coded (λ _. []) x) b d a
finish_done (Ok v) b d a = refl
finish_done (Err n) b d a = refl

-- ---- what the writing functions leave; k is the archive's length
pub laid : (k : ℕ) (b : BookData) → k ≡ length (encode_book b) → be 8 k ++ encode_book b ≡ book_bytes (view b)
unfolding book_bytes layout encode_book
laid k b e = ap (λ (n : ℕ). be 8 n ++ encode_book b) e

pub laid_room : (k : ℕ) (b : BookData) (d : List ℕ) → k ≡ length (encode_book b) → 8 + k ≤ length d → Room (book_bytes (view b)) 0 d
laid_room k b d e h = record { fits = omega (arith, bytes_length k b e) }

module _ (n k : ℕ) (b : BookData) (d : List ℕ) (e : k ≡ length (encode_book b)) where
  pub back_short : length d < 8 + k → GivesBook (written n (view b) [] d []) refusals.short_buffer d
  back_short h = gives_book_as (sym (book_short n (view b) [] d [] (omega (arith, bytes_length k b e)))) (record { number = refl; book = refl })

  pub back_done : {d' : List ℕ} → 8 + k ≤ length d → d' ≡ overlay (book_bytes (view b)) d → GivesBook (written n (view b) [] d []) n d'
  back_done h p = gives_book_as (sym (written_fits n (view b) [] d [] (omega (arith, bytes_length k b e)) zero-le)) (record { number = refl; book = p })

  module _ (l a : List ℕ) where
    pub both_book_short : length d < 8 + k → Gives (written n (view b) l d a) refusals.short_buffer d a
    both_book_short h = gives_as (sym (book_short n (view b) l d a (omega (arith, bytes_length k b e)))) (record { number = refl; book = refl; answer = refl })

    pub both_answer_short : 8 + k ≤ length d → length a < length l → Gives (written n (view b) l d a) refusals.short_buffer d a
    both_answer_short h g = gives_as (sym (answer_short n (view b) l d a (omega (arith, bytes_length k b e)) g)) (record { number = refl; book = refl; answer = refl })

    pub both_done : {d' a' : List ℕ} {i : ℕ} → 8 + k ≤ length d → length l ≤ length a → d' ≡ overlay (book_bytes (view b)) d → Puts l 0 a a' i
        → Gives (written n (view b) l d a) n d' a'
    both_done h g p q =
        gives_as (sym (written_fits n (view b) l d a (omega (arith, bytes_length k b e)) g)) (record { number = refl; book = p; answer = (puts_overlay q).1 })

-- ---- by the cases of an answer
module _ {x : Result (List ℕ) Refusal} (b : BookData) (d a : List ℕ) {d' a' : List ℕ} {n : ℕ} where
  pub gives_done : {l : List ℕ} → x ≡ Ok l → Gives (written 0 (view b) l d a) n d' a' → Gives (finish x b d a) n d' a'
  gives_done e g = gives_as (sym (ap (λ (y : Result (List ℕ) Refusal). finish y b d a) e)) g

  pub gives_refused : {k : Refusal} → x ≡ Err k → Gives (written (refusal_number k) (view b) [] d a) n d' a' → Gives (finish x b d a) n d' a'
  gives_refused e g = gives_as (sym (ap (λ (y : Result (List ℕ) Refusal). finish y b d a) e)) g
