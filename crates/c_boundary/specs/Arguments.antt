-- Arguments in bytes. One that stands for no value of its type is refused 3, behind the book (1) and the call's lists (2): "Checks run downward."
use Rattle.std.specs.Prelude.{ℕ, zero, suc, ◌≤◌, ◌<◌, ◌≡◌, refl, Bool, true, false, cond, List, [], ◌∷◌, length, leb}
use Rattle.std.proofs.Common.{sym, ap, ◌∙◌, le-leb, arith}
use Rattle.std.specs.Prelude.{Option, None, Some}
use Rattle.std.proofs.lemmas.Bool.{lt-leb}
use Rattle.codec_forms.specs.Wire.{Ans, got, bad, Parser}
use Rattle.codec_cursor.specs.Cursor.{far, Reads, reads_got, reads_bad}
use Rattle.book.specs.declared.BookData.{BookData}
use Rattle.rules.specs.Rule.{Rule, undo, run}
use Rattle.c_boundary.specs.Held.{Holding}
use Rattle.c_boundary.specs.Settle.{Form, boundary, settled, Gives, GivesBook, gives_as, boundary_held}
use Rattle.book.specs.Refusals.{refusal_number}
use Rattle.book.specs.declared.refusal.Refusal.{Refusal}
use Rattle.book.specs.declared.refusal.Refusal.TheVariants as refusals

-- a call whose argument must stand for a value
abbrev pub given : {A B : Type 0} → Option A → (A → Rule B) → Rule B
given None f = undo refusals.BadValue
given (Some x) f = f x

-- a call with lists, which are refused 2 before any byte argument is looked at
abbrev pub listed : {B : Type 0} → Bool → Rule B → Rule B
listed ok r = cond ok r (undo refusals.BadList)

abbrev pub taken : {A : Type 0} → Ans A → Option A
taken (got a e) = Some a
taken (bad e) = None

abbrev pub taken_whole : {A : Type 0} → ℕ → Ans A → Option A
taken_whole n (got a e) = cond (leb n e) (Some a) None
taken_whole n (bad e) = None

-- the value that a byte stands for
abbrev pub byte_as : {A : Type 0} → Parser A → ℕ → Option A
byte_as p n = taken (p (n ∷ []) 0)

-- the value that all the bytes stand for, with none left over
abbrev pub bytes_as : {A : Type 0} → Parser A → List ℕ → Option A
bytes_as p s = taken_whole (length s) (p s 0)

-- a flag: 0 or 1
abbrev pub flag_in : ℕ → Option Bool
flag_in zero = Some false
flag_in (suc zero) = Some true
flag_in (suc (suc k)) = None

module _ {A : Type 0} {v : A} {e : ℕ} where
  pub byte_bad : (p : Parser A) (n : ℕ) → Reads p (n ∷ []) 0 v e → far ≤ e → byte_as p n ≡ None
  byte_bad p n r q = ap taken (reads_bad r (omega arith) q)

  pub byte_got : (p : Parser A) (n : ℕ) → Reads p (n ∷ []) 0 v e → e < far → byte_as p n ≡ Some v
  byte_got p n r q = ap taken (reads_got r q)

  pub bytes_bad : (p : Parser A) (s : List ℕ) → Reads p s 0 v e → far ≤ e → bytes_as p s ≡ None
  bytes_bad p s r q = ap (taken_whole (length s)) (reads_bad r (omega arith) q)

  pub bytes_over : (p : Parser A) (s : List ℕ) → Reads p s 0 v e → e < far → e < length s → bytes_as p s ≡ None
  bytes_over p s r q h = ap (taken_whole (length s)) (reads_got r q) ∙ ap (λ (t : Bool). cond t (Some v) None) (lt-leb (length s) e h)

  pub bytes_got : (p : Parser A) (s : List ℕ) → Reads p s 0 v e → e < far → length s ≤ e → bytes_as p s ≡ Some v
  bytes_got p s r q h = ap (taken_whole (length s)) (reads_got r q) ∙ ap (λ (t : Bool). cond t (Some v) None) (le-leb (length s) e h)

-- ---- refused at the boundary, by 2 or 3
pub gives_undo : {B : Type 0} (n : Refusal) (form : Form B) (d a : List ℕ) (b : BookData) (h : Holding d b) (r : Rule B) → r ≡ undo n → Gives (boundary form r d a) (refusal_number n) d a
unfolding settled run
gives_undo {B} n form d a b h r e =
    gives_as (sym (ap (λ (x : Rule B). boundary form x d a) e ∙ boundary_held form d a b h (undo n)))
    (record { number = refl; book = refl; answer = refl })

pub gives_book_undo : {B : Type 0} (n : Refusal) (form : Form B) (d : List ℕ) (b : BookData) (h : Holding d b) (r : Rule B) → r ≡ undo n → GivesBook (boundary form r d []) (refusal_number n) d
gives_book_undo n form d b h r e = let g = gives_undo n form d [] b h r e in record { number = g.number; book = g.book }

pub given_none : {A B : Type 0} (f : A → Rule B) {x : Option A} → x ≡ None → given x f ≡ undo refusals.BadValue
given_none {A} f e = ap (λ (y : Option A). given y f) e

pub given_some : {A B : Type 0} (f : A → Rule B) {x : Option A} {v : A} → x ≡ Some v → given x f ≡ f v
given_some {A} f e = ap (λ (y : Option A). given y f) e

pub listed_not : {B : Type 0} (r : Rule B) {ok : Bool} → ok ≡ false → listed ok r ≡ undo refusals.BadList
listed_not r e = ap (λ (t : Bool). listed t r) e

pub listed_well : {B : Type 0} (r : Rule B) {ok : Bool} → ok ≡ true → listed ok r ≡ r
listed_well r e = ap (λ (t : Bool). listed t r) e
