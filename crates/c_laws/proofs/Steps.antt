-- Theorems on specs/Steps.antt.
use Rattle.book.specs.declared.refusal.Refusal.{Refusal}
use Rattle.book.specs.declared.refusal.Refusal.TheVariants as turned
use Rattle.book.specs.Refusals.{refusal_number}
use Rattle.std.specs.Prelude.{ℕ, ◌≡◌, Bool, cond, ◌&&◌, ◌⊎◌, leb, length}
use Rattle.std.proofs.Common.{zero-le, sym, ap, ◌∙◌, inl, inr, le-leb}
use Rattle.std.proofs.Math.Path.{refl, subst}
use Rattle.std.proofs.Math.Bool.{true, false}
use mathlib.Core.List.{List, [], ◌∷◌, ◌++◌}
use Rattle.codec_forms.specs.Wire.{overlay}
use Rattle.book.specs.Model.{Book}
use Rattle.book.specs.Typed.{Every}
use Rattle.archive_form.specs.Encode.{encode_model}
use Rattle.rules.specs.Books.{call_book, book_after}
use Rattle.rules.specs.Call.{Call, Value}
use Rattle.rules.specs.Calls.{rules}
use Rattle.rules.specs.Rule.{Outcome, ended, undone, stopped, left}
use Rattle.rules.specs.Steps.{run_book}
use Rattle.rules_laws.specs.Sound.Run.{sound_after}
use Rattle.rules_typed.specs.Theorems.{within_after}
use Rattle.rules_typed.specs.Typing.{TypedCall}
use Rattle.c_boundary.specs.Held.{book_bytes}
use Rattle.c_boundary.specs.Settle.{Left, written, settled}
use Rattle.c_boundary_laws.specs.Lent.{has_room, Holds, put_length, put_holds, Wrote, wrote, short, written_as}
use Rattle.c_api.specs.Functions.{CCall, Returned, Did}
use Rattle.c_laws.specs.Functions.{Lent, lent, Asked, asks, bad_list, bad_value, call_of, OnCall, TypedC}
use Rattle.c_laws.specs.Told.{told_on, one_book}
use Rattle.c_laws.proofs.Told.{did_told}
use Rattle.c_laws.specs.Typed.{typed_call}
use Rattle.c_laws.specs.Listed.{room_for, heard, heard_of, calls, returns, Ran, no_call, then_call}
use Rattle.c_boundary.specs.Forms.{value_form}
use Rattle.c_laws.specs.Steps.{Good, good_typed, good_held, put_beyond, Stepped, book_append, Behind}

-- ---- one call
-- e has the length of d and holds m; it is d, or d with the bytes of m over its front
record Next (m : Book) (d e : List ℕ) : Type 0 where
  long : length e ≡ length d
  holds : Holds m e
  put : (e ≡ d) ⊎ (e ≡ overlay (book_bytes m) d)

module _ (m : Book) (d : List ℕ) (h : Holds m d) where
  same : Next m d d
  same = record { long = refl; holds = h; put = inl refl }

  next_written : (n : ℕ) (k : Book) (s a : List ℕ) (t : Bool) (l : Left) → Wrote n k s d a t l → Next (cond t k m) d l.book
  next_written n k s a true l (wrote q) = record { long = put_length k d q; holds = put_holds k d q; put = inr refl }
  next_written n k s a false l short = same

  and-true : (x y : Bool) → y ≡ true → (x && y) ≡ x
  and-true true y e = e
  and-true false y e = refl

  next_settled : (a : List ℕ) (o : Outcome Book Value) → Next (cond (room_for (length d) (length a) o) (left m o) m) d (settled value_form d a o).book
  unfolding settled
  next_settled a (ended x xs v) = next_written 0 x (value_form xs v) a _ _ (written_as 0 x (value_form xs v) d a)
  next_settled a (undone n) = same
  next_settled a (stopped x xs n) =
      subst (λ (t : Bool). Next (cond t x m) d (written (refusal_number n) x [] d a).book) (and-true (has_room x (length d)) (leb 0 (length a)) (le-leb 0 (length a) zero-le))
      (next_written (refusal_number n) x [] a _ _ (written_as (refusal_number n) x [] d a))

  heard_book : (t : Bool) (c : Call) → book_after encode_model (cond t (c ∷ []) []) m ≡ cond t (left m (run_book (rules encode_model c) m)) m
  unfolding book_after call_book
  heard_book true c = refl
  heard_book false c = refl

  next_told : (l : Lent) (o : Asked) → Next (book_after encode_model (heard (length d) m (length l.answer) o) m) d (told_on m d l o).book
  unfolding book_after
  next_told l bad_list = same
  next_told l bad_value = same
  next_told l (asks c) =
      let x = run_book (rules encode_model c) m in
      subst (λ (b : Book). Next b d (settled value_form d l.answer x).book) (sym (heard_book (room_for (length d) (length l.answer) x) c))
      (next_settled l.answer x)

heard_typed : (n : ℕ) (m : Book) (a : ℕ) (o : Asked) → OnCall TypedCall o → Every TypedCall (heard n m a o)
heard_typed n m a bad_list t = tt
heard_typed n m a bad_value t = tt
heard_typed n m a (asks c) t = go (room_for n a (run_book (rules encode_model c) m))
  where
    go : (x : Bool) → Every TypedCall (cond x (c ∷ []) [])
    go true = (t, tt)
    go false = tt

pub stepped : {m : Book} {d : List ℕ} {c : CCall} {r : Returned} → Good m d → TypedC c → Did d c r → Stepped m d c r
stepped {m} {d} {c} {r} g t x =
    let q : r ≡ told_on m d (lent c) (call_of c) = did_told d x (one_book m (good_held g) g.holds) in
    let ys = heard_of (length d) m c in
    let k = book_after encode_model ys m in
    let n : Next k d r.book = subst (λ (y : Returned). Next k d y.book) (sym q) (next_told m d g.holds (lent c) (call_of c)) in
    let f : Good k r.book = record {
      holds = n.holds;
      sound = sound_after encode_model ys m g.sound;
      within = within_after encode_model ys m (heard_typed (length d) m (length (lent c).answer) (call_of c) (typed_call c t)) g.within;
    } in
    record { returned = q; long = n.long; good = f; beyond = put_beyond k d r.book (good_typed f) n.put }

pub behind : {m : Book} {d e : List ℕ} {cs : List CCall} {rs : List Returned} → Good m d → Every TypedC cs → Ran d cs rs e → Behind m d cs rs e
unfolding returns calls book_after
behind g t (no_call d) = record { returned = refl; long = refl; good = g; beyond = refl }
behind {m} g t (then_call {d} {c} {r} {cs} {rs} {e} x xs) =
    let s = stepped g t.0 x in
    let ys = heard_of (length d) m c in
    let k = book_after encode_model ys m in
    let b = behind {m = k} s.good t.1 xs in
    let z : book_after encode_model (calls (length r.book) k cs) k ≡ book_after encode_model (ys ++ calls (length d) k cs) m =
    ap (λ (y : ℕ). book_after encode_model (calls y k cs) k) s.long ∙ sym (book_append ys (calls (length d) k cs) m) in
    record {
      returned = (λ j. s.returned j ∷ b.returned j) ∙ ap (λ (y : Returned). told_on m d (lent c) (call_of c) ∷ returns k y.book cs) s.returned;
      long = b.long ∙ s.long;
      good = subst (λ (y : Book). Good y e) z b.good;
      beyond = b.beyond ∙ s.beyond;
    }
