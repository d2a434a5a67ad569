-- One call of the library, and a list of them: bytes that hold a sound book within the types become bytes that hold the rules' next book.
use Rattle.std.specs.Prelude.{ℕ, ◌+◌, ◌-◌, ◌≤◌, ◌≡◌, ◌⊎◌, length, drop}
use Rattle.std.proofs.Common.{sym, ap, ◌∙◌, inl, inr, arith, drop-drop}
use Rattle.std.proofs.Math.Path.{refl}
use mathlib.Core.List.{List, [], ◌∷◌, ◌++◌}
use Rattle.std.specs.Prelude.{Some}
use Rattle.std.proofs.Math.Seq.{drop-append-add}
use Rattle.codec_forms.specs.Wire.{overlay}
use Rattle.book.specs.Model.{Book}
use Rattle.archive_form.specs.Encode.{encode_model}
use Rattle.archive_laws.specs.Books.{TypedModel}
use Rattle.rules.specs.Books.{call_book, book_after}
use Rattle.rules.specs.Call.{Call}
use Rattle.rules_laws.specs.Sound.Run.{SoundBook}
use Rattle.rules_typed.specs.Theorems.{typed_model}
use Rattle.rules_typed.specs.Typing.{Within}
use Rattle.c_boundary.specs.Held.{book_bytes, held_in}
use Rattle.c_boundary_laws.specs.Enough.{enough}
use Rattle.c_boundary_laws.specs.Lent.{Holds, holds_held}
use Rattle.c_api.specs.Functions.{CCall, Returned}
use Rattle.c_laws.specs.Functions.{lent, call_of}
use Rattle.c_laws.specs.Told.{told_on}
use Rattle.c_laws.specs.Listed.{heard_of, calls, returns}

-- d holds m, which is sound and within the types
pub record Good (m : Book) (d : List ℕ) : Type 0 where
  pub holds : Holds m d
  pub sound : SoundBook m
  pub within : Within m

module _ {m : Book} {d : List ℕ} (g : Good m d) where
  pub good_typed : TypedModel m
  good_typed = typed_model m g.within g.sound

  pub good_held : held_in d ≡ Some m
  good_held = holds_held m d g.holds g.sound good_typed

-- the bytes behind the longest book
overlay_beyond : (k : ℕ) (l d : List ℕ) → length l ≤ k → drop k (overlay l d) ≡ drop k d
unfolding overlay
overlay_beyond k l d h =
    let n = k - length l in
    let e : k ≡ length l + n = omega arith in
    ap (λ (j : ℕ). drop j (l ++ drop (length l) d)) e ∙ drop-append-add l (drop (length l) d) n ∙ drop-drop n (length l) d ∙ ap (λ (j : ℕ). drop j d) (sym e)

pub put_beyond : (m : Book) (d e : List ℕ) → TypedModel m → (e ≡ d) ⊎ (e ≡ overlay (book_bytes m) d) → drop 57702 e ≡ drop 57702 d
put_beyond m d e t (inl q) = ap (drop 57702) q
put_beyond m d e t (inr q) = ap (drop 57702) q ∙ overlay_beyond 57702 (book_bytes m) d (enough m t)

-- the call c on d, which holds m, returned and left r
pub record Stepped (m : Book) (d : List ℕ) (c : CCall) (r : Returned) : Type 0 where
  pub returned : r ≡ told_on m d (lent c) (call_of c)
  pub long : length r.book ≡ length d
  pub good : Good (book_after encode_model (heard_of (length d) m c) m) r.book
  pub beyond : drop 57702 r.book ≡ drop 57702 d

-- ---- a list of calls
pub book_append : (xs ys : List Call) (m : Book) → book_after encode_model (xs ++ ys) m ≡ book_after encode_model ys (book_after encode_model xs m)
unfolding book_after
book_append [] ys m = refl
book_append (x ∷ xs) ys m = book_append xs ys (call_book encode_model x m)

pub record Behind (m : Book) (d : List ℕ) (cs : List CCall) (rs : List Returned) (e : List ℕ) : Type 0 where
  pub returned : rs ≡ returns m d cs
  pub long : length e ≡ length d
  pub good : Good (book_after encode_model (calls (length d) m cs) m) e
  pub beyond : drop 57702 e ≡ drop 57702 d
