-- All that the theorems on lent bytes need to know of the form in which bytes hold a book: what is written is held, and what is held was
-- written. If the form changes, c_boundary/Held and this page do.
use Prim.Native.Nat.{ℕ, ◌+◌, ◌≤◌, ◌<◌, zero-le, ◌^◌}
use Rattle.std.specs.Prelude.{◌≡◌, Bool, true, false, cond, ◌&&◌, List, ◌++◌, length, drop, take, leb}
use Rattle.std.proofs.Math.Path.{refl}
use Rattle.std.proofs.Common.{sym, ap, ◌∙◌, subst, append_assoc, arith, zero-add, length-append, length-drop, drop_at, take_at, le-leb, leb-true}
use Rattle.std.specs.Prelude.{Option, None, Some}
use Rattle.codec_forms.specs.Wire.{Ans, got, bad, number, run, overlay, be}
use Rattle.codec_forms.specs.Lawful.{Spans}
use Rattle.codec_forms.proofs.Items.{run_lawful, number_lawful}
use Rattle.codec_bytes.specs.Reading.{then_got, then_bad, run_got}
use Rattle.book.specs.Model.{Book, view, back}
use Rattle.book.specs.Typed.{Every, U8, Typed}
use Rattle.archive_form.specs.Encode.{encode_model}
use Rattle.archive_form.specs.Parse.{read_archive, ArchiveRead, book, broken}
use Rattle.archive_laws.specs.Books.{TypedModel}
use Rattle.archive_laws.specs.Cells.{every_bytes, bytes_every}
use Rattle.rules.specs.Opened.{opened}
use Rattle.rules_laws.specs.Sound.Run.{SoundBook}
use Rattle.c_boundary.specs.Held.{layout, book_bytes, archive_in, held_by, book_of, held_in, archive_exact, holding_of}
use Rattle.c_boundary.specs.Settle.{Left, refusal, written, holding_room, holding_bytes}
use Rattle.c_boundary_laws.specs.Enough.{enough, book_length, encode_back}
use Rattle.codec_forms.specs.Number.{be_length}
use Rattle.book.specs.SoundLaws.{view_back}
use Rattle.archive_laws.specs.Back.{back_typed, back_sound}
use Rattle.archive_laws.specs.Sizes.{archive_size}
use Rattle.archive_laws.specs.Theorems.{restored}
use Rattle.book.specs.Refusals as refusals

-- there is room for the book in n bytes
abbrev pub has_room : Book → ℕ → Bool
has_room m n = leb (length (book_bytes m)) n

-- d begins with the bytes of m
pub record Holds (m : Book) (d : List ℕ) : Type 0 where
  pub room : length (book_bytes m) ≤ length d
  pub front : overlay (book_bytes m) d ≡ d

-- ---- what is put over the front of a run
overlay_length : (l d : List ℕ) → length l ≤ length d → length (overlay l d) ≡ length d
unfolding overlay
overlay_length l d h = omega (arith, length-append l (drop (length l) d), length-drop (length l) d)

overlay_again : (l d : List ℕ) → overlay l (overlay l d) ≡ overlay l d
unfolding overlay
overlay_again l d = ap (λ (t : List ℕ). l ++ t) (drop_at l (drop (length l) d) (length l) refl)

module _ (m : Book) (d : List ℕ) (h : length (book_bytes m) ≤ length d) where
  pub put_length : length (overlay (book_bytes m) d) ≡ length d
  put_length = overlay_length (book_bytes m) d h

  pub put_holds : Holds m (overlay (book_bytes m) d)
  put_holds = record { room = omega (arith, put_length); front = overlay_again (book_bytes m) d }

-- ---- a held book is read back
archive_front : (s d : List ℕ) → length s < 256 ^ 8 → length (layout s) ≤ length d → archive_in (overlay (layout s) d) 0 ≡ got s (8 + length s)
unfolding archive_in layout overlay
archive_front s d h k =
    let n = length s in
    let l = be 8 n in
    let e = l ++ s ++ drop (length (l ++ s)) d in
    let q = be_length 8 n in
    let w : length e ≡ length d = omega (arith, length-append (l ++ s) (drop (length (l ++ s)) d), length-drop (length (l ++ s)) d, k) in
    let r : length (l ++ s) ≡ 8 + n = length-append l s ∙ ap (λ (x : ℕ). x + n) q in
    let x : Spans e 0 8 l = record { ends = sym q ∙ sym (zero-add (length l)); inside = omega (arith, w, r, k); holds = front l s (drop (length (l ++ s)) d) q } in
    then_got (number 8) run e 0 ((number_lawful 8).reads e 0 8 n h x)
    ∙ run_got n e 8 (omega (arith, w, r, k))
    ∙ ap (λ (t : List ℕ). got (take n t) (8 + n)) (drop_front l s (drop (length (l ++ s)) d) q)
    ∙ ap (λ (t : List ℕ). got t (8 + n)) (take_at s (drop (length (l ++ s)) d) n refl)
  where
    drop_front : (l s t : List ℕ) → length l ≡ 8 → drop 8 (l ++ s ++ t) ≡ s ++ t
    drop_front l s t q = ap (λ (x : List ℕ). drop 8 x) (append_assoc l s t) ∙ drop_at l (s ++ t) 8 q

    front : (l s t : List ℕ) → length l ≡ 8 → drop 0 (l ++ s ++ t) ≡ l ++ drop 8 (l ++ s ++ t)
    front l s t q = append_assoc l s t ∙ ap (λ (x : List ℕ). l ++ x) (sym (drop_front l s t q))

written_held : (m : Book) (d : List ℕ) → TypedModel m → SoundBook m → length (book_bytes m) ≤ length d → held_in (overlay (book_bytes m) d) ≡ Some m
unfolding held_in book_bytes
written_held m d t s h =
    let b = back m in
    let y : Typed b = back_typed m t in
    let e = encode_back m in
    let f : length (encode_model m) < 256 ^ 8 = omega (arith, archive_size b y, ap length e) in
    ap held_by (archive_front (encode_model m) d f h)
    ∙ ap (λ (x : List ℕ). book_of (read_archive x)) (sym e)
    ∙ ap book_of (restored b y (back_sound m t s.lists))
    ∙ ap Some (view_back m)

pub holds_held : (m : Book) (d : List ℕ) → Holds m d → SoundBook m → TypedModel m → held_in d ≡ Some m
holds_held m d h s t = ap held_in (sym h.front) ∙ written_held m d t s h.room

-- and bytes hold what is read from them
module _ (d : List ℕ) (u : Every U8 d) where
  from_archive : (s : List ℕ) (e : ℕ) (m : Book) → archive_in d 0 ≡ got s e → Spans d 0 e (layout s) → Every U8 s → (x : ArchiveRead) → read_archive s ≡ x → book_of x ≡ Some m → Holds m d
  from_archive s e m p y v (book b) q f =
      let h = holding_of d s e b v p y q in
      let g : view b ≡ m = some_is f in
      subst (λ (k : Book). Holds k d) g (record { room = holding_room d b h; front = holding_bytes d b h })
    where
      some_is : {x y : Book} → Some x ≡ Some y → x ≡ y
      some_is q = cc
  from_archive s e m p y v (broken n) q f = absurd (let z : ◌≡◌ {A = ℕ} 0 1 = cc in omega arith)

  nothing_read : {X : Type 0} (m : Book) → ◌≡◌ {A = Option Book} None (Some m) → X
  nothing_read m e = absurd (let z : ◌≡◌ {A = ℕ} 0 1 = cc in omega arith)

  from_run : (v a : ℕ) (m : Book) → number 8 d 0 ≡ got v a → held_in d ≡ Some m → (y : Ans (List ℕ)) → run v d a ≡ y → Holds m d
  unfolding held_in archive_in
  from_run v a m p h (got s e) q =
      let x = then_got (number 8) run d 0 p ∙ q in
      let y = (number_lawful 8).exact d 0 a v (every_bytes d u) zero-le p in
      from_archive s e m x (archive_exact d s v a e u p q) (bytes_every s ((run_lawful v).exact d a e s (every_bytes d u) y.1.inside q).0.bytes) (read_archive s) refl (sym (ap held_by x) ∙ h)
  from_run v a m p h (bad e) q = nothing_read m (sym (ap held_by (then_got (number 8) run d 0 p ∙ q)) ∙ h)

  from_length : (m : Book) → held_in d ≡ Some m → (x : Ans ℕ) → number 8 d 0 ≡ x → Holds m d
  unfolding held_in archive_in
  from_length m h (got v a) p = from_run v a m p h (run v d a) refl
  from_length m h (bad e) p = nothing_read m (sym (ap held_by (then_bad (number 8) run d 0 p)) ∙ h)

  pub held_holds : (m : Book) → held_in d ≡ Some m → Holds m d
  held_holds m h = from_length m h (number 8 d 0) refl

-- ---- writing a book and an answer: done whole, or not at all
pub data Wrote (n : ℕ) (m : Book) (s d a : List ℕ) : Bool → Left → Type 0 where
  wrote : length (book_bytes m) ≤ length d → Wrote n m s d a true (record { number = n; book = overlay (book_bytes m) d; answer = overlay s a })
  short : Wrote n m s d a false (refusal refusals.short_buffer d a)

pub written_as : (n : ℕ) (m : Book) (s d a : List ℕ) → Wrote n m s d a (has_room m (length d) && leb (length s) (length a)) (written n m s d a)
unfolding written
written_as n m s d a = go (has_room m (length d)) refl (leb (length s) (length a))
  where
    go : (x : Bool) → has_room m (length d) ≡ x → (y : Bool) → Wrote n m s d a (x && y) (cond (x && y) (record { number = n; book = overlay (book_bytes m) d; answer = overlay s a }) (refusal refusals.short_buffer d a))
    go true e true = wrote (leb-true (length (book_bytes m)) (length d) e)
    go true e false = short
    go false e y = short

-- ---- sizes
pub roomy : (m : Book) → TypedModel m → (n : ℕ) → 57702 ≤ n → has_room m n ≡ true
roomy m t n h = le-leb (length (book_bytes m)) n (omega (arith, enough m t))

pub opened_room : (token id n : ℕ) → 30 ≤ n → length (book_bytes (opened token id)) ≤ n
opened_room token id n h = omega (arith, book_length (opened token id), size)
  where
    size : length (encode_model (opened token id)) ≡ 22
    size = unfold opened encode_model in refl
