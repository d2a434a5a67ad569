-- The archive's theorems: every sound book is restored, every accepted archive is that of the book it gives, and that book is sound.
use Rattle.std.specs.Prelude.{◌≡◌, refl, true, List, [], ◌++◌, ℕ, length, drop}
use Rattle.std.proofs.Common.{sym, ap, ◌∙◌, subst, append-nil, zero-le, zero-add, arith, drop_of_length-le}
use Rattle.codec_forms.specs.Wire.{Ans, got, bad, and_then, end}
use Rattle.codec_forms.specs.Lawful.{Spans, IsBytes, bad_got}
use Rattle.codec_forms.specs.Items.{end_reads, end_got}
use Rattle.book.specs.Sound.{soundb}
use Rattle.book.specs.SoundLaws.{sound, lists_sound, back_view, view_back}
use Rattle.book.specs.Model.{Book, view, back}
use Rattle.book.specs.Typed.{Every, U8, Typed}
use Rattle.book.specs.declared.BookData.{BookData}
use Rattle.archive_form.specs.Encode.{encode_model, encode_book}
use Rattle.archive_form.specs.Parse.{parse_model, parse_whole, read_archive, book, archive_read}
use Rattle.archive_laws.specs.Cells.{every_bytes}
use Rattle.archive_laws.specs.Books.{GoodModel, model_lawful, model_good, good_typed, good_sound}
use Rattle.archive_laws.specs.Back.{view_typed, back_typed, back_sound}

-- ---- reading what was written
model_read : (m : Book) → GoodModel m → parse_whole (encode_model m) 0 ≡ got m (length (encode_model m))
unfolding parse_whole
model_read m g =
    let l = encode_model m in
    let n = length l in
    let d : drop n l ≡ [] = drop_of_length-le l {i = n} (omega arith) in
    let x : Spans l 0 n l = record { ends = sym (zero-add n); inside = omega arith; holds = sym (append-nil l) ∙ ap (λ (t : List ℕ). l ++ t) (sym d) } in
    ap (λ (r : Ans Book). and_then r (λ m e. end m l e)) (model_lawful.reads l 0 n m g x) ∙ end_reads m l n (omega arith)

-- every sound book is restored from its archive
pub restored : (b : BookData) → Typed b → soundb b ≡ true → read_archive (encode_book b) ≡ book b
unfolding read_archive encode_book
restored b t h =
    let g = model_good (view b) (view_typed b t h) (lists_sound (view b) (sound b h).lists) in
    ap archive_read (model_read (view b) g) ∙ ap book (back_view b h)

-- ---- what is accepted
whole_exact : (s : List ℕ) (m : Book) (e : ℕ) → IsBytes s → (r : Ans Book) → parse_model s 0 ≡ r → and_then r (λ m e. end m s e) ≡ got m e → GoodModel m × (encode_model m ≡ s)
whole_exact s m e b (bad d) q y = bad_got y
whole_exact s m e b (got a d) q y =
    let x = model_lawful.exact s 0 d a b zero-le q in
    let u = end_got a m s d e y in
    let z : drop d s ≡ [] = drop_of_length-le s {i = d} u.2 in
    let w : s ≡ encode_model a = x.1.holds ∙ ap (λ (t : List ℕ). encode_model a ++ t) z ∙ append-nil (encode_model a) in
    (subst GoodModel u.0 x.0, ap encode_model (sym u.0) ∙ sym w)

book_got : (b : BookData) (r : Ans Book) → archive_read r ≡ book b → (m : Book) × (e : ℕ) × (r ≡ got m e) × (back m ≡ b)
book_got b (got m e) h = (m, e, refl, cc)
book_got b (bad e) h = absurd (let z : ◌≡◌ {A = ℕ} 0 1 = cc in omega arith)

-- what was read is sound, and its archive is what was read
pub record Accepted (s : List ℕ) (b : BookData) : Type 0 where
  pub typed : Typed b
  pub sound : soundb b ≡ true
  pub bytes : encode_book b ≡ s

pub accepted : (s : List ℕ) (b : BookData) → Every U8 s → read_archive s ≡ book b → Accepted s b
unfolding read_archive parse_whole encode_book
accepted s b t h =
    let x = book_got b (parse_whole s 0) h in
    let g = whole_exact s x.0 x.1 (every_bytes s t) (parse_model s 0) refl x.2 in
    let m = good_typed x.0 g.0 in
    subst (λ (c : BookData). Accepted s c) x.3 (record {
      typed = back_typed x.0 m;
      sound = back_sound x.0 m (good_sound x.0 g.0);
      bytes = ap encode_model (view_back x.0) ∙ g.1;
    })

-- the reader accepts exactly the archives of sound books
pub accepts : (s : List ℕ) (b : BookData) → Every U8 s → (read_archive s ≡ book b → Accepted s b) × (Accepted s b → read_archive s ≡ book b)
accepts s b t = (accepted s b t, λ a. ap read_archive (sym a.bytes) ∙ restored b a.typed a.sound)
