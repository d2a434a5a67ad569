-- The bytes from the place of an entry up to the next place are its encoding.
use Prim.Native.Nat.{ℕ, zero, suc, ◌+◌, ◌<◌, zero-le}
use Rattle.std.specs.Prelude.{◌≡◌, get_or}
use Rattle.std.proofs.Math.Path.{refl, subst}
use Rattle.std.proofs.Common.{sym, arith}
use mathlib.Core.List.{List, [], ◌∷◌, ◌++◌}
use Rattle.std.proofs.Math.ListN.{length, length-append}
use Rattle.codec_forms.specs.Wire.{got, be, enc_many, enc_list}
use Rattle.codec_forms.specs.Number.{be_length}
use Rattle.codec_forms.specs.Lawful.{IsBytes, Spans, span_left, span_right}
use Rattle.book.specs.Zero.{zero_submitted, zero_delivery}
use Rattle.book.specs.Model.{Book}
use Rattle.archive_bundle_form.specs.Forms.{encode_height}
use Rattle.archive_form.specs.Encode.{encode_submitted, encode_delivery, encode_numbers, encode_model}
use Rattle.archive_form.specs.Parse.{parse_model}
use Rattle.archive_laws.specs.Books.{model_lawful}
use Rattle.archive_walk.specs.Places.{places}
use Rattle.archive_walk.specs.Walk.{queue_at}

module _ {A : Type 0} (enc : A → List ℕ) (z : A) (s : List ℕ) where
  first_place : (c : ℕ) (xs : List A) → get_or (places enc c xs) 0 0 ≡ c
  unfolding places
  first_place c [] = refl
  first_place c (x ∷ xs) = refl

  entry_at : (c e : ℕ) (xs : List A) → Spans s c e (enc_many enc xs) → (k : ℕ) → k < length xs → Spans s (get_or (places enc c xs) k 0) (get_or (places enc c xs) (suc k) 0) (enc (get_or xs k z))
  unfolding places enc_many
  entry_at c e [] h k l = absurd (omega arith)
  entry_at c e (x ∷ xs) h zero l =
      subst (λ (n : ℕ). Spans s c n (enc x)) (sym (first_place (c + length (enc x)) xs)) (span_left s c e (enc x) (enc_many enc xs) h)
  entry_at c e (x ∷ xs) h (suc k) l = entry_at (c + length (enc x)) e xs (span_right s c e (enc x) (enc_many enc xs) h) k (omega arith)

  -- the entries of a section stand behind its count
  section_at : (c e : ℕ) (xs : List A) → Spans s c e (enc_list enc xs) → (d : ℕ) × Spans s (c + 1) d (enc_many enc xs)
  unfolding enc_list
  section_at c e xs h = (e, subst (λ (n : ℕ). Spans s (c + n) e (enc_many enc xs)) (be_length 1 (length xs)) (span_right s c e (be 1 (length xs)) (enc_many enc xs) h))

module _ (s : List ℕ) (bytes : IsBytes s) (m : Book) (e : ℕ) (read : parse_model s 0 ≡ got m e) where
  abbrev N : List ℕ
  N = encode_numbers m

  abbrev S : List ℕ
  S = enc_list encode_submitted m.submitted

  abbrev Q : List ℕ
  Q = enc_list encode_delivery m.pending

  numbers_long : length N ≡ 17
  unfolding encode_numbers
  numbers_long = omega (arith, length-append (be 1 2 ++ be 8 m.next_token.0) (be 8 m.next_id.0), length-append (be 1 2) (be 8 m.next_token.0), be_length 1 2, be_length 8 m.next_token.0, be_length 8 m.next_id.0)

  front : (d : ℕ) × Spans s 0 d (N ++ S ++ Q)
  unfolding encode_model
  front =
      let h = (model_lawful.exact s 0 e m bytes zero-le read).1 in
      let R = enc_list (be 8) m.retired in
      let H = encode_height m.rollback in
      let a = span_left s 0 e (N ++ S ++ Q ++ R ++ H) (enc_list (be 8) m.replayed) h in
      let b = span_left s 0 _ (N ++ S ++ Q ++ R) H a in
      (_, span_left s 0 _ (N ++ S ++ Q) R b)

  pub submission_at : (k : ℕ) → k < length m.submitted
      → Spans s (get_or (places encode_submitted (17 + 1) m.submitted) k 0) (get_or (places encode_submitted (17 + 1) m.submitted) (suc k) 0) (encode_submitted (get_or m.submitted k zero_submitted))
  submission_at k l =
      let a = span_right s 0 _ N S (span_left s 0 _ (N ++ S) Q front.1) in
      let q : 0 + length N ≡ 17 = omega (arith, numbers_long) in
      let b = section_at encode_submitted zero_submitted s _ _ m.submitted (subst (λ (n : ℕ). Spans s n (0 + length (N ++ S)) S) q a) in
      entry_at encode_submitted zero_submitted s (17 + 1) _ m.submitted b.1 k l

  pub delivery_at : (k : ℕ) → k < length m.pending
      → Spans s (get_or (places encode_delivery (queue_at m + 1) m.pending) k 0) (get_or (places encode_delivery (queue_at m + 1) m.pending) (suc k) 0) (encode_delivery (get_or m.pending k zero_delivery))
  delivery_at k l =
      let q : 0 + length (N ++ S) ≡ queue_at m = omega (arith, length-append N S, numbers_long) in
      let b = section_at encode_delivery zero_delivery s _ _ m.pending (subst (λ (n : ℕ). Spans s n front.0 Q) q (span_right s 0 _ (N ++ S) Q front.1)) in
      entry_at encode_delivery zero_delivery s (queue_at m + 1) _ m.pending b.1 k l
