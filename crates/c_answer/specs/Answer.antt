-- An answer alone into lent bytes; and the two functions of the library that have no book: the digest of lent bytes, and the id of a coin string.
use Rattle.std.specs.Prelude.{ℕ, ◌≤◌, ◌<◌, ◌≡◌, Bool, List, leb, length}
use Rattle.std.proofs.Math.Path.{refl}
use Rattle.std.proofs.Common.{sym, ap, subst, le-leb}
use Rattle.std.proofs.Math.Bool.{cond}
use Rattle.std.proofs.lemmas.Bool.{lt-leb}
use Rattle.base_sha256.specs.Fips.{sha256_of}
use Rattle.base_coin_string.specs.Coin.{coin_id_of}
use Rattle.book.specs.Refusals as refusals
use Rattle.codec_forms.specs.Wire.{overlay}
use Rattle.codec_forms.specs.Puts.{Puts, puts_overlay}

-- what a function returns, and what it leaves in the bytes lent for its answer
pub record Answered : Type 0 where
  pub number : ℕ
  pub answer : List ℕ

-- refused: every lent byte stays
abbrev pub declined : ℕ → List ℕ → Answered
declined n a = record { number = n; answer = a }

-- the answer l at the front of a; 12, and nothing changes, where it does not fit
unfoldable pub answer_in : List ℕ → List ℕ → Answered
unfolding overlay
answer_in l a = cond (leb (length l) (length a)) (record { number = 0; answer = overlay l a }) (declined refusals.short_buffer a)

-- the digest (FIPS 180-4) of the bytes s, 32 bytes
abbrev pub digest_in : List ℕ → List ℕ → Answered
digest_in s a = answer_in (sha256_of s) a

-- the id of a coin string ("Coin id: SHA-256 of the coin string"); more than 73 bytes are none, and are refused 3
unfoldable pub coin_id_in : List ℕ → List ℕ → Answered
unfolding answer_in
coin_id_in s a = cond (leb (length s) 73) (answer_in (coin_id_of s) a) (declined refusals.bad_value a)

-- what such a function leaves
pub record GivesAnswer (l : Answered) (n : ℕ) (a : List ℕ) : Type 0 where
  pub number : n ≡ l.number
  pub answer : a ≡ l.answer

pub answer_as : {x y : Answered} {n : ℕ} {a : List ℕ} → x ≡ y → GivesAnswer x n a → GivesAnswer y n a
answer_as {x} {y} {n} {a} q g = subst (λ (l : Answered). GivesAnswer l n a) q g

-- ---- laws
pub digest_length : (s : List ℕ) → length (sha256_of s) ≡ 32
unfolding sha256_of
digest_length s = refl

module _ (l a : List ℕ) where
  pub answer_short : length a < length l → GivesAnswer (answer_in l a) refusals.short_buffer a
  unfolding answer_in
  answer_short h =
      answer_as (sym (ap (λ (t : Bool). cond t (record { number = 0; answer = overlay l a }) (declined refusals.short_buffer a)) (lt-leb (length l) (length a) h)))
      (record { number = refl; answer = refl })

  pub answer_put : {a' : List ℕ} {e : ℕ} → length l ≤ length a → Puts l 0 a a' e → GivesAnswer (answer_in l a) 0 a'
  unfolding answer_in
  answer_put h p =
      answer_as (sym (ap (λ (t : Bool). cond t (record { number = 0; answer = overlay l a }) (declined refusals.short_buffer a)) (le-leb (length l) (length a) h)))
      (record { number = refl; answer = (puts_overlay p).1 })

module _ (s a : List ℕ) where
  pub no_coin_lem : 73 < length s → GivesAnswer (coin_id_in s a) refusals.bad_value a
  unfolding coin_id_in
  no_coin_lem h = answer_as (sym (ap (λ (t : Bool). cond t (answer_in (coin_id_of s) a) (declined refusals.bad_value a)) (lt-leb (length s) 73 h))) (record { number = refl; answer = refl })

  pub coin_told : {n : ℕ} {a' : List ℕ} → length s ≤ 73 → GivesAnswer (digest_in s a) n a' → GivesAnswer (coin_id_in s a) n a'
  unfolding coin_id_in
  coin_told h g = answer_as (sym (ap (λ (t : Bool). cond t (answer_in (coin_id_of s) a) (declined refusals.bad_value a)) (le-leb (length s) 73 h))) g
