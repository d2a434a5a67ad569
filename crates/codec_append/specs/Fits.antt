-- Parts appended to a buffer: written where there is room for them.
use Rattle.std.specs.Option.{option_map}
use Rattle.std.specs.Prelude.{Option, None, Some, ◌≡◌, refl, Bool, true, false, not, List, [], ◌++◌, ℕ, ◌+◌, ◌-◌, ◌*◌, ◌≤◌, ◌<◌, min, length, get_or, take, drop}
use Rattle.std.proofs.Common.{sym, ap, ◌∙◌, subst, zero-le, arith, add-zero, one-mul, add-mul, length-append, length-drop, drop_of_length-le, length-take-le}
use Rattle.std.proofs.lemmas.Bool.{not-true, not-false}
use Rattle.base_lists.specs.Laws.{take_cut, part_to_end}
use Rattle.codec_forms.specs.Wire.{be, enc_many, enc_opt, enc_opt_number}
use Rattle.codec_forms.specs.Number.{be_length}
use Rattle.codec_forms.specs.Puts.{Puts, Room, room_first, room_next, puts_join, puts_long, splice_none, many_suc, rest_room, rest_puts}

-- where l has room in d from place `at` on, it is written there, d is d' then and e the place behind it; in any case no place leaves the buffer
pub record Fits (l : List ℕ) (at : ℕ) (d d' : List ℕ) (e : ℕ) : Type 0 where
  pub puts : Room l at d → Puts l at d d' e
  pub long : length d' ≡ length d
  pub inside : at ≤ length d → e ≤ length d

pub fits_join : {a b : List ℕ} {at : ℕ} {d d₁ d₂ : List ℕ} {e₁ e₂ : ℕ} → Fits a at d d₁ e₁ → Fits b e₁ d₁ d₂ e₂ → Fits (a ++ b) at d d₂ e₂
fits_join {a} {b} {at} {d} {d₁} {d₂} {e₁} {e₂} f g = record {
  puts = λ h. let p = f.puts (room_first b h) in puts_join h p (g.puts (room_next h p));
  long = g.long ∙ f.long;
  inside = λ h. subst (λ (n : ℕ). e₂ ≤ n) f.long (g.inside (subst (λ (n : ℕ). e₁ ≤ n) (sym f.long) (f.inside h)));
}

pub fits_as : {a b : List ℕ} {at : ℕ} {d d' : List ℕ} {e : ℕ} → a ≡ b → Fits a at d d' e → Fits b at d d' e
fits_as {a} {b} {at} {d} {d'} {e} q p = subst (λ (l : List ℕ). Fits l at d d' e) q p

pub fits_none : (at : ℕ) (d : List ℕ) → Fits [] at d d at
fits_none at d = record { puts = λ h. record { next = sym (add-zero at); holds = sym (splice_none at d) }; long = refl; inside = λ h. h }

pub fits_put : {l : List ℕ} {at : ℕ} {d d' : List ℕ} {e : ℕ} → Room l at d → Puts l at d d' e → Fits l at d d' e
fits_put h p = record { puts = λ k. p; long = puts_long h p; inside = λ k. omega (arith, h.fits, p.next) }

-- ---- elements one after the other
pub each_start : {A : Type 0} (enc : A → List ℕ) (l : List A) (at : ℕ) (d : List ℕ) → Fits (enc_many enc (take 0 l)) at d d at
unfolding enc_many
each_start enc l at d = fits_none at d

pub each_more : {A : Type 0} (z : A) (enc : A → List ℕ) (l : List A) (i : ℕ) {at : ℕ} {d d₁ d₂ : List ℕ} {e₁ e₂ : ℕ} → i < length l → Fits (enc_many enc (take i l)) at d d₁ e₁ → Fits (enc (get_or l i z)) e₁ d₁ d₂ e₂ → Fits (enc_many enc (take (i + 1) l)) at d d₂ e₂
each_more z enc l i h f g = fits_as (sym (many_suc z enc l i h)) (fits_join f g)

pub each_done : {A : Type 0} (enc : A → List ℕ) (l : List A) (N n k i : ℕ) {at : ℕ} {d d' : List ℕ} {e : ℕ} → length l ≡ N → k ≡ min n N → i ≤ k → k ≤ i → Fits (enc_many enc (take i l)) at d d' e → Fits (enc_many enc (take n l)) at d d' e
each_done enc l N n k i h q a b f =
    let w : i ≡ k = omega arith in
    fits_as (ap (λ (x : ℕ). enc_many enc (take x l)) w ∙ ap (enc_many enc) (take_cut N n k l h q)) f

-- ---- a part written into the rest of the buffer, which starts at n
pub fits_rest : (l xs ys : List ℕ) (n e : ℕ) → n ≤ length xs → Fits l 0 (take (length xs - n) (drop n xs)) ys e → Fits l n xs (take n xs ++ (ys ++ drop (length xs - n) (drop n xs))) (n + e)
fits_rest l xs ys n e h f =
    let w : length (take (length xs - n) (drop n xs)) ≡ length xs - n = ap length (part_to_end xs n) ∙ length-drop n xs in
    let z : drop (length xs - n) (drop n xs) ≡ [] = drop_of_length-le (drop n xs) {i = length xs - n} (rw length-drop (omega arith)) in
    record {
      puts = λ r. rest_puts l xs ys n e r (f.puts (rest_room l xs n r));
      long = ap (λ (t : List ℕ). length (take n xs ++ (ys ++ t))) z ∙ length-append (take n xs) (ys ++ []) ∙ omega (arith, length-append ys [], length-take-le n xs h, f.long, w);
      inside = λ k. omega (arith, f.inside (omega arith), w);
    }

-- one part from the start, and another into the rest behind it
module _ {a : List ℕ} {d xs : List ℕ} {n : ℕ} (f : Fits a 0 d xs n) where
  pub rest_starts : n ≤ length xs
  rest_starts = subst (λ (k : ℕ). n ≤ k) (sym f.long) (f.inside (omega arith))

  pub fits_both : (b : List ℕ) {ys : List ℕ} {e : ℕ} → Fits b 0 (take (length xs - n) (drop n xs)) ys e → Fits (a ++ b) 0 d (take n xs ++ (ys ++ drop (length xs - n) (drop n xs))) (n + e)
  fits_both b {ys} {e} g = fits_join f (fits_rest b xs ys n e rest_starts g)

-- ---- an optional part
pub fits_absent_part : (b : Bool) (l : List ℕ) {at : ℕ} {d d' : List ℕ} {e : ℕ} → not b ≡ true → Fits (be 1 0) at d d' e → Fits (enc_opt b l) at d d' e
unfolding enc_opt
fits_absent_part b l {at} {d} {d'} {e} q f = subst (λ (x : Bool). Fits (enc_opt x l) at d d' e) (sym (not-true b q)) f

pub fits_present_part : (b : Bool) {l : List ℕ} {at : ℕ} {d d₁ d₂ : List ℕ} {e₁ e₂ : ℕ} → not b ≡ false → Fits (be 1 1) at d d₁ e₁ → Fits l e₁ d₁ d₂ e₂ → Fits (enc_opt b l) at d d₂ e₂
unfolding enc_opt
fits_present_part b {l} {at} {d} {d₁} {d₂} {e₁} {e₂} q f g = subst (λ (x : Bool). Fits (enc_opt x l) at d d₂ e₂) (sym (not-false b q)) (fits_join f g)

-- an optional number, by cases, and one in a type of its own
pub fits_no_number : {n : Option ℕ} {at : ℕ} {d d' : List ℕ} {e : ℕ} → n ≡ None → Fits (be 1 0) at d d' e → Fits (enc_opt_number (λ x. x) n) at d d' e
fits_no_number {n} q f = fits_as (sym (ap (enc_opt_number (λ x. x)) q)) f

pub fits_some_number : {n : Option ℕ} {x at : ℕ} {d d₁ d₂ : List ℕ} {e₁ e₂ : ℕ} → n ≡ Some x → Fits (be 1 1) at d d₁ e₁ → Fits (be 8 x) e₁ d₁ d₂ e₂ → Fits (enc_opt_number (λ x. x) n) at d d₂ e₂
fits_some_number {n} {x} q f g = fits_as (sym (ap (enc_opt_number (λ x. x)) q)) (fits_join f g)

pub fits_number_of : {A : Type 0} (number : A → ℕ) (o : Option A) {n : Option ℕ} {at : ℕ} {d d' : List ℕ} {e : ℕ} → n ≡ option_map number o → Fits (enc_opt_number (λ x. x) n) at d d' e → Fits (enc_opt_number number o) at d d' e
fits_number_of {A} number o {n} q f = fits_as (ap (enc_opt_number (λ x. x)) q ∙ same o) f
  where
    same : (o : Option A) → enc_opt_number (λ x. x) (option_map number o) ≡ enc_opt_number number o
    same None = refl
    same (Some x) = refl

-- ---- parts whose greatest length is known
pub record FitsWithin (most : ℕ) (l : List ℕ) (at : ℕ) (d d' : List ℕ) (e : ℕ) : Type 0 where
  pub fits : Fits l at d d' e
  pub few : length l ≤ most

pub within_join : {m n : ℕ} {a b : List ℕ} {at : ℕ} {d d₁ d₂ : List ℕ} {e₁ e₂ : ℕ} → FitsWithin m a at d d₁ e₁ → FitsWithin n b e₁ d₁ d₂ e₂ → FitsWithin (m + n) (a ++ b) at d d₂ e₂
within_join {m} {n} {a} {b} f g = record { fits = fits_join f.fits g.fits; few = omega (arith, length-append a b, f.few, g.few) }

pub within_as : {m : ℕ} {a b : List ℕ} {at : ℕ} {d d' : List ℕ} {e : ℕ} → a ≡ b → FitsWithin m a at d d' e → FitsWithin m b at d d' e
within_as {m} {a} {b} {at} {d} {d'} {e} q p = subst (λ (l : List ℕ). FitsWithin m l at d d' e) q p

-- a byte that says the number k
pub within_byte : {j k : ℕ} {at : ℕ} {d d' : List ℕ} {e : ℕ} → j ≡ k → Fits (be 1 j) at d d' e → FitsWithin 1 (be 1 k) at d d' e
within_byte {j} {k} q f = record { fits = fits_as (ap (be 1) q) f; few = omega (arith, be_length 1 k) }

-- i parts are no longer than n of them
fewer : (m i n : ℕ) → i ≤ n → i * m ≤ n * m
fewer m i n h =
    let q : i + (n - i) ≡ n = omega arith in
    let p : n * m ≡ i * m + (n - i) * m = ap (λ (x : ℕ). x * m) (sym q) ∙ add-mul i (n - i) m in
    omega (arith, p)

pub within_start : {A : Type 0} (m : ℕ) (enc : A → List ℕ) (l : List A) (at : ℕ) (d : List ℕ) → FitsWithin (0 * m) (enc_many enc (take 0 l)) at d d at
unfolding enc_many
within_start m enc l at d = record { fits = fits_none at d; few = zero-le }

pub within_more : {A : Type 0} (m : ℕ) (z : A) (enc : A → List ℕ) (l : List A) (i : ℕ) {at : ℕ} {d d₁ d₂ : List ℕ} {e₁ e₂ : ℕ} → i < length l → FitsWithin (i * m) (enc_many enc (take i l)) at d d₁ e₁ → FitsWithin m (enc (get_or l i z)) e₁ d₁ d₂ e₂ → FitsWithin ((i + 1) * m) (enc_many enc (take (i + 1) l)) at d d₂ e₂
within_more m z enc l i {at} {d} {d₁} {d₂} {e₁} {e₂} h f g =
    let q : i * m + m ≡ (i + 1) * m = ap (λ (x : ℕ). i * m + x) (sym (one-mul m)) ∙ sym (add-mul i 1 m) in
    within_as (sym (many_suc z enc l i h)) (subst (λ (x : ℕ). FitsWithin x (enc_many enc (take i l) ++ enc (get_or l i z)) at d d₂ e₂) q (within_join f g))
