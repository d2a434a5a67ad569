-- What a loop over a coin list uses: a whole coin at a place is the first of those from there on.
use Rattle.std.specs.Prelude.{Some, None, ◌≡◌, refl, Bool, true, false, cond, ◌&&◌, List, [], ◌∷◌, ℕ, zero, suc, ◌+◌, ◌-◌, ◌≤◌, ◌<◌, leb, ltb, eqb, length, get_or, take, drop}
use Rattle.std.proofs.Common.{sym, ap, ◌∙◌, arith, length-drop, drop_of_length-le, drop-drop, ltb-true, ltb-false, leb-true, eqb-true}
use Rattle.std.proofs.Math.Numerals.{lt_of_le_of_ne}
use Rattle.std.proofs.lemmas.Bool.{eqb-false}
use Rattle.base_lists.specs.Laws.{rest_step, and_split}
use Rattle.base_coin_string.specs.CoinList.{stands, used_up, coins_from, end_at}

-- what an end at a place tells of what stands there
pub record Whole (s : List ℕ) (at to : ℕ) : Type 0 where
  pub start : at + 1 ≤ to
  pub end : to ≤ length s
  pub short : to ≤ at + 74
  pub coins : (n : ℕ) → 0 < n → coins_from n (drop at s) ≡ take (to - (at + 1)) (drop (at + 1) s) ∷ coins_from (n - 1) (drop to s)
  pub used : (n : ℕ) → 0 < n → used_up n (drop at s) ≡ used_up (n - 1) (drop to s)

-- and what the lack of an end tells
pub record Broken (s : List ℕ) (at : ℕ) : Type 0 where
  pub coins : (n : ℕ) → coins_from n (drop at s) ≡ []
  pub used : (n : ℕ) → 0 < n → used_up n (drop at s) ≡ false

some_is : {a b : ℕ} → Some a ≡ Some b → a ≡ b
some_is e = cc

module _ (s : List ℕ) (at : ℕ) where
  module _ (l : at < length s) where
    -- the list from a place on is a length and what follows it
    led_coins : (n : ℕ) → 0 < n → coins_from n (drop at s) ≡ cond (stands (get_or s at 0) (drop (at + 1) s)) (take (get_or s at 0) (drop (at + 1) s) ∷ coins_from (n - 1) (drop (at + 1 + get_or s at 0) s)) []
    led_coins zero p = absurd (omega arith)
    led_coins (suc n) p =
        let m : suc n - 1 ≡ n = omega arith in
        rw (m, rest_step s at 0, drop-drop)

    led_used : (n : ℕ) → 0 < n → used_up n (drop at s) ≡ (stands (get_or s at 0) (drop (at + 1) s) && used_up (n - 1) (drop (at + 1 + get_or s at 0) s))
    led_used zero p = absurd (omega arith)
    led_used (suc n) p =
        let m : suc n - 1 ≡ n = omega arith in
        rw (m, rest_step s at 0, drop-drop)

    whole_at : (to : ℕ) → stands (get_or s at 0) (drop (at + 1) s) ≡ true → to ≡ at + 1 + get_or s at 0 → Whole s at to
    whole_at to q e =
        let t = and_split (leb (get_or s at 0) 73) (leb (get_or s at 0) (length (drop (at + 1) s))) q in
        let a : get_or s at 0 ≤ 73 = leb-true _ _ t.0 in
        let b : get_or s at 0 ≤ length (drop (at + 1) s) = leb-true _ _ t.1 in
        let d : get_or s at 0 ≡ to - (at + 1) = omega arith in
        record {
          start = omega arith;
          end = omega (arith, length-drop (at + 1) s);
          short = omega arith;
          coins = λ n p. led_coins n p
              ∙ ap (λ (b : Bool). cond b (take (get_or s at 0) (drop (at + 1) s) ∷ coins_from (n - 1) (drop (at + 1 + get_or s at 0) s)) []) q
              ∙ (λ j. take (d j) (drop (at + 1) s) ∷ coins_from (n - 1) (drop (sym e j) s));
          used = λ n p. led_used n p
              ∙ ap (λ (b : Bool). b && used_up (n - 1) (drop (at + 1 + get_or s at 0) s)) q
              ∙ ap (λ (i : ℕ). used_up (n - 1) (drop i s)) (sym e);
        }

    broken_at_lem : stands (get_or s at 0) (drop (at + 1) s) ≡ false → Broken s at
    broken_at_lem q = record {
      coins = none;
      used = λ n p. led_used n p ∙ ap (λ (b : Bool). b && used_up (n - 1) (drop (at + 1 + get_or s at 0) s)) q;
    }
      where
        none : (n : ℕ) → coins_from n (drop at s) ≡ []
        none zero = refl
        none (suc n) = led_coins (suc n) (omega arith) ∙ ap (λ (b : Bool). cond b (take (get_or s at 0) (drop (at + 1) s) ∷ coins_from (suc n - 1) (drop (at + 1 + get_or s at 0) s)) []) q

  past_end : length s ≤ at → Broken s at
  past_end h = record { coins = none; used = unused }
    where
      none : (n : ℕ) → coins_from n (drop at s) ≡ []
      none zero = refl
      none (suc n) = ap (coins_from (suc n)) (drop_of_length-le s {i = at} h)

      unused : (n : ℕ) → 0 < n → used_up n (drop at s) ≡ false
      unused zero p = absurd (omega arith)
      unused (suc n) p = ap (used_up (suc n)) (drop_of_length-le s {i = at} h)

  pub whole : (to : ℕ) → Some to ≡ end_at s at → Whole s at to
  whole to e = go (ltb at (length s)) refl e
    where
      inside : (b : Bool) → stands (get_or s at 0) (drop (at + 1) s) ≡ b → at < length s → Some to ≡ cond b (Some (at + 1 + get_or s at 0)) None → Whole s at to
      inside true q l e = whole_at l to q (some_is e)
      inside false q l e = absurd (let z : ◌≡◌ {A = ℕ} 0 1 = cc in omega arith)

      go : (b : Bool) → ltb at (length s) ≡ b → Some to ≡ cond b (cond (stands (get_or s at 0) (drop (at + 1) s)) (Some (at + 1 + get_or s at 0)) None) None → Whole s at to
      go true q e = inside (stands (get_or s at 0) (drop (at + 1) s)) refl (ltb-true _ _ q) e
      go false q e = absurd (let z : ◌≡◌ {A = ℕ} 0 1 = cc in omega arith)

  pub broken : None ≡ end_at s at → Broken s at
  broken e = go (ltb at (length s)) refl e
    where
      inside : (b : Bool) → stands (get_or s at 0) (drop (at + 1) s) ≡ b → at < length s → None ≡ cond b (Some (at + 1 + get_or s at 0)) None → Broken s at
      inside true q l e = absurd (let z : ◌≡◌ {A = ℕ} 0 1 = cc in omega arith)
      inside false q l e = broken_at_lem l q

      go : (b : Bool) → ltb at (length s) ≡ b → None ≡ cond b (cond (stands (get_or s at 0) (drop (at + 1) s)) (Some (at + 1 + get_or s at 0)) None) None → Broken s at
      go true q e = inside (stands (get_or s at 0) (drop (at + 1) s)) refl (ltb-true _ _ q) e
      go false q e = past_end (ltb-false _ _ q)

-- no coin is left: the place is the end
pub used_end : (s : List ℕ) (at : ℕ) → at ≤ length s → used_up 0 (drop at s) ≡ eqb at (length s)
used_end s at h = go (eqb at (length s)) refl
  where
    go : (b : Bool) → eqb at (length s) ≡ b → used_up 0 (drop at s) ≡ b
    go true e = ap (used_up 0) (drop_of_length-le s {i = at} (let q = eqb-true at (length s) e in omega arith))
    go false e = ap (used_up 0) (rest_step s at 0 (lt_of_le_of_ne h (eqb-false at (length s) e)))

-- no coin is left
pub coins_end : (s : List ℕ) (left : ℕ) → left ≤ 0 → coins_from left s ≡ []
coins_end s zero h = refl
coins_end s (suc n) h = absurd (omega arith)

pub used_zero : (s : List ℕ) (left : ℕ) → left ≤ 0 → used_up left s ≡ used_up 0 s
used_zero s zero h = refl
used_zero s (suc n) h = absurd (omega arith)
