-- Coins listed in bytes: a count in two bytes, the high one first, and then coins, each led by its length in one byte.
use Rattle.std.specs.Prelude.{Option, Some, None, ◌≡◌, refl, Bool, true, false, cond, ◌&&◌, List, [], ◌∷◌, ℕ, zero, suc, ◌+◌, ◌*◌, leb, ltb, length, get_or, take, drop}

abbrev pub count_of : List ℕ → ℕ
count_of [] = 0
count_of (a ∷ []) = 0
count_of (a ∷ b ∷ s) = a * 256 + b

-- a coin of k bytes stands in what is left: "length-led coins up to 73 bytes"
abbrev pub stands : ℕ → List ℕ → Bool
stands k s = leb k 73 && leb k (length s)

-- n coins, and nothing behind them
abbrev pub used_up : ℕ → List ℕ → Bool
used_up zero [] = true
used_up zero (b ∷ s) = false
used_up (suc n) [] = false
used_up (suc n) (k ∷ s) = stands k s && used_up n (drop k s)

-- what refusal 2 asks of a coin list: "a 2-byte count (at most 800) and length-led coins up to 73 bytes that use the bytes up"
abbrev pub coin_listb : List ℕ → Bool
coin_listb s = leb 2 (length s) && leb (count_of s) 800 && used_up (count_of s) (drop 2 s)

-- the first n coins; one that is too long or cut short ends them
abbrev pub coins_from : ℕ → List ℕ → List (List ℕ)
coins_from zero s = []
coins_from (suc n) [] = []
coins_from (suc n) (k ∷ s) = cond (stands k s) (take k s ∷ coins_from n (drop k s)) []

abbrev pub coins_in : List ℕ → List (List ℕ)
coins_in s = coins_from (count_of s) (drop 2 s)

-- the end of the coin whose length stands at a place, if one stands whole
abbrev pub end_at : List ℕ → ℕ → Option ℕ
end_at s at = cond (ltb at (length s)) (cond (stands (get_or s at 0) (drop (at + 1) s)) (Some (at + 1 + get_or s at 0)) None) None

-- two coins, one of them empty; a list cut short; a byte left over; a length of 74
two : coins_in (0 ∷ 2 ∷ 0 ∷ 3 ∷ 7 ∷ 8 ∷ 5 ∷ []) ≡ [] ∷ (7 ∷ 8 ∷ 5 ∷ []) ∷ []
two = refl

two_whole : coin_listb (0 ∷ 2 ∷ 0 ∷ 3 ∷ 7 ∷ 8 ∷ 5 ∷ []) ≡ true
two_whole = refl

cut_short : coin_listb (0 ∷ 2 ∷ 0 ∷ 3 ∷ 7 ∷ 8 ∷ []) ≡ false
cut_short = refl

left_over : coin_listb (0 ∷ 1 ∷ 0 ∷ 0 ∷ []) ≡ false
left_over = refl

none_listed : coin_listb (0 ∷ 0 ∷ []) ≡ true
none_listed = refl

over_800 : leb (count_of (3 ∷ 33 ∷ [])) 800 ≡ false
over_800 = refl
