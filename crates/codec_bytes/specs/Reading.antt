-- What each parser of `wire` finds behind the test of the room, and behind what the parser before it found.
use Rattle.std.specs.Prelude.{ℕ, zero, suc, ◌+◌, ◌-◌, ◌≤◌, ◌<◌, ◌≡◌, Bool, true, false, not, List, ◌++◌, length, get_or, take, drop, replicate, leb}
use Rattle.std.proofs.Common.{sym, ap, ◌∙◌, append-nil, arith, length-drop, length-take, drop-cons, le-leb, leb-true}
use Rattle.std.proofs.Math.Nat.{sub-zero}
use Rattle.std.proofs.lemmas.Bool.{lt-leb, not-true, not-false}
use Rattle.base_lists.specs.Lists.{cells}
use Rattle.codec_forms.specs.Wire.{Ans, got, bad, and_then, Parser, ◌>>=◌, run, be_from, number, checked, up_to, overlay}

-- ---- one parser and then the next
pub then_bad : {A B : Type 0} (p : Parser A) (k : A → Parser B) (s : List ℕ) (at : ℕ) {e : ℕ} → p s at ≡ bad e → (p >>= k) s at ≡ bad e
then_bad {A} p k s at h = ap (λ (r : Ans A). and_then r (λ a d. k a s d)) h

pub then_got : {A B : Type 0} (p : Parser A) (k : A → Parser B) (s : List ℕ) (at : ℕ) {e : ℕ} {a : A} → p s at ≡ got a e → (p >>= k) s at ≡ k a s e
then_got {A} p k s at h = ap (λ (r : Ans A). and_then r (λ a d. k a s d)) h

-- ---- bytes and numbers
pub run_short : (n : ℕ) (s : List ℕ) (at : ℕ) {r : Bool} → r ≡ leb (at + n) (length s) → not r ≡ true → run n s at ≡ bad at
unfolding run
run_short n s at {r} e q = rw (sym e ∙ not-true r q)

pub has_long : (n : ℕ) (s : List ℕ) (at : ℕ) {r : Bool} → r ≡ leb (at + n) (length s) → not r ≡ false → at + n ≤ length s
has_long n s at {r} e q = leb-true (at + n) (length s) (sym e ∙ not-false r q)

pub run_got : (n : ℕ) (s : List ℕ) (at : ℕ) → at + n ≤ length s → run n s at ≡ got (take n (drop at s)) (at + n)
unfolding run
run_got n s at h = rw (le-leb (at + n) (length s) h)

pub number_short : (n : ℕ) (s : List ℕ) (at : ℕ) → run n s at ≡ bad at → number n s at ≡ bad at
unfolding number
number_short n s at h = rw h

pub number_got : (n : ℕ) (s : List ℕ) (at : ℕ) → at + n ≤ length s → number n s at ≡ got (be_from 0 (take n (drop at s))) (at + n)
unfolding number
number_got n s at h = rw (run_got n s at h)

first_byte : (s : List ℕ) (at : ℕ) → at + 1 ≤ length s → be_from 0 (take 1 (drop at s)) ≡ get_or s at 0
unfolding be_from
first_byte s at h = rw (drop-cons s at 0 (omega arith)) (omega arith)

pub byte_got : (s : List ℕ) (at : ℕ) → at + 1 ≤ length s → number 1 s at ≡ got (get_or s at 0) (at + 1)
byte_got s at h = number_got 1 s at h ∙ ap (λ (n : ℕ). got n (at + 1)) (first_byte s at h)

pub up_to_short : (m : ℕ) (s : List ℕ) (at : ℕ) → run 1 s at ≡ bad at → up_to m s at ≡ bad at
unfolding up_to checked
up_to_short m s at h = rw (number_short 1 s at h)

pub up_to_over : (m : ℕ) (s : List ℕ) (at : ℕ) → at + 1 ≤ length s → m < get_or s at 0 → up_to m s at ≡ bad at
unfolding up_to checked
up_to_over m s at h k = rw (byte_got s at h, lt-leb (get_or s at 0) m k)

pub up_to_got : (m : ℕ) (s : List ℕ) (at : ℕ) → at + 1 ≤ length s → get_or s at 0 ≤ m → up_to m s at ≡ got (get_or s at 0) (at + 1)
unfolding up_to checked
up_to_got m s at h k = rw (byte_got s at h, le-leb (get_or s at 0) m k)

-- ---- bytes into cells
abbrev zeros : ℕ → List ℕ
zeros n = replicate n 0

drop_zeros : (k n : ℕ) → drop k (zeros n) ≡ zeros (n - k)
drop_zeros zero n = ap zeros (sym (sub-zero n))
drop_zeros (suc k) zero = ap zeros (q k)
  where
    q : (k : ℕ) → 0 ≡ 0 - suc k
    q k = omega arith
drop_zeros (suc k) (suc n) = drop_zeros k n ∙ ap zeros (q n k)
  where
    q : (n k : ℕ) → n - k ≡ suc n - suc k
    q n k = omega arith

pub overlay_cells : (n : ℕ) (l : List ℕ) → overlay l (replicate n 0) ≡ cells n 0 l
unfolding overlay
overlay_cells n l = ap (λ (t : List ℕ). l ++ t) (drop_zeros (length l) n)

pub cells_full : (n : ℕ) (l : List ℕ) → length l ≡ n → cells n 0 l ≡ l
cells_full n l h =
    let q : n - length l ≡ 0 = omega arith in
    ap (λ (i : ℕ). l ++ replicate i 0) q ∙ append-nil l

-- ---- a run of n bytes in an array of n
pub hash_got : (n : ℕ) (s b : List ℕ) (at : ℕ) → at + n ≤ length s → b ≡ overlay (take n (drop at s)) (replicate n 0) → run n s at ≡ got b (at + n)
hash_got n s b at h e =
    let q : length (take n (drop at s)) ≡ n = simp (length-take, length-drop) (omega arith) in
    run_got n s at h ∙ ap (λ (l : List ℕ). got l (at + n)) (sym (e ∙ overlay_cells n (take n (drop at s)) ∙ cells_full n (take n (drop at s)) q))
