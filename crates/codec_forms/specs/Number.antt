-- Big-endian numbers: the bytes of a number and the number of bytes undo each other, at every width.
use Rattle.std.specs.Prelude.{ℕ, zero, suc, ◌+◌, ◌*◌, ◌/◌, ◌%◌, ◌^◌, ◌≤◌, ◌<◌, ◌≡◌, refl, Bool, true, false, List, [], ◌∷◌, ◌++◌, length, get_or, take}
use Rattle.std.proofs.Common.{sym, ap, ◌∙◌, pow-suc, add-one, arith, length-append, take-suc, take_all, length-take-le}
use Rattle.codec_forms.specs.Wire.{be, be_from, enc_many, enc_opt}
use Rattle.codec_forms.specs.Lawful.{IsBytes}

pub be_length : (w n : ℕ) → length (be w n) ≡ w
unfolding be
be_length zero n = refl
be_length (suc w) n = length-append (be w (n / 256)) (n % 256 ∷ []) ∙ ap (λ (k : ℕ). k + 1) (be_length w (n / 256)) ∙ add-one w

-- numbers of 8 bytes, one after the other
pub numbers_length : (l : List ℕ) → length (enc_many (be 8) l) ≡ length l * 8
unfolding enc_many
numbers_length [] = refl
numbers_length (x ∷ l) = omega (arith, length-append (be 8 x) (enc_many (be 8) l), be_length 8 x, numbers_length l)

-- an optional part behind its count
pub opt_size : (b : Bool) (k : ℕ) (l : List ℕ) → length l ≤ k → length (enc_opt b l) ≤ 1 + k
unfolding enc_opt
opt_size false k l h = omega (arith, be_length 1 0)
opt_size true k l h = omega (arith, length-append (be 1 1) l, be_length 1 1)

pub from_snoc : (acc : ℕ) (l : List ℕ) (x : ℕ) → be_from acc (l ++ (x ∷ [])) ≡ be_from acc l * 256 + x
unfolding be_from
from_snoc acc [] x = refl
from_snoc acc (y ∷ l) x = from_snoc (acc * 256 + y) l x

pub from_be : (w n : ℕ) → n < 256 ^ w → be_from 0 (be w n) ≡ n
unfolding be be_from
from_be zero n h = omega arith
from_be (suc w) n h =
    let k : n / 256 < 256 ^ w = omega (arith, pow-suc 256 w) in
    from_snoc 0 (be w (n / 256)) (n % 256) ∙ ap (λ (v : ℕ). v * 256 + n % 256) (from_be w (n / 256) k) ∙ omega arith

-- a list of suc w elements is its first w and the last
pub last_split : (w : ℕ) (l : List ℕ) → length l ≡ suc w → l ≡ take w l ++ (get_or l w 0 ∷ [])
last_split w l h = sym (take_all (suc w) l (omega arith)) ∙ take-suc l w 0 (omega arith)

pub bytes_take : (w : ℕ) (l : List ℕ) → IsBytes l → IsBytes (take w l)
bytes_take zero l b i = omega arith
bytes_take (suc w) [] b i = omega arith
bytes_take (suc w) (x ∷ l) b zero = b 0
bytes_take (suc w) (x ∷ l) b (suc i) = bytes_take w l (λ j. b (suc j)) i

pub from_bound : (w : ℕ) (l : List ℕ) → length l ≡ w → IsBytes l → be_from 0 l < 256 ^ w
unfolding be_from
from_bound zero [] h b = omega arith
from_bound zero (x ∷ l) h b = absurd (omega arith)
from_bound (suc w) l h b =
    let v : be_from 0 (take w l) < 256 ^ w = from_bound w (take w l) (length-take-le w l (omega arith)) (bytes_take w l b) in
    let e : be_from 0 l ≡ be_from 0 (take w l) * 256 + get_or l w 0 = ap (be_from 0) (last_split w l h) ∙ from_snoc 0 (take w l) (get_or l w 0) in
    omega (arith, b w, pow-suc 256 w)

pub be_from_lem : (w : ℕ) (l : List ℕ) → length l ≡ w → IsBytes l → be w (be_from 0 l) ≡ l
unfolding be
be_from_lem zero [] h b = refl
be_from_lem zero (x ∷ l) h b = absurd (omega arith)
be_from_lem (suc w) l h b =
    let e : be_from 0 l ≡ be_from 0 (take w l) * 256 + get_or l w 0 = ap (be_from 0) (last_split w l h) ∙ from_snoc 0 (take w l) (get_or l w 0) in
    let q : be_from 0 l / 256 ≡ be_from 0 (take w l) = omega (arith, b w) in
    let r : be_from 0 l % 256 ≡ get_or l w 0 = omega (arith, b w) in
    let i = be_from_lem w (take w l) (length-take-le w l (omega arith)) (bytes_take w l b) in
    rw (q, r, i) (sym (last_split w l h))

snoc_bytes : (l : List ℕ) (x : ℕ) → IsBytes l → x < 256 → IsBytes (l ++ (x ∷ []))
snoc_bytes [] x b h zero = h
snoc_bytes [] x b h (suc i) = omega arith
snoc_bytes (y ∷ l) x b h zero = b 0
snoc_bytes (y ∷ l) x b h (suc i) = snoc_bytes l x (λ j. b (suc j)) h i

pub be_bytes : (w n : ℕ) → IsBytes (be w n)
unfolding be
be_bytes zero n i = omega arith
be_bytes (suc w) n i = snoc_bytes (be w (n / 256)) (n % 256) (be_bytes w (n / 256)) (omega arith) i
