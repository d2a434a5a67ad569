-- Elements one after the other, each with its index.
use Rattle.std.specs.Prelude.{◌≡◌, List, [], ◌∷◌, ◌++◌, ℕ, zero, suc, ◌+◌, ◌<◌, length, get_or, take}
use Rattle.std.proofs.Common.{sym, ap, ◌∙◌, append_assoc, append-nil, arith, add-zero}
use Rattle.codec_append.specs.Fits.{Fits, fits_join, fits_as, fits_none}

-- the text of each element, the first of which has index k
unfoldable pub each_from : {A : Type 0} → (ℕ → A → List ℕ) → ℕ → List A → List ℕ
each_from f k [] = []
each_from f k (x ∷ l) = f k x ++ each_from f (suc k) l

each_suc : {A : Type 0} (z : A) (f : ℕ → A → List ℕ) (k : ℕ) (l : List A) (i : ℕ) → i < length l → each_from f k (take (i + 1) l) ≡ each_from f k (take i l) ++ f (k + i) (get_or l i z)
unfolding each_from
each_suc z f k [] i h = absurd (omega arith)
each_suc z f k (x ∷ l) zero h = append-nil (f k x) ∙ ap (λ (n : ℕ). f n x) (sym (add-zero k))
each_suc z f k (x ∷ l) (suc i) h =
    let q : suc i + 1 ≡ suc (i + 1) = omega arith in
    let w : suc k + i ≡ k + suc i = omega arith in
    ap (λ (n : ℕ). each_from f k (take n (x ∷ l))) q
    ∙ ap (λ (t : List ℕ). f k x ++ t) (each_suc z f (suc k) l i (omega arith))
    ∙ sym (append_assoc (f k x) (each_from f (suc k) (take i l)) (f (suc k + i) (get_or l i z)))
    ∙ ap (λ (n : ℕ). f k x ++ each_from f (suc k) (take i l) ++ f n (get_or l i z)) w

-- ---- a loop that appends them
pub nth_start : {A : Type 0} (f : ℕ → A → List ℕ) (l : List A) (at : ℕ) (d : List ℕ) → Fits (each_from f 0 (take 0 l)) at d d at
unfolding each_from
nth_start f l at d = fits_none at d

pub nth_more : {A : Type 0} (z : A) (f : ℕ → A → List ℕ) (l : List A) (i : ℕ) {at : ℕ} {d d₁ d₂ : List ℕ} {e₁ e₂ : ℕ} → i < length l → Fits (each_from f 0 (take i l)) at d d₁ e₁ → Fits (f i (get_or l i z)) e₁ d₁ d₂ e₂ → Fits (each_from f 0 (take (i + 1) l)) at d d₂ e₂
nth_more z f l i h p q =
    let w : 0 + i ≡ i = omega arith in
    fits_as (sym (each_suc z f 0 l i h ∙ ap (λ (n : ℕ). each_from f 0 (take i l) ++ f n (get_or l i z)) w)) (fits_join p q)
