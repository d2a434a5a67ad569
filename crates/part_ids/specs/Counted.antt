-- Laws of counted cells, for cells of any kind: a store, a push, a read.
use Rattle.std.specs.Prelude.{◌≡◌, refl, List, [], ◌∷◌, ◌++◌, ℕ, zero, suc, ◌+◌, ◌-◌, ◌≤◌, ◌<◌, length, get_or, set, replicate}
use Rattle.std.proofs.Common.{sym, ap, ◌∙◌, arith, length-append, length-set}
use Rattle.std.proofs.Math.Nat.{sub-zero}
use Rattle.std.proofs.Math.ListN.{get_or-append}
use Rattle.base_lists.specs.Lists.{cells}
use Rattle.base_lists.specs.Laws.{set_cells, push_cells, length_cells}
use Rattle.book.specs.SoundLaws.{Counted}

-- inside a list the default plays no part
pub get_d_any : {A : Type 0} (xs : List A) (i : ℕ) (d e : A) → i < length xs → get_or xs i d ≡ get_or xs i e
get_d_any [] i d e h = absurd (omega arith)
get_d_any (x ∷ xs) zero d e h = refl
get_d_any (x ∷ xs) (suc i) d e h = get_d_any xs i d e (omega arith)

pub counted_none : {A : Type 0} (N : ℕ) (z : A) → Counted N z 0 (replicate N z) []
counted_none N z = record { count = refl; held = ap (λ (k : ℕ). replicate k z) (sym (sub-zero N)) }

module _ {A : Type 0} {N : ℕ} {z : A} {n : ℕ} {cs xs : List A} (c : Counted N z n cs xs) where
  pub counted_long : length xs ≤ N → length cs ≡ N
  counted_long h = ap length c.held ∙ length_cells N z xs h

  -- a store into a used cell
  pub counted_set : (k : ℕ) (x : A) → k < length xs → Counted N z n (set cs k x) (set xs k x)
  counted_set k x h = record {
    count = c.count ∙ sym (length-set xs k x);
    held = ap (λ (ys : List A). set ys k x) c.held ∙ set_cells N z xs k x h;
  }

  -- a store into the first unused cell
  pub counted_push : (x : A) → n < N → Counted N z (n + 1) (set cs n x) (xs ++ x ∷ [])
  counted_push x h =
      let e : n ≡ length xs = c.count in
      record {
        count = let l = length-append xs (x ∷ []) in omega arith;
        held = ap (λ (ys : List A). set ys n x) c.held ∙ ap (λ (k : ℕ). set (cells N z xs) k x) e ∙ push_cells N z xs x (omega arith);
      }

  -- a used cell
  pub counted_get : (k : ℕ) (d e : A) → k < length xs → get_or cs k d ≡ get_or xs k e
  counted_get k d e h =
      ap (λ (ys : List A). get_or ys k d) c.held ∙ get_or-append xs (replicate (N - length xs) z) d k h ∙ get_d_any xs k d e h
