-- The issued tokens are the numbers from the opening token up to the next one, each once.
use Rattle.std.specs.Prelude.{ℕ, zero, suc, ◌+◌, ◌-◌, Bool, true, false, cond, ◌≡◌, refl, eqb, length}
use mathlib.Core.List.Memᴰ
use mathlib.Core.List.{List, [], ◌∷◌, map, Memᴰ}
use Rattle.std.specs.Prelude.{None, Some}
use Rattle.std.proofs.lemmas.Option.{none-some}
use Rattle.std.specs.Prelude.{unwrap_or}
use Rattle.std.proofs.Common.{sym, ap, ap₂, ◌∙◌, arith, eqb-true, eq-eqb}
use Rattle.rules_ledger.specs.Ledger.{Row, Ledger, row_token}
use Rattle.rules_ledger.specs.Tidy.{Issue, issue_of, Down, Tidy, last_to}

-- n numbers from o on, the last first
unfoldable pub down_to : ℕ → ℕ → List ℕ
down_to o zero = []
down_to o (suc n) = (o + n) ∷ down_to o n

next_is : (o n : ℕ) (rows : List Row) → Down o n (map issue_of rows) → n ≡ o + length rows
next_is o n [] d = omega arith
next_is o n (r ∷ rows) d = let ih = next_is o (row_token r) rows d.1 in omega arith

run_down : (o n : ℕ) (rows : List Row) → Down o n (map issue_of rows) → map row_token rows ≡ down_to o (length rows)
unfolding down_to
run_down o n [] d = refl
run_down o n (r ∷ rows) d = ap₂ (λ t ts. t ∷ ts) (next_is o (row_token r) rows d.1) (run_down o (row_token r) rows d.1)

module _ {o : ℕ} (l : Ledger) (t : Tidy o l) where
  pub next_token_lem : l.next_token ≡ o + length l.rows
  next_token_lem = next_is o l.next_token l.rows t.tokens

  pub tokens_run : map row_token l.rows ≡ down_to o (l.next_token - o)
  tokens_run = rw (size) (run_down o l.next_token l.rows t.tokens)
    where
      size : l.next_token - o ≡ length l.rows
      size = let e = next_token_lem in omega arith

-- no token is the last one issued to i exactly where none was issued to it
pub none_issued : (i : ℕ) (h : List Issue) → last_to i h ≡ None → (x : Issue) → Memᴰ x h → x.id ≡ i → ⊥
unfolding last_to
none_issued i [] e x m k = Memᴰ.not-nil m
none_issued i (y ∷ h) e x (Memᴰ.head p) k = none-some y.token (sym (rw (eq-eqb y.id i (ap (λ z. z.id) (sym p) ∙ k)) at e))
none_issued i (y ∷ h) e x (Memᴰ.tail m) k = go (eqb y.id i) e (λ q. none_issued i h q x m k)
  where
    go : (t : Bool) → cond t (Some y.token) (last_to i h) ≡ None → (last_to i h ≡ None → ⊥) → ⊥
    go true q ih = none-some y.token (sym q)
    go false q ih = ih q

pub some_issued : (i t : ℕ) (h : List Issue) → last_to i h ≡ Some t → Memᴰ (record { token = t; id = i }) h
unfolding last_to
some_issued i t [] e = absurd (none-some t e)
some_issued i t (y ∷ h) e = go (eqb y.id i) refl e (λ q. some_issued i t h q)
  where
    go : (b : Bool) → eqb y.id i ≡ b → cond b (Some y.token) (last_to i h) ≡ Some t → (last_to i h ≡ Some t → Memᴰ (record { token = t; id = i }) h) → Memᴰ (record { token = t; id = i }) (y ∷ h)
    go true k q ih = Memᴰ.head (λ j. record { token = sym (ap (λ o. unwrap_or o y.token) q) j; id = sym (eqb-true y.id i k) j })
    go false k q ih = Memᴰ.tail (ih q)
