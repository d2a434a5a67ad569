-- The rows of the four fates are all the rows.
use Rattle.std.specs.Prelude.{ℕ, suc, ◌+◌, cond, List, [], ◌∷◌, ◌≡◌, refl, eqb, length}
use Rattle.std.proofs.Common.{arith}
use Rattle.rules_ledger.specs.Ledger.{live, aside, Fate, displaced, struck, Row}

abbrev pub number : Fate → ℕ
number displaced = 0
number struck = 1
number aside = 2
number live = 3

-- the number of rows of a fate
unfoldable pub count : Fate → List Row → ℕ
count f [] = 0
count f (r ∷ rows) = cond (eqb (number r.fate) (number f)) (suc (count f rows)) (count f rows)

pub counts : (rows : List Row) → count displaced rows + count struck rows + count aside rows + count live rows ≡ length rows
unfolding count
counts [] = refl
counts (r ∷ rows) = by r.fate (counts rows)
  where
    now : Fate → Fate → ℕ
    now f g = cond (eqb (number g) (number f)) (suc (count f rows)) (count f rows)

    by : (g : Fate) → count displaced rows + count struck rows + count aside rows + count live rows ≡ length rows
        → now displaced g + now struck g + now aside g + now live g ≡ suc (length rows)
    by displaced ih = omega arith
    by struck ih = omega arith
    by aside ih = omega arith
    by live ih = omega arith
