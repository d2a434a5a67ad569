-- `restore_runtime`: each live attempt is set aside.
use Rattle.std.specs.Prelude.{ℕ, List, [], ◌∷◌, map}
use Rattle.book.specs.Sound.{id_of}
use Rattle.rules.specs.Rule.{done, set_aside, Rule, ◌>>=◌, ◌>>◌, book, step}

unfoldable pub set_aside_each : List ℕ → Rule (Unit {0})
set_aside_each [] = done tt
set_aside_each (i ∷ is) = do
  step (set_aside i)
  set_aside_each is

unfoldable pub restore_runtime : Rule (Unit {0})
unfolding set_aside_each
restore_runtime = do
  b ← book
  set_aside_each (map id_of b.submitted)
