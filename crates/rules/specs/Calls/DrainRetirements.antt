-- `drain_retirements`: the retirements are handed out and forgotten.
use Rattle.std.specs.Prelude.{ℕ, List}
use Rattle.rules.specs.Rule.{done, unretire_all, note, Rule, ◌>>=◌, ◌>>◌, book, step}

unfoldable pub drain_retirements : Rule (List ℕ)
drain_retirements = do
  b ← book
  step (note unretire_all)
  done b.retired
