-- Archive writing, for an archive form handed in: the whole archive, or 12.
use Rattle.std.specs.Prelude.{ℕ, List}
use Rattle.book.specs.Model.{Book}
use Rattle.rules.specs.Calls.Common.{writing}
use Rattle.rules.specs.Rule.{Rule, ◌>>=◌, book}

unfoldable pub write_archive : (Book → List ℕ) → ℕ → Rule (List ℕ)
unfolding writing
write_archive encode room = do
  b ← book
  writing room (encode b)
