-- `active_ids`: the ids of the Active submissions, in retained order.
use Rattle.std.specs.Prelude.{ℕ, List, map}
use Rattle.std.specs.List.{filter}
use Rattle.book.specs.Sound.{id_of}
use Rattle.rules.specs.Parts.{active_entry}
use Rattle.rules.specs.Rule.{done, Rule, ◌>>=◌, book}

unfoldable pub active_ids : Rule (List ℕ)
active_ids = do
  b ← book
  done (map id_of (filter (λ t. active_entry t.entry) b.submitted))
