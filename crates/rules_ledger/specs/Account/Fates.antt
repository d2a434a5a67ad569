-- Every step keeps it that the fates of each submission's tokens are those that its events tell.
use Rattle.std.specs.Prelude.{ℕ, ◌≡◌}
use mathlib.Core.List.{List}
use Rattle.rules_ledger.specs.Events.{Event, events_of, fates_of, fates_by}
use Rattle.rules_ledger.specs.Ledger.{Row}

-- the fates of each submission's tokens are those that its events tell
abbrev pub Settled : List Row → List Event → Type 0
Settled rows es = (i : ℕ) → fates_of i rows ≡ fates_by (events_of i es)
