-- `active_ids`: the ids of the Active submissions, in retained order.
use Rattle.std.specs.Prelude.{Bool, List, map, ℕ}
use Rattle.std.specs.List.{filter}
use Rattle.book.specs.declared.SubmittedTx.{SubmittedTx}
use Rattle.book.specs.Sound.{id_of}
use Rattle.rules.specs.Parts.{active_entry}

abbrev pub is_active : SubmittedTx → Bool
is_active t = active_entry t.entry

abbrev pub active_in : List SubmittedTx → List ℕ
active_in ts = map id_of (filter is_active ts)
