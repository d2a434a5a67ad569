-- The ids collected so far are those of the submissions passed that the chain has rolled back.
use Rattle.base_coin_string.specs.CoinIds.{ids_in}
use Rattle.base_coin_string.specs.CoinList.{coins_in}
use Rattle.book.specs.Sound.{id_of}
use Rattle.part_ids.specs.Collect.{Collecting}
use Rattle.call_causally_rolled_back_ids.specs.RolledBack.{is_rolled_back}
use Rattle.call_causally_rolled_back_ids.proofs.rolled_back_ids.Given as goal

abbrev pub invariant-loop-t : goal.invariant-loop-t
invariant-loop-t l = Collecting id_of (is_rolled_back (coins_in l.absent) (ids_in l.inputs)) l.retained l.out l.t-index
