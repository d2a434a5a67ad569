-- The place of the first bit that is set tells the number of bytes (`length_by_log`).
use Rattle.base_coin_string.specs.AmountLaws.{length_by_log}
use Prim.Native.Nat.{◌^◌, ◌<◌}
use borrow.Author.Rules.{rules}
use Rattle.base_coin_string.proofs.atom_len.Goals as goal

pub returns : goal.returns
returns c = let h : c.args.amount < 2 ^ 64 = search rules in length_by_log c.args.amount c.ilog2.result c.ilog2.ensures.power_le c.ilog2.ensures.next_power_gt h
