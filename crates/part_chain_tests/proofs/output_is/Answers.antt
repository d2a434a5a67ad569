-- The coin's bytes are those of its parts, so the id made of them is the one that the contract compares.
use mathlib.Core.List.{List}
use mathlib.Core.Path.{ap, ◌∙◌}
use Prim.Native.Nat.{ℕ}
use Rattle.base_lists.specs.Bytes.{eqs}
use Rattle.base_coin_string.specs.Coin.{coin_id_of, from_parts_bytes}
use Rattle.part_chain_tests.proofs.output_is.Goals as goal

pub returns : goal.returns
returns c = c.eq.ensures ∙ ap (λ (l : List ℕ). eqs l c.args.id) (c.to_coin_id.ensures ∙ ap coin_id_of (from_parts_bytes c.from_parts-c.ensures))
