use mathlib.Core.Path.{ap, ◌∙◌}
use Prim.Native.Nat.{ℕ, ◌/◌}
use mathlib.Core.List.{List}
use lib.ListN.{length}
use Rattle.std.specs.List.{list_any}
use Rattle.base_lists.specs.Bytes.{eqs}
use Rattle.base_coin_string.specs.CoinIds.{among_chunks}
use Rattle.base_coin_string.proofs.has_id.Goals as goal

pub returns : goal.returns
returns c = let s = c.args.s.now in let i = c.args.id.now in c.contains.ensures.value ∙ ap (list_any (λ (x : List ℕ). eqs x i)) c.as_chunks.ensures.front ∙ among_chunks i (length s / 32) s
