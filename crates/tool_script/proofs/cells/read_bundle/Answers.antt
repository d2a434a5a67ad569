-- A count, and the spends behind it.
use Rattle.tool_script.specs.Onward.{on_told, on_then, byte_on}
use Rattle.tool_script.proofs.cells.read_bundle.Goals as goal

pub returns : goal.returns
returns c = rw c.then_some.ensures (on_told _ _ (on_then (byte_on c.read_count-count.ensures) c.read_spends-cells.ensures) (λ k. k))
