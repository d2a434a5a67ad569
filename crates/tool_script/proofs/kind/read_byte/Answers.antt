-- A byte ends behind its start.
use Rattle.tool_script.specs.Onward.{byte_on, on_told}
use Rattle.tool_script.proofs.kind.read_byte.Goals as goal

pub returns : goal.returns
returns c = rw c.then_some.ensures (on_told _ _ (byte_on c.read_count-value.ensures) (λ k. k))
