-- A number ends behind its start.
use Rattle.tool_script.specs.Onward.{number_on, on_told}
use Rattle.tool_script.proofs.kind.read_number.Goals as goal

pub returns : goal.returns
returns c = rw c.then_some.ensures (on_told _ _ (number_on c.read_number-value.ensures) (λ k. k))
