-- A kind, a target and an amount one behind the other.
use Rattle.tool_script.specs.Onward.{on_told, on_then, byte_on, hash_on, number_on}
use Rattle.tool_script.proofs.cells.read_fee_intent.Goals as goal

pub returns : goal.returns
returns c =
    rw c.then_some.ensures
    (on_told _ _ (on_then (byte_on c.read_count-number.ensures) (on_then (hash_on c.read_hash-target.ensures) (number_on c.read_number-amount.ensures))) (λ k. k))
