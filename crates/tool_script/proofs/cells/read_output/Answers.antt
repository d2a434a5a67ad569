-- A hash, and a number behind it.
use Rattle.tool_script.specs.Onward.{hash_on, number_on, on_then}
use Rattle.tool_script.proofs.cells.read_output.Goals as goal

pub returns : goal.returns
returns c = on_then (hash_on c.read_hash-puzzle_hash.ensures) (number_on c.read_number-amount.ensures)
