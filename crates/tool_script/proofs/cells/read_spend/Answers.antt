-- The parts of a spend one behind the other.
use Rattle.tool_script.specs.Onward.{byte_on, hash_on, on_then}
use Rattle.tool_script.proofs.cells.read_spend.Goals as goal

pub returns : goal.returns
returns c =
    on_then (byte_on c.read_count-coin_len.ensures) (on_then c.read_coin-coin.ensures (on_then (hash_on c.read_hash-digest.ensures)
    (on_then (byte_on c.read_count-mark.ensures) (on_then (byte_on c.read_count-output_count.ensures) c.read_outputs-outputs.ensures))))
