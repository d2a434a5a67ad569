-- `emit_retirement`: the id is retired, once.
use Rattle.std.specs.Prelude.{ℕ}
use Rattle.rules.specs.Rule.{retire, note, Rule, ◌>>◌, step, end_turn}

unfoldable pub emit_retirement : ℕ → Rule (Unit {0})
emit_retirement i = do
  step (note (retire i))
  end_turn
