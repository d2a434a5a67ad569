-- The parts one behind the other.
use Rattle.archive_form.specs.Parse.{parse_delivery, parse_id, parse_height, parse_trigger, parse_goal, trigger_of, goal_of}
use Rattle.std.specs.Prelude.{None}
use Rattle.archive_walk.specs.Skips.{skips, skips_then, skips_mapped, skips_optional, skips_number, skips_end}
use Rattle.archive_walk.proofs.skip.skip_delivery.Goals as goal

pub returns : goal.returns
unfolding parse_delivery parse_id parse_height parse_trigger parse_goal
returns c =
    skips_then _ (skips_optional None (λ m h. skips_then _ (skips_number 8 h) (λ l. skips_end _)) c.skip_optional.ensures) (λ i.
    skips_then _ c.skip_bundle.ensures (λ b.
    skips_then _ (skips_optional None (λ m h. skips_then _ (skips_number 8 h) (λ l. skips_end _)) c.skip_optional-2.ensures) (λ e.
    skips_then _ c.skip_fee_intent.ensures (λ f. skips_then _ (skips_mapped trigger_of (skips c.read_count.ensures.reads)) (λ t.
    skips_then _ (skips_mapped goal_of (skips c.read_count-2.ensures.reads)) (λ g. skips_end _))))))
