-- The parts one behind the other.
use Rattle.archive_form.specs.Parse.{parse_facts, parse_resolution, parse_hash, parse_chain, parse_height, resolution_of, chain_of}
use Rattle.book.specs.Zero.{zero_hash}
use Rattle.std.specs.Prelude.{None}
use Rattle.archive_walk.specs.Skips.{skips, skips_then, skips_mapped, skips_optional, skips_number, skips_end}
use Rattle.archive_walk.proofs.skip.skip_facts.Goals as goal

pub returns : goal.returns
unfolding parse_facts parse_resolution parse_hash parse_chain parse_height
returns c =
    skips_then _ c.skip.ensures (λ p. skips_then _ c.skip_bundle.ensures (λ b. skips_then _ c.skip_variant.ensures (λ v.
    skips_then _ (skips_mapped resolution_of (skips c.read_count.ensures.reads)) (λ r. skips_then _ c.skip_fee_intent.ensures (λ f.
    skips_then _ (skips_optional zero_hash (λ m h. skips_then _ h (λ l. skips_end _)) c.skip_optional.ensures) (λ a.
    skips_then _ (skips_mapped chain_of (skips c.read_count-2.ensures.reads)) (λ c'.
    skips_then _ (skips_optional None (λ m h. skips_then _ (skips_number 8 h) (λ l. skips_end _)) c.skip_optional-2.ensures) (λ e. skips_end _))))))))
