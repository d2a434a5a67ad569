-- Straight code: bundles, fee intent, acknowledged hash and expiry have the callees' sizes, and 34 bytes are the fingerprint, the resolution and the terminality.
use Rattle.archive_size.specs.Lengths.{facts_size}
use borrow.Author.Rules.{rules}
use Rattle.archive_size.proofs.size_facts.Goals as goal

pub returns : goal.returns
returns c =
    facts_size c.args.e.intent c.args.e.state
    c.size_bundle.result c.size_variant.result c.size_fee_intent.result c.size_hash.result c.size_height.result (search rules)
    c.size_bundle.ensures c.size_variant.ensures c.size_fee_intent.ensures c.size_hash.ensures c.size_height.ensures
