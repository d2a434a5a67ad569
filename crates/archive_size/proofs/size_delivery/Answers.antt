-- Straight code: id, bundle, expiry and fee intent have the callees' sizes, and the trigger and goal take one byte each.
use Rattle.archive_size.specs.Lengths.{delivery_size}
use Rattle.archive_size.proofs.size_delivery.Goals as goal

pub returns : goal.returns
returns c =
    delivery_size c.args.d.now (c.size_id).result (c.size_bundle).result c.size_height.result c.size_fee_intent.result (c.size_id).ensures
    (c.size_bundle).ensures c.size_height.ensures c.size_fee_intent.ensures
