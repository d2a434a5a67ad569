-- By the count: at 16 the rules refuse a 17th entry as full, and else there is room, and the pushed book is the sound one they leave.
use Rattle.part_lookup.specs.Normal.{sound_normal}
use Rattle.part_offer.specs.OfferLaws.{room, enqueue_full, enqueue_sound, enqueue_on}
use Rattle.part_offer.proofs.enqueue.Goals as goal

pub returns-then-b-eq16 : goal.returns-then-b-eq16
returns-then-b-eq16 c = enqueue_full c.args.b.parts c.args.b.sound c.args.d c.requires c.if-b-eq16.true

pub push_pending-parts-requires : goal.push_pending-parts-requires
push_pending-parts-requires c = (sound_normal c.args.b.parts c.args.b.sound, room c.args.b.parts c.args.b.sound c.args.d c.requires c.if-b-eq16.false, c.requires)

pub invariant_of-result : goal.invariant_of-result
invariant_of-result c = record { sound = enqueue_sound c.args.b.parts c.args.b.sound c.args.d c.requires c.if-b-eq16.false c.push_pending-parts.ensures }

pub returns : goal.returns
returns c = enqueue_on c.args.b.parts c.args.b.sound c.args.d c.requires c.if-b-eq16.false c.push_pending-parts.ensures
