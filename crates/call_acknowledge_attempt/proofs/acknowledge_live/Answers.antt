-- The two tests are the rules' refusals 6 and 8; else the revised submission is stored in its cell and its queue entries go.
use borrow.Author.Rules.{rules}
use borrow.Author.Tests.{not-true, not-false}
use mathlib.Core.Path.{◌∙◌}
use Rattle.part_lookup.specs.Normal.{sound_normal}
use Rattle.part_change.specs.ChangeLaws.{store_is}
use Rattle.part_attempt_answers.specs.Answers.{compared}
use Rattle.part_attempt_answers.specs.Stored.{read_at, within_16, stored_normal}
use Rattle.call_acknowledge_attempt.specs.Acknowledging.{acknowledge_unfinalised, acknowledge_other, acknowledge_answer}
use Rattle.call_acknowledge_attempt.proofs.acknowledge_live.Goals as goal
use Rattle.std.specs.Prelude.{true, false}

pub offset_bounds-b-k : goal.offset_bounds-b-k
offset_bounds-b-k c = search (rules, within_16 c.args.b.parts (sound_normal c.args.b.parts c.args.b.sound) c.args.k c.requires)

pub bounds-b-k : goal.bounds-b-k
bounds-b-k c = search (rules, within_16 c.args.b.parts (sound_normal c.args.b.parts c.args.b.sound) c.args.k c.requires)

pub returns-then-not-a : goal.returns-then-not-a
returns-then-not-a c = c.refused.ensures ∙ acknowledge_unfinalised c.args.b.parts c.args.b.sound c.args.k c.requires (read_at c.args.b.parts (sound_normal c.args.b.parts c.args.b.sound) c.args.k c.requires _) (not-true _ c.if-not-a.true)

pub returns-then-ne : goal.returns-then-ne
returns-then-ne c =
    c.refused-then-ne.ensures
    ∙ acknowledge_other c.args.b.parts c.args.b.sound c.args.k c.requires (read_at c.args.b.parts (sound_normal c.args.b.parts c.args.b.sound) c.args.k c.requires _)
    (not-false _ c.if-not-a.false)
    (compared false c.ne.ensures c.current_variant_fingerprint.ensures c.resolved_variant_fingerprint-f.ensures c.if-ne.true)

pub offset_bounds-b-k-2 : goal.offset_bounds-b-k-2
offset_bounds-b-k-2 c = search (rules, within_16 c.args.b.parts (sound_normal c.args.b.parts c.args.b.sound) c.args.k c.requires)

pub bounds-b-k-2 : goal.bounds-b-k-2
bounds-b-k-2 c = search (rules, within_16 c.args.b.parts (sound_normal c.args.b.parts c.args.b.sound) c.args.k c.requires)

pub unqueue-left-requires : goal.unqueue-left-requires
unqueue-left-requires c = stored_normal c.args.k c.acknowledged_aside.result (sound_normal c.args.b.parts c.args.b.sound) (store_is c.args.b.parts (sound_normal c.args.b.parts c.args.b.sound) c.args.k c.acknowledged_aside.result c.requires)

pub returns : goal.returns
returns c =
    c.done.ensures
    ∙ acknowledge_answer c.args.b.parts c.args.b.sound c.args.k c.requires (read_at c.args.b.parts (sound_normal c.args.b.parts c.args.b.sound) c.args.k c.requires _)
    (not-false _ c.if-not-a.false)
    (compared true c.ne.ensures c.current_variant_fingerprint.ensures c.resolved_variant_fingerprint-f.ensures c.if-ne.false)
    c.resolved_variant_fingerprint-f.ensures c.acknowledged_aside.ensures (store_is c.args.b.parts (sound_normal c.args.b.parts c.args.b.sound) c.args.k c.acknowledged_aside.result c.requires) c.unqueue-left.ensures
