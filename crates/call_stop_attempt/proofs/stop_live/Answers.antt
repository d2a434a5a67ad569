-- `stop_answer` joins the callees' promises: the submission at k, its slots set aside and stored again, is what the rules leave.
use borrow.Author.Rules.{rules}
use mathlib.Core.Path.{◌∙◌}
use Rattle.part_lookup.specs.Normal.{sound_normal}
use Rattle.part_change.specs.ChangeLaws.{store_is}
use Rattle.part_attempt_answers.specs.Stored.{read_at, within_16}
use Rattle.call_stop_attempt.specs.Stopping.{stop_answer}
use Rattle.call_stop_attempt.proofs.stop_live.Goals as goal

pub offset_bounds-b-k : goal.offset_bounds-b-k
offset_bounds-b-k c = search (rules, within_16 c.args.b.parts (sound_normal c.args.b.parts c.args.b.sound) c.args.k c.requires)

pub bounds-b-k : goal.bounds-b-k
bounds-b-k c = search (rules, within_16 c.args.b.parts (sound_normal c.args.b.parts c.args.b.sound) c.args.k c.requires)

pub offset_bounds-b-k-2 : goal.offset_bounds-b-k-2
offset_bounds-b-k-2 c = search (rules, within_16 c.args.b.parts (sound_normal c.args.b.parts c.args.b.sound) c.args.k c.requires)

pub bounds-b-k-2 : goal.bounds-b-k-2
bounds-b-k-2 c = search (rules, within_16 c.args.b.parts (sound_normal c.args.b.parts c.args.b.sound) c.args.k c.requires)

pub returns : goal.returns
returns c =
    c.done.ensures
    ∙ stop_answer c.args.b.parts c.args.b.sound c.args.k c.requires (read_at c.args.b.parts (sound_normal c.args.b.parts c.args.b.sound) c.args.k c.requires _) c.stop_in_place.ensures
    (store_is c.args.b.parts (sound_normal c.args.b.parts c.args.b.sound) c.args.k _ c.requires)
