-- Refusals 5, 7 and 8 are the rules' tests in order; behind them the decision is the rules' answer: refusal 9, or one store.
use borrow.Author.Rules.{rules}
use mathlib.Core.Bool.{true, false}
use mathlib.Core.Path.{refl, sym, ap, ◌∙◌}
use borrow.Author.Tests.{not-true, not-false}
use Rattle.book.specs.Model.{view}
use Rattle.book.specs.declared.BookData.{BookData}
use Rattle.rules.specs.Calls.FinalizeAttempt.{finalize_live}
use Rattle.part_replies.specs.Reply.{reply}
use Rattle.part_replies.specs.declared.Reply.{Reply}
use Rattle.std.specs.Prelude.{Ok}
use Rattle.part_lookup.specs.Normal.{sound_normal}
use Rattle.part_change.specs.ChangeLaws.{store_is}
use Rattle.part_attempt_answers.specs.Answers.{compared, of_read}
use Rattle.part_attempt_answers.specs.Stored.{read_at, within_16}
use Rattle.call_finalize_attempt.specs.Tests.{live_finalised, live_invalid, live_other, live_on}
use Rattle.call_finalize_attempt.specs.Decision.{decision}
use Rattle.call_finalize_attempt.specs.Decided.{decided_refused, decided_stored}
use Rattle.rules.specs.Parts.{current_fingerprint}
use Rattle.book.specs.declared.SubmittedTx.{SubmittedTx}
use Rattle.book_answers.specs.declared.FinalizedSubmission.{FinalizedSubmission}
use Rattle.std.specs.Prelude.{Option, Some}
use Rattle.call_finalize_attempt.proofs.finalize_live.Goals as goal

pub offset_bounds-b-k : goal.offset_bounds-b-k
offset_bounds-b-k c = search (rules, within_16 c.args.b.parts (sound_normal c.args.b.parts c.args.b.sound) c.args.k c.requires.0)

pub bounds-b-k : goal.bounds-b-k
bounds-b-k c = search (rules, within_16 c.args.b.parts (sound_normal c.args.b.parts c.args.b.sound) c.args.k c.requires.0)

pub returns-then-a : goal.returns-then-a
returns-then-a c =
    c.refused.ensures
    ∙ ap (reply c.args.b.parts)
    (of_read (finalize_live c.args.source c.args.joined) (view c.args.b.parts) (read_at c.args.b.parts (sound_normal c.args.b.parts c.args.b.sound) c.args.k c.requires.0 _)
    (live_finalised c.args.source c.args.joined _ (view c.args.b.parts) c.if-a.true))

pub returns-then-not-valid : goal.returns-then-not-valid
returns-then-not-valid c =
    c.refused-then-not-valid.ensures
    ∙ ap (reply c.args.b.parts)
    (of_read (finalize_live c.args.source c.args.joined) (view c.args.b.parts) (read_at c.args.b.parts (sound_normal c.args.b.parts c.args.b.sound) c.args.k c.requires.0 _)
    (live_invalid c.args.source c.args.joined _ (view c.args.b.parts) c.if-a.false (sym c.validate-valid.ensures ∙ not-true _ c.if-not-valid.true-raw)))

pub returns-then-ne : goal.returns-then-ne
returns-then-ne c =
    c.refused-then-ne.ensures
    ∙ ap (reply c.args.b.parts)
    (of_read (finalize_live c.args.source c.args.joined) (view c.args.b.parts) (read_at c.args.b.parts (sound_normal c.args.b.parts c.args.b.sound) c.args.k c.requires.0 _)
    (live_other c.args.source c.args.joined _ (view c.args.b.parts) c.if-a.false
    (sym c.validate-valid.ensures ∙ not-false _ c.if-not-valid.false-raw)
    (compared false c.ne.ensures (c.hash_current-h.result.current ∙ ap (λ (t : SubmittedTx). current_fingerprint t.entry) c.hash_current-h.ensures) refl c.if-ne.true)))

pub decide-requires : goal.decide-requires
decide-requires c = c.requires.1

pub offset_bounds-b-k-in-Ok : goal.offset_bounds-b-k-in-Ok
offset_bounds-b-k-in-Ok c = search (rules, within_16 c.args.b.parts (sound_normal c.args.b.parts c.args.b.sound) c.args.k c.requires.0)

pub bounds-b-k-in-Ok : goal.bounds-b-k-in-Ok
bounds-b-k-in-Ok c = search (rules, within_16 c.args.b.parts (sound_normal c.args.b.parts c.args.b.sound) c.args.k c.requires.0)

pub returns-in-Err : goal.returns-in-Err
returns-in-Err c =
    c.refused-in-Err.ensures
    ∙ decided_refused c.args.b.parts c.args.k _ (record { sound = c.args.b.sound; within = c.requires.0; read = read_at c.args.b.parts (sound_normal c.args.b.parts c.args.b.sound) c.args.k c.requires.0 _ }) c.args.source
    c.args.joined (sym c.in-Err.is ∙ c.decide.ensures ∙ ap (decision c.args.source c.args.joined) c.hash_current-h.ensures)
    ∙ ap (reply c.args.b.parts)
    (of_read (finalize_live c.args.source c.args.joined) (view c.args.b.parts) (read_at c.args.b.parts (sound_normal c.args.b.parts c.args.b.sound) c.args.k c.requires.0 _)
    (live_on c.args.source c.args.joined _ (view c.args.b.parts) c.if-a.false
    (sym c.validate-valid.ensures ∙ not-false _ c.if-not-valid.false-raw)
    (compared true c.ne.ensures (c.hash_current-h.result.current ∙ ap (λ (t : SubmittedTx). current_fingerprint t.entry) c.hash_current-h.ensures) refl c.if-ne.false)))

pub returns-in-Ok : goal.returns-in-Ok
returns-in-Ok c =
    c.done.ensures
    ∙ ap {B = Reply (Option FinalizedSubmission) BookData} (λ (x : BookData). record { answer = Ok (Some c.in-Ok.d.last); book = x }) (store_is c.args.b.parts (sound_normal c.args.b.parts c.args.b.sound) c.args.k c.in-Ok.d.next c.requires.0)
    ∙ decided_stored c.args.b.parts c.args.k _ (record { sound = c.args.b.sound; within = c.requires.0; read = read_at c.args.b.parts (sound_normal c.args.b.parts c.args.b.sound) c.args.k c.requires.0 _ }) c.args.source
    c.args.joined (sym c.in-Ok.is ∙ c.decide.ensures ∙ ap (decision c.args.source c.args.joined) c.hash_current-h.ensures)
    ∙ ap (reply c.args.b.parts)
    (of_read (finalize_live c.args.source c.args.joined) (view c.args.b.parts) (read_at c.args.b.parts (sound_normal c.args.b.parts c.args.b.sound) c.args.k c.requires.0 _)
    (live_on c.args.source c.args.joined _ (view c.args.b.parts) c.if-a.false
    (sym c.validate-valid.ensures ∙ not-false _ c.if-not-valid.false-raw)
    (compared true c.ne.ensures (c.hash_current-h.result.current ∙ ap (λ (t : SubmittedTx). current_fingerprint t.entry) c.hash_current-h.ensures) refl c.if-ne.false)))
