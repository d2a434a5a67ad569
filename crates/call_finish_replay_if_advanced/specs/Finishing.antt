-- The epoch that is left is normal, and the reply is that of the rules.
use Rattle.std.specs.Prelude.{Bool, cond, ◌≡◌}
use Rattle.std.proofs.Math.Bool.{true, false}
use mathlib.Core.List.{[]}
use Rattle.std.proofs.Math.Path.{refl, ap}
use Rattle.std.proofs.Common.{◌∙◌, arith}
use Rattle.book.specs.declared.BookData.{BookData}
use Rattle.book.specs.declared.Height.{Height}
use Rattle.std.specs.Prelude.{None}
use Rattle.book.specs.declared.ReplayEpoch.{ReplayEpoch}
use Rattle.book.specs.Model.{view, back}
use Rattle.book.specs.Sound.{soundb}
use Rattle.rules.specs.Rule.{done, note, end_epoch, act, run}
use Rattle.rules.specs.Steps.{on_book, run_book, note_book}
use Rattle.rules.specs.Steps.Notes.{noted}
use Rattle.rules.specs.Calls.Replay.{is_before, finish_replay_if_advanced}
use Rattle.part_replies.specs.Reply.{reply}
use Rattle.std.specs.Prelude.{Ok}
use Rattle.part_replies.specs.declared.Reply.{Reply}
use Rattle.part_replay.specs.Epoch as Epoch
use Rattle.part_replay.specs.Epoch.{epoch, finished, replayed_of}
use Rattle.part_replay.specs.EpochLaws.{normal_epoch}
use Rattle.part_lookup.specs.Normal.{sound_normal}
use Rattle.part_change.specs.Changes.{with_epoch_of}
use Rattle.part_change.specs.ChangeLaws.{epoch_normal}

module _ (b : BookData) where
  -- the epoch ends, or the one held stays
  abbrev by : Bool → ReplayEpoch
  by t = cond t (epoch None []) b.replay_epoch

  -- the reply with the epoch put into the book
  abbrev reply_of : ReplayEpoch → Reply (Unit {0}) BookData
  reply_of y = record { answer = Ok tt; book = back (with_epoch_of y.rollback_height (replayed_of y) (view b)) }

  module _ (h : Height) {x : ReplayEpoch} (e : x ≡ finished b.replay_epoch h) where
    pub finished_normal : soundb b ≡ true → Epoch.Normal x
    unfolding finished
    finished_normal s = rw e (go (is_before b.replay_epoch.rollback_height h.0))
      where
        go : (t : Bool) → Epoch.Normal (by t)
        go true = normal_epoch None [] (omega arith)
        go false = epoch_normal b (sound_normal b s)

    pub finish_is : {out : BookData} → out ≡ back (with_epoch_of x.rollback_height (replayed_of x) (view b))
        → record { answer = Ok tt; book = out } ≡ reply b (run_book (finish_replay_if_advanced h) (view b))
    unfolding finished finish_replay_if_advanced run on_book note_book noted view
    finish_is f =
        ap {B = Reply (Unit {0}) BookData} (λ (o : BookData). record { answer = Ok tt; book = o }) f
        ∙ ap reply_of e ∙ go (is_before b.replay_epoch.rollback_height h.0)
      where
        go : (t : Bool) → reply_of (by t) ≡ reply b (run_book (cond t (act (note end_epoch) (done tt)) (done tt)) (view b))
        go true = refl
        go false = refl
