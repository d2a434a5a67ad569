-- The epoch that is begun is normal, and the reply is that of the rules.
use Rattle.std.specs.Prelude.{Bool, cond, ◌≡◌}
use Rattle.std.proofs.Math.Bool.{true, false}
use mathlib.Core.List.{[]}
use Rattle.std.proofs.Math.Path.{refl, ap}
use Rattle.std.proofs.Common.{◌∙◌, arith}
use Rattle.book.specs.declared.BookData.{BookData}
use Rattle.book.specs.declared.Height.{Height}
use Rattle.std.specs.Prelude.{Some}
use Rattle.book.specs.Model.{view, back}
use Rattle.book.specs.Sound.{soundb}
use Rattle.rules.specs.Rule.{done, note, begin_epoch, act, run}
use Rattle.rules.specs.Steps.{on_book, run_book, note_book}
use Rattle.rules.specs.Steps.Notes.{noted}
use Rattle.rules.specs.Calls.Replay.{is_at, begin_replay}
use Rattle.part_replies.specs.Reply.{reply}
use Rattle.std.specs.Prelude.{Ok}
use Rattle.part_replies.specs.declared.Reply.{Reply}
use Rattle.part_replay.specs.Epoch as Epoch
use Rattle.part_replay.specs.Epoch.{epoch, begun, replayed_of}
use Rattle.part_replay.specs.EpochLaws.{normal_epoch}
use Rattle.part_replay.specs.declared.Begun.{Begun}
use Rattle.part_lookup.specs.Normal.{sound_normal}
use Rattle.part_change.specs.Changes.{with_epoch_of}
use Rattle.part_change.specs.ChangeLaws.{epoch_normal}

module _ (b : BookData) where
  -- the epoch held stays, or one begins
  abbrev by : Height → Bool → Begun
  by h t = cond t (record { started = false; epoch = b.replay_epoch }) (record { started = true; epoch = epoch (Some h) [] })

  -- the reply with the epoch put into the book
  abbrev reply_of : Begun → Reply Bool BookData
  reply_of y = record { answer = Ok y.started; book = back (with_epoch_of y.epoch.rollback_height (replayed_of y.epoch) (view b)) }

  module _ (h : Height) {x : Begun} (e : x ≡ begun b.replay_epoch h) where
    pub begun_normal : soundb b ≡ true → Epoch.Normal x.epoch
    unfolding begun
    begun_normal s = rw e (go (is_at b.replay_epoch.rollback_height h.0))
      where
        go : (t : Bool) → Epoch.Normal (by h t).epoch
        go true = epoch_normal b (sound_normal b s)
        go false = normal_epoch (Some h) [] (omega arith)

    pub begin_is : {out : BookData} → out ≡ back (with_epoch_of x.epoch.rollback_height (replayed_of x.epoch) (view b))
        → record { answer = Ok x.started; book = out } ≡ reply b (run_book (begin_replay h) (view b))
    unfolding begun begin_replay run on_book note_book noted view
    begin_is f =
        ap {B = Reply Bool BookData} (λ (o : BookData). record { answer = Ok x.started; book = o }) f
        ∙ ap reply_of e ∙ go (is_at b.replay_epoch.rollback_height h.0)
      where
        go : (t : Bool) → reply_of (by h t) ≡ reply b (run_book (cond t (done false) (act (note (begin_epoch h)) (done true))) (view b))
        go true = refl
        go false = refl
