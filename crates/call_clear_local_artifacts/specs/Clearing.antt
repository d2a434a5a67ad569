-- What `clear_local_artifacts` answers, from what its parts answered: the reply of its rules.
use Rattle.std.specs.Prelude.{List, ℕ, ◌≡◌, ◌≤◌, length, None, Result, Ok, Err}
use mathlib.Core.List.{[], map}
use Rattle.std.proofs.Math.Path.{refl, ap}
use Rattle.std.proofs.Common.{sym, ◌∙◌, arith}
use Rattle.base_lists.specs.Laws.{rising_length}
use Rattle.base_lists.specs.Lists.{rising}
use Rattle.book.specs.Model.{Book, view, back}
use Rattle.book.specs.Sound.{id_of}
use Rattle.book.specs.SoundLaws.{Fits}
use Rattle.book.specs.declared.BookData.{BookData}
use Rattle.book.specs.declared.ReplayEpoch.{ReplayEpoch}
use Rattle.book.specs.declared.refusal.Refusal.{Refusal}
use Rattle.book.specs.declared.sound.SoundBook.{SoundBook}
use Rattle.rules.specs.Rule.{Rule, done, act, note, unqueue_all, end_epoch, ◌>>◌, undone, run}
use Rattle.rules.specs.Steps.{on_book, run_book, note_book}
use Rattle.rules.specs.Steps.Notes.{noted}
use Rattle.rules.specs.Calls.Common.{withdraw_each}
use Rattle.rules.specs.Calls.ClearLocalArtifacts.{clear_local_artifacts}
use Rattle.part_replies.specs.Reply.{reply, outcome_by}
use Rattle.part_replies.specs.declared.Reply.{Reply}
use Rattle.part_replay.specs.Epoch as Epoch
use Rattle.part_replay.specs.Epoch.{epoch, replayed_of}
use Rattle.part_replay.specs.EpochLaws.{normal_epoch}
use Rattle.part_lookup.specs.Normal.{Normal}
use Rattle.part_change.specs.Changes.{with_epoch_of}
use Rattle.part_sound_laws.specs.Holds.{Holds, holds_sound, holds_view, holds_normal, holds_quiet}
use Rattle.part_sound_laws.specs.Outcomes.{bind_undone, bind_on}
use Rattle.part_withdraw.specs.IdLaws.{ids_fit}

pub all_fit : (m : Book) → Fits m → length (rising (map id_of m.submitted)) ≤ 16
all_fit m f = let l = rising_length (map id_of m.submitted) in let k = ids_fit m f in omega arith

-- a sound book with its queue cleared
unqueued : (q : SoundBook) {u : BookData} → u ≡ back (note_book unqueue_all (view q.parts)) → Holds u (note_book unqueue_all (view q.parts))
unfolding on_book
unqueued q e = holds_quiet (holds_sound q.parts q.sound) (note unqueue_all) refl e

pub unqueued_normal : (q : SoundBook) {u : BookData} → u ≡ back (note_book unqueue_all (view q.parts)) → Normal u
unqueued_normal q e = holds_normal (unqueued q e)

module _ (b : BookData) {gone : List ℕ} (g : gone ≡ rising (map id_of (view b).submitted)) where
  abbrev clearing : Rule (Unit {0})
  clearing = act (note unqueue_all) (act (note end_epoch) (done tt))

  clear_run : run_book clear_local_artifacts (view b) ≡ run_book (withdraw_each (rising (map id_of (view b).submitted)) >> clearing) (view b)
  unfolding clear_local_artifacts run
  clear_run = refl

  module _ (w : Result SoundBook Refusal) (h : run_book (withdraw_each gone) (view b) ≡ outcome_by tt w) where
    all_withdrawn : run_book (withdraw_each (rising (map id_of (view b).submitted))) (view b) ≡ outcome_by tt w
    all_withdrawn = ap (λ (is : List ℕ). run_book (withdraw_each is) (view b)) (sym g) ∙ h

    pub clear_full : {n : Refusal} → w ≡ Err n → reply b (undone n) ≡ reply b (run_book clear_local_artifacts (view b))
    clear_full e = ap (reply b) (sym (clear_run ∙ bind_undone (withdraw_each (rising (map id_of (view b).submitted))) (λ _. clearing) (view b) (all_withdrawn ∙ ap (outcome_by tt) e)))

    pub clear_is : {q : SoundBook} → w ≡ Ok q → {u : BookData} → u ≡ back (note_book unqueue_all (view q.parts)) → {n : ReplayEpoch} → n ≡ epoch None [] → {out : BookData}
        → out ≡ back (with_epoch_of n.rollback_height (replayed_of n) (view u)) → record { answer = Ok tt; book = out } ≡ reply b (run_book clear_local_artifacts (view b))
    unfolding run on_book note_book noted
    clear_is {q} k {u} e p o =
        ap {B = Reply (Unit {0}) BookData} (λ (r : BookData). record { answer = Ok tt; book = r })
        (o ∙ ap (λ (x : ReplayEpoch). back (with_epoch_of x.rollback_height (replayed_of x) (view u))) p ∙ ap (λ (m : Book). back (with_epoch_of None [] m)) (holds_view (unqueued q e)))
        ∙ ap (reply b) (sym (clear_run ∙ bind_on (withdraw_each (rising (map id_of (view b).submitted))) (λ _. clearing) (view b) (all_withdrawn ∙ ap (outcome_by tt) k)))

pub none_normal : {n : ReplayEpoch} → n ≡ epoch None [] → Epoch.Normal n
none_normal q = rw q (normal_epoch None [] (omega arith))
