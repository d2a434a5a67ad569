-- What no attempt depends on: queue, retirements, rollback height and replayed ids, and the notes on them.
use Rattle.std.specs.Prelude.{ℕ, Bool, false, cond, not, ◌&&◌, List, [], ◌∷◌, ◌++◌, eqb}
use Rattle.base_lists.specs.Lists.{elemb, insert_up, push_new}
use Rattle.std.specs.List.{filter}
use Rattle.book.specs.Sound.{sound_delivery}
use Rattle.std.specs.Prelude.{Option}
use Rattle.book.specs.declared.SubmissionId.{SubmissionId}
use Rattle.std.specs.Prelude.{None, Some}
use Rattle.book.specs.declared.Height.{Height}
use Rattle.book.specs.declared.PendingDelivery.{PendingDelivery}
use Rattle.rules.specs.Rule.{Note, enqueue, unqueue, retire, unreplay, unqueue_all, unretire_all, begin_epoch, end_epoch}

pub record Rest : Type 0 where
  pub pending : List PendingDelivery
  pub retired : List ℕ
  pub rollback : Option Height
  pub replayed : List ℕ

abbrev pub is_id : ℕ → Option SubmissionId → Bool
is_id i None = false
is_id i (Some j) = eqb j.0 i

abbrev pub with_pending : List PendingDelivery → Rest → Rest
with_pending ds s = record { pending = ds; retired = s.retired; rollback = s.rollback; replayed = s.replayed }

abbrev pub with_retired : List ℕ → Rest → Rest
with_retired is s = record { pending = s.pending; retired = is; rollback = s.rollback; replayed = s.replayed }

abbrev pub with_epoch : Option Height → List ℕ → Rest → Rest
with_epoch h is s = record { pending = s.pending; retired = s.retired; rollback = h; replayed = is }

-- the queue without the entries of the submission i
unfoldable pub unqueued : ℕ → List PendingDelivery → List PendingDelivery
unqueued i ds = filter (λ d. not (is_id i d.intent.id)) ds

-- `ReplayEpoch::remove`
unfoldable pub unreplayed : ℕ → List ℕ → List ℕ
unreplayed i is = filter (λ j. not (eqb j i)) is

unfoldable pub noted : Note → Rest → Rest
unfolding sound_delivery unqueued unreplayed
noted (enqueue d) s = with_pending (cond (sound_delivery d) (s.pending ++ d ∷ []) s.pending) s
noted (unqueue i) s = with_pending (unqueued i s.pending) s
noted (retire i) s = with_retired (push_new s.retired i) s
noted (unreplay i) s = with_epoch s.rollback (unreplayed i s.replayed) s
noted unqueue_all s = with_pending [] s
noted unretire_all s = with_retired [] s
noted (begin_epoch h) s = with_epoch (Some h) [] s
noted end_epoch s = with_epoch None [] s

-- a submission that is gone has no queue entry and no replay mark
unfoldable pub forgotten : ℕ → Rest → Rest
unfolding unqueued unreplayed
forgotten i s = record { pending = unqueued i s.pending; retired = s.retired; rollback = s.rollback; replayed = unreplayed i s.replayed }

-- `ReplayEpoch::mark_replayed`, of a retained id
unfoldable pub replayed_with : ℕ → List ℕ → Rest → Rest
replayed_with i ids s = with_epoch s.rollback (cond (elemb i ids && not (elemb i s.replayed)) (insert_up i s.replayed) s.replayed) s
