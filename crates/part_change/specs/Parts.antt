-- A book with another array in one of its parts, and the lists that it holds then.
use Rattle.std.specs.Prelude.{◌≡◌, refl, List, ℕ}
use Rattle.book.specs.Zero.{zero_submitted, zero_delivery}
use Rattle.book.specs.Model.{view, back}
use Rattle.book.specs.SoundLaws.{Counted, back_of_lem}
use Rattle.book.specs.declared.Token.{Token}
use Rattle.book.specs.declared.SubmissionId.{SubmissionId}
use Rattle.book.specs.declared.SubmittedTx.{SubmittedTx}
use Rattle.book.specs.declared.PendingDelivery.{PendingDelivery}
use Rattle.book.specs.declared.Ids.{Ids}
use Rattle.book.specs.declared.ReplayEpoch.{ReplayEpoch}
use Rattle.book.specs.declared.BookData.{BookData}
use Rattle.rules.specs.Steps.{with_submitted, rest_of, with_rest}
use Rattle.rules.specs.Steps.Notes.{with_pending, with_retired}
use Rattle.part_lookup.specs.Normal.{Normal, plain_is, submitted_are, pending_are, retired_are, replayed_are}
use Rattle.part_change.specs.Changes.{with_epoch_of}

-- next token, next id, and the submissions with their count
abbrev pub put_submitted : Token → SubmissionId → ℕ → List SubmittedTx → BookData → BookData
put_submitted t i n cs b = record {
  next_delivery_attempt_token = t;
  next_submission_id = i;
  submitted_count = n;
  submitted = cs;
  pending_count = b.pending_count;
  pending_deliveries = b.pending_deliveries;
  retired_submission_ids = b.retired_submission_ids;
  replay_epoch = b.replay_epoch;
}

-- the submissions alone
abbrev pub put_cells : ℕ → List SubmittedTx → BookData → BookData
put_cells n cs b = put_submitted b.next_delivery_attempt_token b.next_submission_id n cs b

abbrev pub put_pending : ℕ → List PendingDelivery → BookData → BookData
put_pending n cs b = record {
  next_delivery_attempt_token = b.next_delivery_attempt_token;
  next_submission_id = b.next_submission_id;
  submitted_count = b.submitted_count;
  submitted = b.submitted;
  pending_count = n;
  pending_deliveries = cs;
  retired_submission_ids = b.retired_submission_ids;
  replay_epoch = b.replay_epoch;
}

abbrev pub put_rest : Ids 64 → ReplayEpoch → BookData → BookData
put_rest x e b = record {
  next_delivery_attempt_token = b.next_delivery_attempt_token;
  next_submission_id = b.next_submission_id;
  submitted_count = b.submitted_count;
  submitted = b.submitted;
  pending_count = b.pending_count;
  pending_deliveries = b.pending_deliveries;
  retired_submission_ids = x;
  replay_epoch = e;
}

module _ (b : BookData) (h : Normal b) where
  -- new submissions, under any next token and next id
  pub submitted_back : (t : Token) (i : SubmissionId) (n : ℕ) (cs ts : List SubmittedTx) → Counted 16 zero_submitted n cs ts → put_submitted t i n cs b ≡ back (record {
    next_token = t;
    next_id = i;
    submitted = ts;
    pending = (view b).pending;
    retired = (view b).retired;
    rollback = (view b).rollback;
    replayed = (view b).replayed;
  })
  submitted_back t i n cs ts c =
      back_of_lem (put_submitted t i n cs b) (record {
        next_token = t;
        next_id = i;
        submitted = ts;
        pending = (view b).pending;
        retired = (view b).retired;
        rollback = (view b).rollback;
        replayed = (view b).replayed;
      }) (record { token = refl; id = refl; rollback = (plain_is b h).rollback }) c (pending_are b h) (retired_are b h) (replayed_are b h)

  pub cells_back : (n : ℕ) (cs ts : List SubmittedTx) → Counted 16 zero_submitted n cs ts → put_cells n cs b ≡ back (with_submitted ts (view b))
  unfolding view
  cells_back n cs ts c = submitted_back b.next_delivery_attempt_token b.next_submission_id n cs ts c

  pub pending_back : (n : ℕ) (cs ds : List PendingDelivery) → Counted 16 zero_delivery n cs ds → put_pending n cs b ≡ back (with_rest (with_pending ds (rest_of (view b))) (view b))
  pending_back n cs ds c =
      back_of_lem (put_pending n cs b) (with_rest (with_pending ds (rest_of (view b))) (view b))
      (record { token = (plain_is b h).token; id = (plain_is b h).id; rollback = (plain_is b h).rollback }) (submitted_are b h) c (retired_are b h) (replayed_are b h)

  pub retired_back : (x : Ids 64) (is : List ℕ) → Counted 64 0 x.count x.items is → put_rest x b.replay_epoch b ≡ back (with_rest (with_retired is (rest_of (view b))) (view b))
  retired_back x is c =
      back_of_lem (put_rest x b.replay_epoch b) (with_rest (with_retired is (rest_of (view b))) (view b))
      (record { token = (plain_is b h).token; id = (plain_is b h).id; rollback = (plain_is b h).rollback }) (submitted_are b h) (pending_are b h) c (replayed_are b h)

  pub epoch_back : (e : ReplayEpoch) (is : List ℕ) → Counted 16 0 e.replayed_submission_ids.count e.replayed_submission_ids.items is
      → put_rest b.retired_submission_ids e b ≡ back (with_epoch_of e.rollback_height is (view b))
  epoch_back e is c =
      back_of_lem (put_rest b.retired_submission_ids e b) (with_epoch_of e.rollback_height is (view b))
      (record { token = (plain_is b h).token; id = (plain_is b h).id; rollback = refl }) (submitted_are b h) (pending_are b h) (retired_are b h) c
