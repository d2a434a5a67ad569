-- The numbers and counts of a sound book's cells are those of its lists, and the book stays.
use Rattle.std.specs.Prelude.{true, ◌≡◌}
use Rattle.book.specs.Model.{view}
use Rattle.book.specs.Sound.{soundb}
use Rattle.book.specs.declared.BookData.{BookData}
use Rattle.rules.specs.Calls.Summary.{summary}
use Rattle.rules.specs.Rule.{run}
use Rattle.rules.specs.Steps.{run_book}
use Rattle.part_replies.specs.Reply.{reply}
use Rattle.std.specs.Prelude.{Ok}
use Rattle.part_lookup.specs.Normal.{Normal, sound_normal, submitted_are, pending_are, retired_are, replayed_are}

pub summary_is_lem : (b : BookData) → soundb b ≡ true
    → record {
      answer = Ok (record {
        next_delivery_attempt_token = b.next_delivery_attempt_token;
        next_submission_id = b.next_submission_id;
        submitted_count = b.submitted_count;
        pending_count = b.pending_count;
        retired_count = b.retired_submission_ids.count;
        replayed_count = b.replay_epoch.replayed_submission_ids.count;
        rollback_height = b.replay_epoch.rollback_height;
      });
      book = b;
    } ≡ reply b (run_book summary (view b))
unfolding summary run view
summary_is_lem b s =
    let n : Normal b = sound_normal b s in
    λ i. record {
      answer = Ok (record {
        next_delivery_attempt_token = b.next_delivery_attempt_token;
        next_submission_id = b.next_submission_id;
        submitted_count = (submitted_are b n).count i;
        pending_count = (pending_are b n).count i;
        retired_count = (retired_are b n).count i;
        replayed_count = (replayed_are b n).count i;
        rollback_height = b.replay_epoch.rollback_height;
      });
      book = n.held i;
    }
