-- The book over plain lists, and the way back to counted cells.
use Rattle.std.specs.Prelude.{List, ℕ, length, take}
use Rattle.base_lists.specs.Lists.{cells}
use Rattle.book.specs.Zero.{zero_submitted, zero_delivery}
use Rattle.book.specs.declared.Token.{Token}
use Rattle.book.specs.declared.SubmissionId.{SubmissionId}
use Rattle.std.specs.Prelude.{Option}
use Rattle.book.specs.declared.Height.{Height}
use Rattle.book.specs.declared.SubmittedTx.{SubmittedTx}
use Rattle.book.specs.declared.PendingDelivery.{PendingDelivery}
use Rattle.book.specs.declared.Ids.{Ids}
use Rattle.book.specs.declared.BookData.{BookData}

-- the fields of the Rust's `SubmissionBook`, its vectors and sets as lists; ids as numbers
pub record Book : Type 0 where
  pub next_token : Token
  pub next_id : SubmissionId
  pub submitted : List SubmittedTx
  pub pending : List PendingDelivery
  pub retired : List ℕ
  pub rollback : Option Height
  pub replayed : List ℕ

-- the ids that counted cells hold, and the cells of a list of ids
abbrev pub id_list : {N : ℕ} → Ids N → List ℕ
id_list x = take x.count x.items

abbrev pub id_cells : (N : ℕ) → List ℕ → Ids N
id_cells N xs = record { count = length xs; items = cells N 0 xs }

unfoldable pub view : BookData → Book
view b = record {
  next_token = b.next_delivery_attempt_token;
  next_id = b.next_submission_id;
  submitted = take b.submitted_count b.submitted;
  pending = take b.pending_count b.pending_deliveries;
  retired = id_list b.retired_submission_ids;
  rollback = b.replay_epoch.rollback_height;
  replayed = id_list b.replay_epoch.replayed_submission_ids;
}

unfoldable pub back : Book → BookData
unfolding zero_submitted zero_delivery
back m = record {
  next_delivery_attempt_token = m.next_token;
  next_submission_id = m.next_id;
  submitted_count = length m.submitted;
  submitted = cells 16 zero_submitted m.submitted;
  pending_count = length m.pending;
  pending_deliveries = cells 16 zero_delivery m.pending;
  retired_submission_ids = id_cells 64 m.retired;
  replay_epoch = record { rollback_height = m.rollback; replayed_submission_ids = id_cells 16 m.replayed };
}
