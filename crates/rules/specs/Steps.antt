-- What each step does to a book. A step never makes a sound book unsound: what it is handed is taken only if it is sound, and the doors
-- and the book's own soundness see to it that it always is.
pub mod Entry
pub mod Slots
pub mod Notes
use Rattle.std.specs.Prelude.{ℕ, suc, Bool, true, false, cond, not, ◌&&◌, List, [], ◌∷◌, ◌++◌, map}
use Rattle.base_lists.specs.Lists.{elemb}
use Rattle.book.specs.Zero.{no_slots}
use Rattle.book.specs.Model.{Book}
use Rattle.book.specs.Sound.{id_of, sound_intent, readable_bundle}
use Rattle.book.specs.declared.SubmissionDeliveryGoal.{SubmissionDeliveryGoal}
use Rattle.book.specs.declared.AttemptSlots.{AttemptSlots}
use Rattle.book.specs.declared.SubmittedEntry.{SubmittedEntry}
use Rattle.book.specs.declared.SubmittedTx.{SubmittedTx}
use Rattle.book.specs.declared.PendingSubmissionIntent.{PendingSubmissionIntent}
use Rattle.rules.specs.Keyed.{pick, change, without}
use Rattle.rules.specs.Parts.{current_fingerprint}
use Rattle.rules.specs.Rule.{Rule, Revision, Note, Step, note, revise, retain, emit, remove, set_aside, finalise, replay, Effect, Outcome, run}
use Entry.{revised, new_entry}
use Slots.{issue_attempt, slots_issued, slots_aside, slots_final, taken, handed}
use Notes.{Rest, noted, forgotten, replayed_with}

abbrev pub with_submitted : List SubmittedTx → Book → Book
with_submitted ts b = record {
  next_token = b.next_token;
  next_id = b.next_id;
  submitted = ts;
  pending = b.pending;
  retired = b.retired;
  rollback = b.rollback;
  replayed = b.replayed;
}

abbrev pub rest_of : Book → Rest
rest_of b = record { pending = b.pending; retired = b.retired; rollback = b.rollback; replayed = b.replayed }

abbrev pub with_rest : Rest → Book → Book
with_rest s b = record {
  next_token = b.next_token;
  next_id = b.next_id;
  submitted = b.submitted;
  pending = s.pending;
  retired = s.retired;
  rollback = s.rollback;
  replayed = s.replayed;
}

abbrev pub with_entry : (SubmittedEntry → SubmittedEntry) → SubmittedTx → SubmittedTx
with_entry f t = record { slots = t.slots; entry = f t.entry }

abbrev pub with_slots : (AttemptSlots → AttemptSlots) → SubmittedTx → SubmittedTx
with_slots g t = record { slots = g t.slots; entry = t.entry }

unfoldable pub note_book : Note → Book → Book
unfolding noted
note_book n b = with_rest (noted n (rest_of b)) b

unfoldable pub revise_book : ℕ → Revision → Book → Book
unfolding change revised
revise_book i r b = with_submitted (change id_of i (with_entry (revised r)) b.submitted) b

-- a new submission may be retained under the next id
unfoldable pub retainable : PendingSubmissionIntent → ℕ → List ℕ → Bool
unfolding sound_intent readable_bundle
retainable p next ids = sound_intent p && readable_bundle p.bundle && not (elemb next ids)

unfoldable pub retained : PendingSubmissionIntent → Book → Book
unfolding new_entry no_slots
retained p b = record {
  next_token = b.next_token;
  next_id = record { 0 = suc b.next_id.0 };
  submitted = b.submitted ++ record { slots = no_slots; entry = new_entry b.next_id p } ∷ [];
  pending = b.pending;
  retired = b.retired;
  rollback = b.rollback;
  replayed = b.replayed;
}

unfoldable pub retain_book : PendingSubmissionIntent → Book → Book
unfolding retainable retained
retain_book p b = cond (retainable p b.next_id.0 (map id_of b.submitted)) (retained p b) b

-- `issue_attempt`: the submission takes the next token as live
unfoldable pub issue_book : ℕ → SubmissionDeliveryGoal → List ℕ → Book → Book
unfolding change slots_issued issue_attempt
issue_book i g v b = record {
  next_token = record { 0 = suc b.next_token.0 };
  next_id = b.next_id;
  submitted = change id_of i (with_slots (slots_issued (issue_attempt b.next_token.0 g v))) b.submitted;
  pending = b.pending;
  retired = b.retired;
  rollback = b.rollback;
  replayed = b.replayed;
}

abbrev pub emit_to : ℕ → SubmissionDeliveryGoal → Book → List SubmittedTx → Effect Book
emit_to i g b [] = record { after = b; out = [] }
emit_to i g b (t ∷ ts) = record {
  after = issue_book i g (current_fingerprint t.entry) b;
  out = handed b.next_token.0 g t.entry (taken t.slots) ∷ [];
}

unfoldable pub emit_book : ℕ → SubmissionDeliveryGoal → Book → Effect Book
unfolding pick issue_book handed taken current_fingerprint
emit_book i g b = emit_to i g b (pick id_of i b.submitted)

unfoldable pub remove_book : ℕ → Book → Book
unfolding without forgotten
remove_book i b = with_rest (forgotten i (rest_of b)) (with_submitted (without id_of i b.submitted) b)

-- a change of the slots of one submission
unfoldable pub mark_book : (AttemptSlots → AttemptSlots) → ℕ → Book → Book
unfolding change
mark_book g i b = with_submitted (change id_of i (with_slots g) b.submitted) b

unfoldable pub replay_book : ℕ → Book → Book
unfolding replayed_with
replay_book i b = with_rest (replayed_with i (map id_of b.submitted) (rest_of b)) b

abbrev pub silent : {S : Type 0} → (S → S) → S → Effect S
silent f s = record { after = f s; out = [] }

unfoldable pub on_book : Step → Book → Effect Book
unfolding note_book revise_book retain_book emit_book remove_book mark_book slots_aside slots_final replay_book
on_book (note n) = silent (note_book n)
on_book (revise i r) = silent (revise_book i r)
on_book (retain p) = silent (retain_book p)
on_book (emit i g) = emit_book i g
on_book (remove i) = silent (remove_book i)
on_book (set_aside i) = silent (mark_book slots_aside i)
on_book (finalise i v) = silent (mark_book (slots_final v) i)
on_book (replay i) = silent (replay_book i)

abbrev pub run_book : {A : Type 0} → Rule A → Book → Outcome Book A
run_book = run (λ b. b) on_book
