-- The steps of `finalize_attempt` on the submission at a place: finalise, or attach and finalise, is one store.
use Rattle.std.specs.Prelude.{ℕ, ◌≡◌}
use mathlib.Core.List.{[]}
use Rattle.std.specs.Prelude.{Option, Some}
use Rattle.std.proofs.Common.{sym, ◌∙◌}
use Rattle.std.proofs.Math.Path.{ap}
use Rattle.book.specs.Model.{Book, view, back}
use Rattle.book.specs.Sound.{id_of}
use Rattle.book.specs.declared.BookData.{BookData}
use Rattle.book.specs.declared.SpendBundle.{SpendBundle}
use Rattle.book.specs.declared.SubmittedEntry.{SubmittedEntry}
use Rattle.book.specs.declared.SubmittedTx.{SubmittedTx}
use Rattle.book_answers.specs.declared.FinalizedSubmission.{FinalizedSubmission}
use Rattle.rules.specs.Rule.{Rule, attach, revise, act, Outcome, ended, run}
use Rattle.rules.specs.Steps.{with_entry, with_slots, on_book, run_book}
use Rattle.rules.specs.Steps.Entry.{revised}
use Rattle.rules.specs.Steps.Slots.{slots_final}
use Rattle.rules.specs.Calls.FinalizeAttempt.{finalize_as}
use Rattle.rules.specs.Calls.Finalized.{attached_final}
use Rattle.part_replies.specs.Reply.{reply}
use Rattle.part_replies.specs.declared.Reply.{Reply}
use Rattle.std.specs.Prelude.{Ok}
use Rattle.part_change.specs.Changes.{stored_at}
use Rattle.part_change.specs.ChangeLaws.{mark_at}
use Rattle.part_sound_laws.specs.Holds.{holds_sound, holds_lists}
use Rattle.part_attempt_answers.specs.Live.{at}
use Rattle.part_attempt_answers.specs.Stored.{revise_mark}
use Rattle.call_finalize_attempt.specs.Ready.{Standing}

-- what the code answers where s is stored at k with the final fingerprint of r
abbrev pub finalized_reply : BookData → ℕ → SubmittedTx → FinalizedSubmission → Reply (Option FinalizedSubmission) BookData
finalized_reply b k s r = record { answer = Ok (Some (r)); book = back (stored_at k (with_slots (slots_final r.variant_fingerprint) s) (view b)) }

-- the rules where the fee is attached
abbrev pub attaching : SpendBundle → SubmittedTx → Rule (Option FinalizedSubmission)
attaching j s = act (revise (id_of s) (attach j)) (finalize_as (id_of s) (attached_final j s.entry))

-- the book that is left, in the rules' terms
module _ (b : BookData) (k : ℕ) (s : SubmittedTx) where
  abbrev final : FinalizedSubmission → SubmittedTx → Outcome Book (Option FinalizedSubmission)
  final x y = ended (stored_at k (with_slots (slots_final x.variant_fingerprint) y) (view b)) [] (Some x)

  replied : {r : FinalizedSubmission} (x : FinalizedSubmission) → r ≡ x → finalized_reply b k s r ≡ reply b (final x s)
  replied x e = ap (finalized_reply b k s) e

  module _ (h : Standing b k s) where
    final_run : (x : FinalizedSubmission) → final x s ≡ run_book (finalize_as (id_of s) x) (view b)
    unfolding finalize_as run on_book
    final_run x =
        ap (final x) h.read
        ∙ ap {B = Outcome Book (Option FinalizedSubmission)} (λ (n : Book). ended n [] (Some x))
        (sym (mark_at (view b) (holds_lists (holds_sound b h.sound)).ids (id_of s) k h.within (ap id_of (sym h.read)) (slots_final x.variant_fingerprint)))

    pub finalize_answer_lem : {r : FinalizedSubmission} (x : FinalizedSubmission) → r ≡ x → finalized_reply b k s r ≡ reply b (run_book (finalize_as (id_of s) x) (view b))
    finalize_answer_lem x e = replied x e ∙ ap (reply b) (final_run x)

-- attached and finalised
module _ (b : BookData) (k : ℕ) (s : SubmittedTx) (h : Standing b k s) (j : SpendBundle) where
  attach_base : final b k s (attached_final j (at (view b) k).entry) (with_entry (revised (attach j)) (at (view b) k)) ≡ run_book (attaching j (at (view b) k)) (view b)
  unfolding finalize_as run on_book
  attach_base =
      ap {B = Outcome Book (Option FinalizedSubmission)} (λ (n : Book). ended n [] (Some (attached_final j (at (view b) k).entry)))
      (sym (revise_mark (view b) k (holds_lists (holds_sound b h.sound)).ids h.within (attach j) (slots_final (attached_final j (at (view b) k).entry).variant_fingerprint)))

  attach_run : final b k s (attached_final j s.entry) (with_entry (revised (attach j)) s) ≡ run_book (attaching j s) (view b)
  attach_run =
      ap (λ (y : SubmittedTx). final b k s (attached_final j y.entry) (with_entry (revised (attach j)) y)) h.read
      ∙ attach_base ∙ ap (λ (y : SubmittedTx). run_book (attaching j y) (view b)) (sym h.read)

  pub attach_answer : {r : FinalizedSubmission} {e : SubmittedEntry} → r ≡ attached_final j s.entry → e ≡ revised (attach j) s.entry
      → finalized_reply b k (record { slots = s.slots; entry = e }) r ≡ reply b (run_book (attaching j s) (view b))
  attach_answer {r} p q =
      ap (λ (x : SubmittedEntry). finalized_reply b k (record { slots = s.slots; entry = x }) r) q
      ∙ replied b k (with_entry (revised (attach j)) s) (attached_final j s.entry) p
      ∙ ap (reply b) attach_run
