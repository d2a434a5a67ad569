-- What the steps make of the parts of a submission is sound, and the tokens of its slots stay or go.
use Rattle.std.specs.Prelude.{ℕ, Bool, true, cond, ◌&&◌, List, [], ◌∷◌, ◌≡◌, refl}
use Rattle.std.proofs.Math.Bool.{false}
use Rattle.base_lists.specs.Laws.{and_split, and_both}
use Rattle.base_lists.specs.Sub.{Sub, sub_all, sub_none}
use Rattle.book.specs.declared.SubmissionId.{SubmissionId}
use Rattle.book.specs.declared.AttemptSlots.{AttemptSlots}
use Rattle.book.specs.declared.RetainedIntent.{RetainedIntent}
use Rattle.book.specs.declared.SubmissionState.{SubmissionState}
use Rattle.book.specs.declared.SubmittedEntry.{SubmittedEntry}
use Rattle.book.specs.declared.SubmittedTx.{SubmittedTx}
use Rattle.book.specs.declared.PendingSubmissionIntent.{PendingSubmissionIntent}
use Rattle.book.specs.declared.SubmissionDeliveryGoal.{SubmissionDeliveryGoal}
use Rattle.book.specs.Sound.{sound_bundle, readable_bundle, sound_fee_intent, sound_hash, sound_attempt, sound_slots, sound_variant, sound_retained_intent, sound_state, sound_entry, sound_submitted, sound_intent, attempt_token, slot_tokens}
use Rattle.book.specs.SoundLaws.{sound_state_lem}
use Rattle.book.specs.Zero.{zero_hash, no_attempt, no_slots, base_variant}
use Rattle.rules.specs.Rule.{Revision, tighten, acknowledge, attach, terminality, reopen}
use Rattle.rules.specs.Steps.{with_entry, with_slots}
use Rattle.rules.specs.Steps.Entry.{with_joined, revised_state, revised, new_entry}
use Rattle.rules.specs.Steps.Slots.{present, issue_attempt, slots_issued, slots_aside, attempt_final, slots_final}

sound_none : sound_attempt no_attempt ≡ true
unfolding sound_attempt no_attempt
sound_none = refl

pub sound_no_slots : sound_slots no_slots ≡ true
unfolding sound_slots no_slots
sound_no_slots = refl

pub tokens_no_slots : slot_tokens no_slots ≡ []
unfolding no_slots
tokens_no_slots = refl

sound_no_hash : sound_hash zero_hash ≡ true
unfolding sound_hash zero_hash
sound_no_hash = refl

sound_base : sound_variant base_variant ≡ true
unfolding sound_variant base_variant
sound_base = refl

-- ---- slots
pub sound_aside : (s : AttemptSlots) → sound_slots s ≡ true → sound_slots (slots_aside s) ≡ true
unfolding sound_slots slots_aside
sound_aside s h = go s.active_attempt.present
  where
    go : (b : Bool) → sound_slots (cond b (record { active_attempt = no_attempt; completed_attempt = s.active_attempt }) s) ≡ true
    go true = and_both sound_none (and_split (sound_attempt s.active_attempt) (sound_attempt s.completed_attempt) h).0
    go false = h

pub sound_final : (v : List ℕ) (s : AttemptSlots) → sound_slots s ≡ true → sound_slots (slots_final v s) ≡ true
unfolding sound_slots slots_final sound_attempt sound_hash
sound_final v s h = go s.active_attempt.present
  where
    go : (b : Bool) → sound_slots (cond b (record { active_attempt = present (attempt_final v s.active_attempt.attempt); completed_attempt = s.completed_attempt }) s) ≡ true
    go true = (and_split (sound_attempt s.active_attempt) (sound_attempt s.completed_attempt) h).1
    go false = h

pub sound_issued : (t : ℕ) (g : SubmissionDeliveryGoal) (v : List ℕ) (s : AttemptSlots) → sound_slots s ≡ true → sound_slots (slots_issued (issue_attempt t g v) s) ≡ true
unfolding sound_slots slots_issued issue_attempt
sound_issued t g v s h = go s.active_attempt.present
  where
    go : (b : Bool) → (sound_attempt (present (issue_attempt t g v)) && sound_attempt (cond b s.completed_attempt no_attempt)) ≡ true
    go true = and_both sound_no_hash (and_split (sound_attempt s.active_attempt) (sound_attempt s.completed_attempt) h).1
    go false = and_both sound_no_hash sound_none

pub tokens_aside : (s : AttemptSlots) → Sub (slot_tokens (slots_aside s)) (slot_tokens s)
unfolding slots_aside no_attempt
tokens_aside s = go s.active_attempt.present refl
  where
    go : (b : Bool) → s.active_attempt.present ≡ b
        → Sub (slot_tokens (cond b (record { active_attempt = no_attempt; completed_attempt = s.active_attempt }) s)) (slot_tokens s)
    go true e = rw e (Sub.keep (sub_none (attempt_token s.completed_attempt)))
    go false e = sub_all (slot_tokens s)

pub tokens_final : (v : List ℕ) (s : AttemptSlots) → Sub (slot_tokens (slots_final v s)) (slot_tokens s)
unfolding slots_final
tokens_final v s = go s.active_attempt.present refl
  where
    go : (b : Bool) → s.active_attempt.present ≡ b
        → Sub (slot_tokens (cond b (record { active_attempt = present (attempt_final v s.active_attempt.attempt); completed_attempt = s.completed_attempt }) s)) (slot_tokens s)
    go true e = rw e (sub_all (s.active_attempt.attempt.token.0 ∷ attempt_token s.completed_attempt))
    go false e = sub_all (slot_tokens s)

-- the new token, and some of the old ones
pub tokens_issued : (t : ℕ) (g : SubmissionDeliveryGoal) (v : List ℕ) (s : AttemptSlots)
    → (r : List ℕ) × (slot_tokens (slots_issued (issue_attempt t g v) s) ≡ t ∷ r) × Sub r (slot_tokens s)
unfolding slots_issued issue_attempt no_attempt
tokens_issued t g v s = (attempt_token (cond s.active_attempt.present s.completed_attempt no_attempt), refl, go s.active_attempt.present refl)
  where
    go : (b : Bool) → s.active_attempt.present ≡ b → Sub (attempt_token (cond b s.completed_attempt no_attempt)) (slot_tokens s)
    go true e = rw e (Sub.skip (sub_all (attempt_token s.completed_attempt)))
    go false e = sub_none (slot_tokens s)

-- ---- submissions
pub sound_slots_lem : (g : AttemptSlots → AttemptSlots) → ((s : AttemptSlots) → sound_slots s ≡ true → sound_slots (g s) ≡ true)
    → (t : SubmittedTx) → sound_submitted t ≡ true → sound_submitted (with_slots g t) ≡ true
unfolding sound_submitted
sound_slots_lem g keeps t h =
    let u = and_split (sound_slots t.slots) (sound_entry t.entry) h in
    and_both (keeps t.slots u.0) u.1

-- a revision keeps a sound state; the intent is not touched
sound_revised_state : (r : Revision) (p : RetainedIntent) (s : SubmissionState) → sound_state s ≡ true → sound_state (revised_state r p s) ≡ true
unfolding revised_state sound_state
sound_revised_state (tighten x) p s h = h
sound_revised_state (acknowledge f) p s h = and_both (sound_state_lem s h).current (unfold sound_hash in refl)
sound_revised_state (attach j) p s h = go (sound_bundle j) refl
  where
    go : (b : Bool) → sound_bundle j ≡ b → sound_state (cond b (with_joined p j s) s) ≡ true
    go true q = and_both (unfold sound_variant in q) (sound_state_lem s h).acknowledged
    go false q = h
sound_revised_state (terminality c) p s h = h
sound_revised_state reopen p s h = and_both (sound_state_lem s h).current sound_no_hash

pub sound_revised : (r : Revision) (e : SubmittedEntry) → sound_entry e ≡ true → sound_entry (revised r e) ≡ true
unfolding revised sound_entry
sound_revised r e h =
    let t = and_split (sound_retained_intent e.intent) (sound_state e.state) h in
    and_both t.0 (sound_revised_state r e.intent e.state t.1)

pub sound_entry_lem : (r : Revision) (t : SubmittedTx) → sound_submitted t ≡ true → sound_submitted (with_entry (revised r) t) ≡ true
unfolding sound_submitted
sound_entry_lem r t h =
    let u = and_split (sound_slots t.slots) (sound_entry t.entry) h in
    and_both u.0 (sound_revised r t.entry u.1)

pub revised_id : (r : Revision) (e : SubmittedEntry) → (revised r e).id ≡ e.id
unfolding revised
revised_id r e = refl

pub sound_new : (i : SubmissionId) (p : PendingSubmissionIntent) → sound_intent p ≡ true → readable_bundle p.bundle ≡ true
    → sound_submitted (record { slots = no_slots; entry = new_entry i p }) ≡ true
unfolding sound_submitted sound_entry sound_retained_intent sound_state new_entry sound_intent
sound_new i p h k =
    let t = and_split (sound_bundle p.bundle) (sound_fee_intent p.fee_intent) h in
    and_both sound_no_slots (and_both (and_both (and_both t.0 k) t.1) (and_both sound_base sound_no_hash))
