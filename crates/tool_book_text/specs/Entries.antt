-- Attempts, retained submissions, queue entries, tokens and lists of ids as text.
use Rattle.std.specs.Prelude.{◌≡◌, refl, cond, List, [], ◌∷◌, ◌++◌, ℕ, ◌+◌, length}
use Rattle.codec_forms.specs.Wire.{enc_many}
use Rattle.tool_text.specs.Ascii.{ascii}
use Rattle.tool_text.specs.Numbers.{decimal, number_line}
use Rattle.book.specs.declared.DeliveryAttempt.{DeliveryAttempt}
use Rattle.book.specs.declared.OptionalAttempt.{OptionalAttempt}
use Rattle.book.specs.declared.AttemptSlots.{AttemptSlots}
use Rattle.book.specs.declared.SubmittedEntry.{SubmittedEntry}
use Rattle.book.specs.declared.SubmittedTx.{SubmittedTx}
use Rattle.book.specs.declared.PendingSubmissionIntent.{PendingSubmissionIntent}
use Rattle.book.specs.declared.PendingDelivery.{PendingDelivery}
use Rattle.tool_bundle_text.specs.Words.{goal_text, trigger_text, chain_text, resolution_text, fee_intent_text, height_text, id_text}
use Rattle.tool_book_text.specs.declared.Fingerprints.{Fingerprints}
use Rattle.tool_book_text.specs.Checked.{fingerprints_of, checked_text, checked_optional, checked_intent}
use Rattle.tool_bundle_text.specs.Bundles.{bundle_text, variant_text}

unfoldable pub attempt_text : List ℕ → Fingerprints → DeliveryAttempt → List ℕ
unfolding number_line goal_text checked_text checked_optional
attempt_text label f a =
    label
    ++ number_line (ascii "token ") a.token.0
    ++ ascii "    goal: "
    ++ goal_text a.goal
    ++ checked_text (ascii "    drained fingerprint: ") a.drained_variant_fingerprint f
    ++ checked_optional (ascii "    finalised: ") a.finalized_variant_fingerprint f

unfoldable pub slot_text : List ℕ → Fingerprints → OptionalAttempt → List ℕ
unfolding attempt_text
slot_text label f s = cond s.present (attempt_text label f s.attempt) (label ++ ascii "none\n")

unfoldable pub slots_text : Fingerprints → AttemptSlots → List ℕ
unfolding slot_text
slots_text f s = slot_text (ascii "  live attempt: ") f s.active_attempt ++ slot_text (ascii "  set-aside attempt: ") f s.completed_attempt

-- the fee state and the fee intent, the acknowledged fingerprint, the chain state, the expiry
unfoldable pub facts_text : Fingerprints → SubmittedEntry → List ℕ
unfolding resolution_text fee_intent_text checked_optional chain_text height_text
facts_text f e =
    resolution_text e.state.status.fee_resolution
    ++ fee_intent_text e.intent.fee_intent
    ++ checked_optional (ascii "  acknowledged: ") e.state.wallet_acknowledged_variant f
    ++ chain_text e.state.status.chain_terminality
    ++ height_text (ascii "  expiry height: ") e.state.status.expiry

unfoldable pub entry_text : Fingerprints → SubmittedEntry → List ℕ
unfolding checked_intent bundle_text variant_text facts_text
entry_text f e =
    checked_intent e
    ++ bundle_text (ascii "  base bundle, spends: ") e.intent.base_bundle
    ++ variant_text e.state.current_variant
    ++ facts_text f e

-- the k-th of n
unfoldable pub heading_text : List ℕ → ℕ → ℕ → List ℕ
unfolding decimal number_line
heading_text label k n = label ++ decimal k ++ number_line (ascii " of ") n

-- the i-th of n, from 1 on: i is an index, and the number is the one behind it
unfoldable pub heading_text_by_index : List ℕ → ℕ → ℕ → List ℕ
unfolding decimal number_line
heading_text_by_index label i n = label ++ decimal (i + 1) ++ number_line (ascii " of ") n

unfoldable pub submission_text : ℕ → ℕ → SubmittedTx → List ℕ
unfolding heading_text number_line slots_text entry_text fingerprints_of
submission_text k n t =
    heading_text (ascii "retained submission ") k n
    ++ number_line (ascii "  id: ") t.entry.id.0
    ++ slots_text (fingerprints_of t.entry) t.slots
    ++ entry_text (fingerprints_of t.entry) t.entry

unfoldable pub submission_text_by_index : ℕ → ℕ → SubmittedTx → List ℕ
unfolding heading_text_by_index number_line slots_text entry_text fingerprints_of
submission_text_by_index i n t =
    heading_text_by_index (ascii "retained submission ") i n
    ++ number_line (ascii "  id: ") t.entry.id.0
    ++ slots_text (fingerprints_of t.entry) t.slots
    ++ entry_text (fingerprints_of t.entry) t.entry

unfoldable pub intent_text : PendingSubmissionIntent → List ℕ
unfolding id_text bundle_text height_text fee_intent_text
intent_text p =
    id_text (ascii "  id: ") p.id
    ++ bundle_text (ascii "  bundle, spends: ") p.bundle
    ++ height_text (ascii "  expiry height: ") p.expiry
    ++ fee_intent_text p.fee_intent

unfoldable pub delivery_text : ℕ → ℕ → PendingDelivery → List ℕ
unfolding heading_text intent_text trigger_text goal_text
delivery_text k n d =
    heading_text (ascii "queue entry ") k n
    ++ intent_text d.intent
    ++ trigger_text d.trigger
    ++ ascii "  goal: "
    ++ goal_text d.goal

unfoldable pub delivery_text_by_index : ℕ → ℕ → PendingDelivery → List ℕ
unfolding heading_text_by_index intent_text trigger_text goal_text
delivery_text_by_index i n d =
    heading_text_by_index (ascii "queue entry ") i n
    ++ intent_text d.intent
    ++ trigger_text d.trigger
    ++ ascii "  goal: "
    ++ goal_text d.goal

-- the token of a slot and its submission
unfoldable pub token_text : List ℕ → ℕ → OptionalAttempt → List ℕ
unfolding decimal number_line
token_text fate id s = cond s.present (ascii "  token " ++ decimal s.attempt.token.0 ++ number_line fate id) []

unfoldable pub tokens_text : SubmittedTx → List ℕ
unfolding token_text
tokens_text t =
    token_text (ascii ": live, submission ") t.entry.id.0 t.slots.active_attempt
    ++ token_text (ascii ": set aside, submission ") t.entry.id.0 t.slots.completed_attempt

-- ids on one line
unfoldable pub id_after_space : ℕ → List ℕ
unfolding decimal
id_after_space n = ascii " " ++ decimal n

abbrev pub none_of : List ℕ → List ℕ
none_of [] = ascii " none"
none_of (x ∷ l) = []

unfoldable pub ids_text : List ℕ → List ℕ → List ℕ
unfolding enc_many id_after_space
ids_text label l = label ++ none_of l ++ enc_many id_after_space l ++ ascii "\n"

-- ---- the text at an index is that of the number behind it
pub submission_numbered : (i n : ℕ) (t : SubmittedTx) → submission_text_by_index i n t ≡ submission_text (i + 1) n t
unfolding submission_text_by_index submission_text heading_text_by_index heading_text
submission_numbered i n t = refl

pub delivery_numbered : (i n : ℕ) (d : PendingDelivery) → delivery_text_by_index i n d ≡ delivery_text (i + 1) n d
unfolding delivery_text_by_index delivery_text heading_text_by_index heading_text
delivery_numbered i n d = refl

-- ---- by the length
pub none_some : (l : List ℕ) → (length l ≡ 0 → ⊥) → [] ≡ none_of l
none_some [] h = absurd (h refl)
none_some (x ∷ l) h = refl
