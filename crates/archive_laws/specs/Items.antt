-- The items of an archive in order, each with the bytes it has there and the rule that any bytes in its place must meet. Paper 01: an item
-- is a number, kind, count or byte run; "Archive form" lists them, and "Sound" says the rules between them.
use Rattle.std.specs.Prelude.{Bool, true, false, not, cond, ◌&&◌, ◌||◌, List, [], ◌∷◌, ◌++◌, map, ℕ, eqb, leb, length, take}
use Rattle.base_lists.specs.Lists.{elemb}
use Rattle.std.specs.List.{flat_map}
use Rattle.codec_forms.specs.Wire.{be, be_from}
use Rattle.codec_forms.specs.Items.{mark}
use Rattle.archive_bundle_form.specs.Forms.{kind_number}
use Rattle.book.specs.Sound.{spends_of, outputs_of, id_of, attempt_token, tokens_of}
use Rattle.book.specs.Model.{Book, view}
use Rattle.std.specs.Prelude.{Option}
use Rattle.book.specs.declared.Height.{Height}
use Rattle.std.specs.Prelude.{None, Some}
use Rattle.book.specs.declared.SubmissionId.{SubmissionId}
use Rattle.book.specs.declared.Output.{Output}
use Rattle.book.specs.declared.CoinSpend.{CoinSpend}
use Rattle.book.specs.declared.SpendBundle.{SpendBundle}
use Rattle.book.specs.declared.FeeIntentKind.{FeeIntentKind}
use Rattle.book.specs.declared.FeeIntentKind.TheVariants.{AlreadyPaid, NoFeeConfigured, Attach}
use Rattle.book.specs.declared.SubmissionFeeIntent.{SubmissionFeeIntent}
use Rattle.book.specs.declared.OptionalHash.{OptionalHash}
use Rattle.book.specs.declared.DeliveryAttempt.{DeliveryAttempt}
use Rattle.book.specs.declared.OptionalAttempt.{OptionalAttempt}
use Rattle.book.specs.declared.AttemptSlots.{AttemptSlots}
use Rattle.book.specs.declared.SubmissionBroadcastVariant.{SubmissionBroadcastVariant}
use Rattle.book.specs.declared.RetainedIntent.{RetainedIntent}
use Rattle.book.specs.declared.SubmissionState.{SubmissionState}
use Rattle.book.specs.declared.SubmittedTx.{SubmittedTx}
use Rattle.book.specs.declared.PendingDelivery.{PendingDelivery}
use Rattle.book.specs.declared.BookData.{BookData}
use Rattle.archive_form.specs.Encode.{goal_number, trigger_number, chain_number, resolution_number}
use Rattle.archive_form.specs.Parse.{fresh_token, above}

pub record Item : Type 0 where
  pub bytes : List ℕ
  pub rule : List ℕ → Bool

-- the items' bytes, one after the other
unfoldable pub bytes_of : List Item → List ℕ
bytes_of [] = []
bytes_of (x ∷ is) = x.bytes ++ bytes_of is

-- ---- kinds of items
-- a byte run
abbrev pub plain : List ℕ → Item
plain l = record { bytes = l; rule = λ y. true }

-- a number of w bytes
abbrev pub number_item : ℕ → ℕ → Item
number_item w n = plain (be w n)

-- a number of w bytes that must pass a test
abbrev pub ruled : ℕ → (ℕ → Bool) → ℕ → Item
ruled w test n = record { bytes = be w n; rule = λ y. test (be_from 0 y) }

-- a count, a kind or a mark of at most m
abbrev pub limited : ℕ → ℕ → Item
limited m n = ruled 1 (λ k. leb k m) n

-- ---- items together
-- an optional part after its count 0 or 1
abbrev pub items_optional : Bool → List Item → List Item
items_optional present is = limited 1 (mark present) ∷ cond present is []

-- elements, each with those before it in hand
unfoldable pub items_many : {A : Type 0} → (List A → A → List Item) → List A → List A → List Item
items_many items before [] = []
items_many items before (a ∷ l) = items before a ++ items_many items (before ++ (a ∷ [])) l

-- at most n elements after their count
unfoldable pub items_list : {A : Type 0} → ℕ → (List A → A → List Item) → List A → List Item
unfolding items_many
items_list n items l = limited n (length l) ∷ items_many items [] l

-- ---- bundles
unfoldable pub items_output : Output → List Item
items_output o = plain o.puzzle_hash ∷ number_item 8 o.amount ∷ []

-- the run's kind is 0 or 1, in a base bundle 1
unfoldable pub items_run : Bool → Bool → List Output → List Item
unfolding items_list items_output
items_run base readable os =
    ruled 1 (λ k. leb k 1 && (not base || leb 1 k)) (mark readable) ∷ cond readable (items_list 4 (λ before. items_output) os) []

unfoldable pub items_spend : Bool → CoinSpend → List Item
unfolding items_run
items_spend base s =
    limited 73 s.coin_len ∷ plain (take s.coin_len s.coin) ∷ plain s.digest ∷ items_run base s.readable (outputs_of s)

unfoldable pub items_bundle : Bool → SpendBundle → List Item
unfolding items_list items_spend
items_bundle base b = items_list 4 (λ before. items_spend base) (spends_of b)

-- ---- expiry, rollback height, an optional id, fee intent, an optional fingerprint
abbrev pub items_opt_number : {A : Type 0} → (A → ℕ) → Option A → List Item
items_opt_number number None = limited 1 0 ∷ []
items_opt_number number (Some x) = limited 1 1 ∷ number_item 8 (number x) ∷ []

unfoldable pub items_height : Option Height → List Item
items_height = items_opt_number (λ h. h.0)

unfoldable pub items_id : Option SubmissionId → List Item
items_id = items_opt_number (λ i. i.0)

abbrev pub items_attached : FeeIntentKind → SubmissionFeeIntent → List Item
items_attached AlreadyPaid f = []
items_attached NoFeeConfigured f = []
items_attached Attach f = plain f.target ∷ number_item 8 f.amount ∷ []

unfoldable pub items_fee_intent : SubmissionFeeIntent → List Item
items_fee_intent f = limited 2 (kind_number f.kind) ∷ items_attached f.kind f

unfoldable pub items_hash : OptionalHash → List Item
items_hash h = items_optional h.present (plain h.hash ∷ [])

-- ---- a retained submission
-- token: below next token, and in no slot before
unfoldable pub items_attempt : ℕ → List ℕ → DeliveryAttempt → List Item
unfolding items_hash
items_attempt next held a =
    ruled 8 (fresh_token next held) a.token.0 ∷ limited 1 (goal_number a.goal) ∷ plain a.drained_variant_fingerprint ∷ items_hash a.finalized_variant_fingerprint

unfoldable pub items_slot : ℕ → List ℕ → OptionalAttempt → List Item
unfolding items_attempt
items_slot next held a = items_optional a.present (items_attempt next held a.attempt)

unfoldable pub items_slots : ℕ → List ℕ → AttemptSlots → List Item
unfolding items_slot
items_slots next held s = items_slot next held s.active_attempt ++ items_slot next (held ++ attempt_token s.active_attempt) s.completed_attempt

unfoldable pub items_variant : SubmissionBroadcastVariant → List Item
unfolding items_bundle
items_variant v = items_optional v.fee_bearing (items_bundle false v.bundle ++ (number_item 8 v.applied_fee ∷ []))

unfoldable pub items_facts : RetainedIntent → SubmissionState → List Item
unfolding items_bundle items_variant items_fee_intent items_hash items_height
items_facts p s =
    plain p.intent_fingerprint ∷ items_bundle true p.base_bundle ++ (items_variant s.current_variant ++ (limited 2 (resolution_number s.status.fee_resolution)
    ∷ items_fee_intent p.fee_intent ++ (items_hash s.wallet_acknowledged_variant ++ (limited 2 (chain_number s.status.chain_terminality) ∷ items_height s.status.expiry))))

-- the id is that of no submission before
unfoldable pub items_submitted : ℕ → List SubmittedTx → SubmittedTx → List Item
unfolding items_slots items_facts
items_submitted next before t =
    ruled 8 (λ i. not (elemb i (map id_of before))) t.entry.id.0 ∷ items_slots next (flat_map tokens_of before) t.slots ++ items_facts t.entry.intent t.entry.state

-- ---- the queue
unfoldable pub items_delivery : PendingDelivery → List Item
unfolding items_id items_bundle items_height items_fee_intent
items_delivery d =
    items_id d.intent.id ++ (items_bundle false d.intent.bundle ++ (items_height d.intent.expiry ++ (items_fee_intent d.intent.fee_intent
    ++ (limited 3 (trigger_number d.trigger) ∷ limited 1 (goal_number d.goal) ∷ []))))

-- ---- the book
-- a retired id is listed once
abbrev pub items_retired : List ℕ → ℕ → List Item
items_retired before x = ruled 8 (λ y. not (elemb y before)) x ∷ []

-- a replayed id is above the one before it, and retained
abbrev pub items_replayed : List ℕ → List ℕ → ℕ → List Item
items_replayed retained before x = ruled 8 (λ y. above before y && elemb y retained) x ∷ []

-- numbers, retained, queue, retirements, rollback height, replayed ids
unfoldable pub items_model : Book → List Item
unfolding items_list items_submitted items_delivery items_height
items_model m =
    ruled 1 (λ k. eqb k 2) 2 ∷ number_item 8 m.next_token.0 ∷ number_item 8 m.next_id.0 ∷ items_list 16 (items_submitted m.next_token.0) m.submitted
    ++ (items_list 16 (λ before. items_delivery) m.pending ++ (items_list 64 items_retired m.retired ++ (items_height m.rollback
    ++ items_list 16 (items_replayed (map id_of m.submitted)) m.replayed)))

unfoldable pub items_book : BookData → List Item
unfolding view items_model
items_book b = items_model (view b)
