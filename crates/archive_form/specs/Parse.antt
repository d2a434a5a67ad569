-- The archive as it is read, item by item. Paper 01: "The reader's refusal place is the start of the first item (number, kind, count,
-- byte run) that is cut short or breaks a rule when read in order; bytes left over: the first of them."
use Rattle.std.specs.Prelude.{Bool, true, false, not, ◌&&◌, ◌||◌, List, [], ◌∷◌, ◌++◌, map, ℕ, zero, suc, eqb, leb, ltb, length}
use Rattle.base_lists.specs.Lists.{cells, elemb}
use Rattle.std.specs.List.{flat_map}
use Rattle.codec_forms.specs.Wire.{Ans, got, bad, Parser, ◌>>=◌, done, run, number, checked, up_to, mapped, optional_by, optional, opt_number, counted, list_from, list_of, end}
use Rattle.book.specs.Zero.{zeros, zero_output, zero_spend, zero_hash, no_attempt, base_variant}
use Rattle.book.specs.Sound.{id_of, attempt_token, tokens_of}
use Rattle.book.specs.Model.{Book, back}
use Rattle.book.specs.declared.SubmissionId.{SubmissionId}
use Rattle.book.specs.declared.Height.{Height}
use Rattle.std.specs.Prelude.{Option}
use Rattle.book.specs.declared.Output.{Output}
use Rattle.book.specs.declared.CoinSpend.{CoinSpend}
use Rattle.book.specs.declared.SpendBundle.{SpendBundle}
use Rattle.book.specs.declared.FeeIntentKind.TheVariants.{AlreadyPaid, NoFeeConfigured, Attach}
use Rattle.book.specs.declared.SubmissionFeeIntent.{SubmissionFeeIntent}
use Rattle.book.specs.declared.SubmissionDeliveryGoal.{SubmissionDeliveryGoal}
use Rattle.book.specs.declared.SubmissionDeliveryGoal.TheVariants.{EnsureBroadcast, FeeUpgrade}
use Rattle.book.specs.declared.DeliveryTrigger.{DeliveryTrigger}
use Rattle.book.specs.declared.DeliveryTrigger.TheVariants.{Protocol, FreshChain, Rollback, ProviderReadiness}
use Rattle.book.specs.declared.SubmissionChainTerminality.{SubmissionChainTerminality}
use Rattle.book.specs.declared.SubmissionChainTerminality.TheVariants.{Active, InputSpent, Landed}
use Rattle.book.specs.declared.FeeResolution.{FeeResolution}
use Rattle.book.specs.declared.FeeResolution.TheVariants.{Unresolved, NotRequested, Attached}
use Rattle.book.specs.declared.OptionalHash.{OptionalHash}
use Rattle.book.specs.declared.OptionalAttempt.{OptionalAttempt}
use Rattle.book.specs.declared.AttemptSlots.{AttemptSlots}
use Rattle.book.specs.declared.SubmissionBroadcastVariant.{SubmissionBroadcastVariant}
use Rattle.book.specs.declared.RetainedIntent.{RetainedIntent}
use Rattle.book.specs.declared.SubmissionState.{SubmissionState}
use Rattle.book.specs.declared.SubmittedTx.{SubmittedTx}
use Rattle.book.specs.declared.PendingDelivery.{PendingDelivery}
use Rattle.book.specs.declared.BookData.{BookData}

-- ---- bundles
unfoldable pub parse_output : Parser Output
unfolding run number
parse_output = do
  h ← run 32
  n ← number 8
  done (record { puzzle_hash = h; amount = n })

-- the run of a spend: unreadable, or its outputs
pub record Run : Type 0 where
  pub readable : Bool
  pub outputs : List Output

abbrev pub unreadable : Run
unreadable = record { readable = false; outputs = [] }

-- 0 unreadable, 1 then output count and outputs; in a base bundle the kind may not be 0
unfoldable pub parse_run : Bool → Parser Run
unfolding optional_by list_from parse_output
parse_run base = optional_by (λ k. not base || leb 1 k) unreadable (do
  os ← list_of 4 parse_output
  done (record { readable = true; outputs = os }))

-- length byte, coin, digest, run
unfoldable pub parse_spend : Bool → Parser CoinSpend
unfolding counted run parse_run zero_output
parse_spend base = do
  c ← counted 73 run
  d ← run 32
  r ← parse_run base
  done (record {
    coin_len = length c;
    coin = cells 73 0 c;
    digest = d;
    readable = r.readable;
    output_count = length r.outputs;
    outputs = cells 4 zero_output r.outputs;
  })

unfoldable pub parse_bundle : Bool → Parser SpendBundle
unfolding list_from parse_spend zero_spend
parse_bundle base = do
  l ← list_of 4 (parse_spend base)
  done (record { count = length l; spends = cells 4 zero_spend l })

-- ---- expiry, rollback height, an optional id, fee intent
unfoldable pub parse_height : Parser (Option Height)
parse_height = opt_number (λ n. record { 0 = n })

unfoldable pub parse_id : Parser (Option SubmissionId)
parse_id = opt_number (λ n. record { 0 = n })

-- what follows the kind
unfoldable pub parse_attached : ℕ → Parser SubmissionFeeIntent
unfolding run number
parse_attached zero = done (record { kind = AlreadyPaid; target = zeros 32; amount = 0 })
parse_attached (suc zero) = done (record { kind = NoFeeConfigured; target = zeros 32; amount = 0 })
parse_attached (suc (suc k)) = do
  t ← run 32
  n ← number 8
  done (record { kind = Attach; target = t; amount = n })

unfoldable pub parse_fee_intent : Parser SubmissionFeeIntent
unfolding up_to parse_attached
parse_fee_intent = do
  k ← up_to 2
  parse_attached k

-- ---- kinds
abbrev pub goal_of : ℕ → SubmissionDeliveryGoal
goal_of zero = EnsureBroadcast
goal_of (suc k) = FeeUpgrade

abbrev pub trigger_of : ℕ → DeliveryTrigger
trigger_of zero = Protocol
trigger_of (suc zero) = FreshChain
trigger_of (suc (suc zero)) = Rollback
trigger_of (suc (suc (suc k))) = ProviderReadiness

abbrev pub chain_of : ℕ → SubmissionChainTerminality
chain_of zero = Active
chain_of (suc zero) = InputSpent
chain_of (suc (suc k)) = Landed

abbrev pub resolution_of : ℕ → FeeResolution
resolution_of zero = Unresolved
resolution_of (suc zero) = NotRequested
resolution_of (suc (suc k)) = Attached

unfoldable pub parse_goal : Parser SubmissionDeliveryGoal
unfolding mapped up_to
parse_goal = mapped goal_of (up_to 1)

unfoldable pub parse_trigger : Parser DeliveryTrigger
unfolding mapped up_to
parse_trigger = mapped trigger_of (up_to 3)

unfoldable pub parse_chain : Parser SubmissionChainTerminality
unfolding mapped up_to
parse_chain = mapped chain_of (up_to 2)

unfoldable pub parse_resolution : Parser FeeResolution
unfolding mapped up_to
parse_resolution = mapped resolution_of (up_to 2)

-- ---- a retained submission
unfoldable pub parse_hash : Parser OptionalHash
unfolding optional run zero_hash
parse_hash = optional zero_hash (do
  h ← run 32
  done (record { present = true; hash = h }))

-- a slot token is below the next token, and in no earlier slot
abbrev pub fresh_token : ℕ → List ℕ → ℕ → Bool
fresh_token next held t = ltb t next && not (elemb t held)

unfoldable pub parse_slot : ℕ → List ℕ → Parser OptionalAttempt
unfolding optional checked number run parse_goal parse_hash no_attempt
parse_slot next held = optional no_attempt (do
  t ← checked (fresh_token next held) (number 8)
  g ← parse_goal
  d ← run 32
  f ← parse_hash
  done (record {
    present = true;
    attempt = record { token = record { 0 = t }; goal = g; drained_variant_fingerprint = d; finalized_variant_fingerprint = f };
  }))

unfoldable pub parse_slots : ℕ → List ℕ → Parser AttemptSlots
unfolding parse_slot
parse_slots next held = do
  a ← parse_slot next held
  c ← parse_slot next (held ++ attempt_token a)
  done (record { active_attempt = a; completed_attempt = c })

unfoldable pub parse_variant : Parser SubmissionBroadcastVariant
unfolding optional number parse_bundle base_variant
parse_variant = optional base_variant (do
  b ← parse_bundle false
  n ← number 8
  done (record { fee_bearing = true; bundle = b; applied_fee = n }))

-- intent and state of a retained submission, whose bytes stand by turns
pub record Facts : Type 0 where
  pub intent : RetainedIntent
  pub state : SubmissionState

unfoldable pub parse_facts : Parser Facts
unfolding run parse_bundle parse_variant parse_resolution parse_fee_intent parse_hash parse_chain parse_height
parse_facts = do
  p ← run 32
  b ← parse_bundle true
  v ← parse_variant
  r ← parse_resolution
  f ← parse_fee_intent
  a ← parse_hash
  c ← parse_chain
  e ← parse_height
  done (record {
    intent = record { intent_fingerprint = p; base_bundle = b; fee_intent = f };
    state = record {
      current_variant = v;
      wallet_acknowledged_variant = a;
      status = record { fee_resolution = r; chain_terminality = c; expiry = e };
    };
  })

-- the id is in no submission before, nor are its tokens
unfoldable pub parse_submitted : ℕ → List SubmittedTx → Parser SubmittedTx
unfolding checked number parse_slots parse_facts
parse_submitted next before = do
  i ← checked (λ i. not (elemb i (map id_of before))) (number 8)
  s ← parse_slots next (flat_map tokens_of before)
  f ← parse_facts
  done (record { slots = s; entry = record { id = record { 0 = i }; intent = f.intent; state = f.state } })

-- ---- the queue
unfoldable pub parse_delivery : Parser PendingDelivery
unfolding parse_id parse_bundle parse_height parse_fee_intent parse_trigger parse_goal
parse_delivery = do
  i ← parse_id
  b ← parse_bundle false
  e ← parse_height
  f ← parse_fee_intent
  t ← parse_trigger
  g ← parse_goal
  done (record { intent = record { id = i; bundle = b; expiry = e; fee_intent = f }; trigger = t; goal = g })

-- ---- the book
-- a retired id is listed once
unfoldable pub parse_retired : List ℕ → Parser ℕ
unfolding checked number
parse_retired before = checked (λ x. not (elemb x before)) (number 8)

-- above the last of the list, if it has one
abbrev pub above : List ℕ → ℕ → Bool
above [] x = true
above (y ∷ []) x = ltb y x
above (y ∷ z ∷ ys) x = above (z ∷ ys) x

-- a replayed id is above the one before it, and retained
unfoldable pub parse_replayed : List ℕ → List ℕ → Parser ℕ
unfolding checked number
parse_replayed retained before = checked (λ x. above before x && elemb x retained) (number 8)

-- numbers (count 2)
pub record Numbers : Type 0 where
  pub token : ℕ
  pub id : ℕ

unfoldable pub parse_numbers : Parser Numbers
unfolding checked number
parse_numbers = do
  k ← checked (λ k. eqb k 2) (number 1)
  t ← number 8
  i ← number 8
  done (record { token = t; id = i })

unfoldable pub parse_model : Parser Book
unfolding list_from parse_numbers parse_submitted parse_delivery parse_retired parse_height parse_replayed
parse_model = do
  n ← parse_numbers
  s ← list_from 16 (parse_submitted n.token)
  q ← list_of 16 parse_delivery
  r ← list_from 64 parse_retired
  h ← parse_height
  p ← list_from 16 (parse_replayed (map id_of s))
  done (record {
    next_token = record { 0 = n.token };
    next_id = record { 0 = n.id };
    submitted = s;
    pending = q;
    retired = r;
    rollback = h;
    replayed = p;
  })

-- what reading an archive answers: the book, or refusal 13 with its place
pub data ArchiveRead : Type 0 where
  book : BookData → ArchiveRead
  broken : ℕ → ArchiveRead

abbrev pub archive_read : Ans Book → ArchiveRead
archive_read (got m e) = book (back m)
archive_read (bad e) = broken e

-- the whole of the bytes
unfoldable pub parse_whole : Parser Book
unfolding parse_model end
parse_whole = do
  m ← parse_model
  end m

unfoldable pub read_archive : List ℕ → ArchiveRead
unfolding parse_whole back
read_archive s = archive_read (parse_whole s 0)
