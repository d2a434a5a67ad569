-- How long an archive is: a book just opened has 22 bytes, and no book has more than 57,694.
use Rattle.std.specs.Prelude.{◌≡◌, refl, Bool, true, false, List, [], ◌∷◌, ◌++◌, ℕ, zero, suc, ◌+◌, ◌*◌, ◌≤◌, length, take}
use Rattle.std.proofs.Common.{suc-mul, arith, length-append, length-take}
use Rattle.archive_form.specs.Lengths.{id_size, numbers_size}
use Rattle.codec_forms.specs.Puts.{opt_number_few}
use Rattle.codec_forms.specs.Wire.{be, enc_many, enc_list}
use Rattle.codec_forms.specs.Number.{be_length, opt_size}
use Rattle.archive_bundle_form.specs.Forms.{encode_output, encode_run, encode_spend, encode_bundle, encode_height, encode_fee_intent, kind_number, attached}
use Rattle.book.specs.Sound.{spends_of, outputs_of}
use Rattle.book.specs.Model.{Book, view}
use Rattle.book.specs.Typed.{Every, Typed, TypedOutput, TypedSpend, TypedBundle, TypedFeeIntent, TypedHash, TypedAttempt, TypedOptionalAttempt, TypedSlots, TypedVariant, TypedRetainedIntent, TypedState, TypedSubmitted, TypedDelivery}
use Rattle.std.specs.Prelude.{Option}
use Rattle.book.specs.declared.Height.{Height}
use Rattle.book.specs.declared.Output.{Output}
use Rattle.book.specs.declared.CoinSpend.{CoinSpend}
use Rattle.book.specs.declared.SpendBundle.{SpendBundle}
use Rattle.book.specs.declared.FeeIntentKind.{FeeIntentKind}
use Rattle.book.specs.declared.FeeIntentKind.TheVariants.{AlreadyPaid, NoFeeConfigured, Attach}
use Rattle.book.specs.declared.SubmissionFeeIntent.{SubmissionFeeIntent}
use Rattle.book.specs.declared.OptionalHash.{OptionalHash}
use Rattle.book.specs.declared.DeliveryAttempt.{DeliveryAttempt}
use Rattle.book.specs.declared.OptionalAttempt.{OptionalAttempt}
use Rattle.book.specs.declared.AttemptSlots.{AttemptSlots}
use Rattle.book.specs.declared.SubmissionBroadcastVariant.{SubmissionBroadcastVariant}
use Rattle.book.specs.declared.RetainedIntent.{RetainedIntent}
use Rattle.book.specs.declared.SubmissionState.{SubmissionState}
use Rattle.book.specs.declared.SubmittedTx.{SubmittedTx}
use Rattle.book.specs.declared.PendingDelivery.{PendingDelivery}
use Rattle.book.specs.declared.BookData.{BookData}
use Rattle.archive_form.specs.Encode.{goal_number, trigger_number, chain_number, resolution_number, encode_hash, encode_attempt, encode_slot, encode_slots, encode_variant, encode_facts, encode_submitted, encode_id, encode_delivery, encode_numbers, encode_model, encode_book}
use Rattle.archive_form.specs.Specimen.{opened}
use Rattle.archive_laws.specs.Cells.{every_take, every_map}

-- n elements of at most k bytes each
many_size : {A : Type 0} (enc : A → List ℕ) (n k : ℕ) (l : List A) → length l ≤ n → Every (λ a. length (enc a) ≤ k) l → length (enc_many enc l) ≤ n * k
unfolding enc_many
many_size enc n k [] h e = omega arith
many_size enc zero k (a ∷ l) h e = absurd (omega arith)
many_size enc (suc n) k (a ∷ l) h e =
    let i = many_size enc n k l (omega arith) e.1 in
    let m : suc n * k ≡ n * k + k = suc-mul n k in
    omega (arith, length-append (enc a) (enc_many enc l), e.0)

list_size : {A : Type 0} (enc : A → List ℕ) (n k : ℕ) (l : List A) → length l ≤ n → Every (λ a. length (enc a) ≤ k) l → length (enc_list enc l) ≤ 1 + n * k
unfolding enc_list
list_size enc n k l h e = omega (arith, length-append (be 1 (length l)) (enc_many enc l), be_length 1 (length l), many_size enc n k l h e)

take_few : {A : Type 0} (n k : ℕ) (l : List A) → length l ≡ k → length (take n l) ≤ k
take_few n k l h = omega (arith, length-take n l)

-- ---- parts
output_size : (o : Output) → TypedOutput o → length (encode_output o) ≤ 40
unfolding encode_output
output_size o t = omega (arith, length-append o.puzzle_hash (be 8 o.amount), be_length 8 o.amount, t.hash.long)

run_size : (b : Bool) (os : List Output) → Every TypedOutput os → length os ≤ 4 → length (encode_run b os) ≤ 162
unfolding encode_run
run_size false os t h = omega (arith, be_length 1 0)
run_size true os t h =
    omega (arith, length-append (be 1 1 ++ be 1 (length os)) (enc_many encode_output os), length-append (be 1 1) (be 1 (length os)), be_length 1 1, be_length 1 (length os), many_size encode_output 4 40 os h (every_map output_size os t))

pub spend_size : (s : CoinSpend) → TypedSpend s → length (encode_spend s) ≤ 268
unfolding encode_spend
spend_size s t =
    let c = take s.coin_len s.coin in
    let r = encode_run s.readable (outputs_of s) in
    omega (
      arith,
      length-append (be 1 s.coin_len ++ c ++ s.digest) r,
      length-append (be 1 s.coin_len ++ c) s.digest,
      length-append (be 1 s.coin_len) c,
      be_length 1 s.coin_len,
      take_few s.coin_len 73 s.coin t.coin.long,
      t.digest.long,
      run_size s.readable (outputs_of s) (every_take TypedOutput s.output_count s.outputs t.outputs.each) (take_few s.output_count 4 s.outputs t.outputs.long),
    )

pub bundle_size : (b : SpendBundle) → TypedBundle b → length (encode_bundle b) ≤ 1073
unfolding encode_bundle
bundle_size b t =
    omega (
      arith,
      length-append (be 1 b.count) (enc_many encode_spend (spends_of b)),
      be_length 1 b.count,
      many_size encode_spend 4 268 (spends_of b) (take_few b.count 4 b.spends t.spends.long) (every_map spend_size (spends_of b) (every_take TypedSpend b.count b.spends t.spends.each)),
    )

pub height_size : (h : Option Height) → length (encode_height h) ≤ 9
unfolding encode_height
height_size = opt_number_few (λ h. h.0)

pub fee_intent_size : (f : SubmissionFeeIntent) → TypedFeeIntent f → length (encode_fee_intent f) ≤ 41
unfolding encode_fee_intent
fee_intent_size f t = omega (arith, length-append (be 1 (kind_number f.kind)) (attached f.kind f), be_length 1 (kind_number f.kind), go f.kind)
  where
    go : (k : FeeIntentKind) → length (attached k f) ≤ 40
    go AlreadyPaid = omega arith
    go NoFeeConfigured = omega arith
    go Attach = omega (arith, length-append f.target (be 8 f.amount), be_length 8 f.amount, t.target.long)

hash_size : (h : OptionalHash) → TypedHash h → length (encode_hash h) ≤ 33
unfolding encode_hash
hash_size h t = opt_size h.present 32 h.hash (omega (arith, t.long))

attempt_size : (a : DeliveryAttempt) → TypedAttempt a → length (encode_attempt a) ≤ 74
unfolding encode_attempt
attempt_size a t =
    let x = be 8 a.token.0 in
    let y = be 1 (goal_number a.goal) in
    let d = a.drained_variant_fingerprint in
    let f = encode_hash a.finalized_variant_fingerprint in
    omega (arith, length-append (x ++ y ++ d) f, length-append (x ++ y) d, length-append x y, be_length 8 a.token.0, be_length 1 (goal_number a.goal), t.drained.long, hash_size a.finalized_variant_fingerprint t.finalized)

slot_size : (a : OptionalAttempt) → TypedOptionalAttempt a → length (encode_slot a) ≤ 75
unfolding encode_slot
slot_size a t = opt_size a.present 74 (encode_attempt a.attempt) (attempt_size a.attempt t)

slots_size : (s : AttemptSlots) → TypedSlots s → length (encode_slots s) ≤ 150
unfolding encode_slots
slots_size s t = omega (arith, length-append (encode_slot s.active_attempt) (encode_slot s.completed_attempt), slot_size s.active_attempt t.active, slot_size s.completed_attempt t.completed)

variant_size : (v : SubmissionBroadcastVariant) → TypedVariant v → length (encode_variant v) ≤ 1082
unfolding encode_variant
variant_size v t =
    opt_size v.fee_bearing 1081 (encode_bundle v.bundle ++ be 8 v.applied_fee)
    (omega (arith, length-append (encode_bundle v.bundle) (be 8 v.applied_fee), be_length 8 v.applied_fee, bundle_size v.bundle t.bundle))

facts_size : (p : RetainedIntent) (s : SubmissionState) → TypedRetainedIntent p → TypedState s → length (encode_facts p s) ≤ 2272
unfolding encode_facts
facts_size p s t u =
    let h = p.intent_fingerprint in
    let b = encode_bundle p.base_bundle in
    let v = encode_variant s.current_variant in
    let r = be 1 (resolution_number s.status.fee_resolution) in
    let f = encode_fee_intent p.fee_intent in
    let a = encode_hash s.wallet_acknowledged_variant in
    let c = be 1 (chain_number s.status.chain_terminality) in
    let x = encode_height s.status.expiry in
    omega (
      arith,
      length-append (h ++ b ++ v ++ r ++ f ++ a ++ c) x,
      length-append (h ++ b ++ v ++ r ++ f ++ a) c,
      length-append (h ++ b ++ v ++ r ++ f) a,
      length-append (h ++ b ++ v ++ r) f,
      length-append (h ++ b ++ v) r,
      length-append (h ++ b) v,
      length-append h b,
      t.fingerprint.long,
      bundle_size p.base_bundle t.base,
      variant_size s.current_variant u.current,
      be_length 1 (resolution_number s.status.fee_resolution),
      fee_intent_size p.fee_intent t.fee_intent,
      hash_size s.wallet_acknowledged_variant u.acknowledged,
      be_length 1 (chain_number s.status.chain_terminality),
      height_size s.status.expiry,
    )

pub submitted_size : (t : SubmittedTx) → TypedSubmitted t → length (encode_submitted t) ≤ 2430
unfolding encode_submitted
submitted_size t h =
    let i = be 8 t.entry.id.0 in
    let s = encode_slots t.slots in
    let f = encode_facts t.entry.intent t.entry.state in
    omega (arith, length-append (i ++ s) f, length-append i s, be_length 8 t.entry.id.0, slots_size t.slots h.slots, facts_size t.entry.intent t.entry.state h.entry.intent h.entry.state)

pub delivery_size : (d : PendingDelivery) → TypedDelivery d → length (encode_delivery d) ≤ 1134
unfolding encode_delivery
delivery_size d h =
    let i = encode_id d.intent.id in
    let b = encode_bundle d.intent.bundle in
    let e = encode_height d.intent.expiry in
    let f = encode_fee_intent d.intent.fee_intent in
    let t = be 1 (trigger_number d.trigger) in
    let g = be 1 (goal_number d.goal) in
    omega (arith, length-append (i ++ b ++ e ++ f ++ t) g, length-append (i ++ b ++ e ++ f) t, length-append (i ++ b ++ e) f, length-append (i ++ b) e, length-append i b, be_length 1 (trigger_number d.trigger), be_length 1 (goal_number d.goal), id_size d.intent.id, bundle_size d.intent.bundle h.bundle, height_size d.intent.expiry, fee_intent_size d.intent.fee_intent h.fee_intent)

-- ---- the book
ids_size : (n : ℕ) (l : List ℕ) → length l ≤ n → length (enc_list (be 8) l) ≤ 1 + n * 8
ids_size n l h = list_size (be 8) n 8 l h (each l)
  where
    each : (l : List ℕ) → Every (λ x. length (be 8 x) ≤ 8) l
    each [] = tt
    each (x ∷ l) = (omega (arith, be_length 8 x), each l)

model_size : (m : Book) → length m.submitted ≤ 16 → Every TypedSubmitted m.submitted → length m.pending ≤ 16 → Every TypedDelivery m.pending → length m.retired ≤ 64 → length m.replayed ≤ 16 → length (encode_model m) ≤ 57694
unfolding encode_model
model_size m sn st qn qt rn pn =
    let a = encode_numbers m in
    let s = enc_list encode_submitted m.submitted in
    let q = enc_list encode_delivery m.pending in
    let r = enc_list (be 8) m.retired in
    let h = encode_height m.rollback in
    let p = enc_list (be 8) m.replayed in
    omega (
      arith,
      length-append (a ++ s ++ q ++ r ++ h) p,
      length-append (a ++ s ++ q ++ r) h,
      length-append (a ++ s ++ q) r,
      length-append (a ++ s) q,
      length-append a s,
      numbers_size m,
      list_size encode_submitted 16 2430 m.submitted sn (every_map submitted_size m.submitted st),
      list_size encode_delivery 16 1134 m.pending qn (every_map delivery_size m.pending qt),
      ids_size 64 m.retired rn,
      height_size m.rollback,
      ids_size 16 m.replayed pn,
    )

-- at most 57,694 bytes
pub archive_size : (b : BookData) → Typed b → length (encode_book b) ≤ 57694
unfolding encode_book view
archive_size b t =
    model_size (view b)
    (take_few b.submitted_count 16 b.submitted t.submitted.long) (every_take TypedSubmitted b.submitted_count b.submitted t.submitted.each)
    (take_few b.pending_count 16 b.pending_deliveries t.pending.long) (every_take TypedDelivery b.pending_count b.pending_deliveries t.pending.each)
    (take_few b.retired_submission_ids.count 64 b.retired_submission_ids.items t.retired.items.long)
    (take_few b.replay_epoch.replayed_submission_ids.count 16 b.replay_epoch.replayed_submission_ids.items t.replay.replayed.items.long)

-- a book just opened, with any two numbers: 22 bytes
pub opened_size : (token id : ℕ) → length (encode_book (opened token id)) ≡ 22
unfolding opened encode_book
opened_size token id = refl
