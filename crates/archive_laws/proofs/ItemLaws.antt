-- The reader stops at the first broken item: one law for each part of an archive, in the order in which its items are listed.
use Rattle.std.specs.Prelude.{◌≡◌, refl, Bool, true, false, not, ◌&&◌, ◌||◌, List, [], ◌∷◌, ◌++◌, map, ℕ, ◌≤◌, eqb, leb, length}
use Rattle.std.proofs.Common.{sym, ap, ◌∙◌, subst, append_assoc, arith}
use Rattle.base_lists.specs.Lists.{elemb}
use Rattle.std.specs.List.{flat_map}
use Rattle.codec_forms.specs.Wire.{got, Parser, be, enc_many, enc_list, enc_opt, enc_opt_number, opt_number, run, up_to, mapped, counted}
use Rattle.codec_forms.specs.Lawful.{Lawful, Spans}
use Rattle.codec_forms.specs.Items.{mark, AllFrom}
use Rattle.codec_forms.proofs.Items.{number_lawful, checked_lawful, up_to_lawful, list_from_lawful}
use Rattle.archive_bundle_form.specs.Forms.{encode_output, encode_run, encode_spend, encode_bundle, encode_height, kind_number, attached, encode_fee_intent}
use Rattle.book.specs.Zero.{zero_hash, no_attempt, base_variant, zero_submitted}
use Rattle.book.specs.Sound.{spends_of, outputs_of, id_of, attempt_token, tokens_of}
use Rattle.book.specs.SoundLaws.{sound_spend_lem, sound_bundle_lem}
use Rattle.book.specs.Model.{Book}
use Rattle.book.specs.Typed.{TypedOutput, Bytes}
use Rattle.book.specs.declared.Output.{Output}
use Rattle.book.specs.declared.CoinSpend.{CoinSpend}
use Rattle.book.specs.declared.SpendBundle.{SpendBundle}
use Rattle.std.specs.Prelude.{Option}
use Rattle.book.specs.declared.Height.{Height}
use Rattle.std.specs.Prelude.{None, Some}
use Rattle.book.specs.declared.SubmissionId.{SubmissionId}
use Rattle.book.specs.declared.FeeIntentKind.{FeeIntentKind}
use Rattle.book.specs.declared.FeeIntentKind.TheVariants.{AlreadyPaid, NoFeeConfigured, Attach}
use Rattle.book.specs.declared.SubmissionFeeIntent.{SubmissionFeeIntent}
use Rattle.book.specs.declared.SubmissionDeliveryGoal.{SubmissionDeliveryGoal}
use Rattle.book.specs.declared.DeliveryTrigger.{DeliveryTrigger}
use Rattle.book.specs.declared.SubmissionChainTerminality.{SubmissionChainTerminality}
use Rattle.book.specs.declared.FeeResolution.{FeeResolution}
use Rattle.book.specs.declared.OptionalHash.{OptionalHash}
use Rattle.book.specs.declared.OptionalAttempt.{OptionalAttempt}
use Rattle.book.specs.declared.AttemptSlots.{AttemptSlots}
use Rattle.book.specs.declared.SubmissionBroadcastVariant.{SubmissionBroadcastVariant}
use Rattle.book.specs.declared.RetainedIntent.{RetainedIntent}
use Rattle.book.specs.declared.SubmissionState.{SubmissionState}
use Rattle.book.specs.declared.SubmittedTx.{SubmittedTx}
use Rattle.book.specs.declared.PendingDelivery.{PendingDelivery}
use Rattle.archive_form.specs.Encode.{goal_number, trigger_number, chain_number, resolution_number, encode_hash, encode_attempt, encode_slot, encode_slots, encode_variant, encode_facts, encode_submitted, encode_id, encode_delivery, encode_numbers}
use Rattle.archive_form.specs.Encode.{encode_model}
use Rattle.archive_form.specs.Parse.{parse_output, Run, unreadable, parse_run, parse_spend, parse_bundle, parse_height, parse_id, parse_attached, parse_fee_intent, goal_of, trigger_of, chain_of, resolution_of, parse_goal, parse_trigger, parse_chain}
use Rattle.archive_form.specs.Parse.{parse_resolution, parse_hash, fresh_token, parse_slot, parse_slots, parse_variant, parse_facts, parse_submitted, parse_delivery, parse_retired, above, parse_replayed, Numbers, parse_numbers, parse_model}
use Rattle.archive_laws.specs.Cells.{six, bytes_lawful, from_every}
use Rattle.archive_laws.specs.Bundles.{output_lawful, run_bytes, mark_rule, run_good, run_of, GoodRun, GoodSpend, coin_of, coin_lawful, coin_good, spend_lawful, GoodBundle, bundle_good, bundle_lawful}
use Rattle.archive_laws.specs.Parts.{height_lawful, id_lawful, goal_lawful, trigger_lawful, chain_lawful, resolution_lawful, kind_small, GoodFeeIntent, fee_intent_lawful, GoodHash, hash_lawful, GoodSlot, slot_fresh, slot_hash}
use Rattle.archive_laws.specs.Parts.{slot_lawful, GoodVariant, variant_bundle, variant_lawful, any_bundle}
use Rattle.archive_laws.specs.Entries.{GoodSlots, slots_lawful, GoodFacts, facts_good, GoodSubmitted, slots_good, submitted_lawful, GoodDelivery, delivery_facts, delivery_lawful}
use Rattle.archive_laws.specs.Books.{GoodNumbers, enc_numbers, numbers_of, numbers_lawful, GoodRetired, GoodReplayed, retired_lawful, replayed_lawful, queue_lawful, GoodModel}
use Rattle.archive_laws.specs.Items.{plain, number_item, ruled, limited, items_output, items_run, items_spend, items_bundle, items_opt_number, items_height, items_id, items_attached, items_fee_intent, items_hash, items_attempt, items_slot, items_slots, items_variant}
use Rattle.archive_laws.specs.Items.{items_facts, items_submitted, items_delivery, items_retired, items_replayed, items_model}
use Rattle.archive_laws.specs.Stops.{Placed, then_placed, last_placed, none_placed, as_placed}
use Rattle.archive_laws.proofs.Stops.{run_placed, number_placed, ruled_placed, limited_placed, optional_placed, optional_by_placed, list_placed}

-- what a lawful parser reads of a good value
reads : {A : Type 0} {G : A → Type 0} {enc : A → List ℕ} {p : Parser A} → Lawful G enc p → (a : A) → G a → (s : List ℕ) (at e : ℕ) → Spans s at e (enc a) → p s at ≡ got a e
reads law a g s at e w = law.reads s at e a g w

bytes_reads : (n : ℕ) (l : List ℕ) → Bytes n l → (s : List ℕ) (at e : ℕ) → Spans s at e l → run n s at ≡ got l e
bytes_reads n l g s at e w = (bytes_lawful n).reads s at e l g w

bytes_placed : (n : ℕ) (l : List ℕ) → Bytes n l → Placed (run n) (plain l ∷ []) l
bytes_placed n l g = run_placed n l g.long

-- ---- bundles
output_placed : (o : Output) → TypedOutput o → Placed parse_output (items_output o) (encode_output o)
unfolding parse_output items_output encode_output
output_placed o g =
    then_placed o.puzzle_hash (bytes_placed 32 o.puzzle_hash g.hash) (bytes_reads 32 o.puzzle_hash g.hash) (λ h q.
    last_placed (λ n. record { puzzle_hash = h; amount = n }) (number_placed 8 o.amount))

runs_placed : (base : Bool) (r : Run) → GoodRun r → (not base || r.readable) ≡ true → Placed (parse_run base) (items_run base r.readable r.outputs) (encode_run r.readable r.outputs)
unfolding parse_run items_run
runs_placed base r g ready =
    as_placed (run_bytes r.readable r.outputs)
    (optional_by_placed unreadable (λ k. not base || leb 1 k) r.readable (mark_rule base r.readable ∙ ready) (λ h.
    last_placed (λ os. record { readable = true; outputs = os })
    (list_placed (λ before. output_lawful) (λ before. output_placed) 4 (omega arith) r.outputs (from_every TypedOutput [] r.outputs g.typed, g.few))))

coin_placed : (s : CoinSpend) → s.coin_len ≤ 73 → length (coin_of s) ≡ s.coin_len → Placed (counted 73 run) (limited 73 s.coin_len ∷ plain (coin_of s) ∷ []) (be 1 s.coin_len ++ coin_of s)
unfolding counted
coin_placed s few long =
    then_placed s.coin_len (limited_placed 73 s.coin_len) (reads (up_to_lawful 73 (omega arith)) s.coin_len few) (λ k q.
    run_placed k (coin_of s) (long ∙ sym q))

spend_placed : (base : Bool) (s : CoinSpend) → GoodSpend base s → Placed (parse_spend base) (items_spend base s) (encode_spend s)
unfolding parse_spend items_spend encode_spend
spend_placed base s g =
    let f = sound_spend_lem s g.sound in
    as_placed (sym (append_assoc (be 1 s.coin_len ++ coin_of s) s.digest (encode_run s.readable (outputs_of s))))
    (then_placed (coin_of s) (coin_placed s f.coin.count f.coin.used)
    (λ t at e w. coin_lawful.reads t at e (coin_of s) (coin_good base s g) (subst (λ (k : ℕ). Spans t at e (be 1 k ++ coin_of s)) (sym f.coin.used) w)) (λ c q.
    then_placed s.digest (bytes_placed 32 s.digest g.typed.digest) (bytes_reads 32 s.digest g.typed.digest) (λ d q.
    last_placed _ (runs_placed base (run_of s) (run_good s g.typed f) g.readable))))

bundle_placed : (base : Bool) (b : SpendBundle) → GoodBundle base b → Placed (parse_bundle base) (items_bundle base b) (encode_bundle b)
unfolding parse_bundle items_bundle encode_bundle enc_list
bundle_placed base b g =
    let l = bundle_good base b g in
    as_placed (ap (λ (k : ℕ). be 1 k ++ enc_many encode_spend (spends_of b)) (sound_bundle_lem b g.sound).spends.used)
    (last_placed _ (list_placed (λ before. spend_lawful base) (λ before. spend_placed base) 4 (omega arith) (spends_of b) (from_every (GoodSpend base) [] (spends_of b) l.0, l.1)))

-- ---- an optional height, an optional id, kinds, fee intent, an optional fingerprint
opt_number_placed : {A : Type 0} (of : ℕ → A) (number_of : A → ℕ) (o : Option A) → Placed (opt_number of) (items_opt_number number_of o) (enc_opt_number number_of o)
unfolding enc_opt mark
opt_number_placed of number_of None = optional_placed None false (λ q. last_placed (λ n. Some (of n)) (number_placed 8 0))
opt_number_placed of number_of (Some x) = optional_placed None true (λ q. last_placed (λ n. Some (of n)) (number_placed 8 (number_of x)))

height_placed : (h : Option Height) → Placed parse_height (items_height h) (encode_height h)
unfolding parse_height items_height encode_height
height_placed h = opt_number_placed _ (λ (x : Height). x.0) h

id_placed : (i : Option SubmissionId) → Placed parse_id (items_id i) (encode_id i)
unfolding parse_id items_id encode_id
id_placed i = opt_number_placed _ (λ (x : SubmissionId). x.0) i

mapped_placed : {A : Type 0} (f : ℕ → A) (m n : ℕ) → Placed (mapped f (up_to m)) (limited m n ∷ []) (be 1 n)
unfolding mapped
mapped_placed f m n = last_placed f (limited_placed m n)

goal_placed : (k : SubmissionDeliveryGoal) → Placed parse_goal (limited 1 (goal_number k) ∷ []) (be 1 (goal_number k))
unfolding parse_goal
goal_placed k = mapped_placed goal_of 1 (goal_number k)

trigger_placed : (k : DeliveryTrigger) → Placed parse_trigger (limited 3 (trigger_number k) ∷ []) (be 1 (trigger_number k))
unfolding parse_trigger
trigger_placed k = mapped_placed trigger_of 3 (trigger_number k)

chain_placed : (k : SubmissionChainTerminality) → Placed parse_chain (limited 2 (chain_number k) ∷ []) (be 1 (chain_number k))
unfolding parse_chain
chain_placed k = mapped_placed chain_of 2 (chain_number k)

resolution_placed : (k : FeeResolution) → Placed parse_resolution (limited 2 (resolution_number k) ∷ []) (be 1 (resolution_number k))
unfolding parse_resolution
resolution_placed k = mapped_placed resolution_of 2 (resolution_number k)

attached_placed : (k : FeeIntentKind) (f : SubmissionFeeIntent) → Bytes 32 f.target → Placed (parse_attached (kind_number k)) (items_attached k f) (attached k f)
unfolding parse_attached
attached_placed AlreadyPaid f g = none_placed _
attached_placed NoFeeConfigured f g = none_placed _
attached_placed Attach f g =
    then_placed f.target (bytes_placed 32 f.target g) (bytes_reads 32 f.target g) (λ t q.
    last_placed (λ n. record { kind = Attach; target = t; amount = n }) (number_placed 8 f.amount))

fee_intent_placed : (f : SubmissionFeeIntent) → GoodFeeIntent f → Placed parse_fee_intent (items_fee_intent f) (encode_fee_intent f)
unfolding parse_fee_intent items_fee_intent encode_fee_intent
fee_intent_placed f g =
    then_placed (kind_number f.kind) (limited_placed 2 (kind_number f.kind)) (reads (up_to_lawful 2 (omega arith)) (kind_number f.kind) (kind_small f.kind)) (λ k q.
    subst (λ (n : ℕ). Placed (parse_attached n) (items_attached f.kind f) (attached f.kind f)) (sym q) (attached_placed f.kind f g.typed.target))

hash_placed : (h : OptionalHash) → GoodHash h → Placed parse_hash (items_hash h) (encode_hash h)
unfolding parse_hash items_hash encode_hash
hash_placed h g = optional_placed zero_hash h.present (λ q. last_placed (λ l. record { present = true; hash = l }) (bytes_placed 32 h.hash g.typed))

-- ---- a retained submission
slot_placed : (next : ℕ) (held : List ℕ) (a : OptionalAttempt) → GoodSlot next held a → Placed (parse_slot next held) (items_slot next held a) (encode_slot a)
unfolding parse_slot items_slot items_attempt encode_slot encode_attempt
slot_placed next held a g =
    let t = a.attempt.token.0 in
    let d = a.attempt.drained_variant_fingerprint in
    let f = a.attempt.finalized_variant_fingerprint in
    optional_placed no_attempt a.present (λ p.
    as_placed (sym (simp append_assoc))
    (then_placed t (ruled_placed 8 (fresh_token next held) t) (reads (checked_lawful (fresh_token next held) (number_lawful 8)) t (g.typed.token, slot_fresh next held a g.fresh p)) (λ _ q.
    then_placed a.attempt.goal (goal_placed a.attempt.goal) (reads goal_lawful a.attempt.goal tt) (λ _ q.
    then_placed d (bytes_placed 32 d g.typed.drained) (bytes_reads 32 d g.typed.drained) (λ _ q.
    last_placed _ (hash_placed f (record { typed = g.typed.finalized; sound = slot_hash a g.sound p })))))))

slots_placed : (next : ℕ) (held : List ℕ) (s : AttemptSlots) → GoodSlots next held s → Placed (parse_slots next held) (items_slots next held s) (encode_slots s)
unfolding parse_slots items_slots encode_slots
slots_placed next held s g =
    then_placed s.active_attempt (slot_placed next held s.active_attempt g.live) (reads (slot_lawful next held) s.active_attempt g.live) (λ a q.
    last_placed (λ c. record { active_attempt = a; completed_attempt = c })
    (slot_placed next (held ++ attempt_token a) s.completed_attempt (subst (λ (y : OptionalAttempt). GoodSlot next (held ++ attempt_token y) s.completed_attempt) (sym q) g.aside)))

variant_placed : (v : SubmissionBroadcastVariant) → GoodVariant v → Placed parse_variant (items_variant v) (encode_variant v)
unfolding parse_variant items_variant encode_variant
variant_placed v g =
    optional_placed base_variant v.fee_bearing (λ p.
    let b = variant_bundle v g p in
    then_placed v.bundle (bundle_placed false v.bundle b) (reads (bundle_lawful false) v.bundle b) (λ w q.
    last_placed (λ n. record { fee_bearing = true; bundle = w; applied_fee = n }) (number_placed 8 v.applied_fee)))

facts_placed : (p : RetainedIntent) (s : SubmissionState) → GoodFacts (record { intent = p; state = s }) → Placed parse_facts (items_facts p s) (encode_facts p s)
unfolding parse_facts items_facts encode_facts
facts_placed p s g =
    let h = p.intent_fingerprint in
    let b = p.base_bundle in
    let v = s.current_variant in
    let r = s.status.fee_resolution in
    let f = p.fee_intent in
    let a = s.wallet_acknowledged_variant in
    let c = s.status.chain_terminality in
    as_placed (sym (simp append_assoc))
    (then_placed h (bytes_placed 32 h g.fingerprint) (bytes_reads 32 h g.fingerprint) (λ _ q.
    then_placed b (bundle_placed true b g.base) (reads (bundle_lawful true) b g.base) (λ _ q.
    then_placed v (variant_placed v g.current) (reads variant_lawful v g.current) (λ _ q.
    then_placed r (resolution_placed r) (reads resolution_lawful r tt) (λ _ q.
    then_placed f (fee_intent_placed f g.fee) (reads fee_intent_lawful f g.fee) (λ _ q.
    then_placed a (hash_placed a g.acknowledged) (reads hash_lawful a g.acknowledged) (λ _ q.
    then_placed c (chain_placed c) (reads chain_lawful c tt) (λ _ q.
    last_placed _ (height_placed s.status.expiry)))))))))

submitted_placed : (next : ℕ) (before : List SubmittedTx) (t : SubmittedTx) → GoodSubmitted next before t → Placed (parse_submitted next before) (items_submitted next before t) (encode_submitted t)
unfolding parse_submitted items_submitted encode_submitted
submitted_placed next before t g =
    let i = t.entry.id.0 in
    let slots = slots_good next before t g in
    as_placed (sym (simp append_assoc))
    (then_placed i (ruled_placed 8 (λ i. not (elemb i (map id_of before))) i) (reads (checked_lawful (λ i. not (elemb i (map id_of before))) (number_lawful 8)) i (g.typed.entry.id, g.new)) (λ _ q.
    then_placed t.slots (slots_placed next (flat_map tokens_of before) t.slots slots) (reads (slots_lawful next (flat_map tokens_of before)) t.slots slots) (λ _ q.
    last_placed _ (facts_placed t.entry.intent t.entry.state (facts_good next before t g)))))

-- ---- a queue entry
delivery_placed : (d : PendingDelivery) → GoodDelivery d → Placed parse_delivery (items_delivery d) (encode_delivery d)
unfolding parse_delivery items_delivery encode_delivery
delivery_placed d g =
    let x = d.intent in
    let f = delivery_facts d g.sound in
    let b = any_bundle x.bundle g.typed.bundle f.0 in
    let fee : GoodFeeIntent x.fee_intent = record { typed = g.typed.fee_intent; sound = f.1 } in
    as_placed (six (encode_id x.id) (encode_bundle x.bundle) (encode_height x.expiry) (encode_fee_intent x.fee_intent) (be 1 (trigger_number d.trigger)) (be 1 (goal_number d.goal)))
    (then_placed x.id (id_placed x.id) (reads id_lawful x.id g.typed.id) (λ _ q.
    then_placed x.bundle (bundle_placed false x.bundle b) (reads (bundle_lawful false) x.bundle b) (λ _ q.
    then_placed x.expiry (height_placed x.expiry) (reads height_lawful x.expiry g.typed.expiry) (λ _ q.
    then_placed x.fee_intent (fee_intent_placed x.fee_intent fee) (reads fee_intent_lawful x.fee_intent fee) (λ _ q.
    then_placed d.trigger (trigger_placed d.trigger) (reads trigger_lawful d.trigger tt) (λ _ q.
    last_placed _ (goal_placed d.goal)))))))

-- ---- the book
numbers_placed : (n : Numbers) → GoodNumbers n → Placed parse_numbers (ruled 1 (λ k. eqb k 2) 2 ∷ number_item 8 n.token ∷ number_item 8 n.id ∷ []) (enc_numbers n)
unfolding parse_numbers enc_numbers
numbers_placed n g =
    as_placed (sym (append_assoc (be 1 2) (be 8 n.token) (be 8 n.id)))
    (then_placed 2 (ruled_placed 1 (λ k. eqb k 2) 2) (reads (checked_lawful (λ k. eqb k 2) (number_lawful 1)) 2 (omega arith, refl)) (λ _ q.
    then_placed n.token (number_placed 8 n.token) (reads (number_lawful 8) n.token g.token) (λ _ q.
    last_placed _ (number_placed 8 n.id))))

retired_placed : (before : List ℕ) (x : ℕ) → GoodRetired before x → Placed (parse_retired before) (items_retired before x) (be 8 x)
unfolding parse_retired
retired_placed before x g = ruled_placed 8 (λ y. not (elemb y before)) x

replayed_placed : (retained before : List ℕ) (x : ℕ) → GoodReplayed retained before x → Placed (parse_replayed retained before) (items_replayed retained before x) (be 8 x)
unfolding parse_replayed
replayed_placed retained before x g = ruled_placed 8 (λ y. above before y && elemb y retained) x

model_bytes : (m : Book) → enc_numbers (numbers_of m) ++ (enc_list encode_submitted m.submitted ++ (enc_list encode_delivery m.pending ++ (enc_list (be 8) m.retired ++ (encode_height m.rollback ++ enc_list (be 8) m.replayed)))) ≡ encode_model m
unfolding encode_model enc_numbers encode_numbers
model_bytes m = six (encode_numbers m) (enc_list encode_submitted m.submitted) (enc_list encode_delivery m.pending) (enc_list (be 8) m.retired) (encode_height m.rollback) (enc_list (be 8) m.replayed)

pub model_placed : (m : Book) → GoodModel m → Placed parse_model (items_model m) (encode_model m)
unfolding parse_model items_model
model_placed m g =
    let n : GoodNumbers (numbers_of m) = record { token = g.token; id = g.id } in
    let queue : AllFrom (λ b. GoodDelivery) [] m.pending × (length m.pending ≤ 16) = (from_every GoodDelivery [] m.pending g.pending.0, g.pending.1) in
    as_placed (model_bytes m)
    (then_placed (numbers_of m) (numbers_placed (numbers_of m) n) (reads numbers_lawful (numbers_of m) n) (λ y q.
    let s : AllFrom (GoodSubmitted y.token) [] m.submitted × (length m.submitted ≤ 16) = (subst (λ (z : Numbers). AllFrom (GoodSubmitted z.token) [] m.submitted) (sym q) g.submitted.0, g.submitted.1) in
    then_placed m.submitted (list_placed (submitted_lawful y.token) (submitted_placed y.token) 16 (omega arith) m.submitted s)
    (reads (list_from_lawful 16 zero_submitted (GoodSubmitted y.token) (omega arith) (submitted_lawful y.token)) m.submitted s) (λ t r.
    then_placed m.pending (list_placed (λ before. delivery_lawful) (λ before. delivery_placed) 16 (omega arith) m.pending queue) (reads queue_lawful m.pending g.pending) (λ _ _.
    then_placed m.retired (list_placed retired_lawful retired_placed 64 (omega arith) m.retired g.retired) (reads (list_from_lawful 64 0 GoodRetired (omega arith) retired_lawful) m.retired g.retired) (λ _ _.
    then_placed m.rollback (height_placed m.rollback) (reads height_lawful m.rollback g.rollback) (λ _ _.
    last_placed _ (list_placed (replayed_lawful (map id_of t)) (replayed_placed (map id_of t)) 16 (omega arith) m.replayed
    (subst (λ (l : List SubmittedTx). AllFrom (GoodReplayed (map id_of l)) [] m.replayed) (sym r) g.replayed.0, g.replayed.1))))))))
