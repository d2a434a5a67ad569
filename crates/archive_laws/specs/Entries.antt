-- Retained submissions and queue entries: the parsers accept exactly the bytes of sound ones.
use Rattle.std.specs.Prelude.{◌≡◌, refl, true, false, not, List, [], ◌++◌, map, ℕ, ◌<◌, ◌^◌}
use Rattle.std.proofs.Common.{sym, ap, ◌∙◌, subst, append-nil, append_assoc}
use Rattle.base_lists.specs.Lists.{elemb}
use Rattle.std.specs.List.{list_all, flat_map}
use Rattle.base_lists.specs.Laws.{and_split, and_both}
use Rattle.codec_forms.specs.Wire.{be}
use Rattle.codec_forms.specs.Lawful.{Lawful, step, finish, recode}
use Rattle.codec_forms.proofs.Items.{number_lawful, checked_lawful}
use Rattle.archive_bundle_form.specs.Forms.{encode_bundle, encode_height, encode_fee_intent}
use Rattle.book.specs.Sound.{sound_fee_intent, sound_attempt, sound_slots, sound_bundle, readable_bundle, sound_submitted, sound_intent, sound_delivery, id_of, attempt_token, tokens_of}
use Rattle.book.specs.SoundLaws.{SoundEntry, sound_entry_lem, entry_sound, sound_submitted_lem, submitted_sound}
use Rattle.book.specs.Typed.{Bytes, TypedOptionalHeight, TypedOptionalId, TypedBundle, TypedSubmitted, TypedDelivery}
use Rattle.std.specs.Prelude.{Option}
use Rattle.book.specs.declared.Height.{Height}
use Rattle.book.specs.declared.SubmissionId.{SubmissionId}
use Rattle.book.specs.declared.SubmissionFeeIntent.{SubmissionFeeIntent}
use Rattle.book.specs.declared.SubmissionDeliveryGoal.{SubmissionDeliveryGoal}
use Rattle.book.specs.declared.DeliveryTrigger.{DeliveryTrigger}
use Rattle.book.specs.declared.SubmissionChainTerminality.{SubmissionChainTerminality}
use Rattle.book.specs.declared.FeeResolution.{FeeResolution}
use Rattle.book.specs.declared.OptionalHash.{OptionalHash}
use Rattle.book.specs.declared.OptionalAttempt.{OptionalAttempt}
use Rattle.book.specs.declared.AttemptSlots.{AttemptSlots}
use Rattle.book.specs.declared.SubmissionBroadcastVariant.{SubmissionBroadcastVariant}
use Rattle.book.specs.declared.RetainedIntent.{RetainedIntent}
use Rattle.book.specs.declared.SubmissionState.{SubmissionState}
use Rattle.book.specs.declared.SubmittedEntry.{SubmittedEntry}
use Rattle.book.specs.declared.SubmittedTx.{SubmittedTx}
use Rattle.book.specs.declared.PendingDelivery.{PendingDelivery}
use Rattle.book.specs.declared.SpendBundle.{SpendBundle}
use Rattle.archive_form.specs.Encode.{goal_number, trigger_number, chain_number, resolution_number, encode_hash, encode_slot, encode_slots, encode_variant, encode_facts, encode_submitted, encode_id, encode_delivery}
use Rattle.archive_form.specs.Parse.{fresh_token, parse_slots, Facts, parse_facts, parse_submitted, parse_delivery}
use Rattle.archive_laws.specs.Cells.{bytes_lawful}
use Rattle.archive_laws.specs.Bundles.{GoodBundle, bundle_lawful}
use Rattle.archive_laws.specs.Parts.{height_lawful, id_lawful, goal_lawful, trigger_lawful, chain_lawful, resolution_lawful, GoodFeeIntent, fee_intent_lawful, GoodHash, hash_lawful, GoodSlot, slot_lawful, GoodVariant, variant_lawful, any_bundle}

-- ---- the two slots
pub record GoodSlots (next : ℕ) (held : List ℕ) (s : AttemptSlots) : Type 0 where
  pub live : GoodSlot next held s.active_attempt
  pub aside : GoodSlot next (held ++ attempt_token s.active_attempt) s.completed_attempt

pub slots_lawful : (next : ℕ) (held : List ℕ) → Lawful (GoodSlots next held) encode_slots (parse_slots next held)
unfolding encode_slots parse_slots
slots_lawful next held =
    recode encode_slots (λ s x. ap (λ (l : List ℕ). encode_slot s.active_attempt ++ l) (append-nil (encode_slot s.completed_attempt)))
    (step (λ (s : AttemptSlots). s.active_attempt) (slot_lawful next held) (λ s x. x.live) (λ a ga.
    step (λ (s : AttemptSlots). s.completed_attempt) (slot_lawful next (held ++ attempt_token a)) (λ s x. subst (λ (y : OptionalAttempt). GoodSlot next (held ++ attempt_token y) s.completed_attempt) x.1 x.0.aside) (λ c gc.
    finish (record { active_attempt = a; completed_attempt = c }) ((record { live = ga; aside = gc }, refl), refl) (λ s x i. record { active_attempt = x.0.1 i; completed_attempt = x.1 i }))))

-- ---- intent and state
pub record GoodFacts (f : Facts) : Type 0 where
  pub fingerprint : Bytes 32 f.intent.intent_fingerprint
  pub base : GoodBundle true f.intent.base_bundle
  pub current : GoodVariant f.state.current_variant
  pub fee : GoodFeeIntent f.intent.fee_intent
  pub acknowledged : GoodHash f.state.wallet_acknowledged_variant
  pub expiry : TypedOptionalHeight f.state.status.expiry

abbrev pub enc_facts : Facts → List ℕ
enc_facts f = encode_facts f.intent f.state

abbrev pub facts_of : SubmittedEntry → Facts
facts_of e = record { intent = e.intent; state = e.state }

facts_as : List ℕ → SpendBundle → SubmissionBroadcastVariant → FeeResolution → SubmissionFeeIntent → OptionalHash → SubmissionChainTerminality → Option Height → Facts
facts_as p b v r f a c e = record {
  intent = record { intent_fingerprint = p; base_bundle = b; fee_intent = f };
  state = record { current_variant = v; wallet_acknowledged_variant = a; status = record { fee_resolution = r; chain_terminality = c; expiry = e } };
}

facts_bytes : (p : RetainedIntent) (s : SubmissionState)
    → p.intent_fingerprint ++ (encode_bundle p.base_bundle ++ (encode_variant s.current_variant ++ (be 1 (resolution_number s.status.fee_resolution)
    ++ (encode_fee_intent p.fee_intent ++ (encode_hash s.wallet_acknowledged_variant ++ (be 1 (chain_number s.status.chain_terminality) ++ (encode_height s.status.expiry ++ [])))))))
    ≡ encode_facts p s
unfolding encode_facts
facts_bytes p s =
    ap (λ (l : List ℕ). p.intent_fingerprint ++ (encode_bundle p.base_bundle ++ (encode_variant s.current_variant ++ (be 1 (resolution_number s.status.fee_resolution)
    ++ (encode_fee_intent p.fee_intent ++ (encode_hash s.wallet_acknowledged_variant ++ (be 1 (chain_number s.status.chain_terminality) ++ l))))))) (append-nil (encode_height s.status.expiry))
    ∙ sym (simp append_assoc)

pub facts_lawful : Lawful GoodFacts enc_facts parse_facts
unfolding parse_facts facts_as
facts_lawful =
    recode enc_facts (λ f x. facts_bytes f.intent f.state)
    (step (λ (f : Facts). f.intent.intent_fingerprint) (bytes_lawful 32) (λ f x. x.fingerprint) (λ p gp.
    step (λ (f : Facts). f.intent.base_bundle) (bundle_lawful true) (λ f x. x.0.base) (λ b gb.
    step (λ (f : Facts). f.state.current_variant) variant_lawful (λ f x. x.0.0.current) (λ v gv.
    step (λ (f : Facts). f.state.status.fee_resolution) resolution_lawful (λ f x. tt) (λ r gr.
    step (λ (f : Facts). f.intent.fee_intent) fee_intent_lawful (λ f x. x.0.0.0.0.fee) (λ i gi.
    step (λ (f : Facts). f.state.wallet_acknowledged_variant) hash_lawful (λ f x. x.0.0.0.0.0.acknowledged) (λ a ga.
    step (λ (f : Facts). f.state.status.chain_terminality) chain_lawful (λ f x. tt) (λ c gc.
    step (λ (f : Facts). f.state.status.expiry) height_lawful (λ f x. x.0.0.0.0.0.0.0.expiry) (λ e ge.
    finish (facts_as p b v r i a c e)
    ((((((((record { fingerprint = gp; base = gb; current = gv; fee = gi; acknowledged = ga; expiry = ge }, refl), refl), refl), refl), refl), refl), refl), refl)
    (λ f x j. facts_as (x.0.0.0.0.0.0.0.1 j) (x.0.0.0.0.0.0.1 j) (x.0.0.0.0.0.1 j) (x.0.0.0.0.1 j) (x.0.0.0.1 j) (x.0.0.1 j) (x.0.1 j) (x.1 j)))))))))))

-- ---- a retained submission, after those before it
abbrev held_by : List SubmittedTx → List ℕ
held_by before = flat_map tokens_of before

pub record GoodSubmitted (next : ℕ) (before : List SubmittedTx) (t : SubmittedTx) : Type 0 where
  pub typed : TypedSubmitted t
  pub sound : sound_submitted t ≡ true
  pub new : not (elemb (id_of t) (map id_of before)) ≡ true
  pub live : list_all (fresh_token next (held_by before)) (attempt_token t.slots.active_attempt) ≡ true
  pub aside : list_all (fresh_token next (held_by before ++ attempt_token t.slots.active_attempt)) (attempt_token t.slots.completed_attempt) ≡ true

pub record SubmittedFacts (t : SubmittedTx) : Type 0 where
  pub active : sound_attempt t.slots.active_attempt ≡ true
  pub completed : sound_attempt t.slots.completed_attempt ≡ true
  pub entry : SoundEntry t.entry

pub submitted_facts : (t : SubmittedTx) → sound_submitted t ≡ true → SubmittedFacts t
unfolding sound_slots
submitted_facts t h =
    let p = sound_submitted_lem t h in
    let s = and_split (sound_attempt t.slots.active_attempt) (sound_attempt t.slots.completed_attempt) p.slots in
    record { active = s.0; completed = s.1; entry = sound_entry_lem t.entry p.entry }

facts_submitted : (t : SubmittedTx) → SubmittedFacts t → sound_submitted t ≡ true
unfolding sound_slots
facts_submitted t f = submitted_sound t (record { slots = and_both f.active f.completed; entry = entry_sound t.entry f.entry })

pub slots_good : (next : ℕ) (before : List SubmittedTx) (t : SubmittedTx) → GoodSubmitted next before t → GoodSlots next (held_by before) t.slots
slots_good next before t g =
    let f = submitted_facts t g.sound in
    record {
      live = record { typed = g.typed.slots.active; sound = f.active; fresh = g.live };
      aside = record { typed = g.typed.slots.completed; sound = f.completed; fresh = g.aside };
    }

-- a base bundle: every run can be read
pub base_good : (b : SpendBundle) → TypedBundle b → sound_bundle b ≡ true → readable_bundle b ≡ true → GoodBundle true b
unfolding readable_bundle
base_good b t s r = record { typed = t; sound = s; readable = r }

good_base : (b : SpendBundle) → GoodBundle true b → readable_bundle b ≡ true
unfolding readable_bundle
good_base b g = g.readable

pub facts_good : (next : ℕ) (before : List SubmittedTx) (t : SubmittedTx) → GoodSubmitted next before t → GoodFacts (facts_of t.entry)
facts_good next before t g =
    let y = g.typed.entry in
    let f = (submitted_facts t g.sound).entry in
    record {
      fingerprint = y.intent.fingerprint;
      base = base_good t.entry.intent.base_bundle y.intent.base f.intent.base f.intent.readable;
      current = record { typed = y.state.current; sound = f.state.current };
      fee = record { typed = y.intent.fee_intent; sound = f.intent.fee_intent };
      acknowledged = record { typed = y.state.acknowledged; sound = f.state.acknowledged };
      expiry = y.state.status;
    }

submitted_of : ℕ → AttemptSlots → Facts → SubmittedTx
submitted_of i s f = record { slots = s; entry = record { id = record { 0 = i }; intent = f.intent; state = f.state } }

submitted_good : (next : ℕ) (before : List SubmittedTx) (i : ℕ) (s : AttemptSlots) (f : Facts) → i < 256 ^ 8 → not (elemb i (map id_of before)) ≡ true → GoodSlots next (held_by before) s
    → GoodFacts f → GoodSubmitted next before (submitted_of i s f)
unfolding submitted_of
submitted_good next before i s f gi new gs gf = record {
  typed = record {
    slots = record { active = gs.live.typed; completed = gs.aside.typed };
    entry = record {
      id = gi;
      intent = record { fingerprint = gf.fingerprint; base = gf.base.typed; fee_intent = gf.fee.typed };
      state = record { current = gf.current.typed; acknowledged = gf.acknowledged.typed; status = gf.expiry };
    };
  };
  sound = facts_submitted (submitted_of i s f) (record {
    active = gs.live.sound;
    completed = gs.aside.sound;
    entry = record {
      intent = record { base = gf.base.sound; readable = good_base f.intent.base_bundle gf.base; fee_intent = gf.fee.sound };
      state = record { current = gf.current.sound; acknowledged = gf.acknowledged.sound };
    };
  });
  new = new;
  live = gs.live.fresh;
  aside = gs.aside.fresh;
}

submitted_bytes : (t : SubmittedTx) → be 8 t.entry.id.0 ++ (encode_slots t.slots ++ (encode_facts t.entry.intent t.entry.state ++ [])) ≡ encode_submitted t
unfolding encode_submitted
submitted_bytes t =
    ap (λ (l : List ℕ). be 8 t.entry.id.0 ++ (encode_slots t.slots ++ l)) (append-nil (encode_facts t.entry.intent t.entry.state))
    ∙ sym (simp append_assoc)

pub submitted_lawful : (next : ℕ) (before : List SubmittedTx) → Lawful (GoodSubmitted next before) encode_submitted (parse_submitted next before)
unfolding parse_submitted submitted_of
submitted_lawful next before =
    recode encode_submitted (λ t x. submitted_bytes t)
    (step id_of (checked_lawful (λ i. not (elemb i (map id_of before))) (number_lawful 8)) (λ t x. (x.typed.entry.id, x.new)) (λ i gi.
    step (λ (t : SubmittedTx). t.slots) (slots_lawful next (held_by before)) (λ t x. slots_good next before t x.0) (λ s gs.
    step (λ (t : SubmittedTx). facts_of t.entry) facts_lawful (λ t x. facts_good next before t x.0.0) (λ f gf.
    finish (submitted_of i s f) (((submitted_good next before i s f gi.0 gi.1 gs gf, refl), refl), refl) (λ t x j. submitted_of (x.0.0.1 j) (x.0.1 j) (x.1 j))))))

-- ---- a queue entry
pub record GoodDelivery (d : PendingDelivery) : Type 0 where
  pub typed : TypedDelivery d
  pub sound : sound_delivery d ≡ true

pub delivery_facts : (d : PendingDelivery) → sound_delivery d ≡ true → (sound_bundle d.intent.bundle ≡ true) × (sound_fee_intent d.intent.fee_intent ≡ true)
unfolding sound_delivery sound_intent
delivery_facts d h = and_split (sound_bundle d.intent.bundle) (sound_fee_intent d.intent.fee_intent) h

delivery_of : Option SubmissionId → SpendBundle → Option Height → SubmissionFeeIntent → DeliveryTrigger → SubmissionDeliveryGoal → PendingDelivery
delivery_of i b e f t g = record { intent = record { id = i; bundle = b; expiry = e; fee_intent = f }; trigger = t; goal = g }

delivery_good : (i : Option SubmissionId) (b : SpendBundle) (e : Option Height) (f : SubmissionFeeIntent) (t : DeliveryTrigger) (g : SubmissionDeliveryGoal) → TypedOptionalId i → GoodBundle false b → TypedOptionalHeight e → GoodFeeIntent f → GoodDelivery (delivery_of i b e f t g)
unfolding sound_delivery sound_intent delivery_of
delivery_good i b e f t g gi gb ge gf = record { typed = record { id = gi; bundle = gb.typed; expiry = ge; fee_intent = gf.typed }; sound = and_both gb.sound gf.sound }

delivery_bytes : (d : PendingDelivery) → encode_id d.intent.id ++ (encode_bundle d.intent.bundle ++ (encode_height d.intent.expiry ++ (encode_fee_intent d.intent.fee_intent ++ (be 1 (trigger_number d.trigger) ++ (be 1 (goal_number d.goal) ++ []))))) ≡ encode_delivery d
unfolding encode_delivery
delivery_bytes d =
    ap (λ (l : List ℕ). encode_id d.intent.id ++ (encode_bundle d.intent.bundle ++ (encode_height d.intent.expiry ++ (encode_fee_intent d.intent.fee_intent ++ (be 1 (trigger_number d.trigger) ++ l))))) (append-nil (be 1 (goal_number d.goal)))
    ∙ sym (simp append_assoc)

pub delivery_lawful : Lawful GoodDelivery encode_delivery parse_delivery
unfolding parse_delivery delivery_of
delivery_lawful =
    recode encode_delivery (λ d x. delivery_bytes d)
    (step (λ (d : PendingDelivery). d.intent.id) id_lawful (λ d x. x.typed.id) (λ i gi.
    step (λ (d : PendingDelivery). d.intent.bundle) (bundle_lawful false) (λ d x. any_bundle d.intent.bundle x.0.typed.bundle (delivery_facts d x.0.sound).0) (λ b gb.
    step (λ (d : PendingDelivery). d.intent.expiry) height_lawful (λ d x. x.0.0.typed.expiry) (λ e ge.
    step (λ (d : PendingDelivery). d.intent.fee_intent) fee_intent_lawful (λ d x. record { typed = x.0.0.0.typed.fee_intent; sound = (delivery_facts d x.0.0.0.sound).1 }) (λ f gf.
    step (λ (d : PendingDelivery). d.trigger) trigger_lawful (λ d x. tt) (λ t gt.
    step (λ (d : PendingDelivery). d.goal) goal_lawful (λ d x. tt) (λ g gg.
    finish (delivery_of i b e f t g) ((((((delivery_good i b e f t g gi gb ge gf, refl), refl), refl), refl), refl), refl)
    (λ d x j. delivery_of (x.0.0.0.0.0.1 j) (x.0.0.0.0.1 j) (x.0.0.0.1 j) (x.0.0.1 j) (x.0.1 j) (x.1 j)))))))))
