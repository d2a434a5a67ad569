-- Heights, optional ids, fee intents, kinds, fingerprints, attempt slots and fee variants: the parsers accept exactly the bytes of sound ones.
use Rattle.std.specs.Prelude.{◌≡◌, refl, Bool, true, false, cond, ◌&&◌, ◌||◌, List, [], ◌∷◌, ◌++◌, ℕ, zero, suc, ◌<◌, ◌≤◌, ◌^◌}
use Rattle.std.proofs.Common.{sym, ap, ◌∙◌, append-nil, append_assoc, arith, eqb-true}
use Rattle.std.proofs.lemmas.Bool.{false≢true}
use Rattle.base_lists.specs.Lists.{is_zero}
use Rattle.std.specs.List.{list_all}
use Rattle.base_lists.specs.Laws.{and_split, and_both, full_eq}
use Rattle.codec_forms.specs.Wire.{be, enc_opt, enc_opt_number, run, number, mapped, opt_number}
use Rattle.codec_forms.specs.Lawful.{Lawful, step, finish, recode}
use Rattle.codec_forms.specs.Items.{mapped_lawful}
use Rattle.codec_forms.proofs.Items.{number_lawful, checked_lawful, up_to_lawful, optional_lawful}
use Rattle.archive_bundle_form.specs.Forms.{encode_bundle, encode_height, encode_fee_intent, kind_number, attached}
use Rattle.book.specs.Zero.{zeros, zero_hash, zero_attempt, no_attempt, base_variant, is_zero32, is_zero_hash, is_no_attempt, is_base_variant, is_zero_attempt}
use Rattle.book.specs.Sound.{is_attach, sound_fee_intent, sound_hash, sound_attempt, sound_variant, sound_bundle, attempt_token, spends_of}
use Rattle.book.specs.Typed.{U8, Bytes, TypedOptionalHeight, TypedOptionalId, TypedFeeIntent, TypedHash, TypedOptionalAttempt, TypedVariant, TypedBundle}
use Rattle.std.specs.Prelude.{Option}
use Rattle.book.specs.declared.Height.{Height}
use Rattle.std.specs.Prelude.{None, Some}
use Rattle.book.specs.declared.SubmissionId.{SubmissionId}
use Rattle.book.specs.declared.FeeIntentKind.{FeeIntentKind}
use Rattle.book.specs.declared.FeeIntentKind.TheVariants.{AlreadyPaid, NoFeeConfigured, Attach}
use Rattle.book.specs.declared.SubmissionFeeIntent.{SubmissionFeeIntent}
use Rattle.book.specs.declared.SubmissionDeliveryGoal.{SubmissionDeliveryGoal}
use Rattle.book.specs.declared.SubmissionDeliveryGoal.TheVariants.{EnsureBroadcast, FeeUpgrade}
use Rattle.book.specs.declared.DeliveryTrigger.{DeliveryTrigger}
use Rattle.book.specs.declared.DeliveryTrigger.TheVariants.{Protocol, FreshChain, Rollback, ProviderReadiness}
use Rattle.book.specs.declared.SubmissionChainTerminality.{SubmissionChainTerminality}
use Rattle.book.specs.declared.SubmissionChainTerminality.TheVariants.{Active, InputSpent, Landed}
use Rattle.book.specs.declared.FeeResolution.{FeeResolution}
use Rattle.book.specs.declared.FeeResolution.TheVariants.{Unresolved, NotRequested, Attached}
use Rattle.book.specs.declared.OptionalHash.{OptionalHash}
use Rattle.book.specs.declared.DeliveryAttempt.{DeliveryAttempt}
use Rattle.book.specs.declared.OptionalAttempt.{OptionalAttempt}
use Rattle.book.specs.declared.SubmissionBroadcastVariant.{SubmissionBroadcastVariant}
use Rattle.book.specs.declared.SpendBundle.{SpendBundle}
use Rattle.archive_form.specs.Encode.{goal_number, trigger_number, chain_number, resolution_number, encode_hash, encode_attempt, encode_slot, encode_variant, encode_id}
use Rattle.archive_form.specs.Parse.{parse_height, parse_id, parse_attached, parse_fee_intent, goal_of, trigger_of, chain_of, resolution_of, parse_goal, parse_trigger, parse_chain, parse_resolution, parse_hash, fresh_token, parse_slot, parse_variant}
use Rattle.book.specs.ZeroLaws.{hash_zero, no_attempt_lem, base_variant_lem, bundle_zero_is}
use Rattle.archive_laws.specs.Cells.{every_replicate, bytes_lawful}
use Rattle.archive_laws.specs.Bundles.{GoodBundle, bundle_lawful, zero_bundle_typed}

-- a test that every element passes
pub all_always : {A : Type 0} (xs : List A) → list_all (λ x. true) xs ≡ true
all_always [] = refl
all_always (x ∷ xs) = all_always xs

-- ---- an optional number in a type of its own, as a height or an id
module _ {A : Type 0} (of : ℕ → A) (number_of : A → ℕ) (Typed : Option A → Type 0)
    (back : (x : A) → of (number_of x) ≡ x) (forth : (n : ℕ) → number_of (of n) ≡ n)
    (none : Typed None) (typed : (n : ℕ) → n < 256 ^ 8 → Typed (Some (of n))) (fits : (x : A) → Typed (Some x) → number_of x < 256 ^ 8) where
  abbrev there : Option A → Bool
  there None = false
  there (Some x) = true

  abbrev number_or_0 : Option A → ℕ
  number_or_0 None = 0
  number_or_0 (Some x) = number_of x

  opt_number_bytes : (o : Option A) → enc_opt (there o) (be 8 (number_or_0 o)) ≡ enc_opt_number number_of o
  unfolding enc_opt
  opt_number_bytes None = refl
  opt_number_bytes (Some x) = refl

  some_back : (o : Option A) → Typed o × (there o ≡ true) → (number_or_0 o < 256 ^ 8) × (Some (of (number_or_0 o)) ≡ o)
  some_back None g = absurd (false≢true g.1)
  some_back (Some x) g = (fits x g.0, ap Some (back x))

  none_only : (o : Option A) → Typed o → there o ≡ false → o ≡ None
  none_only None g e = refl
  none_only (Some x) g e = absurd (false≢true (sym e))

  some_lawful : Lawful (λ o. Typed o × (there o ≡ true)) (λ o. be 8 (number_or_0 o)) (mapped (λ n. Some (of n)) (number 8))
  some_lawful = mapped_lawful (λ n. Some (of n)) number_or_0 (number_lawful 8) some_back (λ n g. ((typed n g, refl), forth n))

  opt_number_lawful : Lawful Typed (enc_opt_number number_of) (opt_number of)
  unfolding mapped
  opt_number_lawful = recode (enc_opt_number number_of) (λ o g. opt_number_bytes o) (optional_lawful there Typed None some_lawful (none, refl) none_only)

pub height_lawful : Lawful TypedOptionalHeight encode_height parse_height
unfolding parse_height encode_height
height_lawful = opt_number_lawful (λ n. record { 0 = n }) (λ (h : Height). h.0) TypedOptionalHeight (λ h. refl) (λ n. refl) tt (λ n g. g) (λ h g. g)

pub id_lawful : Lawful TypedOptionalId encode_id parse_id
unfolding parse_id encode_id
id_lawful = opt_number_lawful (λ n. record { 0 = n }) (λ (i : SubmissionId). i.0) TypedOptionalId (λ i. refl) (λ n. refl) tt (λ n g. g) (λ i g. g)

-- ---- kinds
goal_back : (k : SubmissionDeliveryGoal) → Unit {0} → (goal_number k ≤ 1) × (goal_of (goal_number k) ≡ k)
goal_back EnsureBroadcast x = (omega arith, refl)
goal_back FeeUpgrade x = (omega arith, refl)

goal_forth : (n : ℕ) → n ≤ 1 → Unit {0} × (goal_number (goal_of n) ≡ n)
goal_forth zero h = (tt, refl)
goal_forth (suc zero) h = (tt, refl)
goal_forth (suc (suc k)) h = absurd (omega arith)

pub goal_lawful : Lawful (λ k. Unit {0}) (λ k. be 1 (goal_number k)) parse_goal
unfolding parse_goal
goal_lawful = mapped_lawful goal_of goal_number (up_to_lawful 1 (omega arith)) goal_back goal_forth

trigger_back : (k : DeliveryTrigger) → Unit {0} → (trigger_number k ≤ 3) × (trigger_of (trigger_number k) ≡ k)
trigger_back Protocol x = (omega arith, refl)
trigger_back FreshChain x = (omega arith, refl)
trigger_back Rollback x = (omega arith, refl)
trigger_back ProviderReadiness x = (omega arith, refl)

trigger_forth : (n : ℕ) → n ≤ 3 → Unit {0} × (trigger_number (trigger_of n) ≡ n)
trigger_forth zero h = (tt, refl)
trigger_forth (suc zero) h = (tt, refl)
trigger_forth (suc (suc zero)) h = (tt, refl)
trigger_forth (suc (suc (suc zero))) h = (tt, refl)
trigger_forth (suc (suc (suc (suc k)))) h = absurd (omega arith)

pub trigger_lawful : Lawful (λ k. Unit {0}) (λ k. be 1 (trigger_number k)) parse_trigger
unfolding parse_trigger
trigger_lawful = mapped_lawful trigger_of trigger_number (up_to_lawful 3 (omega arith)) trigger_back trigger_forth

chain_back : (k : SubmissionChainTerminality) → Unit {0} → (chain_number k ≤ 2) × (chain_of (chain_number k) ≡ k)
chain_back Active x = (omega arith, refl)
chain_back InputSpent x = (omega arith, refl)
chain_back Landed x = (omega arith, refl)

chain_forth : (n : ℕ) → n ≤ 2 → Unit {0} × (chain_number (chain_of n) ≡ n)
chain_forth zero h = (tt, refl)
chain_forth (suc zero) h = (tt, refl)
chain_forth (suc (suc zero)) h = (tt, refl)
chain_forth (suc (suc (suc k))) h = absurd (omega arith)

pub chain_lawful : Lawful (λ k. Unit {0}) (λ k. be 1 (chain_number k)) parse_chain
unfolding parse_chain
chain_lawful = mapped_lawful chain_of chain_number (up_to_lawful 2 (omega arith)) chain_back chain_forth

resolution_back : (k : FeeResolution) → Unit {0} → (resolution_number k ≤ 2) × (resolution_of (resolution_number k) ≡ k)
resolution_back Unresolved x = (omega arith, refl)
resolution_back NotRequested x = (omega arith, refl)
resolution_back Attached x = (omega arith, refl)

resolution_forth : (n : ℕ) → n ≤ 2 → Unit {0} × (resolution_number (resolution_of n) ≡ n)
resolution_forth zero h = (tt, refl)
resolution_forth (suc zero) h = (tt, refl)
resolution_forth (suc (suc zero)) h = (tt, refl)
resolution_forth (suc (suc (suc k))) h = absurd (omega arith)

pub resolution_lawful : Lawful (λ k. Unit {0}) (λ k. be 1 (resolution_number k)) parse_resolution
unfolding parse_resolution
resolution_lawful = mapped_lawful resolution_of resolution_number (up_to_lawful 2 (omega arith)) resolution_back resolution_forth

-- ---- a fee intent
pub record GoodFeeIntent (f : SubmissionFeeIntent) : Type 0 where
  pub typed : TypedFeeIntent f
  pub sound : sound_fee_intent f ≡ true

pub kind_small : (k : FeeIntentKind) → kind_number k ≤ 2
kind_small AlreadyPaid = omega arith
kind_small NoFeeConfigured = omega arith
kind_small Attach = omega arith

kind_0 : (k : FeeIntentKind) → kind_number k ≡ 0 → k ≡ AlreadyPaid
kind_0 AlreadyPaid h = refl
kind_0 NoFeeConfigured h = absurd (omega arith)
kind_0 Attach h = absurd (omega arith)

kind_1 : (k : FeeIntentKind) → kind_number k ≡ 1 → k ≡ NoFeeConfigured
kind_1 AlreadyPaid h = absurd (omega arith)
kind_1 NoFeeConfigured h = refl
kind_1 Attach h = absurd (omega arith)

kind_2 : (k : FeeIntentKind) → kind_number k ≡ 2 → k ≡ Attach
kind_2 AlreadyPaid h = absurd (omega arith)
kind_2 NoFeeConfigured h = absurd (omega arith)
kind_2 Attach h = refl

-- without `Attach` there is neither target nor amount
unattached : (f : SubmissionFeeIntent) (k : FeeIntentKind) → sound_fee_intent f ≡ true → f.kind ≡ k → is_attach k ≡ false → f ≡ record { kind = k; target = zeros 32; amount = 0 }
unfolding sound_fee_intent
unattached f k h e n =
    let a : is_attach f.kind ≡ false = ap is_attach e ∙ n in
    let t = and_split (is_zero f.amount) (is_zero32 f.target) (ap (λ (b : Bool). b || (is_zero f.amount && is_zero32 f.target)) (sym a) ∙ h) in
    let u = full_eq is_zero 0 (λ x. eqb-true x 0) 32 f.target t.1 in
    let v = eqb-true f.amount 0 t.0 in
    λ i. record { kind = e i; target = u i; amount = v i }

empty_intent : (k : FeeIntentKind) → GoodFeeIntent (record { kind = k; target = zeros 32; amount = 0 })
unfolding sound_fee_intent
empty_intent k = record {
  typed = record { target = record { long = refl; each = every_replicate U8 32 0 (omega arith) }; amount = omega arith };
  sound = go k;
}
  where
    go : (k : FeeIntentKind) → (is_attach k || true) ≡ true
    go AlreadyPaid = refl
    go NoFeeConfigured = refl
    go Attach = refl

attached_sound : (f : SubmissionFeeIntent) → f.kind ≡ Attach → sound_fee_intent f ≡ true
unfolding sound_fee_intent
attached_sound f e = ap (λ (k : FeeIntentKind). is_attach k || (is_zero f.amount && is_zero32 f.target)) e

attached_lawful : (k : ℕ) → k ≤ 2 → Lawful (λ f. GoodFeeIntent f × (kind_number f.kind ≡ k)) (λ f. attached f.kind f) (parse_attached k)
unfolding parse_attached
attached_lawful zero h =
    recode (λ (f : SubmissionFeeIntent). attached f.kind f) (λ f x. ap (λ (k : FeeIntentKind). attached k f) (sym (kind_0 f.kind x.1)))
    (finish (record { kind = AlreadyPaid; target = zeros 32; amount = 0 }) (empty_intent AlreadyPaid, refl) (λ f x. unattached f AlreadyPaid x.0.sound (kind_0 f.kind x.1) refl))
attached_lawful (suc zero) h =
    recode (λ (f : SubmissionFeeIntent). attached f.kind f) (λ f x. ap (λ (k : FeeIntentKind). attached k f) (sym (kind_1 f.kind x.1)))
    (finish (record { kind = NoFeeConfigured; target = zeros 32; amount = 0 }) (empty_intent NoFeeConfigured, refl) (λ f x. unattached f NoFeeConfigured x.0.sound (kind_1 f.kind x.1) refl))
attached_lawful (suc (suc zero)) h =
    recode (λ (f : SubmissionFeeIntent). attached f.kind f) (λ f x. ap (λ (l : List ℕ). f.target ++ l) (append-nil (be 8 f.amount)) ∙ ap (λ (k : FeeIntentKind). attached k f) (sym (kind_2 f.kind x.1)))
    (step (λ (f : SubmissionFeeIntent). f.target) (bytes_lawful 32) (λ f x. x.0.typed.target) (λ l gl.
    step (λ (f : SubmissionFeeIntent). f.amount) (number_lawful 8) (λ f x. x.0.0.typed.amount) (λ n gn.
    finish (record { kind = Attach; target = l; amount = n }) (((record { typed = record { target = gl; amount = gn }; sound = attached_sound (record { kind = Attach; target = l; amount = n }) refl }, refl), refl), refl)
    (λ f x. let e = kind_2 f.kind x.0.0.1 in λ i. record { kind = e i; target = x.0.1 i; amount = x.1 i }))))
attached_lawful (suc (suc (suc k))) h = absurd (omega arith)

fee_bytes : (f : SubmissionFeeIntent) → be 1 (kind_number f.kind) ++ attached f.kind f ≡ encode_fee_intent f
unfolding encode_fee_intent
fee_bytes f = refl

pub fee_intent_lawful : Lawful GoodFeeIntent encode_fee_intent parse_fee_intent
unfolding parse_fee_intent
fee_intent_lawful =
    recode encode_fee_intent (λ f x. fee_bytes f)
    (step (λ (f : SubmissionFeeIntent). kind_number f.kind) (up_to_lawful 2 (omega arith)) (λ f x. kind_small f.kind) attached_lawful)

-- ---- an optional fingerprint
pub record GoodHash (h : OptionalHash) : Type 0 where
  pub typed : TypedHash h
  pub sound : sound_hash h ≡ true

absent_test : {p a : Bool} → (p || a) ≡ true → p ≡ false → a ≡ true
absent_test {p} {a} h e = ap (λ (b : Bool). b || a) (sym e) ∙ h

hash_only : (h : OptionalHash) → GoodHash h → h.present ≡ false → h ≡ zero_hash
unfolding sound_hash
hash_only h g e = hash_zero h (absent_test g.sound e)

hash_present : (l : List ℕ) → Bytes 32 l → GoodHash (record { present = true; hash = l })
unfolding sound_hash
hash_present l g = record { typed = g; sound = refl }

hash_none : GoodHash zero_hash × (zero_hash.present ≡ false)
unfolding sound_hash zero_hash
hash_none = (record { typed = record { long = refl; each = every_replicate U8 32 0 (omega arith) }; sound = refl }, refl)

hash_there : Lawful (λ h. GoodHash h × (h.present ≡ true)) (λ (h : OptionalHash). h.hash) (mapped (λ l. record { present = true; hash = l }) (run 32))
hash_there =
    mapped_lawful (λ l. record { present = true; hash = l }) (λ (h : OptionalHash). h.hash) (bytes_lawful 32)
    (λ h x. (x.0.typed, λ i. record { present = sym x.1 i; hash = h.hash })) (λ l g. ((hash_present l g, refl), refl))

pub hash_lawful : Lawful GoodHash encode_hash parse_hash
unfolding encode_hash parse_hash mapped
hash_lawful = optional_lawful (λ (h : OptionalHash). h.present) GoodHash zero_hash hash_there hash_none hash_only

-- ---- an attempt slot
pub record GoodSlot (next : ℕ) (held : List ℕ) (a : OptionalAttempt) : Type 0 where
  pub typed : TypedOptionalAttempt a
  pub sound : sound_attempt a ≡ true
  pub fresh : list_all (fresh_token next held) (attempt_token a) ≡ true

-- the facts of a slot that holds an attempt
pub slot_hash : (a : OptionalAttempt) → sound_attempt a ≡ true → a.present ≡ true → sound_hash a.attempt.finalized_variant_fingerprint ≡ true
unfolding sound_attempt
slot_hash a h e = ap (λ (b : Bool). cond b (sound_hash a.attempt.finalized_variant_fingerprint) (is_no_attempt a)) (sym e) ∙ h

pub slot_fresh : (next : ℕ) (held : List ℕ) (a : OptionalAttempt) → list_all (fresh_token next held) (attempt_token a) ≡ true → a.present ≡ true → fresh_token next held a.attempt.token.0 ≡ true
slot_fresh next held a h e =
    (and_split (fresh_token next held a.attempt.token.0) true (ap (λ (b : Bool). list_all (fresh_token next held) (cond b (a.attempt.token.0 ∷ []) [])) (sym e) ∙ h)).0

slot_only : (next : ℕ) (held : List ℕ) (a : OptionalAttempt) → GoodSlot next held a → a.present ≡ false → a ≡ no_attempt
unfolding sound_attempt
slot_only next held a g e =
    no_attempt_lem a (ap (λ (b : Bool). cond b (sound_hash a.attempt.finalized_variant_fingerprint) (is_no_attempt a)) (sym e) ∙ g.sound)

slot_none : (next : ℕ) (held : List ℕ) → GoodSlot next held no_attempt × (no_attempt.present ≡ false)
unfolding sound_attempt no_attempt zero_attempt is_no_attempt is_zero_attempt zero_hash is_zero_hash
slot_none next held = (
  record {
    typed = record {
      token = omega arith;
      drained = record { long = refl; each = every_replicate U8 32 0 (omega arith) };
      finalized = record { long = refl; each = every_replicate U8 32 0 (omega arith) };
    };
    sound = refl;
    fresh = refl;
  },
  refl,
)

attempt_of : ℕ → SubmissionDeliveryGoal → List ℕ → OptionalHash → OptionalAttempt
attempt_of t g d f = record { present = true; attempt = record { token = record { 0 = t }; goal = g; drained_variant_fingerprint = d; finalized_variant_fingerprint = f } }

slot_good : (next : ℕ) (held : List ℕ) (t : ℕ) (g : SubmissionDeliveryGoal) (d : List ℕ) (f : OptionalHash) → (t < 256 ^ 8) → fresh_token next held t ≡ true → Bytes 32 d → GoodHash f → GoodSlot next held (attempt_of t g d f)
unfolding attempt_of sound_attempt
slot_good next held t g d f gt ft gd gf = record { typed = record { token = gt; drained = gd; finalized = gf.typed }; sound = gf.sound; fresh = and_both ft refl }

attempt_bytes : (a : DeliveryAttempt) → be 8 a.token.0 ++ (be 1 (goal_number a.goal) ++ (a.drained_variant_fingerprint ++ (encode_hash a.finalized_variant_fingerprint ++ []))) ≡ encode_attempt a
unfolding encode_attempt
attempt_bytes a =
    ap (λ (l : List ℕ). be 8 a.token.0 ++ (be 1 (goal_number a.goal) ++ (a.drained_variant_fingerprint ++ l))) (append-nil (encode_hash a.finalized_variant_fingerprint))
    ∙ sym (simp append_assoc)

pub slot_lawful : (next : ℕ) (held : List ℕ) → Lawful (GoodSlot next held) encode_slot (parse_slot next held)
unfolding encode_slot parse_slot attempt_of
slot_lawful next held =
    optional_lawful (λ (a : OptionalAttempt). a.present) (GoodSlot next held) no_attempt
    (recode (λ (a : OptionalAttempt). encode_attempt a.attempt) (λ a x. attempt_bytes a.attempt)
    (step (λ (a : OptionalAttempt). a.attempt.token.0) (checked_lawful (fresh_token next held) (number_lawful 8)) (λ a x. (x.0.typed.token, slot_fresh next held a x.0.fresh x.1)) (λ t gt.
    step (λ (a : OptionalAttempt). a.attempt.goal) goal_lawful (λ a x. tt) (λ g gg.
    step (λ (a : OptionalAttempt). a.attempt.drained_variant_fingerprint) (bytes_lawful 32) (λ a x. x.0.0.0.typed.drained) (λ d gd.
    step (λ (a : OptionalAttempt). a.attempt.finalized_variant_fingerprint) hash_lawful (λ a x. record { typed = x.0.0.0.0.typed.finalized; sound = slot_hash a x.0.0.0.0.sound x.0.0.0.1 }) (λ f gf.
    finish (attempt_of t g d f) (((((slot_good next held t g d f gt.0 gt.1 gd gf, refl), refl), refl), refl), refl)
    (λ a x i. record { present = x.0.0.0.0.1 i; attempt = record { token = record { 0 = x.0.0.0.1 i }; goal = x.0.0.1 i; drained_variant_fingerprint = x.0.1 i; finalized_variant_fingerprint = x.1 i } })))))))
    (slot_none next held) (slot_only next held)

-- ---- the fee bundle
pub record GoodVariant (v : SubmissionBroadcastVariant) : Type 0 where
  pub typed : TypedVariant v
  pub sound : sound_variant v ≡ true

-- in a bundle that is no base bundle any run will do
pub any_bundle : (b : SpendBundle) → TypedBundle b → sound_bundle b ≡ true → GoodBundle false b
any_bundle b t h = record { typed = t; sound = h; readable = all_always (spends_of b) }

pub variant_bundle : (v : SubmissionBroadcastVariant) → GoodVariant v → v.fee_bearing ≡ true → GoodBundle false v.bundle
unfolding sound_variant
variant_bundle v g e = any_bundle v.bundle g.typed.bundle (ap (λ (b : Bool). cond b (sound_bundle v.bundle) (is_base_variant v)) (sym e) ∙ g.sound)

variant_only : (v : SubmissionBroadcastVariant) → GoodVariant v → v.fee_bearing ≡ false → v ≡ base_variant
unfolding sound_variant
variant_only v g e = base_variant_lem v (ap (λ (b : Bool). cond b (sound_bundle v.bundle) (is_base_variant v)) (sym e) ∙ g.sound)

variant_none : GoodVariant base_variant × (base_variant.fee_bearing ≡ false)
unfolding sound_variant base_variant is_base_variant
variant_none = (record { typed = record { bundle = zero_bundle_typed; applied_fee = omega arith }; sound = bundle_zero_is }, refl)

variant_of : SpendBundle → ℕ → SubmissionBroadcastVariant
variant_of b n = record { fee_bearing = true; bundle = b; applied_fee = n }

variant_good : (b : SpendBundle) (n : ℕ) → GoodBundle false b → n < 256 ^ 8 → GoodVariant (variant_of b n)
unfolding sound_variant variant_of
variant_good b n g h = record { typed = record { bundle = g.typed; applied_fee = h }; sound = g.sound }

pub variant_lawful : Lawful GoodVariant encode_variant parse_variant
unfolding encode_variant parse_variant variant_of
variant_lawful =
    optional_lawful (λ (v : SubmissionBroadcastVariant). v.fee_bearing) GoodVariant base_variant
    (recode (λ (v : SubmissionBroadcastVariant). encode_bundle v.bundle ++ be 8 v.applied_fee) (λ v x. ap (λ (l : List ℕ). encode_bundle v.bundle ++ l) (append-nil (be 8 v.applied_fee)))
    (step (λ (v : SubmissionBroadcastVariant). v.bundle) (bundle_lawful false) (λ v x. variant_bundle v x.0 x.1) (λ b gb.
    step (λ (v : SubmissionBroadcastVariant). v.applied_fee) (number_lawful 8) (λ v x. x.0.0.typed.applied_fee) (λ n gn.
    finish (variant_of b n) (((variant_good b n gb gn, refl), refl), refl) (λ v x i. record { fee_bearing = x.0.0.1 i; bundle = x.0.1 i; applied_fee = x.1 i })))))
    variant_none variant_only
