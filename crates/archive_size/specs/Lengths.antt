-- How long the parts of an archive are.
use Rattle.std.specs.Prelude.{◌≡◌, Bool, true, false, List, ◌++◌, ℕ, ◌+◌, ◌*◌, min, length, take}
use Rattle.std.proofs.Common.{sym, ap, ◌∙◌, arith, length-append}
use Rattle.archive_form.specs.Lengths.{numbers_size}
use Rattle.base_lists.specs.Laws.{count_cut}
use Rattle.codec_forms.specs.Wire.{be, enc_many, enc_list, enc_opt}
use Rattle.codec_forms.specs.Number.{be_length, numbers_length}
use Rattle.codec_forms.specs.Puts.{Size}
use Rattle.archive_bundle_form.specs.Forms.{encode_bundle, encode_height, encode_fee_intent}
use Rattle.book.specs.Model.{view}
use Rattle.book.specs.declared.OptionalHash.{OptionalHash}
use Rattle.book.specs.declared.OptionalAttempt.{OptionalAttempt}
use Rattle.book.specs.declared.SubmissionBroadcastVariant.{SubmissionBroadcastVariant}
use Rattle.book.specs.declared.RetainedIntent.{RetainedIntent}
use Rattle.book.specs.declared.SubmissionState.{SubmissionState}
use Rattle.book.specs.declared.SubmittedTx.{SubmittedTx}
use Rattle.book.specs.declared.PendingDelivery.{PendingDelivery}
use Rattle.book.specs.declared.BookData.{BookData}
use Rattle.archive_form.specs.Encode.{goal_number, trigger_number, chain_number, resolution_number, encode_hash, encode_attempt, encode_slot, encode_slots, encode_variant, encode_facts, encode_submitted, encode_id, encode_delivery, encode_numbers, encode_model, encode_book}

opt_no : (b : Bool) (l : List ℕ) → b ≡ false → length (enc_opt b l) ≡ 1
unfolding enc_opt
opt_no b l e = ap (λ (x : Bool). length (enc_opt x l)) e ∙ be_length 1 0

opt_yes : (b : Bool) (l : List ℕ) → b ≡ true → length (enc_opt b l) ≡ 1 + length l
unfolding enc_opt
opt_yes b l e = ap (λ (x : Bool). length (enc_opt x l)) e ∙ omega (arith, length-append (be 1 1) l, be_length 1 1)

pub hash_there : (h : OptionalHash) → h.present ≡ true → length h.hash ≡ 32 → Size (encode_hash h) 33 33
unfolding encode_hash
hash_there h e l = record { is = omega (arith, opt_yes h.present h.hash e); few = omega arith }

pub hash_none : (h : OptionalHash) → h.present ≡ false → Size (encode_hash h) 33 1
unfolding encode_hash
hash_none h e = record { is = sym (opt_no h.present h.hash e); few = omega arith }

pub slot_there : (a : OptionalAttempt) (r : ℕ) → a.present ≡ true → length a.attempt.drained_variant_fingerprint ≡ 32 → Size (encode_hash a.attempt.finalized_variant_fingerprint) 33 r → Size (encode_slot a) 75 (42 + r)
unfolding encode_slot encode_attempt
slot_there a r e l s =
    let x = be 8 a.attempt.token.0 in
    let y = be 1 (goal_number a.attempt.goal) in
    let d = a.attempt.drained_variant_fingerprint in
    let f = encode_hash a.attempt.finalized_variant_fingerprint in
    record {
      is = omega (arith, s.is, opt_yes a.present (x ++ y ++ d ++ f) e, length-append (x ++ y ++ d) f, length-append (x ++ y) d, length-append x y, be_length 8 a.attempt.token.0, be_length 1 (goal_number a.attempt.goal));
      few = omega (arith, s.few);
    }

pub slot_none : (a : OptionalAttempt) → a.present ≡ false → Size (encode_slot a) 75 1
unfolding encode_slot
slot_none a e = record { is = sym (opt_no a.present (encode_attempt a.attempt) e); few = omega arith }

pub variant_there : (v : SubmissionBroadcastVariant) (r : ℕ) → v.fee_bearing ≡ true → Size (encode_bundle v.bundle) 1073 r → Size (encode_variant v) 1082 (9 + r)
unfolding encode_variant
variant_there v r e s = record {
  is = omega (arith, s.is, opt_yes v.fee_bearing (encode_bundle v.bundle ++ be 8 v.applied_fee) e, length-append (encode_bundle v.bundle) (be 8 v.applied_fee), be_length 8 v.applied_fee);
  few = omega (arith, s.few);
}

pub variant_none : (v : SubmissionBroadcastVariant) → v.fee_bearing ≡ false → Size (encode_variant v) 1082 1
unfolding encode_variant
variant_none v e = record { is = sym (opt_no v.fee_bearing (encode_bundle v.bundle ++ be 8 v.applied_fee) e); few = omega arith }

pub facts_size : (p : RetainedIntent) (s : SubmissionState) (b v f a h : ℕ) → length p.intent_fingerprint ≡ 32 → Size (encode_bundle p.base_bundle) 1073 b
    → Size (encode_variant s.current_variant) 1082 v → Size (encode_fee_intent p.fee_intent) 41 f → Size (encode_hash s.wallet_acknowledged_variant) 33 a
    → Size (encode_height s.status.expiry) 9 h → Size (encode_facts p s) 2272 (34 + b + v + f + a + h)
unfolding encode_facts
facts_size p s b v f a h l sb sv sf sa sh =
    let i = p.intent_fingerprint in
    let w = encode_bundle p.base_bundle in
    let u = encode_variant s.current_variant in
    let r = be 1 (resolution_number s.status.fee_resolution) in
    let x = encode_fee_intent p.fee_intent in
    let y = encode_hash s.wallet_acknowledged_variant in
    let c = be 1 (chain_number s.status.chain_terminality) in
    let z = encode_height s.status.expiry in
    record {
      is = omega (
        arith,
        sb.is,
        sv.is,
        sf.is,
        sa.is,
        sh.is,
        length-append (i ++ w ++ u ++ r ++ x ++ y ++ c) z,
        length-append (i ++ w ++ u ++ r ++ x ++ y) c,
        length-append (i ++ w ++ u ++ r ++ x) y,
        length-append (i ++ w ++ u ++ r) x,
        length-append (i ++ w ++ u) r,
        length-append (i ++ w) u,
        length-append i w,
        be_length 1 (resolution_number s.status.fee_resolution),
        be_length 1 (chain_number s.status.chain_terminality),
      );
      few = omega (arith, sb.few, sv.few, sf.few, sa.few, sh.few);
    }

pub submitted_size : (t : SubmittedTx) (a c f : ℕ) → Size (encode_slot t.slots.active_attempt) 75 a → Size (encode_slot t.slots.completed_attempt) 75 c
    → Size (encode_facts t.entry.intent t.entry.state) 2272 f → Size (encode_submitted t) 2430 (8 + (a + c) + f)
unfolding encode_submitted encode_slots
submitted_size t a c f sa sc sf =
    let i = be 8 t.entry.id.0 in
    let x = encode_slot t.slots.active_attempt in
    let y = encode_slot t.slots.completed_attempt in
    let g = encode_facts t.entry.intent t.entry.state in
    record {
      is = omega (arith, sa.is, sc.is, sf.is, length-append (i ++ (x ++ y)) g, length-append i (x ++ y), length-append x y, be_length 8 t.entry.id.0);
      few = omega (arith, sa.few, sc.few, sf.few);
    }

pub delivery_size : (d : PendingDelivery) (i b h f : ℕ) → Size (encode_id d.intent.id) 9 i → Size (encode_bundle d.intent.bundle) 1073 b → Size (encode_height d.intent.expiry) 9 h → Size (encode_fee_intent d.intent.fee_intent) 41 f → Size (encode_delivery d) 1134 (2 + i + b + h + f)
unfolding encode_delivery
delivery_size d i b h f si sb sh sf =
    let x = encode_id d.intent.id in
    let w = encode_bundle d.intent.bundle in
    let e = encode_height d.intent.expiry in
    let y = encode_fee_intent d.intent.fee_intent in
    let t = be 1 (trigger_number d.trigger) in
    let g = be 1 (goal_number d.goal) in
    record {
      is = omega (arith, si.is, sb.is, sh.is, sf.is, length-append (x ++ w ++ e ++ y ++ t) g, length-append (x ++ w ++ e ++ y) t, length-append (x ++ w ++ e) y, length-append (x ++ w) e, length-append x w, be_length 1 (trigger_number d.trigger), be_length 1 (goal_number d.goal));
      few = omega (arith, si.few, sb.few, sh.few, sf.few);
    }

-- ---- the book
list_length : {A : Type 0} (enc : A → List ℕ) (l : List A) → length (enc_list enc l) ≡ 1 + length (enc_many enc l)
unfolding enc_list
list_length enc l = omega (arith, length-append (be 1 (length l)) (enc_many enc l), be_length 1 (length l))

-- the parts of the sum: submissions, queue, retirements, rollback height, replayed ids
pub book_size : (b : BookData) (s q r h p : ℕ) → Size (enc_many encode_submitted (take b.submitted_count b.submitted)) 38880 s → Size (enc_many encode_delivery (take b.pending_count b.pending_deliveries)) 18144 q
    → r ≡ min b.retired_submission_ids.count 64 → length b.retired_submission_ids.items ≡ 64 → Size (encode_height b.replay_epoch.rollback_height) 9 h
    → p ≡ min b.replay_epoch.replayed_submission_ids.count 16 → length b.replay_epoch.replayed_submission_ids.items ≡ 16 → Size (encode_book b) 57694 (21 + s + q + r * 8 + h + p * 8)
unfolding encode_book encode_model view
book_size b s q r h p ss sq er lr sh ep lp =
    let m = view b in
    let n = encode_numbers m in
    let x = enc_list encode_submitted m.submitted in
    let y = enc_list encode_delivery m.pending in
    let z = enc_list (be 8) m.retired in
    let g = encode_height m.rollback in
    let w = enc_list (be 8) m.replayed in
    let r' = count_cut 64 b.retired_submission_ids.count r b.retired_submission_ids.items lr er in
    let p' = count_cut 16 b.replay_epoch.replayed_submission_ids.count p b.replay_epoch.replayed_submission_ids.items lp ep in
    record {
      is = omega (arith, ss.is, sq.is, sh.is, r', p', length-append (n ++ x ++ y ++ z ++ g) w, length-append (n ++ x ++ y ++ z) g, length-append (n ++ x ++ y) z, length-append (n ++ x) y, length-append n x, numbers_size m, list_length encode_submitted m.submitted, list_length encode_delivery m.pending, list_length (be 8) m.retired, list_length (be 8) m.replayed, numbers_length m.retired, numbers_length m.replayed);
      few = omega (arith, ss.few, sq.few, sh.few);
    }
