-- What the types say of a sound book, in its cells and over plain lists.
use Rattle.std.specs.Prelude.{◌≡◌, refl, true, replicate}
use Rattle.std.proofs.Common.{arith}
use Rattle.book.specs.Zero.{zero_fee_intent, zero_hash, zero_attempt, no_attempt, no_slots, base_variant, zero_retained_intent, zero_status, zero_state, zero_entry, zero_submitted, zero_intent, zero_delivery}
use Rattle.book.specs.SoundLaws.{sound, fits_view, sound_back}
use Rattle.book.specs.Sound.{sound_lists, soundb}
use Rattle.book.specs.Model.{Book, view, back}
use Rattle.book.specs.Typed.{U8, U64, Array, Typed, TypedSubmitted, TypedDelivery}
use Rattle.book.specs.declared.BookData.{BookData}
use Rattle.archive_laws.specs.Cells.{every_take, every_replicate, array_cells}
use Rattle.archive_laws.specs.Bundles.{zero_bundle_typed}
use Rattle.archive_laws.specs.Books.{TypedModel}

pub view_typed : (b : BookData) → Typed b → soundb b ≡ true → TypedModel (view b)
unfolding view
view_typed b t h =
    let f = fits_view b (sound b h) in
    record {
      token = t.next_token;
      id = t.next_id;
      submitted = every_take TypedSubmitted b.submitted_count b.submitted t.submitted.each;
      submitted_few = f.submitted;
      pending = every_take TypedDelivery b.pending_count b.pending_deliveries t.pending.each;
      pending_few = f.pending;
      retired = every_take U64 b.retired_submission_ids.count b.retired_submission_ids.items t.retired.items.each;
      retired_few = f.retired;
      rollback = t.replay.rollback;
      replayed = every_take U64 b.replay_epoch.replayed_submission_ids.count b.replay_epoch.replayed_submission_ids.items t.replay.replayed.items.each;
      replayed_few = f.replayed;
    }

-- ---- zeros are typed, and pass their tests
zero32 : Array 32 U8 (replicate 32 0)
zero32 = record { long = refl; each = every_replicate U8 32 0 (omega arith) }

submitted_typed : TypedSubmitted zero_submitted
unfolding zero_submitted zero_entry zero_retained_intent zero_state no_slots no_attempt zero_attempt base_variant zero_fee_intent zero_hash zero_status
submitted_typed = record {
  slots = record { active = record { token = omega arith; drained = zero32; finalized = zero32 }; completed = record { token = omega arith; drained = zero32; finalized = zero32 } };
  entry = record {
    id = omega arith;
    intent = record { fingerprint = zero32; base = zero_bundle_typed; fee_intent = record { target = zero32; amount = omega arith } };
    state = record { current = record { bundle = zero_bundle_typed; applied_fee = omega arith }; acknowledged = zero32; status = tt };
  };
}

delivery_typed : TypedDelivery zero_delivery
unfolding zero_delivery zero_intent zero_fee_intent
delivery_typed = record { id = tt; bundle = zero_bundle_typed; expiry = tt; fee_intent = record { target = zero32; amount = omega arith } }

pub back_typed : (m : Book) → TypedModel m → Typed (back m)
unfolding back
back_typed m t =
    let sf = t.submitted_few in
    let pf = t.pending_few in
    let rf = t.retired_few in
    let ef = t.replayed_few in
    record {
      next_token = t.token;
      next_id = t.id;
      submitted_count = omega arith;
      submitted = array_cells TypedSubmitted 16 zero_submitted m.submitted sf t.submitted submitted_typed;
      pending_count = omega arith;
      pending = array_cells TypedDelivery 16 zero_delivery m.pending pf t.pending delivery_typed;
      retired = record { count = omega arith; items = array_cells U64 64 0 m.retired rf t.retired (omega arith) };
      replay = record { rollback = t.rollback; replayed = record { count = omega arith; items = array_cells U64 16 0 m.replayed ef t.replayed (omega arith) } };
    }

pub back_sound : (m : Book) → TypedModel m → sound_lists m ≡ true → soundb (back m) ≡ true
back_sound m t h = sound_back m (record { submitted = t.submitted_few; pending = t.pending_few; retired = t.retired_few; replayed = t.replayed_few }) h
