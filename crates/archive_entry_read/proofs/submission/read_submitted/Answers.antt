-- The parts of a submission one behind the other.
use Rattle.archive_form.specs.Parse.{parse_facts}
use Rattle.archive_entry_read.specs.Entries.{parse_after}
use Rattle.codec_cursor.specs.Cursor.{reads_then, ends}
use Rattle.archive_entry_read.proofs.submission.read_submitted.Goals as goal

pub returns : goal.returns
unfolding parse_after parse_facts
returns c =
    let facts = reads_then _ c.read_hash-intent_fingerprint.ensures (reads_then _ c.read_bundle-base_bundle.ensures (reads_then _ c.read_variant-current_variant.ensures (reads_then _ c.read_resolution-fee_resolution.ensures
    (reads_then _ c.read_fee_intent-fee_intent.ensures (reads_then _ c.read_optional_hash-wallet_acknowledged_variant.ensures (reads_then _ c.read_chain-chain_terminality.ensures (reads_then _ c.read_height-expiry.ensures ends))))))) in
    reads_then _ c.read_new_id-id.ensures (reads_then _ c.read_slots-slots.ensures (reads_then _ facts ends))
