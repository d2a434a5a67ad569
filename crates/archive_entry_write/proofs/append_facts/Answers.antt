-- Each item follows the one before it (`fits_join`).
use Rattle.codec_append.specs.Fits.{fits_join, fits_as}
use Rattle.codec_forms.specs.Wire.{be}
use Rattle.archive_form.specs.Encode.{encode_facts}
use mathlib.Core.Path.{ap}
use Rattle.archive_entry_write.specs.Numbers.{resolution_cast, chain_cast}
use Rattle.archive_entry_write.proofs.append_facts.Goals as goal

pub returns : goal.returns
unfolding encode_facts
returns c =
    let m = fits_as (ap (be 1) (resolution_cast c.args.e.now.state.status.fee_resolution)) c.append_byte-mark_end.ensures in
    let k = fits_as (ap (be 1) (chain_cast c.args.e.now.state.status.chain_terminality)) c.append_byte-chain_end.ensures in
    let bundles = fits_join (fits_join c.append_bytes-fingerprint_end.ensures c.append_bundle-base_end.ensures) c.append_variant-variant_end.ensures in
    fits_join (fits_join (fits_join (fits_join (fits_join bundles m) c.append_fee_intent-fee_end.ensures) c.append_hash-acknowledged_end.ensures) k) c.append_height.ensures
