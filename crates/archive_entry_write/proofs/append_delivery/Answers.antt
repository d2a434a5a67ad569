-- Each item follows the one before it (`fits_join`).
use Rattle.std.proofs.Common.{ap}
use Rattle.codec_append.specs.Fits.{fits_join, fits_as}
use Rattle.codec_forms.specs.Wire.{be}
use Rattle.archive_form.specs.Encode.{encode_delivery}
use Rattle.archive_entry_write.specs.Numbers.{goal_cast, trigger_cast}
use Rattle.archive_entry_write.proofs.append_delivery.Goals as goal

pub returns : goal.returns
unfolding encode_delivery
returns c =
    let t = fits_as (ap (be 1) (trigger_cast c.args.d.now.trigger)) c.append_byte-trigger_end.ensures in
    let g = fits_as (ap (be 1) (goal_cast c.args.d.now.goal)) c.append_byte.ensures in
    let expiry = fits_join (fits_join c.append_id-id_end.ensures c.append_bundle-bundle_end.ensures) c.append_height-expiry_end.ensures in
    fits_join (fits_join (fits_join expiry c.append_fee_intent-fee_end.ensures) t) g
