-- Seven parts written one behind the other make the form; the sizes of bundle, expiry and fee intent bound it by 1149 bytes.
use Rattle.codec_forms.specs.Wire.{be}
use Rattle.codec_append.specs.Fits.{fits_join, fits_as}
use Rattle.codec_answers.specs.Forms.{encode_drained}
use Rattle.codec_answers.specs.Drain.{drained_most}
use mathlib.Core.Path.{ap}
use Rattle.codec_answers.specs.Numbers.{relationship_cast}
use Rattle.codec_answers.proofs.drained.append_drained.Goals as goal

pub returns : goal.returns
unfolding encode_drained
returns c =
    let tokens = fits_join (fits_join c.append_number-id_end.ensures c.append_number-token_end.ensures) c.append_token-predecessor_end.ensures in
    let relationship = fits_as (ap (be 1) (relationship_cast c.args.d.now.relationship)) c.append_byte-relationship_end.ensures in
    record {
      fits = fits_join (fits_join (fits_join (fits_join tokens relationship) c.append_bundle-bundle_end.ensures) c.append_height-expiry_end.ensures) c.append_fee_intent.ensures;
      few = drained_most c.args.d.now c.size_bundle.ensures c.size_height.ensures c.size_fee_intent.ensures;
    }
