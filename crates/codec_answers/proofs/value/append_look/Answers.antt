-- Seven parts written one behind the other make the form, the bytes of chain and fee mark being the numbers that the form names.
use Rattle.codec_forms.specs.Wire.{be}
use Rattle.codec_append.specs.Fits.{fits_join, fits_as}
use Rattle.codec_answers.specs.Forms.{encode_look}
use mathlib.Core.Path.{ap}
use Rattle.archive_entry_write.specs.Numbers.{chain_cast, resolution_cast}
use Rattle.codec_answers.specs.Looks.{look_most}
use Rattle.codec_answers.proofs.value.append_look.Goals as goal

pub returns : goal.returns
unfolding encode_look
returns c =
    let k = fits_as (ap (be 1) (chain_cast c.args.l.now.chain_terminality)) c.append_byte-chain_end.ensures in
    let m = fits_as (ap (be 1) (resolution_cast c.args.l.now.fee_resolution)) c.append_byte-mark_end.ensures in
    let fees = fits_join (fits_join (fits_join k c.append_flag-acknowledged_end.ensures.fits) m) c.append_number-fee_end.ensures in
    record {
      fits = fits_join (fits_join (fits_join fees c.append_height-expiry_end.ensures) c.append_token-active_end.ensures) c.append_token.ensures;
      few = look_most c.args.l.now;
    }
