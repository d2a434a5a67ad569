-- Six parts written one behind the other make the form, the disposition's byte being the number that the form names.
use Rattle.codec_forms.specs.Wire.{be}
use Rattle.codec_append.specs.Fits.{fits_join, fits_as}
use Rattle.codec_answers.specs.Forms.{encode_final}
use mathlib.Core.Path.{ap}
use Rattle.std.proofs.Common.{rules}
use Rattle.codec_answers.specs.Looks.{final_most}
use Rattle.codec_answers.specs.Numbers.{disposition_cast}
use Rattle.codec_answers.proofs.value.append_finalized.Goals as goal

pub returns : goal.returns
unfolding encode_final
returns c =
    let front = fits_join (fits_join c.append_bundle-bundle_end.ensures c.append_number-fee_end.ensures) c.append_flag-warning_end.ensures.fits in
    let disposition = fits_as (ap (be 1) (disposition_cast c.args.f.now.disposition)) c.append_byte-disposition_end.ensures in
    record {
      fits = fits_join (fits_join (fits_join front disposition) c.append_bytes-fingerprint_end.ensures) c.append_flag.ensures.fits;
      few = final_most c.args.f.now c.size_bundle.ensures (search rules);
    }
