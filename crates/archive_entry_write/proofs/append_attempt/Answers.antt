-- Each item follows the one before it (`fits_join`).
use Rattle.std.proofs.Common.{ap}
use Rattle.codec_append.specs.Fits.{fits_join, fits_as}
use Rattle.codec_forms.specs.Wire.{be}
use Rattle.archive_form.specs.Encode.{encode_attempt}
use Rattle.archive_entry_write.specs.Numbers.{goal_cast}
use Rattle.archive_entry_write.proofs.append_attempt.Goals as goal

pub returns : goal.returns
unfolding encode_attempt
returns c =
    let g = fits_as (ap (be 1) (goal_cast c.args.a.goal)) c.append_byte-goal_end.ensures in
    fits_join (fits_join (fits_join c.append_number-token_end.ensures g) c.append_bytes-drained_end.ensures) c.append_hash.ensures
