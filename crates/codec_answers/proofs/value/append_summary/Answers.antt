-- Six numbers and a height written one behind the other make the form.
use Rattle.codec_append.specs.Fits.{fits_join}
use Rattle.codec_answers.specs.Forms.{encode_summary}
use Rattle.codec_answers.specs.Looks.{summary_most}
use Rattle.codec_answers.proofs.value.append_summary.Goals as goal

pub returns : goal.returns
unfolding encode_summary
returns c =
    let counts = fits_join (fits_join (fits_join c.append_number-token_end.ensures c.append_number-id_end.ensures) c.append_number-retained_end.ensures) c.append_number-queued_end.ensures in
    record {
      fits = fits_join (fits_join (fits_join counts c.append_number-retired_end.ensures) c.append_number-replayed_end.ensures) c.append_height.ensures;
      few = summary_most c.args.s.now;
    }
