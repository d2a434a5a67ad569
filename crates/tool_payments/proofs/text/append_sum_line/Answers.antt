-- Label, sum and line end follow one another.
use Rattle.codec_append.specs.Fits.{fits_join}
use Rattle.tool_payments.specs.Text.{sum_line}
use Rattle.tool_payments.proofs.text.append_sum_line.Goals as goal

pub returns : goal.returns
unfolding sum_line
returns c = fits_join (fits_join c.append_bytes-label_end.ensures c.append_sum-sum_end.ensures) c.append_bytes.ensures
