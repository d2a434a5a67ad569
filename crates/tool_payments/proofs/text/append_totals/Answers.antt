-- The counts and the two sums follow one another.
use Rattle.codec_append.specs.Fits.{fits_join}
use Rattle.tool_payments.specs.Text.{totals_text}
use Rattle.tool_payments.proofs.text.append_totals.Goals as goal

pub returns : goal.returns
unfolding totals_text
returns c = fits_join (fits_join c.append_counts-counts_end.ensures c.append_sum_line-amount_end.ensures) c.append_sum_line.ensures
