-- Six lines follow one another.
use Rattle.codec_append.specs.Fits.{fits_join}
use Rattle.tool_payments.specs.Text.{counts_text}
use Rattle.tool_payments.proofs.text.append_counts.Goals as goal

pub returns : goal.returns
unfolding counts_text
returns c =
    fits_join (fits_join (fits_join (fits_join (fits_join c.append_number_line-landed_end.ensures c.append_number_line-spent_end.ensures) c.append_number_line-acknowledged_end.ensures)
    c.append_number_line-under_way_end.ensures) c.append_number_line-queued_end.ensures) c.append_number_line.ensures
