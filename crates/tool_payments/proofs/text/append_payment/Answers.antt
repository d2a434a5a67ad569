-- The parts of the line follow one another.
use Rattle.codec_append.specs.Fits.{fits_join}
use Rattle.tool_payments.specs.Text.{payment_text}
use Rattle.tool_payments.proofs.text.append_payment.Goals as goal

pub returns : goal.returns
unfolding payment_text
returns c =
    fits_join (fits_join (fits_join (fits_join (fits_join (fits_join c.append_bytes-word_end.ensures c.append_id_or_none-id_end.ensures) c.append_bytes-label_end.ensures)
    c.append_sum-sum_end.ensures) c.append_readable-readable_end.ensures) c.append_state-state_end.ensures) c.append_fee.ensures
