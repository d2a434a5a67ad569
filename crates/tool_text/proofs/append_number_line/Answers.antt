-- Three parts written one behind the other make the line: the label, the decimal number and the line end.
use Rattle.codec_append.specs.Fits.{fits_join}
use Rattle.tool_text.specs.Numbers.{number_line}
use Rattle.tool_text.proofs.append_number_line.Goals as goal

pub returns : goal.returns
unfolding number_line
returns c =
    fits_join (fits_join c.append_bytes-label_end.ensures c.append_decimal-number_end.ensures)
    c.append_bytes.ensures
