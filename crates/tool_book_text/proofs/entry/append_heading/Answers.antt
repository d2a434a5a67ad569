-- Label, number and the line of the total follow one another (`fits_join`).
use Rattle.codec_append.specs.Fits.{fits_join}
use Rattle.tool_book_text.specs.Entries.{heading_text}
use Rattle.tool_book_text.proofs.entry.append_heading.Goals as goal

pub returns : goal.returns
unfolding heading_text
returns c =
    fits_join (fits_join c.append_bytes-label_end.ensures c.append_decimal-number_end.ensures)
    c.append_number_line.ensures
