-- A space and the decimal number behind it, joined by `fits_join`, are the two parts of the definition.
use Rattle.codec_append.specs.Fits.{fits_join}
use Rattle.tool_book_text.specs.Entries.{id_after_space}
use Rattle.tool_book_text.proofs.entry.append_spaced.Goals as goal

pub returns : goal.returns
unfolding id_after_space
returns c = fits_join c.append_bytes-space_end.ensures c.append_decimal.ensures
