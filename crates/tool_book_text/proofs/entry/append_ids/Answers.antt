-- Label, the word none where the list is empty, the ids and the line's end follow one another (`fits_join`).
use Rattle.codec_append.specs.Fits.{fits_join}
use Rattle.tool_book_text.specs.Entries.{ids_text}
use Rattle.tool_book_text.proofs.entry.append_ids.Goals as goal

pub returns : goal.returns
unfolding ids_text
returns c = fits_join (fits_join (fits_join c.append_bytes-label_end.ensures c.append_none-none_end.ensures) c.append_numbers-ids_end.ensures) c.append_bytes.ensures
