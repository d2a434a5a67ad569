-- The two slots follow one another.
use Rattle.codec_append.specs.Fits.{fits_join}
use Rattle.tool_book_text.specs.Entries.{slots_text}
use Rattle.tool_book_text.proofs.entry.append_slots.Goals as goal

pub returns : goal.returns
unfolding slots_text
returns c = fits_join c.append_slot-active_end.ensures c.append_slot.ensures
