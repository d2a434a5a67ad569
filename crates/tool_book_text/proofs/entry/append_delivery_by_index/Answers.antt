-- Heading, intent, trigger, a word and the goal, each from the end of the one before, join to the queue entry's text (`fits_join`).
use Rattle.codec_append.specs.Fits.{fits_join}
use Rattle.tool_book_text.specs.Entries.{delivery_text_by_index}
use Rattle.tool_book_text.proofs.entry.append_delivery_by_index.Goals as goal

pub returns : goal.returns
unfolding delivery_text_by_index
returns c = fits_join (fits_join (fits_join (fits_join c.append_heading_by_index-heading_end.ensures c.append_intent-intent_end.ensures) c.append_trigger-trigger_end.ensures) c.append_bytes-word_end.ensures) c.append_goal.ensures
