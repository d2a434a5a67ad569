-- By the mark: what `append_attempt` promises, or the label with the word none behind it.
use Rattle.codec_append.specs.Fits.{fits_join, fits_as}
use Rattle.std.proofs.Common.{sym}
use Rattle.std.proofs.lemmas.Bool.{cond-true, cond-false}
use Rattle.tool_book_text.specs.Entries.{slot_text}
use Rattle.tool_book_text.proofs.entry.append_slot.Goals as goal

pub returns-then-s : goal.returns-then-s
unfolding slot_text
returns-then-s c = fits_as (sym (cond-true _ _ _ c.if-s.true)) c.append_attempt.ensures

pub returns-else-s : goal.returns-else-s
unfolding slot_text
returns-else-s c = fits_as (sym (cond-false _ _ _ c.if-s.false)) (fits_join c.append_bytes-label_end.ensures c.append_bytes.ensures)
