-- By the mark: what `append_checked` promises, or the word no.
use Rattle.codec_append.specs.Fits.{fits_join, fits_as}
use Rattle.std.proofs.Common.{sym}
use Rattle.std.proofs.lemmas.Bool.{cond-true, cond-false}
use Rattle.tool_book_text.specs.Checked.{checked_optional}
use Rattle.tool_book_text.proofs.checked.append_checked_optional.Goals as goal

pub returns-then-h : goal.returns-then-h
unfolding checked_optional
returns-then-h c = fits_join c.append_bytes-label_end.ensures (fits_as (sym (cond-true _ _ _ c.if-h.true)) c.append_checked.ensures)

pub returns-else-h : goal.returns-else-h
unfolding checked_optional
returns-else-h c = fits_join c.append_bytes-label_end.ensures (fits_as (sym (cond-false _ _ _ c.if-h.false)) c.append_bytes.ensures)
