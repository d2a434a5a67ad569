-- By the mark: a word, the token's number and the line of its fate, or nothing (`fits_none`).
use Rattle.codec_append.specs.Fits.{fits_join, fits_as, fits_none}
use Rattle.std.proofs.Common.{sym}
use Rattle.std.proofs.lemmas.Bool.{cond-true, cond-false}
use Rattle.tool_book_text.specs.Entries.{token_text}
use Rattle.tool_book_text.proofs.entry.append_token.Goals as goal

pub returns-then-s : goal.returns-then-s
unfolding token_text
returns-then-s c =
    fits_as (sym (cond-true _ _ _ c.if-s.true))
    (fits_join (fits_join c.append_bytes-word_end.ensures c.append_decimal-token_end.ensures) c.append_number_line.ensures)

pub returns-else-s : goal.returns-else-s
unfolding token_text
returns-else-s c = fits_as (sym (cond-false _ _ _ c.if-s.false)) (fits_none _ _)
