-- The live slot's token and the set-aside slot's behind it, each with the submission's id, join to one text (`fits_join`).
use Rattle.codec_append.specs.Fits.{fits_join}
use Rattle.tool_book_text.specs.Entries.{tokens_text}
use Rattle.tool_book_text.proofs.entry.append_tokens.Goals as goal

pub returns : goal.returns
unfolding tokens_text
returns c = fits_join c.append_token-active_end.ensures c.append_token.ensures
