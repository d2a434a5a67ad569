-- Label and hash, then the text of the comparison.
use Rattle.codec_append.specs.Fits.{fits_join, fits_as}
use Rattle.tool_book_text.specs.Checked.{checked_intent, intent_agreement_by}
use mathlib.Core.Path.{sym}
use Rattle.tool_book_text.proofs.checked.append_checked_intent.Goals as goal

pub returns : goal.returns
unfolding checked_intent
returns c = fits_join c.append_hash_part-hash_end.ensures (fits_as (intent_agreement_by (sym c.intent_agrees-agrees.ensures)) c.append_intent_agreement.ensures)
