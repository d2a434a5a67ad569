-- Where the list is not empty, nothing is appended (`fits_none`).
use Rattle.codec_append.specs.Fits.{fits_as, fits_none}
use Rattle.std.proofs.Common.{◌∙◌, eq-eqb}
use Rattle.std.proofs.lemmas.Bool.{false≢true}
use Rattle.tool_book_text.specs.Entries.{none_some}
use Rattle.tool_book_text.proofs.entry.append_none.Goals as goal

pub returns : goal.returns
returns c = fits_as (none_some c.args.l.now (λ h. absurd (false≢true (c.if-is_empty.ensures ∙ eq-eqb _ _ h)))) (fits_none _ _)
