-- By the case: no number is the label and the word behind it, a number is the line that `append_number_line` promises.
use Rattle.codec_append.specs.Fits.{fits_join, fits_as}
use Rattle.tool_bundle_text.specs.Words.{optional_text}
use mathlib.Core.Path.{sym, ap}
use Rattle.tool_bundle_text.proofs.words.append_optional.Goals as goal

pub returns-in-None : goal.returns-in-None
unfolding optional_text
returns-in-None c = fits_as (sym (ap (λ n. optional_text c.args.label.now n c.args.none.now) c.in-None.is)) (fits_join c.append_bytes-label_end.ensures c.append_bytes.ensures)

pub returns-in-Some : goal.returns-in-Some
unfolding optional_text
returns-in-Some c = fits_as (sym (ap (λ n. optional_text c.args.label.now n c.args.none.now) c.in-Some.is)) c.append_number_line.ensures
