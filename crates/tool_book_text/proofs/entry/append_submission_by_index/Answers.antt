-- Heading, id, slots and entry follow one another; the fingerprints are those of the entry.
use Rattle.codec_append.specs.Fits.{fits_join, fits_as}
use Rattle.tool_book_text.specs.Entries.{slots_text, entry_text, submission_text_by_index}
use Rattle.tool_book_text.specs.declared.Fingerprints.{Fingerprints}
use mathlib.Core.Path.{ap}
use Rattle.tool_book_text.proofs.entry.append_submission_by_index.Goals as goal

pub returns : goal.returns
unfolding submission_text_by_index
returns c =
    fits_join (fits_join (fits_join c.append_heading_by_index-heading_end.ensures c.append_number_line-id_end.ensures)
    (fits_as (ap (λ (f : Fingerprints). slots_text f c.args.t.now.slots) c.fingerprints_of-f.ensures) c.append_slots-slots_end.ensures))
    (fits_as (ap (λ (f : Fingerprints). entry_text f c.args.t.now.entry) c.fingerprints_of-f.ensures) c.append_entry.ensures)
