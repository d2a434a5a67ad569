-- Intent fingerprint, base bundle, fee bundle and facts follow one another.
use Rattle.codec_append.specs.Fits.{fits_join}
use Rattle.tool_book_text.specs.Entries.{entry_text}
use Rattle.tool_book_text.proofs.entry.append_entry.Goals as goal

pub returns : goal.returns
unfolding entry_text
returns c = fits_join (fits_join (fits_join c.append_checked_intent-fingerprint_end.ensures c.append_bundle-base_end.ensures) c.append_variant-variant_end.ensures) c.append_facts.ensures
