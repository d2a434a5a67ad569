-- Id, bundle, expiry and fee intent, each from the end of the one before, join to the intent's text (`fits_join`).
use Rattle.codec_append.specs.Fits.{fits_join}
use Rattle.tool_book_text.specs.Entries.{intent_text}
use Rattle.tool_book_text.proofs.entry.append_intent.Goals as goal

pub returns : goal.returns
unfolding intent_text
returns c = fits_join (fits_join (fits_join c.append_id-id_end.ensures c.append_bundle-bundle_end.ensures) c.append_height-expiry_end.ensures) c.append_fee_intent.ensures
