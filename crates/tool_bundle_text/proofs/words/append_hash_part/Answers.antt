-- The label and then the hash, which `fits_join` makes one text.
use Rattle.codec_append.specs.Fits.{fits_join}
use Rattle.tool_bundle_text.proofs.words.append_hash_part.Goals as goal

pub returns : goal.returns
returns c = fits_join c.append_bytes-label_end.ensures c.append_hex.ensures
