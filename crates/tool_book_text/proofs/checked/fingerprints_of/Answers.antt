-- Both fingerprints are what their functions promise.
use Rattle.tool_book_text.specs.Checked.{fingerprints_of}
use Rattle.tool_book_text.proofs.checked.fingerprints_of.Goals as goal

pub returns : goal.returns
unfolding fingerprints_of
returns c = rw (c.current_variant_fingerprint.ensures, c.variant_fingerprint.ensures)
