-- A bundle's form fits the array, so after the write the first `n` bytes, which are hashed, are exactly that form.
use lib.ListN.{replicate}
use Rattle.codec_forms.specs.Puts.{Room}
use Rattle.archive_bundle_form.specs.Forms.{encode_bundle, variant_fingerprint}
use Rattle.base_sha256.specs.Fips.{sha256_of}
use Rattle.archive_fingerprints.specs.Laws.{room_at_start, front}
use borrow.Author.Rules.{rules}
use mathlib.Core.Path.{ap, ◌∙◌}
use Rattle.archive_fingerprints.proofs.variant_fingerprint.Goals as goal

pub returns : goal.returns
unfolding variant_fingerprint
returns c =
    let r : Room (encode_bundle c.args.b) 0 (replicate 1073 0) = room_at_start c.size_bundle-n.ensures (search rules) in
    c.sha256.ensures ∙ ap sha256_of (front c.size_bundle-n.result c.size_bundle-n.ensures.is (c.append_bundle.ensures.puts r))
