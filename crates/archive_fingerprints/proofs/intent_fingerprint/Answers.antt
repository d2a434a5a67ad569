-- The three parts, written one behind the other, fit the array, so its first `n` bytes, which are hashed, are their joined form.
use lib.ListN.{replicate}
use Rattle.codec_forms.specs.Puts.{Room, size_join}
use Rattle.codec_append.specs.Fits.{fits_join}
use Rattle.archive_bundle_form.specs.Forms.{encode_bundle, encode_height, encode_fee_intent, intent_fingerprint}
use Rattle.base_sha256.specs.Fips.{sha256_of}
use Rattle.archive_fingerprints.specs.Laws.{room_at_start, front}
use borrow.Author.Rules.{rules}
use mathlib.Core.Path.{ap, ◌∙◌}
use mathlib.Core.List.{◌++◌}
use Rattle.archive_fingerprints.proofs.intent_fingerprint.Goals as goal

pub returns : goal.returns
unfolding intent_fingerprint
returns c =
    let s = size_join (size_join c.size_bundle.ensures c.size_height.ensures) c.size_fee_intent.ensures in
    let r : Room (encode_bundle c.args.b ++ encode_height c.args.expiry ++ encode_fee_intent c.args.f) 0 (replicate 1123 0) = room_at_start s (search rules) in
    c.sha256.ensures ∙ ap sha256_of (front _ s.is ((fits_join (fits_join c.append_bundle-bundle_end.ensures c.append_height-expiry_end.ensures) c.append_fee_intent.ensures).puts r))
