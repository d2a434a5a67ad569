-- Stored fingerprints, each with what it agrees with when it is computed anew (docs/ARCHIVE.md, "The fingerprints").
use Rattle.std.specs.Prelude.{◌≡◌, Bool, true, false, cond, List, ◌++◌, ℕ}
use Rattle.std.proofs.Common.{sym, ap, ◌∙◌}
use Rattle.base_lists.specs.Bytes.{eqs}
use Rattle.archive_bundle_form.specs.Forms.{variant_fingerprint, intent_fingerprint}
use Rattle.rules.specs.Parts.{current_fingerprint}
use Rattle.book.specs.declared.OptionalHash.{OptionalHash}
use Rattle.book.specs.declared.SubmittedEntry.{SubmittedEntry}
use Rattle.tool_text.specs.Ascii.{ascii}
use Rattle.tool_text.specs.Numbers.{hex}
use Rattle.tool_book_text.specs.declared.Fingerprints.{Fingerprints}

-- those of base bundle and current variant
unfoldable pub fingerprints_of : SubmittedEntry → Fingerprints
unfolding variant_fingerprint current_fingerprint
fingerprints_of e = record { base = variant_fingerprint e.intent.base_bundle; current = current_fingerprint e }

-- the intent fingerprint is that of what is held; where it is not, the book was made or changed by hand
unfoldable pub intent_agrees : SubmittedEntry → Bool
unfolding intent_fingerprint
intent_agrees e = eqs e.intent.intent_fingerprint (intent_fingerprint e.intent.base_bundle e.state.status.expiry e.intent.fee_intent)

-- is it that of the base bundle, of the current variant
abbrev pub agreement_text : Bool → Bool → List ℕ
agreement_text true true = ascii ", agrees with base bundle and current variant\n"
agreement_text true false = ascii ", agrees with the base bundle\n"
agreement_text false true = ascii ", agrees with the current variant\n"
agreement_text false false = ascii ", DOES NOT AGREE with base bundle or current variant\n"

unfoldable pub checked_text : List ℕ → List ℕ → Fingerprints → List ℕ
unfolding hex
checked_text label stored f = label ++ hex stored ++ agreement_text (eqs stored f.base) (eqs stored f.current)

-- an optional one
unfoldable pub checked_optional : List ℕ → OptionalHash → Fingerprints → List ℕ
unfolding checked_text
checked_optional label h f = label ++ cond h.present (checked_text (ascii "yes, fingerprint ") h.hash f) (ascii "no\n")

abbrev pub intent_agreement : Bool → List ℕ
intent_agreement true = ascii ", agrees with base bundle, expiry and fee intent\n"
intent_agreement false = ascii ", DOES NOT AGREE with base bundle, expiry and fee intent\n"

unfoldable pub checked_intent : SubmittedEntry → List ℕ
unfolding hex intent_agrees
checked_intent e = ascii "  intent fingerprint: " ++ hex e.intent.intent_fingerprint ++ intent_agreement (intent_agrees e)

-- ---- by the marks
pub agreement_by : {b b' c c' : Bool} → b ≡ b' → c ≡ c' → agreement_text b' c' ≡ agreement_text b c
agreement_by {b} {b'} {c} {c'} p q = sym (ap (λ (x : Bool). agreement_text x c) p ∙ ap (agreement_text b') q)

pub intent_agreement_by : {b b' : Bool} → b ≡ b' → intent_agreement b' ≡ intent_agreement b
intent_agreement_by p = sym (ap intent_agreement p)
