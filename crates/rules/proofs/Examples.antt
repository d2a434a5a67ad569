-- Theorems on specs/Examples.antt.
use Rattle.base_sha256.specs.Fips
use Rattle.std.specs.Prelude.{[], ◌∷◌, map, ◌≡◌, refl}
use Rattle.archive_bundle_form.specs.Forms.{intent_fingerprint}
use Rattle.std.specs.Prelude.{Some}
use Rattle.std.specs.Prelude.{None}
use Rattle.book.specs.declared.SubmissionChainTerminality.TheVariants.{Landed}
use Rattle.book.specs.Zero.{zero_bundle, zero_fee_intent}
use Rattle.rules.specs.Calls.Candidate.{met}
use Rattle.rules.specs.Calls.Plan.{blank}
use Rattle.rules.specs.Examples.Pieces.{height, by_id, intent_by, delivery, damaged, drained, failing, no_fee, entry_of, spending, seventh_id, no_coins, live_slot, seventh, fee_attached, holding, counted, fifteen, queueing, accepted}
use Rattle.rules.specs.Opened.{opened}
use Rattle.rules.specs.Parts.{intent_of}
use Rattle.rules.specs.Rule.{retain, full, run, step, answer, answered, left}
use Rattle.rules.specs.Steps.{on_book, run_book}
use Rattle.rules.specs.Examples.{brief, play, played, claimed, failed_at, indices, retirements, offered_again, stopped, looks, last_token, doors_hold, tightened, expiries, sixteen, examples}

-- ---- one example each, so that a wrong definition is refused with the value that it gives and the one that it should. Those that need no hash
-- come first, since a hash takes too many steps to be shown.
-- the expiry is part of the intent
pub intent_expires : intent_of (intent_by None 7) ≡ intent_fingerprint zero_bundle (Some (height 7)) zero_fee_intent
unfolding intent_of intent_by
intent_expires = refl

-- the expiry becomes the smaller one present, also where nothing is emitted
pub met_expires : brief (left (holding (seventh Landed) (live_slot 5) []) (run_book (met (delivery (by_id 1) 7) (record { slots = live_slot 5; entry = seventh Landed }) blank) (holding (seventh Landed) (live_slot 5) [])))
    ≡ (6 ∷ []) ∷ (2 ∷ []) ∷ (1 ∷ []) ∷ (7 ∷ []) ∷ [] ∷ [] ∷ [] ∷ []
unfolding brief met run on_book full holding seventh live_slot delivery by_id height
met_expires = refl

-- the sixteenth is retained
pub sixteenth_retained : answered (run_book (step (retain (intent_by None 7))) fifteen) ≡ answer [] tt
unfolding run on_book full intent_by fifteen
sixteenth_retained = refl

pub retirements_hold : played retirements ≡ claimed retirements
unfolding play opened height holding seventh zero_bundle spending entry_of live_slot no_fee delivery by_id drained failing fifteen damaged queueing accepted seventh_id no_coins zero_fee_intent
retirements_hold = refl

pub offered_again_hold : played offered_again ≡ claimed offered_again
unfolding play opened height holding seventh zero_bundle spending entry_of live_slot no_fee delivery by_id drained failing fifteen damaged queueing accepted seventh_id no_coins zero_fee_intent
offered_again_hold = refl

pub stopped_hold : played stopped ≡ claimed stopped
unfolding play opened height holding seventh zero_bundle spending entry_of live_slot no_fee delivery by_id drained failing fifteen damaged queueing accepted seventh_id no_coins zero_fee_intent
stopped_hold = refl

pub looks_hold : played looks ≡ claimed looks
unfolding play opened height holding seventh zero_bundle spending entry_of live_slot no_fee delivery by_id drained failing fifteen damaged queueing accepted seventh_id no_coins zero_fee_intent fee_attached counted Fips.hashed Fips.pad Fips.plus Fips.H0 Fips.rounds Fips.round Fips.K Fips.schedule
looks_hold = refl

-- by the indices alone, and by the tokens alone: the answers have whole bundles and fingerprints
pub indices_told : map failed_at (played indices).says ≡ [] ∷ [] ∷ [] ∷ (0 ∷ 2 ∷ []) ∷ []
unfolding play opened height holding seventh zero_bundle spending entry_of live_slot no_fee delivery by_id drained failing fifteen damaged queueing accepted seventh_id no_coins zero_fee_intent
indices_told = refl

pub last_token_told : (played last_token).end ≡ last_token.leaves
unfolding play opened height holding seventh zero_bundle spending entry_of live_slot no_fee delivery by_id drained failing fifteen damaged queueing accepted seventh_id no_coins zero_fee_intent
last_token_told = refl

pub indices_hold : played indices ≡ claimed indices
unfolding play opened height holding seventh zero_bundle spending entry_of live_slot no_fee delivery by_id drained failing fifteen damaged queueing accepted seventh_id no_coins zero_fee_intent
indices_hold = refl

pub last_token_hold : played last_token ≡ claimed last_token
unfolding play opened height holding seventh zero_bundle spending entry_of live_slot no_fee delivery by_id drained failing fifteen damaged queueing accepted seventh_id no_coins zero_fee_intent
last_token_hold = refl

pub hashed_hold : map played (tightened ∷ expiries ∷ sixteen ∷ []) ≡ map claimed (tightened ∷ expiries ∷ sixteen ∷ [])
unfolding play opened height holding seventh zero_bundle spending entry_of live_slot no_fee delivery by_id drained failing fifteen damaged queueing accepted seventh_id no_coins zero_fee_intent Fips.K Fips.H0 Fips.pad Fips.schedule Fips.round Fips.rounds Fips.plus Fips.hashed
hashed_hold = refl

pub examples_hold : map played examples ≡ map claimed examples
examples_hold = λ i. indices_hold i ∷ retirements_hold i ∷ offered_again_hold i ∷ stopped_hold i ∷ last_token_hold i ∷ doors_hold i ∷ hashed_hold i
