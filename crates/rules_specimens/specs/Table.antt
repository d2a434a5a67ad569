-- Paper 01, "Specimens": those marked P, in one table, a row for each, whose truth one theorem proves by computation.
use Rattle.base_sha256.specs.Fips
use Rattle.std.specs.Prelude.{ℕ, true, false, List, [], ◌∷◌, map, ◌≡◌, refl, length}
use Rattle.std.specs.Prelude.{None, Some}
use Rattle.std.specs.List.{list_all, flat_map}
use Rattle.base_coin_string.specs.Amount.{atom_of}
use Rattle.book.specs.declared.SubmissionChainTerminality.TheVariants.{Landed}
use Rattle.book.specs.Sound.{sound_lists}
use Rattle.book.specs.Zero.{zero_bundle, zero_fee_intent}
use Rattle.book_answers.specs.declared.DrainFailureCause.TheVariants.{IdsExhausted}
use Rattle.book_answers.specs.declared.SubmissionAttemptRelationship.TheVariants.{Initial, Exact}
use Rattle.book_answers.specs.declared.SubmissionAttemptStatus.TheVariants.{Applied, Stale}
use Rattle.book_answers.specs.declared.SubmissionDrainFailureStage.{SubmissionDrainFailureStage}
use Rattle.book_answers.specs.declared.SubmissionDrainFailureStage.TheVariants as stage
use Rattle.rules.specs.Call.{Call, no_value, failures, status_is, ids_are, flag, height_is, attempt_is, written}
use Rattle.rules.specs.Examples.{Specimen, Played, claimed}
use Rattle.rules.specs.Examples.Pieces.{height, by_id, delivery, drained, failing, entry_of, spending, seventh_id, no_coins, live_slot, holding, fifteen}
use Rattle.rules.specs.Opened.{opened}
use Rattle.rules.specs.Rule.{answer, refused}
use Rattle.rules_specimens.specs.Play.{play, played, stages_in}

-- amounts with their atoms; lists of calls; a list of calls with the stages at which candidates failed
pub data Row : Type 0 where
  atoms : List (ℕ × List ℕ) → Row
  listed : List Specimen → Row
  staged : Specimen → List SubmissionDrainFailureStage → Row

pub data Shown : Type 0 where
  bytes : List (List ℕ) → Shown
  plays : List Played → Shown
  fails : Played → List SubmissionDrainFailureStage → Shown

-- what the definitions give, and what the paper claims
abbrev pub given : Row → Shown
given (atoms xs) = bytes (map (λ x. atom_of x.0) xs)
given (listed ss) = plays (map played ss)
given (staged s gs) = fails (played s) (stages_in (played s))

abbrev pub wanted : Row → Shown
wanted (atoms xs) = bytes (map (λ x. x.1) xs)
wanted (listed ss) = plays (map claimed ss)
wanted (staged s gs) = fails (claimed s) gs

abbrev pub specimens_in : Row → List Specimen
specimens_in (atoms xs) = []
specimens_in (listed ss) = ss
specimens_in (staged s gs) = s ∷ []

abbrev pub table : List Row
table =
    -- P amounts 0, 127, 128, 2^64 − 1: atoms empty, 7f, 0080, 00 then eight ff
    atoms ((0, []) ∷ (127, 0x7f ∷ []) ∷ (128, 0 ∷ 0x80 ∷ []) ∷ (18446744073709551615, 0 ∷ 0xff ∷ 0xff ∷ 0xff ∷ 0xff ∷ 0xff ∷ 0xff ∷ 0xff ∷ 0xff ∷ []) ∷ [])
    -- P opened at token 5, id 1: archive 02 0000000000000005 0000000000000001 00 00 00 00 00
    ∷ listed (record {
      start = opened 5 1;
      calls = Call.WriteArchive 21 ∷ Call.WriteArchive 22 ∷ [];
      answers = refused 12 ∷ answer [] (written (2 ∷ 0 ∷ 0 ∷ 0 ∷ 0 ∷ 0 ∷ 0 ∷ 0 ∷ 5 ∷ 0 ∷ 0 ∷ 0 ∷ 0 ∷ 0 ∷ 0 ∷ 0 ∷ 1 ∷ 0 ∷ 0 ∷ 0 ∷ 0 ∷ 0 ∷ [])) ∷ [];
      leaves = (5 ∷ []) ∷ (1 ∷ []) ∷ [] ∷ [] ∷ [] ∷ [] ∷ [] ∷ [];
    } ∷ [])
    -- P empty queue drains to empty answers
    ∷ listed (record {
      start = opened 5 1;
      calls = Call.Drain ∷ [];
      answers = answer [] (failures []) ∷ [];
      leaves = (5 ∷ []) ∷ (1 ∷ []) ∷ [] ∷ [] ∷ [] ∷ [] ∷ [] ∷ [];
    } ∷ [])
    -- P next token 6, 5 not live: acknowledge 5 Stale; 6 refused 4
    ∷ listed (record {
      start = opened 6 1;
      calls = Call.AcknowledgeAttempt 5 ∷ Call.AcknowledgeAttempt 6 ∷ [];
      answers = answer [] (status_is Stale) ∷ refused 4 ∷ [];
      leaves = (6 ∷ []) ∷ (1 ∷ []) ∷ [] ∷ [] ∷ [] ∷ [] ∷ [] ∷ [];
    } ∷ [])
    -- P begin 100 true, again false; finish 100 keeps, 101 clears
    ∷ listed (record {
      start = opened 5 1;
      calls = Call.BeginReplay (height 100) ∷ Call.BeginReplay (height 100) ∷ Call.FinishReplayIfAdvanced (height 100) ∷ Call.ReplayRollbackHeight
          ∷ Call.FinishReplayIfAdvanced (height 101) ∷ Call.ReplayRollbackHeight ∷ [];
      answers = answer [] (flag true) ∷ answer [] (flag false) ∷ answer [] no_value ∷ answer [] (height_is (Some (height 100)))
          ∷ answer [] no_value ∷ answer [] (height_is None) ∷ [];
      leaves = (5 ∷ []) ∷ (1 ∷ []) ∷ [] ∷ [] ∷ [] ∷ [] ∷ [] ∷ [];
    } ∷ [])
    -- P Landed, only an input spent: reorg no Landed, yes InputSpent; both halted. Landed has no input coins to reconcile, InputSpent has, and
    -- neither is Active. Its queue entry and its replay mark go, the other entry stays; the live attempt is set aside; it is retired behind
    -- an earlier retirement, and not again where it is retired already
    ∷ listed (record {
      start = holding (spending Landed) (live_slot 5) (1 ∷ []);
      calls = Call.Queue (delivery (by_id 1) 7) ∷ Call.Queue (delivery None 8) ∷ Call.EmitRetirement 9 ∷ Call.ReconcileChainTerminality no_coins seventh_id false []
          ∷ Call.ReconciliationInputCoins no_coins 9 ∷ Call.ActiveIds ∷ Call.Attempt 5 ∷ Call.RelinquishCompletedAttempt 5 ∷ [];
      answers = answer [] no_value ∷ answer [] no_value ∷ answer [] no_value ∷ answer [] no_value
          ∷ answer [] (written no_coins) ∷ answer [] (ids_are []) ∷ answer [] (attempt_is None) ∷ answer [] (status_is Applied) ∷ [];
      leaves = (6 ∷ []) ∷ (2 ∷ []) ∷ (1 ∷ []) ∷ (0 ∷ []) ∷ (0 ∷ []) ∷ (9 ∷ 1 ∷ []) ∷ [] ∷ [];
    } ∷ record {
      start = holding (spending Landed) (live_slot 5) (1 ∷ []);
      calls = Call.Queue (delivery (by_id 1) 7) ∷ Call.Queue (delivery None 8) ∷ Call.EmitRetirement 1 ∷ Call.EmitRetirement 9 ∷ Call.ReconcileChainTerminality no_coins seventh_id true []
          ∷ Call.ReconciliationInputCoins no_coins 9 ∷ Call.ActiveIds ∷ Call.Attempt 5 ∷ Call.RelinquishCompletedAttempt 5 ∷ [];
      answers = answer [] no_value ∷ answer [] no_value ∷ answer [] no_value ∷ answer [] no_value ∷ answer [] no_value
          ∷ answer [] (written (0 ∷ 1 ∷ 1 ∷ 7 ∷ [])) ∷ answer [] (ids_are []) ∷ answer [] (attempt_is None) ∷ answer [] (status_is Applied) ∷ [];
      leaves = (6 ∷ []) ∷ (2 ∷ []) ∷ (1 ∷ []) ∷ (0 ∷ []) ∷ (0 ∷ []) ∷ (1 ∷ 9 ∷ []) ∷ [] ∷ [];
    } ∷ [])
    -- P next token 2^64 − 2: issued; one more: 11, and what was retained stays
    ∷ listed (record {
      start = opened 18446744073709551614 1;
      calls = Call.Queue (delivery None 7) ∷ Call.Drain ∷ Call.RetainSubmitted (1 ∷ []) ∷ Call.Queue (delivery None 7) ∷ Call.Drain ∷ [];
      answers = answer [] no_value ∷ answer (drained 1 18446744073709551614 None Initial 7 ∷ []) (failures []) ∷ answer [] (ids_are (1 ∷ []))
          ∷ answer [] no_value ∷ refused 11 ∷ [];
      leaves = (18446744073709551615 ∷ []) ∷ (3 ∷ []) ∷ (2 ∷ []) ∷ (7 ∷ []) ∷ [] ∷ (1 ∷ []) ∷ [] ∷ [];
    } ∷ [])
    -- P next id 2^64 − 1, new readable intent: SubmissionId
    ∷ staged (record {
      start = opened 5 18446744073709551615;
      calls = Call.Queue (delivery None 7) ∷ Call.Drain ∷ [];
      answers = answer [] no_value ∷ answer [] (failures (failing 0 IdsExhausted 18446744073709551615 7 ∷ [])) ∷ [];
      leaves = (5 ∷ []) ∷ (18446744073709551615 ∷ []) ∷ [] ∷ [] ∷ [] ∷ [] ∷ [] ∷ [];
    }) (stage.SubmissionId ∷ [])
    -- P relinquish a live token: Stale
    ∷ listed (record {
      start = opened 5 1;
      calls = Call.Queue (delivery None 7) ∷ Call.Drain ∷ Call.RelinquishCompletedAttempt 5 ∷ [];
      answers = answer [] no_value ∷ answer (drained 1 5 None Initial 7 ∷ []) (failures []) ∷ answer [] (status_is Stale) ∷ [];
      leaves = (6 ∷ []) ∷ (2 ∷ []) ∷ (1 ∷ []) ∷ (7 ∷ []) ∷ [] ∷ [] ∷ [] ∷ [];
    } ∷ [])
    -- P one intent queued twice: drained once
    ∷ listed (record {
      start = opened 5 1;
      calls = Call.Queue (delivery None 7) ∷ Call.Queue (delivery None 7) ∷ Call.Drain ∷ [];
      answers = answer [] no_value ∷ answer [] no_value ∷ answer (drained 1 5 None Initial 7 ∷ []) (failures []) ∷ [];
      leaves = (6 ∷ []) ∷ (2 ∷ []) ∷ (1 ∷ []) ∷ (7 ∷ []) ∷ [] ∷ [] ∷ [] ∷ [];
    } ∷ [])
    -- P drained, the same intent queued again for EnsureBroadcast, unacknowledged, drained: predecessor first token, Exact
    ∷ listed (record {
      start = opened 5 1;
      calls = Call.Queue (delivery None 7) ∷ Call.Drain ∷ Call.Queue (delivery None 7) ∷ Call.Drain ∷ [];
      answers = answer [] no_value ∷ answer (drained 1 5 None Initial 7 ∷ []) (failures []) ∷ answer [] no_value
          ∷ answer (drained 1 6 (Some 5) Exact 7 ∷ []) (failures []) ∷ [];
      leaves = (7 ∷ []) ∷ (2 ∷ []) ∷ (1 ∷ []) ∷ (7 ∷ []) ∷ [] ∷ [] ∷ [] ∷ [];
    } ∷ [])
    -- P 16th retained accepted, 17th refused 10. The two intents differ in their expiry alone
    ∷ listed (record {
      start = fifteen;
      calls = Call.Queue (delivery None 7) ∷ Call.Drain ∷ Call.Queue (delivery None 8) ∷ Call.Drain ∷ [];
      answers = answer [] no_value ∷ answer (drained 16 5 None Initial 7 ∷ []) (failures []) ∷ answer [] no_value ∷ refused 10 ∷ [];
      leaves = (6 ∷ []) ∷ (17 ∷ []) ∷ (1 ∷ 2 ∷ 3 ∷ 4 ∷ 5 ∷ 6 ∷ 7 ∷ 8 ∷ 9 ∷ 10 ∷ 11 ∷ 12 ∷ 13 ∷ 14 ∷ 15 ∷ 16 ∷ [])
          ∷ (0 ∷ 0 ∷ 0 ∷ 0 ∷ 0 ∷ 0 ∷ 0 ∷ 0 ∷ 0 ∷ 0 ∷ 0 ∷ 0 ∷ 0 ∷ 0 ∷ 0 ∷ 7 ∷ []) ∷ (0 ∷ []) ∷ [] ∷ [] ∷ [];
    } ∷ [])
    ∷ []

pub specimens : map given table ≡ map wanted table
unfolding play opened height by_id holding zero_bundle spending entry_of live_slot delivery drained failing fifteen seventh_id no_coins zero_fee_intent Fips.K Fips.H0 Fips.pad Fips.schedule Fips.round Fips.rounds Fips.plus Fips.hashed
specimens = refl

-- a dozen
pub twelve : length table ≡ 12
twelve = refl

-- every list starts from a sound book
pub specimens_sound : list_all (λ s. sound_lists s.start) (flat_map specimens_in table) ≡ true
unfolding sound_lists opened holding zero_bundle spending entry_of live_slot fifteen zero_fee_intent
specimens_sound = refl
