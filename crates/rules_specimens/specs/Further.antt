-- Further lists of calls: a set-aside predecessor, finalising and acknowledging, a rollback, observed outputs, rising ids, what an 11 leaves
-- behind, and the candidates that plan 3 turns away.
use Rattle.base_sha256.specs.Fips
use Rattle.std.specs.Prelude.{true, false, List, [], ◌∷◌, ◌++◌, map, ◌≡◌, refl}
use Rattle.std.specs.Prelude.{None, Some}
use Rattle.std.specs.List.{list_all, flat_map}
use Rattle.book.specs.declared.SubmissionChainTerminality.TheVariants.{Active, InputSpent, Landed}
use Rattle.book.specs.Sound.{sound_lists}
use Rattle.book.specs.Zero.{zero_bundle, zero_fee_intent}
use Rattle.book_answers.specs.declared.DrainFailureCause.TheVariants.{IdCollides, OutputsUnreadable}
use Rattle.book_answers.specs.declared.SubmissionAttemptRelationship.TheVariants.{Initial, Other}
use Rattle.book_answers.specs.declared.SubmissionAttemptStatus.TheVariants.{Applied, Stale}
use Rattle.book_answers.specs.declared.SubmissionDrainFailureStage.TheVariants as stage
use Rattle.book_answers.specs.declared.SubmissionFeeSource.TheVariants as source
use Rattle.rules.specs.Call.{Call, no_value, failures, finalized, fee_intent_is, status_is, ids_are, written}
use Rattle.rules.specs.Opened.{opened}
use Rattle.rules.specs.Rule.{answer, refused}
use Rattle.rules.specs.Examples.Pieces.{height, by_id, delivery, drained, failing, spending, seventh_id, no_coins, live_slot, seventh, fee_of3, fee_open, drained_slot, joined_empty, holding}
use Rattle.rules_specimens.specs.Pieces.{entry_for, attached_to_base, payment, second_output, unreadable, failing_as, retaining, unattempted}
use Rattle.rules_specimens.specs.Play.{play}
use Rattle.rules_specimens.specs.Table.{Row, listed, staged, given, wanted, specimens_in}

abbrev pub attempts : List Row
attempts =
    -- a set-aside attempt is the predecessor too; the expiry becomes the smaller one
    listed (record {
      start = holding (seventh Active) (live_slot 5) [];
      calls = Call.StopAttempt 5 ∷ Call.Queue (delivery (by_id 1) 7) ∷ Call.Drain ∷ [];
      answers = answer [] (status_is Applied) ∷ answer [] no_value ∷ answer (drained 1 6 (Some 5) Other 7 ∷ []) (failures []) ∷ [];
      leaves = (7 ∷ []) ∷ (2 ∷ []) ∷ (1 ∷ []) ∷ (7 ∷ []) ∷ [] ∷ [] ∷ [] ∷ [];
    } ∷ [])
    -- a joined bundle is attached once, acknowledged, and its attempt set aside
    ∷ listed (record {
      start = holding fee_open (drained_slot 5) [];
      calls = Call.FeeIntentForAttempt 5 ∷ Call.AcknowledgeAttempt 5 ∷ Call.FinalizeAttempt 5 source.Joined zero_bundle ∷ Call.FinalizeAttempt 5 source.Joined zero_bundle
          ∷ Call.FeeIntentForAttempt 5 ∷ Call.AcknowledgeAttempt 5 ∷ Call.RelinquishCompletedAttempt 5 ∷ Call.FinalizeAttempt 5 source.NotRequested zero_bundle ∷ [];
      answers = answer [] (fee_intent_is (Some fee_of3)) ∷ refused 6 ∷ answer [] (finalized (Some joined_empty)) ∷ refused 5
          ∷ answer [] (fee_intent_is (Some zero_fee_intent)) ∷ answer [] (status_is Applied) ∷ answer [] (status_is Applied) ∷ answer [] (finalized None) ∷ [];
      leaves = (6 ∷ []) ∷ (2 ∷ []) ∷ (1 ∷ []) ∷ (0 ∷ []) ∷ [] ∷ [] ∷ [] ∷ [];
    } ∷ [])
    -- finalising refused: 7, attached without a fee bundle; 8, drained with another bundle; 9, a fee source that is not asked for
    ∷ listed (record {
      start = holding (attached_to_base (entry_for 1 zero_bundle Active)) (drained_slot 5) [];
      calls = Call.FinalizeAttempt 5 source.NotRequested zero_bundle ∷ [];
      answers = refused 7 ∷ [];
      leaves = (6 ∷ []) ∷ (2 ∷ []) ∷ (1 ∷ []) ∷ (0 ∷ []) ∷ [] ∷ [] ∷ [] ∷ [];
    } ∷ record {
      start = holding (entry_for 1 zero_bundle Active) (live_slot 5) [];
      calls = Call.FinalizeAttempt 5 source.Failed zero_bundle ∷ [];
      answers = refused 8 ∷ [];
      leaves = (6 ∷ []) ∷ (2 ∷ []) ∷ (1 ∷ []) ∷ (0 ∷ []) ∷ [] ∷ [] ∷ [] ∷ [];
    } ∷ record {
      start = holding (entry_for 1 zero_bundle Active) (drained_slot 5) [];
      calls = Call.FinalizeAttempt 5 source.Failed zero_bundle ∷ [];
      answers = refused 9 ∷ [];
      leaves = (6 ∷ []) ∷ (2 ∷ []) ∷ (1 ∷ []) ∷ (0 ∷ []) ∷ [] ∷ [] ∷ [] ∷ [];
    } ∷ [])
    -- InputSpent is rolled back where its input is live again, and Active after that report
    ∷ listed (record {
      start = holding (spending InputSpent) (live_slot 5) [];
      calls = Call.CausallyRolledBackIds no_coins [] ∷ Call.CausallyRolledBackIds no_coins seventh_id ∷ Call.ActiveIds
          ∷ Call.ReconcileChainTerminality no_coins [] true (1 ∷ []) ∷ Call.ActiveIds ∷ [];
      answers = answer [] (ids_are []) ∷ answer [] (ids_are (1 ∷ [])) ∷ answer [] (ids_are []) ∷ answer [] no_value ∷ answer [] (ids_are (1 ∷ [])) ∷ [];
      leaves = (6 ∷ []) ∷ (2 ∷ []) ∷ (1 ∷ []) ∷ (0 ∷ []) ∷ [] ∷ [] ∷ [] ∷ [];
    } ∷ [])
    ∷ []

abbrev pub chain : List Row
chain =
    -- of two outputs one is observed, and the input is spent in a reorg: Landed, which has no input coins to reconcile
    listed (record {
      start = holding (entry_for 1 payment Active) (live_slot 5) [];
      calls = Call.ActiveIds ∷ Call.ReconcileChainTerminality second_output seventh_id true [] ∷ Call.ReconciliationInputCoins no_coins 9 ∷ Call.ActiveIds ∷ [];
      answers = answer [] (ids_are (1 ∷ [])) ∷ answer [] no_value ∷ answer [] (written no_coins) ∷ answer [] (ids_are []) ∷ [];
      leaves = (6 ∷ []) ∷ (2 ∷ []) ∷ (1 ∷ []) ∷ (0 ∷ []) ∷ [] ∷ (1 ∷ []) ∷ [] ∷ [];
    } ∷ [])
    -- retired ids are remembered until drained; "a still-observed output retires again"
    ∷ listed (record {
      start = holding (entry_for 1 payment Landed) (live_slot 5) [];
      calls = Call.ReconcileChainTerminality second_output [] false [] ∷ Call.ReconcileChainTerminality second_output [] false [] ∷ Call.DrainRetirements
          ∷ Call.ReconcileChainTerminality second_output [] false [] ∷ Call.DrainRetirements ∷ Call.DrainRetirements ∷ [];
      answers = answer [] no_value ∷ answer [] no_value ∷ answer [] (ids_are (1 ∷ [])) ∷ answer [] no_value ∷ answer [] (ids_are (1 ∷ [])) ∷ answer [] (ids_are []) ∷ [];
      leaves = (6 ∷ []) ∷ (2 ∷ []) ∷ (1 ∷ []) ∷ (0 ∷ []) ∷ [] ∷ [] ∷ [] ∷ [];
    } ∷ [])
    -- 9 is retained before 1: rolled back and removed ids are answered rising; their one input coin comes once
    ∷ listed (record {
      start = retaining 6 10 (unattempted (entry_for 9 payment InputSpent) ∷ unattempted (entry_for 1 payment InputSpent) ∷ []);
      calls = Call.CausallyRolledBackIds no_coins seventh_id ∷ Call.ReconciliationInputCoins no_coins 9 ∷ Call.RetainSubmitted (9 ∷ 1 ∷ []) ∷ [];
      answers = answer [] (ids_are (1 ∷ 9 ∷ [])) ∷ answer [] (written (0 ∷ 1 ∷ 1 ∷ 7 ∷ [])) ∷ answer [] (ids_are (1 ∷ 9 ∷ [])) ∷ [];
      leaves = (6 ∷ []) ∷ (10 ∷ []) ∷ [] ∷ [] ∷ [] ∷ (1 ∷ 9 ∷ []) ∷ [] ∷ [];
    } ∷ [])
    ∷ []

abbrev pub drains : List Row
drains =
    -- behind an 11 the queue is empty, and what the candidates did up to this one stays: the expiry of 1, the removal and retirement of 2, the
    -- token of 3, and 4 as retained with the next id; the last candidate never came
    listed (record {
      start = retaining 18446744073709551613 2 (unattempted (seventh Landed) ∷ []);
      calls = Call.Queue (delivery None 8) ∷ Call.Drain ∷ Call.Queue (delivery (by_id 1) 7) ∷ Call.Queue (delivery (by_id 2) 9) ∷ Call.Queue (delivery None 10)
          ∷ Call.Queue (delivery None 11) ∷ Call.Queue (delivery None 12) ∷ Call.Drain ∷ Call.Drain
          ∷ Call.StopAttempt 18446744073709551614 ∷ Call.StopAttempt 18446744073709551613 ∷ [];
      answers = answer [] no_value ∷ answer (drained 2 18446744073709551613 None Initial 8 ∷ []) (failures []) ∷ answer [] no_value ∷ answer [] no_value ∷ answer [] no_value
          ∷ answer [] no_value ∷ answer [] no_value ∷ refused 11 ∷ answer [] (failures [])
          ∷ answer [] (status_is Applied) ∷ answer [] (status_is Stale) ∷ [];
      leaves = (18446744073709551615 ∷ []) ∷ (5 ∷ []) ∷ (1 ∷ 3 ∷ 4 ∷ []) ∷ (7 ∷ 10 ∷ 11 ∷ []) ∷ [] ∷ (2 ∷ []) ∷ [] ∷ [];
    } ∷ [])
    -- next id already retained: SubmissionId, also for an unreadable bundle; unreadable: ExpectedOutputs, and the next id stays
    ∷ staged (record {
      start = retaining 6 1 (unattempted (entry_for 1 payment Active) ∷ []);
      calls = Call.Queue (delivery None 7) ∷ Call.Queue unreadable ∷ Call.Drain ∷ [];
      answers = answer [] no_value ∷ answer [] no_value ∷ answer [] (failures (failing 0 IdCollides 1 7 ∷ failing_as 1 IdCollides 1 unreadable ∷ [])) ∷ [];
      leaves = (6 ∷ []) ∷ (1 ∷ []) ∷ (1 ∷ []) ∷ (0 ∷ []) ∷ [] ∷ [] ∷ [] ∷ [];
    }) (stage.SubmissionId ∷ stage.SubmissionId ∷ [])
    ∷ staged (record {
      start = opened 5 1;
      calls = Call.Queue unreadable ∷ Call.Queue (delivery None 7) ∷ Call.Drain ∷ [];
      answers = answer [] no_value ∷ answer [] no_value ∷ answer (drained 1 5 None Initial 7 ∷ []) (failures (failing_as 0 OutputsUnreadable 1 unreadable ∷ [])) ∷ [];
      leaves = (6 ∷ []) ∷ (2 ∷ []) ∷ (1 ∷ []) ∷ (7 ∷ []) ∷ [] ∷ [] ∷ [] ∷ [];
    }) (stage.ExpectedOutputs ∷ [])
    ∷ []

pub attempts_hold : map given attempts ≡ map wanted attempts
unfolding play height holding entry_for attached_to_base seventh fee_open fee_of3 drained_slot joined_empty zero_bundle spending live_slot delivery by_id drained seventh_id no_coins zero_fee_intent Fips.K Fips.H0 Fips.pad Fips.schedule Fips.round Fips.rounds Fips.plus Fips.hashed
attempts_hold = refl

pub chain_holds : map given chain ≡ map wanted chain
unfolding play holding live_slot seventh_id no_coins zero_fee_intent entry_for payment second_output retaining unattempted Fips.K Fips.H0 Fips.pad Fips.schedule Fips.round Fips.rounds Fips.plus Fips.hashed
chain_holds = refl

pub drains_hold : map given drains ≡ map wanted drains
unfolding play opened height seventh zero_bundle delivery by_id drained failing zero_fee_intent entry_for payment unreadable failing_as retaining unattempted Fips.K Fips.H0 Fips.pad Fips.schedule Fips.round Fips.rounds Fips.plus Fips.hashed
drains_hold = refl

-- every list starts from a sound book
pub further_sound : list_all (λ s. sound_lists s.start) (flat_map specimens_in (attempts ++ chain ++ drains)) ≡ true
unfolding sound_lists opened holding seventh fee_open fee_of3 drained_slot zero_bundle spending live_slot zero_fee_intent entry_for attached_to_base payment retaining unattempted
further_sound = refl
