-- Lists of calls on a book, with what they must be answered and what they leave, by computation. Each stands for a misreading or a sham that
-- the paper names; the paper's own specimens are in the crate specimens.
pub mod Pieces
use Rattle.base_sha256.specs.Fips
use Rattle.std.specs.Prelude.{ℕ, true, List, [], ◌∷◌, map, ◌≡◌, refl}
use Rattle.std.specs.Prelude.{None, Some}
use Rattle.std.proofs.Common.{ap}
use Rattle.std.specs.List.{list_all}
use Rattle.book.specs.declared.FeeResolution.TheVariants.{Attached}
use Rattle.book.specs.declared.SubmissionChainTerminality.TheVariants.{Active, InputSpent, Landed}
use Rattle.book.specs.Model.{Book}
use Rattle.book.specs.Sound.{id_of, sound_lists}
use Rattle.book.specs.Zero.{zero_bundle, zero_fee_intent}
use Rattle.rules.specs.Books.{book_after, answers_book}
use Rattle.book_answers.specs.declared.DrainFailureCause.TheVariants.{NoRetainedState, FeeIntentDiffers}
use Rattle.book_answers.specs.declared.SubmissionAttemptRelationship.TheVariants.{Initial}
use Rattle.book_answers.specs.declared.SubmissionAttemptStatus.TheVariants.{Applied, Stale}
use Rattle.rules.specs.Call.{Call, Value, no_value, failures, finalized, fee_intent_is, status_is, ids_are, flag, height_is, attempt_is, look_is, summary_is, written}
use Rattle.rules.specs.Calls.{rules}
use Rattle.rules.specs.Examples.Pieces.{no_archive, height, by_id, height_number, queued_id, delivery, damaged, drained, failing, no_fee, entry_of, spending, seventh_id, no_coins, live_slot, seventh, fee_attached, holding, counted, fifteen, queueing, accepted}
use Rattle.rules.specs.Opened.{opened}
use Rattle.rules.specs.Rule.{full, run, Answer, answer, refused, answered, left}
use Rattle.rules.specs.Steps.{on_book, run_book}

-- a list of calls on a book: the answers, and the book left in brief
pub record Specimen : Type 0 where
  pub start : Book
  pub calls : List Call
  pub answers : List (Answer Value)
  pub leaves : List (List ℕ)

-- the answers of a list of calls, and behind them the book left: next token, next id, retained ids, their expiries,
-- queued, retired and replayed ids
pub record Played : Type 0 where
  pub says : List (Answer Value)
  pub end : List (List ℕ)

unfoldable pub brief : Book → List (List ℕ)
brief b = (b.next_token.0 ∷ []) ∷ (b.next_id.0 ∷ []) ∷ map id_of b.submitted ∷ map (λ t. height_number t.entry.state.status.expiry) b.submitted ∷ map (λ d. queued_id d.intent.id) b.pending ∷ b.retired ∷ b.replayed ∷ []

abbrev pub saying : Answer Value → Played → Played
saying a p = record { says = a ∷ p.says; end = p.end }

-- as `answers_book` and `book_after`, each call run once
unfoldable pub play : List Call → Book → Played
unfolding rules run on_book full no_archive brief
play [] b = record { says = []; end = brief b }
play (c ∷ cs) b = let k = run_book (rules no_archive c) b in saying (answered k) (play cs (left b k))

pub play_is : (cs : List Call) (b : Book) → play cs b ≡ record { says = answers_book no_archive cs b; end = brief (book_after no_archive cs b) }
unfolding play answers_book book_after
play_is [] b = refl
play_is (c ∷ cs) b = ap (saying (answered (run_book (rules no_archive c) b))) (play_is cs (left b (run_book (rules no_archive c) b)))

abbrev pub played : Specimen → Played
played s = play s.calls s.start

abbrev pub claimed : Specimen → Played
claimed s = record { says = s.answers; end = s.leaves }

-- the indices of the failures that a drain answers
abbrev pub indices_of : Value → List ℕ
indices_of no_value = []
indices_of (failures fs) = map (λ f. f.candidate_index) fs
indices_of (finalized f) = []
indices_of (fee_intent_is f) = []
indices_of (status_is s) = []
indices_of (ids_are is) = []
indices_of (flag b) = []
indices_of (height_is h) = []
indices_of (attempt_is a) = []
indices_of (look_is l) = []
indices_of (summary_is s) = []
indices_of (written bs) = []

abbrev pub failed_at : Answer Value → List ℕ
failed_at (answer xs v) = indices_of v
failed_at (refused n) = []

-- failure indices count the queue as it was; a miss removes the submission with its later entries, and retires it
abbrev pub indices : Specimen
indices = record {
  start = holding (entry_of no_fee Active) (live_slot 5) (1 ∷ []);
  calls = Call.Queue (delivery (by_id 1) 7) ∷ Call.Queue (delivery (by_id 1) 7) ∷ Call.Queue (delivery (by_id 9) 7) ∷ Call.Drain ∷ [];
  answers = answer [] no_value ∷ answer [] no_value ∷ answer [] no_value
      ∷ answer [] (failures (failing 0 FeeIntentDiffers 1 7 ∷ failing 2 NoRetainedState 9 7 ∷ [])) ∷ [];
  leaves = (6 ∷ []) ∷ (2 ∷ []) ∷ [] ∷ [] ∷ [] ∷ (1 ∷ []) ∷ [] ∷ [];
}

-- retirements stand once, are remembered only until drained, and then come again
abbrev pub retirements : Specimen
retirements = record {
  start = opened 5 1;
  calls = Call.EmitRetirement 3 ∷ Call.EmitRetirement 3 ∷ Call.DrainRetirements ∷ Call.DrainRetirements ∷ Call.EmitRetirement 3 ∷ [];
  answers = answer [] no_value ∷ answer [] no_value ∷ answer [] (ids_are (3 ∷ [])) ∷ answer [] (ids_are []) ∷ answer [] no_value ∷ [];
  leaves = (5 ∷ []) ∷ (1 ∷ []) ∷ [] ∷ [] ∷ [] ∷ (3 ∷ []) ∷ [] ∷ [];
}

-- an id that is marked as replayed already is offered again
abbrev pub offered_again : Specimen
offered_again = record {
  start = holding (entry_of zero_fee_intent Active) (live_slot 5) (1 ∷ []);
  calls = Call.CollectRollbackReplayIds (1 ∷ 4 ∷ []) ∷ [];
  answers = answer [] no_value ∷ [];
  leaves = (6 ∷ []) ∷ (2 ∷ []) ∷ (1 ∷ []) ∷ (0 ∷ []) ∷ (1 ∷ []) ∷ [] ∷ (1 ∷ []) ∷ [];
}

-- a stopped attempt is set aside; a second stop is Stale; an abandoned one takes its submission with it
abbrev pub stopped : Specimen
stopped = record {
  start = holding (entry_of zero_fee_intent Active) (live_slot 5) [];
  calls = Call.StopAttempt 5 ∷ Call.StopAttempt 5 ∷ Call.RelinquishCompletedAttempt 5 ∷ Call.AbandonAttempt 5 ∷ Call.RetainSubmitted (1 ∷ 4 ∷ []) ∷ Call.StopAttempt 6 ∷ [];
  answers = answer [] (status_is Applied) ∷ answer [] (status_is Stale) ∷ answer [] (status_is Applied) ∷ answer [] (status_is Stale) ∷ answer [] (ids_are (1 ∷ [])) ∷ refused 4 ∷ [];
  leaves = (6 ∷ []) ∷ (2 ∷ []) ∷ [] ∷ [] ∷ [] ∷ (1 ∷ []) ∷ [] ∷ [];
}

-- what a submission holds, none for an id that is not retained, and the book in numbers
abbrev pub looks : Specimen
looks = record {
  start = holding fee_attached (live_slot 5) (1 ∷ []);
  calls = Call.Look 1 ∷ Call.Look 4 ∷ Call.Summary ∷ Call.EmitRetirement 7 ∷ Call.EmitRetirement 8 ∷ Call.Summary ∷ [];
  answers = answer [] (look_is (Some (record {
    expiry = Some (height 9);
    active_attempt_token = Some (record { 0 = 5 });
    completed_attempt_token = None;
    applied_fee = 3;
    fee_resolution = Attached;
    chain_terminality = InputSpent;
    acknowledged = true;
  })))
      ∷ answer [] (look_is None)
      ∷ answer [] (summary_is (counted 0))
      ∷ answer [] no_value
      ∷ answer [] no_value
      ∷ answer [] (summary_is (counted 2))
      ∷ [];
  leaves = (6 ∷ []) ∷ (2 ∷ []) ∷ (1 ∷ []) ∷ (9 ∷ []) ∷ [] ∷ (7 ∷ 8 ∷ []) ∷ (1 ∷ []) ∷ [];
}

-- the last token is issued
abbrev pub last_token : Specimen
last_token = record {
  start = opened 18446744073709551614 3;
  calls = Call.Queue (delivery None 7) ∷ Call.Drain ∷ Call.AbandonAttempt 18446744073709551614 ∷ [];
  answers = answer [] no_value ∷ answer (drained 3 18446744073709551614 None Initial 7 ∷ []) (failures []) ∷ answer [] (status_is Applied) ∷ [];
  leaves = (18446744073709551615 ∷ []) ∷ (4 ∷ []) ∷ [] ∷ [] ∷ [] ∷ (3 ∷ []) ∷ [] ∷ [];
}

-- the doors 2 and 3, and a buffer that is too short
abbrev pub doors : Specimen
doors = record {
  start = holding (spending Active) (live_slot 5) [];
  calls = Call.Queue damaged ∷ Call.ReconciliationInputCoins (0 ∷ 1 ∷ []) 9 ∷ Call.ReconciliationInputCoins no_coins 3 ∷ Call.ReconciliationInputCoins no_coins 4 ∷ [];
  answers = refused 3 ∷ refused 2 ∷ refused 12 ∷ answer [] (written (0 ∷ 1 ∷ 1 ∷ 7 ∷ [])) ∷ [];
  leaves = (6 ∷ []) ∷ (2 ∷ []) ∷ (1 ∷ []) ∷ (0 ∷ []) ∷ [] ∷ [] ∷ [] ∷ [];
}

pub doors_hold : played doors ≡ claimed doors
unfolding play opened height holding seventh zero_bundle spending entry_of live_slot no_fee delivery by_id drained failing fifteen damaged queueing accepted seventh_id no_coins zero_fee_intent
doors_hold = refl

-- the expiry becomes the smaller one present, also where nothing is emitted
abbrev pub tightened : Specimen
tightened = record {
  start = holding (seventh Landed) (live_slot 5) [];
  calls = Call.Queue (delivery (by_id 1) 7) ∷ Call.Drain ∷ [];
  answers = answer [] no_value ∷ answer [] (failures []) ∷ [];
  leaves = (6 ∷ []) ∷ (2 ∷ []) ∷ (1 ∷ []) ∷ (7 ∷ []) ∷ [] ∷ [] ∷ [] ∷ [];
}

-- the expiry is part of the intent
abbrev pub expiries : Specimen
expiries = record {
  start = opened 5 1;
  calls = Call.Queue (delivery None 7) ∷ Call.Queue (delivery None 8) ∷ Call.Drain ∷ [];
  answers = answer [] no_value ∷ answer [] no_value ∷ answer (drained 1 5 None Initial 7 ∷ drained 2 6 None Initial 8 ∷ []) (failures []) ∷ [];
  leaves = (7 ∷ []) ∷ (3 ∷ []) ∷ (1 ∷ 2 ∷ []) ∷ (7 ∷ 8 ∷ []) ∷ [] ∷ [] ∷ [] ∷ [];
}

-- the sixteenth is retained and gets a token; the queue takes sixteen
abbrev pub sixteen : Specimen
sixteen = record {
  start = fifteen;
  calls = Call.Queue (delivery None 7) ∷ Call.Drain ∷ queueing 17;
  answers = answer [] no_value ∷ answer (drained 16 5 None Initial 7 ∷ []) (failures []) ∷ accepted 16 (refused 10 ∷ []);
  leaves = (6 ∷ []) ∷ (17 ∷ []) ∷ (1 ∷ 2 ∷ 3 ∷ 4 ∷ 5 ∷ 6 ∷ 7 ∷ 8 ∷ 9 ∷ 10 ∷ 11 ∷ 12 ∷ 13 ∷ 14 ∷ 15 ∷ 16 ∷ [])
      ∷ (0 ∷ 0 ∷ 0 ∷ 0 ∷ 0 ∷ 0 ∷ 0 ∷ 0 ∷ 0 ∷ 0 ∷ 0 ∷ 0 ∷ 0 ∷ 0 ∷ 0 ∷ 7 ∷ [])
      ∷ (0 ∷ 0 ∷ 0 ∷ 0 ∷ 0 ∷ 0 ∷ 0 ∷ 0 ∷ 0 ∷ 0 ∷ 0 ∷ 0 ∷ 0 ∷ 0 ∷ 0 ∷ 0 ∷ []) ∷ [] ∷ [] ∷ [];
}

abbrev pub examples : List Specimen
examples = indices ∷ retirements ∷ offered_again ∷ stopped ∷ last_token ∷ doors ∷ tightened ∷ expiries ∷ sixteen ∷ []

-- every one of them starts from a sound book
pub examples_sound : list_all (λ s. sound_lists s.start) examples ≡ true
unfolding sound_lists opened holding seventh zero_bundle spending entry_of live_slot no_fee fifteen zero_fee_intent
examples_sound = refl
