-- A list of calls, played under the rules with our archive form; and the stages at which candidates of its drains failed.
use Rattle.std.specs.Prelude.{List, [], ◌∷◌, map, ◌≡◌, refl}
use Rattle.std.proofs.Common.{ap}
use Rattle.std.specs.List.{flat_map}
use Rattle.book.specs.Model.{Book}
use Rattle.archive_form.specs.Encode.{encode_model}
use Rattle.rules.specs.Books.{book_after, answers_book}
use Rattle.book_answers.specs.declared.SubmissionDrainFailureStage.{SubmissionDrainFailureStage}
use Rattle.rules.specs.Call.{Call, stage_of, Value, no_value, failures, finalized, fee_intent_is, status_is, ids_are, flag, height_is, attempt_is, look_is, summary_is, written}
use Rattle.rules.specs.Calls.{rules}
use Rattle.rules.specs.Examples.{Specimen, Played, brief, saying}
use Rattle.rules.specs.Rule.{full, run, Answer, answer, refused, answered, left}
use Rattle.rules.specs.Steps.{on_book, run_book}

-- as `answers_book` and `book_after`, each call run once
unfoldable pub play : List Call → Book → Played
unfolding rules run on_book full encode_model brief
play [] b = record { says = []; end = brief b }
play (c ∷ cs) b = let k = run_book (rules encode_model c) b in saying (answered k) (play cs (left b k))

pub play_is : (cs : List Call) (b : Book) → play cs b ≡ record { says = answers_book encode_model cs b; end = brief (book_after encode_model cs b) }
unfolding play answers_book book_after
play_is [] b = refl
play_is (c ∷ cs) b = ap (saying (answered (run_book (rules encode_model c) b))) (play_is cs (left b (run_book (rules encode_model c) b)))

abbrev pub played : Specimen → Played
played s = play s.calls s.start

-- `SubmissionDrainFailureStage` of each failure in an answer
abbrev pub failed_at : Value → List SubmissionDrainFailureStage
failed_at no_value = []
failed_at (failures fs) = map (λ f. stage_of f.cause) fs
failed_at (finalized f) = []
failed_at (fee_intent_is f) = []
failed_at (status_is s) = []
failed_at (ids_are is) = []
failed_at (flag b) = []
failed_at (height_is h) = []
failed_at (attempt_is a) = []
failed_at (look_is l) = []
failed_at (summary_is s) = []
failed_at (written s) = []

abbrev pub stages_of : Answer Value → List SubmissionDrainFailureStage
stages_of (answer xs v) = failed_at v
stages_of (refused n) = []

abbrev pub stages_in : Played → List SubmissionDrainFailureStage
stages_in p = flat_map stages_of p.says
