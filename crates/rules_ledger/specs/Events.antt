-- What befell the submissions, told by the steps of the calls, and the fates that the tokens of a submission come to by it. The events are
-- settled on the ledger, from the calls alone.
use Rattle.std.specs.Prelude.{ℕ, suc, Bool, true, false, List, [], ◌∷◌, ◌++◌, map, replicate}
use Rattle.book.specs.Model.{Book}
use Rattle.rules.specs.Keyed.{pick}
use Rattle.book_answers.specs.declared.DrainedSubmission.{DrainedSubmission}
use Rattle.rules.specs.Rule.{Step, note, revise, retain, emit, remove, set_aside, finalise, replay, Rule, Effect, Outcome, run}
use Rattle.rules_ledger.specs.Ledger.{live, aside, Fate, displaced, struck, Row, Ledger, row_id}
use Rattle.rules_ledger.specs.Steps.{on_ledger}
use Rattle.rules_ledger.specs.View.{book_of}

-- "emitted", "removed", "acknowledged, stopped or halted"
pub data Kind : Type 0 where
  emitted removed halted : Kind

pub record Event : Type 0 where
  pub kind : Kind
  pub id : ℕ

abbrev pub event : Kind → ℕ → Event
event k i = record { kind = k; id = i }

-- by a step and what it hands out; "anything else: nothing"
abbrev pub events_by : Step → List DrainedSubmission → List Event
events_by (note n) out = []
events_by (revise i r) out = []
events_by (retain p) out = []
events_by (emit i g) out = map (λ x. event emitted x.id.0) out
events_by (remove i) out = event removed i ∷ []
events_by (set_aside i) out = event halted i ∷ []
events_by (finalise i v) out = []
events_by (replay i) out = []

-- a ledger and the events that led to it, the last first
pub record Told : Type 0 where
  pub ledger : Ledger
  pub events : List Event

abbrev pub told_by : Step → Told → Effect Ledger → Effect Told
told_by p s e = record { after = record { ledger = e.after; events = events_by p e.out ++ s.events }; out = e.out }

unfoldable pub on_told : Step → Told → Effect Told
unfolding on_ledger
on_told p s = told_by p s (on_ledger p s.ledger)

abbrev pub told_book : Told → Book
told_book s = book_of s.ledger

abbrev pub run_told : {A : Type 0} → Rule A → Told → Outcome Told A
run_told = run told_book on_told

-- what befell the submission i, the last first
abbrev pub events_of : ℕ → List Event → List Kind
events_of i es = map (λ x. x.kind) (pick (λ (x : Event). x.id) i es)

-- the fates of the tokens of the submission i, the last first
abbrev pub fates_of : ℕ → List Row → List Fate
fates_of i rows = map (λ r. r.fate) (pick row_id i rows)

abbrev pub emissions : List Kind → ℕ
emissions [] = 0
emissions (emitted ∷ ks) = suc (emissions ks)
emissions (removed ∷ ks) = emissions ks
emissions (halted ∷ ks) = emissions ks

-- the last token, by whether its submission was removed and whether it was halted since
abbrev pub last_fate : Bool → Bool → Fate
last_fate true halts = struck
last_fate false true = aside
last_fate false false = live

-- the last is struck out where the submission was removed since, else set aside or live; all before it are displaced
abbrev pub fates_since : Bool → Bool → List Kind → List Fate
fates_since gone halts [] = []
fates_since gone halts (emitted ∷ ks) = last_fate gone halts ∷ replicate (emissions ks) displaced
fates_since gone halts (removed ∷ ks) = fates_since true halts ks
fates_since gone halts (halted ∷ ks) = fates_since gone true ks

abbrev pub fates_by : List Kind → List Fate
fates_by ks = fates_since false false ks
