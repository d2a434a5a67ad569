-- Theorems on specs/Guards/Calls.antt.
use Rattle.std.specs.Prelude.{ℕ, ◌≡◌}
use Rattle.std.proofs.Common.{true≢false, ap, sym, ◌∙◌, arith}
use mathlib.Core.List.{List}
use Rattle.book.specs.Model.{Book}
use Rattle.rules.specs.Call.{Call, Value}
use Rattle.rules.specs.Calls.{rules}
use Rattle.rules.specs.Rule.{Outcome, ended, undone, stopped, refused, answered, left}
use Rattle.rules.specs.Calls.Plan.{last64}
use Rattle.book.specs.SoundLaws.{SoundLists, sound_lists_lem}
use Rattle.rules.specs.Books.{call_book, answer_book}
use Rattle.rules.specs.Steps.{run_book}
use Rattle.rules_laws.specs.Held.{Leaves, held_run}
use Rattle.rules_laws.specs.Guards.Bare.{run_bare, Taken, AtLast}
use Rattle.rules_laws.proofs.Guards.Bare.{bare_run}
use Rattle.rules_laws.specs.Sound.Run.{SoundBook}
use Rattle.rules_laws.specs.Sound.Steps.{sound_step}
use Rattle.rules_laws.specs.StepRule.Free.{undoes}
use Rattle.rules_laws.specs.StepRule.Calls.{Numbered}
use Rattle.rules_laws.proofs.StepRule.Calls.{numbered_call}
use Rattle.book.specs.Refusals as refusals
use Rattle.book.specs.Refusals.{refusal_number}
use Rattle.rules_laws.specs.Guards.Calls.{Ends, all_taken}

-- on a sound book every call comes to the same with steps that take whatever they are handed: the guards never turn anything away
pub guards_idle : (encode : Book → List ℕ) (c : Call) (b : Book) → SoundBook b → run_bare (rules encode c) b ≡ run_book (rules encode c) b
guards_idle encode c b h = let s = sound_lists_lem b h.lists in bare_run Ends (rules encode c) b s (all_taken encode c b s)

-- "11: token needed, next token 2^64 − 1": a call that is refused 11 leaves a book whose next token is the last number
pub refused_last : (encode : Book → List ℕ) (c : Call) (b : Book) → SoundBook b → answer_book encode c b ≡ refused refusals.no_token → (call_book encode c b).next_token.0 ≡ last64
unfolding answer_book call_book
refused_last encode c b h q =
    let s = sound_lists_lem b h.lists in
    let k = held_run SoundLists Taken AtLast (λ p m x y. sound_step p m x) Ends (rules encode c) b s (all_taken encode c b s) in
    go (run_book (rules encode c) b) k (numbered_call encode c b) q
  where
    go : (k : Outcome Book Value) → Leaves SoundLists Taken AtLast k → Numbered undoes k → answered k ≡ refused refusals.no_token → (left b k).next_token.0 ≡ last64
    go (ended d xs v) l n e = absurd (let z : ◌≡◌ {A = ℕ} 0 1 = cc in omega arith)
    go (undone m) l n e = absurd (let z : refusal_number m ≡ refusals.no_token = cc in true≢false (sym n ∙ ap undoes z))
    go (stopped d xs m) l n e = l.1
