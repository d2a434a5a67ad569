-- Parts of the rules that several calls share.
use Rattle.std.specs.Prelude.{ℕ, Bool, true, false, cond, ◌&&◌, List, [], ◌∷◌, eqb, ltb, leb, length, set}
use Rattle.std.specs.List.{list_any, filter}
use Rattle.book.specs.declared.OptionalAttempt.{OptionalAttempt}
use Rattle.book.specs.declared.SubmittedTx.{SubmittedTx}
use Rattle.book.specs.Model.{Book}
use Rattle.rules.specs.Rule.{done, retire, note, remove, Rule, undo, ◌>>=◌, ◌>>◌, book, step, end_turn}
use Rattle.book.specs.declared.refusal.Refusal.TheVariants as refusals

-- ---- finding a token
pub data Found : Type 0 where
  live : SubmittedTx → Found
  aside gone never_issued : Found

abbrev pub has_token : ℕ → OptionalAttempt → Bool
has_token t a = a.present && eqb a.attempt.token.0 t

-- the submissions whose live attempt has the token: at most one in a sound book
unfoldable pub live_at : ℕ → Book → List SubmittedTx
live_at t b = filter (λ s. has_token t s.slots.active_attempt) b.submitted

unfoldable pub is_aside : ℕ → Book → Bool
is_aside t b = list_any (λ s. has_token t s.slots.completed_attempt) b.submitted

abbrev pub found_by : Bool → Bool → List SubmittedTx → Found
found_by below set (s ∷ ss) = live s
found_by true true [] = aside
found_by true false [] = gone
found_by false set [] = never_issued

-- live, set aside, gone (below next token and in no slot), or never issued
unfoldable pub find : ℕ → Book → Found
unfolding live_at is_aside
find t b = found_by (ltb t b.next_token.0) (is_aside t b) (live_at t b)

-- refusal 4: "not live and not below next token"
abbrev pub by_live : {A : Type 0} → A → (SubmittedTx → Rule A) → Found → Rule A
by_live inactive k (live s) = k s
by_live inactive k aside = done inactive
by_live inactive k gone = done inactive
by_live inactive k never_issued = undo refusals.UnknownToken

unfoldable pub with_live : {A : Type 0} → ℕ → A → (SubmittedTx → Rule A) → Rule A
unfolding find
with_live t inactive k = do
  b ← book
  by_live inactive k (find t b)

-- ---- removal: `retain_submitted` of one id
unfoldable pub withdraw : ℕ → Rule (Unit {0})
withdraw i = do
  step (remove i)
  step (note (retire i))

unfoldable pub withdraw_each : List ℕ → Rule (Unit {0})
unfolding withdraw
withdraw_each [] = done tt
withdraw_each (i ∷ is) = do
  withdraw i
  end_turn
  withdraw_each is

-- ---- writing into a lent buffer
-- refusal 12: "buffer shorter than needed"
unfoldable pub writing : ℕ → List ℕ → Rule (List ℕ)
writing room s = cond (leb (length s) room) (done s) (undo refusals.ShortBuffer)
