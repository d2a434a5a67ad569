-- `look`, a query of ours: what the retained submission of an id holds, or none; nothing changes.
use Rattle.std.specs.Prelude.{ℕ, cond, List, [], ◌∷◌}
use Rattle.std.specs.Prelude.{Option, None, Some}
use Rattle.book.specs.declared.OptionalAttempt.{OptionalAttempt}
use Rattle.book.specs.declared.SubmittedTx.{SubmittedTx}
use Rattle.book.specs.Sound.{id_of}
use Rattle.book.specs.declared.Token.{Token}
use Rattle.book_answers.specs.declared.SubmissionLook.{SubmissionLook}
use Rattle.rules.specs.Keyed.{pick}
use Rattle.rules.specs.Parts.{current_acknowledged, current_applied_fee}
use Rattle.rules.specs.Rule.{done, Rule, ◌>>=◌, book}

-- the token in a slot
abbrev pub token_in : OptionalAttempt → Option Token
token_in a = cond a.present (Some a.attempt.token) None

unfoldable pub look_of : SubmittedTx → SubmissionLook
unfolding current_acknowledged current_applied_fee
look_of s = record {
  expiry = s.entry.state.status.expiry;
  active_attempt_token = token_in s.slots.active_attempt;
  completed_attempt_token = token_in s.slots.completed_attempt;
  applied_fee = current_applied_fee s.entry;
  fee_resolution = s.entry.state.status.fee_resolution;
  chain_terminality = s.entry.state.status.chain_terminality;
  acknowledged = current_acknowledged s.entry;
}

abbrev pub look_by : List SubmittedTx → Option SubmissionLook
look_by [] = None
look_by (s ∷ ss) = Some (look_of s)

unfoldable pub look_at : ℕ → Rule (Option SubmissionLook)
unfolding look_of pick
look_at i = do
  b ← book
  done (look_by (pick id_of i b.submitted))
