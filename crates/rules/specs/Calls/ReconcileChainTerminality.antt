-- `reconcile_chain_terminality`: paper 01, "Chain".
use Rattle.std.specs.Prelude.{ℕ, Bool, cond, not, ◌&&◌, List, [], ◌∷◌}
use Rattle.base_lists.specs.Lists.{elemb}
use Rattle.std.specs.List.{list_any}
use Rattle.base_coin_string.specs.CoinIds.{id_listb, ids_in}
use Rattle.base_coin_string.specs.CoinList.{coins_in, coin_listb}
use Rattle.book.specs.declared.RetainedIntent.{RetainedIntent}
use Rattle.book.specs.declared.SubmittedTx.{SubmittedTx}
use Rattle.book.specs.declared.SubmissionChainTerminality.{SubmissionChainTerminality}
use Rattle.book.specs.declared.SubmissionChainTerminality.TheVariants.{Active, InputSpent, Landed}
use Rattle.book.specs.Model.{back}
use Rattle.book.specs.Sound.{id_of}
use Rattle.book_coins.specs.Coins.{input_coin_ids, expected_output_coins}
use Rattle.rules.specs.Doors.{ids_ok, among}
use Rattle.rules.specs.Parts.{is_landed}
use Rattle.rules.specs.Rule.{done, terminality, unqueue, retire, unreplay, note, revise, set_aside, Rule, undo, ◌>>=◌, ◌>>◌, book, step, end_turn}
use Rattle.book.specs.declared.refusal.Refusal.TheVariants as refusals

unfoldable pub output_observed : List (List ℕ) → RetainedIntent → Bool
unfolding among expected_output_coins
output_observed observed p = list_any (among observed) (expected_output_coins p.base_bundle)

unfoldable pub input_spent : List (List ℕ) → RetainedIntent → Bool
unfolding among input_coin_ids
input_spent spent p = list_any (among spent) (input_coin_ids p.base_bundle)

-- "InputSpent, except that Landed stays if not a reorg"
abbrev pub spent_as : Bool → SubmissionChainTerminality → SubmissionChainTerminality
spent_as reorg c = cond (not reorg && is_landed c) Landed InputSpent

-- "Both are halted: out of replay and queue, live set aside, retired once"
unfoldable pub halt : ℕ → SubmissionChainTerminality → Rule (Unit {0})
halt i c = do
  step (revise i (terminality c))
  step (note (unreplay i))
  step (note (unqueue i))
  step (set_aside i)
  step (note (retire i))

-- "the search stops at the first output found among the observed coins: Landed. Else an input spent .. Else Active if rolled back"
unfoldable pub judge : List (List ℕ) → List (List ℕ) → Bool → List ℕ → SubmittedTx → Rule (Unit {0})
unfolding output_observed input_spent halt
judge observed spent reorg back t =
    cond (output_observed observed t.entry.intent) (halt (id_of t) Landed)
    (cond (input_spent spent t.entry.intent) (halt (id_of t) (spent_as reorg t.entry.state.status.chain_terminality))
    (cond (elemb (id_of t) back) (step (revise (id_of t) (terminality Active))) (done tt)))

unfoldable pub judge_each : List (List ℕ) → List (List ℕ) → Bool → List ℕ → List SubmittedTx → Rule (Unit {0})
unfolding judge
judge_each observed spent reorg back [] = done tt
judge_each observed spent reorg back (t ∷ ts) = do
  judge observed spent reorg back t
  end_turn
  judge_each observed spent reorg back ts

unfoldable pub reconcile_chain_terminality : List ℕ → List ℕ → Bool → List ℕ → Rule (Unit {0})
unfolding ids_ok judge_each
reconcile_chain_terminality observed spent reorg back = cond (coin_listb observed && id_listb spent && ids_ok back)
    (do
      b ← book
      judge_each (coins_in observed) (ids_in spent) reorg back b.submitted)
    (undo refusals.BadList)
