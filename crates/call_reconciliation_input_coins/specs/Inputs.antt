-- `reconciliation_input_coins`: the loop over the submissions, and the answers.
use Rattle.std.specs.Prelude.{◌≡◌, refl, Bool, true, false, cond, ℕ, ◌+◌, ◌≤◌, length}
use Rattle.std.proofs.Math.Path.{sym, ap}
use Rattle.std.proofs.Common.{◌∙◌, arith}
use mathlib.Core.List.{List, [], ◌∷◌, ◌++◌}
use Rattle.std.specs.List.{filter, flat_map}
use Rattle.codec_forms.specs.Wire.{be, enc_many}
use Rattle.base_coin_string.specs.CoinList.{coins_in, coin_listb}
use Rattle.book.specs.Model.{Book}
use Rattle.book.specs.declared.SubmittedTx.{SubmittedTx}
use Rattle.book_coins.specs.Coins.{input_coins}
use Rattle.rules.specs.CoinLists.{rising_coins, encode_coin, encode_coins}
use Rattle.rules.specs.Rule.{undone}
use Rattle.rules.specs.Steps.{run_book}
use Rattle.rules.specs.Calls.Common.{writing}
use Rattle.rules.specs.Calls.ReconciliationInputCoins.{is_reconciled, input_coins_to_reconcile, reconciliation_input_coins}
use Rattle.part_coin_lists.specs.declared.Coins64.{Coins64}
use Rattle.part_coin_lists.specs.Coins.{coins_of, insert_all, InsertedInputs, rising_none}
use Rattle.part_coin_lists.specs.ListLaws.{fold_append}
use Rattle.part_coin_lists.specs.Writing.{encode_coins_lem}
use Rattle.part_written_answers.specs.Answers.{let_in, turned_away_lem}
use Rattle.book.specs.declared.refusal.Refusal.TheVariants as refusals

abbrev pub inputs_of : SubmittedTx → List (List ℕ)
inputs_of t = input_coins t.entry.intent.base_bundle

-- a submission's input coins among those in s, if it is to be reconciled
pub record Gathered (outputs : List (List ℕ)) (t : SubmittedTx) (s r : Coins64) : Type 0 where
  pub is : coins_of r ≡ cond (is_reconciled outputs t.entry) (insert_all (coins_of s) (inputs_of t)) (coins_of s)
  pub few : r.count ≤ s.count + 4

-- r holds the coins w
pub record InputsOf (w : List (List ℕ)) (r : Coins64) : Type 0 where
  pub is : coins_of r ≡ w
  pub few : r.count ≤ 64

pub gathered_none : {outputs : List (List ℕ)} (t : SubmittedTx) (s : Coins64) → is_reconciled outputs t.entry ≡ false → Gathered outputs t s s
gathered_none t s e = record { is = sym (ap (λ (p : Bool). cond p (insert_all (coins_of s) (inputs_of t)) (coins_of s)) e); few = omega arith }

pub gathered_some : {outputs : List (List ℕ)} (t : SubmittedTx) {s r : Coins64} → is_reconciled outputs t.entry ≡ true → InsertedInputs t.entry.intent.base_bundle s r → Gathered outputs t s r
gathered_some t {s} e q = record { is = q.is ∙ sym (ap (λ (p : Bool). cond p (insert_all (coins_of s) (inputs_of t)) (coins_of s)) e); few = q.few }

-- ---- the loop: acc holds what is passed, and ts are left of what makes w
pub record Gathering (w : List (List ℕ)) (outputs : List (List ℕ)) (acc : Coins64) (ts : List SubmittedTx) : Type 0 where
  pub is : insert_all (coins_of acc) (flat_map inputs_of (filter (λ t. is_reconciled outputs t.entry) ts)) ≡ w

pub gathering_start : (outputs : List (List ℕ)) (ts : List SubmittedTx) {acc : Coins64} → coins_of acc ≡ [] → Gathering (rising_coins (flat_map inputs_of (filter (λ t. is_reconciled outputs t.entry) ts))) outputs acc ts
gathering_start outputs ts e = record {
  is = ap (λ (l : List (List ℕ)). insert_all l (flat_map inputs_of (filter (λ t. is_reconciled outputs t.entry) ts))) e ∙ rising_none (flat_map inputs_of (filter (λ t. is_reconciled outputs t.entry) ts));
}

one_more : (p : Bool) (acc : List (List ℕ)) (t : SubmittedTx) (ts : List SubmittedTx) → insert_all (cond p (insert_all acc (inputs_of t)) acc) (flat_map inputs_of ts) ≡ insert_all acc (flat_map inputs_of (cond p (t ∷ ts) ts))
one_more true acc t ts = sym (fold_append _ acc (inputs_of t) (flat_map inputs_of ts))
one_more false acc t ts = refl

module _ {w outputs : List (List ℕ)} {acc : Coins64} {ts : List SubmittedTx} (h : Gathering w outputs acc ts) where
  pub gathering_turn : {r : Coins64} {t : SubmittedTx} {ts' : List SubmittedTx} → ts ≡ t ∷ ts' → Gathered outputs t acc r → Gathering w outputs r ts'
  gathering_turn {r} {t} {ts'} e q =
      let rest = filter (λ t. is_reconciled outputs t.entry) ts' in
      record {
        is = ap (λ (l : List (List ℕ)). insert_all l (flat_map inputs_of rest)) q.is
            ∙ one_more (is_reconciled outputs t.entry) (coins_of acc) t rest
            ∙ sym (ap (λ (l : List SubmittedTx). insert_all (coins_of acc) (flat_map inputs_of (filter (λ t. is_reconciled outputs t.entry) l))) e) ∙ h.is;
      }

  pub gathering_done : ts ≡ [] → coins_of acc ≡ w
  gathering_done e = sym (ap (λ (l : List SubmittedTx). insert_all (coins_of acc) (flat_map inputs_of (filter (λ t. is_reconciled outputs t.entry) l))) e) ∙ h.is

pub to_reconcile : (outputs : List (List ℕ)) (m : Book) → rising_coins (flat_map inputs_of (filter (λ t. is_reconciled outputs t.entry) m.submitted)) ≡ input_coins_to_reconcile outputs m
unfolding input_coins_to_reconcile
to_reconcile outputs m = refl

-- ---- the answers
module _ (outputs : List ℕ) (room : ℕ) (m : Book) where
  pub inputs_bad : coin_listb outputs ≡ false → run_book (reconciliation_input_coins outputs room) m ≡ undone refusals.BadList
  unfolding reconciliation_input_coins
  inputs_bad e = turned_away_lem (λ b. writing room (encode_coins (input_coins_to_reconcile (coins_in outputs) b))) m e

  pub inputs_good : {count : ℕ} {coins : List ℕ} → coin_listb outputs ≡ true → count ≡ length (input_coins_to_reconcile (coins_in outputs) m) → coins ≡ enc_many encode_coin (input_coins_to_reconcile (coins_in outputs) m)
      → run_book (writing room (be 2 count ++ coins)) m ≡ run_book (reconciliation_input_coins outputs room) m
  unfolding reconciliation_input_coins
  inputs_good e c l =
      (λ j. run_book (writing room (be 2 (c j) ++ l j)) m) ∙ ap (λ (s : List ℕ). run_book (writing room s) m) (encode_coins_lem (input_coins_to_reconcile (coins_in outputs) m))
      ∙ sym (let_in (λ b. writing room (encode_coins (input_coins_to_reconcile (coins_in outputs) b))) m e)
