-- Judging one submission, and each in turn: paper 01, "Chain".
use Rattle.std.specs.Prelude.{◌≡◌, refl, Bool, true, false, ◌&&◌, ℕ, ◌+◌, ◌<◌, length, get_or, drop, map}
use Rattle.std.proofs.Math.Path.{sym, ap}
use Rattle.std.proofs.Common.{◌∙◌, subst}
use Rattle.std.proofs.Math.Bool.{cond}
use mathlib.Core.List.{List, []}
use Rattle.std.proofs.Math.Dec.{leb}
use Rattle.base_lists.specs.Lists.{elemb, distinctb}
use Rattle.base_lists.specs.Laws.{rest_step}
use Rattle.base_coin_string.specs.CoinIds.{id_listb, ids_in}
use Rattle.base_coin_string.specs.CoinList.{coins_in, coin_listb}
use Rattle.book.specs.Zero.{zero_submitted}
use Rattle.book.specs.Model.{Book}
use Rattle.book.specs.Sound.{id_of}
use Rattle.book.specs.SoundLaws.{sound_lists_lem}
use Rattle.book.specs.declared.SubmittedTx.{SubmittedTx}
use Rattle.book.specs.declared.SubmissionChainTerminality.TheVariants.{Landed}
use Rattle.rules.specs.Doors.{ids_ok}
use Rattle.rules.specs.Rule.{done, Rule, undo, look, Outcome, ended, undone, run, left}
use Rattle.rules.specs.Steps.{run_book}
use Rattle.rules.specs.Calls.ReconcileChainTerminality.{output_observed, input_spent, spent_as, halt, judge, judge_each, reconcile_chain_terminality}
use Rattle.rules_laws.specs.Sound.Run.{SoundBook}
use Rattle.part_sound_laws.specs.Outcomes.{Each, bind_turn, each_on}
use Rattle.call_reconcile_chain_terminality.specs.Halt.{reactivate_rule, Later, later_same, halt_later, reactivate_later}
use Rattle.book.specs.declared.refusal.Refusal.TheVariants as refusals

-- a test that was made of an element read, of the element as it stands in the list
pub test_of : {A : Type 0} (p : A → Bool) {x y : A} {t r : Bool} → x ≡ y → r ≡ p x → r ≡ t → p y ≡ t
test_of p e q h = sym (ap p e) ∙ sym q ∙ h

module _ (observed spent : List (List ℕ)) (reorg : Bool) (ids : List ℕ) where
  -- ---- one submission
  module _ (t : SubmittedTx) where
    judge_by : {o s r : Bool} → output_observed observed t.entry.intent ≡ o → input_spent spent t.entry.intent ≡ s → elemb (id_of t) ids ≡ r
        → cond o (halt (id_of t) Landed) (cond s (halt (id_of t) (spent_as reorg t.entry.state.status.chain_terminality)) (cond r (reactivate_rule (id_of t)) (done tt)))
        ≡ judge observed spent reorg ids t
    unfolding judge
    judge_by p q h = sym (λ j. cond (p j) (halt (id_of t) Landed) (cond (q j) (halt (id_of t) (spent_as reorg t.entry.state.status.chain_terminality)) (cond (h j) (reactivate_rule (id_of t)) (done tt))))

    pub judge_as : (m : Book) {o s r : Bool} → output_observed observed t.entry.intent ≡ o → input_spent spent t.entry.intent ≡ s → elemb (id_of t) ids ≡ r
        → run_book (judge observed spent reorg ids t) m ≡ run_book (cond o (halt (id_of t) Landed) (cond s (halt (id_of t) (spent_as reorg t.entry.state.status.chain_terminality)) (cond r (reactivate_rule (id_of t)) (done tt)))) m
    judge_as m p q h = ap (λ (r : Rule (Unit {0})). run_book r m) (sym (judge_by p q h))

  -- what is judged later is as it was
  pub judge_later : (m : Book) → SoundBook m → (k : ℕ) → k < length m.submitted → Later k m (left m (run_book (judge observed spent reorg ids (get_or m.submitted k zero_submitted)) m))
  unfolding run
  judge_later m s k within =
      subst (λ (r : Rule (Unit {0})). Later k m (left m (run_book r m))) (judge_by t refl refl refl)
      (go (output_observed observed t.entry.intent) (input_spent spent t.entry.intent) (elemb (id_of t) ids))
    where
      t : SubmittedTx
      t = get_or m.submitted k zero_submitted

      d : distinctb (map id_of m.submitted) ≡ true
      d = (sound_lists_lem m s.lists).ids

      go : (o p r : Bool) → Later k m (left m (run_book (cond o (halt (id_of t) Landed) (cond p (halt (id_of t) (spent_as reorg t.entry.state.status.chain_terminality)) (cond r (reactivate_rule (id_of t)) (done (tt {0}))))) m))
      go true p r = halt_later (id_of t) Landed m d k within refl
      go false true r = halt_later (id_of t) (spent_as reorg t.entry.state.status.chain_terminality) m d k within refl
      go false false true = reactivate_later m d k within
      go false false false = later_same k m

  -- ---- each in turn
  pub judges : Each (judge_each observed spent reorg ids) (judge observed spent reorg ids) tt
  unfolding judge_each
  judges = record {
    none = refl;
    more = λ t ts m. bind_turn (judge observed spent reorg ids t) (judge_each observed spent reorg ids ts) m;
  }

  -- w is what all come to, and what those from k on come to over the book so far
  pub left_turn : {w : Outcome Book (Unit {0})} (m : Book) → SoundBook m → (k : ℕ) → k < length m.submitted → {q : Book} → w ≡ run_book (judge_each observed spent reorg ids (drop k m.submitted)) m
      → run_book (judge observed spent reorg ids (get_or m.submitted k zero_submitted)) m ≡ ended q [] tt
      → (length q.submitted ≡ length m.submitted) × (w ≡ run_book (judge_each observed spent reorg ids (drop (k + 1) q.submitted)) q)
  left_turn m s k within {q} l e =
      let y = subst (λ (o : Outcome Book (Unit {0})). Later k m (left m o)) e (judge_later m s k within) in
      (y.count, each_on judges m l (rest_step m.submitted k zero_submitted within) e ∙ ap (λ (ts : List SubmittedTx). run_book (judge_each observed spent reorg ids ts) q) (sym y.later))

-- ---- the call's answers
module _ (observed spent : List ℕ) (reorg : Bool) (ids : List ℕ) (m : Book) where
  abbrev doors : Bool
  doors = coin_listb observed && id_listb spent && ids_ok ids

  pub lists_told : {c l t : Bool} → c ≡ coin_listb observed → l ≡ id_listb spent → (c && l && leb (length ids) 64) ≡ t → doors ≡ t
  unfolding ids_ok
  lists_told p q h = sym (λ j. p j && q j && leb (length ids) 64) ∙ h

  abbrev by_doors : Bool → Outcome Book (Unit {0})
  by_doors t = run_book (cond t (look (λ b. judge_each (coins_in observed) (ids_in spent) reorg ids b.submitted)) (undo refusals.BadList)) m

  pub reconcile_open : doors ≡ true → run_book (judge_each (coins_in observed) (ids_in spent) reorg ids m.submitted) m ≡ run_book (reconcile_chain_terminality observed spent reorg ids) m
  unfolding run reconcile_chain_terminality
  reconcile_open e = sym (ap by_doors e)

  pub reconcile_shut : doors ≡ false → undone refusals.BadList ≡ run_book (reconcile_chain_terminality observed spent reorg ids) m
  unfolding run reconcile_chain_terminality
  reconcile_shut e = sym (ap by_doors e)
