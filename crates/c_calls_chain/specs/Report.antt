-- A chain report, with its lists and a flag that is a byte: one law for each return, in the order of the checks (1, 2, 3).
use Rattle.std.specs.Prelude.{ℕ, zero, suc, ◌≤◌, ◌<◌, ◌≡◌, refl, Bool, true, false, ◌&&◌, List, [], eqb, leb, length}
use Rattle.std.proofs.Common.{sym, ap, ◌∙◌, arith}
use Rattle.std.specs.Prelude.{None, Some}
use Rattle.base_coin_string.specs.CoinIds.{id_listb}
use Rattle.base_coin_string.specs.CoinList.{coin_listb}
use Rattle.book.specs.Model.{view}
use Rattle.book.specs.declared.BookData.{BookData}
use Rattle.rules.specs.Calls.ReconcileChainTerminality.{reconcile_chain_terminality}
use Rattle.rules.specs.Doors.{ids_ok}
use Rattle.rules.specs.Rule.{Rule}
use Rattle.rules.specs.Steps.{run_book}
use Rattle.part_replies.specs.Reply.{reply}
use Rattle.part_replies.specs.declared.Reply.{Reply}
use Rattle.book.specs.declared.refusal.Refusal.TheVariants as turned
use Rattle.c_boundary.specs.Arguments.{given, listed, flag_in, gives_book_undo, given_none, given_some, listed_not, listed_well}
use Rattle.c_boundary.specs.Forms.{no_form, gives_book_absent, reply_book, tells_nothing}
use Rattle.c_boundary.specs.Held.{held_in, Holding}
use Rattle.c_boundary.specs.Settle.{boundary, GivesBook, gives_book_as, finish, coded}

pub flag_over : (n : ℕ) → 1 < n → flag_in n ≡ None
flag_over zero h = absurd (omega arith)
flag_over (suc zero) h = absurd (omega arith)
flag_over (suc (suc n)) h = refl

pub flag_in_lem : (n : ℕ) → n ≤ 1 → flag_in n ≡ Some (eqb n 1)
flag_in_lem zero h = refl
flag_in_lem (suc zero) h = refl
flag_in_lem (suc (suc n)) h = absurd (omega arith)

pub lists_are : (observed spent ids : List ℕ) {x y t : Bool} → x ≡ coin_listb observed → y ≡ id_listb spent → (x && y && leb (length ids) 64) ≡ t
    → (coin_listb observed && id_listb spent && ids_ok ids) ≡ t
unfolding ids_ok
lists_are observed spent ids p q h = sym (λ j. p j && q j && leb (length ids) 64) ∙ h

-- the rules of the call behind its arguments: the lists, then the flag
abbrev pub report_lists : (observed spent ids : List ℕ) → Bool
report_lists observed spent ids = coin_listb observed && id_listb spent && ids_ok ids

abbrev pub flagged : (observed spent : List ℕ) (reorg : ℕ) (ids : List ℕ) → Rule (Unit {0})
flagged observed spent reorg ids = given (flag_in reorg) (λ f. reconcile_chain_terminality observed spent f ids)

abbrev pub reporting : (observed spent : List ℕ) (reorg : ℕ) (ids : List ℕ) → Rule (Unit {0})
reporting observed spent reorg ids = listed (report_lists observed spent ids) (flagged observed spent reorg ids)

module _ (d observed spent : List ℕ) (reorg : ℕ) (ids : List ℕ) where
  abbrev Reported : ℕ → List ℕ → Type 0
  Reported n d' = GivesBook (boundary no_form (reporting observed spent reorg ids) d []) n d'

  pub report_absent : held_in d ≡ None → Reported 1 d
  report_absent e = gives_book_absent no_form (reporting observed spent reorg ids) d e

  module _ (b : BookData) (h : Holding d b) where
    pub report_unlisted : report_lists observed spent ids ≡ false → Reported 2 d
    report_unlisted k = gives_book_undo turned.BadList no_form d b h (reporting observed spent reorg ids) (listed_not (flagged observed spent reorg ids) k)

    pub report_bad : report_lists observed spent ids ≡ true → 1 < reorg → Reported 3 d
    report_bad k e =
        gives_book_undo turned.BadValue no_form d b h (reporting observed spent reorg ids)
        (listed_well (flagged observed spent reorg ids) k ∙ given_none (λ (f : Bool). reconcile_chain_terminality observed spent f ids) (flag_over reorg e))

    pub report_done : {n : ℕ} {d' : List ℕ} (r : Reply (Unit {0}) BookData) → report_lists observed spent ids ≡ true → reorg ≤ 1
        → r ≡ reply b (run_book (reconcile_chain_terminality observed spent (eqb reorg 1) ids) (view b)) → GivesBook (finish (coded (λ _. []) r.answer) r.book d []) n d'
        → Reported n d'
    report_done r k e q g =
        let x = listed_well (flagged observed spent reorg ids) k ∙ given_some (λ (f : Bool). reconcile_chain_terminality observed spent f ids) (flag_in_lem reorg e) in
        gives_book_as (ap (λ (z : Rule (Unit {0})). boundary no_form z d []) (sym x))
        (reply_book tells_nothing d [] b h (reconcile_chain_terminality observed spent (eqb reorg 1) ids) q g)
