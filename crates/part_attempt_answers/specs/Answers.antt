-- From the outcome of the rules to the answer of the code.
use Rattle.std.specs.Prelude.{Bool, true, false, not, List, [], ◌≡◌, refl, ℕ}
use Rattle.std.proofs.Common.{sym, ap, ◌∙◌}
use Rattle.base_lists.specs.Bytes.{eqs}
use Rattle.book.specs.Model.{Book, back}
use Rattle.book.specs.declared.BookData.{BookData}
use Rattle.book.specs.declared.SubmittedTx.{SubmittedTx}
use Rattle.rules.specs.Rule.{Rule, Outcome, ended}
use Rattle.rules.specs.Steps.{run_book}
use Rattle.part_replies.specs.Reply.{reply}
use Rattle.part_replies.specs.declared.Reply.{Reply}
use Rattle.std.specs.Prelude.{Ok}

-- a value, with the book that the code hands back
pub done_reply : {A : Type 0} (b : BookData) {out : BookData} {n : Book} (v : A) {o : Outcome Book A} → out ≡ back n → ended n [] v ≡ o → record { answer = Ok v; book = out } ≡ reply b o
done_reply {A} b v e q = ap {B = Reply A BookData} (λ (x : BookData). record { answer = Ok v; book = x }) e ∙ ap (reply b) q

not_not : (t : Bool) → not (not t) ≡ t
not_not true = refl
not_not false = refl

-- two byte runs that the code compared by `!=`
pub compared : {x y x' y' : List ℕ} {differ : Bool} (t : Bool) → differ ≡ not (eqs x y) → x ≡ x' → y ≡ y' → differ ≡ not t → eqs x' y' ≡ t
compared {x} {y} {x'} {y'} t e p q z =
    sym (ap (λ (u : List ℕ). eqs u y) p ∙ ap (eqs x') q) ∙ sym (not_not (eqs x y)) ∙ ap not (sym e ∙ z) ∙ not_not t

-- rules of the submission that was read
pub of_read : {A : Type 0} (f : SubmittedTx → Rule A) (m : Book) {s t : SubmittedTx} {o : Outcome Book A} → s ≡ t → o ≡ run_book (f s) m → o ≡ run_book (f t) m
of_read f m p e = e ∙ ap (λ (x : SubmittedTx). run_book (f x) m) p
