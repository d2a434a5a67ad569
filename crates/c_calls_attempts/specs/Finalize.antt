-- Finalising with a source and a joined bundle that are bytes: one law for each return, in the order of the checks (1, 3).
use Rattle.std.specs.Prelude.{ℕ, ◌≤◌, ◌<◌, ◌≡◌, List}
use Rattle.std.proofs.Common.{sym, ap, ◌∙◌}
use Rattle.std.specs.Prelude.{Option, None, Some}
use Rattle.book.specs.Model.{view}
use Rattle.book.specs.declared.BookData.{BookData}
use Rattle.book.specs.declared.SpendBundle.{SpendBundle}
use Rattle.book_answers.specs.declared.FinalizedSubmission.{FinalizedSubmission}
use Rattle.book_answers.specs.declared.SubmissionFeeSource.{SubmissionFeeSource}
use Rattle.rules.specs.Calls.FinalizeAttempt.{finalize_attempt}
use Rattle.rules.specs.Rule.{Rule}
use Rattle.rules.specs.Steps.{run_book}
use Rattle.part_replies.specs.Reply.{reply}
use Rattle.part_replies.specs.declared.Reply.{Reply}
use Rattle.book.specs.declared.refusal.Refusal.TheVariants as turned
use Rattle.codec_answers.specs.Forms.{enc_option, encode_final}
use Rattle.c_boundary.specs.Arguments.{given, gives_undo, given_none, given_some}
use Rattle.c_boundary.specs.Forms.{final_form, gives_absent, reply_given, tells_final}
use Rattle.c_boundary.specs.Held.{held_in, Holding}
use Rattle.c_boundary.specs.Settle.{boundary, Gives, gives_as, finish, coded}
use Rattle.c_calls_attempts.specs.Source.{source_in, joined_in}

-- the rules of the call behind its arguments: the source, then the joined bundle
abbrev pub joining : (token source : ℕ) (joined : List ℕ) → SubmissionFeeSource → Rule (Option FinalizedSubmission)
joining token source joined s = given (joined_in source joined) (λ j. finalize_attempt token s j)

abbrev pub finalizing : (token source : ℕ) (joined : List ℕ) → Rule (Option FinalizedSubmission)
finalizing token source joined = given (source_in source) (joining token source joined)

module _ (d : List ℕ) (token source : ℕ) (joined a : List ℕ) where
  abbrev Finalized : ℕ → List ℕ → List ℕ → Type 0
  Finalized n d' a' = Gives (boundary final_form (finalizing token source joined) d a) n d' a'

  pub finalize_absent : held_in d ≡ None → Finalized 1 d a
  finalize_absent e = gives_absent final_form (finalizing token source joined) d a e

  module _ (b : BookData) (h : Holding d b) where
    pub source_bad : source_in source ≡ None → Finalized 3 d a
    source_bad e = gives_undo turned.BadValue final_form d a b h (finalizing token source joined) (given_none (joining token source joined) e)

    module _ {s : SubmissionFeeSource} (e : source_in source ≡ Some s) where
      pub joined_bad : joined_in source joined ≡ None → Finalized 3 d a
      joined_bad f =
          gives_undo turned.BadValue final_form d a b h (finalizing token source joined)
          (given_some (joining token source joined) e ∙ given_none (λ (j : SpendBundle). finalize_attempt token s j) f)

      pub finalize_done : {j : SpendBundle} {n : ℕ} {d' a' : List ℕ} {r : Reply (Option FinalizedSubmission) BookData}
          → joined_in source joined ≡ Some j → r ≡ reply b (run_book (finalize_attempt token s j) (view b))
          → Gives (finish (coded (enc_option encode_final) r.answer) r.book d a) n d' a' → Finalized n d' a'
      finalize_done {j} f q g =
          let y = given_some (joining token source joined) e ∙ given_some (λ (i : SpendBundle). finalize_attempt token s i) f in
          gives_as (ap (λ (x : Rule (Option FinalizedSubmission)). boundary final_form x d a) (sym y)) (reply_given tells_final d a b h (finalize_attempt token s j) q g)
