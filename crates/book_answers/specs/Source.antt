-- The source of a fee by its number: 0 not requested, 1 joined, 2 a join that failed, 3 failed.
use Rattle.std.specs.Prelude.{ℕ, zero, suc, ◌<◌, ◌≡◌, refl, Option, None, Some}
use Rattle.std.proofs.Common.{arith}
use Rattle.book_answers.specs.declared.SubmissionFeeSource.{SubmissionFeeSource}
use Rattle.book_answers.specs.declared.SubmissionFeeSource.TheVariants.{NotRequested, Joined, JoinFailed, Failed}

abbrev pub source_in : ℕ → Option SubmissionFeeSource
source_in zero = Some NotRequested
source_in (suc zero) = Some Joined
source_in (suc (suc zero)) = Some JoinFailed
source_in (suc (suc (suc zero))) = Some Failed
source_in (suc (suc (suc (suc n)))) = None

pub source_over : (n : ℕ) → 3 < n → source_in n ≡ None
source_over zero h = absurd (omega arith)
source_over (suc zero) h = absurd (omega arith)
source_over (suc (suc zero)) h = absurd (omega arith)
source_over (suc (suc (suc zero))) h = absurd (omega arith)
source_over (suc (suc (suc (suc n)))) h = refl
