-- What is put is the digest.
use Prim.Native.Nat.{ℕ}
use mathlib.Core.List.{List}
use mathlib.Core.Path.{ap}
use Rattle.c_answer.specs.Answer.{answer_as, answer_in}
use Rattle.c_answer.proofs.put_digest.Goals as goal

pub returns : goal.returns
returns c = answer_as (ap (λ (l : List ℕ). answer_in l c.args.digest.now) c.sha256-d.ensures) c.put_answer.ensures
