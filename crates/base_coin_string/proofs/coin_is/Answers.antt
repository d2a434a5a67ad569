-- A length cut to 73 takes the same bytes of a 73-byte cell (`take_min`), and `part` is the run compared with them.
use Rattle.base_lists.specs.Bytes.{eqs}
use Rattle.base_lists.specs.Laws.{take_min}
use mathlib.Core.Path.{◌≡◌, ap, ◌∙◌}
use Prim.Native.Nat.{◌-◌}
use lib.ListN.{length, take, drop}
use borrow.Author.Rules.{rules}
use Rattle.base_coin_string.proofs.coin_is.Goals as goal

pub returns : goal.returns
returns c =
    let s = c.args.s.now in let b = c.args.coin in let n = c.args.len in let l : length b ≡ 73 = search rules in
    c.eq.ensures ∙ (λ j. eqs (c.part.ensures j) (take (c.within-n.ensures j) b)) ∙ ap
    (eqs (take (c.args.to - c.args.from) (drop c.args.from s))) (take_min 73 n b l)
