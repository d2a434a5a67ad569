-- A length cut to 73 takes the same bytes of a 73-byte cell (`take_min`), so just the coins' bytes are ordered, by std's order (`order_is`).
use Rattle.base_lists.specs.Laws.{take_min}
use Rattle.base_coin_string.specs.Order.{order_of}
use Rattle.base_coin_string.specs.OrderLaws.{order_is}
use mathlib.Core.Path.{◌≡◌, ◌∙◌}
use lib.ListN.{length, take}
use borrow.Author.Rules.{rules}
use Rattle.base_coin_string.proofs.compare_coins.Goals as goal

pub returns : goal.returns
returns c =
    let a = c.args.a in let b = c.args.b in let l : length a.bytes ≡ 73 = search rules in let m : length b.bytes ≡ 73 = search rules in
    c.cmp.ensures ∙ order_is (take c.within-m.result a.bytes) (take c.within-n.result b.bytes) ∙ (λ j. order_of (take (c.within-m.ensures j) a.bytes)
    (take (c.within-n.ensures j) b.bytes)) ∙ (λ j. order_of (take_min 73 a.len a.bytes l j) (take_min 73 b.len b.bytes m j))
