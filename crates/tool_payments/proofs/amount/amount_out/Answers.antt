-- The spends of the bundle are what `add_spends` adds.
use Rattle.std.proofs.Common.{◌≡◌, ◌∙◌, ap, rules, length, take, min, List, ℕ}
use Rattle.std.specs.List.{fold, flat_map}
use Rattle.base_lists.specs.Laws.{take_cut}
use Rattle.book.specs.declared.CoinSpend.{CoinSpend}
use Rattle.tool_payments.specs.Amount.{add_amount, sum_of, amounts_of, amount_out}
use Rattle.tool_payments.specs.Laws.{fold_parts}
use Rattle.tool_payments.proofs.amount.amount_out.Goals as goal

pub returns : goal.returns
unfolding amount_out
returns c =
    let b = c.args.b in
    let l : length b.spends ≡ 4 = search rules in
    let q = take_cut 4 b.count c.min-n.result b.spends l (c.min-n.ensures ∙ ap (λ (n : ℕ). min n 4) c.from.ensures) in
    c.add_spends.ensures
    ∙ fold_parts add_amount amounts_of (sum_of 0) (take c.min-n.result b.spends)
    ∙ ap (λ (l : List CoinSpend). fold add_amount (sum_of 0) (flat_map amounts_of l)) q
