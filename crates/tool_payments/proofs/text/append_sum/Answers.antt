-- By the test of the high part.
use Rattle.codec_append.specs.Fits.{fits_join, fits_as}
use Rattle.tool_payments.specs.Text.{sum_text}
use Rattle.tool_text.specs.Numbers.{decimal, padded}
use borrow.Author.Tests.{eq-eqb, ne_eqb}
use mathlib.Core.Bool.{Bool, cond}
use mathlib.Core.List.{◌++◌}
use mathlib.Core.Path.{sym, ap}
use Rattle.tool_payments.proofs.text.append_sum.Goals as goal

pub returns-then-s-eq0 : goal.returns-then-s-eq0
unfolding sum_text
returns-then-s-eq0 c =
    fits_as
    (sym (ap (λ (b : Bool). cond b (decimal c.args.s.low) (decimal c.args.s.high ++ padded 18 c.args.s.low)) (eq-eqb c.args.s.high 0 c.if-s-eq0.true))) c.append_decimal.ensures

pub returns : goal.returns
unfolding sum_text
returns c =
    fits_as
    (sym (ap (λ (b : Bool). cond b (decimal c.args.s.low) (decimal c.args.s.high ++ padded 18 c.args.s.low)) (ne_eqb c.args.s.high 0 c.if-s-eq0.false)))
    (fits_join c.append_decimal-high_end.ensures c.append_padded.ensures)
