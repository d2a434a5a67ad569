use lib.Seq.{take-suc}
use native.Mathlib.Numerals.{add-one}
use Rattle.base_coin_string.specs.Coin.{cell_of, coin_of_parts}
use Rattle.book.specs.declared.Output.{Output}
use Rattle.book_coins.specs.Coins.{output_coin}
use Rattle.book_coins.specs.Laws.{no_output, output_at}
use Rattle.book_coins.specs.Outputs.{Laid, laid_none, laid_turn}
use native.Mathlib.Omega.{arith}
use mathlib.Core.Path.{◌≡◌, refl, ap, ◌∙◌, subst}
use mathlib.Core.List.{List}
use Prim.Native.Nat.{ℕ}
use lib.ListN.{take}
use Rattle.book_coins.proofs.push_outputs.Goals as goal

pub loop-j-init : goal.loop-j-init
loop-j-init c = (omega arith, laid_none c.args.s c.args.o.now)

pub loop-j-preserved : goal.loop-j-preserved
unfolding output_coin
loop-j-preserved c =
    let outs = c.output_count-j-end in let s = c.args.s in let j = c.loop-j.j in let o = output_at s j in (
      omega (arith, c.loop-j.invariant.0),
      laid_turn o c.loop-j.invariant.1
          (ap (λ (k : ℕ). take k s.outputs) (add-one j) ∙ take-suc s.outputs j no_output (omega (arith, outs.ensures.most, outs.ensures.long)))
          (omega (arith, outs.ensures.most, c.loop-j.invariant.0))
          (c.output_coin.ensures.is ∙ ap (λ (p : List ℕ). cell_of (coin_of_parts p o.puzzle_hash o.amount)) c.input_coin_id-parent.ensures) refl,
    )

pub returns : goal.returns
returns c =
    let outs = c.output_count-j-end in let s = c.args.s in let e : c.loop-j.j ≡ outs.result = omega arith in
    record {
      laid = subst (λ (os : List Output). Laid s c.args.o.now c.loop-j.o os) (ap (λ (k : ℕ). take k s.outputs) e ∙ outs.ensures.used) c.loop-j.invariant.1;
      few = omega (arith, c.loop-j.invariant.0, outs.ensures.most);
    }
