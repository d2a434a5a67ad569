-- Heading, coin, digest and run follow one another; the parent of what the run makes is the coin's id.
use Rattle.codec_append.specs.Fits.{fits_join, fits_as}
use Rattle.tool_bundle_text.specs.Bundles.{run_text, spend_text}
use Rattle.std.proofs.Common.{ap, rules, ◌≡◌, ◌∙◌, length, min}
use Rattle.base_lists.specs.Laws.{take_cut}
use Rattle.tool_bundle_text.specs.Coins.{coin_text}
use mathlib.Core.List.{List}
use Prim.Native.Nat.{ℕ}
use Rattle.tool_bundle_text.proofs.bundle.append_spend.Goals as goal

pub returns : goal.returns
unfolding spend_text
returns c =
    let s = c.args.s in
    let l : length s.coin ≡ 73 = search rules in
    let q = ap coin_text (take_cut 73 s.coin_len c.min-coin_len.result s.coin l (c.min-coin_len.ensures ∙ ap (λ (n : ℕ). min n 73) c.from.ensures)) in
    fits_join (fits_join (fits_join c.append_number_line-heading_end.ensures (fits_as q c.append_coin-coin_end.ensures)) c.append_hex_line-digest_end.ensures)
    (fits_as (ap (λ (p : List ℕ). run_text p c.args.s.readable c.args.s.output_count c.args.s.outputs) c.to_coin_id-parent.ensures) c.append_run.ensures)
