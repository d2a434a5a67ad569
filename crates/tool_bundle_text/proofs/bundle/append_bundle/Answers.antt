-- The line of the count and the spends behind it, joined by `fits_join`, are the text of the bundle.
use Rattle.codec_append.specs.Fits.{fits_join, fits_as}
use Rattle.std.proofs.Common.{ap, rules, ◌≡◌, length}
use Rattle.base_lists.specs.Laws.{take_cut}
use Rattle.tool_text.specs.Each.{each_from}
use Rattle.tool_bundle_text.specs.Bundles.{bundle_text, spend_text}
use Rattle.tool_bundle_text.proofs.bundle.append_bundle.Goals as goal

pub returns : goal.returns
unfolding bundle_text
returns c =
    let b = c.args.b in
    let l : length b.spends ≡ 4 = search rules in
    let q = ap (each_from spend_text 0) (take_cut 4 b.count c.min.result b.spends l c.min.ensures) in
    fits_join c.append_number_line-count_end.ensures (fits_as q c.append_spends.ensures)
