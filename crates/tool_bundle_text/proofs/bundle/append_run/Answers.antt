-- By the mark: the count and the outputs, or one line for an unreadable run.
use Rattle.codec_append.specs.Fits.{fits_join, fits_as}
use Rattle.std.proofs.Common.{sym, ap, rules, ◌≡◌, length}
use Rattle.base_lists.specs.Laws.{take_cut}
use Rattle.tool_text.specs.Each.{each_from}
use Rattle.std.proofs.lemmas.Bool.{cond-true, cond-false}
use Rattle.tool_bundle_text.specs.Bundles.{run_text, output_text}
use Rattle.tool_bundle_text.proofs.bundle.append_run.Goals as goal

pub returns-then-readable : goal.returns-then-readable
unfolding run_text
returns-then-readable c =
    let l : length c.args.a ≡ 4 = search rules in
    let q = ap (each_from (output_text c.args.parent) 0) (take_cut 4 c.args.n c.min.result c.args.a l c.min.ensures) in
    fits_as (sym (cond-true _ _ _ c.if-readable.true)) (fits_join c.append_number_line-count_end.ensures (fits_as q c.append_outputs.ensures))

pub returns-else-readable : goal.returns-else-readable
unfolding run_text
returns-else-readable c = fits_as (sym (cond-false _ _ _ c.if-readable.false)) c.append_bytes.ensures
