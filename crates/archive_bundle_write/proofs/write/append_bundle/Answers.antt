-- Each item follows the one before it (`fits_join`).
use Rattle.codec_append.specs.Fits.{fits_join}
use Rattle.archive_bundle_form.specs.Forms.{encode_bundle, encode_spend}
use Rattle.archive_bundle_write.specs.Laws.{each_cut}
use Rattle.std.proofs.Common.{rules, ◌≡◌, length}
use Rattle.archive_bundle_write.proofs.write.append_bundle.Goals as goal

pub returns : goal.returns
unfolding encode_bundle
returns c =
    let l : length c.args.b.spends ≡ 4 = search rules in
    fits_join c.append_byte-e.ensures (each_cut encode_spend 4 c.args.b.count c.args.b.spends l c.min-n.ensures c.append_each.ensures)
