-- Each item follows the one before it (`fits_join`).
use Rattle.base_lists.specs.Laws.{take_cut}
use Rattle.codec_append.specs.Fits.{fits_join, fits_as}
use Rattle.std.proofs.Common.{rules, ◌≡◌, length}
use Rattle.archive_bundle_write.proofs.write.append_coin.Goals as goal

pub returns : goal.returns
returns c =
    let l : length c.args.coin.now ≡ 73 = search rules in
    fits_join c.append_byte-e.ensures (fits_as (take_cut 73 c.args.n c.min-k.result c.args.coin.now l c.min-k.ensures) c.append_bytes.ensures)
