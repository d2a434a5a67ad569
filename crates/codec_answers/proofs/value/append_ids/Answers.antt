-- Straight code: the byte of the capped count, and behind it the numbers, as the form of an id list names them.
use Rattle.std.proofs.Common.{rules, ◌≡◌, ap, length}
use Rattle.codec_forms.specs.Wire.{be}
use Rattle.codec_append.specs.Fits.{fits_join, fits_as}
use Rattle.archive_bundle_write.specs.Laws.{each_cut}
use Rattle.codec_answers.specs.Forms.{encode_ids}
use Rattle.codec_answers.specs.Looks.{ids_most}
use Rattle.codec_answers.proofs.value.append_ids.Goals as goal

pub returns : goal.returns
unfolding encode_ids
returns c =
    let l : length c.args.ids.now.items ≡ 64 = search rules in
    record {
      fits = fits_join (fits_as (ap (be 1) c.min-k.ensures) c.append_byte-e.ensures) (each_cut (be 8) 64 c.args.ids.now.count c.args.ids.now.items l c.min-k.ensures c.append_each.ensures);
      few = ids_most c.args.ids.now l;
    }
