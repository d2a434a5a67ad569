-- Each item follows the one before it (`fits_join`).
use Rattle.std.proofs.Common.{rules, ◌≡◌, sym, append_assoc, length, take}
use Rattle.codec_forms.specs.Wire.{be, enc_many, enc_list}
use Rattle.codec_append.specs.Fits.{fits_join, fits_as}
use Rattle.archive_bundle_form.specs.Forms.{encode_output}
use Rattle.archive_bundle_write.specs.Laws.{list_cut}
use Rattle.archive_bundle_write.proofs.write.append_readable.Goals as goal

pub returns : goal.returns
unfolding enc_list
returns c =
    let l : length c.args.a.now ≡ 4 = search rules in
    let a = take c.args.n c.args.a.now in
    fits_as (sym (append_assoc (be 1 1) (be 1 (length a)) (enc_many encode_output a)))
    (fits_join c.append_byte-e.ensures (list_cut encode_output 4 c.args.n c.args.a.now l c.min-k.ensures c.append_list.ensures))
