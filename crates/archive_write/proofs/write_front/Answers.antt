-- Each section goes into the rest of the buffer, and what is written so far is joined with it (`fits_both`).
use Rattle.std.proofs.Common.{arith, rules, ◌≡◌, length}
use Rattle.codec_append.specs.Fits.{rest_starts, fits_both}
use Rattle.archive_form.specs.Encode.{encode_submitted, encode_delivery}
use Rattle.archive_bundle_write.specs.Laws.{list_cut}
use Rattle.archive_write.proofs.write_front.Goals as goal

pub slice_bounds-append_list-count : goal.slice_bounds-append_list-count
slice_bounds-append_list-count c = rest_starts c.write_numbers-at.ensures

pub slice_bounds-append_list-start : goal.slice_bounds-append_list-start
slice_bounds-append_list-start c = rest_starts c.write_numbers-at.ensures

pub overflow_add-next : goal.overflow_add-next
overflow_add-next c = omega (arith, (fits_both c.write_numbers-at.ensures _ c.append_list-retained.ensures).inside (omega arith))

pub slice_bounds-append_list-count-2 : goal.slice_bounds-append_list-count-2
slice_bounds-append_list-count-2 c = rest_starts (fits_both c.write_numbers-at.ensures _ c.append_list-retained.ensures)

pub slice_bounds-append_list-start-2 : goal.slice_bounds-append_list-start-2
slice_bounds-append_list-start-2 c = rest_starts (fits_both c.write_numbers-at.ensures _ c.append_list-retained.ensures)

pub overflow_add-result : goal.overflow_add-result
overflow_add-result c = omega (arith, (fits_both (fits_both c.write_numbers-at.ensures _ c.append_list-retained.ensures) _ c.append_list-queue.ensures).inside (omega arith))

pub returns : goal.returns
returns c =
    let s : length c.args.b.submitted ≡ 16 = search rules in
    let d : length c.args.b.pending_deliveries ≡ 16 = search rules in
    let retained = list_cut encode_submitted 16 c.args.b.submitted_count c.args.b.submitted s c.min-n.ensures c.append_list-retained.ensures in
    let queue = list_cut encode_delivery 16 c.args.b.pending_count c.args.b.pending_deliveries d c.min-q.ensures c.append_list-queue.ensures in
    fits_both (fits_both c.write_numbers-at.ensures _ retained) _ queue
