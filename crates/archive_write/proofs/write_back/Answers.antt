-- Each section goes into the rest of the buffer, and what is written so far is joined with it (`fits_both`).
use Rattle.codec_append.specs.Fits.{fits_as, rest_starts, fits_both}
use Rattle.archive_write.specs.Sections.{ids_cut}
use borrow.Author.Rules.{rules}
use native.Mathlib.Omega.{arith}
use Rattle.archive_write.proofs.write_back.Goals as goal

pub slice_bounds-append_height-count : goal.slice_bounds-append_height-count
slice_bounds-append_height-count c = rest_starts c.write_ids-at.ensures

pub slice_bounds-append_height-start : goal.slice_bounds-append_height-start
slice_bounds-append_height-start c = rest_starts c.write_ids-at.ensures

pub overflow_add-next : goal.overflow_add-next
overflow_add-next c = omega (arith, (fits_both c.write_ids-at.ensures _ c.append_height-rollback.ensures).inside (omega arith))

pub slice_bounds-write_ids-count : goal.slice_bounds-write_ids-count
slice_bounds-write_ids-count c = rest_starts (fits_both c.write_ids-at.ensures _ c.append_height-rollback.ensures)

pub slice_bounds-write_ids-start : goal.slice_bounds-write_ids-start
slice_bounds-write_ids-start c = rest_starts (fits_both c.write_ids-at.ensures _ c.append_height-rollback.ensures)

pub overflow_add-result : goal.overflow_add-result
overflow_add-result c = omega (arith, (fits_both (fits_both c.write_ids-at.ensures _ c.append_height-rollback.ensures) _ c.write_ids-last.ensures).inside (omega arith))

pub returns : goal.returns
returns c =
    let q = ids_cut 64 c.args.b.retired_submission_ids.count c.min-r.result c.args.b.retired_submission_ids.items (search rules) c.min-r.ensures in
    let p = ids_cut 16 c.args.b.replay_epoch.replayed_submission_ids.count c.min-p.result c.args.b.replay_epoch.replayed_submission_ids.items (search rules) c.min-p.ensures in
    fits_both (fits_both (fits_as q c.write_ids-at.ensures) _ c.append_height-rollback.ensures) _ (fits_as p c.write_ids-last.ensures)
