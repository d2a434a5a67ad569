-- Each section goes into the rest of the buffer, and what is written so far is joined with it (`fits_both`).
use Rattle.codec_append.specs.Fits.{fits_as, rest_starts, fits_both}
use Rattle.archive_write.specs.Sections.{book_form}
use native.Mathlib.Omega.{arith}
use Rattle.archive_write.proofs.write_book.Goals as goal

pub slice_bounds-write_back-count : goal.slice_bounds-write_back-count
slice_bounds-write_back-count c = rest_starts c.write_front-at.ensures

pub slice_bounds-write_back-start : goal.slice_bounds-write_back-start
slice_bounds-write_back-start c = rest_starts c.write_front-at.ensures

pub overflow_add-result : goal.overflow_add-result
overflow_add-result c = omega (arith, (fits_both c.write_front-at.ensures _ c.write_back-rest.ensures).inside (omega arith))

pub returns : goal.returns
returns c = fits_as (book_form c.args.b) (fits_both c.write_front-at.ensures _ c.write_back-rest.ensures)
