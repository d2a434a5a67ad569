-- No room: 12. Else the bytes of the book over the old ones: its length, and the archive into the rest.
use Rattle.c_boundary.specs.Settle.{back_short, back_done}
use Rattle.c_write.specs.Laid.{number_room, behind_number, book_laid}
use Rattle.c_write.proofs.put_back.Goals as goal

pub returns-then-book-n : goal.returns-then-book-n
returns-then-book-n c = back_short _ _ _ _ c.size_archive-n.ensures.is c.if-book-n.true

pub put_number-at-requires : goal.put_number-at-requires
put_number-at-requires c = number_room _ _ _ c.size_archive-n.ensures.is c.if-book-n.false

pub slice_bounds-write_book-count : goal.slice_bounds-write_book-count
slice_bounds-write_book-count c = behind_number _ _ _ c.size_archive-n.ensures.is c.if-book-n.false c.put_number-at.ensures

pub slice_bounds-write_book-start : goal.slice_bounds-write_book-start
slice_bounds-write_book-start c = behind_number _ _ _ c.size_archive-n.ensures.is c.if-book-n.false c.put_number-at.ensures

pub returns : goal.returns
returns c = back_done _ _ _ _ c.size_archive-n.ensures.is c.if-book-n.false (book_laid _ _ _ c.size_archive-n.ensures.is c.if-book-n.false c.put_number-at.ensures c.write_book.ensures)
