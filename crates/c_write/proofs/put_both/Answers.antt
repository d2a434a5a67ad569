-- No room for the book or for the answer: 12. Else both over the old bytes.
use Rattle.c_boundary.specs.Settle.{both_book_short, both_answer_short, both_done}
use Rattle.c_write.specs.Laid.{number_room, behind_number, book_laid}
use Rattle.c_write.proofs.put_both.Goals as goal

pub returns-then-book-n : goal.returns-then-book-n
returns-then-book-n c = both_book_short _ _ _ _ c.size_archive-n.ensures.is _ _ c.if-book-n.true

pub returns-then-answer-l : goal.returns-then-answer-l
returns-then-answer-l c = both_answer_short _ _ _ _ c.size_archive-n.ensures.is _ _ c.if-book-n.false c.if-answer-l.true

pub put_number-at-requires : goal.put_number-at-requires
put_number-at-requires c = number_room _ _ _ c.size_archive-n.ensures.is c.if-book-n.false

pub slice_bounds-write_book-count : goal.slice_bounds-write_book-count
slice_bounds-write_book-count c = behind_number _ _ _ c.size_archive-n.ensures.is c.if-book-n.false c.put_number-at.ensures

pub slice_bounds-write_book-start : goal.slice_bounds-write_book-start
slice_bounds-write_book-start c = behind_number _ _ _ c.size_archive-n.ensures.is c.if-book-n.false c.put_number-at.ensures

pub returns : goal.returns
returns c = both_done _ _ _ _ c.size_archive-n.ensures.is _ _ c.if-book-n.false c.if-answer-l.false (book_laid _ _ _ c.size_archive-n.ensures.is c.if-book-n.false c.put_number-at.ensures c.write_book.ensures) c.put_bytes.ensures
