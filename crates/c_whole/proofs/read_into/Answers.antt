-- Not an archive: 13 with its place. No room: 12. Else the archive's own bytes behind their length, which are those of its book.
use Rattle.c_whole.specs.Whole.{read_broken, read_short, number_room, archive_room, read_whole}
use Rattle.c_read.specs.Part.{every_byte}
use Rattle.c_whole.proofs.read_into.Goals as goal

pub returns-in-Err : goal.returns-in-Err
returns-in-Err c = read_broken _ _ _ c.walk_archive.ensures c.in-Err.is

pub returns-then-book-n : goal.returns-then-book-n
returns-then-book-n c = read_short _ _ _ c.walk_archive.ensures (every_byte _ c.type_inv.archive) c.in-Ok.is c.if-book-n.true

pub put_number-at-requires : goal.put_number-at-requires
put_number-at-requires c = number_room _ _ 0 c.walk_archive.ensures (every_byte _ c.type_inv.archive) c.in-Ok.is c.if-book-n.false

pub put_archive-requires : goal.put_archive-requires
put_archive-requires c = archive_room _ _ 0 c.walk_archive.ensures (every_byte _ c.type_inv.archive) c.in-Ok.is c.if-book-n.false c.put_number-at.ensures

pub returns-else-book-n : goal.returns-else-book-n
returns-else-book-n c =
    read_whole _ _ _ c.walk_archive.ensures (every_byte _ c.type_inv.archive) c.in-Ok.is c.if-book-n.false c.put_number-at.ensures
    c.put_archive.ensures
