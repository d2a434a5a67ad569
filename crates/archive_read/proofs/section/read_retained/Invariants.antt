-- The submissions fill their cells, each with the ids and tokens of those before it in hand.
use Rattle.archive_form.specs.Parse.{parse_submitted}
use Rattle.book.specs.Zero.{zero_submitted}
use Rattle.codec_cursor.specs.Cells.{Filled}
use Rattle.archive_read.specs.Sections.{Seen}
use Rattle.archive_read.proofs.section.read_retained.Given as goal

abbrev pub invariant-loop-i : goal.invariant-loop-i
invariant-loop-i l = Filled 16 zero_submitted (parse_submitted l.next.0) l.s l.initial.at l.n l.items l.at l.i × Seen l.items l.ids l.tokens l.m l.i
