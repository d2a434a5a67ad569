-- The live slot, and behind it the one set aside with the live token held.
use Rattle.archive_form.specs.Parse.{parse_slots}
use Rattle.archive_entry_read.specs.Entries.{first_slot}
use Rattle.codec_cursor.specs.Cursor.{reads_then, ends}
use Rattle.archive_entry_read.proofs.attempt.read_slots.Goals as goal

pub returns : goal.returns
unfolding parse_slots
returns c = reads_then _ (first_slot c.args.next.0 c.args.held.now c.zero-none.ensures c.read_slot-active_attempt.ensures) (reads_then _ c.read_slot-completed_attempt.ensures ends)
