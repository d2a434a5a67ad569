-- Label, token, goal and the two fingerprints follow one another.
use Rattle.codec_append.specs.Fits.{fits_join}
use Rattle.tool_book_text.specs.Entries.{attempt_text}
use Rattle.tool_book_text.proofs.entry.append_attempt.Goals as goal

pub returns : goal.returns
unfolding attempt_text
returns c =
    fits_join (fits_join (fits_join (fits_join (fits_join c.append_bytes-label_end.ensures c.append_number_line-token_end.ensures) c.append_bytes-word_end.ensures)
    c.append_goal-goal_end.ensures) c.append_checked-drained_end.ensures) c.append_checked_optional.ensures
