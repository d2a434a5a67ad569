-- The reply that hands out the height held is that of the rules.
use Rattle.std.specs.Prelude.{true, ◌≡◌}
use Rattle.std.proofs.Common.{sym}
use Rattle.book.specs.declared.BookData.{BookData}
use Rattle.std.specs.Prelude.{Option}
use Rattle.book.specs.declared.Height.{Height}
use Rattle.book.specs.Model.{view}
use Rattle.book.specs.Sound.{soundb}
use Rattle.book.specs.SoundLaws.{back_view}
use Rattle.rules.specs.Rule.{run}
use Rattle.rules.specs.Steps.{run_book}
use Rattle.rules.specs.Calls.Replay.{replay_rollback_height}
use Rattle.part_replies.specs.Reply.{reply}
use Rattle.std.specs.Prelude.{Ok}

pub height_is_lem : (b : BookData) → soundb b ≡ true → {x : Option Height} → x ≡ b.replay_epoch.rollback_height
    → record { answer = Ok x; book = b } ≡ reply b (run_book replay_rollback_height (view b))
unfolding replay_rollback_height run view
height_is_lem b s e = λ i. record { answer = Ok (e i); book = sym (back_view b s) i }
