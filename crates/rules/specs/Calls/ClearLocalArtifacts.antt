-- `clear_local_artifacts`: every submission is removed and retired, rising; queue and replay epoch are cleared.
use Rattle.std.specs.Prelude.{map}
use Rattle.base_lists.specs.Lists.{rising}
use Rattle.book.specs.Sound.{id_of}
use Rattle.rules.specs.Calls.Common.{withdraw_each}
use Rattle.rules.specs.Rule.{unqueue_all, end_epoch, note, Rule, ◌>>=◌, ◌>>◌, book, step}

unfoldable pub clear_local_artifacts : Rule (Unit {0})
unfolding withdraw_each
clear_local_artifacts = do
  b ← book
  withdraw_each (rising (map id_of b.submitted))
  step (note unqueue_all)
  step (note end_epoch)
