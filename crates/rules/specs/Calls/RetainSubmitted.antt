-- `retain_submitted` "takes the ids to remove": those that are retained go, are retired rising, and are answered.
use Rattle.std.specs.Prelude.{ℕ, cond, List, map}
use Rattle.base_lists.specs.Lists.{elemb, rising}
use Rattle.std.specs.List.{filter}
use Rattle.book.specs.Model.{Book}
use Rattle.book.specs.Sound.{id_of}
use Rattle.rules.specs.Calls.Common.{withdraw_each}
use Rattle.rules.specs.Doors.{ids_ok}
use Rattle.rules.specs.Rule.{done, Rule, undo, ◌>>=◌, ◌>>◌, book}
use Rattle.book.specs.declared.refusal.Refusal.TheVariants as refusals

unfoldable pub to_remove : List ℕ → Book → List ℕ
to_remove is b = rising (filter (λ i. elemb i is) (map id_of b.submitted))

unfoldable pub retain_submitted : List ℕ → Rule (List ℕ)
unfolding ids_ok to_remove withdraw_each
retain_submitted is = cond (ids_ok is)
    (do
      b ← book
      withdraw_each (to_remove is b)
      done (to_remove is b))
    (undo refusals.BadList)
