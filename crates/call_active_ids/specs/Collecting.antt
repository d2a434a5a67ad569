-- The ids of the Active submissions fit the answer, and the reply of that.
use Rattle.std.specs.Prelude.{true, ◌≡◌, Ok}
use Rattle.std.proofs.Common.{ap, ◌∙◌}
use Rattle.book.specs.declared.Ids.{Ids}
use Rattle.book.specs.Model.{id_list, id_cells, view}
use Rattle.book.specs.Sound.{soundb}
use Rattle.part_ids.specs.IdLaws.{list_is}
use Rattle.book.specs.declared.BookData.{BookData}
use Rattle.rules.specs.Rule.{run}
use Rattle.rules.specs.Steps.{run_book}
use Rattle.rules.specs.Calls.ActiveIds.{active_ids}
use Rattle.part_replies.specs.Reply.{ids_reply}
use Rattle.part_sound_laws.specs.Holds.{holds_sound}
use Rattle.call_active_ids.specs.Active.{active_in}

pub active_is : (b : BookData) → soundb b ≡ true → {found : Ids 16} → found ≡ id_cells 16 (active_in (view b).submitted) → {x : Ids 64} → x ≡ id_cells 64 (id_list found)
    → record { answer = Ok x; book = b } ≡ ids_reply b (run_book active_ids (view b))
unfolding active_ids run
active_is b s f e = λ i. record { answer = Ok ((e ∙ ap (id_cells 64) (list_is (active_in (view b).submitted) f)) i); book = (holds_sound b s).cells i }
