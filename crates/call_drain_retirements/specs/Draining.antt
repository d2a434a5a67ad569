-- The reply that hands out the retired ids is that of the rules.
use Rattle.std.specs.Prelude.{true, ◌≡◌, Ok}
use Rattle.book.specs.declared.BookData.{BookData}
use Rattle.book.specs.Model.{view, back, id_list}
use Rattle.book.specs.Sound.{soundb}
use Rattle.rules.specs.Rule.{unretire_all, run}
use Rattle.rules.specs.Steps.{on_book, run_book, note_book}
use Rattle.rules.specs.Calls.DrainRetirements.{drain_retirements}
use Rattle.part_replies.specs.Reply.{ids_reply}
use Rattle.part_ids.specs.IdLaws.{ids_counted}
use Rattle.part_lookup.specs.Normal.{sound_normal, retired_are}

pub drain_is : (b : BookData) → soundb b ≡ true → {out : BookData} → out ≡ back (note_book unretire_all (view b))
    → record { answer = Ok b.retired_submission_ids; book = out } ≡ ids_reply b (run_book drain_retirements (view b))
unfolding drain_retirements run on_book view
drain_is b s f = λ i. record {
  answer = Ok (ids_counted b.retired_submission_ids (id_list b.retired_submission_ids) (retired_are b (sound_normal b s)) i);
  book = f i;
}
