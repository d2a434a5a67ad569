-- Done: the bytes cut out of the room are the form of the value; `c.requires.1.1.1` is the clause `appends`.
use Rattle.std.proofs.Common.{ap, sym, ◌∙◌, List, ℕ, length}
use Rattle.std.specs.Prelude.{Result}
use Rattle.book.specs.declared.refusal.Refusal.{Refusal}
use Rattle.codec_append.specs.Fits.{FitsWithin}
use Rattle.c_answer.specs.Answer.{answer_as, answer_in}
use Rattle.c_boundary.specs.Looks.{told_by}
use Rattle.c_boundary.specs.Settle.{coded}
use Rattle.c_write.specs.Made.{made}
use Rattle.c_write.proofs.tell_value.Goals as goal

pub returns-in-Ok : goal.returns-in-Ok
returns-in-Ok g c =
    let f : FitsWithin (length c.args.room.now) (g.form c.in-Ok.value) 0 c.args.room.now c.append-n.new.arg2 c.append-n.result = c.requires.1.1.1 _ _ _ _ _ c.append-n.ensures in
    answer_as (ap (λ (l : List ℕ). answer_in l c.args.answer.now) (made f) ∙ sym (ap (λ (x : Result (List ℕ) Refusal). told_by x c.args.answer.now) (ap (coded g.form) c.in-Ok.is))) c.put_answer.ensures
