-- Done: the bytes cut out of the room are the form of the value; `c.requires.1.1.1` is the clause `appends`.
use Rattle.std.proofs.Common.{ap, sym, ◌∙◌, List, ℕ, length}
use Rattle.std.specs.Prelude.{Result, Ok}
use Rattle.book.specs.declared.refusal.Refusal.{Refusal}
use Rattle.codec_append.specs.Fits.{FitsWithin}
use Rattle.c_boundary.specs.Settle.{coded, gives_done}
use Rattle.c_write.specs.Made.{made}
use Rattle.c_write.proofs.settle_value.Goals as goal

pub returns-in-Ok : goal.returns-in-Ok
returns-in-Ok g c =
    let f : FitsWithin (length c.args.room.now) (g.form c.in-Ok.value) 0 c.args.room.now c.append-n.new.arg2 c.append-n.result = c.requires.1.1.1 _ _ _ _ _ c.append-n.ensures in
    gives_done c.args.r.book c.args.book.now c.args.answer.now
    (ap (coded g.form) c.in-Ok.is ∙ ap {B = Result (List ℕ) Refusal} (λ (l : List ℕ). Ok l) (sym (made f))) c.put_both.ensures
