-- A sound book is what its lists say, so the reply with it is that of the outcome with them.
use Rattle.std.specs.Prelude.{◌≡◌, Result, Ok, Err}
use Rattle.std.proofs.Common.{sym, ap, ◌∙◌}
use Rattle.book.specs.Model.{id_cells}
use Rattle.book.specs.SoundLaws.{back_view}
use Rattle.book.specs.declared.BookData.{BookData}
use Rattle.book.specs.declared.refusal.Refusal.{Refusal}
use Rattle.book.specs.declared.sound.SoundBook.{SoundBook}
use Rattle.part_replies.specs.Reply.{reply, reply_by, outcome_by}
use Rattle.part_replies.specs.declared.Reply.{Reply}
use Rattle.std.proofs.Math.Path.{refl}

pub settled_ok : {A : Type 0} (b : BookData) (v : A) (q : SoundBook) → record { answer = Ok v; book = q.parts } ≡ reply b (outcome_by v (Ok q))
settled_ok {A} b v q = ap {B = Reply A BookData} (λ (x : BookData). record { answer = Ok v; book = x }) (sym (back_view q.parts q.sound))

-- the value made into the code's before or behind the outcome
pub settled_by : {A B : Type 0} (f : A → B) (b : BookData) (v : A) (o : Result SoundBook Refusal) → reply b (outcome_by (f v) o) ≡ reply_by f b (outcome_by v o)
settled_by f b v (Ok q) = refl
settled_by f b v (Err n) = refl
