-- What the door's answer says of a method's: refused by it, or the answer of the call's rules.
use Rattle.std.specs.Prelude.{◌≡◌, Result, Err, Ok}
use Rattle.std.proofs.Common.{ap, sym, ◌∙◌, subst}
use Rattle.book.specs.declared.BookData.{BookData}
use Rattle.book.specs.declared.refusal.Refusal.{Refusal}
use Rattle.book.specs.declared.sound.SoundBook.{SoundBook}
use Rattle.book.specs.Model.{Book, view}
use Rattle.rules.specs.Rule.{Rule, Outcome, undone}
use Rattle.rules.specs.Steps.{run_book}
use Rattle.part_replies.specs.Reply.{outcome_of}
use Rattle.part_door.specs.Door.{Opens, sound_open, door_shut}

-- what f makes of the outcome of the rules r on the book b, by the door's answer x
module _ {R A : Type 0} (b : BookData) (r : Rule R) (f : BookData → Outcome Book R → A) {x : Result SoundBook Refusal} (door : Opens b x) {y : A} where
  pub shut : {n : Refusal} → x ≡ Err n → y ≡ f b (undone n) → y ≡ f b (outcome_of b r)
  shut e h = h ∙ ap (f b) (sym (door_shut b r (subst (Opens b) e door)))

  pub opened : {q : SoundBook} → x ≡ Ok q → y ≡ f q.parts (run_book r (view q.parts)) → y ≡ f b (outcome_of b r)
  opened {q} e h = h ∙ ap (f q.parts) (sym (sound_open q.parts r q.sound)) ∙ ap (λ (c : BookData). f c (outcome_of c r)) (subst (Opens b) e door)
