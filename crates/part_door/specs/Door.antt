-- The door of every call: what it answers of a book, and what that says of the rules behind it.
use Rattle.std.specs.Prelude.{Bool, true, false, cond, ◌≡◌, Result, Ok, Err}
use Rattle.std.proofs.Common.{ap, sym, ◌∙◌}
use Rattle.book.specs.declared.BookData.{BookData}
use Rattle.book.specs.declared.refusal.Refusal.{Refusal}
use Rattle.book.specs.declared.refusal.Refusal.TheVariants as refusals
use Rattle.book.specs.declared.sound.SoundBook.{SoundBook}
use Rattle.book.specs.Model.{Book, view}
use Rattle.book.specs.Sound.{soundb}
use Rattle.rules.specs.Rule.{Rule, Outcome, undone}
use Rattle.rules.specs.Steps.{run_book}
use Rattle.part_replies.specs.Reply.{outcome_of}

-- the book itself, whose type says that it is sound; or 1, the book is not sound
abbrev pub Opens : BookData → Result SoundBook Refusal → Type 0
Opens b (Ok q) = q.parts ≡ b
Opens b (Err n) = (soundb b ≡ false) × (n ≡ refusals.NoBook)

abbrev behind : {A : Type 0} → Rule A → Book → Bool → Outcome Book A
behind r m t = cond t (run_book r m) (undone refusals.NoBook)

module _ {A : Type 0} (b : BookData) (r : Rule A) where
  pub sound_open : soundb b ≡ true → outcome_of b r ≡ run_book r (view b)
  unfolding outcome_of
  sound_open e = ap (behind r (view b)) e

  pub door_shut : {n : Refusal} → Opens b (Err n) → outcome_of b r ≡ undone n
  unfolding outcome_of
  door_shut h = ap (behind r (view b)) h.0 ∙ ap undone (sym h.1)
