-- A retirement in cells is the rules' step: refused 10 as a 65th, or the book with the id retired.
use Rattle.std.specs.Prelude.{Bool, true, false, cond, ◌≡◌, ℕ, ltb, length, Result, Ok, Err}
use Rattle.std.proofs.Math.Path.{refl, sym, ap}
use Rattle.std.proofs.Common.{◌∙◌}
use Rattle.std.proofs.lemmas.Option.{none-some, same_Some}
use Rattle.std.specs.Result.{result_ok, result_err}
use Rattle.base_lists.specs.Lists.{push_new}
use Rattle.book.specs.Model.{Book, back}
use Rattle.book.specs.SoundLaws.{Fits}
use Rattle.book.specs.declared.BookData.{BookData}
use Rattle.book.specs.declared.refusal.Refusal.{Refusal}
use Rattle.book.specs.declared.refusal.Refusal.TheVariants as refusals
use Rattle.rules.specs.Rule.{Rule, note, retire, act, undone, full}
use Rattle.rules.specs.Steps.{on_book, run_book, note_book}
use Rattle.part_change.specs.Changes.{retiring}
use Rattle.part_sound_laws.specs.Acts.{act_full, act_silent}
use Rattle.part_sound_laws.specs.Room.{full_retire}

-- a value or a refusal, by a test
module _ {A : Type 0} (r : Refusal) (x : A) where
  abbrev tried : Bool → Result A Refusal
  tried t = cond t (Err r) (Ok x)

  refused_when : (t : Bool) {s : Refusal} → tried t ≡ Err s → (t ≡ true) × (s ≡ r)
  refused_when true {s} e = (refl, same_Some s r (ap result_err (sym e)))
  refused_when false e = absurd (none-some x (sym (ap result_ok e)))

  passed_when : (t : Bool) {y : A} → tried t ≡ Ok y → (t ≡ false) × (y ≡ x)
  passed_when true {y} e = absurd (none-some y (ap result_ok e))
  passed_when false {y} e = (refl, same_Some y x (ap result_ok (sym e)))

module _ (i : ℕ) (m : Book) (f : Fits m) where
  abbrev over : Bool
  over = ltb 64 (length (push_new m.retired i))

  module _ {n : Refusal} (e : Err n ≡ retiring i m) where
    turned : (over ≡ true) × (n ≡ refusals.Full)
    unfolding retiring
    turned = refused_when refusals.Full _ over (sym e)

    pub retire_over : full (note_book (retire i) m) ≡ true
    retire_over = full_retire m f i ∙ turned.0

    pub retire_refused : n ≡ refusals.Full
    retire_refused = turned.1

    pub run_full : {A : Type 0} (r : Rule A) → run_book (act (note (retire i)) r) m ≡ undone n
    unfolding on_book
    run_full r = act_full (note (retire i)) r m retire_over ∙ ap undone (sym retire_refused)

  module _ {q : BookData} (e : Ok q ≡ retiring i m) where
    kept : (over ≡ false) × (q ≡ back (note_book (retire i) m))
    unfolding retiring
    kept = passed_when refusals.Full _ over (sym e)

    pub retire_limit : full (note_book (retire i) m) ≡ false
    retire_limit = full_retire m f i ∙ kept.0

    pub retire_book : q ≡ back (note_book (retire i) m)
    retire_book = kept.1

    pub run_retired : {A : Type 0} (r : Rule A) → run_book (act (note (retire i)) r) m ≡ run_book r (note_book (retire i) m)
    unfolding on_book
    run_retired r = act_silent (note (retire i)) r m retire_limit refl
