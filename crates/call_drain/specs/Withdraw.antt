-- A removal and its retirement on the cells.
use Rattle.std.specs.Prelude.{ℕ, ◌≤◌, Bool, not, cond, ◌≡◌, refl, eqb, length, Result, Ok, Err}
use Rattle.std.proofs.Math.Path.{ap}
use Rattle.std.proofs.Common.{◌∙◌, arith}
use mathlib.Core.List.{List}
use Rattle.std.proofs.Math.Dec.{ltb}
use borrow.Author.Tests.{le-ltb}
use Rattle.base_lists.specs.Lists.{push_new}
use Rattle.base_lists.specs.Laws.{filter_length}
use Rattle.book.specs.Model.{Book, view, back}
use Rattle.book.specs.Sound.{id_of}
use Rattle.book.specs.SoundLaws.{Fits}
use Rattle.book.specs.declared.BookData.{BookData}
use Rattle.rules.specs.Keyed.{without}
use Rattle.rules.specs.Rule.{retire}
use Rattle.rules.specs.Steps.{note_book, remove_book}
use Rattle.rules.specs.Steps.Notes.{is_id, unqueued, unreplayed, forgotten}
use Rattle.part_lookup.specs.Normal.{Normal, view_of, normal_of}
use Rattle.part_change.specs.Changes.{retiring}
use Rattle.book.specs.declared.refusal.Refusal.{Refusal}
use Rattle.book.specs.declared.refusal.Refusal.TheVariants as refusals

removed_fits : (i : ℕ) (m : Book) → Fits m → Fits (remove_book i m)
unfolding remove_book forgotten without unqueued unreplayed
removed_fits i m f = record {
  submitted = omega (arith, filter_length (λ t. not (eqb (id_of t) i)) m.submitted, f.submitted);
  pending = omega (arith, filter_length (λ d. not (is_id i d.intent.id)) m.pending, f.pending);
  retired = f.retired;
  replayed = omega (arith, filter_length (λ j. not (eqb j i)) m.replayed, f.replayed);
}

kept_retired : (i : ℕ) (m : Book) → (remove_book i m).retired ≡ m.retired
unfolding remove_book forgotten
kept_retired i m = refl

module _ (b : BookData) (i : ℕ) (h : Normal b) where
  pub removed_normal : {k : BookData} → k ≡ back (remove_book i (view b)) → Normal k
  removed_normal e = normal_of (remove_book i (view b)) e (removed_fits i (view b) h.fits)

  pub withdrawn_is : length (push_new (view b).retired i) ≤ 64 → {k : BookData} → k ≡ back (remove_book i (view b)) → {r : Result BookData Refusal} → r ≡ retiring i (view k)
      → r ≡ Ok (back (note_book (retire i) (remove_book i (view b))))
  unfolding retiring
  withdrawn_is l {k} e {r} q =
      q
      ∙ ap (retiring i) (view_of (remove_book i (view b)) e)
      ∙ ap (λ (u : Bool). cond u (Err refusals.Full) (Ok (back (note_book (retire i) (remove_book i (view b))))))
      (ap (λ (is : List ℕ). ltb 64 (length (push_new is i))) (kept_retired i (view b)) ∙ le-ltb 64 (length (push_new (view b).retired i)) l)
