-- Theorems on specs/Places.antt.
use Rattle.std.specs.Prelude.{◌≡◌, true, take}
use Rattle.std.proofs.Math.Path.{sym, ap}
use Rattle.std.proofs.Common.{◌∙◌, subst, zero-add, arith, take-append-drop}
use mathlib.Core.List.{List, ◌∷◌, ◌++◌}
use Prim.Native.Nat.{ℕ, zero-le}
use Rattle.std.proofs.Math.ListN.{length, drop, length-take}
use Rattle.codec_forms.specs.Wire.{Ans, and_then, end}
use Rattle.codec_forms.specs.Lawful.{Spans}
use Rattle.book.specs.Sound.{soundb}
use Rattle.book.specs.Model.{Book, view}
use Rattle.book.specs.Typed.{Typed}
use Rattle.book.specs.declared.BookData.{BookData}
use Rattle.archive_form.specs.Encode.{encode_book}
use Rattle.archive_laws.specs.Items.{Item, bytes_of, items_book}
use Rattle.archive_laws.specs.Stops.{Breaks, Stops}
use Rattle.archive_laws.proofs.Stops.{stops_here}
use Rattle.archive_laws.proofs.ItemLaws.{model_placed}
use Rattle.archive_form.specs.Parse.{parse_whole}
use Rattle.archive_form.specs.Parse.{read_archive, broken, archive_read}
use Rattle.archive_laws.specs.Places.{good}

module _ (b : BookData) (t : Typed b) (h : soundb b ≡ true) where
  -- the items are the archive
  pub items_whole : bytes_of (items_book b) ≡ encode_book b
  unfolding items_book encode_book
  items_whole = (model_placed (view b) (good b t h)).whole

  -- bytes that agree with an archive up to an item, and there are cut short or break the item's rule, are refused at the item's start
  pub refused_at_lem : (before : List Item) (x : Item) (after : List Item) → items_book b ≡ before ++ (x ∷ after)
      → (s : List ℕ) → take (length (bytes_of before)) s ≡ bytes_of before → Breaks x s (length (bytes_of before)) → read_archive s ≡ broken (length (bytes_of before))
  unfolding items_book read_archive parse_whole
  refused_at_lem before x after e s w c =
      let k = length (bytes_of before) in
      let l : length (take k s) ≡ k = ap length w in
      let spans : Spans s 0 k (bytes_of before) = record {
        ends = sym (zero-add k);
        inside = omega (arith, length-take k s);
        holds = sym (take-append-drop k s) ∙ ap (λ (y : List ℕ). y ++ drop k s) w;
      } in
      ap (λ (r : Ans Book). archive_read (and_then r (λ m e. end m s e)))
      ((model_placed (view b) (good b t h)).stops s 0 k zero-le (subst (λ (is : List Item). Stops is s 0 k) (sym e) (stops_here before x after s 0 k spans c)))
