-- A sound book in its cells, and the one that a step of the rules leaves.
use Rattle.std.specs.Prelude.{Bool, true, false, ◌&&◌, map, ◌≡◌, refl}
use Rattle.std.proofs.Common.{ap, sym, ◌∙◌}
use Rattle.base_lists.specs.Lists.{distinctb}
use Rattle.book.specs.declared.BookData.{BookData}
use Rattle.book.specs.Model.{Book, view, back}
use Rattle.book.specs.Sound.{id_of, soundb}
use Rattle.book.specs.SoundLaws.{SoundLists, sound_lists_lem, lists_sound, Fits, sound, fits_view, sound_back, back_view}
use Rattle.rules.specs.Rule.{done, Step, act, Outcome, logged, guarded, grows, full, run, left}
use Rattle.rules.specs.Steps.{on_book, run_book}
use Rattle.rules_laws.specs.Sound.Run.{SoundBook, sound_left}
use Rattle.part_lookup.specs.Normal.{Normal, view_of, normal_of}

pub record Holds (b : BookData) (m : Book) : Type 0 where
  pub cells : b ≡ back m
  pub sound : SoundBook m

pub holds_sound : (b : BookData) → soundb b ≡ true → Holds b (view b)
holds_sound b h =
    let s = sound b h in
    record { cells = sym (back_view b h); sound = record { lists = lists_sound (view b) s.lists; fits = fits_view b s } }

-- a step that does not make the book full leaves a sound one
pub sound_stepped : (p : Step) (m : Book) → SoundBook m → (grows p && full (on_book p m).after) ≡ false → SoundBook (on_book p m).after
unfolding run
sound_stepped p m h e =
    let s = sound_left (act p (done true)) m h in
    rw (ap (λ (t : Bool). left m (guarded t (logged (on_book p m).out (run_book (done true) (on_book p m).after)))) e) at s

module _ {b : BookData} {m : Book} (h : Holds b m) where
  pub holds_view : view b ≡ m
  holds_view = view_of m h.cells

  pub holds_normal : Normal b
  holds_normal = normal_of m h.cells h.sound.fits

  pub holds_lists : SoundLists m
  holds_lists = sound_lists_lem m h.sound.lists

  pub holds_soundb : soundb b ≡ true
  holds_soundb = ap soundb h.cells ∙ sound_back m h.sound.fits h.sound.lists

  -- the book after a step, as an operation on cells gives it
  pub holds_step : (p : Step) → (grows p && full (on_book p m).after) ≡ false → {r : BookData} → r ≡ back (on_book p (view b)).after → Holds r (on_book p m).after
  holds_step p e q = record {
    cells = q ∙ ap (λ (n : Book). back (on_book p n).after) holds_view;
    sound = sound_stepped p m h.sound e;
  }

  -- the same for a step that makes no list longer
  pub holds_quiet : (p : Step) → grows p ≡ false → {r : BookData} → r ≡ back (on_book p (view b)).after → Holds r (on_book p m).after
  holds_quiet p e q = holds_step p (ap (λ (t : Bool). t && full (on_book p m).after) e) q
