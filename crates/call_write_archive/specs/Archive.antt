-- `write_archive`: what the writer of archives answers is what the rules say.
use Rattle.std.proofs.Math.Path.{◌≡◌, refl, sym}
use Rattle.std.proofs.Common.{◌∙◌, leb-true, leb-false}
use Rattle.std.specs.Prelude.{Bool, Result, Ok, Err, List, ℕ}
use Rattle.std.proofs.Math.Bool.{true, false}
use Rattle.std.proofs.Math.Dec.{leb}
use Rattle.std.proofs.Math.ListN.{length}
use Rattle.codec_forms.specs.Wire.{pick, overlay}
use Rattle.book.specs.Model.{Book, view}
use Rattle.book.specs.Sound.{soundb}
use Rattle.book.specs.SoundLaws.{back_view}
use Rattle.book.specs.declared.BookData.{BookData}
use Rattle.book.specs.declared.refusal.Refusal.{Refusal}
use Rattle.book.specs.declared.refusal.Refusal.TheVariants as refusals
use Rattle.archive_form.specs.Encode.{encode_model, encode_book}
use Rattle.archive_write_checked.specs.Answer.{write_answer, left_in}
use Rattle.rules.specs.Rule.{run}
use Rattle.rules.specs.Steps.{run_book}
use Rattle.rules.specs.Calls.Common.{writing}
use Rattle.rules.specs.Calls.WriteArchive.{write_archive}
use Rattle.part_written_answers.specs.Answers.{Answers, answers_as, refused_is, writes, too_short}

writes_archive : (room : ℕ) (m : Book) → run_book (write_archive encode_model room) m ≡ run_book (writing room (encode_model m)) m
unfolding run write_archive
writes_archive room m = refl

-- the writer's answer for a sound book, with the book as it was
module _ (b : BookData) (h : soundb b ≡ true) (d : List ℕ) where
  rules : run_book (write_archive encode_model (length d)) (view b) ≡ run_book (writing (length d) (encode_book b)) (view b)
  unfolding encode_book
  rules = writes_archive (length d) (view b)

  pub archive_answers : {w : Result ℕ Refusal} {d' : List ℕ} → (w ≡ write_answer true d (encode_book b)) × (d' ≡ left_in true d (encode_book b)) → Answers b d d' (record { answer = w; book = b }) (run_book (write_archive encode_model (length d)) (view b))
  unfolding write_answer left_in
  archive_answers {w} {d'} a = go (leb (length (encode_book b)) (length d)) refl a.0 a.1
    where
      go : (t : Bool) → leb (length (encode_book b)) (length d) ≡ t → w ≡ pick t (Ok (length (encode_book b))) (Err refusals.ShortBuffer) → d' ≡ pick t (overlay (encode_book b) d) d
          → Answers b d d' (record { answer = w; book = b }) (run_book (write_archive encode_model (length d)) (view b))
      go true p x y =
          answers_as b d (sym (rules ∙ writes (length d) (encode_book b) (view b) (leb-true _ _ p))) ((λ j. record { answer = x j; book = sym (back_view b h) j }), y)
      go false p x y =
          let a = refused_is b d refusals.ShortBuffer (rules ∙ too_short (length d) (encode_book b) (view b) (leb-false _ _ p)) (λ j. record { answer = x j; book = b }) in
          (a.0, y ∙ a.1)
