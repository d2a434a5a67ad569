-- What writing an archive answers, and what it leaves in the buffer. Paper 01: 1, book not sound; 12, buffer shorter than needed;
-- a refused call leaves the buffer, and bytes beyond a written answer stay.
use Rattle.std.specs.Prelude.{◌≡◌, refl, Bool, true, false, Result, Ok, Err, List, ℕ, ◌≤◌, ◌<◌, leb, length}
use Rattle.std.proofs.Common.{sym, ap, ◌∙◌, le-leb}
use Rattle.std.proofs.lemmas.Bool.{lt-leb}
use Rattle.codec_forms.specs.Wire.{pick, overlay}
use Rattle.codec_forms.specs.Puts.{Puts, puts_overlay}
use Rattle.book.specs.Refusals.{refusal_number}
use Rattle.book.specs.declared.refusal.Refusal.{Refusal}
use Rattle.book.specs.declared.refusal.Refusal.TheVariants as refusals

-- the answer for a buffer d and an archive l: 1, "book not sound"; 12, "buffer shorter than needed"
unfoldable pub write_answer : Bool → List ℕ → List ℕ → Result ℕ Refusal
write_answer sound d l = pick sound (pick (leb (length l) (length d)) (Ok (length l)) (Err refusals.ShortBuffer)) (Err refusals.NoBook)

-- paper 01's numbers of the two
unsound_number : refusal_number refusals.NoBook ≡ 1
unsound_number = refl

short_number : refusal_number refusals.ShortBuffer ≡ 12
short_number = refl

-- the buffer afterwards
unfoldable pub left_in : Bool → List ℕ → List ℕ → List ℕ
unfolding overlay
left_in sound d l = pick sound (pick (leb (length l) (length d)) (overlay l d) d) d

pub unsound : {s : Bool} (d l : List ℕ) → s ≡ false → (Err refusals.NoBook ≡ write_answer s d l) × (d ≡ left_in s d l)
unfolding write_answer left_in
unsound {s} d l e = (sym (ap (λ (b : Bool). write_answer b d l) e), sym (ap (λ (b : Bool). left_in b d l) e))

pub short : (d l : List ℕ) → length d < length l → (Err refusals.ShortBuffer ≡ write_answer true d l) × (d ≡ left_in true d l)
unfolding write_answer left_in
short d l h =
    let q = lt-leb (length l) (length d) h in
    (sym (ap (λ (b : Bool). pick b (Ok (length l)) (Err refusals.ShortBuffer)) q), sym (ap (λ (b : Bool). pick b (overlay l d) d) q))

pub whole : (d d' l : List ℕ) (n : ℕ) → length l ≤ length d → Puts l 0 d d' n → (Ok n ≡ write_answer true d l) × (d' ≡ left_in true d l)
unfolding write_answer left_in
whole d d' l n h p =
    let q = le-leb (length l) (length d) h in
    let o = puts_overlay p in (
      ap Ok o.0 ∙ sym (ap (λ (b : Bool). pick b (Ok (length l)) (Err refusals.ShortBuffer)) q),
      o.1 ∙ sym (ap (λ (b : Bool). pick b (overlay l d) d) q),
    )

-- a sound book's answer, and what is left, are those for the book's own mark
pub sound_answer : {s : Bool} (d l : List ℕ) {r : Result ℕ Refusal} {d' : List ℕ} → s ≡ true → (r ≡ write_answer true d l) × (d' ≡ left_in true d l) → (r ≡ write_answer s d l) × (d' ≡ left_in s d l)
sound_answer d l e h = (h.0 ∙ sym (ap (λ (b : Bool). write_answer b d l) e), h.1 ∙ sym (ap (λ (b : Bool). left_in b d l) e))
