-- The archive of the held book within lent bytes: behind its length; no bytes where no book is held.
use Rattle.std.specs.Prelude.{ℕ, suc, ◌+◌, ◌-◌, ◌≤◌, ◌<◌, ◌≡◌, refl, Bool, true, not, List, [], ◌∷◌, leb, length, get_or, take, drop}
use Rattle.std.proofs.Common.{arith, Fits, w8}
use Rattle.std.specs.Prelude.{None}
use Rattle.codec_forms.specs.Wire.{number}
use Rattle.codec_cursor.specs.Cursor.{far, Reads}
use Rattle.book.specs.Typed.{Every, U8}
use Rattle.archive_form.specs.Parse.{read_archive, broken}
use Rattle.archive_read.specs.Archive.{archive_answer}
use Rattle.archive_read.specs.declared.ReadArchive.{ReadArchive}
use Rattle.c_boundary.specs.Held.{held_in, HeldAnswer, nothing_held, held_short, held_cut, held_read}

-- what the type of lent bytes says of each
pub every_byte : (s : List ℕ) → ((i : ℕ) → Fits w8 (get_or s i 0)) → Every U8 s
every_byte [] h = tt
every_byte (x ∷ s) h = let b : Fits w8 x = h 0 in (omega (arith, b), every_byte s (λ i. h (suc i)))

pub data PartAnswer (d : List ℕ) : List ℕ → Type 0 where
  no_part : held_in d ≡ None → PartAnswer d []
  part : (v a : ℕ) → Reads (number 8) d 0 v a → a < far → a + v ≤ length d → PartAnswer d (take (a + v - a) (drop a d))

module _ (d : List ℕ) where
  pub part_short : {v a : ℕ} → Reads (number 8) d 0 v a → far ≤ a → PartAnswer d []
  part_short h q = no_part ((held_short d (archive_answer (broken 0)) h q refl).absent refl)

  pub part_cut : {v a : ℕ} {room : Bool} → Reads (number 8) d 0 v a → a < far → room ≡ leb (a + v) (length d) → not room ≡ true → PartAnswer d []
  part_cut h q m n = no_part ((held_cut d (archive_answer (broken 0)) h q m n refl).absent refl)

  pub held_part : {s : List ℕ} (r : ReadArchive) → Every U8 d → PartAnswer d s → r ≡ archive_answer (read_archive s) → HeldAnswer d r
  held_part r t (no_part h) e = record {
    absent = λ _. h;
    present = λ p. absurd (let f = nothing_held e in let z : ◌≡◌ {A = ℕ} 0 1 = cc in omega arith);
  }
  held_part r t (part v a h q m) e = held_read d r t h q m e
