-- The book in lent bytes. Today: 8 bytes of its archive's length, then the archive; the bytes behind are the caller's. The form is said by two
-- definitions alone, `book_bytes` (what is written) and `held_in` (what is read); that they agree is c_boundary_laws/Lent.
use Rattle.std.specs.Prelude.{ℕ, zero, suc, ◌+◌, ◌-◌, ◌^◌, ◌≤◌, ◌<◌, refl, Bool, true, false, not, get_or, leb}
use Rattle.std.proofs.Common.{zero-le, ◌∙◌}
use Rattle.std.proofs.Math.Path.{◌≡◌, sym, ap, subst}
use mathlib.Core.List.{List, [], ◌∷◌, ◌++◌}
use Rattle.std.specs.Prelude.{Option, None, Some}
use native.Mathlib.Omega.{arith}
use Rattle.std.proofs.Math.Nat.{zero-add}
use Rattle.std.proofs.Math.ListN.{length, take, drop}
use Rattle.codec_forms.specs.Wire.{Ans, got, bad, Parser, ◌>>=◌, be, number, run, overlay}
use Rattle.codec_forms.specs.Lawful.{IsBytes, Spans, span_join, span_left, span_right}
use Rattle.codec_forms.proofs.Items.{run_lawful, number_lawful}
use Rattle.codec_bytes.specs.Reading.{then_bad, then_got, run_short, run_got}
use Rattle.codec_cursor.specs.Cursor.{far, Reads, reads_got, reads_bad}
use Rattle.book.specs.Sound.{soundb}
use Rattle.book.specs.Model.{Book, view}
use Rattle.book.specs.Typed.{Every, U8, Typed}
use Rattle.book.specs.declared.BookData.{BookData}
use Rattle.archive_form.specs.Encode.{encode_model, encode_book}
use Rattle.archive_form.specs.Parse.{read_archive, ArchiveRead, book, broken}
use Rattle.archive_read.specs.Archive.{archive_answer}
use Rattle.archive_read.specs.declared.ReadArchive.{ReadArchive}
use Rattle.archive_laws.specs.Cells.{every_take, every_bytes}
use Rattle.archive_laws.specs.Theorems.{accepted}

-- an archive behind its length
unfoldable pub layout : List ℕ → List ℕ
unfolding be
layout s = be 8 (length s) ++ s

-- the bytes that hold a book
unfoldable pub book_bytes : Book → List ℕ
unfolding layout encode_model
book_bytes m = layout (encode_model m)

-- the archive at the front of lent bytes
unfoldable pub archive_in : Parser (List ℕ)
unfolding number run
archive_in = do
  n ← number 8
  run n

abbrev pub book_of : ArchiveRead → Option Book
book_of (book b) = Some (view b)
book_of (broken e) = None

abbrev pub held_by : Ans (List ℕ) → Option Book
held_by (got s e) = book_of (read_archive s)
held_by (bad e) = None

-- the book that lent bytes hold; none where they are shorter than 8, or than their length says, or hold no archive
unfoldable pub held_in : List ℕ → Option Book
unfolding archive_in read_archive view
held_in d = held_by (archive_in d 0)

-- d holds b
pub record Holding (d : List ℕ) (b : BookData) : Type 0 where
  pub held : held_in d ≡ Some (view b)
  pub sound : soundb b ≡ true
  pub typed : Typed b
  pub room : length (layout (encode_book b)) ≤ length d
  pub bytes : overlay (layout (encode_book b)) d ≡ d

-- what reading the held book answers
pub record HeldAnswer (d : List ℕ) (r : ReadArchive) : Type 0 where
  pub absent : r.ok ≡ false → held_in d ≡ None
  pub present : r.ok ≡ true → Holding d r.book

-- ---- bytes are bytes
every_next : (s : List ℕ) (i : ℕ) → Every U8 (take i s) → get_or s i 0 < 256 → Every U8 (take (suc i) s)
every_next [] i e b = tt
every_next (x ∷ s) zero e b = (b, tt)
every_next (x ∷ s) (suc i) e b = (e.0, every_next s i e.1 b)

pub every_whole : (s : List ℕ) (i : ℕ) → length s ≤ i → Every U8 (take i s) → Every U8 s
every_whole [] i h e = tt
every_whole (x ∷ s) zero h e = absurd (omega arith)
every_whole (x ∷ s) (suc i) h e = (e.0, every_whole s i (omega arith) e.1)

every_drop : (n : ℕ) (s : List ℕ) → Every U8 s → Every U8 (drop n s)
every_drop zero s e = e
every_drop (suc n) [] e = tt
every_drop (suc n) (x ∷ s) e = every_drop n s e.1

-- ---- the archive at the front
pub archive_exact : (d s : List ℕ) (v a e : ℕ) → Every U8 d → number 8 d 0 ≡ got v a → run v d a ≡ got s e → Spans d 0 e (layout s)
unfolding layout
archive_exact d s v a e h p q =
    let x = (number_lawful 8).exact d 0 a v (every_bytes d h) zero-le p in
    let y = (run_lawful v).exact d a e s (every_bytes d h) x.1.inside q in
    subst (λ (n : ℕ). Spans d 0 e (be 8 n ++ s)) (sym y.0.long) (span_join d 0 a e (be 8 v) s x.1 y.1)

pub archive_reads : (d s : List ℕ) (e : ℕ) → length s < 256 ^ 8 → IsBytes s → Spans d 0 e (layout s) → archive_in d 0 ≡ got s e
unfolding layout archive_in
archive_reads d s e h b x =
    let n = length s in
    let l = be 8 n in
    then_got (number 8) run d 0 ((number_lawful 8).reads d 0 (0 + length l) n h (span_left d 0 e l s x))
    ∙ (run_lawful n).reads d (0 + length l) e s (record { long = refl; bytes = b }) (span_right d 0 e l s x)

-- no bytes are no archive
pub nothing_held : {r : ReadArchive} → r ≡ archive_answer (read_archive []) → r.ok ≡ false
unfolding read_archive
nothing_held e = ap (λ (x : ReadArchive). x.ok) e

-- ---- the three ways of reading
module _ (d : List ℕ) where
  pub held_short : (r : ReadArchive) {v a : ℕ} → Reads (number 8) d 0 v a → far ≤ a → r.ok ≡ false → HeldAnswer d r
  unfolding held_in archive_in
  held_short r h q f = record {
    absent = λ _. ap held_by (then_bad (number 8) run d 0 (reads_bad h (omega arith) q));
    present = λ p. absurd (let z : ◌≡◌ {A = ℕ} 0 1 = cc in omega arith);
  }

  pub held_cut : (r : ReadArchive) {v a : ℕ} {room : Bool} → Reads (number 8) d 0 v a → a < far → room ≡ leb (a + v) (length d) → not room ≡ true → r.ok ≡ false → HeldAnswer d r
  unfolding held_in archive_in
  held_cut r {v} {a} h q m n f = record {
    absent = λ _. ap held_by (then_got (number 8) run d 0 (reads_got h q) ∙ run_short v d a m n);
    present = λ p. absurd (let z : ◌≡◌ {A = ℕ} 0 1 = cc in omega arith);
  }

  pub holding_of : (s : List ℕ) (e : ℕ) (b : BookData) → Every U8 s → archive_in d 0 ≡ got s e → Spans d 0 e (layout s) → read_archive s ≡ book b → Holding d b
  unfolding held_in layout overlay
  holding_of s e b t p x q =
      let y = accepted s b t q in
      let f : layout (encode_book b) ≡ layout s = ap layout y.bytes in
      let k : length (layout s) ≡ e = sym (x.ends ∙ zero-add (length (layout s))) in
      record {
        held = ap held_by p ∙ ap book_of q;
        sound = y.sound;
        typed = y.typed;
        room = omega (arith, ap length f, k, x.inside);
        bytes = ap (λ (l : List ℕ). overlay l d) f ∙ ap (λ (n : ℕ). layout s ++ drop n d) k ∙ sym x.holds;
      }

  held_as : (s : List ℕ) (e : ℕ) → Every U8 s → archive_in d 0 ≡ got s e → Spans d 0 e (layout s) → (x : ArchiveRead) → read_archive s ≡ x → HeldAnswer d (archive_answer x)
  unfolding held_in
  held_as s e t p y (book b) q = record {
    absent = λ f. absurd (let z : ◌≡◌ {A = ℕ} 0 1 = cc in omega arith);
    present = λ _. holding_of s e b t p y q;
  }
  held_as s e t p y (broken n) q = record {
    absent = λ _. ap held_by p ∙ ap book_of q;
    present = λ f. absurd (let z : ◌≡◌ {A = ℕ} 0 1 = cc in omega arith);
  }

  pub held_read : {v a : ℕ} (r : ReadArchive) → Every U8 d → Reads (number 8) d 0 v a → a < far → a + v ≤ length d
      → r ≡ archive_answer (read_archive (take (a + v - a) (drop a d))) → HeldAnswer d r
  unfolding archive_in
  held_read {v} {a} r t h q m e =
      let s = take v (drop a d) in
      let k : a + v - a ≡ v = omega arith in
      let g = run_got v d a m in
      let p = reads_got h q in
      let w : r ≡ archive_answer (read_archive s) = e ∙ ap (λ (n : ℕ). archive_answer (read_archive (take n (drop a d)))) k in
      subst (HeldAnswer d) (sym w)
      (held_as s (a + v) (every_take U8 v (drop a d) (every_drop a d t)) (then_got (number 8) run d 0 p ∙ g) (archive_exact d s v a (a + v) t p g) (read_archive s) refl)
