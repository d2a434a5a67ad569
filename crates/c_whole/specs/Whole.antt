-- Opening a book from an archive, and writing its archive.
use Rattle.std.specs.Prelude.{ℕ, ◌+◌, ◌≤◌, ◌<◌, ◌≡◌, Bool, false, List, [], ◌++◌, leb}
use Rattle.std.proofs.Math.Path.{refl, ap}
use Rattle.std.proofs.Common.{sym, ◌∙◌, subst, arith, length-append, le-leb}
use Rattle.std.proofs.Math.Bool.{cond}
use Rattle.std.specs.Prelude.{Option, None, Some, Result, Ok, Err}
use Rattle.std.proofs.Math.ListN.{length}
use Rattle.std.proofs.lemmas.Bool.{lt-leb, false≢true}
use Rattle.codec_forms.specs.Wire.{be, overlay}
use Rattle.codec_forms.specs.Number.{be_length}
use Rattle.codec_forms.specs.Puts.{Room, Puts, Size, room_first, room_next, puts_join, puts_as, puts_overlay}
use Rattle.book.specs.Model.{Book, view, back}
use Rattle.book.specs.SoundLaws.{view_back}
use Rattle.book.specs.Typed.{Every, U8}
use Rattle.book.specs.declared.BookData.{BookData}
use Rattle.archive_form.specs.Encode.{encode_model, encode_book}
use Rattle.archive_form.specs.Parse.{parse_whole, read_archive, ArchiveRead, book, broken}
use Rattle.archive_laws.specs.Theorems.{accepted}
use Rattle.archive_read.specs.Archive.{archive_answer}
use Rattle.archive_walk.specs.Walk.{walked, Agrees, walk_agrees}
use Rattle.archive_walk.specs.declared.Walk.{Walk}
use Rattle.rules.specs.Opened.{opened}
use Rattle.c_boundary.specs.Held.{held_in, Holding}
use Rattle.c_boundary.specs.Settle.{written, GivesBook, laid, back_short, back_done}
use Rattle.book.specs.Refusals as refusals

-- ---- opening
pub opened_given : {b : BookData} (o i : ℕ) (d : List ℕ) {n : ℕ} {d' : List ℕ} → b ≡ back (opened o i) → GivesBook (written 0 (view b) [] d []) n d'
    → GivesBook (written 0 (opened o i) [] d []) n d'
opened_given {b} o i d {n} {d'} e g = subst (λ (m : Book). GivesBook (written 0 m [] d []) n d') (ap view e ∙ view_back (opened o i)) g

-- ---- reading: 13 with its place, or the book in the buffer
pub record Placed : Type 0 where
  pub number : ℕ
  pub book : List ℕ
  pub place : ℕ

unfoldable pub read_into : ArchiveRead → List ℕ → ℕ → Placed
unfolding written
read_into (book b) d p = let l = written 0 (view b) [] d [] in record { number = l.number; book = l.book; place = p }
read_into (broken e) d p = record { number = refusals.no_archive; book = d; place = e }

pub record GivesPlace (l : Placed) (n : ℕ) (d : List ℕ) (p : ℕ) : Type 0 where
  pub number : n ≡ l.number
  pub book : d ≡ l.book
  pub place : p ≡ l.place

into_book : (d : List ℕ) (p : ℕ) {b : BookData} {x : ArchiveRead} {n : ℕ} {d' : List ℕ} → x ≡ book b → GivesBook (written 0 (view b) [] d []) n d' → GivesPlace (read_into x d p) n d' p
unfolding read_into
into_book d p {b} {x} {n} {d'} q g = subst (λ (y : ArchiveRead). GivesPlace (read_into y d p) n d' p) (sym q) (record { number = g.number; book = g.book; place = refl })

-- where the walk agrees with the reader, of a refusal in mark and place
walk_broken : (d : List ℕ) (p at : ℕ) (x : ArchiveRead) → false ≡ (archive_answer x).ok → at ≡ (archive_answer x).place → GivesPlace (read_into x d p) refusals.no_archive d at
unfolding read_into
walk_broken d p at (book b) e q = absurd (false≢true e)
walk_broken d p at (broken k) e q = record { number = refl; book = refl; place = q }

walk_book : (w : Walk) (x : ArchiveRead) → Agrees (Ok w) (archive_answer x) → (b : BookData) × (x ≡ book b)
walk_book w (book b) a = (b, refl)
walk_book w (broken k) a = absurd (false≢true (sym a.ok))

module _ (s d : List ℕ) (p : ℕ) {r : Result Walk ℕ} (e : r ≡ walked (parse_whole s 0)) where
  agrees : {x : Result Walk ℕ} → r ≡ x → Agrees x (archive_answer (read_archive s))
  agrees q = subst (λ (v : Result Walk ℕ). Agrees v (archive_answer (read_archive s))) (sym e ∙ q) (walk_agrees s)

  pub read_broken : {at : ℕ} → r ≡ Err at → GivesPlace (read_into (read_archive s) d p) refusals.no_archive d at
  read_broken {at} h = let a = agrees h in walk_broken d p at (read_archive s) a.ok a.place

  -- an archive is what its book is written as
  module _ (t : Every U8 s) {w : Walk} (h : r ≡ Ok w) where
    is_book : (b : BookData) × (read_archive s ≡ book b)
    is_book = walk_book w (read_archive s) (agrees h)

    same_bytes : encode_book is_book.0 ≡ s
    same_bytes = (accepted s is_book.0 t is_book.1).bytes

    same_length : length s ≡ length (encode_book is_book.0)
    same_length = sym (ap length same_bytes)

    pub read_short : length d < 8 + length s → GivesPlace (read_into (read_archive s) d p) refusals.short_buffer d p
    read_short k = into_book d p is_book.1 (back_short 0 (length s) is_book.0 d same_length k)

    module _ (k : 8 + length s ≤ length d) where
      whole_room : Room (be 8 (length s) ++ s) 0 d
      whole_room = record { fits = omega (arith, length-append (be 8 (length s)) s, be_length 8 (length s)) }

      pub number_room : Room (be 8 (length s)) 0 d
      number_room = room_first s whole_room

      module _ {d₁ : List ℕ} {at : ℕ} (q : Puts (be 8 (length s)) 0 d d₁ at) where
        pub archive_room : Room s at d₁
        archive_room = room_next whole_room q

        pub read_whole : {d₂ : List ℕ} {i : ℕ} → Puts s at d₁ d₂ i → GivesPlace (read_into (read_archive s) d p) 0 d₂ p
        read_whole r =
            let f = ap (λ (l : List ℕ). be 8 (length s) ++ l) (sym same_bytes) ∙ laid (length s) is_book.0 same_length in
            into_book d p is_book.1 (back_done 0 (length s) is_book.0 d same_length k (puts_overlay (puts_as f (puts_join whole_room q r))).1)

-- ---- writing: the archive at the front of the buffer, and its length
pub record Counted : Type 0 where
  pub number : ℕ
  pub archive : List ℕ
  pub count : ℕ

unfoldable pub write_from : Option Book → List ℕ → ℕ → Counted
unfolding encode_model overlay
write_from None a k = record { number = refusals.no_book; archive = a; count = k }
write_from (Some m) a k =
    cond (leb (length (encode_model m)) (length a)) (record { number = 0; archive = overlay (encode_model m) a; count = length (encode_model m) }) (record { number = refusals.short_buffer; archive = a; count = k })

pub record GivesLength (l : Counted) (n : ℕ) (a : List ℕ) (k : ℕ) : Type 0 where
  pub number : n ≡ l.number
  pub archive : a ≡ l.archive
  pub count : k ≡ l.count

length_as : {x y : Counted} {n : ℕ} {a : List ℕ} {k : ℕ} → x ≡ y → GivesLength x n a k → GivesLength y n a k
length_as {x} {y} {n} {a} {k} q g = subst (λ (l : Counted). GivesLength l n a k) q g

module _ (d a : List ℕ) (k : ℕ) where
  pub write_absent : held_in d ≡ None → GivesLength (write_from (held_in d) a k) refusals.no_book a k
  unfolding write_from
  write_absent e = length_as (sym (ap (λ (m : Option Book). write_from m a k) e)) (record { number = refl; archive = refl; count = refl })

  module _ (b : BookData) (h : Holding d b) (n : ℕ) (s : Size (encode_book b) 57694 n) where
    pub write_short : length a < n → GivesLength (write_from (held_in d) a k) refusals.short_buffer a k
    unfolding write_from encode_book
    write_short q =
        length_as (sym (ap (λ (m : Option Book). write_from m a k) h.held
        ∙ ap (λ (t : Bool). cond t (record { number = 0; archive = overlay (encode_book b) a; count = length (encode_book b) }) (record { number = refusals.short_buffer; archive = a; count = k })) (lt-leb (length (encode_book b)) (length a) (omega (arith, s.is)))))
        (record { number = refl; archive = refl; count = refl })

    pub write_whole : {a' : List ℕ} {e : ℕ} → n ≤ length a → Puts (encode_book b) 0 a a' e → GivesLength (write_from (held_in d) a k) 0 a' n
    unfolding write_from encode_book
    write_whole q p =
        length_as (sym (ap (λ (m : Option Book). write_from m a k) h.held
        ∙ ap (λ (t : Bool). cond t (record { number = 0; archive = overlay (encode_book b) a; count = length (encode_book b) }) (record { number = refusals.short_buffer; archive = a; count = k })) (le-leb (length (encode_book b)) (length a) (omega (arith, s.is)))))
        (record { number = refl; archive = (puts_overlay p).1; count = s.is })
