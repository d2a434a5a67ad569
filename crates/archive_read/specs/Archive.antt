-- What the reader of an archive answers.
use Rattle.std.specs.Prelude.{ℕ, ◌-◌, ◌≤◌, ◌<◌, ◌≡◌, true, false, cond, List, [], map, length, take}
use Rattle.std.proofs.Math.Path.{sym, ap}
use Rattle.std.proofs.Common.{◌∙◌, subst, le-leb, lt-ltb, le-ltb, arith}
use Rattle.std.proofs.lemmas.Bool.{lt-leb}
use Rattle.codec_forms.specs.Wire.{Ans, got, bad, and_then, list_from, end}
use Rattle.codec_cursor.specs.Cursor.{far, Reads, reads_then, ends}
use Rattle.codec_cursor.specs.Cells.{ReadsCells}
use Rattle.book.specs.Zero.{zero_delivery}
use Rattle.book.specs.Sound.{id_of}
use Rattle.book.specs.Model.{Book, back}
use Rattle.std.specs.Prelude.{None}
use Rattle.std.specs.Prelude.{Option}
use Rattle.book.specs.declared.Height.{Height}
use Rattle.book.specs.declared.SubmittedTx.{SubmittedTx}
use Rattle.book.specs.declared.PendingDelivery.{PendingDelivery}
use Rattle.book.specs.declared.Ids.{Ids}
use Rattle.book.specs.declared.BookData.{BookData}
use Rattle.archive_form.specs.Answer as answer
use Rattle.archive_form.specs.Parse.{parse_numbers, parse_delivery, parse_retired, parse_height, parse_replayed, parse_model, parse_whole, read_archive, archive_read, ArchiveRead, book, broken}
use Rattle.archive_read.specs.Sections.{ReadsRetained}
use Rattle.archive_read.specs.declared.ReadArchive.{ReadArchive}
use Rattle.book.specs.Refusals as refusals

-- the empty book whose two numbers are 0
unfoldable pub zero_book : BookData
zero_book = back (record {
  next_token = record { 0 = 0 };
  next_id = record { 0 = 0 };
  submitted = [];
  pending = [];
  retired = [];
  rollback = None;
  replayed = [];
})

-- the book, with place 0; or refusal 13 with its place, and the zero book
abbrev pub archive_answer : ArchiveRead → ReadArchive
archive_answer (book b) = record { ok = true; place = 0; book = b }
archive_answer (broken e) = record { ok = false; place = e; book = zero_book }

-- paper 01's number and values of what is returned: the book; or 13, with its place
abbrev pub answer_of : ReadArchive → answer.ReadAnswer
answer_of r = cond r.ok (answer.read r.book) (answer.refused refusals.no_archive r.place)

-- what the reader promises
pub record Answered (x : ArchiveRead) (r : ReadArchive) : Type 0 where
  pub number : answer_of r ≡ answer.read_answer x
  pub value : r ≡ archive_answer x

pub answered : (x : ArchiveRead) {r : ReadArchive} → r ≡ archive_answer x → Answered x r
answered (book b) e = record { number = ap answer_of e; value = e }
answered (broken k) e = record { number = ap answer_of e; value = e }

-- b is a model that was read, in its cells
pub record ReadsBook (s : List ℕ) (c : ℕ) (b : BookData) (e : ℕ) : Type 0 where
  pub model : Book
  pub read : Reads parse_model s c model e
  pub cells : back model ≡ b

-- the sections one behind the other
pub book_reads : {s : List ℕ} {c d e f g h j token id k m : ℕ} {ts : List SubmittedTx} {ids : List ℕ} {qs : List PendingDelivery} {r : Ids 64} {height : Option Height} {p : Ids 16}
    → Reads parse_numbers s c (record { token = token; id = id }) d → ReadsRetained token s d k ts ids e → ReadsCells 16 zero_delivery (λ before. parse_delivery) s e m qs f
    → ReadsCells 64 0 parse_retired s f r.count r.items g → Reads parse_height s g height h → ReadsCells 16 0 (parse_replayed (take k ids)) s h p.count p.items j
    → ReadsBook s c (record {
      next_delivery_attempt_token = record { 0 = token };
      next_submission_id = record { 0 = id };
      submitted_count = k;
      submitted = ts;
      pending_count = m;
      pending_deliveries = qs;
      retired_submission_ids = r;
      replay_epoch = record { rollback_height = height; replayed_submission_ids = p };
    }) j
unfolding parse_model back
book_reads {s} {c} {d} {e} {f} {g} {h} {j} {token} {id} {k} {m} {ts} {ids} {qs} {r} {height} {p} n t q a b u =
    let w : Reads (list_from 16 (parse_replayed (map id_of (take k ts)))) s h (take p.count p.items) j = subst (λ (l : List ℕ). Reads (list_from 16 (parse_replayed l)) s h (take p.count p.items) j) t.ids_are u.read in
    record {
      model = record {
        next_token = record { 0 = token };
        next_id = record { 0 = id };
        submitted = take k ts;
        pending = take m qs;
        retired = take r.count r.items;
        rollback = height;
        replayed = take p.count p.items;
      };
      read = reads_then _ n (reads_then _ t.cells.read (reads_then _ q.read (reads_then _ a.read (reads_then _ b (reads_then _ w ends)))));
      cells = λ i. record {
        next_delivery_attempt_token = record { 0 = token };
        next_submission_id = record { 0 = id };
        submitted_count = t.cells.long i;
        submitted = t.cells.same i;
        pending_count = q.long i;
        pending_deliveries = q.same i;
        retired_submission_ids = record { count = a.long i; items = a.same i };
        replay_epoch = record { rollback_height = height; replayed_submission_ids = record { count = u.long i; items = u.same i } };
      };
    }

module _ (s : List ℕ) {b : BookData} {e : ℕ} (r : ReadsBook s 0 b e) where
  abbrev ended : Ans Book → Ans Book
  ended x = and_then x (λ m d. end m s d)

  whole : {x : Ans Book} → parse_model s 0 ≡ x → archive_answer (read_archive s) ≡ archive_answer (archive_read (ended x))
  unfolding read_archive parse_whole
  whole h = ap (λ (x : Ans Book). archive_answer (archive_read (ended x))) h

  good : e < far → parse_model s 0 ≡ got r.model e
  good h = sym r.read.is ∙ rw (lt-ltb e far h)

  pub answer_over : e < length s → length s < far → record { ok = false; place = e; book = zero_book } ≡ archive_answer (read_archive s)
  unfolding end
  answer_over h l = sym (whole (good (omega arith)) ∙ rw (lt-leb (length s) e h))

  pub answer_got : length s ≤ e → e < far → record { ok = true; place = 0; book = b } ≡ archive_answer (read_archive s)
  unfolding end
  answer_got h l = sym (whole (good l) ∙ rw (le-leb (length s) e h) (ap (λ (x : BookData). archive_answer (book x)) r.cells))

  pub answer_bad : far ≤ e → record { ok = false; place = e - far; book = zero_book } ≡ archive_answer (read_archive s)
  answer_bad h = sym (whole {x = bad (e - far)} (sym r.read.is ∙ rw (le-ltb e far h)))
