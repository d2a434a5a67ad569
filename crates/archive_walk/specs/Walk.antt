-- What the walk answers: the parser's own answer, of a book its numbers and the places where the encodings of its parts stand.
use Rattle.std.specs.Prelude.{Result, Ok, Err, ℕ, ◌+◌, ◌-◌, ◌≤◌, ◌<◌, ◌≡◌, true, false, List, ◌++◌, map, length, take}
use Rattle.std.proofs.Common.{zero-le, ◌∙◌, subst, le-leb, le-ltb, arith, length-append}
use Rattle.std.proofs.Math.Path.{refl, sym, ap}
use Rattle.std.proofs.lemmas.Bool.{lt-leb}
use Rattle.base_lists.specs.Lists.{cells}
use Rattle.codec_forms.specs.Wire.{Ans, got, bad, and_then, list_from, be, enc_list, end}
use Rattle.codec_forms.specs.Number.{be_length}
use Rattle.codec_forms.specs.Lawful.{IsBytes}
use Rattle.codec_forms.proofs.Items.{list_from_lawful}
use Rattle.codec_cursor.specs.Cursor.{far, Reads, reads_then, reads_got, ends}
use Rattle.codec_cursor.specs.Cells.{ReadsCells}
use Rattle.book.specs.Zero.{zero_submitted}
use Rattle.book.specs.Sound.{id_of}
use Rattle.book.specs.Model.{Book, back}
use Rattle.book.specs.declared.Token.{Token}
use Rattle.book.specs.declared.SubmissionId.{SubmissionId}
use Rattle.std.specs.Prelude.{Option}
use Rattle.book.specs.declared.Height.{Height}
use Rattle.book.specs.declared.Ids.{Ids}
use Rattle.archive_bundle_form.specs.Forms.{encode_height}
use Rattle.archive_form.specs.Encode.{encode_submitted, encode_delivery}
use Rattle.archive_form.specs.Parse.{Numbers, parse_numbers, parse_retired, parse_height, parse_replayed, parse_model, parse_whole, read_archive, archive_read, book, broken}
use Rattle.archive_laws.specs.Entries.{GoodSubmitted, submitted_lawful}
use Rattle.archive_laws.specs.Parts.{height_lawful}
use Rattle.archive_laws.specs.Books.{enc_numbers, numbers_lawful, queue_lawful, GoodRetired, retired_lawful}
use Rattle.archive_read.specs.Archive.{archive_answer, zero_book}
use Rattle.archive_read.specs.declared.ReadArchive.{ReadArchive}
use Rattle.archive_walk.specs.declared.Walk.{Walk}
use Rattle.archive_walk.specs.Skips.{reads_before}
use Rattle.archive_walk.specs.Places.{places}
use Rattle.archive_walk.specs.Sections.{WalksRetained, WalksQueue}

-- the sections one behind the other: the numbers take 17 bytes
abbrev pub queue_at : Book → ℕ
queue_at m = 17 + length (enc_list encode_submitted m.submitted)

abbrev pub retired_at : Book → ℕ
retired_at m = queue_at m + length (enc_list encode_delivery m.pending)

abbrev pub rollback_at : Book → ℕ
rollback_at m = retired_at m + length (enc_list (be 8) m.retired)

abbrev pub replayed_at : Book → ℕ
replayed_at m = rollback_at m + length (encode_height m.rollback)

-- the entries of a section stand behind its count
abbrev pub walk_of : Book → Walk
walk_of m = record {
  next_delivery_attempt_token = m.next_token;
  next_submission_id = m.next_id;
  submitted_count = length m.submitted;
  submitted = cells 17 0 (places encode_submitted (17 + 1) m.submitted);
  queue = queue_at m;
  pending_count = length m.pending;
  pending_deliveries = cells 17 0 (places encode_delivery (queue_at m + 1) m.pending);
  retired = retired_at m;
  rollback = rollback_at m;
  replayed = replayed_at m;
}

abbrev pub walked : Ans Book → Result Walk ℕ
walked (got m e) = Ok (walk_of m)
walked (bad e) = Err e

pub record WalksBook (s : List ℕ) (c : ℕ) (w : Walk) (e : ℕ) : Type 0 where
  pub model : Book
  pub read : Reads parse_model s c model e
  pub walk : e < far → c ≡ 0 → w ≡ walk_of model

numbers_long : (n : Numbers) → length (enc_numbers n) ≡ 17
unfolding enc_numbers
numbers_long n = omega (arith, length-append (be 1 2 ++ be 8 n.token) (be 8 n.id), length-append (be 1 2) (be 8 n.token), be_length 1 2, be_length 8 n.token, be_length 8 n.id)

pub book_walks : {s : List ℕ} {c d e f g h j k m : ℕ} {token : Token} {id : SubmissionId} {ids ts qs : List ℕ} {r : Ids 64} {height : Option Height} {p : Ids 16}
    → IsBytes s → Reads parse_numbers s c (record { token = token.0; id = id.0 }) d → WalksRetained token.0 s d k ids ts e → WalksQueue s e m qs f
    → ReadsCells 64 0 parse_retired s f r.count r.items g → Reads parse_height s g height h → ReadsCells 16 0 (parse_replayed (take k ids)) s h p.count p.items j
    → WalksBook s c (record {
      next_delivery_attempt_token = token;
      next_submission_id = id;
      submitted_count = k;
      submitted = ts;
      queue = e;
      pending_count = m;
      pending_deliveries = qs;
      retired = f;
      rollback = g;
      replayed = h;
    }) j
unfolding parse_model
book_walks {s} {c} {d} {e} {f} {g} {h} {j} {k} {m} {token} {id} {ids} {ts} {qs} {r} {height} {p} bytes n t q a b u =
    let items = t.items in
    let cs = t.retained.cells in
    let w : Reads (list_from 16 (parse_replayed (map id_of (take k items)))) s h (take p.count p.items) j = subst (λ (l : List ℕ). Reads (list_from 16 (parse_replayed l)) s h (take p.count p.items) j) t.retained.ids_are u.read in
    record {
      model = record {
        next_token = token;
        next_id = id;
        submitted = take k items;
        pending = take m q.items;
        retired = take r.count r.items;
        rollback = height;
        replayed = take p.count p.items;
      };
      read = reads_then _ n (reads_then _ cs.read (reads_then _ q.reads.read (reads_then _ a.read (reads_then _ b (reads_then _ w ends)))));
      walk = λ l z.
          let hf = reads_before u.read l in
          let gf = reads_before b hf in
          let ff = reads_before a.read gf in
          let ef = reads_before q.reads.read ff in
          let df = reads_before cs.read ef in
          let n' = subst (λ (i : ℕ). Reads parse_numbers s i (record { token = token.0; id = id.0 }) d) z n in
          let x₀ = numbers_lawful.exact s 0 d (record { token = token.0; id = id.0 }) bytes zero-le (reads_got n' df) in
          let dq : d ≡ 17 = omega (arith, x₀.1.ends, numbers_long (record { token = token.0; id = id.0 })) in
          let x₁ = (list_from_lawful 16 zero_submitted (GoodSubmitted token.0) (omega arith) (submitted_lawful token.0)).exact s d e (take k items) bytes x₀.1.inside (reads_got cs.read ef) in
          let x₂ = queue_lawful.exact s e f (take m q.items) bytes x₁.1.inside (reads_got q.reads.read ff) in
          let x₃ = (list_from_lawful 64 0 GoodRetired (omega arith) retired_lawful).exact s f g (take r.count r.items) bytes x₂.1.inside (reads_got a.read gf) in
          let x₄ = height_lawful.exact s g h height bytes x₃.1.inside (reads_got b hf) in
          let eq : e ≡ 17 + length (enc_list encode_submitted (take k items)) = x₁.1.ends ∙ ap (λ (i : ℕ). i + length (enc_list encode_submitted (take k items))) dq in
          let fq = x₂.1.ends ∙ ap (λ (i : ℕ). i + length (enc_list encode_delivery (take m q.items))) eq in
          let gq = x₃.1.ends ∙ ap (λ (i : ℕ). i + length (enc_list (be 8) (take r.count r.items))) fq in
          let hq = x₄.1.ends ∙ ap (λ (i : ℕ). i + length (encode_height height)) gq in
          let sq = t.spots ef x₀.1.inside ∙ ap (λ (i : ℕ). cells 17 0 (places encode_submitted (i + 1) (take k items))) dq in
          let pq = q.spots ff x₁.1.inside ∙ ap (λ (i : ℕ). cells 17 0 (places encode_delivery (i + 1) (take m q.items))) eq in
          λ i. record {
            next_delivery_attempt_token = token;
            next_submission_id = id;
            submitted_count = sym cs.long i;
            submitted = sq i;
            queue = eq i;
            pending_count = sym q.reads.long i;
            pending_deliveries = pq i;
            retired = fq i;
            rollback = gq i;
            replayed = hq i;
          };
    }

-- ---- the three ends of the walk
module _ (s : List ℕ) {w : Walk} {e : ℕ} (r : WalksBook s 0 w e) where
  abbrev ended : Ans Book → Ans Book
  ended x = and_then x (λ m d. end m s d)

  whole : {x : Ans Book} → parse_model s 0 ≡ x → walked (parse_whole s 0) ≡ walked (ended x)
  unfolding parse_whole
  whole h = ap (λ (x : Ans Book). walked (ended x)) h

  pub walk_over : e < length s → length s < far → Err e ≡ walked (parse_whole s 0)
  unfolding end
  walk_over h l = sym (whole (reads_got r.read (omega arith)) ∙ rw (lt-leb (length s) e h))

  pub walk_got : length s ≤ e → e < far → Ok w ≡ walked (parse_whole s 0)
  unfolding end
  walk_got h l = ap Ok (r.walk l refl) ∙ sym (whole (reads_got r.read l) ∙ rw (le-leb (length s) e h))

  pub walk_bad : far ≤ e → Err (e - far) ≡ walked (parse_whole s 0)
  walk_bad h = sym (whole {x = bad (e - far)} (sym r.read.is ∙ rw (le-ltb e far h)))

-- ---- the walk and the reader agree
pub record AgreesBook (w : Walk) (r : ReadArchive) : Type 0 where
  pub ok : true ≡ r.ok
  pub place : 0 ≡ r.place
  pub token : w.next_delivery_attempt_token ≡ r.book.next_delivery_attempt_token
  pub id : w.next_submission_id ≡ r.book.next_submission_id
  pub submitted : w.submitted_count ≡ r.book.submitted_count
  pub pending : w.pending_count ≡ r.book.pending_count

-- the walk of a refusal has no numbers and counts, and the reader's are 0
pub record AgreesPlace (e : ℕ) (r : ReadArchive) : Type 0 where
  pub ok : false ≡ r.ok
  pub place : e ≡ r.place
  pub token : record { 0 = 0 } ≡ r.book.next_delivery_attempt_token
  pub id : record { 0 = 0 } ≡ r.book.next_submission_id
  pub submitted : 0 ≡ r.book.submitted_count
  pub pending : 0 ≡ r.book.pending_count

abbrev pub Agrees : Result Walk ℕ → ReadArchive → Type 0
Agrees (Ok w) r = AgreesBook w r
Agrees (Err e) r = AgreesPlace e r

of_book : (m : Book) → AgreesBook (walk_of m) (archive_answer (book (back m)))
unfolding back
of_book m = record { ok = refl; place = refl; token = refl; id = refl; submitted = refl; pending = refl }

of_none : (e : ℕ) → AgreesPlace e (archive_answer (broken e))
unfolding zero_book back
of_none e = record { ok = refl; place = refl; token = refl; id = refl; submitted = refl; pending = refl }

pub walk_agrees : (s : List ℕ) → Agrees (walked (parse_whole s 0)) (archive_answer (read_archive s))
unfolding read_archive
walk_agrees s = go (parse_whole s 0)
  where
    go : (x : Ans Book) → Agrees (walked x) (archive_answer (archive_read x))
    go (got m e) = of_book m
    go (bad e) = of_none e
