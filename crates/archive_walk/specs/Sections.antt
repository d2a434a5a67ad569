-- The submissions and the queue as the code walks them: the reader's own rules, with the places in hand and most values left out.
use Rattle.std.specs.Prelude.{ℕ, ◌+◌, ◌≤◌, ◌<◌, ◌≡◌, cond, List, length, take, set, replicate}
use Rattle.std.proofs.Common.{ap, ◌∙◌, arith}
use Rattle.base_lists.specs.Lists.{cells}
use Rattle.codec_forms.specs.Number.{be_length}
use Rattle.codec_forms.specs.Lawful.{IsBytes}
use Rattle.codec_forms.proofs.Items.{up_to_lawful}
use Rattle.codec_cursor.specs.Cursor.{far, Reads, reads_got, reads_then, ends}
use Rattle.codec_cursor.specs.Items.{Counts}
use Rattle.codec_cursor.specs.Cells.{ReadsCells, filled_list}
use Rattle.book.specs.Zero.{zero_submitted, zero_delivery}
use Rattle.book.specs.declared.SubmissionId.{SubmissionId}
use Rattle.book.specs.declared.AttemptSlots.{AttemptSlots}
use Rattle.book.specs.declared.SubmittedTx.{SubmittedTx}
use Rattle.book.specs.declared.PendingDelivery.{PendingDelivery}
use Rattle.archive_form.specs.Encode.{encode_submitted, encode_delivery}
use Rattle.archive_form.specs.Parse.{Facts, parse_retired, parse_slots, parse_facts, parse_submitted, parse_delivery}
use Rattle.archive_laws.specs.Entries.{GoodSubmitted, submitted_lawful, GoodDelivery, delivery_lawful}
use Rattle.archive_entry_read.specs.Entries.{parse_after}
use Rattle.archive_read.specs.Sections.{Seen, seen_start, seen_more, after_seen, retained_done, ReadsRetained}
use Rattle.archive_walk.specs.Skips.{Skips, reads_before}
use Rattle.archive_walk.specs.Places.{places, Walking, walking_start, walking_more, walking_all}

-- ---- a submission: its id and its slots are read, the rest is passed
abbrev pub submitted_of : SubmissionId → AttemptSlots → Facts → SubmittedTx
submitted_of i s f = record { slots = s; entry = record { id = i; intent = f.intent; state = f.state } }

pub record WalksSubmitted (next : ℕ) (ids tokens s : List ℕ) (c : ℕ) (id : SubmissionId) (slots : AttemptSlots) (e : ℕ) : Type 0 where
  pub facts : Facts
  pub reads : Reads (parse_after next ids tokens) s c (submitted_of id slots facts) e

pub submitted_walks : {next : ℕ} {ids tokens s : List ℕ} {c d f e : ℕ} {id : SubmissionId} {slots : AttemptSlots}
    → Reads (parse_retired ids) s c id.0 d → Reads (parse_slots next tokens) s d slots f → Skips parse_facts s f e → WalksSubmitted next ids tokens s c id slots e
unfolding parse_after
submitted_walks i t f = record { facts = f.value; reads = reads_then _ i (reads_then _ t (reads_then _ f.reads ends)) }

-- ---- the loop over the submissions
pub record RetainedWalk (next : ℕ) (s : List ℕ) (c k : ℕ) (ids tokens starts : List ℕ) (e m i : ℕ) : Type 0 where
  pub items : List SubmittedTx
  pub walking : Walking encode_submitted zero_submitted (parse_submitted next) s c k items starts e i
  pub seen : Seen items ids tokens m i

pub retained_start : (next : ℕ) (s : List ℕ) (c k : ℕ) → RetainedWalk next s c k (replicate 16 0) (replicate 32 0) (set (replicate 17 0) 0 c) c 0 0
retained_start next s c k = record { items = replicate 16 zero_submitted; walking = walking_start encode_submitted zero_submitted (parse_submitted next) s c k; seen = seen_start }

pub retained_more : {next : ℕ} {s : List ℕ} {c k : ℕ} {ids tokens starts : List ℕ} {e m i d m₁ m₂ : ℕ} {id : SubmissionId} {slots : AttemptSlots}
    → RetainedWalk next s c k ids tokens starts e m i → IsBytes s → k ≤ 16 → i < k → WalksSubmitted next (take i ids) (take m tokens) s e id slots d
    → m₁ ≡ m + cond slots.active_attempt.present 1 0 → m₂ ≡ m₁ + cond slots.completed_attempt.present 1 0
    → RetainedWalk next s c k (set ids i id.0)
    (set (set tokens m slots.active_attempt.attempt.token.0) m₁ slots.completed_attempt.attempt.token.0) (set starts (i + 1) d) d m₂ (i + 1)
retained_more {next} {s} {c} {k} {ids} {tokens} {starts} {e} {m} {i} {d} {m₁} {m₂} {id} {slots} w b kn h x p q =
    let v = submitted_of id slots x.facts in
    record {
      items = set w.items i v;
      walking = walking_more (GoodSubmitted next) (submitted_lawful next) b w.walking kn h (after_seen next w.seen x.reads);
      seen = seen_more v m₁ m₂ w.seen (omega arith) w.walking.filled.whole p q;
    }

-- ---- the place behind a count
pub count_place : {n : ℕ} {s : List ℕ} {b k c : ℕ} → n < 256 → IsBytes s → Counts n s b k c → c < far → b ≤ length s → (c ≡ b + 1) × (c ≤ length s)
count_place {n} {s} {b} {k} {c} small bytes r l h =
    let x = (up_to_lawful n small).exact s b c k bytes h (reads_got r.reads l) in
    (x.1.ends ∙ ap (λ (m : ℕ). b + m) (be_length 1 k), x.1.inside)

pub record WalksRetained (next : ℕ) (s : List ℕ) (c k : ℕ) (ids starts : List ℕ) (e : ℕ) : Type 0 where
  pub items : List SubmittedTx
  pub retained : ReadsRetained next s c k items ids e
  pub spots : e < far → c ≤ length s → starts ≡ cells 17 0 (places encode_submitted (c + 1) (take k items))

pub retained_walked : {next : ℕ} {s : List ℕ} {b c k : ℕ} {ids tokens starts : List ℕ} {e m i : ℕ}
    → IsBytes s → Counts 16 s b k c → RetainedWalk next s c k ids tokens starts e m i → k ≤ i → WalksRetained next s b k ids starts e
retained_walked {next} {s} {b} {c} {k} {ids} {tokens} {starts} {e} {m} {i} bytes r w h = record {
  items = w.items;
  retained = retained_done r w.walking.filled w.seen h;
  spots = λ l q.
      let y = count_place (omega arith) bytes r (reads_before w.walking.filled.read l) q in
      walking_all (GoodSubmitted next) (submitted_lawful next) bytes w.walking h l y.1 ∙ ap (λ (n : ℕ). cells 17 0 (places encode_submitted n (take k w.items))) y.0;
}

-- ---- the queue
pub record QueueWalk (s : List ℕ) (c k : ℕ) (starts : List ℕ) (e i : ℕ) : Type 0 where
  pub items : List PendingDelivery
  pub walking : Walking encode_delivery zero_delivery (λ before. parse_delivery) s c k items starts e i

pub queue_start : (s : List ℕ) (c k : ℕ) → QueueWalk s c k (set (replicate 17 0) 0 c) c 0
queue_start s c k = record { items = replicate 16 zero_delivery; walking = walking_start encode_delivery zero_delivery (λ before. parse_delivery) s c k }

pub queue_more : {s : List ℕ} {c k : ℕ} {starts : List ℕ} {e i d : ℕ} → QueueWalk s c k starts e i → IsBytes s → k ≤ 16 → i < k → Skips parse_delivery s e d → QueueWalk s c k (set starts (i + 1) d) d (i + 1)
queue_more {s} {c} {k} {starts} {e} {i} {d} w b kn h x = record {
  items = set w.items i x.value;
  walking = walking_more (λ before. GoodDelivery) (λ before. delivery_lawful) b w.walking kn h x.reads;
}

pub record WalksQueue (s : List ℕ) (c k : ℕ) (starts : List ℕ) (e : ℕ) : Type 0 where
  pub items : List PendingDelivery
  pub reads : ReadsCells 16 zero_delivery (λ before. parse_delivery) s c k items e
  pub spots : e < far → c ≤ length s → starts ≡ cells 17 0 (places encode_delivery (c + 1) (take k items))

pub queue_walked : {s : List ℕ} {b c k : ℕ} {starts : List ℕ} {e i : ℕ} → IsBytes s → Counts 16 s b k c → QueueWalk s c k starts e i → k ≤ i → WalksQueue s b k starts e
queue_walked {s} {b} {c} {k} {starts} {e} {i} bytes r w h = record {
  items = w.items;
  reads = filled_list r.reads r.few w.walking.filled h;
  spots = λ l q.
      let y = count_place (omega arith) bytes r (reads_before w.walking.filled.read l) q in
      walking_all (λ before. GoodDelivery) (λ before. delivery_lawful) bytes w.walking h l y.1 ∙ ap (λ (n : ℕ). cells 17 0 (places encode_delivery n (take k w.items))) y.0;
}
