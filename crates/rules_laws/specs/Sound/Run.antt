-- Every rule tree, so every call, leaves a sound book: its lists are sound and within their limits.
use Rattle.std.specs.Prelude.{ℕ, ◌≤◌, Bool, true, false, cond, not, ◌&&◌, ◌||◌, List, [], ◌∷◌, ◌≡◌, refl, eqb, ltb, length}
use Rattle.std.proofs.Common.{arith, ltb-false}
use Rattle.std.proofs.lemmas.List.{length-map}
use Rattle.base_lists.specs.Laws.{filter_length, or-false}
use Rattle.book.specs.declared.AttemptSlots.{AttemptSlots}
use Rattle.book.specs.declared.SubmittedTx.{SubmittedTx}
use Rattle.book.specs.declared.BookData.{BookData}
use Rattle.book.specs.declared.SubmissionDeliveryGoal.{SubmissionDeliveryGoal}
use Rattle.book.specs.Model.{Book, view, back}
use Rattle.book.specs.Sound.{id_of, sound_lists, soundb}
use Rattle.book.specs.SoundLaws.{SoundLists, sound_lists_lem, lists_sound, Fits, sound, fits_view, sound_back}
use Rattle.rules.specs.Books.{call_book, book_after}
use Rattle.rules.specs.Call.{Call}
use Rattle.rules.specs.Calls.{rules}
use Rattle.rules.specs.Keyed.{pick, change, without}
use Rattle.rules.specs.Opened.{opened}
use Rattle.rules.specs.Parts.{current_fingerprint}
use Rattle.book_answers.specs.declared.DrainedSubmission.{DrainedSubmission}
use Rattle.rules.specs.Rule.{done, Revision, Note, enqueue, unqueue, retire, unreplay, unqueue_all, unretire_all, begin_epoch, end_epoch, Step, note, revise, retain, emit, remove, set_aside, finalise, replay, Rule, undo, stop, look, act, turn, Outcome, ended, undone, stopped, logged, guarded, lengthens, grows, full, run, left}
use Rattle.rules.specs.Steps.{with_entry, with_slots, note_book, revise_book, retain_book, issue_book, emit_to, emit_book, remove_book, mark_book, replay_book, on_book, run_book}
use Rattle.rules.specs.Steps.Entry.{revised}
use Rattle.rules.specs.Steps.Notes.{is_id, unqueued, noted, forgotten, replayed_with}
use Rattle.rules.specs.Steps.Slots.{issue_attempt, slots_issued, slots_aside, slots_final}
use Rattle.rules_laws.specs.Sound.Facts.{Short, replayed_short, short_of}
use Rattle.rules_laws.specs.Sound.Steps.{sound_step}

pub record SoundBook (b : Book) : Type 0 where
  pub lists : sound_lists b ≡ true
  pub fits : Fits b

-- ---- lengths
pub not_full : (b : Book) → full b ≡ false → Short b
unfolding full
not_full b e =
    let pqr = or-false (ltb 16 (length b.submitted) || ltb 16 (length b.pending)) (ltb 64 (length b.retired)) e in
    let pq = or-false (ltb 16 (length b.submitted)) (ltb 16 (length b.pending)) pqr.0 in
    record { submitted = ltb-false 16 _ pq.0; pending = ltb-false 16 _ pq.1; retired = ltb-false 64 _ pqr.1 }

pub length_change : (i : ℕ) (f : SubmittedTx → SubmittedTx) (ts : List SubmittedTx) → length (change id_of i f ts) ≡ length ts
unfolding change
length_change i f ts = length-map ts (λ t. cond (eqb (id_of t) i) (f t) t)

short_submitted : (b c : Book) → Short b → length c.submitted ≤ length b.submitted → c.pending ≡ b.pending → c.retired ≡ b.retired → Short c
short_submitted b c s h p r = record { submitted = omega (arith, h, s.submitted); pending = rw p s.pending; retired = rw r s.retired }

short_note : (n : Note) (b : Book) → Short b → (lengthens n && full (note_book n b)) ≡ false → Short (note_book n b)
unfolding note_book noted unqueued
short_note (enqueue d) b s e = not_full (note_book (enqueue d) b) e
short_note (unqueue i) b s e = record { submitted = s.submitted; pending = omega (arith, filter_length (λ d. not (is_id i d.intent.id)) b.pending, s.pending); retired = s.retired }
short_note (retire i) b s e = not_full (note_book (retire i) b) e
short_note (unreplay i) b s e = record { submitted = s.submitted; pending = s.pending; retired = s.retired }
short_note unqueue_all b s e = record { submitted = s.submitted; pending = omega arith; retired = s.retired }
short_note unretire_all b s e = record { submitted = s.submitted; pending = s.pending; retired = omega arith }
short_note (begin_epoch h) b s e = record { submitted = s.submitted; pending = s.pending; retired = s.retired }
short_note end_epoch b s e = record { submitted = s.submitted; pending = s.pending; retired = s.retired }

short_emit : (i : ℕ) (g : SubmissionDeliveryGoal) (b : Book) → Short b → Short (emit_book i g b).after
unfolding emit_book issue_book
short_emit i g b s = go (pick id_of i b.submitted)
  where
    go : (ts : List SubmittedTx) → Short (emit_to i g b ts).after
    go [] = s
    go (t ∷ ts) = record {
      submitted = rw (length_change i (with_slots (slots_issued (issue_attempt b.next_token.0 g (current_fingerprint t.entry)))) b.submitted) s.submitted;
      pending = s.pending;
      retired = s.retired;
    }

short_remove : (i : ℕ) (b : Book) → Short b → Short (remove_book i b)
unfolding remove_book forgotten without unqueued
short_remove i b s = record {
  submitted = omega (arith, filter_length (λ t. not (eqb (id_of t) i)) b.submitted, s.submitted);
  pending = omega (arith, filter_length (λ d. not (is_id i d.intent.id)) b.pending, s.pending);
  retired = s.retired;
}

short_mark : (g : AttemptSlots → AttemptSlots) (i : ℕ) (b : Book) → Short b → Short (mark_book g i b)
unfolding mark_book
short_mark g i b s = record { submitted = rw (length_change i (with_slots g) b.submitted) s.submitted; pending = s.pending; retired = s.retired }

short_revise : (i : ℕ) (r : Revision) (b : Book) → Short b → Short (revise_book i r b)
unfolding revise_book
short_revise i r b s = record { submitted = rw (length_change i (with_entry (revised r)) b.submitted) s.submitted; pending = s.pending; retired = s.retired }

short_replay : (i : ℕ) (b : Book) → Short b → Short (replay_book i b)
unfolding replay_book replayed_with
short_replay i b s = record { submitted = s.submitted; pending = s.pending; retired = s.retired }

pub short_step : (p : Step) (b : Book) → Short b → (grows p && full (on_book p b).after) ≡ false → Short (on_book p b).after
unfolding on_book
short_step (note n) b s e = short_note n b s e
short_step (revise i r) b s e = short_revise i r b s
short_step (retain p) b s e = not_full (retain_book p b) e
short_step (emit i g) b s e = short_emit i g b s
short_step (remove i) b s e = short_remove i b s
short_step (set_aside i) b s e = short_mark slots_aside i b s
short_step (finalise i v) b s e = short_mark (slots_final v) i b s
short_step (replay i) b s e = short_replay i b s

-- ---- trees
abbrev Kept : {A : Type 0} → Outcome Book A → Type 0
Kept (ended b xs a) = SoundLists b × Short b
Kept (undone n) = Unit {0}
Kept (stopped b xs n) = SoundLists b × Short b

kept_logged : {A : Type 0} (xs : List DrainedSubmission) (k : Outcome Book A) → Kept k → Kept (logged xs k)
kept_logged xs (ended b ys a) h = h
kept_logged xs (undone n) h = h
kept_logged xs (stopped b ys n) h = h

kept_run : {A : Type 0} (r : Rule A) (b : Book) → SoundLists b → Short b → Kept (run_book r b)
unfolding run
kept_run (done a) b s k = (s, k)
kept_run (undo n) b s k = tt
kept_run (stop n) b s k = (s, k)
kept_run (look f) b s k = kept_run (f b) b s k
kept_run (act p r) b s k = go (grows p && full (on_book p b).after) refl (λ e. kept_run r (on_book p b).after (sound_step p b s) (short_step p b k e))
  where
    go : (t : Bool) → (grows p && full (on_book p b).after) ≡ t → ((grows p && full (on_book p b).after) ≡ false → Kept (run_book r (on_book p b).after))
        → Kept (guarded t (logged (on_book p b).out (run_book r (on_book p b).after)))
    go true e ih = tt
    go false e ih = kept_logged (on_book p b).out (run_book r (on_book p b).after) (ih e)
kept_run (turn r) b s k = kept_run r b s k

sound_of : (b : Book) → SoundLists b → Short b → SoundBook b
sound_of b s k = record {
  lists = lists_sound b s;
  fits = record { submitted = k.submitted; pending = k.pending; retired = k.retired; replayed = replayed_short b s k };
}

-- the book that any rules leave
pub sound_left : {A : Type 0} (r : Rule A) (b : Book) → SoundBook b → SoundBook (left b (run_book r b))
sound_left {A} r b h = go (run_book r b) (kept_run r b (sound_lists_lem b h.lists) (short_of b h.fits))
  where
    go : (k : Outcome Book A) → Kept k → SoundBook (left b k)
    go (ended c xs a) s = sound_of c s.0 s.1
    go (undone n) s = h
    go (stopped c xs n) s = sound_of c s.0 s.1

-- "Every call leaves a sound book."
pub sound_call : (encode : Book → List ℕ) (c : Call) (b : Book) → SoundBook b → SoundBook (call_book encode c b)
unfolding call_book
sound_call encode c b h = sound_left (rules encode c) b h

-- the same of the book as data
pub sound_call_data : (encode : Book → List ℕ) (c : Call) (b : BookData) → soundb b ≡ true → soundb (back (call_book encode c (view b))) ≡ true
sound_call_data encode c b h =
    let s = sound b h in
    let k = sound_call encode c (view b) (record { lists = lists_sound (view b) s.lists; fits = fits_view b s }) in
    sound_back (call_book encode c (view b)) k.fits k.lists

pub sound_opened : (o n : ℕ) → SoundBook (opened o n)
unfolding opened sound_lists
sound_opened o n = record { lists = refl; fits = record { submitted = omega arith; pending = omega arith; retired = omega arith; replayed = omega arith } }

-- so does every list of calls, from a sound book and from one just opened
pub sound_after : (encode : Book → List ℕ) (cs : List Call) (b : Book) → SoundBook b → SoundBook (book_after encode cs b)
unfolding book_after
sound_after encode [] b h = h
sound_after encode (c ∷ cs) b h = sound_after encode cs (call_book encode c b) (sound_call encode c b h)
