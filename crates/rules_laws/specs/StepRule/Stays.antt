-- A book that is over a limit stays so until a list gets shorter.
use Rattle.std.specs.Prelude.{ℕ, ◌≤◌, Bool, true, false, cond, ◌||◌, List, [], ◌∷◌, ◌++◌, map, ◌≡◌, refl, ltb, length}
use Rattle.std.proofs.Common.{true≢false, ap, le_refl, arith, length-append, lt-ltb, ltb-true}
use Rattle.base_lists.specs.Laws.{push_new_grows}
use Rattle.book.specs.declared.SubmittedTx.{SubmittedTx}
use Rattle.book.specs.declared.PendingSubmissionIntent.{PendingSubmissionIntent}
use Rattle.book.specs.declared.SubmissionDeliveryGoal.{SubmissionDeliveryGoal}
use Rattle.book.specs.Model.{Book}
use Rattle.book.specs.Sound.{sound_delivery, id_of}
use Rattle.book.specs.Zero.{no_slots}
use Rattle.rules.specs.Keyed.{pick}
use Rattle.rules.specs.Parts.{current_fingerprint}
use Rattle.rules.specs.Rule.{Note, enqueue, unqueue, retire, unreplay, unqueue_all, unretire_all, begin_epoch, end_epoch, Step, note, revise, retain, emit, remove, set_aside, finalise, replay, full}
use Rattle.rules.specs.Steps.{with_entry, with_slots, note_book, revise_book, retainable, retained, retain_book, issue_book, emit_to, emit_book, mark_book, replay_book, on_book}
use Rattle.rules.specs.Steps.Entry.{revised, new_entry}
use Rattle.rules.specs.Steps.Notes.{noted, replayed_with}
use Rattle.rules.specs.Steps.Slots.{issue_attempt, slots_issued, slots_aside, slots_final}
use Rattle.rules_laws.specs.ListLaws.{or_right}
use Rattle.rules_laws.specs.Sound.Run.{length_change}
use Rattle.rules_laws.specs.StepRule.Free.{shortens, shrinks}

ltb_mono : (n a b : ℕ) → a ≤ b → ltb n a ≡ true → ltb n b ≡ true
ltb_mono n a b h k = lt-ltb n b (let l = ltb-true n a k in omega arith)

or_mono : (a b c d : Bool) → (a ≡ true → c ≡ true) → (b ≡ true → d ≡ true) → (a || b) ≡ true → (c || d) ≡ true
or_mono true b c d f g h = ap (λ (x : Bool). x || d) (f refl)
or_mono false b c d f g h = or_right c d (g h)

pub full_mono : (b c : Book) → length b.submitted ≤ length c.submitted → length b.pending ≤ length c.pending → length b.retired ≤ length c.retired
    → full b ≡ true → full c ≡ true
unfolding full
full_mono b c p q r h =
    or_mono (ltb 16 (length b.submitted) || ltb 16 (length b.pending)) (ltb 64 (length b.retired))
    (ltb 16 (length c.submitted) || ltb 16 (length c.pending)) (ltb 64 (length c.retired))
    (or_mono (ltb 16 (length b.submitted)) (ltb 16 (length b.pending)) (ltb 16 (length c.submitted)) (ltb 16 (length c.pending)) (ltb_mono 16 _ _ p) (ltb_mono 16 _ _ q))
    (ltb_mono 64 _ _ r) h

length_snoc : {A : Type 0} (t : Bool) (xs : List A) (x : A) → length xs ≤ length (cond t (xs ++ (x ∷ [])) xs)
length_snoc true xs x = let h = length-append xs (x ∷ []) in omega arith
length_snoc false xs x = omega arith

note_stays : (n : Note) (b : Book) → shortens n ≡ false → full b ≡ true → full (note_book n b) ≡ true
unfolding note_book noted
note_stays (enqueue d) b s h = full_mono b (note_book (enqueue d) b) (le_refl _) (length_snoc (sound_delivery d) b.pending d) (le_refl _) h
note_stays (unqueue i) b s h = absurd (true≢false s)
note_stays (retire i) b s h = full_mono b (note_book (retire i) b) (le_refl _) (le_refl _) (push_new_grows b.retired i) h
note_stays (unreplay i) b s h = full_mono b (note_book (unreplay i) b) (le_refl _) (le_refl _) (le_refl _) h
note_stays unqueue_all b s h = absurd (true≢false s)
note_stays unretire_all b s h = absurd (true≢false s)
note_stays (begin_epoch x) b s h = full_mono b (note_book (begin_epoch x) b) (le_refl _) (le_refl _) (le_refl _) h
note_stays end_epoch b s h = full_mono b (note_book end_epoch b) (le_refl _) (le_refl _) (le_refl _) h

le_eq : (a b : ℕ) → b ≡ a → a ≤ b
le_eq a b e = omega arith

retain_stays : (p : PendingSubmissionIntent) (b : Book) → full b ≡ true → full (retain_book p b) ≡ true
unfolding retain_book retained
retain_stays p b h = go (retainable p b.next_id.0 (map id_of b.submitted))
  where
    go : (t : Bool) → full (cond t (retained p b) b) ≡ true
    go true = full_mono b (retained p b) (length_snoc true b.submitted (record { slots = no_slots; entry = new_entry b.next_id p })) (le_refl _) (le_refl _) h
    go false = h

emit_stays : (i : ℕ) (g : SubmissionDeliveryGoal) (b : Book) → full b ≡ true → full (emit_book i g b).after ≡ true
unfolding emit_book issue_book
emit_stays i g b h = go (pick id_of i b.submitted)
  where
    go : (ts : List SubmittedTx) → full (emit_to i g b ts).after ≡ true
    go [] = h
    go (t ∷ ts) = full_mono b (emit_to i g b (t ∷ ts)).after
        (le_eq _ _ (length_change i (with_slots (slots_issued (issue_attempt b.next_token.0 g (current_fingerprint t.entry)))) b.submitted)) (le_refl _) (le_refl _) h

pub stays : (p : Step) (b : Book) → shrinks p ≡ false → full b ≡ true → full (on_book p b).after ≡ true
unfolding on_book revise_book mark_book replay_book replayed_with
stays (note n) b s h = note_stays n b s h
stays (revise i r) b s h = full_mono b (revise_book i r b) (le_eq _ _ (length_change i (with_entry (revised r)) b.submitted)) (le_refl _) (le_refl _) h
stays (retain p) b s h = retain_stays p b h
stays (emit i g) b s h = emit_stays i g b h
stays (remove i) b s h = absurd (true≢false s)
stays (set_aside i) b s h = full_mono b (mark_book slots_aside i b) (le_eq _ _ (length_change i (with_slots slots_aside) b.submitted)) (le_refl _) (le_refl _) h
stays (finalise i v) b s h = full_mono b (mark_book (slots_final v) i b) (le_eq _ _ (length_change i (with_slots (slots_final v)) b.submitted)) (le_refl _) (le_refl _) h
stays (replay i) b s h = full_mono b (replay_book i b) (le_refl _) (le_refl _) (le_refl _) h
