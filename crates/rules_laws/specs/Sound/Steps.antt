-- Every step leaves a sound book sound.
use Rattle.std.specs.Prelude.{ℕ, suc, Bool, true, false, cond, not, ◌&&◌, ◌||◌, ◌≡◌, eqb, ltb}
use Rattle.std.proofs.lemmas.Bool.{false≢true, not-true}
use mathlib.Core.List.{List, [], ◌∷◌, ◌++◌, map, append-nil, cons≢nil}
use Rattle.std.proofs.Math.Path.{refl, ap}
use Rattle.std.proofs.Common.{sym, ◌∙◌, subst, arith, eqb-true, lt-ltb, ltb-true}
use Rattle.base_lists.specs.Laws.{and_split, or-false, all_snoc, flat_append, elem_append}
use Rattle.base_lists.specs.Lists.{elemb, distinctb, insert_up, risingb}
use Rattle.std.specs.List.{list_all, filter, flat_map}
use Rattle.base_lists.specs.Sub.{Sub, sub_all, sub_append, filter_sub, all_sub, map_sub, flat_sub, distinct_sub, push_new_distinct, distinct_snoc}
use Rattle.book.specs.declared.AttemptSlots.{AttemptSlots}
use Rattle.book.specs.declared.SubmittedTx.{SubmittedTx}
use Rattle.book.specs.declared.PendingSubmissionIntent.{PendingSubmissionIntent}
use Rattle.book.specs.declared.SubmissionDeliveryGoal.{SubmissionDeliveryGoal}
use Rattle.book.specs.Model.{Book}
use Rattle.book.specs.Sound.{readable_bundle, sound_slots, sound_submitted, sound_intent, sound_delivery, id_of, slot_tokens, tokens_of}
use Rattle.book.specs.SoundLaws.{SoundLists}
use Rattle.book.specs.Zero.{no_slots}
use Rattle.rules.specs.Keyed.{pick, change, without, map_change}
use Rattle.rules.specs.Parts.{current_fingerprint}
use Rattle.rules.specs.Rule.{Revision, Note, enqueue, unqueue, retire, unreplay, unqueue_all, unretire_all, begin_epoch, end_epoch, Step, note, revise, retain, emit, remove, set_aside, finalise, replay}
use Rattle.rules.specs.Steps.{with_entry, with_slots, note_book, revise_book, retainable, retained, retain_book, issue_book, emit_to, emit_book, remove_book, mark_book, replay_book, on_book}
use Rattle.rules.specs.Steps.Entry.{revised, new_entry}
use Rattle.rules.specs.Steps.Notes.{is_id, unqueued, unreplayed, noted, forgotten, replayed_with}
use Rattle.rules.specs.Steps.Slots.{issue_attempt, slots_issued, slots_aside, slots_final}
use Rattle.rules_laws.specs.ListLaws.{all_change, all_weaken, all_elem_without, change_flat_sub, Adds, put, adds_after, distinct_adds, all_adds, below_elem, rising_sub, rising_insert, all_insert}
use Rattle.rules_laws.specs.Sound.Parts.{sound_entry_lem, tokens_no_slots, sound_aside, sound_final, sound_issued, tokens_aside, tokens_final, tokens_issued, sound_slots_lem, revised_id, sound_new}

-- ---- notes
sound_note : (n : Note) (b : Book) → SoundLists b → SoundLists (note_book n b)
unfolding note_book noted unqueued unreplayed
sound_note (enqueue d) b s = record {
  submitted = s.submitted;
  ids = s.ids;
  tokens = s.tokens;
  below = s.below;
  retired = s.retired;
  rising = s.rising;
  replayed = s.replayed;
  pending = go (sound_delivery d) refl;
}
  where
    go : (t : Bool) → sound_delivery d ≡ t → list_all sound_delivery (cond t (b.pending ++ d ∷ []) b.pending) ≡ true
    go true q = all_snoc sound_delivery b.pending d s.pending q
    go false q = s.pending
sound_note (unqueue i) b s = record {
  submitted = s.submitted;
  ids = s.ids;
  tokens = s.tokens;
  below = s.below;
  retired = s.retired;
  rising = s.rising;
  replayed = s.replayed;
  pending = all_sub sound_delivery (filter_sub (λ d. not (is_id i d.intent.id)) b.pending) s.pending;
}
sound_note (retire i) b s = record {
  submitted = s.submitted;
  ids = s.ids;
  tokens = s.tokens;
  below = s.below;
  pending = s.pending;
  rising = s.rising;
  replayed = s.replayed;
  retired = push_new_distinct b.retired i s.retired;
}
sound_note (unreplay i) b s = record {
  submitted = s.submitted;
  ids = s.ids;
  tokens = s.tokens;
  below = s.below;
  pending = s.pending;
  retired = s.retired;
  rising = rising_sub (filter_sub (λ j. not (eqb j i)) b.replayed) s.rising;
  replayed = all_sub (λ j. elemb j (map id_of b.submitted)) (filter_sub (λ j. not (eqb j i)) b.replayed) s.replayed;
}
sound_note unqueue_all b s = record {
  submitted = s.submitted;
  ids = s.ids;
  tokens = s.tokens;
  below = s.below;
  retired = s.retired;
  rising = s.rising;
  replayed = s.replayed;
  pending = refl;
}
sound_note unretire_all b s = record {
  submitted = s.submitted;
  ids = s.ids;
  tokens = s.tokens;
  below = s.below;
  pending = s.pending;
  rising = s.rising;
  replayed = s.replayed;
  retired = refl;
}
sound_note (begin_epoch h) b s = record {
  submitted = s.submitted;
  ids = s.ids;
  tokens = s.tokens;
  below = s.below;
  pending = s.pending;
  retired = s.retired;
  rising = refl;
  replayed = refl;
}
sound_note end_epoch b s = record {
  submitted = s.submitted;
  ids = s.ids;
  tokens = s.tokens;
  below = s.below;
  pending = s.pending;
  retired = s.retired;
  rising = refl;
  replayed = refl;
}

sound_replay : (i : ℕ) (b : Book) → SoundLists b → SoundLists (replay_book i b)
unfolding replay_book replayed_with
sound_replay i b s = record {
  submitted = s.submitted;
  ids = s.ids;
  tokens = s.tokens;
  below = s.below;
  pending = s.pending;
  retired = s.retired;
  rising = rises (elemb i (map id_of b.submitted)) (elemb i b.replayed) refl;
  replayed = knows (elemb i (map id_of b.submitted)) refl (elemb i b.replayed);
}
  where
    rises : (x y : Bool) → elemb i b.replayed ≡ y → risingb (cond (x && not y) (insert_up i b.replayed) b.replayed) ≡ true
    rises false y q = s.rising
    rises true true q = s.rising
    rises true false q = rising_insert i b.replayed s.rising q

    knows : (x : Bool) → elemb i (map id_of b.submitted) ≡ x → (y : Bool) → list_all (λ j. elemb j (map id_of b.submitted)) (cond (x && not y) (insert_up i b.replayed) b.replayed) ≡ true
    knows false q y = s.replayed
    knows true q true = s.replayed
    knows true q false = all_insert (λ j. elemb j (map id_of b.submitted)) i b.replayed q s.replayed

-- ---- changes of one submission
tokens_entry : (r : Revision) (i : ℕ) (ts : List SubmittedTx) → flat_map tokens_of (change id_of i (with_entry (revised r)) ts) ≡ flat_map tokens_of ts
unfolding change
tokens_entry r i [] = refl
tokens_entry r i (t ∷ ts) = go (eqb (id_of t) i) (tokens_entry r i ts)
  where
    go : (b : Bool) → flat_map tokens_of (change id_of i (with_entry (revised r)) ts) ≡ flat_map tokens_of ts
        → tokens_of (cond b (with_entry (revised r) t) t) ++ flat_map tokens_of (change id_of i (with_entry (revised r)) ts) ≡ tokens_of t ++ flat_map tokens_of ts
    go true ih = ap (λ (l : List ℕ). tokens_of t ++ l) ih
    go false ih = ap (λ (l : List ℕ). tokens_of t ++ l) ih

ids_entry : (r : Revision) (i : ℕ) (ts : List SubmittedTx) → map id_of (change id_of i (with_entry (revised r)) ts) ≡ map id_of ts
ids_entry r i ts = map_change id_of id_of (with_entry (revised r)) (λ t. ap (λ x. x.0) (revised_id r t.entry)) i ts

sound_revise : (i : ℕ) (r : Revision) (b : Book) → SoundLists b → SoundLists (revise_book i r b)
unfolding revise_book
sound_revise i r b s = record {
  submitted = all_change sound_submitted id_of i (with_entry (revised r)) (sound_entry_lem r) b.submitted s.submitted;
  ids = ap distinctb (ids_entry r i b.submitted) ∙ s.ids;
  tokens = ap distinctb (tokens_entry r i b.submitted) ∙ s.tokens;
  below = ap (list_all (λ t. ltb t b.next_token.0)) (tokens_entry r i b.submitted) ∙ s.below;
  pending = s.pending;
  retired = s.retired;
  rising = s.rising;
  replayed = ap (λ (is : List ℕ). list_all (λ j. elemb j is) b.replayed) (ids_entry r i b.submitted) ∙ s.replayed;
}

ids_slots : (g : AttemptSlots → AttemptSlots) (i : ℕ) (ts : List SubmittedTx) → map id_of (change id_of i (with_slots g) ts) ≡ map id_of ts
ids_slots g i ts = map_change id_of id_of (with_slots g) (λ t. refl) i ts

sound_mark : (g : AttemptSlots → AttemptSlots) → ((s : AttemptSlots) → sound_slots s ≡ true → sound_slots (g s) ≡ true) → ((s : AttemptSlots) → Sub (slot_tokens (g s)) (slot_tokens s))
    → (i : ℕ) (b : Book) → SoundLists b → SoundLists (mark_book g i b)
unfolding mark_book
sound_mark g keeps fewer i b s = record {
  submitted = all_change sound_submitted id_of i (with_slots g) (sound_slots_lem g keeps) b.submitted s.submitted;
  ids = ap distinctb (ids_slots g i b.submitted) ∙ s.ids;
  tokens = distinct_sub (change_flat_sub tokens_of id_of i (with_slots g) (λ t. fewer t.slots) b.submitted) s.tokens;
  below = all_sub (λ t. ltb t b.next_token.0) (change_flat_sub tokens_of id_of i (with_slots g) (λ t. fewer t.slots) b.submitted) s.below;
  pending = s.pending;
  retired = s.retired;
  rising = s.rising;
  replayed = ap (λ (is : List ℕ). list_all (λ j. elemb j is) b.replayed) (ids_slots g i b.submitted) ∙ s.replayed;
}

-- ---- a new submission
sound_retained : (p : PendingSubmissionIntent) (b : Book) → SoundLists b → sound_intent p ≡ true → readable_bundle p.bundle ≡ true
    → elemb b.next_id.0 (map id_of b.submitted) ≡ false → SoundLists (retained p b)
unfolding retained
sound_retained p b s h r n = record {
  submitted = all_snoc sound_submitted b.submitted new s.submitted (sound_new b.next_id p h r);
  ids = ap distinctb ids_are_lem ∙ distinct_snoc (map id_of b.submitted) b.next_id.0 s.ids n;
  tokens = ap distinctb tokens_are ∙ s.tokens;
  below = ap (list_all (λ t. ltb t b.next_token.0)) tokens_are ∙ s.below;
  pending = s.pending;
  retired = s.retired;
  rising = s.rising;
  replayed = ap (λ (is : List ℕ). list_all (λ j. elemb j is) b.replayed) ids_are_lem
      ∙ all_weaken (λ j. elemb j (map id_of b.submitted)) (λ j. elemb j (map id_of b.submitted ++ b.next_id.0 ∷ [])) (λ j k. elem_append j (map id_of b.submitted) (b.next_id.0 ∷ []) ∙ ap (λ (t : Bool). t || elemb j (b.next_id.0 ∷ [])) k) b.replayed s.replayed;
}
  where
    new : SubmittedTx
    new = record { slots = no_slots; entry = new_entry b.next_id p }

    ids_are_lem : map id_of (b.submitted ++ new ∷ []) ≡ map id_of b.submitted ++ b.next_id.0 ∷ []
    ids_are_lem = unfold new_entry in go b.submitted
      where
        go : (ts : List SubmittedTx) → map id_of (ts ++ new ∷ []) ≡ map id_of ts ++ b.next_id.0 ∷ []
        go [] = refl
        go (t ∷ ts) = ap (λ (is : List ℕ). id_of t ∷ is) (go ts)

    tokens_are : flat_map tokens_of (b.submitted ++ new ∷ []) ≡ flat_map tokens_of b.submitted
    tokens_are = flat_append tokens_of b.submitted (new ∷ []) ∙ ap (λ (l : List ℕ). flat_map tokens_of b.submitted ++ (l ++ [])) tokens_no_slots ∙ append-nil (flat_map tokens_of b.submitted)

sound_retain : (p : PendingSubmissionIntent) (b : Book) → SoundLists b → SoundLists (retain_book p b)
unfolding retain_book retainable
sound_retain p b s = go (sound_intent p) refl (readable_bundle p.bundle) refl (elemb b.next_id.0 (map id_of b.submitted)) refl
  where
    go : (x : Bool) → sound_intent p ≡ x → (y : Bool) → readable_bundle p.bundle ≡ y → (z : Bool) → elemb b.next_id.0 (map id_of b.submitted) ≡ z → SoundLists (cond (x && y && not z) (retained p b) b)
    go false h y r z n = s
    go true h false r z n = s
    go true h true r true n = s
    go true h true r false n = sound_retained p b s h r n

-- ---- removal
sound_remove : (i : ℕ) (b : Book) → SoundLists b → SoundLists (remove_book i b)
unfolding remove_book forgotten without unqueued unreplayed
sound_remove i b s = record {
  submitted = all_sub sound_submitted less s.submitted;
  ids = distinct_sub (map_sub id_of less) s.ids;
  tokens = distinct_sub (flat_sub tokens_of less) s.tokens;
  below = all_sub (λ t. ltb t b.next_token.0) (flat_sub tokens_of less) s.below;
  pending = all_sub sound_delivery (filter_sub (λ d. not (is_id i d.intent.id)) b.pending) s.pending;
  retired = s.retired;
  rising = rising_sub (filter_sub (λ j. not (eqb j i)) b.replayed) s.rising;
  replayed = all_elem_without id_of i b.submitted b.replayed s.replayed;
}
  where
    less : Sub (filter (λ t. not (eqb (id_of t) i)) b.submitted) b.submitted
    less = filter_sub (λ t. not (eqb (id_of t) i)) b.submitted

-- ---- issuing
untouched : (i : ℕ) (g : AttemptSlots → AttemptSlots) (ts : List SubmittedTx) → elemb i (map id_of ts) ≡ false → change id_of i (with_slots g) ts ≡ ts
unfolding change
untouched i g [] n = refl
untouched i g (t ∷ ts) n =
    let u = or-false (eqb (id_of t) i) (elemb i (map id_of ts)) n in
    rw (u.0, untouched i g ts u.1)

issued_adds : (i n : ℕ) (g : SubmissionDeliveryGoal) (v : List ℕ) (ts : List SubmittedTx) → distinctb (map id_of ts) ≡ true → elemb i (map id_of ts) ≡ true
    → Adds n (flat_map tokens_of (change id_of i (with_slots (slots_issued (issue_attempt n g v))) ts)) (flat_map tokens_of ts)
unfolding change
issued_adds i n g v [] d h = absurd (false≢true h)
issued_adds i n g v (t ∷ ts) d h = go (eqb (id_of t) i) refl (λ d' h'. issued_adds i n g v ts d' h')
  where
    new : AttemptSlots → AttemptSlots
    new = slots_issued (issue_attempt n g v)

    u : (not (elemb (id_of t) (map id_of ts)) ≡ true) × (distinctb (map id_of ts) ≡ true)
    u = and_split (not (elemb (id_of t) (map id_of ts))) (distinctb (map id_of ts)) d

    here : eqb (id_of t) i ≡ true → Adds n (slot_tokens (new t.slots) ++ flat_map tokens_of (change id_of i (with_slots new) ts)) (tokens_of t ++ flat_map tokens_of ts)
    here q =
        let k = tokens_issued n g v t.slots in
        let e : elemb i (map id_of ts) ≡ false = subst (λ (j : ℕ). elemb j (map id_of ts) ≡ false) (eqb-true (id_of t) i q) (not-true (elemb (id_of t) (map id_of ts)) u.0) in
        rw (untouched i new ts e, k.1) (put (sub_append k.2 (sub_all (flat_map tokens_of ts))))

    go : (b : Bool) → eqb (id_of t) i ≡ b
        → (distinctb (map id_of ts) ≡ true → elemb i (map id_of ts) ≡ true → Adds n (flat_map tokens_of (change id_of i (with_slots new) ts)) (flat_map tokens_of ts))
        → Adds n (tokens_of (cond b (with_slots new t) t) ++ flat_map tokens_of (change id_of i (with_slots new) ts)) (tokens_of t ++ flat_map tokens_of ts)
    go true q ih = here q
    go false q ih = adds_after (tokens_of t) (ih u.1 (rw q at h))

sound_issue : (i : ℕ) (g : SubmissionDeliveryGoal) (v : List ℕ) (b : Book) → elemb i (map id_of b.submitted) ≡ true → SoundLists b → SoundLists (issue_book i g v b)
unfolding issue_book
sound_issue i g v b h s = record {
  submitted = all_change sound_submitted id_of i (with_slots new) (sound_slots_lem new (sound_issued n g v)) b.submitted s.submitted;
  ids = ap distinctb (ids_slots new i b.submitted) ∙ s.ids;
  tokens = distinct_adds added s.tokens (below_elem n (flat_map tokens_of b.submitted) s.below);
  below = all_adds (λ t. ltb t (suc n)) added (lt-ltb n (suc n) (omega arith))
      (all_weaken (λ t. ltb t n) (λ t. ltb t (suc n)) (λ t k. lt-ltb t (suc n) (let l = ltb-true t n k in omega arith)) (flat_map tokens_of b.submitted) s.below);
  pending = s.pending;
  retired = s.retired;
  rising = s.rising;
  replayed = ap (λ (is : List ℕ). list_all (λ j. elemb j is) b.replayed) (ids_slots new i b.submitted) ∙ s.replayed;
}
  where
    n : ℕ
    n = b.next_token.0

    new : AttemptSlots → AttemptSlots
    new = slots_issued (issue_attempt n g v)

    added : Adds n (flat_map tokens_of (change id_of i (with_slots new) b.submitted)) (flat_map tokens_of b.submitted)
    added = issued_adds i n g v b.submitted s.ids h

picked_elem : (i : ℕ) (ts : List SubmittedTx) {u : SubmittedTx} {us : List SubmittedTx} → pick id_of i ts ≡ u ∷ us → elemb i (map id_of ts) ≡ true
unfolding pick
picked_elem i [] {u} {us} e = absurd (cons≢nil (sym e))
picked_elem i (t ∷ ts) {u} {us} e = go (eqb (id_of t) i) e (λ k. picked_elem i ts k)
  where
    go : (b : Bool) → cond b (t ∷ pick id_of i ts) (pick id_of i ts) ≡ u ∷ us → (pick id_of i ts ≡ u ∷ us → elemb i (map id_of ts) ≡ true) → (b || elemb i (map id_of ts)) ≡ true
    go true k ih = refl
    go false k ih = ih k

sound_emit : (i : ℕ) (g : SubmissionDeliveryGoal) (b : Book) → SoundLists b → SoundLists (emit_book i g b).after
unfolding emit_book
sound_emit i g b s = go (pick id_of i b.submitted) refl
  where
    go : (ts : List SubmittedTx) → pick id_of i b.submitted ≡ ts → SoundLists (emit_to i g b ts).after
    go [] q = s
    go (t ∷ ts) q = sound_issue i g (current_fingerprint t.entry) b (picked_elem i b.submitted q) s

pub sound_step : (p : Step) (b : Book) → SoundLists b → SoundLists (on_book p b).after
unfolding on_book
sound_step (note n) b s = sound_note n b s
sound_step (revise i r) b s = sound_revise i r b s
sound_step (retain p) b s = sound_retain p b s
sound_step (emit i g) b s = sound_emit i g b s
sound_step (remove i) b s = sound_remove i b s
sound_step (set_aside i) b s = sound_mark slots_aside sound_aside tokens_aside i b s
sound_step (finalise i v) b s = sound_mark (slots_final v) (sound_final v) (tokens_final v) i b s
sound_step (replay i) b s = sound_replay i b s
