-- Every step that is within the types keeps the book within them.
use Rattle.std.specs.Prelude.{ℕ, suc, Bool, true, false, cond, ◌&&◌, List, [], ◌∷◌, ◌++◌, map, eqb}
use Rattle.std.proofs.Math.Bool.{not}
use Rattle.base_lists.specs.Lists.{elemb, insert_up}
use Rattle.std.specs.List.{filter}
use Rattle.book.specs.declared.AttemptSlots.{AttemptSlots}
use Rattle.book.specs.declared.SubmittedTx.{SubmittedTx}
use Rattle.book.specs.declared.PendingSubmissionIntent.{PendingSubmissionIntent}
use Rattle.book.specs.declared.SubmissionDeliveryGoal.{SubmissionDeliveryGoal}
use Rattle.book.specs.Model.{Book}
use Rattle.book.specs.Sound.{sound_delivery, id_of}
use Rattle.book.specs.Zero.{no_slots}
use Rattle.book.specs.Typed.{Every, U64, Bytes, TypedOptionalHeight, TypedSlots, TypedSubmitted, TypedIntent, TypedDelivery}
use Rattle.rules.specs.Keyed.{pick, change, without}
use Rattle.rules.specs.Parts.{current_fingerprint}
use Rattle.rules.specs.Rule.{Revision, Note, enqueue, unqueue, retire, unreplay, unqueue_all, unretire_all, begin_epoch, end_epoch, Step, note, revise, retain, emit, remove, set_aside, finalise, replay}
use Rattle.rules.specs.Steps.{with_submitted, with_rest, with_entry, with_slots, note_book, revise_book, retainable, retained, retain_book, issue_book, emit_to, emit_book, remove_book, mark_book, replay_book, on_book}
use Rattle.rules.specs.Steps.Entry.{revised, new_entry}
use Rattle.rules.specs.Steps.Notes.{Rest, is_id, unqueued, unreplayed, noted, forgotten, replayed_with}
use Rattle.rules.specs.Steps.Slots.{issue_attempt, slots_issued, slots_aside, slots_final}
use Rattle.rules_typed.specs.Every.{either, every_filter, every_end, every_change, every_push, every_insert}
use Rattle.rules_typed.specs.Parts.{current_typed, no_slots_typed, issued_typed, aside_typed, final_typed, slots_within, entry_within, new_typed}
use Rattle.rules_typed.specs.Typing.{Within, TypedNote, TypedRevision, TypedStep}

-- ---- what no attempt depends on
rest_within : (b : Book) (s : Rest) → Within b → Every TypedDelivery s.pending → Every U64 s.retired → TypedOptionalHeight s.rollback → Every U64 s.replayed → Within (with_rest s b)
rest_within b s w p r h e = record { token = w.token; id = w.id; submitted = w.submitted; pending = p; retired = r; rollback = h; replayed = e }

unqueued_typed : (b : Book) (i : ℕ) → Within b → Every TypedDelivery (unqueued i b.pending)
unfolding unqueued
unqueued_typed b i w = every_filter TypedDelivery (λ d. not (is_id i d.intent.id)) b.pending w.pending

unreplayed_typed : (b : Book) (i : ℕ) → Within b → Every U64 (unreplayed i b.replayed)
unfolding unreplayed
unreplayed_typed b i w = every_filter U64 (λ j. not (eqb j i)) b.replayed w.replayed

typed_note : (n : Note) (b : Book) → Within b → TypedNote n → Within (note_book n b)
unfolding note_book noted
typed_note (enqueue d) b w h =
    rest_within b _ w (either (Every TypedDelivery) (sound_delivery d) (b.pending ++ (d ∷ [])) b.pending (every_end TypedDelivery b.pending d w.pending h) w.pending) w.retired w.rollback w.replayed
typed_note (unqueue i) b w h = rest_within b _ w (unqueued_typed b i w) w.retired w.rollback w.replayed
typed_note (retire i) b w h = rest_within b _ w w.pending (every_push U64 b.retired i w.retired h) w.rollback w.replayed
typed_note (unreplay i) b w h = rest_within b _ w w.pending w.retired w.rollback (unreplayed_typed b i w)
typed_note unqueue_all b w h = rest_within b _ w tt w.retired w.rollback w.replayed
typed_note unretire_all b w h = rest_within b _ w w.pending tt w.rollback w.replayed
typed_note (begin_epoch k) b w h = rest_within b _ w w.pending w.retired h tt
typed_note end_epoch b w h = rest_within b _ w w.pending w.retired tt tt

typed_replay : (i : ℕ) (b : Book) → Within b → U64 i → Within (replay_book i b)
unfolding replay_book replayed_with
typed_replay i b w h =
    rest_within b _ w w.pending w.retired w.rollback
    (either (Every U64) (elemb i (map id_of b.submitted) && not (elemb i b.replayed)) (insert_up i b.replayed) b.replayed (every_insert U64 i b.replayed h w.replayed) w.replayed)

-- ---- submissions
submitted_within : (b : Book) (ts : List SubmittedTx) → Within b → Every TypedSubmitted ts → Within (with_submitted ts b)
submitted_within b ts w h = record { token = w.token; id = w.id; submitted = h; pending = w.pending; retired = w.retired; rollback = w.rollback; replayed = w.replayed }

typed_revise : (i : ℕ) (r : Revision) (b : Book) → Within b → TypedRevision r → Within (revise_book i r b)
unfolding revise_book
typed_revise i r b w h = submitted_within b _ w (every_change TypedSubmitted id_of i (with_entry (revised r)) (entry_within r h) b.submitted w.submitted)

typed_mark : (g : AttemptSlots → AttemptSlots) → ((s : AttemptSlots) → TypedSlots s → TypedSlots (g s)) → (i : ℕ) (b : Book) → Within b → Within (mark_book g i b)
unfolding mark_book
typed_mark g h i b w = submitted_within b _ w (every_change TypedSubmitted id_of i (with_slots g) (slots_within g h) b.submitted w.submitted)

typed_retain : (p : PendingSubmissionIntent) (b : Book) → Within b → TypedIntent p → U64 (suc b.next_id.0) → Within (retain_book p b)
unfolding retain_book retained
typed_retain p b w h k = either Within (retainable p b.next_id.0 (map id_of b.submitted)) (retained p b) b
    (record {
      token = w.token;
      id = k;
      submitted = every_end TypedSubmitted b.submitted _ w.submitted (record { slots = no_slots_typed; entry = new_typed b.next_id p w.id h });
      pending = w.pending;
      retired = w.retired;
      rollback = w.rollback;
      replayed = w.replayed;
    })
    w

typed_issue : (i : ℕ) (g : SubmissionDeliveryGoal) (v : List ℕ) (b : Book) → Within b → Bytes 32 v → U64 (suc b.next_token.0) → Within (issue_book i g v b)
unfolding issue_book
typed_issue i g v b w h k = record {
  token = k;
  id = w.id;
  submitted = every_change TypedSubmitted id_of i _ (slots_within _ (λ s x. issued_typed b.next_token.0 g v s w.token h x)) b.submitted w.submitted;
  pending = w.pending;
  retired = w.retired;
  rollback = w.rollback;
  replayed = w.replayed;
}

typed_emit : (i : ℕ) (g : SubmissionDeliveryGoal) (b : Book) (ts : List SubmittedTx) → Within b → U64 (suc b.next_token.0) → Within (emit_to i g b ts).after
typed_emit i g b [] w h = w
typed_emit i g b (t ∷ ts) w h = typed_issue i g (current_fingerprint t.entry) b w (current_typed t.entry) h

typed_remove : (i : ℕ) (b : Book) → Within b → Within (remove_book i b)
unfolding remove_book forgotten
typed_remove i b w =
    let c = with_submitted (without id_of i b.submitted) b in
    rest_within c _ (submitted_within b _ w (unfold without in every_filter TypedSubmitted (λ t. not (eqb (id_of t) i)) b.submitted w.submitted))
    (unqueued_typed b i w) w.retired w.rollback (unreplayed_typed b i w)

pub typed_step : (p : Step) (b : Book) → Within b → TypedStep p b → Within (on_book p b).after
unfolding on_book emit_book
typed_step (note n) b w h = typed_note n b w h
typed_step (revise i r) b w h = typed_revise i r b w h
typed_step (retain p) b w h = typed_retain p b w h.0 h.1
typed_step (emit i g) b w h = typed_emit i g b (pick id_of i b.submitted) w h
typed_step (remove i) b w h = typed_remove i b w
typed_step (set_aside i) b w h = typed_mark slots_aside aside_typed i b w
typed_step (finalise i v) b w h = typed_mark (slots_final v) (λ s x. final_typed v s h x) i b w
typed_step (replay i) b w h = typed_replay i b w h
