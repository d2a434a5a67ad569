-- Theorems on specs/Account/Fates.antt.
use Rattle.std.specs.Prelude.{ℕ, zero, suc, Bool, true, false, cond, ◌≡◌, refl, length, replicate}
use mathlib.Core.List.{List, [], ◌∷◌, ◌++◌, map}
use Rattle.std.proofs.Common.{sym, ap, ap₂, ◌∙◌}
use Rattle.std.proofs.lemmas.List.{length-replicate, length-map}
use Rattle.book.specs.declared.SubmittedEntry.{SubmittedEntry}
use Rattle.book.specs.declared.PendingSubmissionIntent.{PendingSubmissionIntent}
use Rattle.book.specs.declared.SubmissionDeliveryGoal.{SubmissionDeliveryGoal}
use Rattle.rules.specs.Keyed.{same_or_other, pick, change, pick_hit, pick_miss, picked_key, pick_change_same, pick_change_other}
use Rattle.rules.specs.Parts.{current_fingerprint}
use Rattle.rules.specs.Rule.{Step, note, revise, retain, emit, remove, set_aside, finalise, replay}
use Rattle.rules.specs.Steps.{retainable}
use Rattle.rules.specs.Steps.Slots.{handed}
use Rattle.rules_ledger.specs.Events.{Kind, emitted, removed, halted, Event, event, events_by, events_of, fates_of, emissions, last_fate, fates_since, fates_by}
use Rattle.rules_ledger.specs.Ledger.{live, Fate, displaced, struck, Row, Ledger, entry_id, row_id}
use Rattle.rules_ledger.specs.Steps.{on_ledger}
use Rattle.rules_ledger.specs.Steps.Emit.{displace, issue_ledger, emit_entry, emit_ledger, own, others}
use Rattle.rules_ledger.proofs.Steps.Emit.{displaced_all}
use Rattle.rules_ledger.specs.Steps.Finalise.{row_final, finalise_ledger}
use Rattle.rules_ledger.specs.Steps.Mark.{mark_ledger}
use Rattle.rules_ledger.specs.Steps.Note.{note_ledger, replay_ledger}
use Rattle.rules_ledger.specs.Steps.Remove.{struck_out, strike, remove_ledger}
use Rattle.rules_ledger.specs.Steps.Retain.{retained_ledger, retain_ledger}
use Rattle.rules_ledger.specs.Steps.Revise.{revise_ledger}
use Rattle.rules_ledger.specs.Steps.SetAside.{fate_aside, row_aside, set_aside_ledger}
use Rattle.rules_ledger.specs.Tidy.{Displaced, Fits, Tidy}
use Rattle.rules_ledger.specs.Account.Fates.{Settled}

-- ---- the fates by the events
map_displaced : (g : Fate → Fate) → g displaced ≡ displaced → (n : ℕ) → map g (replicate n displaced) ≡ replicate n displaced
map_displaced g e zero = refl
map_displaced g e (suc n) = ap₂ (λ f fs. f ∷ fs) e (map_displaced g e n)

removed_since : (gone halts : Bool) (ks : List Kind) → map struck_out (fates_since gone halts ks) ≡ fates_since true halts ks
removed_since gone halts [] = refl
removed_since gone halts (emitted ∷ ks) = ap₂ (λ f fs. f ∷ fs) (by gone halts) (map_displaced struck_out refl (emissions ks))
  where
    by : (gone halts : Bool) → struck_out (last_fate gone halts) ≡ struck
    by true halts = refl
    by false true = refl
    by false false = refl
removed_since gone halts (removed ∷ ks) = removed_since true halts ks
removed_since gone halts (halted ∷ ks) = removed_since gone true ks

halted_since : (gone halts : Bool) (ks : List Kind) → map fate_aside (fates_since gone halts ks) ≡ fates_since gone true ks
halted_since gone halts [] = refl
halted_since gone halts (emitted ∷ ks) = ap₂ (λ f fs. f ∷ fs) (by gone halts) (map_displaced fate_aside refl (emissions ks))
  where
    by : (gone halts : Bool) → fate_aside (last_fate gone halts) ≡ last_fate gone true
    by true halts = refl
    by false true = refl
    by false false = refl
halted_since gone halts (removed ∷ ks) = halted_since true halts ks
halted_since gone halts (halted ∷ ks) = halted_since gone true ks

token_each : (gone halts : Bool) (ks : List Kind) → length (fates_since gone halts ks) ≡ emissions ks
token_each gone halts [] = refl
token_each gone halts (emitted ∷ ks) = ap suc (length-replicate (emissions ks) displaced)
token_each gone halts (removed ∷ ks) = token_each true halts ks
token_each gone halts (halted ∷ ks) = token_each gone true ks

-- ---- the fates in the rows
module _ (f : Row → Row) (g : Fate → Fate) (ids : (r : Row) → (f r).id ≡ r.id) (fates : (r : Row) → (f r).fate ≡ g r.fate) where
  map_fates : (rs : List Row) → map (λ r. r.fate) (map f rs) ≡ map g (map (λ r. r.fate) rs)
  map_fates [] = refl
  map_fates (r ∷ rs) = ap₂ (λ x xs. x ∷ xs) (fates r) (map_fates rs)

  -- an event of one submission that changes its fates by g
  turned : (k : Kind) → ((ks : List Kind) → map g (fates_by ks) ≡ fates_by (k ∷ ks)) → (j : ℕ) (rows : List Row) (es : List Event)
      → Settled rows es → Settled (change row_id j f rows) (event k j ∷ es)
  turned k turn j rows es h i = same_or_other j i
      (λ e. rw (e, pick_change_same row_id f ids i rows, pick_hit (λ (x : Event). x.id) i (event k i) es refl, map_fates (pick row_id i rows), h i) (turn (events_of i es)))
      (λ n. rw (pick_change_other row_id f ids j i rows n, pick_miss (λ (x : Event). x.id) i (event k j) es n) (h i))

same_fates : (f : Row → Row) → ((r : Row) → (f r).id ≡ r.id) → ((r : Row) → (f r).fate ≡ r.fate) → (j : ℕ) (rows : List Row) (es : List Event)
    → Settled rows es → Settled (change row_id j f rows) es
same_fates f ids fates j rows es h i = same_or_other j i
    (λ e. rw (e, pick_change_same row_id f ids i rows, map_fates f (λ x. x) ids fates (pick row_id i rows)) (same (pick row_id i rows) ∙ h i))
    (λ n. rw (pick_change_other row_id f ids j i rows n) (h i))
  where
    same : (rs : List Row) → map (λ (x : Fate). x) (map (λ (r : Row). r.fate) rs) ≡ map (λ (r : Row). r.fate) rs
    same [] = refl
    same (r ∷ rs) = ap (λ fs. r.fate ∷ fs) (same rs)

all_displaced : (rs : List Row) → Displaced rs → map (λ r. r.fate) rs ≡ replicate (length rs) displaced
all_displaced [] h = refl
all_displaced (r ∷ rs) h = ap₂ (λ f fs. f ∷ fs) h.0 (all_displaced rs h.1)

-- ---- the steps
module _ (j : ℕ) (g : SubmissionDeliveryGoal) {o : ℕ} (l : Ledger) (t : Tidy o l) (es : List Event) (h : Settled l.rows es) where
  -- the row of the new token, and all before it displaced
  issued : (v : List ℕ) (e : SubmittedEntry) → Fits (e ∷ []) (pick row_id j l.rows) → fates_of j (issue_ledger j g v l).rows ≡ fates_by (emitted ∷ events_of j es)
  issued v e k = rw (own j g v l) (ap (λ fs. live ∷ fs) (
      all_displaced (map displace (pick row_id j l.rows)) (displaced_all e (pick row_id j l.rows) k)
      ∙ ap (λ n. replicate n displaced) (length-map (pick row_id j l.rows) displace ∙ sym (length-map (pick row_id j l.rows) (λ r. r.fate)) ∙ ap length (h j) ∙ token_each false false (events_of j es))
      ))

  now : (v : List ℕ) (e : SubmittedEntry) → Fits (e ∷ []) (pick row_id j l.rows) → Settled (issue_ledger j g v l).rows (event emitted j ∷ es)
  now v e k i = same_or_other j i
      (λ q. rw (← q, pick_hit (λ (x : Event). x.id) j (event emitted j) es refl) (issued v e k))
      (λ n. rw (others j g v l i n, pick_miss (λ (x : Event). x.id) i (event emitted j) es n) (h i))

  emit_settles : (ds : List SubmittedEntry) → pick entry_id j l.entries ≡ ds
      → Settled (emit_entry j g l ds).after.rows (events_by (emit j g) (emit_entry j g l ds).out ++ es)
  unfolding handed
  emit_settles [] q = h
  emit_settles (e ∷ []) q = rw (picked_key entry_id j l.entries q) (now (current_fingerprint e) e (rw q at (t.places j).fits))
  emit_settles (e ∷ e' ∷ ds) q = absurd (rw q at (t.places j).fits)

retain_settles : (p : PendingSubmissionIntent) (l : Ledger) (es : List Event) (b : Bool) → Settled l.rows es → Settled (cond b (retained_ledger p l) l).rows es
unfolding retained_ledger
retain_settles p l es true h = h
retain_settles p l es false h = h

pub settles : {o : ℕ} (p : Step) (l : Ledger) (es : List Event) → Tidy o l → Settled l.rows es
    → Settled (on_ledger p l).after.rows (events_by p (on_ledger p l).out ++ es)
unfolding on_ledger note_ledger revise_ledger retain_ledger emit_ledger remove_ledger set_aside_ledger finalise_ledger replay_ledger mark_ledger
settles (note n) l es t h = h
settles (revise i r) l es t h = h
settles (retain p) l es t h = retain_settles p l es (retainable p l.next_id (map entry_id l.entries)) h
settles (emit i g) l es t h = emit_settles i g l t es h (pick entry_id i l.entries) refl
settles (remove i) l es t h = turned strike struck_out (λ r. refl) (λ r. refl) removed (removed_since false false) i l.rows es h
settles (set_aside i) l es t h = turned row_aside fate_aside (λ r. refl) (λ r. refl) halted (halted_since false false) i l.rows es h
settles (finalise i v) l es t h = same_fates (row_final v) (λ r. refl) (λ r. refl) i l.rows es h
settles (replay i) l es t h = h
