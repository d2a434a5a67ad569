-- The steps without their guards; rules whose steps the guards take run alike with them.
use Rattle.std.specs.Prelude.{ℕ, Bool, true, [], ◌∷◌, ◌++◌, map, ◌≡◌}
use Rattle.book.specs.declared.SubmittedEntry.{SubmittedEntry}
use Rattle.book.specs.Model.{Book}
use Rattle.book.specs.declared.refusal.Refusal.{Refusal}
use Rattle.book.specs.Sound.{sound_bundle, sound_delivery, id_of}
use Rattle.book.specs.SoundLaws.{SoundLists}
use Rattle.rules.specs.Calls.Plan.{last64}
use Rattle.rules.specs.Keyed.{change}
use Rattle.rules.specs.Rule.{Rule, Outcome, Effect, run}
use Rattle.rules.specs.Rule.{Revision, tighten, acknowledge, attach, terminality, reopen, Note, enqueue, unqueue, retire, unreplay, unqueue_all, unretire_all, begin_epoch, end_epoch}
use Rattle.rules.specs.Rule.{Step, note, revise, retain, emit, remove, set_aside, finalise, replay}
use Rattle.rules.specs.Steps.{with_submitted, rest_of, with_rest, with_entry, note_book, retainable, retained, silent, on_book}
use Rattle.rules.specs.Steps.Entry.{with_joined, with_state, revised}
use Rattle.rules.specs.Steps.Notes.{with_pending}
use Rattle.rules_laws.specs.Held.{HeldTo}

-- ---- the guards
abbrev pub takes_note : Note → Bool
takes_note (enqueue d) = sound_delivery d
takes_note (unqueue i) = true
takes_note (retire i) = true
takes_note (unreplay i) = true
takes_note unqueue_all = true
takes_note unretire_all = true
takes_note (begin_epoch h) = true
takes_note end_epoch = true

abbrev pub takes_revision : Revision → Bool
takes_revision (tighten x) = true
takes_revision (acknowledge f) = true
takes_revision (attach j) = sound_bundle j
takes_revision (terminality c) = true
takes_revision reopen = true

abbrev pub takes : Step → Book → Bool
takes (note n) b = takes_note n
takes (revise i r) b = takes_revision r
takes (retain p) b = retainable p b.next_id.0 (map id_of b.submitted)
takes (emit i g) b = true
takes (remove i) b = true
takes (set_aside i) b = true
takes (finalise i v) b = true
takes (replay i) b = true

-- ---- the steps without them
unfoldable pub bare_note : Note → Book → Book
unfolding note_book
bare_note (enqueue d) b = with_rest (with_pending (b.pending ++ d ∷ []) (rest_of b)) b
bare_note (unqueue i) b = note_book (unqueue i) b
bare_note (retire i) b = note_book (retire i) b
bare_note (unreplay i) b = note_book (unreplay i) b
bare_note unqueue_all b = note_book unqueue_all b
bare_note unretire_all b = note_book unretire_all b
bare_note (begin_epoch h) b = note_book (begin_epoch h) b
bare_note end_epoch b = note_book end_epoch b

unfoldable pub bare_revision : Revision → SubmittedEntry → SubmittedEntry
unfolding revised
bare_revision (tighten x) e = revised (tighten x) e
bare_revision (acknowledge f) e = revised (acknowledge f) e
bare_revision (attach j) e = with_state (λ p s. with_joined p j s) e
bare_revision (terminality c) e = revised (terminality c) e
bare_revision reopen e = revised reopen e

unfoldable pub bare_step : Step → Book → Effect Book
unfolding on_book bare_note bare_revision change retained
bare_step (note n) b = silent (bare_note n) b
bare_step (revise i r) b = silent (λ m. with_submitted (change id_of i (with_entry (bare_revision r)) m.submitted) m) b
bare_step (retain p) b = silent (retained p) b
bare_step (emit i g) b = on_book (emit i g) b
bare_step (remove i) b = on_book (remove i) b
bare_step (set_aside i) b = on_book (set_aside i) b
bare_step (finalise i v) b = on_book (finalise i v) b
bare_step (replay i) b = on_book (replay i) b

abbrev pub run_bare : {A : Type 0} → Rule A → Book → Outcome Book A
run_bare = run (λ b. b) bare_step

-- ---- rules whose steps the guards take in every sound book, and that are stopped at the last token alone
abbrev pub Taken : Step → Book → Type 0
Taken p b = takes p b ≡ true

abbrev pub AtLast : Refusal → Book → Type 0
AtLast n b = b.next_token.0 ≡ last64

abbrev pub TakenTo : {A : Type 0} → (A → Type 0) → Book → Rule A → Type 0
TakenTo = HeldTo SoundLists Taken AtLast
