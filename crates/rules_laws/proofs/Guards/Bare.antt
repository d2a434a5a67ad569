-- Theorems on specs/Guards/Bare.antt.
use Rattle.std.specs.Prelude.{ℕ, Bool, true, cond, ◌&&◌, [], ◌∷◌, ◌++◌, ◌≡◌, refl}
use Rattle.std.proofs.Common.{ap, sym, ◌∙◌}
use Rattle.book.specs.Model.{Book}
use Rattle.book.specs.Sound.{id_of}
use Rattle.book.specs.SoundLaws.{SoundLists}
use Rattle.rules.specs.Keyed.{change}
use Rattle.rules.specs.Rule.{done, Rule, undo, stop, look, act, turn, Outcome, Effect, logged, guarded, grows, full, run}
use Rattle.rules.specs.Rule.{Revision, tighten, acknowledge, attach, terminality, reopen, Note, enqueue, unqueue, retire, unreplay, unqueue_all, unretire_all, begin_epoch, end_epoch}
use Rattle.rules.specs.Rule.{Step, note, revise, retain, emit, remove, set_aside, finalise, replay}
use Rattle.rules.specs.Steps.{with_submitted, rest_of, with_rest, with_entry, note_book, revise_book, retained, retain_book, on_book, run_book}
use Rattle.rules.specs.Steps.Entry.{with_joined, revised_state, with_state, revised}
use Rattle.rules.specs.Steps.Notes.{with_pending, noted}
use Rattle.rules_laws.specs.Sound.Steps.{sound_step}
use Rattle.rules_laws.specs.Guards.Bare.{takes_note, takes_revision, takes, bare_note, bare_revision, bare_step, run_bare, TakenTo}

-- ---- what the guard takes is done as without it
bare_note_lem : (n : Note) (b : Book) → takes_note n ≡ true → bare_note n b ≡ note_book n b
unfolding bare_note note_book noted
bare_note_lem (enqueue d) b h = ap (λ (t : Bool). with_rest (with_pending (cond t (b.pending ++ d ∷ []) b.pending) (rest_of b)) b) (sym h)
bare_note_lem (unqueue i) b h = refl
bare_note_lem (retire i) b h = refl
bare_note_lem (unreplay i) b h = refl
bare_note_lem unqueue_all b h = refl
bare_note_lem unretire_all b h = refl
bare_note_lem (begin_epoch x) b h = refl
bare_note_lem end_epoch b h = refl

bare_revise : (i : ℕ) (r : Revision) (b : Book) → takes_revision r ≡ true → with_submitted (change id_of i (with_entry (bare_revision r)) b.submitted) b ≡ revise_book i r b
unfolding bare_revision revise_book revised revised_state
bare_revise i (tighten x) b h = refl
bare_revise i (acknowledge f) b h = refl
bare_revise i (attach j) b h = ap (λ (t : Bool). with_submitted (change id_of i (with_entry (with_state (λ p s. cond t (with_joined p j s) s))) b.submitted) b) (sym h)
bare_revise i (terminality c) b h = refl
bare_revise i reopen b h = refl

pub bare_is : (p : Step) (b : Book) → takes p b ≡ true → bare_step p b ≡ on_book p b
unfolding bare_step on_book retain_book
bare_is (note n) b h = ap (λ (c : Book). record { after = c; out = [] }) (bare_note_lem n b h)
bare_is (revise i r) b h = ap (λ (c : Book). record { after = c; out = [] }) (bare_revise i r b h)
bare_is (retain p) b h = ap (λ (t : Bool). record { after = cond t (retained p b) b; out = [] }) (sym h)
bare_is (emit i g) b h = refl
bare_is (remove i) b h = refl
bare_is (set_aside i) b h = refl
bare_is (finalise i v) b h = refl
bare_is (replay i) b h = refl

pub bare_run : {A : Type 0} (P : A → Type 0) (r : Rule A) (b : Book) → SoundLists b → TakenTo P b r → run_bare r b ≡ run_book r b
unfolding run
bare_run P (done a) b s h = refl
bare_run P (undo n) b s h = refl
bare_run P (stop n) b s h = refl
bare_run P (look k) b s h = bare_run P (k b) b s h
bare_run {A} P (act p r) b s h =
    let c = (on_book p b).after in
    ap (λ (x : Effect Book). guarded (grows p && full x.after) (logged x.out (run_bare r x.after))) (bare_is p b h.0)
    ∙ ap (λ (k : Outcome Book A). guarded (grows p && full c) (logged (on_book p b).out k)) (bare_run P r c (sound_step p b s) (h.1 c (sound_step p b s)))
bare_run P (turn r) b s h = bare_run P r b s h
