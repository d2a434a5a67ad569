-- What the rules of a call say where they end, and how many submissions they have handed out by then.
use Rattle.std.specs.Prelude.{ℕ, suc, ◌+◌, ◌≤◌, Bool, true, false, cond, not, ◌&&◌, ◌≡◌, refl, ltb, length}
use mathlib.Core.List.{List, [], ◌∷◌, map}
use Rattle.std.specs.Prelude.{Option, None, Some}
use native.Mathlib.Omega.{arith}
use Rattle.std.proofs.Math.Dec.{eqb}
use Rattle.std.proofs.Math.ListN.{length-map}
use Rattle.base_lists.specs.Bytes.{eqs}
use Rattle.base_lists.specs.Laws.{filter_length, rising_length}
use Rattle.base_lists.specs.Lists.{elemb, rising}
use Rattle.std.specs.List.{filter}
use Rattle.base_coin_string.specs.CoinIds.{id_listb, ids_in}
use Rattle.base_coin_string.specs.CoinList.{coins_in, coin_listb}
use Rattle.book.specs.declared.SpendBundle.{SpendBundle}
use Rattle.book.specs.declared.SubmissionFeeIntent.{SubmissionFeeIntent}
use Rattle.book.specs.declared.DeliveryAttempt.{DeliveryAttempt}
use Rattle.book.specs.declared.SubmittedEntry.{SubmittedEntry}
use Rattle.book.specs.declared.SubmittedTx.{SubmittedTx}
use Rattle.book.specs.Model.{Book}
use Rattle.book.specs.Sound.{id_of}
use Rattle.book.specs.Typed.{Every, U8, TypedBundle, TypedFeeIntent, TypedAttempt, TypedEntry, TypedSubmitted}
use Rattle.book.specs.Zero.{zero_fee_intent}
use Rattle.archive_laws.specs.Cells.{every_append, every_replicate}
use Rattle.book_answers.specs.declared.DrainedSubmission.{DrainedSubmission}
use Rattle.book_answers.specs.declared.FinalizedSubmission.{FinalizedSubmission}
use Rattle.book_answers.specs.declared.SubmissionDrainFailure.{SubmissionDrainFailure}
use Rattle.book_answers.specs.declared.SubmissionFeeSource.{SubmissionFeeSource}
use Rattle.rules.specs.Doors.{ids_ok}
use Rattle.rules.specs.Keyed.{pick}
use Rattle.rules.specs.Parts.{current_bundle, current_fingerprint, fee_unresolved, open_fee_intent, validate, active_entry}
use Rattle.rules.specs.Rule.{Step, note, revise, retain, emit, remove, set_aside, finalise, replay, Rule, done, undo, stop, look, act, turn, ◌>>◌, Outcome, ended, undone, stopped, logged, guarded, grows, full, run}
use Rattle.rules.specs.Steps.{emit_to, emit_book, on_book, run_book}
use Rattle.rules.specs.Steps.Slots.{handed}
use Rattle.rules.specs.Calls.ActiveIds.{active_ids}
use Rattle.rules.specs.Calls.Attempt.{attempt_by, attempt}
use Rattle.rules.specs.Calls.CausallyRolledBackIds.{rolled_back, causally_rolled_back_ids}
use Rattle.rules.specs.Calls.Common.{Found, live, aside, gone, never_issued, has_token, live_at, is_aside, found_by, find, by_live, with_live, withdraw, withdraw_each}
use Rattle.rules.specs.Calls.DrainRetirements.{drain_retirements}
use Rattle.rules.specs.Calls.FeeIntentForAttempt.{fee_intent_for_attempt}
use Rattle.rules.specs.Calls.FinalizeAttempt.{is_joined, is_not_requested, finalize_as, finalize_with, finalize_live, sound_source, finalize_attempt}
use Rattle.rules.specs.Calls.Finalized.{unused_fee, current_final, attached_final}
use Rattle.rules.specs.Calls.RetainSubmitted.{to_remove, retain_submitted}
use Rattle.rules_laws.specs.Sound.Run.{SoundBook}
use Rattle.rules_typed.specs.Every.{either, every_filter}
use Rattle.rules_typed.specs.Parts.{variant_typed, current_typed}
use Rattle.rules_typed.specs.Steps.{typed_step}
use Rattle.rules_typed.specs.Typing.{Within, TypedTo}

-- ---- rule trees: P is asked where they end, of the number handed out by then. Behind a step the book is any
abbrev pub more : Step → ℕ → ℕ
more (note n) k = k
more (revise i r) k = k
more (retain p) k = k
more (emit i g) k = suc k
more (remove i) k = k
more (set_aside i) k = k
more (finalise i v) k = k
more (replay i) k = k

abbrev pub Says : {A : Type 0} → (ℕ → A → Type 0) → ℕ → Book → Rule A → Type 0
Says P k b (done a) = P k a
Says P k b (undo n) = Unit {0}
Says P k b (stop n) = Unit {0}
Says P k b (look f) = Says P k b (f b)
Says P k b (act p r) = (c : Book) → Says P (more p k) c r
Says P k b (turn r) = Says P k b r

abbrev pub SaidIn : {A : Type 0} → (ℕ → A → Type 0) → ℕ → Outcome Book A → Type 0
SaidIn P k (ended m xs a) = (n : ℕ) × (P n a × (k + length xs ≤ n))
SaidIn P k (undone n) = Unit {0}
SaidIn P k (stopped m xs n) = Unit {0}

pub says_cond : {A : Type 0} (P : ℕ → A → Type 0) (k : ℕ) (b : Book) (t : Bool) (x y : Rule A) → Says P k b x → Says P k b y → Says P k b (cond t x y)
says_cond P k b true x y h g = h
says_cond P k b false x y h g = g

-- ---- a drain: at most 16 submissions and at most 16 failures
abbrev pub Prints : List SubmissionDrainFailure → Type 0
Prints fs = Every (λ f. length f.intent_fingerprint ≡ 32) fs

pub data DrainSays (k : ℕ) : List SubmissionDrainFailure → Type 0 where
  drain_says : (fs : List SubmissionDrainFailure) → k ≤ 16 → length fs ≤ 16 → Prints fs → DrainSays k fs

-- ---- what is handed out is within the types
pub record TypedDrained (d : DrainedSubmission) : Type 0 where
  pub bundle : TypedBundle d.bundle
  pub fee_intent : TypedFeeIntent d.fee_intent

module _ (e : SubmittedEntry) (w : TypedEntry e) where
  current_bundle_typed : TypedBundle (current_bundle e)
  unfolding current_bundle
  current_bundle_typed = either TypedBundle e.state.current_variant.fee_bearing e.state.current_variant.bundle e.intent.base_bundle w.state.current.bundle w.intent.base

  open_fee_typed : TypedFeeIntent (open_fee_intent e)
  unfolding open_fee_intent zero_fee_intent
  open_fee_typed =
      either TypedFeeIntent (fee_unresolved e) e.intent.fee_intent zero_fee_intent w.intent.fee_intent
      (record { target = record { long = refl; each = every_replicate U8 32 0 (omega arith) }; amount = omega arith })

abbrev pub IssuedIn : {A : Type 0} → Outcome Book A → Type 0
IssuedIn (ended m xs a) = Every TypedDrained xs
IssuedIn (undone n) = Unit {0}
IssuedIn (stopped m xs n) = Every TypedDrained xs

issued_logged : {A : Type 0} (t : Bool) (xs : List DrainedSubmission) (o : Outcome Book A) → Every TypedDrained xs → IssuedIn o → IssuedIn (guarded t (logged xs o))
issued_logged true xs o h k = tt
issued_logged false xs (ended m ys a) h k = every_append TypedDrained xs ys h k
issued_logged false xs (undone n) h k = tt
issued_logged false xs (stopped m ys n) h k = every_append TypedDrained xs ys h k

step_issued : (p : Step) (b : Book) → Within b → Every TypedDrained (on_book p b).out
unfolding on_book emit_book
step_issued (note n) b w = tt
step_issued (revise i r) b w = tt
step_issued (retain p) b w = tt
step_issued (emit i g) b w = go (pick id_of i b.submitted) (unfold pick in every_filter TypedSubmitted (λ t. eqb (id_of t) i) b.submitted w.submitted)
  where
    go : (ts : List SubmittedTx) → Every TypedSubmitted ts → Every TypedDrained (emit_to i g b ts).out
    go [] h = tt
    go (t ∷ ts) h = (unfold handed in record { bundle = current_bundle_typed t.entry h.0.entry; fee_intent = open_fee_typed t.entry h.0.entry }, tt)
step_issued (remove i) b w = tt
step_issued (set_aside i) b w = tt
step_issued (finalise i v) b w = tt
step_issued (replay i) b w = tt

pub issued_typed : {A : Type 0} (P : A → Type 0) (r : Rule A) (b : Book) → Within b → TypedTo P b r → IssuedIn (run_book r b)
unfolding run
issued_typed P (done a) b w h = tt
issued_typed P (undo n) b w h = tt
issued_typed P (stop n) b w h = tt
issued_typed P (look k) b w h = issued_typed P (k b) b w h
issued_typed P (act p r) b w h =
    let c = (on_book p b).after in
    let x = typed_step p b w h.0 in
    issued_logged (grows p && full c) (on_book p b).out (run_book r c) (step_issued p b w) (issued_typed P r c x (h.1 c x))
issued_typed P (turn r) b w h = issued_typed P r b w h

-- ---- the other answers, on a book within the types
pub record TypedFinal (f : FinalizedSubmission) : Type 0 where
  pub bundle : TypedBundle f.bundle
  pub fingerprint : length f.variant_fingerprint ≡ 32

pub data FinalSays (k : ℕ) : Option FinalizedSubmission → Type 0 where
  no_final : FinalSays k None
  one_final : (f : FinalizedSubmission) → TypedFinal f → FinalSays k (Some f)

pub data FeeIntentSays (k : ℕ) : Option SubmissionFeeIntent → Type 0 where
  no_intent : FeeIntentSays k None
  one_intent : (f : SubmissionFeeIntent) → TypedFeeIntent f → FeeIntentSays k (Some f)

pub data AttemptSays (k : ℕ) : Option DeliveryAttempt → Type 0 where
  no_attempt : AttemptSays k None
  one_attempt : (a : DeliveryAttempt) → TypedAttempt a → AttemptSays k (Some a)

pub data IdsSay (k : ℕ) : List ℕ → Type 0 where
  ids_say : (is : List ℕ) → length is ≤ 64 → IdsSay k is

-- the submission of a live token
LiveIn : Found → Type 0
LiveIn (live s) = TypedSubmitted s
LiveIn aside = Unit {0}
LiveIn gone = Unit {0}
LiveIn never_issued = Unit {0}

found_live : (below set : Bool) (ts : List SubmittedTx) → Every TypedSubmitted ts → LiveIn (found_by below set ts)
unfolding LiveIn
found_live below set (t ∷ ts) h = h.0
found_live true true [] h = tt
found_live true false [] h = tt
found_live false set [] h = tt

find_live : (t : ℕ) (b : Book) → Within b → LiveIn (find t b)
unfolding find live_at
find_live t b w = found_live (ltb t b.next_token.0) (is_aside t b) (live_at t b) (every_filter TypedSubmitted (λ s. has_token t s.slots.active_attempt) b.submitted w.submitted)

module _ {A : Type 0} (P : ℕ → A → Type 0) where
  says_by_live : (v : A) (k : SubmittedTx → Rule A) (b : Book) → P 0 v → ((s : SubmittedTx) → TypedSubmitted s → Says P 0 b (k s)) → (f : Found) → LiveIn f → Says P 0 b (by_live v k f)
  unfolding LiveIn
  says_by_live v k b n h (live s) w = h s w
  says_by_live v k b n h aside w = n
  says_by_live v k b n h gone w = n
  says_by_live v k b n h never_issued w = tt

  says_live : (t : ℕ) (v : A) (k : SubmittedTx → Rule A) (b : Book) → Within b → P 0 v → ((s : SubmittedTx) → TypedSubmitted s → Says P 0 b (k s)) → Says P 0 b (with_live t v k)
  unfolding with_live
  says_live t v k b w n h = says_by_live v k b n h (find t b) (find_live t b w)

  says_withdraws : (v : A) → P 0 v → (is : List ℕ) (b : Book) → Says P 0 b (withdraw_each is >> done v)
  unfolding withdraw_each withdraw
  says_withdraws v h [] b = h
  says_withdraws v h (i ∷ is) b = λ c d. says_withdraws v h is d

module _ (b : Book) (w : Within b) where
  final_live_says : (source : SubmissionFeeSource) (j : SpendBundle) → TypedBundle j → (s : SubmittedTx) → TypedSubmitted s → Says FinalSays 0 b (finalize_live source j s)
  unfolding finalize_live finalize_with finalize_as unused_fee current_final attached_final
  final_live_says source j h s x =
      says_cond FinalSays 0 b s.slots.active_attempt.attempt.finalized_variant_fingerprint.present _ _ tt
      (says_cond FinalSays 0 b (not (validate s.entry)) _ _ tt
      (says_cond FinalSays 0 b (eqs (current_fingerprint s.entry) s.slots.active_attempt.attempt.drained_variant_fingerprint) _ _
      (says_cond FinalSays 0 b (fee_unresolved s.entry) _ _
      (says_cond FinalSays 0 b (is_joined source) _ _
      (λ c d. one_final _ (record { bundle = h; fingerprint = (variant_typed j).long }))
      (λ c. one_final _ (record { bundle = x.entry.intent.base; fingerprint = (current_typed s.entry).long })))
      (says_cond FinalSays 0 b (is_not_requested source) _ _
      (λ c. one_final _ (record { bundle = current_bundle_typed s.entry x.entry; fingerprint = (current_typed s.entry).long }))
      tt))
      tt))

  pub final_says : (t : ℕ) (source : SubmissionFeeSource) (j : SpendBundle) → TypedBundle j → Says FinalSays 0 b (finalize_attempt t source j)
  unfolding finalize_attempt
  final_says t source j h =
      says_cond FinalSays 0 b (sound_source source j) _ _ (says_live FinalSays t None (finalize_live source j) b w no_final (final_live_says source j h)) tt

  pub fee_intent_says : (t : ℕ) → Says FeeIntentSays 0 b (fee_intent_for_attempt t)
  unfolding fee_intent_for_attempt
  fee_intent_says t = says_live FeeIntentSays t None _ b w no_intent (λ s x. one_intent (open_fee_intent s.entry) (open_fee_typed s.entry x.entry))

  pub attempt_says : (t : ℕ) → Says AttemptSays 0 b (attempt t)
  unfolding attempt LiveIn
  attempt_says t = go (find t b) (find_live t b w)
    where
      go : (f : Found) → LiveIn f → AttemptSays 0 (attempt_by f)
      go (live s) x = one_attempt _ x.slots.active
      go aside x = no_attempt
      go gone x = no_attempt
      go never_issued x = no_attempt

module _ (b : Book) (s : SoundBook b) where
  pub retain_says : (is : List ℕ) → Says IdsSay 0 b (retain_submitted is)
  unfolding retain_submitted
  retain_says is =
      says_cond IdsSay 0 b (ids_ok is) _ _
      (says_withdraws IdsSay (to_remove is b) (ids_say (to_remove is b)
      (unfold to_remove in omega (
        arith,
        rising_length (filter (λ i. elemb i is) (map id_of b.submitted)),
        filter_length (λ i. elemb i is) (map id_of b.submitted),
        length-map b.submitted id_of,
        s.fits.submitted,
      ))) (to_remove is b) b)
      tt

  pub retirements_say : Says IdsSay 0 b drain_retirements
  unfolding drain_retirements
  retirements_say = λ c. ids_say b.retired s.fits.retired

  pub active_say : Says IdsSay 0 b active_ids
  unfolding active_ids
  active_say =
      let ts = filter (λ t. active_entry t.entry) b.submitted in
      ids_say (map id_of ts) (omega (arith, length-map ts id_of, filter_length (λ t. active_entry t.entry) b.submitted, s.fits.submitted))

  pub rolled_back_say : (absent inputs : List ℕ) → Says IdsSay 0 b (causally_rolled_back_ids absent inputs)
  unfolding causally_rolled_back_ids
  rolled_back_say absent inputs =
      let ts = filter (λ t. rolled_back (coins_in absent) (ids_in inputs) t.entry) b.submitted in
      says_cond IdsSay 0 b (coin_listb absent && id_listb inputs) _ _
      (ids_say (rising (map id_of ts)) (omega (arith, rising_length (map id_of ts), length-map ts id_of, filter_length (λ t. rolled_back (coins_in absent) (ids_in inputs) t.entry) b.submitted, s.fits.submitted)))
      tt
