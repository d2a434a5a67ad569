-- Rules without a step leave the book as it is, so a call by them needs no write to the lent book: what it returns, and leaves in its answer, is settled by
-- the answer alone. One law over all such trees, and a line for each call that has one.
use Rattle.std.specs.Prelude.{ℕ, ◌≡◌, Bool, ◌&&◌, length, leb}
use Rattle.std.proofs.Common.{zero-le, sym, ◌∙◌, le-leb}
use Rattle.std.proofs.Math.Path.{refl, ap}
use Rattle.std.proofs.Math.Bool.{true, false, cond}
use mathlib.Core.List.{List, []}
use Rattle.base_coin_string.specs.CoinIds.{id_listb}
use Rattle.base_coin_string.specs.CoinList.{coins_in, coin_listb}
use Rattle.base_lists.specs.Lists.{elemb}
use Rattle.std.specs.List.{filter, flat_map}
use Rattle.codec_forms.specs.Wire.{overlay}
use Rattle.book.specs.Model.{Book, view}
use Rattle.book.specs.Refusals as refusals
use Rattle.book.specs.Sound.{id_of}
use Rattle.book.specs.declared.BookData.{BookData}
use Rattle.book.specs.declared.SubmittedTx.{SubmittedTx}
use Rattle.rules.specs.Calls.AbsentOutputsForIds.{absent_outputs, absent_outputs_for_ids}
use Rattle.rules.specs.Calls.ActiveIds.{active_ids}
use Rattle.rules.specs.Calls.Attempt.{attempt}
use Rattle.rules.specs.Calls.CausallyRolledBackIds.{causally_rolled_back_ids}
use Rattle.rules.specs.Calls.Common.{Found, live, aside, gone, never_issued, find, by_live, with_live, writing}
use Rattle.rules.specs.Calls.FeeIntentForAttempt.{fee_intent_for_attempt}
use Rattle.rules.specs.Calls.Look.{look_at}
use Rattle.rules.specs.Calls.ReconciliationInputCoins.{input_coins_to_reconcile, reconciliation_input_coins}
use Rattle.rules.specs.Calls.RelinquishCompletedAttempt.{relinquish_by, relinquish_completed_attempt}
use Rattle.rules.specs.Calls.Replay.{replay_rollback_height}
use Rattle.rules.specs.Calls.Summary.{summary}
use Rattle.rules.specs.Calls.WriteArchive.{write_archive}
use Rattle.rules.specs.CoinLists.{encode_coins}
use Rattle.rules.specs.Doors.{ids_ok}
use Rattle.rules.specs.Rule.{Rule, done, undo, stop, look, act, turn, Outcome, ended, undone, stopped, run}
use Rattle.rules.specs.Steps.{run_book}
use Rattle.std.specs.Prelude.{Result, Ok, Err}
use Rattle.book.specs.declared.refusal.Refusal.{Refusal}
use Rattle.book.specs.declared.refusal.Refusal.TheVariants as turned
use Rattle.book.specs.Refusals.{refusal_number}
use Rattle.c_answer.specs.Answer.{Answered, declined, answer_in, GivesAnswer}
use Rattle.c_boundary.specs.Held.{book_bytes, Holding}
use Rattle.c_boundary.specs.Settle.{Left, Form, refusal, written, written_fits, settled, boundary, boundary_held, holding_room, holding_bytes, overlay_none, told_in, Gives, gives_as}

-- rules without a step
abbrev pub Looks : {A : Type 0} → Rule A → Type 0
Looks (done a) = Unit {0}
Looks (undo n) = Unit {0}
Looks (stop n) = Unit {0}
Looks (look k) = (b : Book) → Looks (k b)
Looks (act p r) = ⊥
Looks (turn r) = Looks r

-- the book m is left
abbrev pub Keeps : {A : Type 0} → Book → Outcome Book A → Type 0
Keeps m (ended k xs a) = k ≡ m
Keeps m (undone n) = Unit {0}
Keeps m (stopped k xs n) = k ≡ m

pub keeps_run : {A : Type 0} (r : Rule A) (m : Book) → Looks r → Keeps m (run_book r m)
unfolding run
keeps_run (done a) m h = refl
keeps_run (undo n) m h = tt
keeps_run (stop n) m h = refl
keeps_run (look k) m h = keeps_run (k m) m (h m)
keeps_run (act p r) m h = absurd h
keeps_run (turn r) m h = keeps_run r m h

-- ---- the calls that only look
looks_cond : {A : Type 0} (t : Bool) (x y : Rule A) → Looks x → Looks y → Looks (cond t x y)
looks_cond true x y h k = h
looks_cond false x y h k = k

looks_writing : (room : ℕ) (s : List ℕ) → Looks (writing room s)
unfolding writing
looks_writing room s = looks_cond (leb (length s) room) (done s) (undo turned.ShortBuffer) tt tt

pub looks_attempt : (t : ℕ) → Looks (attempt t)
unfolding attempt
looks_attempt t = λ b. tt

looks_live : {A : Type 0} (t : ℕ) (v : A) (k : SubmittedTx → Rule A) → ((s : SubmittedTx) → Looks (k s)) → Looks (with_live t v k)
unfolding with_live
looks_live t v k h = λ b. go (find t b)
  where
    go : (f : Found) → Looks (by_live v k f)
    go (live s) = h s
    go aside = tt
    go gone = tt
    go never_issued = tt

pub looks_fee_intent : (t : ℕ) → Looks (fee_intent_for_attempt t)
unfolding fee_intent_for_attempt
looks_fee_intent t = looks_live t _ _ (λ s. tt)

pub looks_relinquish : (t : ℕ) → Looks (relinquish_completed_attempt t)
unfolding relinquish_completed_attempt
looks_relinquish t = λ b. go (find t b)
  where
    go : (f : Found) → Looks (relinquish_by f)
    go (live s) = tt
    go aside = tt
    go gone = tt
    go never_issued = tt

pub looks_active_ids : Looks active_ids
unfolding active_ids
looks_active_ids = λ b. tt

pub looks_height : Looks replay_rollback_height
unfolding replay_rollback_height
looks_height = λ b. tt

pub looks_look : (i : ℕ) → Looks (look_at i)
unfolding look_at
looks_look i = λ b. tt

pub looks_summary : Looks summary
unfolding summary
looks_summary = λ b. tt

pub looks_rolled_back : (absent inputs : List ℕ) → Looks (causally_rolled_back_ids absent inputs)
unfolding causally_rolled_back_ids
looks_rolled_back absent inputs = looks_cond (coin_listb absent && id_listb inputs) _ _ (λ b. tt) tt

pub looks_input_coins : (outputs : List ℕ) (room : ℕ) → Looks (reconciliation_input_coins outputs room)
unfolding reconciliation_input_coins
looks_input_coins outputs room = looks_cond (coin_listb outputs) _ _ (λ b. looks_writing room (encode_coins (input_coins_to_reconcile (coins_in outputs) b))) tt

pub looks_absent_outputs : (is absent : List ℕ) (room : ℕ) → Looks (absent_outputs_for_ids is absent room)
unfolding absent_outputs_for_ids
looks_absent_outputs is absent room =
    looks_cond (ids_ok is && coin_listb absent) _ _
    (λ b. looks_writing room (encode_coins (flat_map (λ t. absent_outputs (coins_in absent) t.entry.intent) (filter (λ t. elemb (id_of t) is) b.submitted)))) tt

pub looks_write : (encode : Book → List ℕ) (room : ℕ) → Looks (write_archive encode room)
unfolding write_archive
looks_write encode room = λ b. looks_writing room (encode b)

-- ---- such a call's reply, told without its book
abbrev pub told_by : Result (List ℕ) Refusal → List ℕ → Answered
told_by (Ok l) a = answer_in l a
told_by (Err n) a = declined (refusal_number n) a

-- the same with the bytes d of the book beside it
abbrev beside : List ℕ → Answered → Left
beside d x = record { number = x.number; book = d; answer = x.answer }

gives_beside : (d : List ℕ) {x : Answered} {n : ℕ} {a : List ℕ} → GivesAnswer x n a → Gives (beside d x) n d a
gives_beside d g = record { number = g.number; book = refl; answer = g.answer }

module _ {A : Type 0} (form : Form A) (d a : List ℕ) (b : BookData) (h : Holding d b) where
  written_same : (l : List ℕ) → beside d (answer_in l a) ≡ written 0 (view b) l d a
  unfolding written answer_in
  written_same l = rw (le-leb (length (book_bytes (view b))) (length d) (holding_room d b h)) (go (leb (length l) (length a)))
    where
      go : (t : Bool)
          → beside d (cond t (record { number = 0; answer = overlay l a }) (declined refusals.short_buffer a))
          ≡ cond t (record { number = 0; book = overlay (book_bytes (view b)) d; answer = overlay l a }) (refusal refusals.short_buffer d a)
      go true = ap (λ (x : List ℕ). record { number = 0; book = x; answer = overlay l a }) (sym (holding_bytes d b h))
      go false = refl

  stopped_same : (n : ℕ) → refusal n d a ≡ written n (view b) [] d a
  stopped_same n =
      ap (λ (x : List ℕ). record { number = n; book = x; answer = a }) (sym (holding_bytes d b h))
      ∙ ap (λ (x : List ℕ). record { number = n; book = overlay (book_bytes (view b)) d; answer = x }) (sym (overlay_none a))
      ∙ sym (written_fits n (view b) [] d a (holding_room d b h) zero-le)

  told_settled : (o : Outcome Book A) → Keeps (view b) o → beside d (told_by (told_in form o) a) ≡ settled form d a o
  unfolding settled
  told_settled (ended m xs v) k = written_same (form xs v) ∙ ap (λ (x : Book). written 0 x (form xs v) d a) (sym k)
  told_settled (undone n) k = refl
  told_settled (stopped m xs n) k = stopped_same (refusal_number n) ∙ ap (λ (x : Book). written (refusal_number n) x [] d a) (sym k)

  -- what such a call returns and leaves, the lent book as it was
  pub boundary_looked : (r : Rule A) → Looks r → {x : Result (List ℕ) Refusal} → x ≡ told_in form (run_book r (view b)) → {n : ℕ} {a' : List ℕ}
      → GivesAnswer (told_by x a) n a' → Gives (boundary form r d a) n d a'
  boundary_looked r q {x} p g =
      gives_as (ap (λ (y : Result (List ℕ) Refusal). beside d (told_by y a)) p ∙ told_settled (run_book r (view b)) (keeps_run r (view b) q) ∙ sym (boundary_held form d a b h r)) (gives_beside d g)
