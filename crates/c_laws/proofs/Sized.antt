-- Theorems on specs/Sized.antt.
use Rattle.book.specs.declared.refusal.Refusal.{Refusal}
use Rattle.book.specs.declared.refusal.Refusal.TheVariants as turned
use Rattle.book.specs.Refusals.{refusal_number}
use Rattle.std.specs.Prelude.{ℕ, ◌≤◌, ◌≡◌, Bool, true, false, ◌&&◌, length}
use Rattle.std.proofs.Common.{zero-le, sym, ◌∙◌, subst}
use Rattle.std.proofs.Math.Path.{refl, ap}
use Rattle.std.proofs.Math.Bool.{cond}
use mathlib.Core.List.{List, [], ◌∷◌, ◌++◌}
use Rattle.std.specs.Prelude.{Option, None, Some}
use native.Mathlib.Omega.{arith}
use borrow.Author.Tests.{le-leb}
use Rattle.codec_forms.specs.Wire.{overlay}
use Rattle.base_coin_string.specs.CoinIds.{id_listb}
use Rattle.base_coin_string.specs.CoinList.{coin_listb}
use Rattle.book.specs.Model.{Book}
use Rattle.book.specs.Typed.{Every, U64}
use Rattle.archive_form.specs.Encode.{encode_model}
use Rattle.archive_form.specs.Parse.{parse_delivery, parse_trigger, parse_goal}
use Rattle.archive_laws.specs.Books.{TypedModel}
use Rattle.rules.specs.Books.{call_book, book_after}
use Rattle.rules.specs.Call.{Call, Value}
use Rattle.rules.specs.Calls.{rules}
use Rattle.rules.specs.Doors.{ids_ok}
use Rattle.rules.specs.Opened.{opened}
use Rattle.rules.specs.Rule.{Outcome, ended, undone, stopped, left}
use Rattle.rules.specs.Steps.{run_book}
use Rattle.rules_laws.specs.Sound.Run.{SoundBook, sound_call, sound_opened}
use Rattle.rules_typed.specs.Theorems.{within_call, within_opened, typed_model}
use Rattle.rules_typed.specs.Typing.{Within, TypedCall}
use Rattle.c_boundary.specs.Arguments.{bytes_as, byte_as, flag_in}
use Rattle.c_boundary.specs.Held.{book_bytes}
use Rattle.c_boundary.specs.Settle.{Left, Form, settled, written_fits}
use Rattle.rules_answers.specs.Kind.{kind_of, answer_bytes, Roomy}
use Rattle.c_boundary_laws.specs.Enough.{AnswerFits, number_by}
use Rattle.c_boundary_laws.specs.Fits.{fits}
use Rattle.c_boundary_laws.specs.Lent.{put_length, put_holds, Wrote, wrote, short, written_as, roomy, opened_room}
use Rattle.c_calls_attempts.specs.Source.{source_in, joined_in}
use Rattle.c_api.specs.Functions.{CCall, Returned, OpenDid}
use Rattle.c_laws.specs.Functions.{Lent, lent, Asked, asks, bad_list, bad_value, value, value_behind, call_of, OnCall, TypedC}
use Rattle.c_laws.specs.Told.{told_on}
use Rattle.c_laws.specs.Typed.{typed_call}
use Rattle.c_laws.specs.Listed.{room_for, heard, heard_of, calls, Ran, no_call, then_call}
use Rattle.c_laws.specs.Steps.{Good}
use Rattle.c_laws.proofs.Steps.{stepped}
use Rattle.c_boundary.specs.Forms.{value_form}
use Rattle.book.specs.Refusals as refusals
use Rattle.c_laws.specs.Sized.{HeaderSize, asked_in, calls_in, Sized}

-- ---- the three calls that ask for room ask for the lent one
Lends : Asked → Type 0
Lends o = OnCall (λ c. Roomy (kind_of c)) o

lends_on : {A : Type 0} (x : Option A) (g : A → Asked) → ((v : A) → Lends (g v)) → Lends (value x g)
unfolding Lends
lends_on None g h = tt
lends_on (Some v) g h = h v

lends_behind : {A : Type 0} (ok : Bool) (x : Option A) (g : A → Asked) → ((v : A) → Lends (g v)) → Lends (value_behind ok x g)
unfolding Lends
lends_behind true None g h = tt
lends_behind false None g h = tt
lends_behind ok (Some v) g h = h v

lends : (c : CCall) → HeaderSize c → Lends (call_of c)
unfolding Lends
lends (CCall.Queue s) h = lends_on (bytes_as parse_delivery s) _ (λ v. tt)
lends (CCall.QueueRetainedDelivery i w g) h = lends_on (byte_as parse_trigger w) _ (λ v. lends_on (byte_as parse_goal g) _ (λ v. tt))
lends (CCall.QueueRebroadcastEpoch is w) h = lends_behind (ids_ok is) (byte_as parse_trigger w) _ (λ v. tt)
lends CCall.QueueFeeReadiness h = tt
lends (CCall.Drain a) h = tt
lends (CCall.FeeIntentForAttempt k a) h = tt
lends (CCall.AcknowledgeAttempt k a) h = tt
lends (CCall.StopAttempt k a) h = tt
lends (CCall.AbandonAttempt k a) h = tt
lends (CCall.RelinquishCompletedAttempt k a) h = tt
lends (CCall.Attempt k a) h = tt
lends (CCall.FinalizeAttempt k n s a) h = lends_on (source_in n) _ (λ v. lends_on (joined_in n s) _ (λ v. tt))
lends (CCall.RetainSubmitted is a) h = tt
lends (CCall.ActiveIds a) h = tt
lends (CCall.DrainRetirements a) h = tt
lends (CCall.ReplayRollbackHeight a) h = tt
lends (CCall.Look i a) h = tt
lends (CCall.Summary a) h = tt
lends (CCall.EmitRetirement i) h = tt
lends (CCall.FinishReplayIfAdvanced i) h = tt
lends CCall.ClearLocalArtifacts h = tt
lends CCall.RestoreRuntime h = tt
lends (CCall.ReconcileChainTerminality o s r b) h = lends_behind (coin_listb o && id_listb s && ids_ok b) (flag_in r) _ (λ v. tt)
lends (CCall.CausallyRolledBackIds x i a) h = tt
lends (CCall.ReconciliationInputCoins o a k) h = h
lends (CCall.AbsentOutputsForIds is o a k) h = h
lends (CCall.BeginReplay i a) h = tt
lends (CCall.CollectRollbackReplayIds is) h = tt
lends (CCall.Write a k) h = h

-- ---- one call
module _ (m : Book) (d : List ℕ) (h : 57702 ≤ length d) where
  room_is : (a : List ℕ) (o : Outcome Book Value) → TypedModel (left m o) → AnswerFits value_form (length a) o → room_for (length d) (length a) o ≡ true
  room_is a (ended x xs v) t f = rw (roomy x t (length d) h, le-leb (length (value_form xs v)) (length a) f) refl
  room_is a (undone n) t f = refl
  room_is a (stopped x xs n) t f = roomy x t (length d) h

  wrote_number : (n : ℕ) (x : Book) (s a : List ℕ) (t : Bool) (l : Left) → Wrote n x s d a t l → t ≡ true → l.number ≡ n
  wrote_number n x s a true l (wrote q) e = refl
  wrote_number n x s a false l short e = absurd (let z : ◌≡◌ {A = ℕ} 0 1 = cc in omega arith)

  number_is : (a : List ℕ) (o : Outcome Book Value) → TypedModel (left m o) → AnswerFits value_form (length a) o → (settled value_form d a o).number ≡ number_by o
  unfolding settled
  number_is a (ended x xs v) t f = wrote_number 0 x (value_form xs v) a _ _ (written_as 0 x (value_form xs v) d a) (room_is a (ended x xs v) t f)
  number_is a (undone n) t f = refl
  number_is a (stopped x xs n) t f = wrote_number (refusal_number n) x [] a _ _ (written_as (refusal_number n) x [] d a) (rw (roomy x t (length d) h, le-leb 0 (length a) zero-le) refl)

  more_room : {A : Type 0} (form : Form A) (j k : ℕ) (o : Outcome Book A) → j ≤ k → AnswerFits form j o → AnswerFits form k o
  more_room form j k (ended x xs v) q f = omega (arith, f)
  more_room form j k (undone n) q f = tt
  more_room form j k (stopped x xs n) q f = tt

  module _ (s : SoundBook m) (w : Within m) (l : Lent) where
    fitting : (c : Call) → TypedCall c → Roomy (kind_of c) → answer_bytes (kind_of c) ≤ length l.answer → AnswerFits value_form (length l.answer) (run_book (rules encode_model c) m)
    fitting c t r q = more_room value_form (answer_bytes (kind_of c)) (length l.answer) (run_book (rules encode_model c) m) q (fits m s w c t r).answer

    typed_left : (c : Call) → TypedCall c → TypedModel (left m (run_book (rules encode_model c) m))
    unfolding call_book
    typed_left c t = typed_model (call_book encode_model c m) (within_call encode_model c m t w) (sound_call encode_model c m s)

    heard_all : (o : Asked) → OnCall TypedCall o → Lends o → OnCall (λ k. answer_bytes (kind_of k) ≤ length l.answer) o
        → heard (length d) m (length l.answer) o ≡ asked_in o
    unfolding Lends
    heard_all bad_list t r q = refl
    heard_all bad_value t r q = refl
    heard_all (asks c) t r q = ap (λ (x : Bool). cond x (c ∷ []) []) (room_is l.answer (run_book (rules encode_model c) m) (typed_left c t) (fitting c t r q))

    not_twelve : (o : Asked) → OnCall TypedCall o → Lends o → OnCall (λ k. answer_bytes (kind_of k) ≤ length l.answer) o → (told_on m d l o).number ≡ refusals.short_buffer → ⊥
    unfolding Lends
    not_twelve bad_list t r q e = omega arith
    not_twelve bad_value t r q e = omega arith
    not_twelve (asks c) t r q e =
        (fits m s w c t r).number (sym (number_is l.answer (run_book (rules encode_model c) m) (typed_left c t) (fitting c t r q)) ∙ e)

sized_list : {m : Book} {d e : List ℕ} {cs : List CCall} {rs : List Returned} → Good m d → 57702 ≤ length d → Every TypedC cs → Every HeaderSize cs
    → Ran d cs rs e → Sized (length d) m cs rs
unfolding calls calls_in
sized_list g b t z (no_call d) = record { never_12 = tt; all_heard = refl }
sized_list {m} g b t z (then_call {d} {c} {r} {cs} {rs} {e} x xs) =
    let s = stepped g t.0 x in
    let ys = heard_of (length d) m c in
    let k = book_after encode_model ys m in
    let tc = typed_call c t.0 in
    let lc = lends c z.0 in
    let f = sized_list {m = k} s.good (omega (arith, s.long)) t.1 z.1 xs in
    record {
      never_12 = (λ p. not_twelve m d b g.sound g.within (lent c) (call_of c) tc lc z.0 (sym (ap (λ (y : Returned). y.number) s.returned) ∙ p), f.never_12);
      all_heard = ap (λ (l : List Call). ys ++ l) (ap (λ (y : ℕ). calls y k cs) (sym s.long) ∙ f.all_heard)
          ∙ ap (λ (l : List Call). l ++ calls_in cs) (heard_all m d b g.sound g.within (lent c) (call_of c) tc lc z.0);
    }

-- `submission_book_open` on 57,702 bytes of any content, and then any list of calls with the header's sizes
pub sized : (o i : ℕ) → U64 o → U64 i → (d : List ℕ) → 57702 ≤ length d → {n : ℕ} {d₁ : List ℕ} → OpenDid d o i n d₁
    → {cs : List CCall} {rs : List Returned} {e : List ℕ} → Every TypedC cs → Every HeaderSize cs → Ran d₁ cs rs e → Sized (length d) (opened o i) cs rs
sized o i to ti d room {n} {d₁} g {cs} {rs} {e} t z ran =
    let m = opened o i in
    let q = opened_room o i (length d) (omega arith) in
    let y : d₁ ≡ overlay (book_bytes m) d = g.book ∙ ap (λ (l : Left). l.book) (written_fits 0 m [] d [] q zero-le) in
    let l = put_length m d q in
    let f : Good m (overlay (book_bytes m) d) = record { holds = put_holds m d q; sound = sound_opened o i; within = within_opened o i to ti } in
    subst (λ (k : ℕ). Sized k m cs rs) l (sized_list f (omega (arith, l)) t z (subst (λ (x : List ℕ). Ran x cs rs e) y ran))
