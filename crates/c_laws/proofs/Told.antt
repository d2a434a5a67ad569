-- Theorems on specs/Told.antt.
use Rattle.book.specs.declared.refusal.Refusal.{Refusal}
use Rattle.book.specs.declared.refusal.Refusal.TheVariants as turned
use Rattle.book.specs.Refusals.{refusal_number}
use Rattle.std.specs.Prelude.{ℕ, ◌≡◌, Bool, true, false, cond, ◌&&◌, List, [], length, eqb, leb}
use Rattle.std.proofs.Math.Path.{refl, ap}
use Rattle.std.proofs.Common.{sym, ◌∙◌, subst, leb-true}
use Rattle.std.specs.Prelude.{Option, None, Some}
use Rattle.codec_forms.specs.Wire.{overlay}
use Rattle.base_coin_string.specs.CoinIds.{id_listb}
use Rattle.base_coin_string.specs.CoinList.{coin_listb}
use Rattle.book.specs.Model.{Book}
use Rattle.book.specs.declared.DeliveryTrigger.{DeliveryTrigger}
use Rattle.archive_form.specs.Encode.{encode_model}
use Rattle.archive_form.specs.Parse.{parse_delivery, parse_trigger, parse_goal}
use Rattle.rules.specs.Call.{Call, Value, written, finalized}
use Rattle.rules.specs.Calls.{rules, nothing}
use Rattle.rules.specs.Calls.Common.{writing}
use Rattle.rules.specs.Calls.FinalizeAttempt.{finalize_attempt}
use Rattle.rules.specs.Calls.Queue.{queue}
use Rattle.rules.specs.Calls.QueueRebroadcastEpoch.{rebroadcast, queue_rebroadcast_epoch}
use Rattle.rules.specs.Calls.QueueRetainedDelivery.{queue_retained_delivery}
use Rattle.rules.specs.Calls.ReconcileChainTerminality.{reconcile_chain_terminality}
use Rattle.rules.specs.Calls.WriteArchive.{write_archive}
use Rattle.rules.specs.Doors.{ids_ok}
use Rattle.rules.specs.Rule.{Rule, done, undo, Outcome, ended, undone, stopped, run, ◌<$>◌, mapped, run_map}
use Rattle.rules.specs.Steps.{run_book, on_book}
use Rattle.c_boundary.specs.Held.{held_in}
use Rattle.c_boundary.specs.Settle.{Left, Form, refusal, settled, ruled, boundary, written_fits, Gives, GivesBook, settled_mapped, boundary_mapped}
use Rattle.c_boundary.specs.Forms.{no_form, bytes_form, value_form, ToldAs, as_nothing, as_status, as_ids, as_flag, as_height, as_attempt, as_look, as_summary, as_fee_intent, as_final, as_drained}
use Rattle.c_boundary.specs.Arguments.{given, listed, byte_as, bytes_as, flag_in}
use Rattle.rules_answers.specs.Kind.{kind_of, asks_room}
use Rattle.c_boundary_laws.specs.Lent.{Holds}
use Rattle.c_calls_attempts.specs.Source.{source_in, joined_in}
use Rattle.c_calls_chain.specs.Quiet.{GivesBytes, length_by, length_of, Quiet, told as quietTold, turned, reconciliation_quiet, absent_quiet}
use Rattle.c_whole.specs.Whole.{Counted, GivesLength, write_from}
use Rattle.c_api.specs.Functions.{CCall, Returned, counted as returning, Did, queue_did, retained_delivery_did, rebroadcast_did, fee_readiness_did, drain_did, fee_intent_did, acknowledge_did, stop_did, abandon_did, relinquish_did, attempt_did, finalize_did, retain_did, active_ids_did, retirements_did, height_did, look_did, summary_did, emit_did, finish_did, clear_did, restore_did, reconcile_did, rolled_back_did, input_coins_did, absent_outputs_did, begin_did, collect_did, write_did}
use Rattle.c_laws.specs.Functions.{Lent, lent, Asked, asks, bad_list, bad_value, value, value_behind, call_of, OnCall}
use Rattle.rules.specs.Calls.ReconciliationInputCoins.{reconciliation_input_coins}
use Rattle.rules.specs.Calls.AbsentOutputsForIds.{absent_outputs_for_ids}
use Rattle.book.specs.Refusals as refusals
use Rattle.c_laws.specs.Told.{turned_away, told, told_on, told_in, Held, no_book, one_book, gives_all}

-- ---- a call that asks for no room itself
abbrev Unasked : Asked → Type 0
Unasked o = OnCall (λ c. asks_room (kind_of c) ≡ false) o

unasked_on : {A : Type 0} (x : Option A) (g : A → Asked) → ((v : A) → Unasked (g v)) → Unasked (value x g)
unasked_on None g h = tt
unasked_on (Some v) g h = h v

unasked_behind : {A : Type 0} (ok : Bool) (x : Option A) (g : A → Asked) → ((v : A) → Unasked (g v)) → Unasked (value_behind ok x g)
unasked_behind true None g h = tt
unasked_behind false None g h = tt
unasked_behind ok (Some v) g h = h v

abbrev rule_of : Asked → Rule Value
rule_of (asks c) = rules encode_model c
rule_of bad_list = undo turned.BadList
rule_of bad_value = undo turned.BadValue

module _ {B : Type 0} (u : B → Value) where
  given_on : {A : Type 0} (x : Option A) (f : A → Rule B) (g : A → Asked) → ((v : A) → u <$> f v ≡ rule_of (g v)) → u <$> given x f ≡ rule_of (value x g)
  given_on None f g h = refl
  given_on (Some v) f g h = h v

  listed_on : {A : Type 0} (ok : Bool) (x : Option A) (f : A → Rule B) (g : A → Asked) → ((v : A) → u <$> listed ok (f v) ≡ rule_of (g v))
      → u <$> listed ok (given x f) ≡ rule_of (value_behind ok x g)
  listed_on true None f g h = refl
  listed_on false None f g h = refl
  listed_on ok (Some v) f g h = h v

-- the rules of a call refuse its lists themselves
again : {B : Type 0} (ok : Bool) (r : Rule B) → listed ok (listed ok r) ≡ listed ok r
again true r = refl
again false r = refl

rebroadcast_again : (is : List ℕ) (t : DeliveryTrigger) → listed (ids_ok is) (queue_rebroadcast_epoch is t) ≡ queue_rebroadcast_epoch is t
unfolding queue_rebroadcast_epoch
rebroadcast_again is t = again (ids_ok is) (rebroadcast t is)

reconcile_again : (o s : List ℕ) (f : Bool) (is : List ℕ) → listed (coin_listb o && id_listb s && ids_ok is) (reconcile_chain_terminality o s f is) ≡ reconcile_chain_terminality o s f is
unfolding reconcile_chain_terminality
reconcile_again o s f is = again (coin_listb o && id_listb s && ids_ok is) _

abbrev returned : Left → ℕ → Returned
returned l k = record { number = l.number; book = l.book; answer = l.answer; count = k }

boundary_told : (d : List ℕ) (l : Lent) (m : Book) (o : Asked) → Unasked o → held_in d ≡ Some m
    → returned (boundary value_form (rule_of o) d l.answer) l.count ≡ told_on m d l o
unfolding boundary settled run
boundary_told d l m bad_list h e = ap (λ (x : Option Book). returned (ruled value_form (undo turned.BadList) d l.answer x) l.count) e
boundary_told d l m bad_value h e = ap (λ (x : Option Book). returned (ruled value_form (undo turned.BadValue) d l.answer x) l.count) e
boundary_told d l m (asks c) h e =
    let o = run_book (rules encode_model c) m in
    ap (λ (x : Option Book). returned (ruled value_form (rules encode_model c) d l.answer x) l.count) e
    ∙ ap (λ (t : Bool). record {
      number = (settled value_form d l.answer o).number;
      book = (settled value_form d l.answer o).book;
      answer = (settled value_form d l.answer o).answer;
      count = cond (t && eqb (settled value_form d l.answer o).number 0) (length_by value_form l.count o) l.count;
    }) (sym h)

-- its own rules r, with their answer as a value, are those of the call
module _ {A : Type 0} (d : List ℕ) (c : CCall) (t : ToldAs A) (h : Unasked (call_of c)) (r : Rule A) (q : t.value <$> r ≡ rule_of (call_of c)) where
  boundary_in : {x : Option Book} → Held d x → returned (boundary t.form r d (lent c).answer) (lent c).count ≡ told_in x d c
  unfolding boundary
  boundary_in (no_book e) = ap (λ (y : Option Book). returned (ruled t.form r d (lent c).answer y) (lent c).count) e
  boundary_in (one_book m e k) =
      ap (λ (z : Left). returned z (lent c).count)
      (sym (boundary_mapped t.value t.form value_form t.same d (lent c).answer r) ∙ ap (λ (s : Rule Value). boundary value_form s d (lent c).answer) q)
      ∙ boundary_told d (lent c) m (call_of c) h e

  gives_told : {n : ℕ} {d' a' : List ℕ} {x : Option Book} → Held d x → Gives (boundary t.form r d (lent c).answer) n d' a' → record { number = n; book = d'; answer = a'; count = (lent c).count } ≡ told_in x d c
  gives_told y g = (λ i. record { number = g.number i; book = g.book i; answer = g.answer i; count = (lent c).count }) ∙ boundary_in y

-- ---- calls that only look
same_cond : (t : Bool) (k : ℕ) → k ≡ cond t k k
same_cond true k = refl
same_cond false k = refl

-- the length is told with 0 alone
quiet_count : (m : Book) (d a : List ℕ) (k : ℕ) → Holds m d → {o : Outcome Book (List ℕ)} → Quiet m (length a) o
    → length_by bytes_form k o ≡ cond (eqb (settled bytes_form d a o).number 0) (length_by bytes_form k o) k
unfolding settled
quiet_count m d a k h (quietTold s p) = ap (λ (x : Left). cond (eqb x.number 0) (length s) k) (sym (written_fits 0 m s d a h.room p))
quiet_count m d a k h (turned n) = same_cond (eqb (refusal_number n) 0) k

-- the value of such a call is its bytes
length_written : (k : ℕ) (o : Outcome Book (List ℕ)) → length_by value_form k (mapped written o) ≡ length_by bytes_form k o
length_written k (ended m xs v) = refl
length_written k (undone n) = refl
length_written k (stopped m xs n) = refl

bytes_told : (d : List ℕ) (l : Lent) (c : Call) (r : Rule (List ℕ)) → asks_room (kind_of c) ≡ true → rules encode_model c ≡ written <$> r
    → {n : ℕ} {a' : List ℕ} {k : ℕ} (m : Book) → held_in d ≡ Some m
    → length_by bytes_form l.count (run_book r m) ≡ cond (eqb (settled bytes_form d l.answer (run_book r m)).number 0) (length_by bytes_form l.count (run_book r m)) l.count
    → GivesBytes (boundary bytes_form r d l.answer) (length_of l.count r (held_in d)) n d a' k
    → record { number = n; book = d; answer = a'; count = k } ≡ told (kind_of c) d l (run_book (rules encode_model c) m)
unfolding boundary
bytes_told d l c r t p {n} {a'} {k} m e q g =
    let o = run_book r m in
    let w : settled value_form d l.answer (mapped written o) ≡ settled bytes_form d l.answer o = settled_mapped written bytes_form value_form (λ xs s. refl) d l.answer o in
    let x : boundary bytes_form r d l.answer ≡ settled value_form d l.answer (mapped written o) = ap (ruled bytes_form r d l.answer) e ∙ sym w in
    let z : k ≡ cond (asks_room (kind_of c) && eqb (settled value_form d l.answer (mapped written o)).number 0) (length_by value_form l.count (mapped written o)) l.count =
    g.length ∙ ap (length_of l.count r) e ∙ q
    ∙ (λ i. cond (eqb (sym w i).number 0) (sym (length_written l.count o) i) l.count)
    ∙ ap (λ (y : Bool). cond (y && eqb (settled value_form d l.answer (mapped written o)).number 0) (length_by value_form l.count (mapped written o)) l.count) (sym t) in
    (λ i. record {
      number = (g.left.number ∙ ap (λ (y : Left). y.number) x) i;
      book = (g.left.book ∙ ap (λ (y : Left). y.book) x) i;
      answer = (g.left.answer ∙ ap (λ (y : Left). y.answer) x) i;
      count = z i;
    }) ∙ ap (told (kind_of c) d l) (sym (ap (λ (y : Rule Value). run_book y m) p ∙ run_map (λ b. b) on_book written r m))

bytes_absent : {A : Type 0} (d : List ℕ) (l : Lent) (f : Form A) (r : Rule A) (s : Rule (List ℕ)) {n : ℕ} {a' : List ℕ} {k : ℕ} → held_in d ≡ None
    → GivesBytes (boundary f r d l.answer) (length_of l.count s (held_in d)) n d a' k
    → record { number = n; book = d; answer = a'; count = k } ≡ turned_away 1 d l
unfolding boundary
bytes_absent d l f r s e g =
    let x : boundary f r d l.answer ≡ refusal 1 d l.answer = ap (ruled f r d l.answer) e in
    λ i. record {
      number = (g.left.number ∙ ap (λ (y : Left). y.number) x) i;
      book = d;
      answer = (g.left.answer ∙ ap (λ (y : Left). y.answer) x) i;
      count = (g.length ∙ ap (length_of l.count s) e) i;
    }

-- the archive
write_told : (d a : List ℕ) (k : ℕ) (m : Book) → Holds m d
    → record { number = (write_from (Some m) a k).number; book = d; answer = (write_from (Some m) a k).archive; count = (write_from (Some m) a k).count }
    ≡ told (kind_of (Call.WriteArchive (length a))) d (record { answer = a; count = k }) (run_book (rules encode_model (Call.WriteArchive (length a))) m)
unfolding write_from rules write_archive writing run settled
write_told d a k m h = go (leb (length (encode_model m)) (length a)) refl
  where
    s : List ℕ
    s = encode_model m

    l : Lent
    l = record { answer = a; count = k }

    counted : Bool → Counted
    counted t = cond t (record { number = 0; archive = overlay s a; count = length s }) (record { number = refusals.short_buffer; archive = a; count = k })

    go : (t : Bool) → leb (length s) (length a) ≡ t
        → record { number = (counted t).number; book = d; answer = (counted t).archive; count = (counted t).count }
        ≡ told (kind_of (Call.WriteArchive (length a))) d l (run_book (written <$> cond t (done s) (undo turned.ShortBuffer)) m)
    go true e =
        let x = written_fits 0 m s d a h.room (leb-true (length s) (length a) e) in
        λ i. record {
          number = ap (λ (y : Left). y.number) (sym x) i;
          book = (sym h.front ∙ ap (λ (y : Left). y.book) (sym x)) i;
          answer = ap (λ (y : Left). y.answer) (sym x) i;
          count = ap (λ (y : Left). cond (eqb y.number 0) (length s) k) (sym x) i;
        }
    go false e = refl

counted_as : (d : List ℕ) {x y : Counted} {n : ℕ} {a : List ℕ} {k : ℕ} → GivesLength x n a k → x ≡ y
    → returning n d a k ≡ returning y.number d y.archive y.count
counted_as d {x} {y} g e = λ i. record {
  number = (g.number ∙ ap (λ (z : Counted). z.number) e) i;
  book = d;
  answer = (g.archive ∙ ap (λ (z : Counted). z.archive) e) i;
  count = (g.count ∙ ap (λ (z : Counted). z.count) e) i;
}

-- ---- every function
module _ (d : List ℕ) where
  -- without an answer
  back_told : (c : CCall) → lent c ≡ record { answer = []; count = 0 } → Unasked (call_of c) → (r : Rule (Unit {0})) → nothing <$> r ≡ rule_of (call_of c)
      → {n : ℕ} {d' : List ℕ} {x : Option Book} → Held d x
      → GivesBook (boundary no_form r d []) n d' → record { number = n; book = d'; answer = []; count = 0 } ≡ told_in x d c
  back_told c e h r q {n} {d'} {x} y g =
      subst (λ (l : Lent). record { number = n; book = d'; answer = l.answer; count = l.count } ≡ told_in x d c) e
      (gives_told d c as_nothing h r q y (subst (λ (l : Lent). Gives (boundary no_form r d l.answer) n d' l.answer) (sym e) (gives_all d r g)))

  pub did_told : {c : CCall} {r : Returned} → Did d c r → {x : Option Book} → Held d x → r ≡ told_in x d c
  unfolding rules
  did_told (queue_did s g) y =
      back_told (CCall.Queue s) refl (unasked_on (bytes_as parse_delivery s) _ (λ v. refl)) _ (given_on nothing (bytes_as parse_delivery s) queue _ (λ v. refl)) y g
  did_told (retained_delivery_did i t o g) y =
      back_told (CCall.QueueRetainedDelivery i t o) refl
      (unasked_on (byte_as parse_trigger t) _ (λ v. unasked_on (byte_as parse_goal o) _ (λ w. refl))) _
      (given_on nothing (byte_as parse_trigger t) (λ v. given (byte_as parse_goal o) (λ w. queue_retained_delivery i v w)) _
      (λ v. given_on nothing (byte_as parse_goal o) (λ w. queue_retained_delivery i v w) _ (λ w. refl))) y g
  did_told (rebroadcast_did is t g) y =
      back_told (CCall.QueueRebroadcastEpoch is t) refl (unasked_behind (ids_ok is) (byte_as parse_trigger t) _ (λ v. refl)) _
      (listed_on nothing (ids_ok is) (byte_as parse_trigger t) (λ v. queue_rebroadcast_epoch is v) _ (λ v. ap (λ (z : Rule (Unit {0})). nothing <$> z) (rebroadcast_again is v))) y g
  did_told (fee_readiness_did g) y = back_told CCall.QueueFeeReadiness refl refl _ refl y g
  did_told (drain_did {a} g) y = gives_told d (CCall.Drain a) as_drained refl _ refl y g
  did_told (fee_intent_did {a} t g) y = gives_told d (CCall.FeeIntentForAttempt t a) as_fee_intent refl _ refl y g
  did_told (acknowledge_did {a} t g) y = gives_told d (CCall.AcknowledgeAttempt t a) as_status refl _ refl y g
  did_told (stop_did {a} t g) y = gives_told d (CCall.StopAttempt t a) as_status refl _ refl y g
  did_told (abandon_did {a} t g) y = gives_told d (CCall.AbandonAttempt t a) as_status refl _ refl y g
  did_told (relinquish_did {a} t g) y = gives_told d (CCall.RelinquishCompletedAttempt t a) as_status refl _ refl y g
  did_told (attempt_did {a} t g) y = gives_told d (CCall.Attempt t a) as_attempt refl _ refl y g
  did_told (finalize_did {a} t s j g) y =
      gives_told d (CCall.FinalizeAttempt t s j a) as_final (unasked_on (source_in s) _ (λ v. unasked_on (joined_in s j) _ (λ w. refl))) _
      (given_on finalized (source_in s) (λ v. given (joined_in s j) (λ w. finalize_attempt t v w)) _
      (λ v. given_on finalized (joined_in s j) (λ w. finalize_attempt t v w) _ (λ w. refl))) y g
  did_told (retain_did {a} is g) y = gives_told d (CCall.RetainSubmitted is a) as_ids refl _ refl y g
  did_told (active_ids_did {a} g) y = gives_told d (CCall.ActiveIds a) as_ids refl _ refl y g
  did_told (retirements_did {a} g) y = gives_told d (CCall.DrainRetirements a) as_ids refl _ refl y g
  did_told (height_did {a} g) y = gives_told d (CCall.ReplayRollbackHeight a) as_height refl _ refl y g
  did_told (look_did {a} i g) y = gives_told d (CCall.Look i a) as_look refl _ refl y g
  did_told (summary_did {a} g) y = gives_told d (CCall.Summary a) as_summary refl _ refl y g
  did_told (emit_did i g) y = back_told (CCall.EmitRetirement i) refl refl _ refl y g
  did_told (finish_did i g) y = back_told (CCall.FinishReplayIfAdvanced i) refl refl _ refl y g
  did_told (clear_did g) y = back_told CCall.ClearLocalArtifacts refl refl _ refl y g
  did_told (restore_did g) y = back_told CCall.RestoreRuntime refl refl _ refl y g
  did_told (reconcile_did o s r b g) y =
      let ok = coin_listb o && id_listb s && ids_ok b in
      back_told (CCall.ReconcileChainTerminality o s r b) refl (unasked_behind ok (flag_in r) _ (λ v. refl)) _
      (listed_on nothing ok (flag_in r) (λ v. reconcile_chain_terminality o s v b) _ (λ v. ap (λ (z : Rule (Unit {0})). nothing <$> z) (reconcile_again o s v b))) y g
  did_told (rolled_back_did {a} x i g) y = gives_told d (CCall.CausallyRolledBackIds x i a) as_ids refl _ refl y g
  did_told (input_coins_did o a k g) (no_book e) = bytes_absent d (record { answer = a; count = k }) _ _ _ e g
  did_told (input_coins_did o a k g) (one_book m e h) =
      bytes_told d (record { answer = a; count = k }) (Call.ReconciliationInputCoins o (length a)) (reconciliation_input_coins o (length a)) refl refl m e
      (quiet_count m d a k h (reconciliation_quiet o (length a) m)) g
  did_told (absent_outputs_did is o a k g) (no_book e) = bytes_absent d (record { answer = a; count = k }) _ _ _ e g
  did_told (absent_outputs_did is o a k g) (one_book m e h) =
      bytes_told d (record { answer = a; count = k }) (Call.AbsentOutputsForIds is o (length a)) (absent_outputs_for_ids is o (length a)) refl refl m e
      (quiet_count m d a k h (absent_quiet is o (length a) m)) g
  did_told (begin_did {a} i g) y = gives_told d (CCall.BeginReplay i a) as_flag refl _ refl y g
  did_told (collect_did is g) y = back_told (CCall.CollectRollbackReplayIds is) refl refl _ refl y g
  did_told (write_did a k g) (no_book e) = unfold write_from in
      let x = ap (λ (m : Option Book). write_from m a k) e in
      counted_as d g x
  did_told (write_did a k g) (one_book m e h) =
      let x = ap (λ (m : Option Book). write_from m a k) e in
      counted_as d g x ∙ write_told d a k m h
