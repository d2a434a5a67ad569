-- Theorems on specs/Demand1.antt.
use Rattle.book.specs.declared.refusal.Refusal.{Refusal}
use Rattle.book.specs.declared.refusal.Refusal.TheVariants as turned
use Rattle.book.specs.Refusals.{refusal_number}
use Rattle.std.specs.Prelude.{ℕ, ◌≡◌, Bool, cond, ◌&&◌, leb, length}
use Rattle.std.proofs.Math.Path.{refl, ap}
use Rattle.std.proofs.Common.{sym, ◌∙◌, subst, arith, leb-true}
use Rattle.std.proofs.Math.Bool.{true, false, false≢true}
use mathlib.Core.List.{List, []}
use Rattle.std.specs.Prelude.{Option, None, Some}
use Rattle.std.proofs.Math.Dec.{eqb}
use Rattle.base_lists.specs.Laws.{or-false}
use Rattle.base_sha256.specs.Fips.{sha256_of}
use Rattle.base_coin_string.specs.Coin.{coin_id_of}
use Rattle.codec_forms.specs.Wire.{overlay}
use Rattle.book.specs.Model.{Book, view}
use Rattle.book.specs.Typed.{Every, U8}
use Rattle.archive_form.specs.Encode.{encode_model}
use Rattle.archive_form.specs.Parse.{read_archive, ArchiveRead, book, broken}
use Rattle.rules.specs.Call.{Call, Value}
use Rattle.rules.specs.Calls.{rules}
use Rattle.rules.specs.Opened.{opened}
use Rattle.rules.specs.Rule.{Outcome, ended, undone, stopped}
use Rattle.rules.specs.Steps.{run_book}
use Rattle.c_answer.specs.Answer.{declined, answer_in, coin_id_in, GivesAnswer}
use Rattle.c_boundary.specs.Held.{held_in}
use Rattle.c_boundary.specs.Settle.{Left, settled}
use Rattle.rules_answers.specs.Kind.{kind_of, is_drain, asks_room}
use Rattle.rules_answers.specs.Turned.{TurnedAway}
use Rattle.rules_answers.proofs.Turned.{turned_away_lem}
use Rattle.c_boundary_laws.specs.Lent.{held_holds, Wrote, wrote, short, written_as}
use Rattle.c_calls_chain.specs.Quiet.{length_by}
use Rattle.c_whole.specs.Whole.{read_into, GivesPlace}
use Rattle.c_api.specs.Functions.{CCall, Returned, answered, counted, CoinIdDid}
use Rattle.c_laws.specs.Functions.{Lent, lent, Asked, asks, bad_list, bad_value, call_of}
use Rattle.c_laws.specs.Told.{told, told_on, told_in, Held, no_book, one_book}
use Rattle.c_laws.proofs.Told.{did_told}
use Rattle.c_boundary.specs.Forms.{value_form}
use Rattle.book_answers.specs.declared.DrainedSubmission.{DrainedSubmission}
use Rattle.book.specs.Refusals as refusals
use Rattle.c_laws.specs.Demand1.{Function, OnBook, Open, Read, Sha256, CoinId, lent_to, Ended, call_ended, open_ended, read_ended, sha256_ended, coin_id_ended, Says, call_says, open_says, read_says, Hashes, sha256_says, coin_id_says, drain_stops, Demand1, new_book, new_answer, old_bytes, no_token, no_archive}

-- ---- calls
tells : (t : Bool) (s : List ℕ) (n : ℕ) → cond (t && eqb 0 0) (length s) n ≡ cond t (length s) n
tells true s n = refl
tells false s n = refl

module _ (d : List ℕ) (c : CCall) (k : Call) (m : Book) (e : held_in d ≡ Some m) (q : call_of c ≡ asks k) where
  ended_as : (x : Book) (xs : List DrainedSubmission) (v : Value) → run_book (rules encode_model k) m ≡ ended x xs v
      → (t : Bool) (l : Left) → Wrote 0 x (value_form xs v) d (lent c).answer t l
      → Demand1 (OnBook c) d (counted l.number l.book l.answer (cond (asks_room (kind_of k) && eqb l.number 0) (length_by value_form (lent c).count (ended x xs v)) (lent c).count))
  ended_as x xs v p true l (wrote h) = new_book x (value_form xs v) _ (call_says c k m e q p) refl refl refl (tells (asks_room (kind_of k)) (value_form xs v) (lent c).count)
  ended_as x xs v p false l short = old_bytes (λ z. omega arith) refl refl (go (asks_room (kind_of k)))
    where
      go : (t : Bool) → cond (t && eqb 12 0) (length_by value_form (lent c).count (ended x xs v)) (lent c).count ≡ (lent c).count
      go true = refl
      go false = refl

  stays : (t : Bool) → cond t (lent c).count (lent c).count ≡ (lent c).count
  stays true = refl
  stays false = refl

  stopped_as : (x : Book) (xs : List DrainedSubmission) (n : Refusal) → is_drain (kind_of k) ≡ true → n ≡ turned.NoToken → run_book (rules encode_model k) m ≡ stopped x xs n
      → (t : Bool) (l : Left) → Wrote (refusal_number n) x [] d (lent c).answer t l
      → Demand1 (OnBook c) d (counted l.number l.book l.answer (cond (asks_room (kind_of k) && eqb l.number 0) (lent c).count (lent c).count))
  unfolding overlay
  stopped_as x xs n i j p true l (wrote h) = no_token x (drain_stops c k m e q i (p ∙ ap (λ (z : Refusal). stopped x xs z) j)) (ap refusal_number j) refl refl (stays (asks_room (kind_of k) && eqb (refusal_number n) 0))
  stopped_as x xs n i j p false l short = old_bytes (λ z. omega arith) refl refl (stays (asks_room (kind_of k) && eqb 12 0))

  outcome_as : (o : Outcome Book Value) → run_book (rules encode_model k) m ≡ o → TurnedAway (is_drain (kind_of k)) (asks_room (kind_of k)) o → Demand1 (OnBook c) d (told (kind_of k) d (lent c) o)
  unfolding settled
  outcome_as (ended x xs v) p t = ended_as x xs v p _ _ (written_as 0 x (value_form xs v) d (lent c).answer)
  outcome_as (undone n) p t =
      old_bytes (λ z. false≢true (sym (or-false (eqb (refusal_number n) 0) _ t).0 ∙ ap (λ (y : ℕ). eqb y 0) z)) refl refl (stays (asks_room (kind_of k) && eqb (refusal_number n) 0))
  outcome_as (stopped x xs n) p t = stopped_as x xs n t.0 t.1 p _ _ (written_as (refusal_number n) x [] d (lent c).answer)

told_as : (d : List ℕ) (c : CCall) (m : Book) → held_in d ≡ Some m → (o : Asked) → call_of c ≡ o → Demand1 (OnBook c) d (told_on m d (lent c) o)
told_as d c m e bad_list q = old_bytes (λ z. omega arith) refl refl refl
told_as d c m e bad_value q = old_bytes (λ z. omega arith) refl refl refl
told_as d c m e (asks k) q = outcome_as d c k m e q (run_book (rules encode_model k) m) refl (turned_away_lem encode_model k m)

held_as : (d : List ℕ) (c : CCall) {x : Option Book} → Held d x → Demand1 (OnBook c) d (told_in x d c)
held_as d c (no_book e) = old_bytes (λ z. omega arith) refl refl refl
held_as d c (one_book m e h) = told_as d c m e (call_of c) refl

-- ---- opening and reading
put_as : (f : Function) (d : List ℕ) (m : Book) (k : ℕ) → lent_to f ≡ record { answer = []; count = k } → Says d f m [] k → {n : ℕ} {d' : List ℕ}
    → (t : Bool) (l : Left) → Wrote 0 m [] d [] t l → n ≡ l.number → d' ≡ l.book → Demand1 f d (counted n d' [] k)
unfolding overlay
put_as f d m k e s true l (wrote h) a b = new_book m [] k s a b (ap (λ (x : Lent). overlay [] x.answer) (sym e)) refl
put_as f d m k e s false l short a b = old_bytes (λ z. omega arith) b (ap (λ (x : Lent). x.answer) (sym e)) (ap (λ (x : Lent). x.count) (sym e))

read_as : (d archive : List ℕ) (place : ℕ) (x : ArchiveRead) → read_archive archive ≡ x → {n : ℕ} {d' : List ℕ} {p : ℕ} → GivesPlace (read_into x d place) n d' p
    → Demand1 (Read archive place) d (record { number = n; book = d'; answer = []; count = p })
unfolding read_into
read_as d archive place (book b) q {n} {d'} {p} g =
    subst (λ (z : ℕ). Demand1 (Read archive place) d (record { number = n; book = d'; answer = []; count = z })) (sym g.place)
    (put_as (Read archive place) d (view b) place refl (read_says archive place b q) _ _ (written_as 0 (view b) [] d []) g.number g.book)
read_as d archive place (broken e) q g = no_archive archive place refl (q ∙ ap broken (sym g.place)) g.number g.book refl

-- ---- without a book
hashed_as : (f : Function) (d s a : List ℕ) → lent_to f ≡ record { answer = a; count = 0 } → Hashes f s → {n : ℕ} {a' : List ℕ} → GivesAnswer (answer_in s a) n a'
    → Demand1 f d (answered n d a')
unfolding answer_in
hashed_as f d s a e h {n} {a'} g = go (leb (length s) (length a)) g
  where
    go : (t : Bool) → GivesAnswer (cond t (record { number = 0; answer = overlay s a }) (declined 12 a)) n a' → Demand1 f d (answered n d a')
    go true x = new_answer s h x.number refl (x.answer ∙ ap (λ (y : Lent). overlay s y.answer) (sym e)) (ap (λ (y : Lent). y.count) (sym e))
    go false x = old_bytes (λ z. omega (arith, x.number)) refl (x.answer ∙ ap (λ (y : Lent). y.answer) (sym e)) (ap (λ (y : Lent). y.count) (sym e))

coin_as : (d coin id : List ℕ) {n : ℕ} {a : List ℕ} → CoinIdDid coin id n a → Demand1 (CoinId coin id) d (answered n d a)
unfolding coin_id_in
coin_as d coin id {n} {a} g = go (leb (length coin) 73) refl g
  where
    go : (t : Bool) → leb (length coin) 73 ≡ t → GivesAnswer (cond t (answer_in (coin_id_of coin) id) (declined 3 id)) n a → Demand1 (CoinId coin id) d (answered n d a)
    go true e x = hashed_as (CoinId coin id) d (coin_id_of coin) id refl (coin_id_says coin id (leb-true (length coin) 73 e)) x
    go false e x = old_bytes (λ z. omega (arith, x.number)) refl x.answer refl

-- every function, on any bytes
pub demand_1 : (d : List ℕ) → Every U8 d → {f : Function} {r : Returned} → Ended d f r → Demand1 f d r
demand_1 d u (call_ended {c} {r} x) = go (held_in d) refl
  where
    go : (y : Option Book) → held_in d ≡ y → Demand1 (OnBook c) d r
    go None e = subst (Demand1 (OnBook c) d) (sym (did_told d x (no_book e))) (held_as d c (no_book e))
    go (Some m) e = subst (Demand1 (OnBook c) d) (sym (did_told d x (one_book m e (held_holds d u m e)))) (held_as d c (one_book m e (held_holds d u m e)))
demand_1 d u (open_ended token id g) = put_as (Open token id) d (opened token id) 0 refl (open_says token id) _ _ (written_as 0 (opened token id) [] d []) g.number g.book
demand_1 d u (read_ended archive place g) = read_as d archive place (read_archive archive) refl g
demand_1 d u (sha256_ended message digest g) = hashed_as (Sha256 message digest) d (sha256_of message) digest refl (sha256_says message digest) g
demand_1 d u (coin_id_ended coin id g) = coin_as d coin id g
