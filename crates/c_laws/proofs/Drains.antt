-- Theorems on specs/Drains.antt.
use Rattle.book.specs.declared.refusal.Refusal.{Refusal}
use Rattle.book.specs.declared.refusal.Refusal.TheVariants as turned
use Rattle.book.specs.Refusals.{refusal_number}
use Rattle.std.specs.Prelude.{ℕ, ◌≡◌, refl, Bool, true, false, cond, length}
use Rattle.std.proofs.Common.{sym, ◌∙◌, subst, arith}
use Rattle.std.proofs.Math.Path.{ap}
use Rattle.std.proofs.lemmas.Bool.{false≢true}
use mathlib.Core.List.{List, [], ◌∷◌, ◌++◌, append_assoc}
use Rattle.std.proofs.Math.Dec.{eqb}
use Rattle.base_lists.specs.Laws.{or-false}
use Rattle.codec_forms.specs.Wire.{overlay}
use Rattle.book.specs.Model.{Book}
use Rattle.book.specs.Typed.{Every}
use Rattle.archive_form.specs.Encode.{encode_model}
use Rattle.rules.specs.Books.{book_after}
use Rattle.rules.specs.Call.{Call, Value}
use Rattle.rules.specs.Calls.{rules}
use Rattle.rules.specs.Rule.{Outcome, ended, undone, stopped, issued_by}
use Rattle.rules.specs.Steps.{run_book}
use Rattle.c_boundary.specs.Settle.{Left, settled}
use Rattle.rules_answers.specs.Turned.{TurnedAway}
use Rattle.rules_answers.proofs.Turned.{turned_away_lem}
use Rattle.c_boundary_laws.specs.Lent.{Wrote, wrote, short, written_as}
use Rattle.c_api.specs.Functions.{CCall, Returned, Did}
use Rattle.c_laws.specs.Functions.{TypedC}
use Rattle.c_laws.specs.Listed.{room_for, heard_of, calls, Ran, no_call, then_call}
use Rattle.c_laws.specs.Steps.{Good, book_append}
use Rattle.c_laws.proofs.Steps.{stepped, behind}
use Rattle.c_boundary.specs.Forms.{value_form}
use Rattle.book.specs.Refusals as refusals
use Rattle.c_laws.specs.Drains.{value_by, DrainDone, DrainedIn}

-- ---- one drain: with 0 there was room, and the answer has the bytes
record Wholly (d a : List ℕ) (o : Outcome Book Value) : Type 0 where
  room : room_for (length d) (length a) o ≡ true
  bytes : (settled value_form d a o).answer ≡ overlay (value_form (issued_by o) (value_by o)) a

module _ (d a : List ℕ) where
  wrote_whole : (m : Book) (s : List ℕ) (t : Bool) (l : Left) → Wrote 0 m s d a t l → l.number ≡ 0 → (t ≡ true) × (l.answer ≡ overlay s a)
  wrote_whole m s true l (wrote q) e = (refl, refl)
  wrote_whole m s false l short e = absurd (omega arith)

  not_stopped : {X : Type 0} (n : ℕ) (m : Book) (t : Bool) (l : Left) → Wrote n m [] d a t l → n ≡ refusals.no_token → l.number ≡ 0 → X
  not_stopped n m true l (wrote q) h e = absurd (omega arith)
  not_stopped n m false l short h e = absurd (omega arith)

  wholly : (o : Outcome Book Value) → TurnedAway true false o → (settled value_form d a o).number ≡ 0 → Wholly d a o
  unfolding settled
  wholly (ended m xs v) t e = let w = wrote_whole m (value_form xs v) _ _ (written_as 0 m (value_form xs v) d a) e in record { room = w.0; bytes = w.1 }
  wholly (undone n) t e = absurd (false≢true (sym (or-false (eqb (refusal_number n) 0) (eqb (refusal_number n) refusals.short_buffer) t).0 ∙ ap (λ (x : ℕ). eqb x 0) e))
  wholly (stopped m xs n) t e = not_stopped (refusal_number n) m _ _ (written_as (refusal_number n) m [] d a) (ap refusal_number t.1) e

drain_done : {m : Book} {d a : List ℕ} {r : Returned} → Good m d → Did d (CCall.Drain a) r → r.number ≡ 0 → DrainDone m d a r
drain_done {m} {d} {a} {r} g x e =
    let o = run_book (rules encode_model Call.Drain) m in
    let s = stepped g tt x in
    let w = wholly d a o (turned_away_lem encode_model Call.Drain m) (sym (ap (λ (y : Returned). y.number) s.returned) ∙ e) in
    record { heard = ap (λ (t : Bool). cond t (Call.Drain ∷ []) []) w.room; bytes = ap (λ (y : Returned). y.answer) s.returned ∙ w.bytes }

-- ---- a call in the middle of a list
nil_cons : {A X : Type 0} {x : A} {xs : List A} → [] ≡ x ∷ xs → X
nil_cons e = absurd (let z : ◌≡◌ {A = ℕ} 0 1 = cc in omega arith)

head_is : {A : Type 0} {x y : A} {xs ys : List A} → x ∷ xs ≡ y ∷ ys → x ≡ y
head_is e = cc

tail_is : {A : Type 0} {x y : A} {xs ys : List A} → x ∷ xs ≡ y ∷ ys → xs ≡ ys
tail_is e = cc

-- the calls before it returned qs, and it returned r
data Split (d : List ℕ) (before : List CCall) (c : CCall) (qs : List Returned) (r : Returned) : Type 0 where
  split : {e : List ℕ} → Ran d before qs e → Did e c r → Split d before c qs r

split_next : {d : List ℕ} {b c : CCall} {before : List CCall} {q r : Returned} {qs : List Returned} → Did d b q → Split q.book before c qs r → Split d (b ∷ before) c (q ∷ qs) r
split_next x (split xs y) = split (then_call x xs) y

ran_split : (before : List CCall) (qs : List Returned) {d e : List ℕ} {cs : List CCall} {rs : List Returned} → Ran d cs rs e
    → (f : CCall) (rest : List CCall) (y : Returned) (ss : List Returned) → cs ≡ before ++ f ∷ rest → rs ≡ qs ++ y ∷ ss → length qs ≡ length before → Split d before f qs y
ran_split [] [] (no_call d) f rest y ss p q l = nil_cons p
ran_split [] [] (then_call {d} x xs) f rest y ss p q l =
    split (no_call d) (subst (λ (b : CCall). Did d b y) (head_is p) (subst (Did d _) (head_is q) x))
ran_split [] (z ∷ qs) ran f rest y ss p q l = absurd (omega arith)
ran_split (b ∷ before) [] ran f rest y ss p q l = absurd (omega arith)
ran_split (b ∷ before) (z ∷ qs) (no_call d) f rest y ss p q l = nil_cons p
ran_split (b ∷ before) (z ∷ qs) (then_call {d} {c} x xs) f rest y ss p q l =
    subst (λ (k : CCall). Split d (k ∷ before) f (z ∷ qs) y) (head_is p)
    (subst (λ (k : Returned). Split d (c ∷ before) f (k ∷ qs) y) (head_is q)
    (split_next x (ran_split before qs xs f rest y ss (tail_is p) (tail_is q) (omega arith))))

-- the ledger's list, at that call
calls_split : (n : ℕ) (m : Book) (before : List CCall) (c : CCall) (rest : List CCall) (k : Book) → k ≡ book_after encode_model (calls n m before) m
    → calls n m (before ++ c ∷ rest) ≡ calls n m before ++ (heard_of n k c ++ calls n (book_after encode_model (heard_of n k c) k) rest)
unfolding calls book_after
calls_split n m [] c rest k e = subst (λ (x : Book). calls n m (c ∷ rest) ≡ heard_of n x c ++ calls n (book_after encode_model (heard_of n x c) x) rest) (sym e) refl
calls_split n m (b ∷ before) c rest k e =
    let ys = heard_of n m b in
    let m' = book_after encode_model ys m in
    let zs = heard_of n k c ++ calls n (book_after encode_model (heard_of n k c) k) rest in
    ap (λ (x : List Call). ys ++ x) (calls_split n m' before c rest k (e ∙ book_append ys (calls n m' before) m)) ∙ sym (append_assoc ys (calls n m' before) zs)

every_front : {A : Type 0} (P : A → Type 0) (xs ys : List A) → Every P (xs ++ ys) → Every P xs
every_front P [] ys h = tt
every_front P (x ∷ xs) ys h = (h.0, every_front P xs ys h.1)

pub drained_in_lem : {m : Book} {d e : List ℕ} {cs : List CCall} {rs : List Returned} → Good m d → Every TypedC cs → Ran d cs rs e
    → (before : List CCall) (a : List ℕ) (rest : List CCall) → cs ≡ before ++ CCall.Drain a ∷ rest
    → (qs : List Returned) (r : Returned) (ss : List Returned) → rs ≡ qs ++ r ∷ ss → length qs ≡ length before → r.number ≡ 0 → DrainedIn m (length d) before cs a r
drained_in_lem {m} {d} {e} {cs} g t ran before a rest p qs r ss q l z = go (ran_split before qs ran (CCall.Drain a) rest r ss p q l)
  where
    n : ℕ
    n = length d

    k : Book
    k = book_after encode_model (calls n m before) m

    go : Split d before (CCall.Drain a) qs r → DrainedIn m n before cs a r
    go (split xs x) =
        let b = behind g (every_front TypedC before (CCall.Drain a ∷ rest) (subst (Every TypedC) p t)) xs in
        let y = drain_done b.good x z in
        let h : heard_of n k (CCall.Drain a) ≡ Call.Drain ∷ [] = ap (λ (j : ℕ). heard_of j k (CCall.Drain a)) (sym b.long) ∙ y.heard in
        record {
          rest = calls n (book_after encode_model (heard_of n k (CCall.Drain a)) k) rest;
          heard = ap (calls n m) p ∙ calls_split n m before (CCall.Drain a) rest k refl
              ∙ ap (λ (w : List Call). calls n m before ++ (w ++ calls n (book_after encode_model (heard_of n k (CCall.Drain a)) k) rest)) h;
          bytes = y.bytes;
        }
