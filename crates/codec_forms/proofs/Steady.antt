-- Theorems on specs/Steady.antt.
use Rattle.std.specs.Prelude.{ℕ, zero, suc, ◌+◌, ◌≤◌, ◌≡◌, Bool, true, false, List, [], length, take, drop, leb}
use Rattle.std.proofs.Math.Path.{refl, ap}
use Rattle.std.proofs.Common.{sym, ◌∙◌, subst, take-add, drop_at, length-take-le, le-leb, leb-true}
use native.Mathlib.Omega.{arith}
use Rattle.codec_forms.specs.Wire.{Ans, got, bad, and_then, Parser, pick, run, number, be_from, checked, up_to, chosen, optional_by, optional, counted, list_from}
use Rattle.codec_forms.specs.Lawful.{bad_got}
use Rattle.codec_forms.specs.Steady.{Steady, got_same, bad_same, got_bad, as_long, steady_bind, steady_done, Item, steady_many}

-- ---- a byte run
run_got : (n : ℕ) (s : List ℕ) (at e : ℕ) (l : List ℕ) (b : Bool) → leb (at + n) (length s) ≡ b → pick b (got (take n (drop at s)) (at + n)) (bad at) ≡ got l e → (at + n ≤ length s) × (take n (drop at s) ≡ l) × (at + n ≡ e)
run_got n s at e l false q y = bad_got y
run_got n s at e l true q y = (leb-true _ _ q, (got_same y).0, (got_same y).1)

run_bad : (n : ℕ) (s : List ℕ) (at j : ℕ) (b : Bool) → pick b (got (take n (drop at s)) (at + n)) (bad at) ≡ bad j → at ≡ j
run_bad n s at j false y = bad_same y
run_bad n s at j true y = got_bad y

-- the part from at on, out of the start
part_of : (n at : ℕ) (s : List ℕ) → at + n ≤ length s → drop at (take (at + n) s) ≡ take n (drop at s)
part_of n at s h = ap (λ (l : List ℕ). drop at l) (take-add at n s) ∙ drop_at (take at s) (take n (drop at s)) at (length-take-le at s (omega arith))

pub steady_run : (n : ℕ) → Steady (run n)
unfolding run
steady_run n = record {
  ahead = λ s at e l h y. let x = run_got n s at e l (leb (at + n) (length s)) refl y in (omega (arith, x.2), omega (arith, x.0, x.2));
  place = λ s at k h y. let x = run_bad n s at k (leb (at + n) (length s)) y in (omega arith, omega arith);
  same = λ s t at e l h y w. run_same n s t at e l y w;
  first = λ s t at k j h y w y'.
      let x = run_bad n s at k (leb (at + n) (length s)) y in
      let z = run_bad n t at j (leb (at + n) (length t)) y' in
      omega arith;
}
  where
    run_same : (n : ℕ) (s t : List ℕ) (at e : ℕ) (l : List ℕ) → pick (leb (at + n) (length s)) (got (take n (drop at s)) (at + n)) (bad at) ≡ got l e → take e t ≡ take e s → pick (leb (at + n) (length t)) (got (take n (drop at t)) (at + n)) (bad at) ≡ got l e
    run_same n s t at e l y w =
        let x = run_got n s at e l (leb (at + n) (length s)) refl y in
        let w' : take (at + n) t ≡ take (at + n) s = subst (λ (i : ℕ). take i t ≡ take i s) (sym x.2) w in
        let c = as_long s t (at + n) x.0 w' in
        let d : take n (drop at t) ≡ take n (drop at s) = sym (part_of n at t c) ∙ ap (λ (u : List ℕ). drop at u) w' ∙ part_of n at s x.0 in
        ap (λ (b : Bool). pick b (got (take n (drop at t)) (at + n)) (bad at)) (le-leb (at + n) (length t) c)
        ∙ ap (λ (u : List ℕ). got u (at + n)) (d ∙ x.1)
        ∙ ap (λ (i : ℕ). got l i) x.2

pub steady_number : (w : ℕ) → Steady (number w)
unfolding number
steady_number w = steady_bind (steady_run w) (λ l. steady_done (be_from 0 l))

number_bad : (w : ℕ) (s : List ℕ) (at k : ℕ) (r : Ans (List ℕ)) → run w s at ≡ r → and_then r (λ l e. got (be_from 0 l) e) ≡ bad k → run w s at ≡ bad k
number_bad w s at k (bad e) q y = q ∙ ap bad (bad_same y)
number_bad w s at k (got l e) q y = got_bad y

run_start : (w : ℕ) (s : List ℕ) (at k : ℕ) → run w s at ≡ bad k → at ≡ k
unfolding run
run_start w s at k y = run_bad w s at k (leb (at + w) (length s)) y

pub number_item_lem : (w : ℕ) → Item (number w)
unfolding number
number_item_lem w = record { steady = steady_number w; start = λ s at k y. run_start w s at k (number_bad w s at k (run w s at) refl y) }

-- an item with a rule
module _ {A : Type 0} (test : A → Bool) {p : Parser A} (it : Item p) where
  check_got : (at e : ℕ) (a : A) (r : Ans A) → and_then r (λ x d. pick (test x) (got x d) (bad at)) ≡ got a e → (r ≡ got a e) × (test a ≡ true)
  check_got at e a (bad d) y = bad_got y
  check_got at e a (got x d) y = go (test x) refl y
    where
      go : (b : Bool) → test x ≡ b → pick b (got x d) (bad at) ≡ got a e → (got x d ≡ got a e) × (test a ≡ true)
      go false w y = bad_got y
      go true w y = (y, ap test (sym (got_same y).0) ∙ w)

  check_bad : (s : List ℕ) (at k : ℕ) (r : Ans A) → p s at ≡ r → and_then r (λ x d. pick (test x) (got x d) (bad at)) ≡ bad k → at ≡ k
  check_bad s at k (bad d) q y = it.start s at k (q ∙ ap bad (bad_same y))
  check_bad s at k (got x d) q y = go (test x) y
    where
      go : (b : Bool) → pick b (got x d) (bad at) ≡ bad k → at ≡ k
      go false y = bad_same y
      go true y = got_bad y

  pub checked_item : Item (checked test p)
  unfolding checked
  checked_item = record {
    steady = record {
      ahead = λ s at e a h y. it.steady.ahead s at e a h (check_got at e a (p s at) y).0;
      place = λ s at k h y. let x = check_bad s at k (p s at) refl y in (omega arith, omega arith);
      same = λ s t at e a h y w.
          let x = check_got at e a (p s at) y in
          ap (λ (r : Ans A). and_then r (λ x d. pick (test x) (got x d) (bad at))) (it.steady.same s t at e a h x.0 w) ∙ ap (λ (b : Bool). pick b (got a e) (bad at)) x.1;
      first = λ s t at k j h y w y'.
          let x = check_bad s at k (p s at) refl y in
          let z = check_bad t at j (p t at) refl y' in
          omega arith;
    };
    start = λ s at k y. check_bad s at k (p s at) refl y;
  }

pub up_to_item : (m : ℕ) → Item (up_to m)
unfolding up_to
up_to_item m = checked_item (λ n. leb n m) (number_item_lem 1)

steady_chosen : {A : Type 0} (z : A) {p : Parser A} → Steady p → (k : ℕ) → Steady (chosen z p k)
unfolding chosen
steady_chosen z sp zero = steady_done z
steady_chosen z sp (suc k) = sp

pub steady_optional_by : {A : Type 0} (rule : ℕ → Bool) (z : A) {p : Parser A} → Steady p → Steady (optional_by rule z p)
unfolding optional_by
steady_optional_by rule z sp = steady_bind (checked_item rule (up_to_item 1)).steady (steady_chosen z sp)

pub steady_optional : {A : Type 0} (z : A) {p : Parser A} → Steady p → Steady (optional z p)
unfolding optional
steady_optional z sp = steady_bind (up_to_item 1).steady (steady_chosen z sp)

pub steady_counted : {A : Type 0} (n : ℕ) {body : ℕ → Parser A} → ((k : ℕ) → Steady (body k)) → Steady (counted n body)
unfolding counted
steady_counted n sb = steady_bind (up_to_item n).steady sb

pub steady_list : {A : Type 0} (n : ℕ) {p : List A → Parser A} → ((before : List A) → Steady (p before)) → Steady (list_from n p)
unfolding list_from
steady_list n sp = steady_counted n (steady_many sp [])
