-- A loop that reads elements into cells, each with those before it in hand.
use Prim.Native.Nat.{ℕ, zero, suc, ◌+◌, ◌≤◌, ◌<◌}
use Rattle.std.specs.Prelude.{◌≡◌, length, take, set, replicate}
use Rattle.std.proofs.Math.Path.{refl, ap}
use Rattle.std.proofs.Common.{sym, ◌∙◌, subst, add-one, arith, length-set, take-suc-set, length-take-le}
use mathlib.Core.List.{List, [], ◌∷◌, ◌++◌, append_assoc, append-nil}
use Rattle.std.proofs.Math.Nat.{sub-zero}
use Rattle.std.proofs.lemmas.List.{length-replicate}
use Rattle.base_lists.specs.Lists.{cells}
use Rattle.base_lists.specs.Laws.{push_normal}
use Rattle.codec_forms.specs.Wire.{Ans, got, bad, and_then, Parser, ◌>>=◌, done, up_to, many_from, counted, list_from}
use Rattle.codec_cursor.specs.Cursor.{Reads, reads_then, reads_as, ends, ends_as}

-- one more element is read behind the others
module _ {A : Type 0} (p : List A → Parser A) (s : List ℕ) where
  abbrev last : List A → Ans (List A) → Ans (List A)
  last before r = and_then r (λ l e. and_then (p (before ++ l) s e) (λ a d. got (l ++ (a ∷ [])) d))

  many_last : (n : ℕ) (before : List A) (at : ℕ) → many_from p before (suc n) s at ≡ last before (many_from p before n s at)
  unfolding many_from
  many_last zero before at = ap (λ (b : List A). and_then (p b s at) (λ a e. got (a ∷ []) e)) (sym (append-nil before))
  many_last (suc n) before at = go (p before s at) (λ a e. many_last n (before ++ (a ∷ [])) e)
    where
      inner : (a : A) (l : List A) (r : Ans A) → and_then (and_then r (λ x d. got (l ++ (x ∷ [])) d)) (λ t d. got (a ∷ t) d) ≡ and_then r (λ x d. got ((a ∷ l) ++ (x ∷ [])) d)
      inner a l (got x d) = refl
      inner a l (bad d) = refl

      front : (a : A) (x : Ans (List A)) → and_then (last (before ++ (a ∷ [])) x) (λ l d. got (a ∷ l) d) ≡ last before (and_then x (λ l d. got (a ∷ l) d))
      front a (bad d) = refl
      front a (got l d) =
          ap (λ (b : List A). and_then (and_then (p b s d) (λ x d. got (l ++ (x ∷ [])) d)) (λ t d. got (a ∷ t) d)) (append_assoc before (a ∷ []) l)
          ∙ inner a l (p (before ++ (a ∷ l)) s d)

      go : (r : Ans A) → ((a : A) (e : ℕ) → many_from p (before ++ (a ∷ [])) (suc n) s e ≡ last (before ++ (a ∷ [])) (many_from p (before ++ (a ∷ [])) n s e))
          → and_then r (λ a e. and_then (many_from p (before ++ (a ∷ [])) (suc n) s e) (λ l d. got (a ∷ l) d))
          ≡ last before (and_then r (λ a e. and_then (many_from p (before ++ (a ∷ [])) n s e) (λ l d. got (a ∷ l) d)))
      go (bad e) h = refl
      go (got a e) h = ap (λ (x : Ans (List A)). and_then x (λ l d. got (a ∷ l) d)) (h a e) ∙ front a (many_from p (before ++ (a ∷ [])) n s e)

-- of k elements from the cursor c on, i are read into n cells, and the cursor is e
pub record Filled {A : Type 0} (n : ℕ) (z : A) (p : List A → Parser A) (s : List ℕ) (c k : ℕ) (cs : List A) (e i : ℕ) : Type 0 where
  pub some : i ≤ k
  pub whole : length cs ≡ n
  pub rest : cs ≡ cells n z (take i cs)
  pub read : Reads (many_from p [] i) s c (take i cs) e

pub filled_start : {A : Type 0} (n : ℕ) (z : A) (p : List A → Parser A) (s : List ℕ) (c k : ℕ) → Filled n z p s c k (replicate n z) c 0
unfolding many_from
filled_start n z p s c k = record {
  some = omega arith;
  whole = length-replicate n z;
  rest = ap (λ (i : ℕ). replicate i z) (sym (sub-zero n));
  read = ends;
}

module _ {A : Type 0} {n : ℕ} {z : A} {p : List A → Parser A} {s : List ℕ} {c k : ℕ} {cs : List A} {e i : ℕ} (f : Filled n z p s c k cs e i) where
  pub filled_more : {v : A} {d : ℕ} → k ≤ n → i < k → Reads (p (take i cs)) s e v d → Filled n z p s c k (set cs i v) d (i + 1)
  filled_more {v} {d} kn h q =
      let t : take i cs ++ (v ∷ []) ≡ take (i + 1) (set cs i v) = sym (ap (λ (m : ℕ). take m (set cs i v)) (add-one i) ∙ take-suc-set cs i v (omega (arith, f.whole))) in
      let w : (m : ℕ) → many_from p [] (i + 1) s m ≡ (many_from p [] i >>= λ l. p l >>= λ a. done (l ++ (a ∷ []))) s m = λ m. ap (λ (j : ℕ). many_from p [] j s m) (add-one i) ∙ many_last p s i [] m in
      let r : Reads (many_from p [] i >>= λ l. p l >>= λ a. done (l ++ (a ∷ []))) s c (take (i + 1) (set cs i v)) d = reads_then (λ l. p l >>= λ a. done (l ++ (a ∷ []))) f.read (reads_then _ q (ends_as t)) in
      record {
        some = omega arith;
        whole = length-set cs i v ∙ f.whole;
        rest = push_normal n z cs i v f.rest f.whole (omega arith);
        read = reads_as w r;
      }

-- all of a list is read: its count is k, its cells are cs
pub record ReadsCells {A : Type 0} (n : ℕ) (z : A) (p : List A → Parser A) (s : List ℕ) (c k : ℕ) (cs : List A) (e : ℕ) : Type 0 where
  pub read : Reads (list_from n p) s c (take k cs) e
  pub long : length (take k cs) ≡ k
  pub same : cells n z (take k cs) ≡ cs

pub filled_list : {A : Type 0} {n : ℕ} {z : A} {p : List A → Parser A} {s : List ℕ} {b c k : ℕ} {cs : List A} {e i : ℕ} → Reads (up_to n) s b k c → k ≤ n → Filled n z p s c k cs e i → k ≤ i → ReadsCells n z p s b k cs e
unfolding list_from counted
filled_list {A} {n} {z} {p} {s} {b} {c} {k} {cs} {e} {i} r kn f h =
    let q : i ≡ k = omega (arith, f.some) in
    record {
      read = reads_then _ r (ap_read q);
      long = length-take-le k cs (omega (arith, f.whole));
      same = sym (f.rest ∙ ap (λ (j : ℕ). cells n z (take j cs)) q);
    }
  where
    ap_read : i ≡ k → Reads (many_from p [] k) s c (take k cs) e
    ap_read q = subst (λ (j : ℕ). Reads (many_from p [] j) s c (take j cs) e) q f.read
