-- The sections as the code reads them.
use Rattle.std.specs.Prelude.{ℕ, suc, ◌+◌, ◌-◌, ◌≤◌, ◌<◌, ◌≡◌, refl, Bool, true, false, cond, List, [], ◌∷◌, ◌++◌, map, length, get_or, take, set, replicate, eqb, leb, ltb}
use Rattle.std.proofs.Common.{sym, ap, ◌∙◌, subst, append_assoc, append-nil, add-zero, add-one, arith, length-set, take-suc, take-suc-set, ne_eqb, leb-false}
use Rattle.std.proofs.lemmas.List.{map-append, take-set-le}
use Rattle.std.proofs.Math.Seq.{take-length}
use Rattle.std.specs.List.{flat_map}
use mir.Val.{bool_byte}
use Rattle.base_lists.specs.Laws.{flat_append}
use Rattle.codec_forms.specs.Wire.{Ans, got, bad, and_then, pick, checked, up_to, number}
use Rattle.codec_cursor.specs.Cursor.{Reads, passed, reads_as, reads_checked}
use Rattle.codec_cursor.specs.Items.{Counts}
use Rattle.codec_cursor.specs.Cells.{Filled, filled_list, ReadsCells}
use Rattle.book.specs.Zero.{zero_submitted}
use Rattle.book.specs.Sound.{id_of, attempt_token, tokens_of}
use Rattle.book.specs.declared.SubmittedTx.{SubmittedTx}
use Rattle.archive_form.specs.Parse.{above, parse_submitted}
use Rattle.archive_entry_read.specs.Entries.{parse_after, submitted_is}

-- ---- numbers: the count is 2
two_is : (s : List ℕ) (at : ℕ) → checked (λ k. eqb k 2) (number 1) s at ≡ checked (λ k. eqb k 2) (up_to 2) s at
unfolding checked up_to
two_is s at = go (number 1 s at)
  where
    inner : (k e : ℕ) (b : Bool) → leb k 2 ≡ b → pick (eqb k 2) (got k e) (bad at) ≡ and_then (pick b (got k e) (bad at)) (λ a d. pick (eqb a 2) (got a d) (bad at))
    inner k e true q = refl
    inner k e false q = let h = leb-false k 2 q in ap (λ (b : Bool). pick b (got k e) (bad at)) (ne_eqb k 2 (λ w. omega (arith, h)))

    go : (x : Ans ℕ) → and_then x (λ a d. pick (eqb a 2) (got a d) (bad at)) ≡ and_then (and_then x (λ a d. pick (leb a 2) (got a d) (bad at))) (λ a d. pick (eqb a 2) (got a d) (bad at))
    go (bad e) = refl
    go (got k e) = inner k e (leb k 2) refl

pub two_reads : {s : List ℕ} {c k d e : ℕ} → Reads (up_to 2) s c k d → e ≡ passed (eqb k 2) c d → Reads (checked (λ k. eqb k 2) (number 1)) s c k e
two_reads {s} {c} {k} {d} {e} h q = reads_as (two_is s) (subst (λ (i : ℕ). Reads (checked (λ k. eqb k 2) (up_to 2)) s c k i) (sym q) (reads_checked (λ k. eqb k 2) h refl))

-- ---- ids and tokens of the submissions read so far
pub record Seen (items : List SubmittedTx) (ids tokens : List ℕ) (m i : ℕ) : Type 0 where
  pub ids_are : take i ids ≡ map id_of (take i items)
  pub tokens_are : take m tokens ≡ flat_map tokens_of (take i items)
  pub few : m ≤ i + i
  pub ids_long : length ids ≡ 16
  pub tokens_long : length tokens ≡ 32

pub seen_start : Seen (replicate 16 zero_submitted) (replicate 16 0) (replicate 32 0) 0 0
seen_start = record { ids_are = refl; tokens_are = refl; few = omega arith; ids_long = refl; tokens_long = refl }

-- the token t is put behind the first m, and counts where its mark is set
one_token : (ts : List ℕ) (m t : ℕ) (b : Bool) → m < length ts → take (m + cond b 1 0) (set ts m t) ≡ take m ts ++ cond b (t ∷ []) []
one_token ts m t true h = ap (λ (n : ℕ). take n (set ts m t)) (add-one m) ∙ take-suc-set ts m t h
one_token ts m t false h = ap (λ (n : ℕ). take n (set ts m t)) (add-zero m) ∙ take-set-le m ts m t (omega arith) ∙ sym (append-nil (take m ts))

-- what a mark adds, as the code writes it
pub mark_counts : (m : ℕ) (b : Bool) → m + bool_byte b ≡ m + cond b 1 0
mark_counts m true = refl
mark_counts m false = refl

some : (b : Bool) → cond b 1 0 ≤ 1
some true = omega arith
some false = omega arith

pub seen_more : {items : List SubmittedTx} {ids tokens : List ℕ} {m i : ℕ} (x : SubmittedTx) (m₁ m₂ : ℕ) → Seen items ids tokens m i → i < 16 → length items ≡ 16
    → m₁ ≡ m + cond x.slots.active_attempt.present 1 0 → m₂ ≡ m₁ + cond x.slots.completed_attempt.present 1 0
    → Seen (set items i x) (set ids i (id_of x)) (set (set tokens m x.slots.active_attempt.attempt.token.0) m₁ x.slots.completed_attempt.attempt.token.0) m₂ (i + 1)
seen_more {items} {ids} {tokens} {m} {i} x m₁ m₂ s h w p q =
    let a = x.slots.active_attempt in
    let c = x.slots.completed_attempt in
    let ts = set tokens m a.attempt.token.0 in
    let f : take (i + 1) (set items i x) ≡ take i items ++ (x ∷ []) = ap (λ (n : ℕ). take n (set items i x)) (add-one i) ∙ take-suc-set items i x (omega arith) in
    let l : length ts ≡ 32 = length-set tokens m a.attempt.token.0 ∙ s.tokens_long in
    let k : m₁ < length ts = omega (arith, l, p, s.few, some a.present) in
    let g : take m₁ ts ≡ take m tokens ++ attempt_token a = ap (λ (n : ℕ). take n ts) p ∙ one_token tokens m a.attempt.token.0 a.present (omega (arith, s.few, s.tokens_long)) in
    record {
      ids_are = ap (λ (n : ℕ). take n (set ids i (id_of x))) (add-one i) ∙ take-suc-set ids i (id_of x) (omega (arith, s.ids_long))
          ∙ ap (λ (t : List ℕ). t ++ (id_of x ∷ [])) s.ids_are ∙ sym (ap (map id_of) f ∙ map-append id_of (take i items) (x ∷ []));
      tokens_are = ap (λ (n : ℕ). take n (set ts m₁ c.attempt.token.0)) q ∙ one_token ts m₁ c.attempt.token.0 c.present k
          ∙ ap (λ (t : List ℕ). t ++ attempt_token c) (g ∙ ap (λ (t : List ℕ). t ++ attempt_token a) s.tokens_are) ∙ append_assoc (flat_map tokens_of (take i items)) (attempt_token a) (attempt_token c)
          ∙ sym (ap (flat_map tokens_of) f ∙ flat_append tokens_of (take i items) (x ∷ []) ∙ ap (λ (t : List ℕ). flat_map tokens_of (take i items) ++ t) (append-nil (tokens_of x)));
      few = omega (arith, s.few, p, q, some a.present, some c.present);
      ids_long = length-set ids i (id_of x) ∙ s.ids_long;
      tokens_long = length-set ts m₁ c.attempt.token.0 ∙ l;
    }

-- what was read with the ids and the tokens in hand was read with the submissions in hand
pub after_seen : {items : List SubmittedTx} {ids tokens : List ℕ} {m i : ℕ} (next : ℕ) {s : List ℕ} {c e : ℕ} {v : SubmittedTx}
    → Seen items ids tokens m i → Reads (parse_after next (take i ids) (take m tokens)) s c v e → Reads (parse_submitted next (take i items)) s c v e
after_seen {items} {ids} {tokens} {m} {i} next {s} {c} {e} {v} n h =
    reads_as (submitted_is next (take i items) s)
    (subst (λ (l : List ℕ). Reads (parse_after next (map id_of (take i items)) l) s c v e) n.tokens_are (subst (λ (l : List ℕ). Reads (parse_after next l (take m tokens)) s c v e) n.ids_are h))

pub record ReadsRetained (next : ℕ) (s : List ℕ) (c k : ℕ) (items : List SubmittedTx) (ids : List ℕ) (e : ℕ) : Type 0 where
  pub cells : ReadsCells 16 zero_submitted (parse_submitted next) s c k items e
  pub ids_are : take k ids ≡ map id_of (take k items)
  pub few : k ≤ 16

pub retained_done : {next : ℕ} {s : List ℕ} {b c k : ℕ} {items : List SubmittedTx} {ids tokens : List ℕ} {e m i : ℕ}
    → Counts 16 s b k c → Filled 16 zero_submitted (parse_submitted next) s c k items e i → Seen items ids tokens m i → k ≤ i
    → ReadsRetained next s b k items ids e
retained_done {next} {s} {b} {c} {k} {items} {ids} {tokens} {e} {m} {i} r f n h = record {
  cells = filled_list r.reads r.few f h;
  ids_are = same (omega (arith, f.some)) n.ids_are;
  few = r.few;
}
  where
    same : i ≡ k → take i ids ≡ map id_of (take i items) → take k ids ≡ map id_of (take k items)
    same q w = subst (λ (j : ℕ). take j ids ≡ map id_of (take j items)) q w

-- ---- above the last
above_last : (l : List ℕ) (y x : ℕ) → above (l ++ (y ∷ [])) x ≡ ltb y x
above_last [] y x = refl
above_last (a ∷ []) y x = refl
above_last (a ∷ b ∷ l) y x = above_last (b ∷ l) y x

pub above_is : (xs : List ℕ) (x : ℕ) → (length xs ≡ 0 → ⊥) → ltb (get_or xs (length xs - 1) 0) x ≡ above xs x
above_is xs x h =
    let n = length xs - 1 in
    let q : suc n ≡ length xs = omega arith in
    sym (above_last (take n xs) (get_or xs n 0) x) ∙ ap (λ (l : List ℕ). above l x) (sym (take-suc xs n 0 (omega arith)) ∙ ap (λ (k : ℕ). take k xs) q ∙ take-length xs)
