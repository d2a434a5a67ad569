-- A loop that moves what passes to the front of its own cells: each cell is taken out, leaving z, and what passes is put back behind
-- what was kept so far. So the cells behind what is kept are z at every turn.
use Rattle.std.specs.Prelude.{◌≡◌, refl, Bool, true, false, List, [], ◌∷◌, ◌++◌, ℕ, zero, suc, ◌+◌, ◌-◌, ◌≤◌, ◌<◌, length, drop, set, get_or, replicate}
use Rattle.std.proofs.Common.{sym, ap, ◌∙◌, subst, append_assoc, arith, length-append, drop_of_length-le}
use Rattle.std.proofs.lemmas.List.{length-replicate, replicate-append-replicate, set_at, get_or_at}
use Rattle.std.proofs.Math.ListN.{get_or-append}
use Rattle.base_lists.specs.Lists.{cells}
use Rattle.std.specs.List.{filter}
use Rattle.base_lists.specs.Laws.{rest_step, filter_keep, filter_skip, filter_done, drop_cells}
use Rattle.book.specs.SoundLaws.{Counted}

-- i of the list xs are looked at, and w of them are kept at the front of the cells cs
pub record Moving {A : Type 0} (N : ℕ) (z : A) (p : A → Bool) (xs cs : List A) (w i : ℕ) : Type 0 where
  pub kept : List A
  pub count : length kept ≡ w
  pub fewer : w ≤ i
  pub within : i ≤ length xs
  pub held : cs ≡ kept ++ (replicate (i - w) z ++ drop i (cells N z xs))
  pub rest : kept ++ filter p (drop i xs) ≡ filter p xs

replicate_snoc : {A : Type 0} (n : ℕ) (z : A) (ys : List A) → replicate n z ++ (z ∷ ys) ≡ z ∷ (replicate n z ++ ys)
replicate_snoc zero z ys = refl
replicate_snoc {A} (suc n) z ys = ap (λ (l : List A). z ∷ l) (replicate_snoc n z ys)

module _ {A : Type 0} (N : ℕ) (z : A) (p : A → Bool) (xs : List A) where
  pub move_start : {n : ℕ} {cs : List A} → Counted N z n cs xs → Moving N z p xs cs 0 0
  move_start c = record {
    kept = [];
    count = refl;
    fewer = omega arith;
    within = omega arith;
    held = c.held;
    rest = refl;
  }

  module _ (cs : List A) (w i : ℕ) (m : Moving N z p xs cs w i) where
    -- at the end the cells hold what passes
    pub move_done : length xs ≤ i → length xs ≤ N → Counted N z w cs (filter p xs)
    move_done h room =
        let e : i ≡ length xs = let l = m.within in omega arith in
        let f : m.kept ≡ filter p xs = filter_done p m.kept (drop_of_length-le xs {i = i} h) m.rest in
        let c : length m.kept ≡ w = m.count in
        let l : w ≤ i = m.fewer in
        record {
          count = sym c ∙ ap length f;
          held =
              m.held
              ∙ ap (λ (k : ℕ). m.kept ++ (replicate (k - w) z ++ drop k (cells N z xs))) e
              ∙ ap (λ (ys : List A). m.kept ++ (replicate (length xs - w) z ++ ys)) (drop_cells N z xs)
              ∙ ap (λ (ys : List A). m.kept ++ ys) (replicate-append-replicate (length xs - w) (N - length xs) z)
              ∙ ap (λ (k : ℕ). m.kept ++ replicate k z) (left c e l)
              ∙ ap (cells N z) f;
        }
      where
        left : length m.kept ≡ w → i ≡ length xs → w ≤ i → (length xs - w) + (N - length xs) ≡ N - length m.kept
        left c e l = omega arith

    module _ (d : A) (h : i < length xs) where
      abbrev front : List A
      front = m.kept ++ replicate (i - w) z

      abbrev behind : List A
      behind = drop (i + 1) (cells N z xs)

      at : length front ≡ i
      at =
          let l = length-append m.kept (replicate (i - w) z) in
          let r = length-replicate (i - w) z in
          let c = m.count in
          let f = m.fewer in
          omega arith

      -- the cells around the one that is looked at
      around : cs ≡ front ++ (get_or xs i d ∷ behind)
      around =
          m.held
          ∙ ap (λ (l : List A). m.kept ++ (replicate (i - w) z ++ l)) (rest_step (cells N z xs) i d (let l = length-append xs (replicate (N - length xs) z) in omega arith))
          ∙ ap (λ (x : A). m.kept ++ (replicate (i - w) z ++ (x ∷ behind))) (get_or-append xs (replicate (N - length xs) z) d i h)
          ∙ sym (append_assoc m.kept (replicate (i - w) z) (get_or xs i d ∷ behind))

      pub move_get : get_or cs i d ≡ get_or xs i d
      move_get = ap (λ (ys : List A). get_or ys i d) around ∙ get_or_at front (get_or xs i d) behind d i at

      -- one more z stands before what is left
      taken : set cs i z ≡ m.kept ++ (z ∷ (replicate (i - w) z ++ behind))
      taken =
          ap (λ (ys : List A). set ys i z) around ∙ set_at front (get_or xs i d) behind z i at
          ∙ append_assoc m.kept (replicate (i - w) z) (z ∷ behind) ∙ ap (λ (l : List A). m.kept ++ l) (replicate_snoc (i - w) z behind)

      -- the element is left out
      pub move_skip : p (get_or cs i d) ≡ false → Moving N z p xs (set cs i z) w (i + 1)
      move_skip f = record {
        kept = m.kept;
        count = m.count;
        fewer = let l = m.fewer in omega arith;
        within = omega arith;
        held = taken ∙ ap (λ (k : ℕ). m.kept ++ (replicate k z ++ behind)) more;
        rest = filter_skip p m.kept (rest_step xs i d h) (ap p (sym move_get) ∙ f) m.rest;
      }
        where
          more : suc (i - w) ≡ (i + 1) - w
          more = let l = m.fewer in omega arith

      -- the element is put behind those that are kept
      pub move_keep : p (get_or cs i d) ≡ true → Moving N z p xs (set (set cs i z) w (get_or cs i d)) (w + 1) (i + 1)
      move_keep t = record {
        kept = m.kept ++ (get_or xs i d ∷ []);
        count = let l = length-append m.kept (get_or xs i d ∷ []) in let c = m.count in omega arith;
        fewer = let l = m.fewer in omega arith;
        within = omega arith;
        held =
            ap (λ (ys : List A). set ys w (get_or cs i d)) taken
            ∙ ap (set (m.kept ++ (z ∷ (replicate (i - w) z ++ behind))) w) move_get
            ∙ set_at m.kept z (replicate (i - w) z ++ behind) (get_or xs i d) w m.count
            ∙ sym (append_assoc m.kept (get_or xs i d ∷ []) (replicate (i - w) z ++ behind))
            ∙ ap (λ (k : ℕ). (m.kept ++ (get_or xs i d ∷ [])) ++ (replicate k z ++ behind)) same;
        rest = filter_keep p m.kept (rest_step xs i d h) (ap p (sym move_get) ∙ t) m.rest;
      }
        where
          same : i - w ≡ (i + 1) - (w + 1)
          same = omega arith

      -- nothing was left out so far: the element is where it belongs
      pub move_stay : w ≡ i → p (get_or cs i d) ≡ true → Moving N z p xs cs (w + 1) (i + 1)
      move_stay e t = record {
        kept = m.kept ++ (get_or xs i d ∷ []);
        count = let l = length-append m.kept (get_or xs i d ∷ []) in let c = m.count in omega arith;
        fewer = omega arith;
        within = omega arith;
        held =
            around ∙ append_assoc m.kept (replicate (i - w) z) (get_or xs i d ∷ behind)
            ∙ ap (λ (k : ℕ). m.kept ++ (replicate k z ++ (get_or xs i d ∷ behind))) none
            ∙ sym (append_assoc m.kept (get_or xs i d ∷ []) behind)
            ∙ ap (λ (k : ℕ). (m.kept ++ (get_or xs i d ∷ [])) ++ (replicate k z ++ behind)) (sym none_more);
        rest = filter_keep p m.kept (rest_step xs i d h) (ap p (sym move_get) ∙ t) m.rest;
      }
        where
          none : i - w ≡ 0
          none = omega arith

          none_more : (i + 1) - (w + 1) ≡ 0
          none_more = omega arith

      -- the same where y is the z that a call answered
      module _ {y : A} (e : y ≡ z) where
        pub skip_by : p (get_or cs i d) ≡ false → Moving N z p xs (set cs i y) w (i + 1)
        skip_by f = subst (λ (v : A). Moving N z p xs (set cs i v) w (i + 1)) (sym e) (move_skip f)

        pub keep_by : p (get_or cs i d) ≡ true → Moving N z p xs (set (set cs i y) w (get_or cs i d)) (w + 1) (i + 1)
        keep_by t = subst (λ (v : A). Moving N z p xs (set (set cs i v) w (get_or cs i d)) (w + 1) (i + 1)) (sym e) (move_keep t)
