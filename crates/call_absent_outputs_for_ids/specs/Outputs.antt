-- `absent_outputs_for_ids`: the loop over the submissions, and the answers.
use Rattle.std.specs.Prelude.{◌≡◌, refl, Bool, true, false, ◌&&◌, ℕ, ◌+◌, ◌≤◌, ◌<◌, take}
use Rattle.std.proofs.Math.Path.{sym, ap, subst}
use Rattle.std.proofs.Common.{◌∙◌, arith, length-append, le-leb}
use Rattle.std.proofs.Math.Bool.{cond}
use mathlib.Core.List.{List, [], ◌∷◌, ◌++◌, map, append_assoc, append-nil}
use Rattle.std.proofs.Math.ListN.{length}
use Rattle.std.proofs.lemmas.List.{length-map}
use Rattle.std.proofs.lemmas.Bool.{lt-leb}
use Rattle.base_lists.specs.Lists.{elemb, cells}
use Rattle.std.specs.List.{filter, flat_map}
use Rattle.base_lists.specs.Laws.{filter_length, take_cells}
use Rattle.codec_forms.specs.Wire.{be, enc_many}
use Rattle.base_coin_string.specs.Coin.{coin_bytes, cell_of, cell_bytes}
use Rattle.base_coin_string.specs.CoinList.{coins_in, coin_listb}
use Rattle.book.specs.Model.{Book}
use Rattle.book.specs.Sound.{id_of}
use Rattle.book.specs.declared.SubmittedTx.{SubmittedTx}
use Rattle.book_coins.specs.Coins.{expected_output_coins}
use Rattle.book_coins.specs.Outputs.{output_cells}
use Rattle.book_coins.specs.declared.OutputCoins.{OutputCoins}
use Rattle.rules.specs.CoinLists.{encode_coin, encode_coins}
use Rattle.rules.specs.Doors.{among}
use Rattle.rules.specs.Rule.{undone}
use Rattle.rules.specs.Steps.{run_book}
use Rattle.rules.specs.Calls.Common.{writing}
use Rattle.rules.specs.Calls.AbsentOutputsForIds.{absent_outputs, absent_outputs_for_ids}
use Rattle.part_coin_lists.specs.declared.Placed.{Placed}
use Rattle.part_coin_lists.specs.Writing.{PutCoins, Listed, put_none, put_join, encode_coins_lem}
use Rattle.part_written_answers.specs.Answers.{let_in, turned_away_lem}
use Rattle.book.specs.declared.refusal.Refusal.TheVariants as refusals

-- the absent outputs of a submission, if it is listed
abbrev pub absent_of : List ℕ → List (List ℕ) → SubmittedTx → List (List ℕ)
absent_of is absent t = cond (elemb (id_of t) is) (absent_outputs absent t.entry.intent) []

-- those of all
abbrev pub absent_of_all : List ℕ → List (List ℕ) → List SubmittedTx → List (List ℕ)
absent_of_all is absent ts = flat_map (λ t. absent_outputs absent t.entry.intent) (filter (λ t. elemb (id_of t) is) ts)

pub record PutAbsent (cs : List (List ℕ)) (at : ℕ) (d d' : List ℕ) (r : Placed) : Type 0 where
  pub listed : Listed cs at d d' r
  pub few : r.count ≤ 16

pub record AbsentOfAll (is : List ℕ) (absent : List (List ℕ)) (ts : List SubmittedTx) (d d' : List ℕ) (r : Placed) : Type 0 where
  pub listed : Listed (absent_of_all is absent ts) 0 d d' r
  pub few : r.count ≤ 256

-- ---- one submission
cells_coins : (cs : List (List ℕ)) → map coin_bytes (take (length cs) (cells 16 (cell_of []) (map cell_of cs))) ≡ cs
cells_coins cs =
    ap (λ (n : ℕ). map coin_bytes (take n (cells 16 (cell_of []) (map cell_of cs)))) (sym (length-map cs cell_of))
    ∙ ap (map coin_bytes) (take_cells 16 (cell_of []) (map cell_of cs)) ∙ back cs
  where
    back : (xs : List (List ℕ)) → map coin_bytes (map cell_of xs) ≡ xs
    back [] = refl
    back (x ∷ xs) = λ j. cell_bytes x j ∷ back xs j

module _ (is : List ℕ) (absent : List (List ℕ)) (t : SubmittedTx) where
  pub put_none_of : elemb (id_of t) is ≡ false → (at : ℕ) (d : List ℕ) → PutAbsent (absent_of is absent t) at d d (record { at = at; count = 0 })
  put_none_of e at d =
      let q : [] ≡ absent_of is absent t = sym (ap (λ (p : Bool). cond p (absent_outputs absent t.entry.intent) []) e) in
      rw (← q) (record { listed = record { put = put_none at d; count = refl }; few = omega arith })

  pub put_those_of : {o : OutputCoins} {at : ℕ} {d d' : List ℕ} {r : Placed} → elemb (id_of t) is ≡ true → o ≡ output_cells (expected_output_coins t.entry.intent.base_bundle) → o.count ≤ 16
      → Listed (filter (among absent) (map coin_bytes (take o.count o.coins))) at d d' r → PutAbsent (absent_of is absent t) at d d' r
  unfolding absent_outputs
  put_those_of {o} {at} {d} {d'} {r} e q few l =
      let x : map coin_bytes (take o.count o.coins) ≡ expected_output_coins t.entry.intent.base_bundle =
      ap (λ (y : OutputCoins). map coin_bytes (take y.count y.coins)) q ∙ cells_coins (expected_output_coins t.entry.intent.base_bundle) in
      let n : o.count ≡ length (expected_output_coins t.entry.intent.base_bundle) = ap (λ (y : OutputCoins). y.count) q in
      let s : filter (among absent) (map coin_bytes (take o.count o.coins)) ≡ absent_of is absent t =
      ap (filter (among absent)) x ∙ sym (ap (λ (p : Bool). cond p (absent_outputs absent t.entry.intent) []) e) in
      let c = filter_length (among absent) (expected_output_coins t.entry.intent.base_bundle) in
      let m : length (filter (among absent) (map coin_bytes (take o.count o.coins))) ≡ length (filter (among absent) (expected_output_coins t.entry.intent.base_bundle)) =
      ap (λ (y : List (List ℕ)). length (filter (among absent) y)) x in
      record { listed = subst (λ (y : List (List ℕ)). Listed y at d d' r) s l; few = omega (arith, l.count) }

-- ---- the loop: k coins are written, and ts are left of what makes w
pub record Collecting (is : List ℕ) (absent w : List (List ℕ)) (d d' : List ℕ) (at k : ℕ) (ts : List SubmittedTx) : Type 0 where
  pub done : List (List ℕ)
  pub put : PutCoins done 0 d d' at
  pub count : k ≡ length done
  pub rest : done ++ absent_of_all is absent ts ≡ w

one_more : (is : List ℕ) (absent : List (List ℕ)) (t : SubmittedTx) (ts : List SubmittedTx) → absent_of is absent t ++ absent_of_all is absent ts ≡ absent_of_all is absent (t ∷ ts)
one_more is absent t ts = go (elemb (id_of t) is)
  where
    go : (p : Bool) → cond p (absent_outputs absent t.entry.intent) [] ++ absent_of_all is absent ts ≡ flat_map (λ t. absent_outputs absent t.entry.intent) (cond p (t ∷ filter (λ t. elemb (id_of t) is) ts) (filter (λ t. elemb (id_of t) is) ts))
    go true = refl
    go false = refl

pub collecting_start : (is : List ℕ) (absent : List (List ℕ)) (ts : List SubmittedTx) (d : List ℕ) → Collecting is absent (absent_of_all is absent ts) d d 0 0 ts
collecting_start is absent ts d = record { done = []; put = put_none 0 d; count = refl; rest = refl }

module _ {is : List ℕ} {absent w : List (List ℕ)} {d d₁ : List ℕ} {at k : ℕ} {ts : List SubmittedTx} (h : Collecting is absent w d d₁ at k ts) where
  pub collecting_turn : {d₂ : List ℕ} {r : Placed} {t : SubmittedTx} {ts' : List SubmittedTx} → ts ≡ t ∷ ts' → PutAbsent (absent_of is absent t) at d₁ d₂ r → r.at ≤ length d → Collecting is absent w d d₂ r.at (k + r.count) ts'
  collecting_turn {d₂} {r} {t} {ts'} e p l = record {
    done = h.done ++ absent_of is absent t;
    put = put_join h.put p.listed.put l;
    count = omega (arith, h.count, p.listed.count, length-append h.done (absent_of is absent t));
    rest = append_assoc h.done (absent_of is absent t) (absent_of_all is absent ts') ∙ ap (λ (l : List (List ℕ)). h.done ++ l) (one_more is absent t ts')
        ∙ sym (ap (λ (l : List SubmittedTx). h.done ++ absent_of_all is absent l) e) ∙ h.rest;
  }

  pub collecting_done : ts ≡ [] → Listed w 0 d d₁ (record { at = at; count = k })
  collecting_done e =
      let t : h.done ≡ w = sym (append-nil h.done) ∙ sym (ap (λ (l : List SubmittedTx). h.done ++ absent_of_all is absent l) e) ∙ h.rest in
      rw (← t) (record { put = h.put; count = h.count })

pub short_of : {cs : List (List ℕ)} {at : ℕ} {d d' : List ℕ} {r : Placed} → PutAbsent cs at d d' r → r.at ≤ at + 1184
short_of p = omega (arith, p.few, p.listed.count, p.listed.put.short)

-- ---- the answers
module _ (is absent : List ℕ) (room : ℕ) (m : Book) where
  pub many_ids : 64 < length is → run_book (absent_outputs_for_ids is absent room) m ≡ undone refusals.BadList
  unfolding absent_outputs_for_ids
  many_ids h = turned_away_lem (λ b. writing room (encode_coins (absent_of_all is (coins_in absent) b.submitted))) m (ap (λ (t : Bool). t && coin_listb absent) (lt-leb (length is) 64 h))

  module _ (h : length is ≤ 64) where
    pub outputs_bad : coin_listb absent ≡ false → run_book (absent_outputs_for_ids is absent room) m ≡ undone refusals.BadList
    unfolding absent_outputs_for_ids
    outputs_bad e = turned_away_lem (λ b. writing room (encode_coins (absent_of_all is (coins_in absent) b.submitted))) m (ap (λ (t : Bool). t && coin_listb absent) (le-leb (length is) 64 h) ∙ e)

    pub outputs_good : {count : ℕ} {coins : List ℕ} → coin_listb absent ≡ true → count ≡ length (absent_of_all is (coins_in absent) m.submitted) → coins ≡ enc_many encode_coin (absent_of_all is (coins_in absent) m.submitted)
        → run_book (writing room (be 2 count ++ coins)) m ≡ run_book (absent_outputs_for_ids is absent room) m
    unfolding absent_outputs_for_ids
    outputs_good e c l =
        (λ j. run_book (writing room (be 2 (c j) ++ l j)) m) ∙ ap (λ (s : List ℕ). run_book (writing room s) m) (encode_coins_lem (absent_of_all is (coins_in absent) m.submitted))
        ∙ sym (let_in (λ b. writing room (encode_coins (absent_of_all is (coins_in absent) b.submitted))) m (ap (λ (t : Bool). t && coin_listb absent) (le-leb (length is) 64 h) ∙ e))
