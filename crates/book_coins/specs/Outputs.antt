-- All the coins that a bundle makes, laid out in 16 cells.
use Rattle.std.specs.Prelude.{◌≡◌, refl, List, [], ◌∷◌, ◌++◌, map, ℕ, ◌+◌, ◌≤◌, ◌<◌, length, set}
use Rattle.std.proofs.Common.{sym, ap, ◌∙◌, append_assoc, append-nil, arith, length-append}
use Rattle.std.proofs.lemmas.List.{map-append, length-map}
use Rattle.base_lists.specs.Lists.{cells}
use Rattle.std.specs.List.{flat_map}
use Rattle.base_lists.specs.Laws.{push_cells, flat_turn, flat_done}
use Rattle.base_coin_string.specs.declared.CoinString.{CoinString}
use Rattle.base_coin_string.specs.Coin.{cell_of}
use Rattle.book.specs.Sound.{outputs_of}
use Rattle.book.specs.declared.Output.{Output}
use Rattle.book.specs.declared.CoinSpend.{CoinSpend}
use Rattle.book_coins.specs.declared.OutputCoins.{OutputCoins}
use Rattle.book_coins.specs.Coins.{output_coin}

-- coins in their cells, and empty cells behind them
abbrev pub output_cells : List (List ℕ) → OutputCoins
output_cells cs = record { count = length cs; coins = cells 16 (cell_of []) (map cell_of cs) }

-- a coin in the first cell behind the coins
abbrev pub pushed_coin : OutputCoins → CoinString → OutputCoins
pushed_coin o c = record { count = o.count + 1; coins = set o.coins o.count c }

-- the coins of some outputs of a spend behind those of o
pub record Laid (s : CoinSpend) (o r : OutputCoins) (os : List Output) : Type 0 where
  pub is : (cs : List (List ℕ)) → o ≡ output_cells cs → r ≡ output_cells (cs ++ map (output_coin s) os)

-- those of all outputs, of which there are at most four
pub record Pushed (s : CoinSpend) (o r : OutputCoins) : Type 0 where
  pub laid : Laid s o r (outputs_of s)
  pub few : r.count ≤ o.count + 4

-- ---- laws
push_coin : (cs : List (List ℕ)) (c : List ℕ) → length cs < 16 → pushed_coin (output_cells cs) (cell_of c) ≡ output_cells (cs ++ (c ∷ []))
push_coin cs c h =
    let m : length (map cell_of cs) ≡ length cs = length-map cs cell_of in
    let n : length cs + 1 ≡ length (cs ++ (c ∷ [])) = omega (arith, length-append cs (c ∷ [])) in
    let q : set (cells 16 (cell_of []) (map cell_of cs)) (length cs) (cell_of c) ≡ cells 16 (cell_of []) (map cell_of (cs ++ (c ∷ []))) =
    ap (λ (k : ℕ). set (cells 16 (cell_of []) (map cell_of cs)) k (cell_of c)) (sym m)
    ∙ push_cells 16 (cell_of []) (map cell_of cs) (cell_of c) (omega arith)
    ∙ ap (cells 16 (cell_of [])) (sym (map-append cell_of cs (c ∷ []))) in
    λ j. record { count = n j; coins = q j }

pub laid_none : (s : CoinSpend) (o : OutputCoins) → Laid s o o []
laid_none s o = record { is = λ cs e. e ∙ ap output_cells (sym (append-nil cs)) }

pub laid_turn : {s : CoinSpend} {o acc r : OutputCoins} {os os' : List Output} {x : CoinString} (p : Output) → Laid s o acc os → os' ≡ os ++ (p ∷ []) → acc.count < 16 → x ≡ cell_of (output_coin s p) → r ≡ pushed_coin acc x → Laid s o r os'
laid_turn {s} {o} {acc} {r} {os} {os'} {x} p h t room q e = record { is = go }
  where
    go : (cs : List (List ℕ)) → o ≡ output_cells cs → r ≡ output_cells (cs ++ map (output_coin s) os')
    go cs k =
        let a : acc ≡ output_cells (cs ++ map (output_coin s) os) = h.is cs k in
        let n : acc.count ≡ length (cs ++ map (output_coin s) os) = ap (λ (y : OutputCoins). y.count) a in
        e ∙ (λ j. pushed_coin (a j) (q j))
        ∙ push_coin (cs ++ map (output_coin s) os) (output_coin s p) (omega arith)
        ∙ ap output_cells (append_assoc cs (map (output_coin s) os) (output_coin s p ∷ []))
        ∙ ap (λ (l : List (List ℕ)). output_cells (cs ++ l)) (sym (map-append (output_coin s) os (p ∷ [])) ∙ ap (map (output_coin s)) (sym t))

-- a loop over spends: acc holds the coins of those done, and ss are left of what makes w
pub record Laying (w : List (List ℕ)) (acc : OutputCoins) (ss : List CoinSpend) : Type 0 where
  pub done : List (List ℕ)
  pub holds : acc ≡ output_cells done
  pub is : done ++ flat_map (λ s. map (output_coin s) (outputs_of s)) ss ≡ w

pub laying_start : (ss : List CoinSpend) {acc : OutputCoins} → acc ≡ output_cells [] → Laying (flat_map (λ s. map (output_coin s) (outputs_of s)) ss) acc ss
laying_start ss e = record { done = []; holds = e; is = refl }

pub laying_turn : {w : List (List ℕ)} {acc r : OutputCoins} {ss ss' : List CoinSpend} {s : CoinSpend} → Laying w acc ss → ss ≡ s ∷ ss' → Pushed s acc r → Laying w r ss'
laying_turn {w} {acc} {r} {ss} {ss'} {s} h e p = record {
  done = h.done ++ map (output_coin s) (outputs_of s);
  holds = p.laid.is h.done h.holds;
  is = flat_turn (λ s. map (output_coin s) (outputs_of s)) h.done e refl h.is;
}

pub laying_done : {w : List (List ℕ)} {acc : OutputCoins} {ss : List CoinSpend} → Laying w acc ss → ss ≡ [] → acc ≡ output_cells w
laying_done h e = h.holds ∙ ap output_cells (flat_done (λ s. map (output_coin s) (outputs_of s)) h.done e h.is)
