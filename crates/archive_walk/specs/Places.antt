-- Where elements stand that are written one behind the other.
use Rattle.std.specs.Prelude.{ℕ, ◌+◌, ◌≤◌, ◌<◌, ◌≡◌, refl, List, [], ◌∷◌, ◌++◌, length, take, set, replicate}
use Rattle.std.proofs.Common.{sym, ap, ◌∙◌, append-nil, add-one, arith, length-append, length-set, take-suc-set}
use Rattle.base_lists.specs.Lists.{cells}
use Rattle.base_lists.specs.Laws.{push_normal}
use Rattle.codec_forms.specs.Wire.{Parser, enc_many}
use Rattle.codec_forms.specs.Lawful.{IsBytes, Lawful}
use Rattle.codec_forms.specs.Items.{many_from_lawful}
use Rattle.codec_cursor.specs.Cursor.{far, Reads, reads_got}
use Rattle.archive_walk.specs.Skips.{reads_before}
use Rattle.codec_cursor.specs.Cells.{Filled, filled_start, filled_more}

-- the places of elements from c on, and the place behind the last
unfoldable pub places : {A : Type 0} → (A → List ℕ) → ℕ → List A → List ℕ
places enc c [] = c ∷ []
places enc c (x ∷ xs) = c ∷ places enc (c + length (enc x)) xs

places_last : {A : Type 0} (enc : A → List ℕ) (c : ℕ) (xs : List A) (v : A) → places enc c (xs ++ (v ∷ [])) ≡ places enc c xs ++ ((c + length (enc_many enc (xs ++ (v ∷ [])))) ∷ [])
unfolding places enc_many
places_last enc c [] v = ap (λ (l : List ℕ). c ∷ ((c + length l) ∷ [])) (sym (append-nil (enc v)))
places_last {A} enc c (x ∷ xs) v =
    let q : c + length (enc x) + length (enc_many enc (xs ++ (v ∷ []))) ≡ c + length (enc x ++ enc_many enc (xs ++ (v ∷ []))) = omega (arith, length-append (enc x) (enc_many enc (xs ++ (v ∷ [])))) in
    ap (λ (l : List ℕ). c ∷ l) (places_last enc (c + length (enc x)) xs v ∙ ap (λ (n : ℕ). places enc (c + length (enc x)) xs ++ (n ∷ [])) q)

-- of k elements from the cursor c on, i are passed, their places are in cells, and the cursor is e
pub record Walking {A : Type 0} (enc : A → List ℕ) (z : A) (p : List A → Parser A) (s : List ℕ) (c k : ℕ) (items : List A) (starts : List ℕ) (e i : ℕ) : Type 0 where
  pub filled : Filled 16 z p s c k items e i
  pub long : length starts ≡ 17
  pub rest : starts ≡ cells 17 0 (take (i + 1) starts)
  pub spots : e < far → c ≤ length s → take (i + 1) starts ≡ places enc c (take i items)

pub walking_start : {A : Type 0} (enc : A → List ℕ) (z : A) (p : List A → Parser A) (s : List ℕ) (c k : ℕ) → Walking enc z p s c k (replicate 16 z) (set (replicate 17 0) 0 c) c 0
unfolding places
walking_start enc z p s c k = record { filled = filled_start 16 z p s c k; long = refl; rest = refl; spots = λ _ _. refl }

module _ {A : Type 0} {enc : A → List ℕ} {z : A} {p : List A → Parser A} {s : List ℕ} {c k : ℕ} {items : List A} {starts : List ℕ} {e i : ℕ} (G : List A → A → Type 0)
    (law : (before : List A) → Lawful (G before) enc (p before)) (bytes : IsBytes s) (w : Walking enc z p s c k items starts e i) where
  pub walking_more : {v : A} {d : ℕ} → k ≤ 16 → i < k → Reads (p (take i items)) s e v d → Walking enc z p s c k (set items i v) (set starts (i + 1) d) d (i + 1)
  walking_more {v} {d} kn h q =
      let f = filled_more w.filled kn h q in
      let t : take (i + 1) (set items i v) ≡ take i items ++ (v ∷ []) = ap (λ (m : ℕ). take m (set items i v)) (add-one i) ∙ take-suc-set items i v (omega (arith, w.filled.whole)) in
      let u : take (i + 1 + 1) (set starts (i + 1) d) ≡ take (i + 1) starts ++ (d ∷ []) = ap (λ (m : ℕ). take m (set starts (i + 1) d)) (add-one (i + 1)) ∙ take-suc-set starts (i + 1) d (omega (arith, w.long)) in
      record {
        filled = f;
        long = length-set starts (i + 1) d ∙ w.long;
        rest = push_normal 17 0 starts (i + 1) d w.rest w.long (omega arith);
        spots = λ l b.
            let x = (many_from_lawful z G law [] (i + 1)).exact s c d (take (i + 1) (set items i v)) bytes b (reads_got f.read l) in
            let g : d ≡ c + length (enc_many enc (take i items ++ (v ∷ []))) = x.1.ends ∙ ap (λ (l : List A). c + length (enc_many enc l)) t in
            u ∙ ap (λ (l : List ℕ). l ++ (d ∷ [])) (w.spots (reads_before q l) b) ∙ ap (λ (n : ℕ). places enc c (take i items) ++ (n ∷ [])) g
            ∙ sym (ap (places enc c) t ∙ places_last enc c (take i items) v);
      }

  -- all are passed
  pub walking_all : k ≤ i → e < far → c ≤ length s → starts ≡ cells 17 0 (places enc c (take k items))
  walking_all h l b =
      let q : i ≡ k = omega (arith, w.filled.some) in
      w.rest ∙ ap (cells 17 0) (w.spots l b ∙ ap (λ (j : ℕ). places enc c (take j items)) q)
