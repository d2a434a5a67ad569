-- Bytes written at a place of a buffer: what they leave, and the same for parts written one after the other.
use Rattle.std.specs.Prelude.{Option, None, Some, is_none, true, false, ℕ, zero, suc, ◌+◌, ◌-◌, ◌*◌, ◌≤◌, ◌<◌, ◌≡◌, refl, List, [], ◌∷◌, ◌++◌, length, get_or, take, drop}
use Rattle.std.proofs.Common.{zero-le, sym, ap, ◌∙◌, subst, append_assoc, append-nil, zero-add, add-zero, one-mul, add-mul, arith, length-append, length-drop, drop_of_length-le, take-append-drop, take_at, drop_at, drop-drop, length-take-le}
use Rattle.base_lists.specs.Laws.{part_to_end}
use Rattle.std.proofs.lemmas.Bool.{false≢true}
use Rattle.codec_forms.specs.Wire.{be, overlay, enc_many, enc_opt_number}
use Rattle.codec_forms.specs.Number.{be_length}

-- d with the bytes of l from place `at` on: all others stay
unfoldable pub splice : ℕ → List ℕ → List ℕ → List ℕ
splice at l d = take at d ++ l ++ drop (at + length l) d

-- l was written from place `at` on into d, which is d' now, and e is the place behind it
pub record Puts (l : List ℕ) (at : ℕ) (d d' : List ℕ) (e : ℕ) : Type 0 where
  pub next : e ≡ at + length l
  pub holds : d' ≡ splice at l d

-- there is room for l from place `at` on
pub record Room (l : List ℕ) (at : ℕ) (d : List ℕ) : Type 0 where
  pub fits : at + length l ≤ length d

-- ---- a copy
pub puts_whole : (l d : List ℕ) (at : ℕ) → Puts l at d (take at d ++ (l ++ drop (length l) (drop at d))) (at + length l)
unfolding splice
puts_whole l d at = record {
  next = refl;
  holds = ap (λ (t : List ℕ). take at d ++ (l ++ t)) (drop-drop (length l) at d) ∙ sym (append_assoc (take at d) l (drop (at + length l) d));
}

-- ---- parts
pub splice_length : (at : ℕ) (l d : List ℕ) → Room l at d → length (splice at l d) ≡ length d
unfolding splice
splice_length at l d h =
    omega (arith, length-append (take at d ++ l) (drop (at + length l) d), length-append (take at d) l, length-take-le at d (omega (arith, h.fits)), length-drop (at + length l) d, h.fits)

pub splice_none : (at : ℕ) (d : List ℕ) → splice at [] d ≡ d
unfolding splice
splice_none at d =
    ap (λ (t : List ℕ). t ++ drop (at + 0) d) (append-nil (take at d)) ∙ ap (λ (n : ℕ). take at d ++ drop n d) (add-zero at) ∙ take-append-drop at d

splice_join : (at : ℕ) (a b d : List ℕ) → Room a at d → splice (at + length a) b (splice at a d) ≡ splice at (a ++ b) d
unfolding splice
splice_join at a b d h =
    let m : at + length a + length b ≡ at + length (a ++ b) = omega (arith, length-append a b) in
    let n : length (take at d ++ a) ≡ at + length a = length-append (take at d) a ∙ ap (λ (k : ℕ). k + length a) (length-take-le at d (omega (arith, h.fits))) in
    let f : take (at + length a) (take at d ++ a ++ drop (at + length a) d) ≡ take at d ++ a = take_at (take at d ++ a) (drop (at + length a) d) (at + length a) n in
    let g : drop (at + length a + length b) (take at d ++ a ++ drop (at + length a) d) ≡ drop (at + length (a ++ b)) d =
    sym (drop-drop (length b) (at + length a) (take at d ++ a ++ drop (at + length a) d))
    ∙ ap (λ (l : List ℕ). drop (length b) l) (drop_at (take at d ++ a) (drop (at + length a) d) (at + length a) n)
    ∙ drop-drop (length b) (at + length a) d
    ∙ ap (λ (k : ℕ). drop k d) m in
    ap (λ (l : List ℕ). l ++ b ++ drop (at + length a + length b) (take at d ++ a ++ drop (at + length a) d)) f
    ∙ ap (λ (l : List ℕ). take at d ++ a ++ b ++ l) g
    ∙ ap (λ (l : List ℕ). l ++ drop (at + length (a ++ b)) d) (append_assoc (take at d) a b)

-- the first of two parts has room, and the second after it
pub room_first : {a : List ℕ} {at : ℕ} {d : List ℕ} (b : List ℕ) → Room (a ++ b) at d → Room a at d
room_first {a} b h = record { fits = omega (arith, length-append a b, h.fits) }

module _ {a b : List ℕ} {at : ℕ} {d d₁ : List ℕ} {e₁ : ℕ} where
  pub room_next : Room (a ++ b) at d → Puts a at d d₁ e₁ → Room b e₁ d₁
  room_next h p =
      let l : length d₁ ≡ length d = ap length p.holds ∙ splice_length at a d (room_first b h) in
      record { fits = omega (arith, length-append a b, p.next, l, h.fits) }

  -- one part, and another behind it
  pub puts_join : {d₂ : List ℕ} {e₂ : ℕ} → Room (a ++ b) at d → Puts a at d d₁ e₁ → Puts b e₁ d₁ d₂ e₂ → Puts (a ++ b) at d d₂ e₂
  puts_join {d₂} {e₂} h p q = record {
    next = q.next ∙ omega (arith, p.next, length-append a b);
    holds =
        q.holds
        ∙ ap (λ (n : ℕ). splice n b d₁) p.next
        ∙ ap (λ (l : List ℕ). splice (at + length a) b l) p.holds
        ∙ splice_join at a b d (room_first b h);
  }

pub puts_as : {a b : List ℕ} {at : ℕ} {d d' : List ℕ} {e : ℕ} → a ≡ b → Puts a at d d' e → Puts b at d d' e
puts_as {a} {b} {at} {d} {d'} {e} q p = subst (λ (l : List ℕ). Puts l at d d' e) q p

pub room_as : {a b : List ℕ} {at : ℕ} {d : List ℕ} → a ≡ b → Room b at d → Room a at d
room_as {a} {b} {at} {d} q h = subst (λ (l : List ℕ). Room l at d) (sym q) h

pub puts_long : {l : List ℕ} {at : ℕ} {d d' : List ℕ} {e : ℕ} → Room l at d → Puts l at d d' e → length d' ≡ length d
puts_long {l} {at} {d} h p = ap length p.holds ∙ splice_length at l d h

-- at the start of a buffer
pub puts_overlay : {l : List ℕ} {d d' : List ℕ} {e : ℕ} → Puts l 0 d d' e → (e ≡ length l) × (d' ≡ overlay l d)
unfolding splice overlay
puts_overlay {l} {d} {d'} {e} p = (p.next ∙ zero-add (length l), p.holds ∙ ap (λ (n : ℕ). l ++ drop n d) (zero-add (length l)))

-- ---- a loop that writes elements
pub many_suc : {A : Type 0} (z : A) (enc : A → List ℕ) (l : List A) (i : ℕ) → i < length l → enc_many enc (take (i + 1) l) ≡ enc_many enc (take i l) ++ enc (get_or l i z)
unfolding enc_many
many_suc z enc [] i h = absurd (omega arith)
many_suc z enc (a ∷ l) zero h = append-nil (enc a)
many_suc z enc (a ∷ l) (suc i) h =
    let q : suc i + 1 ≡ suc (i + 1) = omega arith in
    ap (λ (k : ℕ). enc_many enc (take k (a ∷ l))) q
    ∙ ap (λ (t : List ℕ). enc a ++ t) (many_suc z enc l i (omega arith))
    ∙ sym (append_assoc (enc a) (enc_many enc (take i l)) (enc (get_or l i z)))

-- ---- a part written into the rest of a buffer, which starts at n
pub rest_room : (l xs : List ℕ) (n : ℕ) → Room l n xs → Room l 0 (take (length xs - n) (drop n xs))
rest_room l xs n h = rw part_to_end (record { fits = omega (arith, length-drop n xs, h.fits) })

pub rest_puts : (l xs ys : List ℕ) (n e : ℕ) → Room l n xs → Puts l 0 (take (length xs - n) (drop n xs)) ys e → Puts l n xs (take n xs ++ (ys ++ drop (length xs - n) (drop n xs))) (n + e)
unfolding splice overlay
rest_puts l xs ys n e h p =
    let o = puts_overlay p in
    let z : drop (length xs - n) (drop n xs) ≡ [] = drop_of_length-le (drop n xs) {i = length xs - n} (rw length-drop (omega arith)) in
    let y : ys ≡ l ++ drop (n + length l) xs = o.1 ∙ ap (overlay l) (part_to_end xs n) ∙ ap (λ (t : List ℕ). l ++ t) (drop-drop (length l) n xs) in
    record {
      next = ap (λ (k : ℕ). n + k) o.0;
      holds =
          ap (λ (t : List ℕ). take n xs ++ (ys ++ t)) z
          ∙ ap (λ (t : List ℕ). take n xs ++ t) (append-nil ys ∙ y)
          ∙ sym (append_assoc (take n xs) l (drop (n + length l) xs));
    }

-- ---- sizes
-- r is the length of l, which is at most `most`
pub record Size (l : List ℕ) (most r : ℕ) : Type 0 where
  pub is : r ≡ length l
  pub few : r ≤ most

pub size_as : {a b : List ℕ} {most r : ℕ} → a ≡ b → Size a most r → Size b most r
size_as {a} {b} {most} {r} q s = subst (λ (l : List ℕ). Size l most r) q s

pub size_join : {a b : List ℕ} {m n x y : ℕ} → Size a m x → Size b n y → Size (a ++ b) (m + n) (x + y)
size_join {a} {b} s t = record { is = omega (arith, s.is, t.is, length-append a b); few = omega (arith, s.few, t.few) }

-- an optional number: its mark, and the eight bytes where it is there
module _ {A : Type 0} (number : A → ℕ) where
  pub opt_number_few : (o : Option A) → length (enc_opt_number number o) ≤ 9
  opt_number_few None = omega (arith, be_length 1 0)
  opt_number_few (Some x) = omega (arith, length-append (be 1 1) (be 8 (number x)), be_length 1 1, be_length 8 (number x))

  pub no_number_size : (o : Option A) → is_none o ≡ true → Size (enc_opt_number number o) 9 1
  no_number_size None e = record { is = sym (be_length 1 0); few = omega arith }
  no_number_size (Some x) e = absurd (false≢true e)

  pub some_number_size : (o : Option A) → is_none o ≡ false → Size (enc_opt_number number o) 9 9
  some_number_size None e = absurd (false≢true (sym e))
  some_number_size (Some x) e = record { is = omega (arith, length-append (be 1 1) (be 8 (number x)), be_length 1 1, be_length 8 (number x)); few = omega arith }

-- of the first n elements of l, each of at most m bytes, the first i take r bytes
pub record Sizing {A : Type 0} (enc : A → List ℕ) (l : List A) (m n r i : ℕ) : Type 0 where
  pub some : i ≤ n
  pub sum : Size (enc_many enc (take i l)) (i * m) r

pub sizing_start : {A : Type 0} (enc : A → List ℕ) (l : List A) (m n : ℕ) → Sizing enc l m n 0 0
unfolding enc_many
sizing_start enc l m n = record { some = zero-le; sum = record { is = refl; few = zero-le } }

pub sizing_more : {A : Type 0} (z : A) (enc : A → List ℕ) (l : List A) (m n r i k : ℕ) → Sizing enc l m n r i → i < n → n ≤ length l → Size (enc (get_or l i z)) m k → Sizing enc l m n (r + k) (i + 1)
sizing_more z enc l m n r i k s h a t =
    let q : i * m + m ≡ (i + 1) * m = ap (λ (x : ℕ). i * m + x) (sym (one-mul m)) ∙ sym (add-mul i 1 m) in
    record {
      some = omega arith;
      sum = size_as (sym (many_suc z enc l i (omega arith))) (subst (λ (x : ℕ). Size (enc_many enc (take i l) ++ enc (get_or l i z)) x (r + k)) q (size_join s.sum t));
    }

pub sizing_done : {A : Type 0} (enc : A → List ℕ) (l : List A) (m n r i : ℕ) → Sizing enc l m n r i → n ≤ i → Size (enc_many enc (take n l)) (n * m) r
sizing_done enc l m n r i s h =
    let q : i ≡ n = omega (arith, s.some) in
    subst (λ (x : ℕ). Size (enc_many enc (take x l)) (x * m) r) q s.sum
