-- Where bytes leave the items of an archive, and that a reader stops there: one law for each way to put parsers together.
use Rattle.std.specs.Prelude.{◌≡◌, refl, ◌⊎◌, ℕ, ◌+◌, ◌≤◌, ◌<◌, length, take, drop}
use Rattle.std.proofs.Common.{sym, ap, ◌∙◌, inl, inr}
use Rattle.std.proofs.Math.Path.{subst}
use Rattle.std.proofs.Math.Bool.{false}
use mathlib.Core.List.{List, [], ◌∷◌, ◌++◌, append_assoc}
use Rattle.codec_forms.specs.Wire.{Ans, got, bad, and_then, Parser, ◌>>=◌, done}
use Rattle.codec_forms.specs.Lawful.{Spans, span_join, span_none}
use Rattle.archive_laws.specs.Items.{Item, bytes_of}

-- the item at this place is cut short or breaks its rule
abbrev pub Breaks : Item → List ℕ → ℕ → Type 0
Breaks x s at = (length s < at + length x.bytes) ⊎ (x.rule (take (length x.bytes) (drop at s)) ≡ false)

-- s from at on goes through the items up to the one at k, which is broken
unfoldable pub Stops : List Item → List ℕ → ℕ → ℕ → Type 0
Stops [] s at k = ⊥
Stops (x ∷ is) s at k = (Breaks x s at × (at ≡ k)) ⊎ (Spans s at (at + length x.bytes) x.bytes × Stops is s (at + length x.bytes) k)

-- the broken item is in the first part, or behind it
abbrev Split : List Item → List Item → List ℕ → ℕ → ℕ → Type 0
Split is js s at k = Stops is s at k ⊎ ((e : ℕ) × Spans s at e (bytes_of is) × Stops js s e k)

stops_split : (is js : List Item) (s : List ℕ) (at k : ℕ) → at ≤ length s → Stops (is ++ js) s at k → Split is js s at k
unfolding bytes_of Stops
stops_split [] js s at k h t = inr (at, span_none s at h, t)
stops_split (x ∷ is) js s at k h (inl b) = inl (inl b)
stops_split (x ∷ is) js s at k h (inr t) = behind (stops_split is js s (at + length x.bytes) k t.0.inside t.1)
  where
    behind : Split is js s (at + length x.bytes) k → Split (x ∷ is) js s at k
    behind (inl b) = inl (inr (t.0, b))
    behind (inr w) = inr (w.0, span_join s at (at + length x.bytes) w.0 x.bytes (bytes_of is) t.0 w.1, w.2)

-- the items of what p reads have the bytes l, and p stops where one of them is broken
pub record Placed {A : Type 0} (p : Parser A) (is : List Item) (l : List ℕ) : Type 0 where
  pub whole : bytes_of is ≡ l
  pub stops : (s : List ℕ) (at k : ℕ) → at ≤ length s → Stops is s at k → p s at ≡ bad k

bytes_append : (is js : List Item) → bytes_of (is ++ js) ≡ bytes_of is ++ bytes_of js
unfolding bytes_of
bytes_append [] js = refl
bytes_append (x ∷ is) js = ap (λ (l : List ℕ). x.bytes ++ l) (bytes_append is js) ∙ sym (append_assoc x.bytes (bytes_of is) (bytes_of js))

-- one parser, which gives a, and then another
pub then_placed : {A B : Type 0} {p : Parser A} {k : A → Parser B} {is : List Item} {js : A → List Item} {l : List ℕ} {m : A → List ℕ} (a : A) → Placed p is l
    → ((s : List ℕ) (at e : ℕ) → Spans s at e l → p s at ≡ got a e) → ((b : A) → b ≡ a → Placed (k b) (js b) (m b)) → Placed (p >>= k) (is ++ js a) (l ++ m a)
then_placed {A} {B} {p} {k} {is} {js} {l} {m} a x reads y = record {
  whole = bytes_append is (js a) ∙ ap (λ (t : List ℕ). t ++ bytes_of (js a)) x.whole ∙ ap (λ (t : List ℕ). l ++ t) (y a refl).whole;
  stops = λ s at j h t. go s at j (stops_split is (js a) s at j h t) h;
}
  where
    go : (s : List ℕ) (at j : ℕ) → Split is (js a) s at j → at ≤ length s → (p >>= k) s at ≡ bad j
    go s at j (inl t) h = ap (λ (r : Ans A). and_then r (λ a e. k a s e)) (x.stops s at j h t)
    go s at j (inr w) h =
        ap (λ (r : Ans A). and_then r (λ a e. k a s e)) (reads s at w.0 (subst (λ (t : List ℕ). Spans s at w.0 t) x.whole w.1))
        ∙ (y a refl).stops s w.0 j w.1.inside w.2

-- the last parser, before a value is made
pub last_placed : {A B : Type 0} {p : Parser A} (f : A → B) {is : List Item} {l : List ℕ} → Placed p is l → Placed (p >>= (λ a. done (f a))) is l
last_placed {A} f x = record { whole = x.whole; stops = λ s at k h t. ap (λ (r : Ans A). and_then r (λ a e. got (f a) e)) (x.stops s at k h t) }

pub none_placed : {A : Type 0} (a : A) → Placed (done a) [] []
unfolding Stops bytes_of
none_placed a = record { whole = refl; stops = λ s at k h t. absurd t }

pub as_placed : {A : Type 0} {p : Parser A} {is : List Item} {l m : List ℕ} → l ≡ m → Placed p is l → Placed p is m
as_placed e x = record { whole = x.whole ∙ e; stops = x.stops }
