-- The slots of the book that a tidy ledger foretells hold the open rows of the ledger, each under its own submission, at most one a submission.
use Rattle.std.specs.Prelude.{ℕ, ◌≤◌, false, ◌⊎◌, ◌≡◌, refl}
use Rattle.std.proofs.Math.Bool.{true}
use Rattle.std.proofs.lemmas.Bool.{false≢true}
use Rattle.std.proofs.Common.{true≢false, inl, inr, sym, ap, ◌∙◌}
use mathlib.Core.List.Memᴰ
use mathlib.Core.List.{List, [], ◌∷◌, Memᴰ, head?}
use Rattle.std.proofs.Math.Option.{some, some-injective}
use Rattle.std.proofs.Math.Path.{subst}
use native.Mathlib.Omega.{arith}
use Rattle.std.proofs.Math.ListN.{length, length-map}
use Rattle.book.specs.declared.DeliveryAttempt.{DeliveryAttempt}
use Rattle.book.specs.declared.OptionalAttempt.{OptionalAttempt}
use Rattle.book.specs.declared.AttemptSlots.{AttemptSlots}
use Rattle.book.specs.declared.SubmittedEntry.{SubmittedEntry}
use Rattle.book.specs.declared.SubmittedTx.{SubmittedTx}
use Rattle.book.specs.Model.{Book}
use Rattle.book.specs.Sound.{id_of}
use Rattle.book.specs.Zero.{no_attempt, no_slots}
use Rattle.rules.specs.Keyed.{pick, mem_picked, mem_pick, mem_picked_key, pick_map}
use Rattle.rules.specs.Steps.Slots.{present}
use Rattle.rules_ledger.specs.Ledger.{live, aside, Fate, displaced, struck, Row, Ledger, entry_id, row_id}
use Rattle.rules_ledger.specs.Tidy.{is_open, Open, Closed, Fits, fits_map, displaced_closed, gone_closed, Tidy}
use Rattle.rules_ledger.specs.View.{slots_by, slots_of, hold, book_of}

-- the slot of a fate
abbrev pub slot : Fate → AttemptSlots → OptionalAttempt
slot displaced s = no_attempt
slot struck s = no_attempt
slot aside s = s.completed_attempt
slot live s = s.active_attempt

abbrev pub row : ℕ → Fate → DeliveryAttempt → Row
row i f a = record { id = i; fate = f; attempt = a }

-- the slots of that fate and the rows of that fate are the same, under the same submissions
pub record Exact (f : Fate) (b : Book) (rows : List Row) : Type 0 where
  pub told : (t : SubmittedTx) → Memᴰ t b.submitted → (slot f t.slots).present ≡ true → Memᴰ (row (id_of t) f (slot f t.slots).attempt) rows
  pub held : (r : Row) → Memᴰ r rows → r.fate ≡ f → (t : SubmittedTx) × Memᴰ t b.submitted × (id_of t ≡ r.id) × (slot f t.slots ≡ present r.attempt)

absent : no_attempt.present ≡ false
unfolding no_attempt
absent = refl

empty : (f : Fate) → (slot f no_slots).present ≡ false
unfolding no_slots
empty displaced = refl
empty struck = refl
empty aside = refl
empty live = refl

filled : (f : Fate) (a : DeliveryAttempt) → is_open f ≡ true → slot f (slots_by f a) ≡ present a
filled displaced a o = absurd (false≢true o)
filled struck a o = absurd (false≢true o)
filled aside a o = refl
filled live a o = refl

by_fate : (f g : Fate) (a : DeliveryAttempt) → (slot f (slots_by g a)).present ≡ true → (g ≡ f) × ((slot f (slots_by g a)).attempt ≡ a)
unfolding no_slots
by_fate displaced g a q = absurd (false≢true q)
by_fate struck g a q = absurd (false≢true q)
by_fate aside displaced a q = absurd (false≢true q)
by_fate aside struck a q = absurd (false≢true q)
by_fate aside aside a q = (refl, refl)
by_fate aside live a q = absurd (false≢true q)
by_fate live displaced a q = absurd (false≢true q)
by_fate live struck a q = absurd (false≢true q)
by_fate live aside a q = absurd (false≢true q)
by_fate live live a q = (refl, refl)

-- a slot comes from the last row
from_rows : (f : Fate) (i : ℕ) (rs : List Row) → ((r : Row) → Memᴰ r rs → r.id ≡ i) → (slot f (slots_of rs)).present ≡ true → Memᴰ (row i f (slot f (slots_of rs)).attempt) rs
from_rows f i [] ids q = absurd (false≢true (sym (empty f) ∙ q))
from_rows f i (r ∷ rs) ids q = let p = by_fate f r.fate r.attempt q in
    Memᴰ.head (λ k. record { id = sym (ids r (Memᴰ.head refl)) k; fate = sym p.0 k; attempt = p.1 k })

shut : (rs : List Row) (r : Row) → Closed rs → Memᴰ r rs → is_open r.fate ≡ false
shut [] r h m = absurd (Memᴰ.not-nil m)
shut (x ∷ rs) r h (Memᴰ.head e) = rw e h.0
shut (x ∷ rs) r h (Memᴰ.tail m) = shut rs r h.1 m

-- an open row stands in the slots of its submission
to_slot : (f : Fate) (es : List SubmittedEntry) (rs : List Row) (r : Row) → is_open f ≡ true → Fits es rs → Memᴰ r rs → r.fate ≡ f
    → (e : SubmittedEntry) × Memᴰ e es × (slot f (slots_of rs) ≡ present r.attempt)
to_slot f [] rs r o h m q = absurd (true≢false (sym o ∙ ap is_open (sym q) ∙ shut rs r (gone_closed rs h) m))
to_slot f (e ∷ []) [] r o h m q = absurd (Memᴰ.not-nil m)
to_slot f (e ∷ []) (x ∷ rs) r o h (Memᴰ.head k) q = (e, Memᴰ.head refl, rw (sym (ap (λ y. y.fate) k) ∙ q, sym (ap (λ y. y.attempt) k)) (filled f r.attempt o))
to_slot f (e ∷ []) (x ∷ rs) r o h (Memᴰ.tail m) q = absurd (true≢false (sym o ∙ ap is_open (sym q) ∙ shut rs r (displaced_closed rs h.1) m))
to_slot f (e ∷ e' ∷ es) rs r o h m q = absurd h

first : (es : List SubmittedEntry) (rs : List Row) (r : Row) → Fits es rs → Memᴰ r rs → Open r → head? rs ≡ some r
first [] rs r h m q = absurd (true≢false (sym q ∙ shut rs r (gone_closed rs h) m))
first (e ∷ []) [] r h m q = absurd (Memᴰ.not-nil m)
first (e ∷ []) (x ∷ rs) r h (Memᴰ.head k) q = ap some (sym k)
first (e ∷ []) (x ∷ rs) r h (Memᴰ.tail m) q = absurd (true≢false (sym q ∙ shut rs r (displaced_closed rs h.1) m))
first (e ∷ e' ∷ es) rs r h m q = absurd h

half : (rs : List Row) → ((slots_of rs).active_attempt.present ≡ false) ⊎ ((slots_of rs).completed_attempt.present ≡ false)
unfolding no_slots
half [] = inl refl
half (r ∷ rs) = by r.fate
  where
    by : (f : Fate) → ((slots_by f r.attempt).active_attempt.present ≡ false) ⊎ ((slots_by f r.attempt).completed_attempt.present ≡ false)
    by displaced = inl refl
    by struck = inl refl
    by aside = inl refl
    by live = inr refl

module _ {o : ℕ} (l : Ledger) (t : Tidy o l) where
  pub exact : (f : Fate) → is_open f ≡ true → Exact f (book_of l) l.rows
  unfolding book_of hold
  exact f k = record { told = told; held = held }
    where
      told : (h : SubmittedTx) → Memᴰ h (book_of l).submitted → (slot f h.slots).present ≡ true → Memᴰ (row (id_of h) f (slot f h.slots).attempt) l.rows
      told h m q = let (e, m', p) = Memᴰ.of_map (hold l.rows) l.entries m in
          subst (λ (x : SubmittedTx). (slot f x.slots).present ≡ true → Memᴰ (row (id_of x) f (slot f x.slots).attempt) l.rows) p
          (λ q'. mem_picked row_id (entry_id e) l.rows (from_rows f (entry_id e) (pick row_id (entry_id e) l.rows) (λ r m''. mem_picked_key row_id (entry_id e) l.rows m'') q')) q

      held : (r : Row) → Memᴰ r l.rows → r.fate ≡ f → (h : SubmittedTx) × Memᴰ h (book_of l).submitted × (id_of h ≡ r.id) × (slot f h.slots ≡ present r.attempt)
      held r m q = let (e, m', p) = to_slot f (pick entry_id r.id l.entries) (pick row_id r.id l.rows) r k (t.places r.id).fits (mem_pick row_id m) q in (
        hold l.rows e,
        Memᴰ.map (hold l.rows) (mem_picked entry_id r.id l.entries m'),
        mem_picked_key entry_id r.id l.entries m',
        rw (mem_picked_key entry_id r.id l.entries m') p,
      )

  -- at most one row of an id is open
  pub one_open : (r s : Row) → Memᴰ r l.rows → Memᴰ s l.rows → Open r → Open s → r.id ≡ s.id → r ≡ s
  one_open r s m m' p q e = some-injective r s (sym (first (es s.id) (rs s.id) r (fit s.id) (subst (λ (i : ℕ). Memᴰ r (rs i)) e (mem_pick row_id m)) p) ∙ first (es s.id) (rs s.id) s (fit s.id) (mem_pick row_id m') q)
    where
      es : ℕ → List SubmittedEntry
      es i = pick entry_id i l.entries

      rs : ℕ → List Row
      rs i = pick row_id i l.rows

      fit : (i : ℕ) → Fits (es i) (rs i)
      fit i = (t.places i).fits

  -- at most one slot of a submission is taken
  pub one_slot_lem : (h : SubmittedTx) → Memᴰ h (book_of l).submitted → (h.slots.active_attempt.present ≡ false) ⊎ (h.slots.completed_attempt.present ≡ false)
  unfolding book_of hold
  one_slot_lem h m = let (e, m', p) = Memᴰ.of_map (hold l.rows) l.entries m in
      subst (λ (x : SubmittedTx). (x.slots.active_attempt.present ≡ false) ⊎ (x.slots.completed_attempt.present ≡ false)) p (half (pick row_id (entry_id e) l.rows))

  -- the rows fit the submissions that the book retains
  pub book_fits : (i : ℕ) → Fits (pick id_of i (book_of l).submitted) (pick row_id i l.rows)
  unfolding book_of hold
  book_fits i = rw (pick_map entry_id id_of (hold l.rows) (λ e. refl) i l.entries) (fits_map (hold l.rows) (pick entry_id i l.entries) (pick row_id i l.rows) (t.places i).fits)

  -- at most one of an id is retained
  pub single : (i : ℕ) → length (pick id_of i (book_of l).submitted) ≤ 1
  unfolding book_of hold
  single i = rw (pick_map entry_id id_of (hold l.rows) (λ e. refl) i l.entries, length-map (pick entry_id i l.entries) (hold l.rows)) (go (pick entry_id i l.entries) (pick row_id i l.rows) (t.places i).fits)
    where
      go : (es : List SubmittedEntry) (rs : List Row) → Fits es rs → length es ≤ 1
      go [] rs h = omega arith
      go (e ∷ []) rs h = omega arith
      go (e ∷ e' ∷ es) rs h = absurd h
