-- A retained submission as it is read after others, of which only the ids and the tokens matter.
use Rattle.std.specs.Prelude.{ℕ, ◌≡◌, refl, Bool, true, false, cond, ◌&&◌, ◌||◌, List, [], ◌∷◌, ◌++◌, map, eqb}
use Rattle.std.proofs.Common.{sym, ap, ◌∙◌, subst, append-nil}
use Rattle.base_lists.specs.Laws.{elem_append}
use Rattle.base_lists.specs.Lists.{elemb}
use Rattle.std.specs.List.{flat_map, list_any}
use Rattle.codec_forms.specs.Wire.{Parser, ◌>>=◌, done}
use Rattle.codec_cursor.specs.Cursor.{Reads}
use Rattle.book.specs.Zero.{no_attempt}
use Rattle.book.specs.Sound.{id_of, attempt_token, tokens_of}
use Rattle.book.specs.declared.OptionalAttempt.{OptionalAttempt}
use Rattle.book.specs.declared.SubmittedTx.{SubmittedTx}
use Rattle.archive_form.specs.Parse.{parse_retired, parse_slot, parse_slots, parse_facts, parse_submitted}

unfoldable pub parse_after : ℕ → List ℕ → List ℕ → Parser SubmittedTx
parse_after next ids tokens = do
  i ← parse_retired ids
  s ← parse_slots next tokens
  f ← parse_facts
  done (record { slots = s; entry = record { id = record { 0 = i }; intent = f.intent; state = f.state } })

pub submitted_is : (next : ℕ) (before : List SubmittedTx) (s : List ℕ) (at : ℕ) → parse_submitted next before s at ≡ parse_after next (map id_of before) (flat_map tokens_of before) s at
unfolding parse_submitted parse_after parse_retired
submitted_is next before s at = refl

-- the first slot is read with no token beside those before
pub first_slot : (next : ℕ) (held : List ℕ) {s : List ℕ} {c e : ℕ} {a v : OptionalAttempt} → a ≡ no_attempt → Reads (parse_slot next (held ++ attempt_token a)) s c v e → Reads (parse_slot next held) s c v e
unfolding no_attempt
first_slot next held {s} {c} {e} {a} {v} q h =
    subst (λ (l : List ℕ). Reads (parse_slot next l) s c v e) (ap (λ (o : OptionalAttempt). held ++ attempt_token o) q ∙ append-nil held) h

-- ---- numbers in lists
-- what `contains` of a slice answers
pub elem_any : (x : ℕ) (l : List ℕ) → list_any (λ y. eqb y x) l ≡ elemb x l
elem_any x [] = refl
elem_any x (y ∷ l) = ap (λ b. eqb y x || b) (elem_any x l)

pub elem_both : (x : ℕ) (l m : List ℕ) {a b : Bool} → a ≡ elemb x l → b ≡ elemb x m → (a || b) ≡ elemb x (l ++ m)
elem_both x l m p q = (λ i. p i || q i) ∙ sym (elem_append x l m)

-- the token of a slot, if it has one
pub slot_elem : (p : Bool) (t x : ℕ) → (p && eqb t x) ≡ elemb x (cond p (t ∷ []) [])
slot_elem false t x = refl
slot_elem true t x = go (eqb t x)
  where
    go : (b : Bool) → b ≡ (b || false)
    go true = refl
    go false = refl
