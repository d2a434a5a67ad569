-- What every ledger that grew from an opened one keeps: its tokens run down to the opening one; of each submission all rows but the last are
-- displaced, and the last is struck out where the submission is not retained any more, else live or set aside.
use Rattle.std.specs.Prelude.{ℕ, suc, ◌≤◌, Bool, true, false, cond, List, [], ◌∷◌, map, ◌≡◌, eqb}
use Rattle.std.specs.Prelude.{Option, None, Some}
use Rattle.std.proofs.Common.{subst, ap}
use Rattle.book.specs.declared.SubmittedEntry.{SubmittedEntry}
use Rattle.rules.specs.Keyed.{same_or_other, pick}
use Rattle.book_answers.specs.declared.DrainedSubmission.{DrainedSubmission}
use Rattle.book.specs.declared.Token.{Token}
use Rattle.rules_ledger.specs.Ledger.{live, aside, Fate, displaced, struck, Row, Ledger, entry_id, row_id, row_token}

abbrev pub is_open : Fate → Bool
is_open displaced = false
is_open struck = false
is_open aside = true
is_open live = true

abbrev pub Open : Row → Type 0
Open r = is_open r.fate ≡ true

abbrev pub Closed : List Row → Type 0
Closed [] = Unit {0}
Closed (r ∷ rs) = (is_open r.fate ≡ false) × Closed rs

-- every one of them was followed by a later token of its submission
abbrev pub Displaced : List Row → Type 0
Displaced [] = Unit {0}
Displaced (r ∷ rs) = (r.fate ≡ displaced) × Displaced rs

-- the submissions of one id, and its rows, the last issued first: all but the last are displaced; the last is struck out where the
-- submission is gone, and else live or set aside
abbrev pub Fits : {A : Type 0} → List A → List Row → Type 0
Fits [] [] = Unit {0}
Fits [] (r ∷ rs) = (r.fate ≡ struck) × Displaced rs
Fits (e ∷ []) [] = Unit {0}
Fits (e ∷ []) (r ∷ rs) = Open r × Displaced rs
Fits (e ∷ e' ∷ es) rs = ⊥

-- it counts the submissions alone
pub fits_map : {A B : Type 0} (f : A → B) (es : List A) (rs : List Row) → Fits es rs → Fits (map f es) rs
fits_map f [] [] h = h
fits_map f [] (r ∷ rs) h = h
fits_map f (e ∷ []) [] h = h
fits_map f (e ∷ []) (r ∷ rs) h = h
fits_map f (e ∷ e' ∷ es) rs h = h

pub displaced_closed : (rs : List Row) → Displaced rs → Closed rs
displaced_closed [] h = tt
displaced_closed (r ∷ rs) h = (ap is_open h.0, displaced_closed rs h.1)

pub gone_closed : (rs : List Row) → Fits {A = SubmittedEntry} [] rs → Closed rs
gone_closed [] h = tt
gone_closed (r ∷ rs) h = (ap is_open h.0, displaced_closed rs h.1)

pub record Place (next i : ℕ) (es : List SubmittedEntry) (rs : List Row) : Type 0 where
  pub fits : Fits es rs
  pub fresh : next ≤ i → (es ≡ []) × (rs ≡ [])

-- the tokens that were issued and to whom, the last first
pub record Issue : Type 0 where
  pub token : ℕ
  pub id : ℕ

abbrev pub issue_of : Row → Issue
issue_of r = record { token = row_token r; id = r.id }

abbrev pub history : Ledger → List Issue
history l = map issue_of l.rows

-- the tokens of h run from below n down to o
abbrev pub Down : ℕ → ℕ → List Issue → Type 0
Down o n [] = n ≡ o
Down o n (x ∷ h) = (n ≡ suc x.token) × Down o x.token h

pub record Tidy (o : ℕ) (l : Ledger) : Type 0 where
  pub tokens : Down o l.next_token (history l)
  pub places : (i : ℕ) → Place l.next_id i (pick entry_id i l.entries) (pick row_id i l.rows)

-- the last token issued to i
unfoldable pub last_to : ℕ → List Issue → Option ℕ
last_to i [] = None
last_to i (x ∷ h) = cond (eqb x.id i) (Some x.token) (last_to i h)

abbrev pub token_of : Option Token → Option ℕ
token_of None = None
token_of (Some t) = Some t.0

abbrev pub issued : DrainedSubmission → Issue
issued x = record { token = x.attempt_token.0; id = x.id.0 }

abbrev pub grown : List DrainedSubmission → List Issue → List Issue
grown [] h = h
grown (x ∷ xs) h = grown xs (issued x ∷ h)

-- each predecessor in xs is the last token issued to the submission before
abbrev pub Chained : List Issue → List DrainedSubmission → Type 0
Chained h [] = Unit {0}
Chained h (x ∷ xs) = (token_of x.predecessor_attempt_token ≡ last_to x.id.0 h) × Chained (issued x ∷ h) xs

-- a ledger that differs from a tidy one in the submission i alone
pub record Beside (i : ℕ) (l l' : Ledger) : Type 0 where
  pub ids : l'.next_id ≡ l.next_id
  pub entries : (j : ℕ) → (i ≡ j → ⊥) → pick entry_id j l'.entries ≡ pick entry_id j l.entries
  pub rows : (j : ℕ) → (i ≡ j → ⊥) → pick row_id j l'.rows ≡ pick row_id j l.rows

abbrev pub PlaceIn : ℕ → Ledger → Type 0
PlaceIn i l = Place l.next_id i (pick entry_id i l.entries) (pick row_id i l.rows)

pub places_beside : {o : ℕ} (i : ℕ) (l l' : Ledger) → Tidy o l → Beside i l l' → PlaceIn i l' → (j : ℕ) → PlaceIn j l'
places_beside i l l' t d here j = same_or_other i j
    (λ e. subst (λ (k : ℕ). PlaceIn k l') e here)
    (λ n. rw (d.ids, d.entries j n, d.rows j n) (t.places j))
