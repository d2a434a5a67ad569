-- Rules by what the code answers of them, a sound book or a refusal: one after the other, and over a list as the loops of the code go.
use Rattle.std.specs.Prelude.{List, [], ◌∷◌, ◌≡◌, refl, Result, Ok, Err}
use Rattle.std.proofs.Common.{ap, sym, ◌∙◌}
use Rattle.book.specs.Model.{Book, view}
use Rattle.book.specs.declared.refusal.Refusal.{Refusal}
use Rattle.book.specs.declared.sound.SoundBook.{SoundBook}
use Rattle.rules.specs.Rule.{Rule, done, turn, ◌>>=◌, Outcome, ended, undone, stopped, followed, run, run_bind}
use Rattle.rules.specs.Steps.{on_book, run_book}
use Rattle.part_replies.specs.Reply.{outcome_by}
use Rattle.part_sound_laws.specs.Acts.{logged_none}

-- ---- rules and what follows them
module _ {A B : Type 0} (m : Rule A) (k : A → Rule B) (b : Book) where
  pub bind_undone : {n : Refusal} → run_book m b ≡ undone n → run_book (m >>= k) b ≡ undone n
  bind_undone e = run_bind (λ (x : Book). x) on_book m k b ∙ ap (followed (λ (x : Book). x) on_book k) e

  pub bind_on : {a : A} {q : Book} → run_book m b ≡ ended q [] a → run_book (m >>= k) b ≡ run_book (k a) q
  bind_on {a} {q} e = run_bind (λ (x : Book). x) on_book m k b ∙ ap (followed (λ (x : Book). x) on_book k) e ∙ logged_none (run_book (k a) q)

-- the end of a turn changes nothing
pub bind_turn : {A B : Type 0} (m : Rule A) (r : Rule B) (b : Book) → run_book (m >>= (λ _. turn r)) b ≡ run_book (m >>= (λ _. r)) b
unfolding run
bind_turn m r b = run_bind (λ (x : Book). x) on_book m (λ _. turn r) b ∙ go (run_book m b) ∙ sym (run_bind (λ (x : Book). x) on_book m (λ _. r) b)
  where
    go : {A : Type 0} (o : Outcome Book A) → followed (λ (x : Book). x) on_book (λ _. turn r) o ≡ followed (λ (x : Book). x) on_book (λ _. r) o
    go (ended s xs a) = refl
    go (undone n) = refl
    go (stopped s xs n) = refl

-- rules that come to r and then answer c
pub then_answer : {A B : Type 0} (a : A) (c : B) (r : Result SoundBook Refusal) (m : Rule A) (b : Book) → run_book m b ≡ outcome_by a r → run_book (m >>= (λ _. done c)) b ≡ outcome_by c r
unfolding run
then_answer a c (Err n) m b h = bind_undone m (λ _. done c) b h
then_answer a c (Ok q) m b h = bind_on m (λ _. done c) b h

-- ---- the rules `every` of a list are the rules `one` of its first element, and then those of the others
pub record Each {X A : Type 0} (every : List X → Rule A) (one : X → Rule (Unit {0})) (a : A) : Type 0 where
  pub none : every [] ≡ done a
  pub more : (x : X) (xs : List X) (m : Book) → run_book (every (x ∷ xs)) m ≡ run_book (one x >>= (λ _. every xs)) m

-- w is what the whole list comes to: before each turn it is what the rest of the list comes to
module _ {X A : Type 0} {every : List X → Rule A} {one : X → Rule (Unit {0})} {a : A} (each : Each every one a) {w : Outcome Book A} (m : Book) where
  pub each_undone : {x : X} {xs xs' : List X} {n : Refusal} → w ≡ run_book (every xs) m → xs ≡ x ∷ xs' → run_book (one x) m ≡ undone n → w ≡ undone n
  each_undone {x} {xs} {xs'} l e h = l ∙ ap (λ (ys : List X). run_book (every ys) m) e ∙ each.more x xs' m ∙ bind_undone (one x) (λ _. every xs') m h

  pub each_on : {x : X} {xs xs' : List X} {q : Book} → w ≡ run_book (every xs) m → xs ≡ x ∷ xs' → run_book (one x) m ≡ ended q [] tt → w ≡ run_book (every xs') q
  each_on {x} {xs} {xs'} l e h = l ∙ ap (λ (ys : List X). run_book (every ys) m) e ∙ each.more x xs' m ∙ bind_on (one x) (λ _. every xs') m h

  pub each_done : {xs : List X} → w ≡ run_book (every xs) m → xs ≡ [] → w ≡ ended m [] a
  unfolding run
  each_done l e = l ∙ ap (λ (ys : List X). run_book (every ys) m) e ∙ ap (λ (r : Rule A). run_book r m) each.none
