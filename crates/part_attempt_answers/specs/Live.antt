-- What `with_live` of the rules comes to, by the place that the code's lookup finds: once for every call of a token.
use Rattle.std.specs.Prelude.{ℕ, ◌<◌, Bool, true, false, cond, [], length, get_or}
use Rattle.std.proofs.Math.Path.{◌≡◌, refl, sym, ap}
use Rattle.std.proofs.Common.{◌∙◌, arith}
use Rattle.book.specs.Zero.{zero_submitted}
use Rattle.book.specs.Model.{Book}
use Rattle.book.specs.declared.SubmittedTx.{SubmittedTx}
use Rattle.rules.specs.Calls.Common.{Found, find, by_live, with_live}
use Rattle.rules.specs.Rule.{Rule, Outcome, ended, undone, run}
use Rattle.rules.specs.Steps.{run_book}
use Rattle.std.specs.Prelude.{Option}
use Rattle.std.specs.Prelude.{Some, None}
use Rattle.part_lookup.specs.declared.AttemptPlace.{AttemptPlace}
use Rattle.part_lookup.specs.declared.AttemptPlace.TheVariants.{Live, SetAside, Gone, NeverIssued}
use Rattle.part_lookup.specs.Lookup.{attempt_place}
use Rattle.part_lookup.specs.LookupLaws.{found_at, find_is, live_found}
use Rattle.book.specs.declared.refusal.Refusal.TheVariants as refusals

-- ---- what is asked of a place
abbrev pub live_place : AttemptPlace → Option ℕ
live_place (Live k) = Some k
live_place (SetAside k) = None
live_place Gone = None
live_place NeverIssued = None

abbrev pub is_never_issued : AttemptPlace → Bool
is_never_issued (Live k) = false
is_never_issued (SetAside k) = false
is_never_issued Gone = false
is_never_issued NeverIssued = true

-- a token that is not live: the value of an inactive one; 4, not live and not below next token
abbrev pub inactive : {A : Type 0} → Book → A → AttemptPlace → Outcome Book A
inactive m v p = cond (is_never_issued p) (undone refusals.UnknownToken) (ended m [] v)

module _ {A : Type 0} (m : Book) (v : A) (p : AttemptPlace) {t : Bool} (told : t ≡ is_never_issued p) where
  pub inactive_never : t ≡ true → undone refusals.UnknownToken ≡ inactive m v p
  inactive_never e = ap {B = Outcome Book A} (λ (x : Bool). cond x (undone refusals.UnknownToken) (ended m [] v)) (sym e ∙ told)

  pub inactive_issued : t ≡ false → ended m [] v ≡ inactive m v p
  inactive_issued e = ap {B = Outcome Book A} (λ (x : Bool). cond x (undone refusals.UnknownToken) (ended m [] v)) (sym e ∙ told)

-- the submission at a place
abbrev pub at : Book → ℕ → SubmittedTx
at m k = get_or m.submitted k zero_submitted

-- ---- from the place to the rules
is_live : (p : AttemptPlace) {k : ℕ} → live_place p ≡ Some k → p ≡ Live k
is_live (Live j) {k} e = let z : j ≡ k = cc in ap Live z
is_live (SetAside j) e = let z : ◌≡◌ {A = ℕ} 0 1 = cc in absurd (omega arith)
is_live Gone e = let z : ◌≡◌ {A = ℕ} 0 1 = cc in absurd (omega arith)
is_live NeverIssued e = let z : ◌≡◌ {A = ℕ} 0 1 = cc in absurd (omega arith)

module _ (t : ℕ) (m : Book) where
  -- what the rules find, by the place that the code found
  pub find_by : {p : AttemptPlace} → p ≡ attempt_place t m → find t m ≡ found_at m p
  find_by here = find_is t m ∙ ap (found_at m) (sym here)

  -- the two answers of the code's lookup
  module _ {p : AttemptPlace} {q : Option ℕ} (here : p ≡ attempt_place t m) (told : q ≡ live_place p) where
    live_at : {k : ℕ} → q ≡ Some k → attempt_place t m ≡ Live k
    live_at e = sym here ∙ is_live p (sym told ∙ e)

    pub live_within : {k : ℕ} → q ≡ Some k → k < length m.submitted
    live_within e = (live_found t m (live_at e)).within

    module _ {A : Type 0} (v : A) (f : SubmittedTx → Rule A) where
      found : run_book (with_live t v f) m ≡ run_book (by_live v f (found_at m p)) m
      unfolding with_live run
      found = ap (λ (x : Found). run_book (by_live v f x) m) (find_by here)

      pub with_live_lem : {k : ℕ} → q ≡ Some k → run_book (f (at m k)) m ≡ run_book (with_live t v f) m
      with_live_lem e = sym (found ∙ ap (λ (x : AttemptPlace). run_book (by_live v f (found_at m x)) m) (is_live p (sym told ∙ e)))

      pub with_inactive : q ≡ None → inactive m v p ≡ run_book (with_live t v f) m
      unfolding run
      with_inactive e = sym (found ∙ go p (sym told ∙ e))
        where
          go : (x : AttemptPlace) → live_place x ≡ None → run_book (by_live v f (found_at m x)) m ≡ inactive m v x
          go (Live k) z = let y : ◌≡◌ {A = ℕ} 0 1 = cc in absurd (omega arith)
          go (SetAside k) z = refl
          go Gone z = refl
          go NeverIssued z = refl
