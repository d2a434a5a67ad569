-- The places of the code's lookup are what the rules find.
use Rattle.std.proofs.Math.Path.{◌≡◌, refl, ap}
use Rattle.std.proofs.Common.{◌∙◌, arith}
use Rattle.std.specs.Prelude.{Bool, [], ℕ, ltb, get_or}
use Rattle.std.proofs.Math.Bool.{true, false}
use Rattle.std.specs.List.{filter, list_any}
use Rattle.book.specs.Zero.{zero_submitted}
use Rattle.book.specs.Model.{Book}
use Rattle.rules.specs.Calls.Common.{Found, live, aside, gone, never_issued, live_at, is_aside, found_by, find}
use Rattle.std.specs.Prelude.{Option}
use Rattle.std.specs.Prelude.{Some, None}
use Rattle.part_lookup.specs.declared.AttemptPlace.{AttemptPlace}
use Rattle.part_lookup.specs.declared.AttemptPlace.TheVariants.{Live, SetAside, Gone, NeverIssued}
use Rattle.part_lookup.specs.Place.{place_of}
use Rattle.part_lookup.specs.PlaceLaws.{First, at_first, first_filter, none_passes, any_placed, none_any}
use Rattle.part_lookup.specs.Lookup.{has_live, has_set_aside, located, attempt_place}

abbrev pub found_at : Book → AttemptPlace → Found
found_at m (Live k) = live (get_or m.submitted k zero_submitted)
found_at m (SetAside k) = aside
found_at m Gone = gone
found_at m NeverIssued = never_issued

module _ (t : ℕ) (m : Book) where
  by_live_lem : (a : Option ℕ) → place_of (has_live t) m.submitted ≡ a → (below : Bool) (s : Option ℕ) → place_of (has_set_aside t) m.submitted ≡ s
      → found_by below (list_any (has_set_aside t) m.submitted) (filter (has_live t) m.submitted) ≡ found_at m (located a below s)
  by_live_lem (Some k) e below s f =
      ap (found_by below (list_any (has_set_aside t) m.submitted)) (first_filter (has_live t) m.submitted zero_submitted (at_first (has_live t) m.submitted e))
  by_live_lem None e below s f =
      ap (found_by below (list_any (has_set_aside t) m.submitted)) (none_passes (has_live t) m.submitted e) ∙ by_aside below s f
    where
      by_aside : (below : Bool) (s : Option ℕ) → place_of (has_set_aside t) m.submitted ≡ s
          → found_by below (list_any (has_set_aside t) m.submitted) [] ≡ found_at m (located None below s)
      by_aside false s f = go (list_any (has_set_aside t) m.submitted)
        where
          go : (b : Bool) → found_by false b [] ≡ never_issued
          go true = refl
          go false = refl
      by_aside true (Some k) f = ap (λ (b : Bool). found_by true b []) (any_placed (has_set_aside t) m.submitted f)
      by_aside true None f = ap (λ (b : Bool). found_by true b []) (none_any (has_set_aside t) m.submitted f)

  -- the rules' `find` is the lookup by place
  pub find_is : find t m ≡ found_at m (attempt_place t m)
  unfolding find live_at is_aside attempt_place
  find_is = by_live_lem (place_of (has_live t) m.submitted) refl (ltb t m.next_token.0) (place_of (has_set_aside t) m.submitted) refl

  -- a live place: the submission there holds the token, and is the one that the rules find
  pub live_found : {k : ℕ} → attempt_place t m ≡ Live k → First (has_live t) m.submitted k
  unfolding attempt_place
  live_found {k} e = go (place_of (has_live t) m.submitted) refl (ltb t m.next_token.0) (place_of (has_set_aside t) m.submitted) e
    where
      go : (a : Option ℕ) → place_of (has_live t) m.submitted ≡ a → (below : Bool) (s : Option ℕ) → located a below s ≡ Live k → First (has_live t) m.submitted k
      go (Some j) h below s q = let z : j ≡ k = cc in at_first (has_live t) m.submitted (h ∙ ap Some z)
      go None h false s q = let z : ◌≡◌ {A = ℕ} 0 1 = cc in absurd (omega arith)
      go None h true (Some j) q = let z : ◌≡◌ {A = ℕ} 0 1 = cc in absurd (omega arith)
      go None h true None q = let z : ◌≡◌ {A = ℕ} 0 1 = cc in absurd (omega arith)
