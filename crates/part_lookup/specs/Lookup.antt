-- Where a token stands in a book: live, set aside, gone (below next token and in no slot), or never issued.
use Rattle.std.specs.Prelude.{Bool, true, false, ℕ, ltb}
use Rattle.book.specs.Model.{Book}
use Rattle.book.specs.declared.SubmittedTx.{SubmittedTx}
use Rattle.rules.specs.Calls.Common.{has_token}
use Rattle.std.specs.Prelude.{Option}
use Rattle.std.specs.Prelude.{Some, None}
use Rattle.part_lookup.specs.declared.AttemptPlace.{AttemptPlace}
use Rattle.part_lookup.specs.declared.AttemptPlace.TheVariants.{Live, SetAside, Gone, NeverIssued}
use Rattle.part_lookup.specs.Place.{place_of}

abbrev pub has_live : ℕ → SubmittedTx → Bool
has_live t s = has_token t s.slots.active_attempt

abbrev pub has_set_aside : ℕ → SubmittedTx → Bool
has_set_aside t s = has_token t s.slots.completed_attempt

-- by the place of the live attempt, whether the token is below next token, and the place of the set-aside attempt
abbrev pub located : Option ℕ → Bool → Option ℕ → AttemptPlace
located (Some k) below aside = Live k
located None false aside = NeverIssued
located None true (Some k) = SetAside k
located None true None = Gone

unfoldable pub attempt_place : ℕ → Book → AttemptPlace
attempt_place t m = located (place_of (has_live t) m.submitted) (ltb t m.next_token.0) (place_of (has_set_aside t) m.submitted)
