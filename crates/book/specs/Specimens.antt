-- Soundness on small books, by evaluation.
use Rattle.std.specs.Prelude.{◌≡◌, refl, true, false, List, [], ◌∷◌, ℕ}
use Rattle.std.specs.Prelude.{None}
use Rattle.book.specs.declared.OptionalAttempt.{OptionalAttempt}
use Rattle.book.specs.declared.SubmittedTx.{SubmittedTx}
use Rattle.book.specs.Zero.{zero_attempt, no_attempt, zero_entry}
use Rattle.book.specs.Model.{Book, back}
use Rattle.book.specs.Sound.{soundb}

-- a submission with id 0 and the live attempt a
abbrev submission : OptionalAttempt → SubmittedTx
submission a = record { slots = record { active_attempt = a; completed_attempt = no_attempt }; entry = zero_entry }

abbrev live : OptionalAttempt
live = record { present = true; attempt = zero_attempt }

abbrev book_of : ℕ → List SubmittedTx → List ℕ → Book
book_of next ts replayed = record { next_token = record { 0 = next }; next_id = record { 0 = 1 }; submitted = ts; pending = []; retired = 7 ∷ []; rollback = None; replayed = replayed }

one_live : soundb (back (book_of 1 (submission live ∷ []) (0 ∷ []))) ≡ true
unfolding soundb back no_attempt
one_live = refl

-- its token, 0, is not below the next one
token_not_below : soundb (back (book_of 0 (submission live ∷ []) [])) ≡ false
unfolding soundb back no_attempt
token_not_below = refl

same_id_twice : soundb (back (book_of 1 (submission live ∷ submission no_attempt ∷ []) [])) ≡ false
unfolding soundb back no_attempt
same_id_twice = refl

replayed_not_retained : soundb (back (book_of 1 (submission live ∷ []) (3 ∷ []))) ≡ false
unfolding soundb back no_attempt
replayed_not_retained = refl
