-- Theorems on specs/Demand3.antt.
use Rattle.std.specs.Prelude.{ℕ, ◌≡◌}
use mathlib.Core.List.{List, [], ◌∷◌, ◌++◌}
use Rattle.std.proofs.Common.{◌∙◌}
use Rattle.book.specs.Model.{view}
use Rattle.archive_form.specs.Encode.{encode_model}
use Rattle.rules.specs.Books.{book_after}
use Rattle.rules.specs.Call.{Call, Drain}
use Rattle.rules.specs.Opened.{opened}
use Rattle.rules_ledger.specs.Theorem.{Accounted}
use Rattle.rules_ledger.proofs.Theorem.{ledger_theorem}
use Rattle.rules_ledger.specs.Tidy.{grown, Chained}
use Rattle.submission.specs.Calls.{last_link}
use Rattle.demands.specs.Predecessors.{issued_by_lem}
use Rattle.demands.proofs.Predecessors.{named, grown_by}
use Rattle.demands.specs.Demand3.{program_book, tokens_at, issued_at, Demand3}

-- the theorem of crate ledger, on the lists that the program's book holds
pub demand_3 : (token id : ℕ) (calls : List Call) → Demand3 token id calls
demand_3 token id calls = record {
  next_token = rw e a.next_token;
  opening = a.opening;
  tokens = a.tokens;
  issued = grows;
  handed = λ before rest q k. grows before Drain rest q ∙ grown_by (tokens_at token id before) (program_book token id before) k;
  fates = a.fates;
  retained = rw e a.retained;
  sum = a.sum;
  live_slots = rw e a.live_slots;
  aside_slots = rw e a.aside_slots;
  one_entry = rw e a.one_entry;
  one_slot = rw e a.one_slot;
  one_row = a.one_row;
  predecessors = λ before rest q. named (tokens_at token id before) (program_book token id before) (chained before rest q);
  behind11 = chained;
}
  where
    a : Accounted encode_model token id calls
    a = ledger_theorem encode_model token id calls

    e : view (program_book token id calls).parts ≡ book_after encode_model calls (opened token id)
    e = (last_link token id calls).book

    grows : (before : List Call) (c : Call) (rest : List Call) → calls ≡ before ++ c ∷ rest
        → tokens_at token id (before ++ c ∷ []) ≡ grown (issued_at token id before c) (tokens_at token id before)
    grows before c rest q = rw (issued_by_lem token id before c) (a.issued before c rest q)

    chained : (before rest : List Call) → calls ≡ before ++ Drain ∷ rest → Chained (tokens_at token id before) (issued_at token id before Drain)
    chained before rest q = rw (issued_by_lem token id before Drain) (a.chained before Drain rest q)
