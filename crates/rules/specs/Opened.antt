-- "Opening takes any next token and any next submission id, is never refused, and gives the book with these two and everything else empty."
use Rattle.std.specs.Prelude.{ℕ, []}
use Rattle.std.specs.Prelude.{None}
use Rattle.book.specs.Model.{Book}

unfoldable pub opened : ℕ → ℕ → Book
opened token id = record {
  next_token = record { 0 = token };
  next_id = record { 0 = id };
  submitted = [];
  pending = [];
  retired = [];
  rollback = None;
  replayed = [];
}
