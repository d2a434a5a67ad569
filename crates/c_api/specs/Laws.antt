-- Replies of calls by rules that are given in another form. A flag that C hands over as a number, the source of a fee and the joined bundle
-- stand with their calls (c_calls_chain/Report, c_calls_attempts/Source).
use Rattle.std.specs.Prelude.{◌≡◌}
use Rattle.std.proofs.Common.{ap, ◌∙◌}
use Rattle.std.specs.Prelude.{Option}
use Rattle.book.specs.Model.{view}
use Rattle.book.specs.declared.BookData.{BookData}
use Rattle.rules.specs.Rule.{Rule}
use Rattle.rules.specs.Steps.{run_book}
use Rattle.part_replies.specs.Reply.{reply}
use Rattle.part_replies.specs.declared.Reply.{Reply}
pub use Rattle.c_calls_chain.specs.Report.{flag_over, flag_in_lem}

-- a reply by rules that are given in another form
pub reply_by_same : {A : Type 0} (b : BookData) {r : Reply A BookData} {x y : Rule A} → x ≡ y → r ≡ reply b (run_book x (view b)) → r ≡ reply b (run_book y (view b))
reply_by_same {A} b e h = h ∙ ap (λ (z : Rule A). reply b (run_book z (view b))) e
