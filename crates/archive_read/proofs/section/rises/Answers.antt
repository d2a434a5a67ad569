-- The last of a list is the element below its length.
use Rattle.std.proofs.Common.{ℕ, arith, ap, ◌∙◌, ltb}
use Rattle.archive_read.specs.Sections.{above_is}
use Rattle.archive_read.proofs.section.rises.Goals as goal

pub returns-in-Some : goal.returns-in-Some
returns-in-Some c =
    let last = c.in-Some.ensures.item.3 in
    ap (λ (n : ℕ). ltb n c.args.x) (last.1 0) ∙ above_is c.args.earlier.now c.args.x (λ e. omega (arith, last.0))
