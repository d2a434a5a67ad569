-- Where no number of 64 bits is behind i, it is 2 ^ 64, and that is what is written out.
use Rattle.std.specs.Prelude.{◌≡◌, refl, ◌+◌, ◌^◌}
use Rattle.std.proofs.Common.{ap, ◌∙◌, arith}
use Rattle.codec_append.specs.Fits.{fits_as}
use Rattle.tool_text.specs.Ascii.{ascii}
use Rattle.tool_text.specs.Numbers.{decimal_in, decimal}
use Rattle.tool_book_text.proofs.entry.append_next.Goals as goal

past_all : ascii "18446744073709551616" ≡ decimal (2 ^ 64)
unfolding decimal decimal_in
past_all = refl

pub returns-in-None : goal.returns-in-None
returns-in-None c =
    let q = c.checked_add.ensures in
    let w = c.in-None.is in
    let e : 2 ^ 64 ≡ c.args.i + 1 = omega (arith, c.ranges.i.fits) in
    fits_as (past_all ∙ ap decimal e) c.append_bytes.ensures
