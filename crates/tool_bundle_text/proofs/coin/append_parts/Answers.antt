-- Three lines joined by `fits_join`: 64 bytes or more keep both slices inside, and the number is what `amount` promises.
use Rattle.codec_append.specs.Fits.{fits_join, fits_as}
use Rattle.tool_bundle_text.specs.Coins.{parts_text}
use Rattle.tool_text.specs.Ascii.{ascii}
use Rattle.tool_text.specs.Numbers.{number_line}
use mathlib.Core.Path.{ap}
use Rattle.tool_bundle_text.proofs.coin.append_parts.Goals as goal

pub returns : goal.returns
unfolding parts_text
returns c =
    fits_join (fits_join c.append_hex_line-parent_end.ensures c.append_hex_line-puzzle_end.ensures)
    (fits_as (ap (number_line (ascii "      coin amount: ")) c.amount-v.ensures)
    c.append_number_line.ensures)
