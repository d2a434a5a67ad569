-- Number, puzzle hash, amount and coin id follow one another.
use Rattle.codec_append.specs.Fits.{fits_join, fits_as}
use Rattle.tool_bundle_text.specs.Bundles.{output_text}
use Rattle.tool_text.specs.Numbers.{hex_line}
use Rattle.tool_text.specs.Ascii.{ascii}
use mathlib.Core.Path.{ap}
use Rattle.tool_bundle_text.proofs.bundle.append_output.Goals as goal

pub returns : goal.returns
unfolding output_text
returns c =
    fits_join (fits_join (fits_join (fits_join c.append_bytes-word_end.ensures c.append_decimal-number_end.ensures) c.append_hex_line-hash_end.ensures)
    c.append_number_line-amount_end.ensures) (fits_as (ap (hex_line (ascii "          coin id: ")) c.output_coin_id-id.ensures) c.append_hex_line.ensures)
