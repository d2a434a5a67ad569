-- The parts or the bytes, and behind them the line of the id, which is what `sha256` promises of the coin string.
use Rattle.codec_append.specs.Fits.{fits_join, fits_as}
use Rattle.tool_bundle_text.specs.Coins.{coin_text}
use Rattle.tool_text.specs.Ascii.{ascii}
use Rattle.tool_text.specs.Numbers.{hex_line}
use mathlib.Core.Path.{ap}
use Rattle.tool_bundle_text.proofs.coin.append_coin.Goals as goal

pub returns : goal.returns
unfolding coin_text
returns c = fits_join c.append_coin_or_bytes-parts_end.ensures (fits_as (ap (hex_line (ascii "      coin id: ")) c.sha256-id.ensures) c.append_hex_line.ensures)
