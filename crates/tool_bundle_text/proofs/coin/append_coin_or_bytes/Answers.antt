-- By `is_coin`: a coin of parts has the 64 bytes that `append_parts` asks for (`coin_room`), any other is its bytes.
use Rattle.codec_append.specs.Fits.{fits_as}
use Rattle.std.proofs.Common.{sym, ◌∙◌}
use Rattle.std.proofs.lemmas.Bool.{cond-true, cond-false}
use Rattle.tool_bundle_text.specs.Coins.{coin_or_bytes, coin_room}
use Rattle.tool_bundle_text.proofs.coin.append_coin_or_bytes.Goals as goal

pub append_parts-requires : goal.append_parts-requires
append_parts-requires c = coin_room c.args.c.now (sym c.is_coin.ensures ∙ c.if-is_coin.true)

pub returns-then-is_coin : goal.returns-then-is_coin
unfolding coin_or_bytes
returns-then-is_coin c = fits_as (sym (cond-true _ _ _ (sym c.is_coin.ensures ∙ c.if-is_coin.true))) c.append_parts.ensures

pub returns-else-is_coin : goal.returns-else-is_coin
unfolding coin_or_bytes
returns-else-is_coin c = fits_as (sym (cond-false _ _ _ (sym c.is_coin.ensures ∙ c.if-is_coin.false))) c.append_hex_line.ensures
