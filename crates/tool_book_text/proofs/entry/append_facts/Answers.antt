-- Fee state, fee intent, acknowledged hash, chain state and expiry follow one another, and `fits_join` makes them one text.
use Rattle.codec_append.specs.Fits.{fits_join}
use Rattle.tool_book_text.specs.Entries.{facts_text}
use Rattle.tool_book_text.proofs.entry.append_facts.Goals as goal

pub returns : goal.returns
unfolding facts_text
returns c =
    fits_join (fits_join (fits_join (fits_join c.append_resolution-resolution_end.ensures c.append_fee_intent-intent_end.ensures) c.append_checked_optional-acknowledged_end.ensures)
    c.append_chain-chain_end.ensures) c.append_height.ensures
