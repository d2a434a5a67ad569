-- By the kind: two kinds have a fixed line, and `Attach` has the line of its target and the one of its amount behind it.
use Rattle.codec_append.specs.Fits.{fits_join, fits_as}
use Rattle.tool_bundle_text.specs.Words.{fee_intent_text, fee_kind_text}
use Rattle.tool_text.specs.Ascii.{ascii}
use Rattle.tool_text.specs.Numbers.{number_line, hex_line}
use mathlib.Core.Path.{sym, ap}
use mathlib.Core.List.{◌++◌}
use Rattle.tool_bundle_text.proofs.words.append_fee_intent.Goals as goal

pub returns-in-AlreadyPaid : goal.returns-in-AlreadyPaid
unfolding fee_intent_text fee_kind_text
returns-in-AlreadyPaid c =
    fits_as (sym (ap (λ k. fee_kind_text k (hex_line (ascii "  fee intent: Attach, target ") c.args.f.target ++ number_line (ascii "    amount: ") c.args.f.amount)) c.in-AlreadyPaid.is))
    c.append_bytes.ensures

pub returns-in-NoFeeConfigured : goal.returns-in-NoFeeConfigured
unfolding fee_intent_text fee_kind_text
returns-in-NoFeeConfigured c =
    fits_as (sym (ap (λ k. fee_kind_text k (hex_line (ascii "  fee intent: Attach, target ") c.args.f.target ++ number_line (ascii "    amount: ") c.args.f.amount)) c.in-NoFeeConfigured.is))
    c.append_bytes-in-NoFeeConfigured.ensures

pub returns-in-Attach : goal.returns-in-Attach
unfolding fee_intent_text fee_kind_text
returns-in-Attach c =
    fits_as (sym (ap (λ k. fee_kind_text k (hex_line (ascii "  fee intent: Attach, target ") c.args.f.target ++ number_line (ascii "    amount: ") c.args.f.amount)) c.in-Attach.is))
    (fits_join c.append_hex_line-target_end.ensures c.append_number_line.ensures)
