-- Label and hash, then the text of the two comparisons.
use Rattle.codec_append.specs.Fits.{fits_join, fits_as}
use Rattle.tool_book_text.specs.Checked.{checked_text, agreement_by}
use Rattle.base_lists.specs.Bytes.{eqs}
use Rattle.std.proofs.Common.{rules, ◌≡◌, sym}
use Rattle.tool_book_text.proofs.checked.append_checked.Goals as goal

pub returns : goal.returns
unfolding checked_text
returns c =
    let b : c.eq.result ≡ eqs c.args.stored.now c.args.f.base = search rules in
    let v : c.eq-2.result ≡ eqs c.args.stored.now c.args.f.current = search rules in
    fits_join c.append_hash_part-hash_end.ensures (fits_as (agreement_by (sym b) (sym v)) c.append_agreement.ensures)
