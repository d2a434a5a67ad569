use Rattle.codec_append.specs.Fits.{each_start, each_more, fits_join}
use Rattle.tool_text.specs.Numbers.{hex_byte}
use Rattle.std.proofs.Common.{ℕ, ◌++◌}
use Rattle.tool_text.proofs.append_digits.Goals as goal

pub loop-b-init : goal.loop-b-init
loop-b-init c = each_start (λ (b : ℕ). c.args.gap.now ++ hex_byte b) c.args.src.now c.args.at c.args.out.now

pub loop-b-preserved : goal.loop-b-preserved
loop-b-preserved c = each_more 0 (λ (b : ℕ). c.args.gap.now ++ hex_byte b) c.args.src.now c.loop-b.b-index c.loop-b-test.true c.loop-b.invariant (fits_join c.append_bytes-gap_end.ensures c.append_hex_byte-e.ensures)
