-- Coin, digest and run one behind the other.
use Rattle.archive_form.specs.Parse.{parse_spend}
use Rattle.codec_cursor.specs.Cursor.{reads_then, ends_as}
use Rattle.archive_bundle_read.proofs.bundle.read_spend.Goals as goal

pub returns : goal.returns
unfolding parse_spend
returns c =
    reads_then _ c.read_cell-cell.ensures.read (reads_then _ c.read_hash-digest.ensures (reads_then _ c.read_run-run.ensures.read (ends_as (λ i. record {
      coin_len = c.read_cell-cell.ensures.long i;
      coin = c.read_cell-cell.ensures.same i;
      digest = c.read_hash-digest.result;
      readable = c.read_run-run.result.readable;
      output_count = c.read_run-run.ensures.long i;
      outputs = c.read_run-run.ensures.same i;
    }))))
