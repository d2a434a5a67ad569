-- In `c.requires.1` stand the clauses: `few`, and `places`.
use Prim.Native.Nat.{◌<◌}
use Rattle.std.proofs.Common.{arith, ◌∙◌, ap, List, length, get_or}
use Rattle.std.proofs.lemmas.List.FromFn.{get_or-map-range_with_len}
use Rattle.codec_cursor.specs.Cursor.{reads_mapped}
use Rattle.archive_bundle_read.proofs.kind.read_kind.Goals as goal

pub returns : goal.returns
returns g c =
    let number = c.read_count-number.result in
    let k = c.index-kinds-number.result in
    let few : number < length c.args.kinds.now = omega (arith, c.read_count-number.ensures.few, c.requires.1.0.0) in
    reads_mapped g.of c.read_count-number.ensures.reads
    (c.index-kinds-number.is ∙ ap (λ (l : List g.row.K.Denot). get_or l number k) c.requires.1.1 ∙ get_or-map-range_with_len g.of 0 (length c.args.kinds.now) number number k few (omega arith))
