-- The three ways of reading a length: cut short, beyond the bytes, within them.
use Rattle.c_read.specs.Part.{part, part_short, part_cut}
use Rattle.codec_bytes.specs.Reading.{has_long}
use native.Mathlib.Omega.{arith}
use Rattle.c_read.proofs.part_of.Goals as goal

pub returns-then-at-ge-FAR : goal.returns-then-at-ge-FAR
returns-then-at-ge-FAR c = part_short _ c.read_number-length.ensures c.if-at-ge-FAR.true

pub returns-then-not-room : goal.returns-then-not-room
returns-then-not-room c = part_cut _ c.read_number-length.ensures c.if-at-ge-FAR.false c.has-room.ensures c.if-not-room.true-raw

pub overflow_add-result : goal.overflow_add-result
overflow_add-result c =
    let h = has_long c.read_number-length.result c.args.d.now _ c.has-room.ensures c.if-not-room.false-raw in
    omega (arith, h, c.well_formed)

pub returns : goal.returns
returns c =
    let h = has_long c.read_number-length.result c.args.d.now _ c.has-room.ensures c.if-not-room.false-raw in
    part _ _ c.read_number-length.ensures c.if-at-ge-FAR.false h
