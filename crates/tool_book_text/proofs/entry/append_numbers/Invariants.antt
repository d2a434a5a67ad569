-- The loop keeps: the ids so far are appended, each behind a space; at the end that is all of them.
use Rattle.codec_append.specs.Fits.{Fits}
use Rattle.codec_forms.specs.Wire.{enc_many}
use Rattle.tool_book_text.specs.Entries.{id_after_space}
use Rattle.std.proofs.Common.{take}
use Rattle.tool_book_text.proofs.entry.append_numbers.Given as goal

abbrev pub invariant-loop-n : goal.invariant-loop-n
invariant-loop-n l = Fits (enc_many id_after_space (take l.n-index l.l)) l.at l.initial.out l.out l.e
