-- The loop keeps: the bytes so far are appended, each behind the gap; at the end that is all of the source.
use Rattle.codec_forms.specs.Wire.{enc_many}
use Rattle.codec_append.specs.Fits.{Fits}
use Rattle.tool_text.specs.Numbers.{hex_byte}
use Rattle.std.proofs.Common.{ℕ, ◌++◌, take}
use Rattle.tool_text.proofs.append_digits.Given as goal

abbrev pub invariant-loop-b : goal.invariant-loop-b
invariant-loop-b l = Fits (enc_many (λ (b : ℕ). l.gap ++ hex_byte b) (take l.b-index l.src)) l.at l.initial.out l.out l.e
