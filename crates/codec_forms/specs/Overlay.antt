-- What the byte functions ask.
use Rattle.std.specs.Prelude.{ℕ, ◌%◌, ◌<◌, ◌≡◌, [], ◌∷◌}
use Rattle.std.proofs.Common.{sym, ap, arith}
use Rattle.codec_forms.specs.Wire.{be}

-- a byte as a list
pub one_byte : (b : ℕ) → b < 256 → b ∷ [] ≡ be 1 b
unfolding be
one_byte b h = let e : b % 256 ≡ b = omega arith in ap (λ (x : ℕ). x ∷ []) (sym e)
