-- Bytes copied to the start of a slice.
use Rattle.std.specs.Prelude.{ℕ, ◌≡◌, List, length}
use Rattle.codec_forms.specs.Wire.{overlay}

-- l was written at the start of d, which left d', and r is how many bytes that took
pub record Wrote (l d d' : List ℕ) (r : ℕ) : Type 0 where
  pub count : r ≡ length l
  pub bytes : d' ≡ overlay l d
