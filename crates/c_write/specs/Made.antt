-- Bytes made at the start of an array of their own, and cut out of it.
use Rattle.std.specs.Prelude.{◌≡◌, List, ℕ, length, take, drop}
use Rattle.std.proofs.Common.{ap, sym, ◌∙◌, arith, take_at}
use Rattle.codec_append.specs.Fits.{FitsWithin}
use Rattle.codec_forms.specs.Puts.{puts_overlay}
use Rattle.codec_forms.specs.Wire.{overlay}

pub made : {x l l' : List ℕ} {n : ℕ} → FitsWithin (length l) x 0 l l' n → take n l' ≡ x
unfolding overlay
made {x} {l} {l'} {n} f =
    let o = puts_overlay (f.fits.puts (record { fits = omega (arith, f.few) })) in
    ap (take n) o.1 ∙ take_at x (drop (length x) l) n (sym o.0)
