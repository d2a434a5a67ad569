-- What stands at the start of a buffer after a part was written there.
use Rattle.std.specs.Prelude.{◌≡◌, List, ℕ, ◌≤◌, length, take, drop}
use Rattle.std.proofs.Common.{sym, ap, ◌∙◌, arith, take_at}
use Rattle.codec_forms.specs.Wire.{overlay}
use Rattle.codec_forms.specs.Puts.{Room, Puts, Size, puts_overlay}

-- room for l at the start of a buffer that is long enough for any such part
pub room_at_start : {l d : List ℕ} {most r : ℕ} → Size l most r → most ≤ length d → Room l 0 d
room_at_start s h = record { fits = omega (arith, s.is, s.few) }

pub front : {l d d' : List ℕ} {e : ℕ} (n : ℕ) → n ≡ length l → Puts l 0 d d' e → take n d' ≡ l
unfolding overlay
front {l} {d} {d'} n h p =
    ap (λ (x : List ℕ). take n x) (puts_overlay p).1 ∙ take_at l (drop (length l) d) n (sym h)
