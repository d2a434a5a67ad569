-- Eight bytes as a number: std's reading of them is `be_from 0`.
use Prim.Native.Nat.{ℕ, ◌^◌, ◌+◌, ◌<◌}
use mathlib.Core.Path.{◌≡◌, sym, ap, ◌∙◌, subst}
use mathlib.Core.List.{List}
use native.Mathlib.Omega.{arith}
use lib.ListN.{length, take, drop}
use Rattle.std.proofs.Common.{get_or-drop}
use Rattle.std.proofs.lemmas.Nat.{be_bytes_8}
use Rattle.std.specs.Int.{w64, from_be_bytes, to_be_bytes}
use Rattle.codec_forms.specs.Wire.{be, be_from}
use Rattle.codec_forms.specs.Lawful.{IsBytes}
use Rattle.codec_forms.specs.Number.{from_be, bytes_take}

written : (n : ℕ) → to_be_bytes w64 n ≡ be 8 n
unfolding be
written n = search arith

pub number_is : (n : ℕ) (l : List ℕ) → length l ≡ 8 → IsBytes l → n < 2 ^ 64 → n ≡ from_be_bytes w64 l → n ≡ be_from 0 l
number_is n l k b h e = sym (from_be 8 n h) ∙ ap (be_from 0) (sym (written n) ∙ be_bytes_8 l n k b e)

pub part_bytes : (s : List ℕ) (at n : ℕ) → IsBytes s → IsBytes (take n (drop at s))
part_bytes s at n b = bytes_take n (drop at s) (λ i. subst (λ (v : ℕ). v < 256) (sym (get_or-drop at s i 0)) (b (at + i)))
