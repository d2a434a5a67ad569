-- A kind of one byte, by the place behind its reading.
use Rattle.std.specs.Prelude.{◌≡◌, refl, ℕ, Bool, true, false, [], ◌∷◌, ltb, Option}
use Rattle.std.specs.Bool.{then_some}
use Rattle.std.proofs.Common.{sym, ◌∙◌}
use Rattle.std.proofs.lemmas.Bool.{ltb-true, ltb-false}
use Rattle.codec_forms.specs.Wire.{Parser}
use Rattle.codec_cursor.specs.Cursor.{Reads, far}
use Rattle.c_boundary.specs.Arguments.{byte_as, byte_bad, byte_got}

pub byte_read : {A : Type 0} (p : Parser A) (n : ℕ) {v : A} {e : ℕ} {x : Option A} → Reads p (n ∷ []) 0 v e → x ≡ then_some (ltb e far) v → x ≡ byte_as p n
byte_read p n {v} {e} r h = h ∙ go (ltb e far) refl
  where
    go : (t : Bool) → ltb e far ≡ t → then_some t v ≡ byte_as p n
    go true q = sym (byte_got p n r (ltb-true e far q))
    go false q = sym (byte_bad p n r (ltb-false e far q))
