-- The optional parts by cases, as the writers meet them.
use Rattle.std.specs.Prelude.{◌≡◌, Bool, true, false, List, ◌++◌, ℕ}
use Rattle.std.proofs.Common.{sym, ap}
use Rattle.codec_forms.specs.Wire.{be, enc_opt}

pub opt_no : (b : Bool) (l : List ℕ) → b ≡ false → be 1 0 ≡ enc_opt b l
unfolding enc_opt
opt_no b l e = sym (ap (λ (x : Bool). enc_opt x l) e)

pub opt_yes : (b : Bool) (l : List ℕ) → b ≡ true → be 1 1 ++ l ≡ enc_opt b l
unfolding enc_opt
opt_yes b l e = sym (ap (λ (x : Bool). enc_opt x l) e)
