-- `min_expiry` by the cases of its two arguments, and what `<` answers of heights and `==` of the kinds of a fee intent.
use Rattle.std.specs.Prelude.{ℕ, Bool, true, false, cond, ◌≡◌, refl, ltb, eqb}
use Rattle.std.proofs.Common.{sym, ap, ◌∙◌, arith, Less, Equal, Greater}
use borrow.Author.Tests.{ltb-true, ltb-false}
use Rattle.std.specs.Ordering.{is_lt, nat_cmp}
use Rattle.std.specs.Option.{option_or}
use Rattle.std.specs.Cmp.{nat_cmp_is}
use Rattle.book.specs.declared.Height.{Height}
use Rattle.std.specs.Prelude.{Option}
use Rattle.std.specs.Prelude.{None, Some}
use denote.Enum.Bare.{sameb}
use Rattle.book.specs.contracts.FeeIntentKind.{the_type as kinds}
use Rattle.book.specs.declared.FeeIntentKind.{FeeIntentKind}
use Rattle.book.specs.declared.FeeIntentKind.TheVariants.{AlreadyPaid, NoFeeConfigured, Attach}
use Rattle.archive_bundle_form.specs.Forms.{kind_number}
use Rattle.rules.specs.Parts.{min_expiry}

-- what `==` answers of two kinds
pub same_kind : (k l : FeeIntentKind) → sameb kinds k l ≡ eqb (kind_number k) (kind_number l)
same_kind AlreadyPaid AlreadyPaid = refl
same_kind AlreadyPaid NoFeeConfigured = refl
same_kind AlreadyPaid Attach = refl
same_kind NoFeeConfigured AlreadyPaid = refl
same_kind NoFeeConfigured NoFeeConfigured = refl
same_kind NoFeeConfigured Attach = refl
same_kind Attach AlreadyPaid = refl
same_kind Attach NoFeeConfigured = refl
same_kind Attach Attach = refl

none_then : (b : Option Height) → b ≡ min_expiry None b
unfolding min_expiry
none_then None = refl
none_then (Some h) = refl

-- what `<` answers of two heights
pub below : (x y : ℕ) {t : Bool} → t ≡ is_lt (nat_cmp x y) → ltb x y ≡ t
below x y e = go (ltb x y) refl (ltb y x) refl ∙ sym e
  where
    go : (a : Bool) → ltb x y ≡ a → (b : Bool) → ltb y x ≡ b → ltb x y ≡ is_lt (nat_cmp x y)
    go true p b q = p ∙ ap is_lt (nat_cmp_is x y Less (ltb-true x y p))
    go false p true q = p ∙ ap is_lt (nat_cmp_is x y Greater (ltb-true y x q))
    go false p false q = p ∙ ap is_lt (nat_cmp_is x y Equal (let l = ltb-false x y p in let m = ltb-false y x q in omega arith))

none_behind : (a : Option Height) → option_or a None ≡ min_expiry a None
unfolding min_expiry
none_behind None = refl
none_behind (Some g) = refl

module _ (a b : Option Height) where
  pub none_first : a ≡ None → option_or a b ≡ min_expiry a b
  none_first p = rw p (none_then b)

  pub none_second : b ≡ None → option_or a b ≡ min_expiry a b
  none_second p = rw p (none_behind a)

  pub both : {g h : Height} → a ≡ Some g → b ≡ Some h → {m : Height} → m ≡ cond (is_lt (nat_cmp h.0 g.0)) h g → Some m ≡ min_expiry a b
  unfolding min_expiry
  both {g} {h} p q e = rw (p, q) (ap (λ (x : Height). Some x) (e ∙ ap (λ (t : Bool). cond t h g) (sym (below h.0 g.0 refl))) ∙ go (ltb h.0 g.0))
    where
      go : (t : Bool) → Some (cond t h g) ≡ cond t (Some h) (Some g)
      go true = refl
      go false = refl
