-- "An acknowledged variant is the base or the current one" by the cases of the code: without a fee bundle the current one is the base.
use Rattle.std.specs.Prelude.{true, false, ◌≡◌}
use Rattle.base_lists.specs.Bytes.{eqs}
use Rattle.archive_bundle_form.specs.Forms.{variant_fingerprint}
use Rattle.book.specs.declared.SubmittedEntry.{SubmittedEntry}
use Rattle.rules.specs.Parts.{current_bundle, current_fingerprint, known_acknowledged}

module _ (e : SubmittedEntry) where
  pub known_none : e.state.wallet_acknowledged_variant.present ≡ false → true ≡ known_acknowledged e
  unfolding known_acknowledged
  known_none p = rw p

  module _ (p : e.state.wallet_acknowledged_variant.present ≡ true) where
    pub known_base : eqs e.state.wallet_acknowledged_variant.hash (variant_fingerprint e.intent.base_bundle) ≡ true → true ≡ known_acknowledged e
    unfolding known_acknowledged
    known_base b = rw (p, b)

    module _ (b : eqs e.state.wallet_acknowledged_variant.hash (variant_fingerprint e.intent.base_bundle) ≡ false) where
      pub known_fee : e.state.current_variant.fee_bearing ≡ true
          → eqs e.state.wallet_acknowledged_variant.hash (variant_fingerprint e.state.current_variant.bundle) ≡ known_acknowledged e
      unfolding known_acknowledged current_fingerprint current_bundle
      known_fee f = rw (p, b, f)

      pub known_plain : e.state.current_variant.fee_bearing ≡ false → false ≡ known_acknowledged e
      unfolding known_acknowledged current_fingerprint current_bundle
      known_plain f = rw (f, p, b)
