-- The archive forms of a bundle, an optional expiry and a fee intent, and the two fingerprints. Paper 01, "Archive form": a bundle
-- is a count, then per spend length byte, coin, digest, run; a run is 0 (unreadable), or 1, then output count and outputs; optional
-- parts follow a count 0 or 1; a fee intent is 0 AlreadyPaid, 1 NoFeeConfigured, 2 Attach with target and amount.
use Rattle.std.specs.Prelude.{Bool, true, false, List, [], ◌++◌, ℕ, length, take}
use Rattle.codec_forms.specs.Wire.{be, enc_many, enc_opt_number}
use Rattle.base_sha256.specs.Fips.{sha256_of}
use Rattle.book.specs.Sound.{spends_of, outputs_of}
use Rattle.book.specs.declared.Height.{Height}
use Rattle.std.specs.Prelude.{Option}
use Rattle.book.specs.declared.Output.{Output}
use Rattle.book.specs.declared.CoinSpend.{CoinSpend}
use Rattle.book.specs.declared.SpendBundle.{SpendBundle}
use Rattle.book.specs.declared.FeeIntentKind.{FeeIntentKind}
use Rattle.book.specs.declared.FeeIntentKind.TheVariants.{AlreadyPaid, NoFeeConfigured, Attach}
use Rattle.book.specs.declared.SubmissionFeeIntent.{SubmissionFeeIntent}

unfoldable pub encode_output : Output → List ℕ
unfolding be
encode_output o = o.puzzle_hash ++ be 8 o.amount

unfoldable pub encode_run : Bool → List Output → List ℕ
unfolding be enc_many encode_output
encode_run false os = be 1 0
encode_run true os = be 1 1 ++ be 1 (length os) ++ enc_many encode_output os

unfoldable pub encode_spend : CoinSpend → List ℕ
unfolding be encode_run
encode_spend s = be 1 s.coin_len ++ take s.coin_len s.coin ++ s.digest ++ encode_run s.readable (outputs_of s)

unfoldable pub encode_bundle : SpendBundle → List ℕ
unfolding be enc_many encode_spend
encode_bundle b = be 1 b.count ++ enc_many encode_spend (spends_of b)

unfoldable pub encode_height : Option Height → List ℕ
encode_height = enc_opt_number (λ h. h.0)

abbrev pub kind_number : FeeIntentKind → ℕ
kind_number AlreadyPaid = 0
kind_number NoFeeConfigured = 1
kind_number Attach = 2

abbrev pub attached : FeeIntentKind → SubmissionFeeIntent → List ℕ
attached AlreadyPaid f = []
attached NoFeeConfigured f = []
attached Attach f = f.target ++ be 8 f.amount

unfoldable pub encode_fee_intent : SubmissionFeeIntent → List ℕ
unfolding be
encode_fee_intent f = be 1 (kind_number f.kind) ++ attached f.kind f

-- `submission_variant_fingerprint`
unfoldable pub variant_fingerprint : SpendBundle → List ℕ
unfolding sha256_of encode_bundle
variant_fingerprint b = sha256_of (encode_bundle b)

-- `submission_intent_fingerprint`: bundle, expiry, fee intent
unfoldable pub intent_fingerprint : SpendBundle → Option Height → SubmissionFeeIntent → List ℕ
unfolding sha256_of encode_bundle encode_height encode_fee_intent
intent_fingerprint b e f = sha256_of (encode_bundle b ++ encode_height e ++ encode_fee_intent f)
