-- How long the forms are, part by part.
use Rattle.std.specs.Prelude.{◌≡◌, Bool, true, false, List, [], ◌++◌, ℕ, ◌+◌, min, length, take}
use Rattle.std.proofs.Common.{sym, arith, length-append}
use Rattle.std.proofs.lemmas.Bool.{false≢true}
use Rattle.base_lists.specs.Laws.{count_cut}
use Rattle.codec_forms.specs.Wire.{be, enc_many}
use Rattle.codec_forms.specs.Number.{be_length}
use Rattle.codec_forms.specs.Puts.{Size, size_as}
use Rattle.book.specs.Sound.{spends_of, outputs_of, is_attach}
use Rattle.book.specs.declared.Output.{Output}
use Rattle.book.specs.declared.CoinSpend.{CoinSpend}
use Rattle.book.specs.declared.SpendBundle.{SpendBundle}
use Rattle.book.specs.declared.FeeIntentKind.{FeeIntentKind}
use Rattle.book.specs.declared.FeeIntentKind.TheVariants.{AlreadyPaid, NoFeeConfigured, Attach}
use Rattle.book.specs.declared.SubmissionFeeIntent.{SubmissionFeeIntent}
use Rattle.archive_bundle_form.specs.Forms.{encode_output, encode_run, encode_spend, encode_bundle, encode_fee_intent, kind_number, attached}
use Rattle.archive_bundle_write.specs.Laws.{run_no, run_yes}

pub output_size : (o : Output) → length o.puzzle_hash ≡ 32 → Size (encode_output o) 40 40
unfolding encode_output
output_size o h = record { is = omega (arith, length-append o.puzzle_hash (be 8 o.amount), be_length 8 o.amount); few = omega arith }

pub unreadable_size : (b : Bool) (os : List Output) → b ≡ false → Size (encode_run b os) 162 1
unreadable_size b os h = size_as (run_no b os h) (record { is = sym (be_length 1 0); few = omega arith })

pub readable_size : (b : Bool) (os : List Output) (r : ℕ) → b ≡ true → Size (enc_many encode_output os) 160 r → Size (encode_run b os) 162 (2 + r)
readable_size b os r h s =
    size_as (run_yes b os h) (record {
      is = omega (arith, s.is, length-append (be 1 1 ++ be 1 (length os)) (enc_many encode_output os), length-append (be 1 1) (be 1 (length os)), be_length 1 1, be_length 1 (length os));
      few = omega (arith, s.few);
    })

pub spend_size : (s : CoinSpend) (k r : ℕ) → k ≡ min s.coin_len 73 → length s.coin ≡ 73 → length s.digest ≡ 32 → Size (encode_run s.readable (outputs_of s)) 162 r → Size (encode_spend s) 268 (33 + k + r)
unfolding encode_spend
spend_size s k r e h d z =
    let c = take s.coin_len s.coin in
    record {
      is = omega (arith, z.is, length-append (be 1 s.coin_len ++ c ++ s.digest) (encode_run s.readable (outputs_of s)), length-append (be 1 s.coin_len ++ c) s.digest, length-append (be 1 s.coin_len) c, be_length 1 s.coin_len, count_cut 73 s.coin_len k s.coin h e);
      few = omega (arith, z.few);
    }

pub bundle_size : (b : SpendBundle) (r : ℕ) → Size (enc_many encode_spend (spends_of b)) 1072 r → Size (encode_bundle b) 1073 (1 + r)
unfolding encode_bundle
bundle_size b r z = record { is = omega (arith, z.is, length-append (be 1 b.count) (enc_many encode_spend (spends_of b)), be_length 1 b.count); few = omega (arith, z.few) }

pub attach_size : (f : SubmissionFeeIntent) → is_attach f.kind ≡ true → length f.target ≡ 32 → Size (encode_fee_intent f) 41 41
unfolding encode_fee_intent
attach_size f e h = go f.kind e
  where
    go : (k : FeeIntentKind) → is_attach k ≡ true → Size (be 1 (kind_number k) ++ attached k f) 41 41
    go AlreadyPaid e = absurd (false≢true e)
    go NoFeeConfigured e = absurd (false≢true e)
    go Attach e = record { is = omega (arith, length-append (be 1 2) (f.target ++ be 8 f.amount), length-append f.target (be 8 f.amount), be_length 1 2, be_length 8 f.amount); few = omega arith }

pub plain_size : (f : SubmissionFeeIntent) → is_attach f.kind ≡ false → Size (encode_fee_intent f) 41 1
unfolding encode_fee_intent
plain_size f e = go f.kind e
  where
    go : (k : FeeIntentKind) → is_attach k ≡ false → Size (be 1 (kind_number k) ++ attached k f) 41 1
    go AlreadyPaid e = record { is = omega (arith, length-append (be 1 0) [], be_length 1 0); few = omega arith }
    go NoFeeConfigured e = record { is = omega (arith, length-append (be 1 1) [], be_length 1 1); few = omega arith }
    go Attach e = absurd (false≢true (sym e))
