-- The definitions run: the archive of a book just opened, as paper 01 has it, and a book with one retained submission, a queued
-- intent, a retirement and a replay. Each is read back, and some damage is refused at its place.
use Rattle.std.specs.Prelude.{◌≡◌, refl, true, List, [], ◌∷◌, ◌++◌, ℕ, take, set, replicate}
use Rattle.base_lists.specs.Lists.{cells}
use Rattle.book.specs.Zero.{zeros, zero_output, zero_spend, zero_hash, no_attempt, base_variant, zero_fee_intent}
use Rattle.book.specs.Model.{Book, back}
use Rattle.std.specs.Prelude.{None, Some}
use Rattle.std.specs.Prelude.{Some}
use Rattle.book.specs.declared.CoinSpend.{CoinSpend}
use Rattle.book.specs.declared.SpendBundle.{SpendBundle}
use Rattle.book.specs.declared.FeeIntentKind.TheVariants.{Attach}
use Rattle.book.specs.declared.SubmissionDeliveryGoal.TheVariants.{EnsureBroadcast}
use Rattle.book.specs.declared.DeliveryTrigger.TheVariants.{Rollback}
use Rattle.book.specs.declared.SubmissionChainTerminality.TheVariants.{Active}
use Rattle.book.specs.declared.FeeResolution.TheVariants.{Unresolved}
use Rattle.book.specs.declared.SubmittedTx.{SubmittedTx}
use Rattle.book.specs.declared.PendingDelivery.{PendingDelivery}
use Rattle.book.specs.declared.BookData.{BookData}
use Rattle.archive_form.specs.Encode.{encode_model, encode_book}
use Rattle.archive_form.specs.Parse.{read_archive, book, broken}

-- a book just opened with two numbers: everything else is empty
abbrev pub opened_model : ℕ → ℕ → Book
opened_model token id = record { next_token = record { 0 = token }; next_id = record { 0 = id }; submitted = []; pending = []; retired = []; rollback = None; replayed = [] }

unfoldable pub opened : ℕ → ℕ → BookData
unfolding back
opened token id = back (opened_model token id)

-- 02 0000000000000005 0000000000000001 00 00 00 00 00
abbrev pub opened_bytes : List ℕ
opened_bytes = 2 ∷ 0 ∷ 0 ∷ 0 ∷ 0 ∷ 0 ∷ 0 ∷ 0 ∷ 5 ∷ 0 ∷ 0 ∷ 0 ∷ 0 ∷ 0 ∷ 0 ∷ 0 ∷ 1 ∷ 0 ∷ 0 ∷ 0 ∷ 0 ∷ 0 ∷ []

pub opened_bytes_lem : encode_book (opened 5 1) ≡ opened_bytes
unfolding opened encode_book
opened_bytes_lem = refl

pub opened_back : read_archive opened_bytes ≡ book (opened 5 1)
unfolding opened read_archive
opened_back = refl

-- cut short in the second number; a count that is not 2; a byte left over
pub opened_cut : read_archive (take 16 opened_bytes) ≡ broken 9
unfolding read_archive
opened_cut = refl

pub opened_three : read_archive (set opened_bytes 0 3) ≡ broken 0
unfolding read_archive
opened_three = refl

pub opened_more : read_archive (opened_bytes ++ (0 ∷ [])) ≡ broken 22
unfolding read_archive
opened_more = refl

-- ---- a small book
spend : CoinSpend
unfolding zero_output
spend = record {
  coin_len = 2;
  coin = cells 73 0 (170 ∷ 187 ∷ []);
  digest = replicate 32 1;
  readable = true;
  output_count = 1;
  outputs = cells 4 zero_output (record { puzzle_hash = replicate 32 2; amount = 258 } ∷ []);
}

bundle : SpendBundle
unfolding spend zero_spend
bundle = record { count = 1; spends = cells 4 zero_spend (spend ∷ []) }

submission : SubmittedTx
unfolding bundle no_attempt zero_hash base_variant
submission = record {
  slots = record {
    active_attempt = record {
      present = true;
      attempt = record {
        token = record { 0 = 5 };
        goal = EnsureBroadcast;
        drained_variant_fingerprint = replicate 32 3;
        finalized_variant_fingerprint = record { present = true; hash = replicate 32 3 };
      };
    };
    completed_attempt = no_attempt;
  };
  entry = record {
    id = record { 0 = 1 };
    intent = record { intent_fingerprint = replicate 32 4; base_bundle = bundle; fee_intent = record { kind = Attach; target = replicate 32 5; amount = 9 } };
    state = record {
      current_variant = base_variant;
      wallet_acknowledged_variant = zero_hash;
      status = record { fee_resolution = Unresolved; chain_terminality = Active; expiry = Some (record { 0 = 77 }) };
    };
  };
}

delivery : PendingDelivery
unfolding bundle zero_fee_intent
delivery = record {
  intent = record { id = Some (record { 0 = 1 }); bundle = bundle; expiry = None; fee_intent = zero_fee_intent };
  trigger = Rollback;
  goal = EnsureBroadcast;
}

unfoldable pub small_model : Book
unfolding submission delivery
small_model = record {
  next_token = record { 0 = 6 };
  next_id = record { 0 = 2 };
  submitted = submission ∷ [];
  pending = delivery ∷ [];
  retired = 7 ∷ [];
  rollback = Some (record { 0 = 100 });
  replayed = 1 ∷ [];
}

num : ℕ → List ℕ
num n = zeros 7 ++ (n ∷ [])

one_spend : List ℕ
unfolding num
one_spend = 1 ∷ 2 ∷ 170 ∷ 187 ∷ (replicate 32 1 ++ (1 ∷ 1 ∷ (replicate 32 2 ++ (zeros 6 ++ (1 ∷ 2 ∷ [])))))

unfoldable pub small_bytes : List ℕ
unfolding num one_spend
small_bytes =
    (2 ∷ num 6) ++ num 2
    ++ (1 ∷ num 1) ++ (1 ∷ num 5) ++ (0 ∷ replicate 32 3) ++ (1 ∷ replicate 32 3) ++ (0 ∷ replicate 32 4) ++ one_spend ++ (0 ∷ 0 ∷ 2 ∷ replicate 32 5) ++ num 9
    ++ (0 ∷ 0 ∷ 1 ∷ num 77)
    ++ (1 ∷ 1 ∷ num 1) ++ one_spend ++ (0 ∷ 0 ∷ 2 ∷ 0 ∷ [])
    ++ (1 ∷ num 7)
    ++ (1 ∷ num 100)
    ++ (1 ∷ num 1)

pub small_bytes_lem : encode_model small_model ≡ small_bytes
unfolding encode_model small_model small_bytes
small_bytes_lem = refl

pub small_back : read_archive small_bytes ≡ book (back small_model)
unfolding read_archive small_model small_bytes
small_back = refl

-- next token 5: the live token is refused at its place, behind the count 2, the numbers, the count 1, the id and the mark
pub small_token : read_archive (set small_bytes 8 5) ≡ broken 27
unfolding read_archive small_bytes
small_token = refl

-- an unreadable base bundle is refused at the kind of its run
pub small_unreadable : read_archive (set small_bytes 170 0) ≡ broken 170
unfolding read_archive small_bytes
small_unreadable = refl

-- a replayed id that is not retained
pub small_replayed : read_archive (set small_bytes 384 2) ≡ broken 377
unfolding read_archive small_bytes
small_replayed = refl
