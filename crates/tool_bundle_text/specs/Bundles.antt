-- Outputs, spends and bundles as text.
use Rattle.std.specs.Prelude.{◌≡◌, refl, Bool, cond, List, ◌++◌, ℕ, ◌+◌, take}
use Rattle.tool_text.specs.Ascii.{ascii}
use Rattle.tool_text.specs.Numbers.{decimal, number_line, hex_line}
use Rattle.tool_text.specs.Each.{each_from}
use Rattle.base_coin_string.specs.Coin.{coin_of_parts, coin_id_of}
use Rattle.book_coins.specs.Coins.{coin_of, output_coin}
use Rattle.book.specs.declared.Output.{Output}
use Rattle.book.specs.declared.CoinSpend.{CoinSpend}
use Rattle.book.specs.declared.SpendBundle.{SpendBundle}
use Rattle.book.specs.declared.SubmissionBroadcastVariant.{SubmissionBroadcastVariant}
use Rattle.tool_bundle_text.specs.Coins.{coin_text}

-- an output, whose coin has as its parent the id of the coin that is spent
unfoldable pub output_text : List ℕ → ℕ → Output → List ℕ
unfolding decimal hex_line number_line
output_text parent i o =
    ascii "        output "
    ++ decimal (i + 1)
    ++ hex_line (ascii " puzzle hash: ") o.puzzle_hash
    ++ number_line (ascii "          amount: ") o.amount
    ++ hex_line (ascii "          coin id: ") (coin_id_of (coin_of_parts parent o.puzzle_hash o.amount))

-- that coin is the rules' own
output_coin_lem : (s : CoinSpend) (o : Output) → coin_of_parts (coin_id_of (coin_of s)) o.puzzle_hash o.amount ≡ output_coin s o
unfolding output_coin
output_coin_lem s o = refl

unfoldable pub run_text : List ℕ → Bool → ℕ → List Output → List ℕ
unfolding each_from number_line output_text
run_text parent readable n l =
    cond readable
    (number_line (ascii "      run: readable, outputs: ") n ++ each_from (output_text parent) 0 (take n l))
    (ascii "      run: unreadable\n")

unfoldable pub spend_text : ℕ → CoinSpend → List ℕ
unfolding number_line coin_text hex_line run_text
spend_text i s =
    number_line (ascii "    spend ") (i + 1)
    ++ coin_text (coin_of s)
    ++ hex_line (ascii "      digest of puzzle, solution and signature: ") s.digest
    ++ run_text (coin_id_of (coin_of s)) s.readable s.output_count s.outputs

unfoldable pub bundle_text : List ℕ → SpendBundle → List ℕ
unfolding number_line each_from spend_text
bundle_text label b = number_line label b.count ++ each_from spend_text 0 (take b.count b.spends)

-- the fee bundle with the applied fee; where there is one, it is the current variant
unfoldable pub variant_text : SubmissionBroadcastVariant → List ℕ
unfolding bundle_text number_line
variant_text v =
    cond v.fee_bearing
    (bundle_text (ascii "  fee bundle, spends: ") v.bundle
    ++ number_line (ascii "  applied fee: ") v.applied_fee
    ++ ascii "  the fee bundle above is to be delivered\n")
    (ascii "  fee bundle: none\n")
