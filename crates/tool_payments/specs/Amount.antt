-- What a bundle pays out. A sum of amounts need not fit 64 bits: it is two numbers, in decimal one behind the other.
use Rattle.std.specs.Prelude.{cond, List, [], map, ℕ, ◌+◌, ◌*◌, ◌/◌, ◌%◌, ◌^◌}
use Rattle.std.specs.List.{fold, flat_map}
use Rattle.book.specs.Sound.{spends_of, outputs_of}
use Rattle.book.specs.declared.Output.{Output}
use Rattle.book.specs.declared.CoinSpend.{CoinSpend}
use Rattle.book.specs.declared.SpendBundle.{SpendBundle}
use Rattle.tool_payments.specs.declared.Sum.{Sum}

-- the number that a sum stands for
abbrev pub value_of : Sum → ℕ
value_of s = s.high * 10 ^ 18 + s.low

abbrev pub sum_of : ℕ → Sum
sum_of n = record { high = n / 10 ^ 18; low = n % 10 ^ 18 }

-- the remainders keep the code in bounds and change no sum that a book has (AmountLaws: `sum_exact`)
abbrev pub add_sum : Sum → Sum → Sum
add_sum a b = record {
  high = a.high % 2 ^ 32 + b.high % 2 ^ 32 + (a.low % 10 ^ 18 + b.low % 10 ^ 18) / 10 ^ 18;
  low = (a.low % 10 ^ 18 + b.low % 10 ^ 18) % 10 ^ 18;
}

abbrev pub add_amount : Sum → ℕ → Sum
add_amount s n = add_sum s (sum_of n)

abbrev pub add_output : Sum → Output → Sum
add_output s o = add_amount s o.amount

-- the amounts that a spend pays out, if its run can be read
abbrev pub amounts_of : CoinSpend → List ℕ
amounts_of s = cond s.readable (map (λ (o : Output). o.amount) (outputs_of s)) []

unfoldable pub amount_out : SpendBundle → Sum
amount_out b = fold add_amount (sum_of 0) (flat_map amounts_of (spends_of b))
