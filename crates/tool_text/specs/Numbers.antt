-- Numbers and bytes as text.
use Rattle.std.specs.Prelude.{◌≡◌, refl, cond, List, [], ◌∷◌, ◌++◌, ℕ, zero, suc, ◌+◌, ◌-◌, ◌/◌, ◌%◌, ◌^◌, ltb}
use Rattle.codec_forms.specs.Wire.{enc_many}
use Rattle.tool_text.specs.Ascii.{ascii}

-- the character of a digit below 16: 0 to 9, then a to f
abbrev pub digit : ℕ → ℕ
digit d = cond (ltb d 10) (48 + d) (87 + d)

-- n in decimal, without zeros in front, if k digits hold it
unfoldable pub decimal_in : ℕ → ℕ → List ℕ
decimal_in zero n = []
decimal_in (suc k) n = cond (ltb n 10) ((48 + n) ∷ []) (decimal_in k (n / 10) ++ ((48 + n % 10) ∷ []))

-- 20 digits hold every number below 2 ^ 64
unfoldable pub decimal : ℕ → List ℕ
unfolding decimal_in
decimal n = decimal_in 20 n

-- the last k digits of n
unfoldable pub padded : ℕ → ℕ → List ℕ
padded zero n = []
padded (suc k) n = (48 + n / 10 ^ k % 10) ∷ padded k n

-- a byte as two digits
abbrev pub hex_byte : ℕ → List ℕ
hex_byte b = digit (b / 16) ∷ digit (b % 16) ∷ []

unfoldable pub hex : List ℕ → List ℕ
unfolding enc_many
hex l = enc_many hex_byte l

-- each byte behind a space
abbrev pub spaced_byte : ℕ → List ℕ
spaced_byte b = ascii " " ++ hex_byte b

unfoldable pub spaced_hex : List ℕ → List ℕ
unfolding enc_many
spaced_hex l = enc_many spaced_byte l

-- a line of its label and a number, or of its label and bytes
unfoldable pub number_line : List ℕ → ℕ → List ℕ
unfolding decimal
number_line label n = label ++ decimal n ++ ascii "\n"

unfoldable pub hex_line : List ℕ → List ℕ → List ℕ
unfolding hex
hex_line label l = label ++ hex l ++ ascii "\n"

-- ---- examples
decimal_0 : decimal 0 ≡ ascii "0"
unfolding decimal decimal_in
decimal_0 = refl

decimal_258 : decimal 258 ≡ ascii "258"
unfolding decimal decimal_in
decimal_258 = refl

decimal_max : decimal (2 ^ 64 - 1) ≡ ascii "18446744073709551615"
unfolding decimal decimal_in
decimal_max = refl

hex_four : hex (0 ∷ 9 ∷ 0xa0 ∷ 0xff ∷ []) ≡ ascii "0009a0ff"
unfolding hex enc_many
hex_four = refl
