-- A coin string taken apart: parent, puzzle hash and amount, if it is made of these.
use Rattle.std.specs.Prelude.{◌≡◌, Bool, true, false, ◌&&◌, cond, List, ◌++◌, ℕ, ◌*◌, ◌+◌, ◌-◌, ◌%◌, ◌^◌, ◌≤◌, ◌<◌, length, take, drop, leb, ltb}
use Rattle.std.specs.List.{fold}
use Rattle.std.proofs.Common.{sym, ap, ◌∙◌, le-leb, leb-true, lt-ltb, arith}
use Rattle.std.proofs.lemmas.Bool.{lt-leb}
use Rattle.base_lists.specs.Bytes.{eqs}
use Rattle.base_lists.specs.Laws.{and_split}
use Rattle.base_coin_string.specs.declared.CoinString.{CoinString}
use Rattle.base_coin_string.specs.Coin.{coin_of_parts, coin_id_of, FromParts, from_parts_bytes}
use Rattle.codec_forms.specs.Wire.{got, bad, pick, run}
use Rattle.codec_bytes.specs.Reading.{run_got}
use Rattle.codec_cursor.specs.Cursor.{far, Reads}
use Rattle.tool_text.specs.Ascii.{ascii}
use Rattle.tool_text.specs.Numbers.{number_line, hex_line}

abbrev pub parent_of : List ℕ → List ℕ
parent_of c = take 32 c

abbrev pub puzzle_of : List ℕ → List ℕ
puzzle_of c = take 32 (drop 32 c)

-- a number and then the bytes of l, the highest first, in the last eight bytes
unfoldable pub amount_from : ℕ → List ℕ → ℕ
amount_from v l = fold (λ (n x : ℕ). n % 2 ^ 56 * 256 + x) v l

-- the number that the bytes behind the first 64 stand for
unfoldable pub amount_of : List ℕ → ℕ
unfolding amount_from
amount_of c = amount_from 0 (drop 64 c)

-- the coin string is the one of its parent, its puzzle hash and its amount
unfoldable pub is_coin : List ℕ → Bool
unfolding amount_of
is_coin c = leb 64 (length c) && eqs c (coin_of_parts (parent_of c) (puzzle_of c) (amount_of c))

unfoldable pub parts_text : List ℕ → List ℕ
unfolding amount_of hex_line number_line
parts_text c =
    hex_line (ascii "      coin parent: ") (parent_of c)
    ++ hex_line (ascii "      coin puzzle hash: ") (puzzle_of c)
    ++ number_line (ascii "      coin amount: ") (amount_of c)

-- a coin by its parts, or by its bytes
unfoldable pub coin_or_bytes : List ℕ → List ℕ
unfolding is_coin parts_text hex_line
coin_or_bytes c =
    cond (is_coin c) (parts_text c) (hex_line (ascii "      coin bytes (not a parent, puzzle hash and amount): ") c)

unfoldable pub coin_text : List ℕ → List ℕ
unfolding coin_or_bytes hex_line
coin_text c = coin_or_bytes c ++ hex_line (ascii "      coin id: ") (coin_id_of c)

-- ---- a coin of parts has 64 bytes and more
pub coin_short : (c : List ℕ) → length c < 64 → false ≡ is_coin c
unfolding is_coin
coin_short c h = sym (ap (λ (b : Bool). b && eqs c (coin_of_parts (parent_of c) (puzzle_of c) (amount_of c))) (lt-leb 64 (length c) h))

pub coin_long : (c : List ℕ) → 64 ≤ length c → eqs c (coin_of_parts (parent_of c) (puzzle_of c) (amount_of c)) ≡ is_coin c
unfolding is_coin
coin_long c h = sym (ap (λ (b : Bool). b && eqs c (coin_of_parts (parent_of c) (puzzle_of c) (amount_of c))) (le-leb 64 (length c) h))

pub coin_room : (c : List ℕ) → is_coin c ≡ true → 64 ≤ length c
unfolding is_coin
coin_room c h = leb-true 64 (length c) (and_split (leb 64 (length c)) (eqs c (coin_of_parts (parent_of c) (puzzle_of c) (amount_of c))) h).0

-- ---- the coin made of what was read is compared with the coin
pub read_is : (s : List ℕ) (at : ℕ) {v : List ℕ} {e : ℕ} → Reads (run 32) s at v e → at < far → at + 32 ≤ length s → v ≡ take 32 (drop at s)
read_is s at {v} {e} r k h = go (ltb e far) (r.is ∙ rw (lt-ltb at far k) (run_got 32 s at h))
  where
    go : (b : Bool) → pick b (got v e) (bad (e - far)) ≡ got (take 32 (drop at s)) (at + 32) → v ≡ take 32 (drop at s)
    go true q = cc
    go false q = absurd (let z : ◌≡◌ {A = ℕ} 0 1 = cc in omega arith)

pub coin_is : (c : List ℕ) {p h : List ℕ} {v : ℕ} {m : CoinString} → FromParts p h v m → 64 ≤ length c → p ≡ parent_of c → h ≡ puzzle_of c → v ≡ amount_of c → eqs c (take m.len m.bytes) ≡ is_coin c
coin_is c {p} {h} {v} {m} f l ep eh ev =
    ap (eqs c)
    (from_parts_bytes f
    ∙ ap (λ (x : List ℕ). coin_of_parts x h v) ep
    ∙ ap (λ (x : List ℕ). coin_of_parts (parent_of c) x v) eh
    ∙ ap (λ (x : ℕ). coin_of_parts (parent_of c) (puzzle_of c) x) ev)
    ∙ coin_long c l
