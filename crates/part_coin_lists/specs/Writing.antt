-- Coins written into a buffer, each behind its length.
use Rattle.std.specs.Prelude.{◌≡◌, refl, Bool, true, false, List, [], ◌∷◌, ◌++◌, map, ℕ, ◌+◌, ◌*◌, ◌≤◌, ◌<◌, length, take, get_or}
use Rattle.std.proofs.Common.{sym, ap, ◌∙◌, append-nil, arith, add-zero, add-one, length-append, take-suc}
use Rattle.std.proofs.lemmas.List.{map-append}
use Rattle.std.specs.List.{filter}
use Rattle.base_lists.specs.Laws.{filter_keep, filter_skip, filter_done}
use Rattle.base_lists.specs.Bytes.{is_in}
use Rattle.codec_forms.specs.Wire.{be, enc_many}
use Rattle.codec_forms.specs.Number.{be_length}
use Rattle.codec_forms.specs.Puts.{Puts, Room, room_first, room_next, room_as, puts_join, puts_as, puts_long, splice_none}
use Rattle.base_coin_string.specs.declared.CoinString.{CoinString}
use Rattle.base_coin_string.specs.Coin.{coin_bytes}
use Rattle.rules.specs.CoinLists.{encode_coin, encode_coins}
use Rattle.rules.specs.Doors.{among}
use Rattle.part_coin_lists.specs.declared.Placed.{Placed}
use Rattle.part_coin_lists.specs.ListLaws.{many_append}
use Rattle.part_coin_lists.specs.Coins.{Used, used_length, no_coin}

-- one coin from place `at` on, of at most 73 bytes
pub record PutCoin (c : List ℕ) (at : ℕ) (d d' : List ℕ) (r : ℕ) : Type 0 where
  pub puts : Puts (encode_coin c) at d d' r
  pub short : r ≤ at + 74

-- coins one after the other
pub record PutCoins (cs : List (List ℕ)) (at : ℕ) (d d' : List ℕ) (r : ℕ) : Type 0 where
  pub puts : Puts (enc_many encode_coin cs) at d d' r
  pub long : length d' ≡ length d
  pub short : r ≤ at + 74 * length cs

pub record Listed (cs : List (List ℕ)) (at : ℕ) (d d' : List ℕ) (r : Placed) : Type 0 where
  pub put : PutCoins cs at d d' r.at
  pub count : r.count ≡ length cs

-- ---- laws
-- a coin's length, and then its bytes
module _ {c : CoinString} {n at : ℕ} {d : List ℕ} (u : Used c n) (h : at + 74 ≤ length d) where
  whole_room : Room (be 1 n ++ coin_bytes c) at d
  whole_room = record { fits = omega (arith, length-append (be 1 n) (coin_bytes c), be_length 1 n, used_length u, u.most) }

  pub length_room : Room (be 1 n) at d
  length_room = room_first (coin_bytes c) whole_room

  module _ {d₁ : List ℕ} {e : ℕ} (p : Puts (be 1 n) at d d₁ e) where
    pub bytes_room : Room (take n c.bytes) e d₁
    bytes_room = room_as u.is (room_next whole_room p)

    pub put_coin : {d₂ : List ℕ} {r : ℕ} → Puts (take n c.bytes) e d₁ d₂ r → PutCoin (coin_bytes c) at d d₂ r
    unfolding encode_coin
    put_coin q =
        let b = puts_as u.is q in
        record {
          puts = puts_as (ap (λ (k : ℕ). be 1 k ++ coin_bytes c) (sym (used_length u))) (puts_join whole_room p b);
          short = omega (arith, b.next, p.next, be_length 1 n, used_length u, u.most);
        }

-- the two tests for one of a list are the same
pub among_is : (ys : List (List ℕ)) (x : List ℕ) → is_in ys x ≡ among ys x
unfolding among
among_is [] x = refl
among_is (y ∷ ys) x = rw (among_is ys x) refl

pub put_none : (at : ℕ) (d : List ℕ) → PutCoins [] at d d at
unfolding enc_many
put_none at d = record { puts = record { next = sym (add-zero at); holds = sym (splice_none at d) }; long = refl; short = omega arith }

-- some, and others behind them
pub put_join : {xs ys : List (List ℕ)} {at e r : ℕ} {d d₁ d₂ : List ℕ} → PutCoins xs at d d₁ e → PutCoins ys e d₁ d₂ r → r ≤ length d → PutCoins (xs ++ ys) at d d₂ r
put_join {xs} {ys} {at} {e} {r} {d} p q h =
    let room : Room (enc_many encode_coin xs ++ enc_many encode_coin ys) at d =
    record { fits = omega (arith, length-append (enc_many encode_coin xs) (enc_many encode_coin ys), p.puts.next, q.puts.next) } in
    record {
      puts = puts_as (sym (many_append encode_coin xs ys)) (puts_join room p.puts q.puts);
      long = q.long ∙ p.long;
      short = omega (arith, p.short, q.short, length-append xs ys);
    }

put_one : {c : List ℕ} {at r : ℕ} {d d' : List ℕ} → at + 74 ≤ length d → PutCoin c at d d' r → PutCoins (c ∷ []) at d d' r
unfolding enc_many
put_one {c} {at} {r} {d} h p = record {
  puts = puts_as (sym (append-nil (encode_coin c))) p.puts;
  long = puts_long (record { fits = omega (arith, p.puts.next, p.short) }) p.puts;
  short = p.short;
}

pub put_more : {cs : List (List ℕ)} {c : List ℕ} {at e r : ℕ} {d d₁ d₂ : List ℕ} → PutCoins cs at d d₁ e → e + 74 ≤ length d₁ → PutCoin c e d₁ d₂ r → PutCoins (cs ++ (c ∷ [])) at d d₂ r
put_more p h q = put_join p (put_one h q) (omega (arith, p.long, q.short))

-- a loop that writes the first cells
pub put_turn : (cs : List CoinString) (i : ℕ) {at e r : ℕ} {d d₁ d₂ : List ℕ} → i < length cs → PutCoins (map coin_bytes (take i cs)) at d d₁ e → e + 74 ≤ length d₁ → PutCoin (coin_bytes (get_or cs i no_coin)) e d₁ d₂ r → PutCoins (map coin_bytes (take (i + 1) cs)) at d d₂ r
put_turn cs i l p h q =
    let t : map coin_bytes (take i cs) ++ (coin_bytes (get_or cs i no_coin) ∷ []) ≡ map coin_bytes (take (i + 1) cs) =
    sym (map-append coin_bytes (take i cs) (get_or cs i no_coin ∷ [])) ∙ ap (map coin_bytes) (sym (take-suc cs i no_coin l) ∙ ap (λ (k : ℕ). take k cs) (sym (add-one i))) in
    rw (← t) (put_more p h q)

-- a loop that writes the coins that pass: k of them are done, and cs are left of what makes w
pub record Putting (p : List ℕ → Bool) (w : List (List ℕ)) (at : ℕ) (d d' : List ℕ) (e k : ℕ) (cs : List (List ℕ)) : Type 0 where
  pub done : List (List ℕ)
  pub put : PutCoins done at d d' e
  pub count : k ≡ length done
  pub is : done ++ filter p cs ≡ w

pub putting_start : (p : List ℕ → Bool) (cs : List (List ℕ)) (at : ℕ) (d : List ℕ) → Putting p (filter p cs) at d d at 0 cs
putting_start p cs at d = record { done = []; put = put_none at d; count = refl; is = refl }

module _ {p : List ℕ → Bool} {w : List (List ℕ)} {at : ℕ} {d d₁ : List ℕ} {e k : ℕ} {cs : List (List ℕ)} (h : Putting p w at d d₁ e k cs) where
  module _ {c : List ℕ} {cs' : List (List ℕ)} (q : cs ≡ c ∷ cs') where
    pub putting_kept : {d₂ : List ℕ} {r : ℕ} → p c ≡ true → e + 74 ≤ length d₁ → PutCoin c e d₁ d₂ r → Putting p w at d d₂ r (k + 1) cs'
    putting_kept t l m = record {
      done = h.done ++ (c ∷ []);
      put = put_more h.put l m;
      count = omega (arith, h.count, length-append h.done (c ∷ []));
      is = filter_keep p h.done q t h.is;
    }

    pub putting_left : p c ≡ false → Putting p w at d d₁ e k cs'
    putting_left t = record { done = h.done; put = h.put; count = h.count; is = filter_skip p h.done q t h.is }

  pub putting_short : e ≤ at + 74 * k
  putting_short = omega (arith, h.count, h.put.short)

  pub putting_done : cs ≡ [] → Listed w at d d₁ (record { at = e; count = k })
  putting_done q =
      let t : h.done ≡ w = filter_done p h.done q h.is in
      rw (← t) (record { put = h.put; count = h.count })

-- a coin list: its count and its coins
pub encode_coins_lem : (cs : List (List ℕ)) → be 2 (length cs) ++ enc_many encode_coin cs ≡ encode_coins cs
unfolding encode_coins
encode_coins_lem cs = refl
