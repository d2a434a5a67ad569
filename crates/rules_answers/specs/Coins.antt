-- How long the coin lists are that two calls answer: at most 64 input coins, and at most 256 outputs, of at most 73 bytes each.
use Rattle.std.specs.Prelude.{ℕ, zero, suc, ◌+◌, ◌*◌, ◌≤◌, Bool, List, [], ◌∷◌, map, length, take}
use Rattle.std.proofs.Common.{suc-mul, arith, length-take}
use Rattle.std.proofs.Math.ListN.{length-append}
use Rattle.std.proofs.lemmas.List.{length-map}
use Rattle.base_lists.specs.Lists.{elemb}
use Rattle.std.specs.List.{filter, flat_map, fold}
use Rattle.base_lists.specs.Laws.{filter_length}
use Rattle.codec_forms.specs.Wire.{be, enc_many}
use Rattle.codec_forms.specs.Number.{be_length}
use Rattle.base_sha256.specs.Laws.{digest_length}
use Rattle.base_coin_string.specs.Coin.{coin_id_of, parts_most}
use Rattle.base_coin_string.specs.Order.{order_of}
use Rattle.std.specs.declared.cmp.Ordering.{Ordering}
use Rattle.std.specs.declared.cmp.Ordering.TheVariants.{Less, Equal, Greater}
use Rattle.book_coins.specs.Coins.{coin_of, input_coins, output_coin, expected_output_coins}
use Rattle.book.specs.declared.CoinSpend.{CoinSpend}
use Rattle.book.specs.declared.SpendBundle.{SpendBundle}
use Rattle.book.specs.declared.SubmittedTx.{SubmittedTx}
use Rattle.book.specs.Model.{Book}
use Rattle.book.specs.Sound.{spends_of, outputs_of, id_of}
use Rattle.book.specs.Typed.{Every, TypedOutput, TypedSpend, TypedBundle, TypedSubmitted}
use Rattle.archive_laws.specs.Cells.{every_append, every_take}
use Rattle.rules.specs.CoinLists.{insert_by, insert_coin, rising_coins, encode_coin, encode_coins}
use Rattle.rules.specs.Doors.{among}
use Rattle.rules.specs.Calls.AbsentOutputsForIds.{absent_outputs}
use Rattle.rules.specs.Calls.ReconciliationInputCoins.{is_reconciled, input_coins_to_reconcile}
use Rattle.rules_laws.specs.Sound.Run.{SoundBook}
use Rattle.rules_typed.specs.Every.{every_filter}
use Rattle.rules_typed.specs.Typing.{Within}

-- at most n coins of at most 73 bytes
record Coins (n : ℕ) (cs : List (List ℕ)) : Type 0 where
  few : length cs ≤ n
  short : Every (λ c. length c ≤ 73) cs

many_size : (n : ℕ) (cs : List (List ℕ)) → length cs ≤ n → Every (λ c. length c ≤ 73) cs → length (enc_many encode_coin cs) ≤ n * 74
unfolding enc_many
many_size n [] h e = omega arith
many_size zero (c ∷ cs) h e = absurd (omega arith)
many_size (suc n) (c ∷ cs) h e =
    omega (arith, suc-mul n 74, length-append (encode_coin c) (enc_many encode_coin cs), one c e.0, many_size n cs (omega arith) e.1)
  where
    one : (c : List ℕ) → length c ≤ 73 → length (encode_coin c) ≤ 74
    one c h = unfold encode_coin in omega (arith, length-append (be 1 (length c)) c, be_length 1 (length c))

list_size : (n : ℕ) (cs : List (List ℕ)) → Coins n cs → length (encode_coins cs) ≤ 2 + n * 74
unfolding encode_coins
list_size n cs h = omega (arith, length-append (be 2 (length cs)) (enc_many encode_coin cs), be_length 2 (length cs), many_size n cs h.few h.short)

-- the coins of several
flat_coins : {A : Type 0} (k : ℕ) (f : A → List (List ℕ)) (n : ℕ) (xs : List A) → length xs ≤ n → Every (λ x. Coins k (f x)) xs → Coins (n * k) (flat_map f xs)
flat_coins k f n [] h e = record { few = omega arith; short = tt }
flat_coins k f zero (x ∷ xs) h e = absurd (omega arith)
flat_coins k f (suc n) (x ∷ xs) h e =
    let r = flat_coins k f n xs (omega arith) e.1 in
    record {
      few = omega (arith, suc-mul n k, length-append (f x) (flat_map f xs), e.0.few, r.few);
      short = every_append (λ (c : List ℕ). length c ≤ 73) (f x) (flat_map f xs) e.0.short r.short;
    }

filter_coins : (n : ℕ) (p : List ℕ → Bool) (cs : List (List ℕ)) → Coins n cs → Coins n (filter p cs)
filter_coins n p cs h = record { few = omega (arith, filter_length p cs, h.few); short = every_filter (λ (c : List ℕ). length c ≤ 73) p cs h.short }

every_of : {A : Type 0} {P Q : A → Type 0} → ((x : A) → P x → Q x) → (xs : List A) → Every P xs → Every Q xs
every_of f [] h = tt
every_of f (x ∷ xs) h = (f x h.0, every_of f xs h.1)

map_coins : {A : Type 0} (P : A → Type 0) (f : A → List ℕ) → ((x : A) → P x → length (f x) ≤ 73) → (n : ℕ) (xs : List A) → length xs ≤ n → Every P xs → Coins n (map f xs)
map_coins {A} P f k n xs h e = record { few = omega (arith, length-map xs f); short = go xs e }
  where
    go : (xs : List A) → Every P xs → Every (λ c. length c ≤ 73) (map f xs)
    go [] h = tt
    go (x ∷ xs) h = (k x h.0, go xs h.1)

take_few : {A : Type 0} (n k : ℕ) (l : List A) → length l ≤ k → length (take n l) ≤ k
take_few n k l h = omega (arith, length-take n l)

-- ---- rising and without repeats
insert_coins : (n : ℕ) (c : List ℕ) (ds : List (List ℕ)) → length c ≤ 73 → Coins n ds → Coins (suc n) (insert_coin c ds)
insert_coins n c [] h k = record { few = omega arith; short = (h, tt) }
insert_coins zero c (d ∷ ds) h k = absurd (omega (arith, k.few))
insert_coins (suc n) c (d ∷ ds) h k = go (order_of c d) (insert_coins n c ds h (record { few = omega (arith, k.few); short = k.short.1 }))
  where
    go : (o : Ordering) → Coins (suc n) (insert_coin c ds) → Coins (suc (suc n)) (insert_by o c d ds (insert_coin c ds))
    go Less r = record { few = omega (arith, k.few); short = (h, k.short) }
    go Equal r = record { few = omega (arith, k.few); short = k.short }
    go Greater r = record { few = omega (arith, r.few); short = (k.short.0, r.short) }

inserts_coins : (n m : ℕ) (cs acc : List (List ℕ)) → Coins n cs → Coins m acc → Coins (n + m) (fold (λ acc c. insert_coin c acc) acc cs)
inserts_coins n m [] acc h k = record { few = omega (arith, k.few); short = k.short }
inserts_coins zero m (c ∷ cs) acc h k = absurd (omega (arith, h.few))
inserts_coins (suc n) m (c ∷ cs) acc h k =
    let r = inserts_coins n (suc m) cs (insert_coin c acc) (record { few = omega (arith, h.few); short = h.short.1 }) (insert_coins m c acc h.short.0 k) in
    record { few = omega (arith, r.few); short = r.short }

rising_coins_lem : (n : ℕ) (cs : List (List ℕ)) → Coins n cs → Coins n (rising_coins cs)
unfolding rising_coins
rising_coins_lem n cs h =
    let r = inserts_coins n 0 cs [] h (record { few = omega arith; short = tt }) in
    record { few = omega (arith, r.few); short = r.short }

-- ---- of a bundle within the types
input_coins_lem : (b : SpendBundle) → TypedBundle b → Coins 4 (input_coins b)
input_coins_lem b t =
    map_coins TypedSpend coin_of (λ s x. take_few s.coin_len 73 s.coin (omega (arith, x.coin.long))) 4 (spends_of b) (take_few b.count 4 b.spends (omega (arith, t.spends.long)))
    (every_take TypedSpend b.count b.spends t.spends.each)

spend_outputs : (s : CoinSpend) → TypedSpend s → Coins 4 (map (output_coin s) (outputs_of s))
spend_outputs s t =
    map_coins TypedOutput (output_coin s) (λ o x. unfold output_coin in parts_most (coin_id_of (coin_of s)) o.puzzle_hash o.amount (digest_length (coin_of s)) x.hash.long) 4 (outputs_of s)
    (take_few s.output_count 4 s.outputs (omega (arith, t.outputs.long))) (every_take TypedOutput s.output_count s.outputs t.outputs.each)

output_coins : (b : SpendBundle) → TypedBundle b → Coins 16 (expected_output_coins b)
unfolding expected_output_coins
output_coins b t =
    flat_coins 4 (λ s. map (output_coin s) (outputs_of s)) 4 (spends_of b) (take_few b.count 4 b.spends (omega (arith, t.spends.long)))
    (every_of spend_outputs (spends_of b) (every_take TypedSpend b.count b.spends t.spends.each))

-- ---- of a sound book within the types
module _ (m : Book) (s : SoundBook m) (w : Within m) where
  few_of : (p : SubmittedTx → Bool) → length (filter p m.submitted) ≤ 16
  few_of p = omega (arith, filter_length p m.submitted, s.fits.submitted)

  pub inputs_size : (outputs : List (List ℕ)) → length (encode_coins (input_coins_to_reconcile outputs m)) ≤ 4738
  unfolding input_coins_to_reconcile
  inputs_size outputs =
      let ts = filter (λ t. is_reconciled outputs t.entry) m.submitted in
      list_size 64 (rising_coins (flat_map (λ t. input_coins t.entry.intent.base_bundle) ts))
      (rising_coins_lem 64 (flat_map (λ t. input_coins t.entry.intent.base_bundle) ts)
      (flat_coins 4 (λ t. input_coins t.entry.intent.base_bundle) 16 ts (few_of (λ t. is_reconciled outputs t.entry))
      (every_of (λ (t : SubmittedTx) x. input_coins_lem t.entry.intent.base_bundle x.entry.intent.base) ts (every_filter TypedSubmitted (λ t. is_reconciled outputs t.entry) m.submitted w.submitted))))

  pub outputs_size : (is : List ℕ) (absent : List (List ℕ)) → length (encode_coins (flat_map (λ t. absent_outputs absent t.entry.intent) (filter (λ t. elemb (id_of t) is) m.submitted))) ≤ 18946
  unfolding absent_outputs
  outputs_size is absent =
      let ts = filter (λ t. elemb (id_of t) is) m.submitted in
      list_size 256 (flat_map (λ t. absent_outputs absent t.entry.intent) ts)
      (flat_coins 16 (λ t. absent_outputs absent t.entry.intent) 16 ts (few_of (λ t. elemb (id_of t) is))
      (every_of (λ (t : SubmittedTx) x. filter_coins 16 (among absent) (expected_output_coins t.entry.intent.base_bundle) (output_coins t.entry.intent.base_bundle x.entry.intent.base)) ts
      (every_filter TypedSubmitted (λ t. elemb (id_of t) is) m.submitted w.submitted)))
