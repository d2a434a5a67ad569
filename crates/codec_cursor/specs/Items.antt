-- Items of archive forms as the code reads them: bytes, numbers, counts.
use Rattle.std.specs.Prelude.{ℕ, ◌+◌, ◌-◌, ◌≤◌, ◌<◌, ◌≡◌, refl, Bool, true, false, not, List, [], length, get_or, take, drop, replicate, ltb, leb}
use Rattle.std.proofs.Common.{sym, ap, ◌∙◌, arith, length-take, length-drop, take_at, lt-ltb}
use Rattle.base_lists.specs.Lists.{cells}
use Rattle.codec_forms.specs.Wire.{got, bad, Parser, pick, run, number, be_from, up_to, counted, overlay}
use Rattle.codec_bytes.specs.Reading.{run_short, run_got, hash_got, number_short, number_got, up_to_short, up_to_over, up_to_got, overlay_cells}
use Rattle.codec_cursor.specs.Cursor.{far, stands, refused_at, refused_is, Reads, reads_then}

module _ {A : Type 0} (p : Parser A) (s : List ℕ) (c : ℕ) (v : A) where
  refused_by_lem : (b : Bool) → ltb c far ≡ b → p s c ≡ bad c → stands v (refused_at c) ≡ pick b (p s c) (bad (c - far))
  refused_by_lem true q h = refused_is v c q ∙ sym h
  refused_by_lem false q h = rw (q, q)

  pub refuses : p s c ≡ bad c → Reads p s c v (refused_at c)
  refuses h = record { is = refused_by_lem (ltb c far) refl h }

pub gives : {A : Type 0} (p : Parser A) (s : List ℕ) (c : ℕ) {v : A} {e : ℕ} → c ≤ e → e < far → p s c ≡ got v e → Reads p s c v e
gives p s c {v} {e} k l h = record { is = rw (lt-ltb e far l, lt-ltb c far (omega arith)) (sym h) }

-- a count of at most m: in its range also where it is refused
pub record Counts (m : ℕ) (s : List ℕ) (c v e : ℕ) : Type 0 where
  pub reads : Reads (up_to m) s c v e
  pub few : v ≤ m

pub count_short : (m : ℕ) (s : List ℕ) (c : ℕ) {r : Bool} → r ≡ leb (c + 1) (length s) → not r ≡ true → Counts m s c 0 (refused_at c)
count_short m s c e q = record { reads = refuses (up_to m) s c 0 (up_to_short m s c (run_short 1 s c e q)); few = omega arith }

pub count_over : (m : ℕ) (s : List ℕ) (c : ℕ) → c + 1 ≤ length s → m < get_or s c 0 → Counts m s c 0 (refused_at c)
count_over m s c h k = record { reads = refuses (up_to m) s c 0 (up_to_over m s c h k); few = omega arith }

pub count_got : (m : ℕ) (s : List ℕ) (c : ℕ) → c + 1 ≤ length s → length s < far → get_or s c 0 ≤ m → Counts m s c (get_or s c 0) (c + 1)
count_got m s c h l k = record { reads = gives (up_to m) s c (omega arith) (omega arith) (up_to_got m s c h k); few = k }

pub number_refused : (n v : ℕ) (s : List ℕ) (c : ℕ) {r : Bool} → r ≡ leb (c + n) (length s) → not r ≡ true → Reads (number n) s c v (refused_at c)
number_refused n v s c e q = refuses (number n) s c v (number_short n s c (run_short n s c e q))

pub number_reads : (n : ℕ) (s : List ℕ) (c : ℕ) {v : ℕ} → c + n ≤ length s → length s < far → v ≡ be_from 0 (take n (drop c s)) → Reads (number n) s c v (c + n)
number_reads n s c h l q = gives (number n) s c (omega arith) (omega arith) (number_got n s c h ∙ ap (λ (x : ℕ). got x (c + n)) (sym q))

pub run_refused : (n : ℕ) (v s : List ℕ) (c : ℕ) {r : Bool} → r ≡ leb (c + n) (length s) → not r ≡ true → Reads (run n) s c v (refused_at c)
run_refused n v s c e q = refuses (run n) s c v (run_short n s c e q)

pub run_reads : (n : ℕ) (s b : List ℕ) (c : ℕ) → c + n ≤ length s → length s < far → b ≡ overlay (take n (drop c s)) (replicate n 0) → Reads (run n) s c b (c + n)
run_reads n s b c h l q = gives (run n) s c (omega arith) (omega arith) (hash_got n s b c h q)

-- ---- a byte run in its cell of 73: a length byte k, and as many bytes
pub record ReadsCell (s : List ℕ) (c k : ℕ) (b : List ℕ) (e : ℕ) : Type 0 where
  pub read : Reads (counted 73 run) s c (take k b) e
  pub long : length (take k b) ≡ k
  pub same : cells 73 0 (take k b) ≡ b

pub cell_refused : {s : List ℕ} {c k m : ℕ} {r : Bool} → Counts 73 s c k m → r ≡ leb (m + k) (length s) → not r ≡ true → ReadsCell s c 0 (replicate 73 0) (refused_at m)
unfolding counted
cell_refused {s} {c} {k} {m} f e q = record { read = reads_then _ f.reads (run_refused k [] s m e q); long = refl; same = refl }

pub cell_reads : {s : List ℕ} {c k m : ℕ} (b : List ℕ) → Counts 73 s c k m → m + k ≤ length s → length s < far → b ≡ overlay (take k (drop m s)) (replicate 73 0) → ReadsCell s c k b (m + k)
unfolding counted overlay
cell_reads {s} {c} {k} {m} b f h l q =
    let w : length (take k (drop m s)) ≡ k = simp (length-take, length-drop) (omega arith) in
    let t : take k b ≡ take k (drop m s) = ap (take k) q ∙ take_at (take k (drop m s)) (drop (length (take k (drop m s))) (replicate 73 0)) k w in
    record {
      read = reads_then _ f.reads (gives (run k) s m (omega arith) (omega arith) (run_got k s m h ∙ ap (λ (x : List ℕ). got x (m + k)) (sym t)));
      long = ap length t ∙ w;
      same = ap (cells 73 0) t ∙ sym (q ∙ overlay_cells 73 (take k (drop m s)));
    }
