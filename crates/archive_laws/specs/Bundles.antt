-- Outputs, runs, spends and bundles: the parser accepts exactly the bytes of sound ones.
use Rattle.std.specs.Prelude.{◌≡◌, refl, Bool, true, false, not, ◌||◌, List, [], ◌∷◌, ◌++◌, ℕ, ◌≤◌, leb, length, take}
use Rattle.std.proofs.Common.{sym, ap, ◌∙◌, append-nil, append_assoc, arith, le-leb, eqb-true, eq-eqb}
use Rattle.std.proofs.lemmas.Bool.{false≢true}
use Rattle.base_lists.specs.Lists.{cells, tail_of, is_zero}
use Rattle.std.specs.List.{list_all}
use Rattle.base_lists.specs.Laws.{take_cells, tail_cells}
use Rattle.codec_forms.specs.Wire.{be, enc_many, enc_list, enc_opt, run, counted, list_of}
use Rattle.codec_forms.specs.Lawful.{Lawful, step, finish, recode, regood}
use Rattle.codec_forms.specs.Items.{mark}
use Rattle.codec_forms.proofs.Items.{number_lawful, counted_lawful, list_from_lawful, optional_by_lawful}
use Rattle.archive_bundle_form.specs.Forms.{encode_output, encode_run, encode_spend, encode_bundle}
use Rattle.book.specs.Zero.{zero_output, zero_spend, zero_bundle, is_zero_output, is_zero_spend}
use Rattle.book.specs.Sound.{sound_spend, sound_bundle, spends_of, outputs_of}
use Rattle.book.specs.Typed.{Every, U8, Bytes, TypedOutput, TypedSpend, TypedBundle}
use Rattle.book.specs.declared.Output.{Output}
use Rattle.book.specs.declared.CoinSpend.{CoinSpend}
use Rattle.book.specs.declared.SpendBundle.{SpendBundle}
use Rattle.archive_form.specs.Parse.{parse_output, Run, unreadable, parse_run, parse_spend, parse_bundle}
use Rattle.book.specs.ZeroLaws.{output_zero_is, spend_zero_is}
use Rattle.book.specs.SoundLaws.{SoundSpend, sound_spend_lem, SoundBundle, sound_bundle_lem}
use Rattle.archive_laws.specs.Cells.{all_true, every_take, every_replicate, array_cells, every_from, from_every, every_test, test_every, every_map, every_both, bytes_lawful}

pub output_lawful : Lawful TypedOutput encode_output parse_output
unfolding encode_output parse_output
output_lawful =
    recode encode_output (λ o x. ap (λ (t : List ℕ). o.puzzle_hash ++ t) (append-nil (be 8 o.amount)))
    (step (λ (o : Output). o.puzzle_hash) (bytes_lawful 32) (λ o x. x.hash) (λ h gh.
    step (λ (o : Output). o.amount) (number_lawful 8) (λ o x. x.0.amount) (λ n gn.
    finish (record { puzzle_hash = h; amount = n }) ((record { hash = gh; amount = gn }, refl), refl) (λ o x i. record { puzzle_hash = x.0.1 i; amount = x.1 i }))))

-- ---- the run of a spend
pub record GoodRun (r : Run) : Type 0 where
  pub typed : Every TypedOutput r.outputs
  pub few : length r.outputs ≤ 4
  pub none : r.readable ≡ false → r.outputs ≡ []

outputs_lawful : Lawful (λ l. Every TypedOutput l × (length l ≤ 4)) (enc_list encode_output) (list_of 4 parse_output)
outputs_lawful =
    regood (λ l x. (from_every TypedOutput [] l x.0, x.1)) (λ l x. (every_from TypedOutput [] l x.0, x.1))
    (list_from_lawful 4 zero_output (λ b o. TypedOutput o) (omega arith) (λ before. output_lawful))

pub run_bytes : (b : Bool) (os : List Output) → enc_opt b (enc_list encode_output os) ≡ encode_run b os
unfolding enc_opt enc_list encode_run
run_bytes false os = refl
run_bytes true os = sym (append_assoc (be 1 1) (be 1 (length os)) (enc_many encode_output os))

pub mark_rule : (base b : Bool) → (not base || leb 1 (mark b)) ≡ (not base || b)
unfolding mark
mark_rule base false = refl
mark_rule base true = refl

run_lawful : (base : Bool) → Lawful (λ (r : Run). GoodRun r × ((not base || r.readable) ≡ true)) (λ (r : Run). encode_run r.readable r.outputs) (parse_run base)
unfolding parse_run
run_lawful base =
    recode (λ (r : Run). encode_run r.readable r.outputs) (λ r x. run_bytes r.readable r.outputs)
    (regood (λ r x. (x.0, mark_rule base r.readable ∙ x.1)) (λ r x. (x.0, sym (mark_rule base r.readable) ∙ x.1))
    (optional_by_lawful (λ (r : Run). r.readable) GoodRun unreadable
    (recode (λ (r : Run). enc_list encode_output r.outputs) (λ r x. append-nil (enc_list encode_output r.outputs))
    (step (λ (r : Run). r.outputs) outputs_lawful (λ r x. (x.0.typed, x.0.few)) (λ l gl.
    finish (record { readable = true; outputs = l }) ((record { typed = gl.0; few = gl.1; none = λ e. absurd (false≢true (sym e)) }, refl), refl) (λ r x i. record { readable = x.0.1 i; outputs = x.1 i }))))
    (record { typed = tt; few = omega arith; none = λ e. refl }, refl)
    (λ r g e. let n = g.none e in λ i. record { readable = e i; outputs = n i })
    (λ k. not base || leb 1 k)))

-- ---- a spend; in a base bundle it is readable
pub record GoodSpend (base : Bool) (s : CoinSpend) : Type 0 where
  pub typed : TypedSpend s
  pub sound : sound_spend s ≡ true
  pub readable : (not base || s.readable) ≡ true

facts_spend : (s : CoinSpend) → s.coin_len ≤ 73 → tail_of 73 is_zero s.coin_len s.coin ≡ true → s.output_count ≤ 4 → tail_of 4 is_zero_output s.output_count s.outputs ≡ true → (s.readable || is_zero s.output_count) ≡ true → sound_spend s ≡ true
unfolding sound_spend
facts_spend s a b c d e =
    all_true (leb s.coin_len 73) (tail_of 73 is_zero s.coin_len s.coin ∷ leb s.output_count 4 ∷ tail_of 4 is_zero_output s.output_count s.outputs ∷ (s.readable || is_zero s.output_count) ∷ [])
    (le-leb _ _ a) (b, (le-leb _ _ c, (d, (e, tt))))

no_outputs : (b : Bool) (n : ℕ) (l : List Output) → (b || is_zero n) ≡ true → b ≡ false → take n l ≡ []
no_outputs true n l h e = absurd (false≢true (sym e))
no_outputs false n l h e = ap (λ (k : ℕ). take k l) (eqb-true n 0 h)

none_of : (b : Bool) (os : List Output) → (b ≡ false → os ≡ []) → (b || is_zero (length os)) ≡ true
none_of true os h = refl
none_of false os h = eq-eqb (length os) 0 (ap length (h refl))

abbrev pub run_of : CoinSpend → Run
run_of s = record { readable = s.readable; outputs = outputs_of s }

pub run_good : (s : CoinSpend) → TypedSpend s → SoundSpend s → GoodRun (run_of s)
run_good s t f = record {
  typed = every_take TypedOutput s.output_count s.outputs t.outputs.each;
  few = omega (arith, f.outputs.used, f.outputs.count);
  none = no_outputs s.readable s.output_count s.outputs f.run;
}

zero_typed : TypedOutput zero_output
unfolding zero_output
zero_typed = record { hash = record { long = refl; each = every_replicate U8 32 0 (omega arith) }; amount = omega arith }

spend_of : List ℕ → List ℕ → Run → CoinSpend
spend_of c d r = record { coin_len = length c; coin = cells 73 0 c; digest = d; readable = r.readable; output_count = length r.outputs; outputs = cells 4 zero_output r.outputs }

spend_of_good : (base : Bool) (c d : List ℕ) (r : Run) → Every U8 c → length c ≤ 73 → Bytes 32 d → GoodRun r → (not base || r.readable) ≡ true → GoodSpend base (spend_of c d r)
unfolding spend_of
spend_of_good base c d r gc few gd gr ready =
    let w = gr.few in
    record {
      typed = record {
        coin_len = omega arith;
        coin = array_cells U8 73 0 c few gc (omega arith);
        digest = gd;
        output_count = omega arith;
        outputs = array_cells TypedOutput 4 zero_output r.outputs w gr.typed zero_typed;
      };
      sound = facts_spend (spend_of c d r) few (tail_cells 73 is_zero 0 c refl few) w (tail_cells 4 is_zero_output zero_output r.outputs output_zero_is w) (none_of r.readable r.outputs gr.none);
      readable = ready;
    }

-- a sound spend is made of its coin, digest and run
spend_is : (s : CoinSpend) → SoundSpend s → s ≡ spend_of (take s.coin_len s.coin) s.digest (run_of s)
unfolding spend_of
spend_is s f =
    λ i. record {
      coin_len = sym f.coin.used i;
      coin = sym f.coin.held i;
      digest = s.digest;
      readable = s.readable;
      output_count = sym f.outputs.used i;
      outputs = sym f.outputs.held i;
    }

abbrev pub coin_of : CoinSpend → List ℕ
coin_of s = take s.coin_len s.coin

pub coin_lawful : Lawful (λ l. Every U8 l × (length l ≤ 73)) (λ l. be 1 (length l) ++ l) (counted 73 run)
coin_lawful =
    counted_lawful 73 length (Every U8) (omega arith)
    (λ k. regood (λ l x. record { long = x.1; each = x.0 }) (λ l x. (x.each, x.long)) (bytes_lawful k))

spend_bytes : (s : CoinSpend) → SoundSpend s → (be 1 (length (coin_of s)) ++ coin_of s) ++ (s.digest ++ (encode_run s.readable (outputs_of s) ++ [])) ≡ encode_spend s
unfolding encode_spend
spend_bytes s f =
    let a = f.coin.used in
    ap (λ (t : List ℕ). (be 1 (length (coin_of s)) ++ coin_of s) ++ (s.digest ++ t)) (append-nil (encode_run s.readable (outputs_of s)))
    ∙ ap (λ (k : ℕ). (be 1 k ++ coin_of s) ++ (s.digest ++ encode_run s.readable (outputs_of s))) a
    ∙ sym (append_assoc (be 1 s.coin_len ++ coin_of s) s.digest (encode_run s.readable (outputs_of s)))

pub coin_good : (base : Bool) (s : CoinSpend) → GoodSpend base s → Every U8 (coin_of s) × (length (coin_of s) ≤ 73)
coin_good base s x =
    let f = sound_spend_lem s x.sound in
    (every_take U8 s.coin_len s.coin x.typed.coin.each, omega (arith, f.coin.used, f.coin.count))

pub spend_lawful : (base : Bool) → Lawful (GoodSpend base) encode_spend (parse_spend base)
unfolding parse_spend spend_of
spend_lawful base =
    recode encode_spend (λ s x. spend_bytes s (sound_spend_lem s x.sound))
    (step coin_of coin_lawful (coin_good base) (λ c gc.
    step (λ (s : CoinSpend). s.digest) (bytes_lawful 32) (λ s x. x.0.typed.digest) (λ d gd.
    step run_of (run_lawful base) (λ s x. (run_good s x.0.0.typed (sound_spend_lem s x.0.0.sound), x.0.0.readable)) (λ r gr.
    finish (spend_of c d r) (((spend_of_good base c d r gc.0 gc.1 gd gr.0 gr.1, take_cells 73 0 c), refl), run_of_lem c d r)
    (λ s x. spend_is s (sound_spend_lem s x.0.0.0.sound) ∙ λ i. spend_of (x.0.0.1 i) (x.0.1 i) (x.1 i))))))
  where
    run_of_lem : (c d : List ℕ) (r : Run) → run_of (spend_of c d r) ≡ r
    run_of_lem c d r = λ i. record { readable = r.readable; outputs = take_cells 4 zero_output r.outputs i }

-- ---- a bundle
pub record GoodBundle (base : Bool) (b : SpendBundle) : Type 0 where
  pub typed : TypedBundle b
  pub sound : sound_bundle b ≡ true
  pub readable : list_all (λ s. not base || s.readable) (spends_of b) ≡ true

facts_bundle : (b : SpendBundle) → b.count ≤ 4 → tail_of 4 is_zero_spend b.count b.spends ≡ true → list_all sound_spend (spends_of b) ≡ true → sound_bundle b ≡ true
unfolding sound_bundle
facts_bundle b a r e = all_true (leb b.count 4) (tail_of 4 is_zero_spend b.count b.spends ∷ list_all sound_spend (spends_of b) ∷ []) (le-leb _ _ a) (r, (e, tt))

spends_good : (base : Bool) (l : List CoinSpend) → Every TypedSpend l → list_all sound_spend l ≡ true → list_all (λ s. not base || s.readable) l ≡ true → Every (GoodSpend base) l
spends_good base l t h k =
    every_map (λ s x. record { typed = x.0; sound = x.1.0; readable = x.1.1 }) l
    (every_both TypedSpend (λ s. (sound_spend s ≡ true) × ((not base || s.readable) ≡ true)) l t
    (every_both (λ s. sound_spend s ≡ true) (λ s. (not base || s.readable) ≡ true) l (every_test sound_spend l h) (every_test (λ s. not base || s.readable) l k)))

pub bundle_good : (base : Bool) (b : SpendBundle) → GoodBundle base b → Every (GoodSpend base) (spends_of b) × (length (spends_of b) ≤ 4)
bundle_good base b g =
    let f = sound_bundle_lem b g.sound in
    (spends_good base (spends_of b) (every_take TypedSpend b.count b.spends g.typed.spends.each) f.each g.readable, omega (arith, f.spends.used, f.spends.count))

pub zero_spend_typed : TypedSpend zero_spend
unfolding zero_spend
zero_spend_typed = record {
  coin_len = omega arith;
  coin = record { long = refl; each = every_replicate U8 73 0 (omega arith) };
  digest = record { long = refl; each = every_replicate U8 32 0 (omega arith) };
  output_count = omega arith;
  outputs = record { long = refl; each = every_replicate TypedOutput 4 zero_output zero_typed };
}

pub zero_bundle_typed : TypedBundle zero_bundle
unfolding zero_bundle
zero_bundle_typed = record { count = omega arith; spends = record { long = refl; each = every_replicate TypedSpend 4 zero_spend zero_spend_typed } }

bundle_of_lem : List CoinSpend → SpendBundle
bundle_of_lem l = record { count = length l; spends = cells 4 zero_spend l }

spends_of_lem : (l : List CoinSpend) → spends_of (bundle_of_lem l) ≡ l
unfolding bundle_of_lem
spends_of_lem l = take_cells 4 zero_spend l

bundle_of_good : (base : Bool) (l : List CoinSpend) → Every (GoodSpend base) l → length l ≤ 4 → GoodBundle base (bundle_of_lem l)
unfolding bundle_of_lem
bundle_of_good base l g few =
    let e = spends_of_lem l in
    record {
      typed = record { count = omega arith; spends = array_cells TypedSpend 4 zero_spend l few (every_map (λ s x. x.typed) l g) zero_spend_typed };
      sound = facts_bundle (bundle_of_lem l) few (tail_cells 4 is_zero_spend zero_spend l spend_zero_is few) (ap (list_all sound_spend) e ∙ test_every sound_spend l (every_map (λ s x. x.sound) l g));
      readable = ap (list_all (λ s. not base || s.readable)) e ∙ test_every (λ s. not base || s.readable) l (every_map (λ s x. x.readable) l g);
    }

bundle_is : (b : SpendBundle) → SoundBundle b → b ≡ bundle_of_lem (spends_of b)
unfolding bundle_of_lem
bundle_is b f = λ i. record { count = sym f.spends.used i; spends = sym f.spends.held i }

bundle_bytes : (b : SpendBundle) → SoundBundle b → enc_list encode_spend (spends_of b) ++ [] ≡ encode_bundle b
unfolding enc_list encode_bundle
bundle_bytes b f =
    append-nil (be 1 (length (spends_of b)) ++ enc_many encode_spend (spends_of b))
    ∙ ap (λ (k : ℕ). be 1 k ++ enc_many encode_spend (spends_of b)) f.spends.used

spends_lawful : (base : Bool) → Lawful (λ l. Every (GoodSpend base) l × (length l ≤ 4)) (enc_list encode_spend) (list_of 4 (parse_spend base))
spends_lawful base =
    regood (λ l x. (from_every (GoodSpend base) [] l x.0, x.1)) (λ l x. (every_from (GoodSpend base) [] l x.0, x.1))
    (list_from_lawful 4 zero_spend (λ b s. GoodSpend base s) (omega arith) (λ before. spend_lawful base))

pub bundle_lawful : (base : Bool) → Lawful (GoodBundle base) encode_bundle (parse_bundle base)
unfolding parse_bundle bundle_of_lem
bundle_lawful base =
    recode encode_bundle (λ b x. bundle_bytes b (sound_bundle_lem b x.sound))
    (step spends_of (spends_lawful base) (λ b x. bundle_good base b x) (λ l gl.
    finish (bundle_of_lem l) (bundle_of_good base l gl.0 gl.1, spends_of_lem l) (λ b x. bundle_is b (sound_bundle_lem b x.0.sound) ∙ ap bundle_of_lem x.1)))
