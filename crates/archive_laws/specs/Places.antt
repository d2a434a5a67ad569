-- Where an archive is refused. Paper 01: "the start of the first item (number, kind, count, byte run) that is cut short or breaks a rule when
-- read in order; bytes left over: the first of them." Besides: the place is inside the bytes, and no bytes that agree with them up to there are refused earlier, so that
-- everything before the place is in order whatever follows it.
use Rattle.std.specs.Prelude.{◌≡◌, refl, Bool, true, false, not, ◌&&◌, ◌||◌, eqb, leb, take}
use Rattle.std.proofs.Math.Path.{sym, ap}
use Rattle.std.proofs.Common.{◌∙◌, zero-add, arith, drop_at, leb-true}
use mathlib.Core.List.{List, ◌∷◌, ◌++◌, map}
use Prim.Native.Nat.{ℕ, zero, suc, ◌≤◌, ◌<◌, zero-le}
use Rattle.std.proofs.Math.ListN.{length, length-append}
use Rattle.base_lists.specs.Lists.{elemb}
use Rattle.std.specs.List.{flat_map}
use Rattle.codec_forms.specs.Wire.{Ans, got, bad, and_then, pick, opt_number, end}
use Rattle.codec_forms.specs.Lawful.{Spans}
use Rattle.codec_forms.specs.Steady.{Steady, steady_bind, steady_done, steady_mapped, end_place, end_first}
use Rattle.codec_forms.proofs.Steady.{steady_run, steady_number, number_item_lem, checked_item, up_to_item, steady_optional, steady_optional_by, steady_counted, steady_list}
use Rattle.codec_forms.specs.Steady.{end_start}
use Rattle.book.specs.Zero.{no_attempt, base_variant, zero_hash}
use Rattle.book.specs.Sound.{id_of, attempt_token, tokens_of, soundb}
use Rattle.book.specs.SoundLaws.{sound, lists_sound}
use Rattle.book.specs.Model.{Book, view}
use Rattle.book.specs.Typed.{Typed}
use Rattle.std.specs.Prelude.{None}
use Rattle.book.specs.declared.SubmittedTx.{SubmittedTx}
use Rattle.book.specs.declared.BookData.{BookData}
use Rattle.archive_form.specs.Encode.{encode_model, encode_book}
use Rattle.archive_laws.specs.Back.{view_typed}
use Rattle.archive_laws.specs.Books.{GoodModel, model_good, model_lawful}
use Rattle.archive_form.specs.Parse.{parse_output, unreadable, parse_run, parse_spend, parse_bundle, parse_height, parse_id, parse_attached, parse_fee_intent, goal_of, trigger_of, chain_of, resolution_of, parse_goal, parse_trigger, parse_chain}
use Rattle.archive_form.specs.Parse.{parse_resolution, parse_hash, fresh_token, parse_slot, parse_slots, parse_variant, parse_facts, parse_submitted, parse_delivery, parse_retired, above, parse_replayed, parse_numbers, parse_model, parse_whole}
use Rattle.archive_form.specs.Parse.{read_archive, broken, archive_read}

output_steady : Steady parse_output
unfolding parse_output
output_steady = steady_bind (steady_run 32) (λ h. steady_bind (steady_number 8) (λ n. steady_done _))

run_steady : (base : Bool) → Steady (parse_run base)
unfolding parse_run
run_steady base = steady_optional_by (λ k. not base || leb 1 k) unreadable (steady_bind (steady_list 4 (λ before. output_steady)) (λ os. steady_done _))

spend_steady : (base : Bool) → Steady (parse_spend base)
unfolding parse_spend
spend_steady base = steady_bind (steady_counted 73 steady_run) (λ c. steady_bind (steady_run 32) (λ d. steady_bind (run_steady base) (λ r. steady_done _)))

bundle_steady : (base : Bool) → Steady (parse_bundle base)
unfolding parse_bundle
bundle_steady base = steady_bind (steady_list 4 (λ before. spend_steady base)) (λ l. steady_done _)

opt_number_steady : {A : Type 0} (of : ℕ → A) → Steady (opt_number of)
opt_number_steady of = steady_optional None (steady_bind (steady_number 8) (λ n. steady_done _))

height_steady : Steady parse_height
unfolding parse_height
height_steady = opt_number_steady _

id_steady : Steady parse_id
unfolding parse_id
id_steady = opt_number_steady _

attached_steady : (k : ℕ) → Steady (parse_attached k)
unfolding parse_attached
attached_steady zero = steady_done _
attached_steady (suc zero) = steady_done _
attached_steady (suc (suc k)) = steady_bind (steady_run 32) (λ t. steady_bind (steady_number 8) (λ n. steady_done _))

fee_intent_steady : Steady parse_fee_intent
unfolding parse_fee_intent
fee_intent_steady = steady_bind (up_to_item 2).steady attached_steady

goal_steady : Steady parse_goal
unfolding parse_goal
goal_steady = steady_mapped goal_of (up_to_item 1).steady

trigger_steady : Steady parse_trigger
unfolding parse_trigger
trigger_steady = steady_mapped trigger_of (up_to_item 3).steady

chain_steady : Steady parse_chain
unfolding parse_chain
chain_steady = steady_mapped chain_of (up_to_item 2).steady

resolution_steady : Steady parse_resolution
unfolding parse_resolution
resolution_steady = steady_mapped resolution_of (up_to_item 2).steady

hash_steady : Steady parse_hash
unfolding parse_hash
hash_steady = steady_optional zero_hash (steady_bind (steady_run 32) (λ h. steady_done _))

slot_steady : (next : ℕ) (held : List ℕ) → Steady (parse_slot next held)
unfolding parse_slot
slot_steady next held =
    steady_optional no_attempt
    (steady_bind (checked_item (fresh_token next held) (number_item_lem 8)).steady (λ t. steady_bind goal_steady (λ g. steady_bind (steady_run 32) (λ d. steady_bind hash_steady (λ f. steady_done _)))))

slots_steady : (next : ℕ) (held : List ℕ) → Steady (parse_slots next held)
unfolding parse_slots
slots_steady next held = steady_bind (slot_steady next held) (λ a. steady_bind (slot_steady next (held ++ attempt_token a)) (λ c. steady_done _))

variant_steady : Steady parse_variant
unfolding parse_variant
variant_steady = steady_optional base_variant (steady_bind (bundle_steady false) (λ b. steady_bind (steady_number 8) (λ n. steady_done _)))

facts_steady : Steady parse_facts
unfolding parse_facts
facts_steady =
    steady_bind (steady_run 32) (λ p. steady_bind (bundle_steady true) (λ b. steady_bind variant_steady (λ v.
    steady_bind resolution_steady (λ r. steady_bind fee_intent_steady (λ f. steady_bind hash_steady (λ a. steady_bind chain_steady (λ c. steady_bind height_steady (λ e. steady_done _))))))))

submitted_steady : (next : ℕ) (before : List SubmittedTx) → Steady (parse_submitted next before)
unfolding parse_submitted
submitted_steady next before =
    steady_bind (checked_item (λ i. not (elemb i (map id_of before))) (number_item_lem 8)).steady (λ i.
    steady_bind (slots_steady next (flat_map tokens_of before)) (λ s. steady_bind facts_steady (λ f. steady_done _)))

delivery_steady : Steady parse_delivery
unfolding parse_delivery
delivery_steady =
    steady_bind id_steady (λ i. steady_bind (bundle_steady false) (λ b. steady_bind height_steady (λ e. steady_bind fee_intent_steady (λ f. steady_bind trigger_steady (λ t. steady_bind goal_steady (λ g. steady_done _))))))

retired_steady : (before : List ℕ) → Steady (parse_retired before)
unfolding parse_retired
retired_steady before = (checked_item (λ x. not (elemb x before)) (number_item_lem 8)).steady

replayed_steady : (retained before : List ℕ) → Steady (parse_replayed retained before)
unfolding parse_replayed
replayed_steady retained before = (checked_item (λ x. above before x && elemb x retained) (number_item_lem 8)).steady

numbers_steady : Steady parse_numbers
unfolding parse_numbers
numbers_steady = steady_bind (checked_item (λ k. eqb k 2) (number_item_lem 1)).steady (λ k. steady_bind (steady_number 8) (λ t. steady_bind (steady_number 8) (λ i. steady_done _)))

pub model_steady : Steady parse_model
unfolding parse_model
model_steady =
    steady_bind numbers_steady (λ n.
    steady_bind (steady_list 16 (submitted_steady n.token)) (λ s.
    steady_bind (steady_list 16 (λ before. delivery_steady)) (λ q.
    steady_bind (steady_list 64 retired_steady) (λ r.
    steady_bind height_steady (λ h.
    steady_bind (steady_list 16 (replayed_steady (map id_of s))) (λ p. steady_done _))))))

broken_bad : (r : Ans Book) (k : ℕ) → archive_read r ≡ broken k → r ≡ bad k
broken_bad (got m e) k h = absurd (let z : ◌≡◌ {A = ℕ} 0 1 = cc in omega arith)
broken_bad (bad e) k h = let q : e ≡ k = cc in ap bad q

-- the place lies within the bytes, or just behind them where they are cut short
pub refusal_place : (s : List ℕ) (k : ℕ) → read_archive s ≡ broken k → k ≤ length s
unfolding read_archive parse_whole
refusal_place s k h = (end_place model_steady end_start s 0 k zero-le (broken_bad (parse_whole s 0) k h)).1

-- bytes that agree up to the place are not refused before it
pub refusal_first : (s t : List ℕ) (k j : ℕ) → read_archive s ≡ broken k → take k t ≡ take k s → read_archive t ≡ broken j → k ≤ j
unfolding read_archive parse_whole
refusal_first s t k j h w h' = end_first model_steady end_start s t 0 k j zero-le (broken_bad (parse_whole s 0) k h) w (broken_bad (parse_whole t 0) j h')

-- ---- the item where it is refused
-- bytes are left behind the place
end_bad : {A : Type 0} (a : A) (s : List ℕ) (at : ℕ) → at < length s → end a s at ≡ bad at
unfolding end
end_bad a s at h = go (leb (length s) at) refl
  where
    go : (x : Bool) → leb (length s) at ≡ x → pick x (got a at) (bad at) ≡ bad at
    go false e = refl
    go true e = absurd (let z = leb-true (length s) at e in omega arith)

module _ (b : BookData) (t : Typed b) (h : soundb b ≡ true) where
  pub good : GoodModel (view b)
  good = model_good (view b) (view_typed b t h) (lists_sound (view b) (sound b h).lists)

  -- bytes left over are refused at the first of them
  pub refused_behind : (y : ℕ) (ys : List ℕ) → read_archive (encode_book b ++ (y ∷ ys)) ≡ broken (length (encode_book b))
  unfolding read_archive parse_whole encode_book
  refused_behind y ys =
      let l = encode_model (view b) in
      let s = l ++ (y ∷ ys) in
      let n = length l in
      let spans : Spans s 0 n l = record { ends = sym (zero-add n); inside = omega (arith, length-append l (y ∷ ys)); holds = ap (λ (t : List ℕ). l ++ t) (sym (drop_at l (y ∷ ys) n refl)) } in
      ap (λ (r : Ans Book). archive_read (and_then r (λ m e. end m s e))) (model_lawful.reads s 0 n (view b) good spans)
      ∙ ap archive_read (end_bad (view b) s n (omega (arith, length-append l (y ∷ ys))))
