-- What soundness gives, and what gives it.
use Rattle.std.specs.Prelude.{◌≡◌, refl, Bool, true, ◌||◌, List, [], ◌∷◌, map, ℕ, ◌≤◌, leb, ltb, length, take}
use Rattle.std.proofs.Common.{ap, ◌∙◌, arith, le-leb, leb-true, length-take-le}
use Rattle.base_lists.specs.Lists.{elemb, distinctb, cells, tail_of, is_zero, risingb}
use Rattle.std.specs.List.{list_all, flat_map}
use Rattle.base_lists.specs.Laws.{trues, and_split, and_both, cells_take, tail_length, take_cells, tail_cells}
use Rattle.book.specs.Zero.{zero_output, zero_spend, zero_submitted, zero_delivery, is_zero_output, is_zero_spend, is_zero_submitted, is_zero_delivery}
use Rattle.book.specs.ZeroLaws.{number_zero, output_zero, spend_zero, submitted_zero, delivery_zero, submitted_zero_is, delivery_zero_is}
use Rattle.book.specs.Model.{Book, view, back}
use Rattle.book.specs.Sound.{sound_spend, spends_of, sound_bundle, readable_bundle, sound_fee_intent, sound_hash, sound_slots, sound_variant, sound_retained_intent, sound_state, sound_entry, sound_submitted, sound_delivery, id_of, tokens_of, sound_lists, sound_cells, soundb}
use Rattle.book.specs.declared.CoinSpend.{CoinSpend}
use Rattle.book.specs.declared.SpendBundle.{SpendBundle}
use Rattle.book.specs.declared.RetainedIntent.{RetainedIntent}
use Rattle.book.specs.declared.SubmissionState.{SubmissionState}
use Rattle.book.specs.declared.SubmittedEntry.{SubmittedEntry}
use Rattle.book.specs.declared.SubmittedTx.{SubmittedTx}
use Rattle.book.specs.declared.BookData.{BookData}

-- ---- counted cells in an array: n is within N, and what is behind the first n is z
pub record InCells {A : Type 0} (N : ℕ) (z : A) (n : ℕ) (xs : List A) : Type 0 where
  pub count : n ≤ N
  pub long : length xs ≡ N
  pub held : cells N z (take n xs) ≡ xs
  pub used : length (take n xs) ≡ n

in_cells : {A : Type 0} (N : ℕ) (z : A) (p : A → Bool) → ((x : A) → p x ≡ true → x ≡ z) → (n : ℕ) (xs : List A) → leb n N ≡ true → tail_of N p n xs ≡ true → InCells N z n xs
in_cells N z p only n xs h t =
    let c : n ≤ N = leb-true n N h in
    let l : length xs ≡ N = tail_length N p n xs t in
    record { count = c; long = l; held = cells_take p z only N n xs t c; used = length-take-le n xs (omega arith) }

-- ---- bundles
pub record SoundSpend (s : CoinSpend) : Type 0 where
  pub coin : InCells 73 0 s.coin_len s.coin
  pub outputs : InCells 4 zero_output s.output_count s.outputs
  pub run : (s.readable || is_zero s.output_count) ≡ true

pub sound_spend_lem : (s : CoinSpend) → sound_spend s ≡ true → SoundSpend s
unfolding sound_spend
sound_spend_lem s h =
    let t = trues (leb s.coin_len 73)
    (tail_of 73 is_zero s.coin_len s.coin ∷ leb s.output_count 4
    ∷ tail_of 4 is_zero_output s.output_count s.outputs ∷ (s.readable || is_zero s.output_count) ∷ []) h in
    record {
      coin = in_cells 73 0 is_zero number_zero s.coin_len s.coin t.0 t.1.0;
      outputs = in_cells 4 zero_output is_zero_output output_zero s.output_count s.outputs t.1.1.0 t.1.1.1.0;
      run = t.1.1.1.1.0;
    }

pub record SoundBundle (b : SpendBundle) : Type 0 where
  pub spends : InCells 4 zero_spend b.count b.spends
  pub each : list_all sound_spend (spends_of b) ≡ true

pub sound_bundle_lem : (b : SpendBundle) → sound_bundle b ≡ true → SoundBundle b
unfolding sound_bundle
sound_bundle_lem b h =
    let t = trues (leb b.count 4) (tail_of 4 is_zero_spend b.count b.spends ∷ list_all sound_spend (spends_of b) ∷ []) h in
    record { spends = in_cells 4 zero_spend is_zero_spend spend_zero b.count b.spends t.0 t.1.0; each = t.1.1.0 }

-- ---- submissions
pub record SoundRetainedIntent (p : RetainedIntent) : Type 0 where
  pub base : sound_bundle p.base_bundle ≡ true
  pub readable : readable_bundle p.base_bundle ≡ true
  pub fee_intent : sound_fee_intent p.fee_intent ≡ true

pub sound_retained_intent_lem : (p : RetainedIntent) → sound_retained_intent p ≡ true → SoundRetainedIntent p
unfolding sound_retained_intent
sound_retained_intent_lem p h =
    let t = trues (sound_bundle p.base_bundle) (readable_bundle p.base_bundle ∷ sound_fee_intent p.fee_intent ∷ []) h in
    record { base = t.0; readable = t.1.0; fee_intent = t.1.1.0 }

pub retained_intent_sound : (p : RetainedIntent) → SoundRetainedIntent p → sound_retained_intent p ≡ true
unfolding sound_retained_intent
retained_intent_sound p s = and_both (and_both s.base s.readable) s.fee_intent

pub record SoundState (s : SubmissionState) : Type 0 where
  pub current : sound_variant s.current_variant ≡ true
  pub acknowledged : sound_hash s.wallet_acknowledged_variant ≡ true

pub sound_state_lem : (s : SubmissionState) → sound_state s ≡ true → SoundState s
unfolding sound_state
sound_state_lem s h = let t = and_split (sound_variant s.current_variant) (sound_hash s.wallet_acknowledged_variant) h in record { current = t.0; acknowledged = t.1 }

pub state_sound : (s : SubmissionState) → SoundState s → sound_state s ≡ true
unfolding sound_state
state_sound s h = and_both h.current h.acknowledged

pub record SoundEntry (e : SubmittedEntry) : Type 0 where
  pub intent : SoundRetainedIntent e.intent
  pub state : SoundState e.state

pub sound_entry_lem : (e : SubmittedEntry) → sound_entry e ≡ true → SoundEntry e
unfolding sound_entry
sound_entry_lem e h =
    let t = and_split (sound_retained_intent e.intent) (sound_state e.state) h in
    record { intent = sound_retained_intent_lem e.intent t.0; state = sound_state_lem e.state t.1 }

pub entry_sound : (e : SubmittedEntry) → SoundEntry e → sound_entry e ≡ true
unfolding sound_entry
entry_sound e s = and_both (retained_intent_sound e.intent s.intent) (state_sound e.state s.state)

pub record SoundSubmitted (t : SubmittedTx) : Type 0 where
  pub slots : sound_slots t.slots ≡ true
  pub entry : sound_entry t.entry ≡ true

pub sound_submitted_lem : (t : SubmittedTx) → sound_submitted t ≡ true → SoundSubmitted t
unfolding sound_submitted
sound_submitted_lem t h = let u = and_split (sound_slots t.slots) (sound_entry t.entry) h in record { slots = u.0; entry = u.1 }

pub submitted_sound : (t : SubmittedTx) → SoundSubmitted t → sound_submitted t ≡ true
unfolding sound_submitted
submitted_sound t s = and_both s.slots s.entry

-- ---- the rules over the lists of a book
pub record SoundLists (m : Book) : Type 0 where
  pub submitted : list_all sound_submitted m.submitted ≡ true
  pub ids : distinctb (map id_of m.submitted) ≡ true
  pub tokens : distinctb (flat_map tokens_of m.submitted) ≡ true
  pub below : list_all (λ t. ltb t m.next_token.0) (flat_map tokens_of m.submitted) ≡ true
  pub pending : list_all sound_delivery m.pending ≡ true
  pub retired : distinctb m.retired ≡ true
  pub rising : risingb m.replayed ≡ true
  pub replayed : list_all (λ i. elemb i (map id_of m.submitted)) m.replayed ≡ true

pub sound_lists_lem : (m : Book) → sound_lists m ≡ true → SoundLists m
unfolding sound_lists
sound_lists_lem m h =
    let t = trues (list_all sound_submitted m.submitted)
    (distinctb (map id_of m.submitted) ∷ distinctb (flat_map tokens_of m.submitted)
    ∷ list_all (λ t. ltb t m.next_token.0) (flat_map tokens_of m.submitted) ∷ list_all sound_delivery m.pending ∷ distinctb m.retired
    ∷ risingb m.replayed ∷ list_all (λ i. elemb i (map id_of m.submitted)) m.replayed ∷ []) h in
    record {
      submitted = t.0;
      ids = t.1.0;
      tokens = t.1.1.0;
      below = t.1.1.1.0;
      pending = t.1.1.1.1.0;
      retired = t.1.1.1.1.1.0;
      rising = t.1.1.1.1.1.1.0;
      replayed = t.1.1.1.1.1.1.1.0;
    }

pub lists_sound : (m : Book) → SoundLists m → sound_lists m ≡ true
unfolding sound_lists
lists_sound m s =
    and_both (and_both (and_both (and_both (and_both (and_both (and_both s.submitted s.ids) s.tokens) s.below) s.pending) s.retired) s.rising) s.replayed

-- the lists of a book fit its cells
pub record Fits (m : Book) : Type 0 where
  pub submitted : length m.submitted ≤ 16
  pub pending : length m.pending ≤ 16
  pub retired : length m.retired ≤ 64
  pub replayed : length m.replayed ≤ 16

-- ---- what soundness says of a book
pub record Sound (b : BookData) : Type 0 where
  pub submitted : InCells 16 zero_submitted b.submitted_count b.submitted
  pub pending : InCells 16 zero_delivery b.pending_count b.pending_deliveries
  pub retired : InCells 64 0 b.retired_submission_ids.count b.retired_submission_ids.items
  pub replayed : InCells 16 0 b.replay_epoch.replayed_submission_ids.count b.replay_epoch.replayed_submission_ids.items
  pub lists : SoundLists (view b)

pub sound : (b : BookData) → soundb b ≡ true → Sound b
unfolding soundb sound_cells
sound b h =
    let u = and_split (sound_cells b) (sound_lists (view b)) h in
    let t = trues (leb b.submitted_count 16)
    (tail_of 16 is_zero_submitted b.submitted_count b.submitted
    ∷ leb b.pending_count 16 ∷ tail_of 16 is_zero_delivery b.pending_count b.pending_deliveries
    ∷ leb b.retired_submission_ids.count 64 ∷ tail_of 64 is_zero b.retired_submission_ids.count b.retired_submission_ids.items
    ∷ leb b.replay_epoch.replayed_submission_ids.count 16
    ∷ tail_of 16 is_zero b.replay_epoch.replayed_submission_ids.count b.replay_epoch.replayed_submission_ids.items
    ∷ []) u.0 in
    record {
      submitted = in_cells 16 zero_submitted is_zero_submitted submitted_zero b.submitted_count b.submitted t.0 t.1.0;
      pending = in_cells 16 zero_delivery is_zero_delivery delivery_zero b.pending_count b.pending_deliveries t.1.1.0 t.1.1.1.0;
      retired = in_cells 64 0 is_zero number_zero b.retired_submission_ids.count b.retired_submission_ids.items t.1.1.1.1.0 t.1.1.1.1.1.0;
      replayed = in_cells 16 0 is_zero number_zero b.replay_epoch.replayed_submission_ids.count b.replay_epoch.replayed_submission_ids.items t.1.1.1.1.1.1.0 t.1.1.1.1.1.1.1.0;
      lists = sound_lists_lem (view b) u.1;
    }

-- the lists of a sound book fit
pub fits_view : (b : BookData) → Sound b → Fits (view b)
unfolding view
fits_view b s = record {
  submitted = let e = s.submitted in omega (arith, e.count, e.used);
  pending = let e = s.pending in omega (arith, e.count, e.used);
  retired = let e = s.retired in omega (arith, e.count, e.used);
  replayed = let e = s.replayed in omega (arith, e.count, e.used);
}

-- the lists of a sound book, put back into cells, are the book
pub back_view : (b : BookData) → soundb b ≡ true → back (view b) ≡ b
unfolding back view
back_view b h =
    let s = sound b h in
    λ i. record {
      next_delivery_attempt_token = b.next_delivery_attempt_token;
      next_submission_id = b.next_submission_id;
      submitted_count = s.submitted.used i;
      submitted = s.submitted.held i;
      pending_count = s.pending.used i;
      pending_deliveries = s.pending.held i;
      retired_submission_ids = record { count = s.retired.used i; items = s.retired.held i };
      replay_epoch = record {
        rollback_height = b.replay_epoch.rollback_height;
        replayed_submission_ids = record { count = s.replayed.used i; items = s.replayed.held i };
      };
    }

pub view_back : (m : Book) → view (back m) ≡ m
unfolding back view
view_back m = λ i. record {
  next_token = m.next_token;
  next_id = m.next_id;
  submitted = take_cells 16 zero_submitted m.submitted i;
  pending = take_cells 16 zero_delivery m.pending i;
  retired = take_cells 64 0 m.retired i;
  rollback = m.rollback;
  replayed = take_cells 16 0 m.replayed i;
}

cells_fit : (m : Book) → Fits m → sound_cells (back m) ≡ true
unfolding sound_cells back
cells_fit m f =
    and_both (and_both (and_both (and_both (and_both (and_both (and_both
    (le-leb (length m.submitted) 16 f.submitted)
    (tail_cells 16 is_zero_submitted zero_submitted m.submitted submitted_zero_is f.submitted))
    (le-leb (length m.pending) 16 f.pending))
    (tail_cells 16 is_zero_delivery zero_delivery m.pending delivery_zero_is f.pending))
    (le-leb (length m.retired) 64 f.retired))
    (tail_cells 64 is_zero 0 m.retired refl f.retired))
    (le-leb (length m.replayed) 16 f.replayed))
    (tail_cells 16 is_zero 0 m.replayed refl f.replayed)

-- lists that fit and keep the rules make a sound book
pub sound_back : (m : Book) → Fits m → sound_lists m ≡ true → soundb (back m) ≡ true
unfolding soundb
sound_back m f h = and_both (cells_fit m f) (ap sound_lists (view_back m) ∙ h)

-- ---- the way back for any operation: a book is `back m` if its parts are those of m.
-- `Counted N z n cs xs`: n and the cells cs hold the list xs
pub record Counted {A : Type 0} (N : ℕ) (z : A) (n : ℕ) (cs xs : List A) : Type 0 where
  pub count : n ≡ length xs
  pub held : cs ≡ cells N z xs

-- the parts that are no lists
pub record Plain (b : BookData) (m : Book) : Type 0 where
  pub token : b.next_delivery_attempt_token ≡ m.next_token
  pub id : b.next_submission_id ≡ m.next_id
  pub rollback : b.replay_epoch.rollback_height ≡ m.rollback

pub back_of_lem : (b : BookData) (m : Book) → Plain b m
    → Counted 16 zero_submitted b.submitted_count b.submitted m.submitted
    → Counted 16 zero_delivery b.pending_count b.pending_deliveries m.pending
    → Counted 64 0 b.retired_submission_ids.count b.retired_submission_ids.items m.retired
    → Counted 16 0 b.replay_epoch.replayed_submission_ids.count b.replay_epoch.replayed_submission_ids.items m.replayed
    → b ≡ back m
unfolding back
back_of_lem b m p s q t y = λ i. record {
  next_delivery_attempt_token = p.token i;
  next_submission_id = p.id i;
  submitted_count = s.count i;
  submitted = s.held i;
  pending_count = q.count i;
  pending_deliveries = q.held i;
  retired_submission_ids = record { count = t.count i; items = t.held i };
  replay_epoch = record { rollback_height = p.rollback i; replayed_submission_ids = record { count = y.count i; items = y.held i } };
}
