-- Calls that only look, and write what they found into a lent buffer: the book stays, and the length is told beside the answer.
use Rattle.std.specs.Prelude.{◌+◌, ℕ, ◌≤◌, ◌≡◌, refl, Bool, true, false, cond, ◌&&◌, length, leb}
use Rattle.std.proofs.Common.{sym, ◌∙◌, arith, leb-true}
use Rattle.std.proofs.Math.Path.{ap}
use mathlib.Core.List.{List, []}
use Rattle.std.specs.Prelude.{Option, None, Some}
use Rattle.codec_forms.specs.Wire.{overlay}
use Rattle.book.specs.Model.{Book, view}
use Rattle.book.specs.declared.BookData.{BookData}
use Rattle.base_lists.specs.Lists.{elemb}
use Rattle.std.specs.List.{filter, flat_map}
use Rattle.base_coin_string.specs.CoinList.{coins_in, coin_listb}
use Rattle.book.specs.Sound.{id_of}
use Rattle.rules.specs.CoinLists.{encode_coins}
use Rattle.rules.specs.Doors.{ids_ok}
use Rattle.rules.specs.Rule.{Rule, done, undo, Outcome, ended, undone, stopped, run, book, ◌>>=◌}
use Rattle.rules.specs.Steps.{run_book}
use Rattle.rules.specs.Calls.Common.{writing}
use Rattle.rules.specs.Calls.ReconciliationInputCoins.{input_coins_to_reconcile, reconciliation_input_coins}
use Rattle.rules.specs.Calls.AbsentOutputsForIds.{absent_outputs, absent_outputs_for_ids}
use Rattle.part_replies.specs.Reply.{written_reply, buffer_left}
use Rattle.c_boundary.specs.Held.{held_in, Holding}
use Rattle.c_boundary.specs.Settle.{Left, Form, written_fits, holding_room, holding_bytes, settled, boundary, boundary_held, boundary_absent, overlay_none, Gives, gives_as}
use Rattle.c_boundary.specs.Forms.{bytes_form}
use Rattle.book.specs.Refusals.{refusal_number}
use denote.Enum.Declared.{tag_of}
use Rattle.book.specs.contracts.refusal.Refusal.{the_type as the_refusals}
use Rattle.part_replies.specs.declared.Reply.{Reply}
use Rattle.std.specs.Prelude.{Ok, Err}
use Rattle.std.specs.Result.{result_ok, result_err}
use Rattle.std.proofs.lemmas.Option.{none-some, same_Some}
use Rattle.book.specs.declared.refusal.Refusal.{Refusal}
use Rattle.book.specs.declared.refusal.Refusal.TheVariants as refusals

-- the length told: that of the answer, and what was there with a refusal
abbrev pub length_by : {A : Type 0} → Form A → ℕ → Outcome Book A → ℕ
length_by form k (ended m xs v) = length (form xs v)
length_by form k (undone n) = k
length_by form k (stopped m xs n) = k

abbrev pub length_of : ℕ → Rule (List ℕ) → Option Book → ℕ
length_of k r None = k
length_of k r (Some m) = length_by bytes_form k (run_book r m)

pub record GivesBytes (l : Left) (count n : ℕ) (d a : List ℕ) (k : ℕ) : Type 0 where
  pub left : Gives l n d a
  pub length : k ≡ count

-- what such a call comes to: the bytes, within the room, or a refusal
pub data Quiet (m : Book) (room : ℕ) : Outcome Book (List ℕ) → Type 0 where
  told : (s : List ℕ) → length s ≤ room → Quiet m room (ended m [] s)
  turned : (n : Refusal) → Quiet m room (undone n)

writing_quiet : (m : Book) (room : ℕ) (s : List ℕ) → Quiet m room (run_book (writing room s) m)
unfolding writing run
writing_quiet m room s = go (leb (length s) room) refl
  where
    go : (t : Bool) → leb (length s) room ≡ t → Quiet m room (run_book (cond t (done s) (undo refusals.ShortBuffer)) m)
    go true e = told s (leb-true (length s) room e)
    go false e = turned refusals.ShortBuffer

pub reconciliation_quiet : (outputs : List ℕ) (room : ℕ) (m : Book) → Quiet m room (run_book (reconciliation_input_coins outputs room) m)
unfolding reconciliation_input_coins run
reconciliation_quiet outputs room m = go (coin_listb outputs)
  where
    go : (t : Bool) → Quiet m room (run_book (cond t (book >>= (λ b. writing room (encode_coins (input_coins_to_reconcile (coins_in outputs) b)))) (undo refusals.BadList)) m)
    go true = writing_quiet m room (encode_coins (input_coins_to_reconcile (coins_in outputs) m))
    go false = turned refusals.BadList

pub absent_quiet : (is absent : List ℕ) (room : ℕ) (m : Book) → Quiet m room (run_book (absent_outputs_for_ids is absent room) m)
unfolding absent_outputs_for_ids run
absent_quiet is absent room m = go (ids_ok is && coin_listb absent)
  where
    found : Book → List ℕ
    found b = encode_coins (flat_map (λ t. absent_outputs (coins_in absent) t.entry.intent) (filter (λ t. elemb (id_of t) is) b.submitted))

    go : (t : Bool) → Quiet m room (run_book (cond t (book >>= (λ b. writing room (found b))) (undo refusals.BadList)) m)
    go true = writing_quiet m room (found m)
    go false = turned refusals.BadList

module _ (d a : List ℕ) (b : BookData) (h : Holding d b) (k : ℕ) (w : Reply ℕ BookData) {a' : List ℕ} where
  quiet_done : {o : Outcome Book (List ℕ)} → Quiet (view b) (length a) o → w ≡ written_reply b o → a' ≡ buffer_left a o → {l : ℕ} → w.answer ≡ Ok l → Gives (settled bytes_form d a o) 0 d a' × (l ≡ length_by bytes_form k o)
  unfolding settled
  quiet_done (told s q) e f {l} g = (
    gives_as (sym (written_fits 0 (view b) s d a (holding_room d b h) q ∙ ap (λ (x : List ℕ). record { number = 0; book = x; answer = overlay s a }) (holding_bytes d b h)))
        (record { number = refl; book = refl; answer = f }),
    same_Some l (length s) (ap result_ok (sym g ∙ ap (λ (x : Reply ℕ BookData). x.answer) e)),
  )
  quiet_done (turned n) e f {l} g = absurd (none-some l (ap result_ok (sym (ap (λ (x : Reply ℕ BookData). x.answer) e) ∙ g)))

  quiet_refused : (n : Refusal) {o : Outcome Book (List ℕ)} → Quiet (view b) (length a) o → w ≡ written_reply b o → a' ≡ buffer_left a o → w.answer ≡ Err n
      → Gives (settled bytes_form d a o) (refusal_number n) d a' × (k ≡ length_by bytes_form k o)
  unfolding settled
  quiet_refused n (told s q) e f g = absurd (none-some n (ap result_err (sym (ap (λ (x : Reply ℕ BookData). x.answer) e) ∙ g)))
  quiet_refused n (turned j) e f g =
      (record { number = ap refusal_number (same_Some n j (ap result_err (sym g ∙ ap (λ (x : Reply ℕ BookData). x.answer) e))); book = refl; answer = f ∙ overlay_none a }, refl)

  module _ (r : Rule (List ℕ)) (q : Quiet (view b) (length a) (run_book r (view b))) (e : w ≡ written_reply b (run_book r (view b))) (f : a' ≡ buffer_left a (run_book r (view b))) where
    pub bytes_done : {l : ℕ} → w.answer ≡ Ok l → GivesBytes (boundary bytes_form r d a) (length_of k r (held_in d)) 0 d a' l
    bytes_done g =
        let x = quiet_done q e f g in
        record { left = gives_as (sym (boundary_held bytes_form d a b h r)) x.0; length = x.1 ∙ sym (ap (length_of k r) h.held) }

    pub bytes_refused : (n : Refusal) → w.answer ≡ Err n → GivesBytes (boundary bytes_form r d a) (length_of k r (held_in d)) (refusal_number n) d a' k
    bytes_refused n g =
        let x = quiet_refused n q e f g in
        record { left = gives_as (sym (boundary_held bytes_form d a b h r)) x.0; length = x.1 ∙ sym (ap (length_of k r) h.held) }

pub bytes_absent : (d a : List ℕ) (k : ℕ) (r : Rule (List ℕ)) → held_in d ≡ None → GivesBytes (boundary bytes_form r d a) (length_of k r (held_in d)) 1 d a k
bytes_absent d a k r e = record {
  left = gives_as (sym (boundary_absent bytes_form r d a e)) (record { number = refl; book = refl; answer = refl });
  length = sym (ap (length_of k r) e);
}

-- the number of a refusal, as `refusal as u8` gives it
pub refusal_cast : (n : Refusal) → tag_of the_refusals n + 1 ≡ refusal_number n
refusal_cast refusals.NoBook = refl
refusal_cast refusals.BadList = refl
refusal_cast refusals.BadValue = refl
refusal_cast refusals.UnknownToken = refl
refusal_cast refusals.AlreadyFinalized = refl
refusal_cast refusals.NotFinalized = refl
refusal_cast refusals.InvalidSubmission = refl
refusal_cast refusals.StaleVariant = refl
refusal_cast refusals.UnrequestedFee = refl
refusal_cast refusals.Full = refl
refusal_cast refusals.NoToken = refl
refusal_cast refusals.ShortBuffer = refl
refusal_cast refusals.NoArchive = refl
