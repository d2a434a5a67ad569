-- What a call that writes into a lent buffer answers: a law for each way that its rules end.
use Rattle.std.specs.Prelude.{◌≡◌, refl, Bool, true, false, cond, List, [], ◌++◌, ℕ, ◌+◌, ◌≤◌, ◌<◌, length, take, drop}
use Rattle.std.proofs.Common.{sym, ◌∙◌, subst, arith, length-append, take_at, le-leb}
use Rattle.std.proofs.Math.Path.{ap}
use Rattle.std.proofs.lemmas.Bool.{lt-leb}
use Rattle.codec_forms.specs.Wire.{be, enc_many, overlay}
use Rattle.codec_forms.specs.Number.{be_length}
use Rattle.codec_forms.specs.Puts.{Puts, Room, room_next, puts_join, puts_overlay}
use Rattle.book.specs.Model.{Book, view}
use Rattle.book.specs.Sound.{soundb}
use Rattle.book.specs.SoundLaws.{back_view}
use Rattle.book.specs.declared.BookData.{BookData}
use Rattle.rules.specs.CoinLists.{encode_coin}
use Rattle.rules.specs.Rule.{Rule, done, undo, look, Outcome, ended, undone, run}
use Rattle.rules.specs.Steps.{run_book}
use Rattle.rules.specs.Calls.Common.{writing}
use Rattle.std.specs.Prelude.{Ok}
use Rattle.part_replies.specs.declared.Reply.{Reply}
use Rattle.part_replies.specs.Reply.{written_reply, buffer_left}
use Rattle.part_coin_lists.specs.Writing.{PutCoins}
use Rattle.book.specs.declared.refusal.Refusal.{Refusal}
use Rattle.book.specs.declared.refusal.Refusal.TheVariants as refusals

-- the reply r and the buffer d', that was d, are those of the outcome o
abbrev pub Answers : BookData → List ℕ → List ℕ → Reply ℕ BookData → Outcome Book (List ℕ) → Type 0
Answers b d d' r o = (r ≡ written_reply b o) × (d' ≡ buffer_left d o)

pub answers_as : (b : BookData) (d : List ℕ) {d' : List ℕ} {r : Reply ℕ BookData} {o o' : Outcome Book (List ℕ)} → o ≡ o' → Answers b d d' r o → Answers b d d' r o'
answers_as b d {d'} {r} e h = subst (λ (o : Outcome Book (List ℕ)). Answers b d d' r o) e h

pub refused_is : (b : BookData) (d : List ℕ) (n : Refusal) {r : Reply ℕ BookData} {o : Outcome Book (List ℕ)} → o ≡ undone n → r ≡ written_reply b (undone n) → Answers b d d r o
unfolding overlay
refused_is b d n e h = answers_as b d (sym e) (h, refl)

pub written_is : (b : BookData) → soundb b ≡ true → (s : List ℕ) {d d' : List ℕ} {n : ℕ} → Puts s 0 d d' n → Answers b d d' (record { answer = Ok n; book = b }) (ended (view b) [] s)
written_is b h s {d} {d'} {n} p =
    let o = puts_overlay p in
    ((λ j. record { answer = Ok (o.0 j); book = sym (back_view b h) j }), o.1)

-- writing: whole, or 12
pub writes : (room : ℕ) (s : List ℕ) (m : Book) → length s ≤ room → run_book (writing room s) m ≡ ended m [] s
unfolding run writing
writes room s m h = ap (λ (t : Bool). run_book (cond t (done s) (undo refusals.ShortBuffer)) m) (le-leb (length s) room h)

pub too_short : (room : ℕ) (s : List ℕ) (m : Book) → room < length s → run_book (writing room s) m ≡ undone refusals.ShortBuffer
unfolding run writing
too_short room s m h = ap (λ (t : Bool). run_book (cond t (done s) (undo refusals.ShortBuffer)) m) (lt-leb (length s) room h)

-- rules behind a test of what is handed in
module _ (k : Book → Rule (List ℕ)) (m : Book) where
  pub let_in : {t : Bool} → t ≡ true → run_book (cond t (look k) (undo refusals.BadList)) m ≡ run_book (k m) m
  unfolding run
  let_in e = ap (λ (t : Bool). run_book (cond t (look k) (undo refusals.BadList)) m) e

  pub turned_away_lem : {t : Bool} → t ≡ false → run_book (cond t (look k) (undo refusals.BadList)) m ≡ undone refusals.BadList
  unfolding run
  turned_away_lem e = ap (λ (t : Bool). run_book (cond t (look k) (undo refusals.BadList)) m) e

-- ---- a coin list of its count and its coins
module _ (count : ℕ) (coins d : List ℕ) (m : Book) where
  list_length : length (be 2 count ++ coins) ≡ length coins + 2
  list_length = length-append (be 2 count) coins ∙ omega (arith, be_length 2 count)

  pub list_short : length d < length coins + 2 → run_book (writing (length d) (be 2 count ++ coins)) m ≡ undone refusals.ShortBuffer
  list_short h = too_short (length d) (be 2 count ++ coins) m (omega (arith, list_length))

  module _ (h : length coins + 2 ≤ length d) where
    list_room : Room (be 2 count ++ coins) 0 d
    list_room = record { fits = omega (arith, list_length) }

    pub coins_room : {d₁ : List ℕ} {e : ℕ} → Puts (be 2 count) 0 d d₁ e → Room coins e d₁
    coins_room p = room_next list_room p

    pub list_written : (b : BookData) {d₁ d₂ : List ℕ} {e n : ℕ} → m ≡ view b → soundb b ≡ true → Puts (be 2 count) 0 d d₁ e → Puts coins e d₁ d₂ n
        → Answers b d d₂ (record { answer = Ok n; book = b }) (run_book (writing (length d) (be 2 count ++ coins)) m)
    list_written b v s p q =
        let all = be 2 count ++ coins in
        answers_as b d (sym (writes (length d) all m (omega (arith, list_length)) ∙ ap (λ (x : Book). ended x [] all) v)) (written_is b s all (puts_join list_room p q))

-- ---- the coins written at the start of a buffer, read from it
pub front : {cs : List (List ℕ)} {d d' : List ℕ} {n : ℕ} → PutCoins cs 0 d d' n → take n d' ≡ enc_many encode_coin cs
unfolding overlay
front {cs} {d} {d'} {n} p =
    let o = puts_overlay p.puts in
    ap (take n) o.1 ∙ take_at (enc_many encode_coin cs) (drop (length (enc_many encode_coin cs)) d) n (sym o.0)
