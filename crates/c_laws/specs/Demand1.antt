-- Demand 1 for all 33 functions of the C library, on any input: with 0 the lent memory holds just the new book and the answer, and the old
-- bytes behind them; with any other number its old bytes, but that a drain out of tokens (11) leaves the book as far as it came, and
-- reading what is no archive (13) sets the place. A call that only looks leaves the book's bytes with every number.
use Rattle.book.specs.declared.refusal.Refusal.{Refusal}
use Rattle.book.specs.declared.refusal.Refusal.TheVariants as turned
use Rattle.book.specs.Refusals.{refusal_number}
use Rattle.std.specs.Prelude.{ℕ, ◌≤◌, ◌≡◌, cond, length}
use Rattle.std.proofs.Math.Path.{refl}
use Rattle.std.proofs.Math.Bool.{true}
use mathlib.Core.List.{List, []}
use Rattle.std.specs.Prelude.{Some}
use Rattle.base_sha256.specs.Fips.{sha256_of}
use Rattle.base_coin_string.specs.Coin.{coin_id_of}
use Rattle.codec_forms.specs.Wire.{overlay}
use Rattle.book.specs.Model.{Book, view}
use Rattle.book.specs.declared.BookData.{BookData}
use Rattle.archive_form.specs.Encode.{encode_model}
use Rattle.archive_form.specs.Parse.{read_archive, book, broken}
use Rattle.rules.specs.Call.{Call, Value}
use Rattle.rules.specs.Calls.{rules}
use Rattle.rules.specs.Opened.{opened}
use Rattle.rules.specs.Rule.{ended, stopped}
use Rattle.rules.specs.Steps.{run_book}
use Rattle.c_boundary.specs.Held.{book_bytes, held_in}
use Rattle.rules_answers.specs.Kind.{kind_of, is_drain, asks_room}
use Rattle.c_api.specs.Functions.{CCall, Returned, back, answered, counted, OpenDid, ReadDid, Sha256Did, CoinIdDid, Did, fee_intent_did, relinquish_did, attempt_did, active_ids_did, height_did, look_did, summary_did, rolled_back_did, input_coins_did, absent_outputs_did, write_did}
use Rattle.c_laws.specs.Functions.{Lent, lent, asks, call_of}
use Rattle.c_boundary.specs.Forms.{value_form}
use Rattle.book_answers.specs.declared.DrainedSubmission.{DrainedSubmission}
use Rattle.book.specs.Refusals as refusals

-- the functions: 29 calls on a lent book, opening, reading an archive, and two without a book
pub data Function : Type 0 where
  OnBook : CCall → Function
  Open : (token id : ℕ) → Function
  Read : (archive : List ℕ) → (place : ℕ) → Function
  Sha256 : (message digest : List ℕ) → Function
  CoinId : (coin id : List ℕ) → Function

-- what is lent besides the book; the place of `read` is the number lent
abbrev pub lent_to : Function → Lent
lent_to (OnBook c) = lent c
lent_to (Open token id) = record { answer = []; count = 0 }
lent_to (Read archive place) = record { answer = []; count = place }
lent_to (Sha256 message digest) = record { answer = digest; count = 0 }
lent_to (CoinId coin id) = record { answer = id; count = 0 }

-- the contract of each function: what it returned and left, the lent book being d; a function without a book is lent none, and d is any memory
pub data Ended (d : List ℕ) : Function → Returned → Type 0 where
  call_ended : {c : CCall} {r : Returned} → Did d c r → Ended d (OnBook c) r
  open_ended : (token id : ℕ) {n : ℕ} {d' : List ℕ} → OpenDid d token id n d' → Ended d (Open token id) (back n d')
  read_ended : (archive : List ℕ) (place : ℕ) {n : ℕ} {d' : List ℕ} {p : ℕ} → ReadDid d archive place n d' p → Ended d (Read archive place) (counted n d' [] p)
  sha256_ended : (message digest : List ℕ) {n : ℕ} {a : List ℕ} → Sha256Did message digest n a → Ended d (Sha256 message digest) (answered n d a)
  coin_id_ended : (coin id : List ℕ) {n : ℕ} {a : List ℕ} → CoinIdDid coin id n a → Ended d (CoinId coin id) (answered n d a)

-- the new book m, the bytes s of the answer, and the number n that then stands in the lent one: the length of a coin list or an archive that
-- was written, else the old one
pub data Says (d : List ℕ) : Function → Book → List ℕ → ℕ → Type 0 where
  call_says : (c : CCall) (k : Call) (m : Book) {m' : Book} {xs : List DrainedSubmission} {v : Value}
      → held_in d ≡ Some m → call_of c ≡ asks k → run_book (rules encode_model k) m ≡ ended m' xs v
      → Says d (OnBook c) m' (value_form xs v) (cond (asks_room (kind_of k)) (length (value_form xs v)) (lent c).count)
  open_says : (token id : ℕ) → Says d (Open token id) (opened token id) [] 0
  read_says : (archive : List ℕ) (place : ℕ) (b : BookData) → read_archive archive ≡ book b → Says d (Read archive place) (view b) [] place

-- the answer of a function without a book
pub data Hashes : Function → List ℕ → Type 0 where
  sha256_says : (message digest : List ℕ) → Hashes (Sha256 message digest) (sha256_of message)
  coin_id_says : (coin id : List ℕ) → length coin ≤ 73 → Hashes (CoinId coin id) (coin_id_of coin)

-- the drain that runs out of tokens, and the book that it leaves
pub data Stops (d : List ℕ) : Function → Book → Type 0 where
  drain_stops : (c : CCall) (k : Call) (m : Book) {m' : Book} {xs : List DrainedSubmission}
      → held_in d ≡ Some m → call_of c ≡ asks k → is_drain (kind_of k) ≡ true → run_book (rules encode_model k) m ≡ stopped m' xs turned.NoToken → Stops d (OnBook c) m'

-- what a function leaves in the lent memory
pub data Demand1 (f : Function) (d : List ℕ) (r : Returned) : Type 0 where
  -- 0: the new book, the answer, and the old bytes behind them
  new_book : (m : Book) (s : List ℕ) (n : ℕ) → Says d f m s n → r.number ≡ 0 → r.book ≡ overlay (book_bytes m) d → r.answer ≡ overlay s (lent_to f).answer → r.count ≡ n
      → Demand1 f d r
  -- 0 without a book: the answer, and the old bytes behind it
  new_answer : (s : List ℕ) → Hashes f s → r.number ≡ 0 → r.book ≡ d → r.answer ≡ overlay s (lent_to f).answer → r.count ≡ (lent_to f).count → Demand1 f d r
  -- every other number: every lent byte stays
  old_bytes : (r.number ≡ 0 → ⊥) → r.book ≡ d → r.answer ≡ (lent_to f).answer → r.count ≡ (lent_to f).count → Demand1 f d r
  -- 11: the book alone
  no_token : (m : Book) → Stops d f m → r.number ≡ refusals.no_token → r.book ≡ overlay (book_bytes m) d → r.answer ≡ (lent_to f).answer → r.count ≡ (lent_to f).count → Demand1 f d r
  -- 13: the place alone
  no_archive : (archive : List ℕ) (place : ℕ) → f ≡ Read archive place → read_archive archive ≡ broken r.count → r.number ≡ refusals.no_archive → r.book ≡ d → r.answer ≡ (lent_to f).answer → Demand1 f d r

-- ---- the calls that only look: their rules have no step (c_boundary/Looks), and they are lent the book as constant bytes
pub data Looking : CCall → Type 0 where
  attempt_looks : (token : ℕ) (answer : List ℕ) → Looking (CCall.Attempt token answer)
  fee_intent_looks : (token : ℕ) (answer : List ℕ) → Looking (CCall.FeeIntentForAttempt token answer)
  relinquish_looks : (token : ℕ) (answer : List ℕ) → Looking (CCall.RelinquishCompletedAttempt token answer)
  active_ids_look : (answer : List ℕ) → Looking (CCall.ActiveIds answer)
  height_looks : (answer : List ℕ) → Looking (CCall.ReplayRollbackHeight answer)
  look_looks : (id : ℕ) (answer : List ℕ) → Looking (CCall.Look id answer)
  summary_looks : (answer : List ℕ) → Looking (CCall.Summary answer)
  rolled_back_look : (absent inputs answer : List ℕ) → Looking (CCall.CausallyRolledBackIds absent inputs answer)
  input_coins_look : (outputs answer : List ℕ) (count : ℕ) → Looking (CCall.ReconciliationInputCoins outputs answer count)
  absent_outputs_look : (ids absent answer : List ℕ) (count : ℕ) → Looking (CCall.AbsentOutputsForIds ids absent answer count)
  write_looks : (archive : List ℕ) (length : ℕ) → Looking (CCall.Write archive length)

-- the bytes of the lent book stay, whatever is returned
pub looking_leaves : (d : List ℕ) {c : CCall} {r : Returned} → Looking c → Did d c r → r.book ≡ d
looking_leaves d (attempt_looks t a) (attempt_did u g) = refl
looking_leaves d (fee_intent_looks t a) (fee_intent_did u g) = refl
looking_leaves d (relinquish_looks t a) (relinquish_did u g) = refl
looking_leaves d (active_ids_look a) (active_ids_did g) = refl
looking_leaves d (height_looks a) (height_did g) = refl
looking_leaves d (look_looks i a) (look_did j g) = refl
looking_leaves d (summary_looks a) (summary_did g) = refl
looking_leaves d (rolled_back_look x i a) (rolled_back_did y j g) = refl
looking_leaves d (input_coins_look o a k) (input_coins_did p b j g) = refl
looking_leaves d (absent_outputs_look is o a k) (absent_outputs_did js p b j g) = refl
looking_leaves d (write_looks a k) (write_did b j g) = refl
