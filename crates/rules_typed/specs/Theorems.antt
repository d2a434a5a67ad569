-- Every call with arguments within their types leaves a book within the types; so the archive of every list of calls is read back.
use Rattle.std.specs.Prelude.{ℕ, ◌≤◌, List, [], ◌∷◌, ◌≡◌}
use Rattle.std.proofs.Common.{sym, ◌∙◌, arith}
use Rattle.std.proofs.Math.Path.{ap}
use Rattle.std.proofs.Math.ListN.{length}
use Rattle.book.specs.Model.{Book, back}
use Rattle.book.specs.SoundLaws.{view_back}
use Rattle.book.specs.Typed.{Every, U64}
use Rattle.archive_form.specs.Encode.{encode_model, encode_book}
use Rattle.archive_form.specs.Parse.{read_archive, book}
use Rattle.archive_laws.specs.Books.{TypedModel}
use Rattle.archive_laws.specs.Back.{back_typed, back_sound}
use Rattle.archive_laws.specs.Sizes.{archive_size}
use Rattle.archive_laws.specs.Theorems.{restored}
use Rattle.rules.specs.Books.{call_book, book_after}
use Rattle.rules.specs.Call.{Call}
use Rattle.rules.specs.Calls.{rules}
use Rattle.rules.specs.Opened.{opened}
use Rattle.rules.specs.Rule.{Rule, Outcome, ended, undone, stopped, left}
use Rattle.rules.specs.Steps.{run_book}
use Rattle.rules_laws.specs.Held.{Leaves, held_run}
use Rattle.rules_laws.specs.Sound.Run.{SoundBook, sound_after, sound_opened}
use Rattle.rules_typed.specs.Calls.{typed}
use Rattle.rules_typed.specs.Steps.{typed_step}
use Rattle.rules_typed.specs.Typing.{Within, TypedStep, AnyStop, TypedTo, TypedCall}

-- the book that rules leave
pub within_left : {A : Type 0} (P : A → Type 0) (r : Rule A) (b : Book) → Within b → TypedTo P b r → Within (left b (run_book r b))
within_left {A} P r b w h = go (run_book r b) (held_run Within TypedStep AnyStop typed_step P r b w h)
  where
    go : (k : Outcome Book A) → Leaves Within TypedStep AnyStop k → Within (left b k)
    go (ended c xs a) x = x
    go (undone n) x = w
    go (stopped c xs n) x = x.0

pub within_call : (encode : Book → List ℕ) (c : Call) (b : Book) → TypedCall c → Within b → Within (call_book encode c b)
unfolding call_book
within_call encode c b h w = within_left _ (rules encode c) b w (typed encode c h b w)

pub within_opened : (token id : ℕ) → U64 token → U64 id → Within (opened token id)
unfolding opened
within_opened token id t i = record { token = t; id = i; submitted = tt; pending = tt; retired = tt; rollback = tt; replayed = tt }

pub within_after : (encode : Book → List ℕ) (cs : List Call) (b : Book) → Every TypedCall cs → Within b → Within (book_after encode cs b)
unfolding book_after
within_after encode [] b h w = w
within_after encode (c ∷ cs) b h w = within_after encode cs (call_book encode c b) h.1 (within_call encode c b h.0 w)

-- a sound book within the types, as the archive's theorems ask for it
pub typed_model : (b : Book) → Within b → SoundBook b → TypedModel b
typed_model b w s = record {
  token = w.token;
  id = w.id;
  submitted = w.submitted;
  submitted_few = s.fits.submitted;
  pending = w.pending;
  pending_few = s.fits.pending;
  retired = w.retired;
  retired_few = s.fits.retired;
  rollback = w.rollback;
  replayed = w.replayed;
  replayed_few = s.fits.replayed;
}

-- "Reading back the bytes just written from the book restores it": after any list of calls on a newly opened book
module _ (token id : ℕ) (t : U64 token) (i : U64 id) (calls : List Call) (h : Every TypedCall calls) where
  reached : TypedModel (book_after encode_model calls (opened token id))
  reached =
      typed_model (book_after encode_model calls (opened token id)) (within_after encode_model calls (opened token id) h (within_opened token id t i))
      (sound_after encode_model calls (opened token id) (sound_opened token id))

  pub restored_after : read_archive (encode_model (book_after encode_model calls (opened token id))) ≡ book (back (book_after encode_model calls (opened token id)))
  unfolding encode_book
  restored_after =
      let m = book_after encode_model calls (opened token id) in
      ap (λ (b : Book). read_archive (encode_model b)) (sym (view_back m))
      ∙ restored (back m) (back_typed m reached) (back_sound m reached (sound_after encode_model calls (opened token id) (sound_opened token id)).lists)

  -- and the archive has at most 57,694 bytes
  pub fits_after : length (encode_model (book_after encode_model calls (opened token id))) ≤ 57694
  unfolding encode_book
  fits_after =
      let m = book_after encode_model calls (opened token id) in
      let k = archive_size (back m) (back_typed m reached) in
      omega (arith, ap (λ (b : Book). length (encode_model b)) (view_back m))
