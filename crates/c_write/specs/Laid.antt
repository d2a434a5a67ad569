-- The length of an archive, and the archive into the rest of the buffer behind it: together the bytes of the book.
use Rattle.std.specs.Prelude.{◌≡◌, List, ◌++◌, ℕ, ◌+◌, ◌-◌, ◌≤◌, length, take, drop}
use Rattle.codec_forms.specs.Wire.{be, overlay}
use Rattle.codec_forms.specs.Puts.{Room, Puts, room_first, room_as, puts_as, puts_overlay}
use Rattle.codec_append.specs.Fits.{Fits, fits_put, rest_starts, fits_both}
use Rattle.book.specs.Model.{view}
use Rattle.book.specs.declared.BookData.{BookData}
use Rattle.archive_form.specs.Encode.{encode_book}
use Rattle.c_boundary.specs.Held.{book_bytes}
use Rattle.c_boundary.specs.Settle.{laid, laid_room}

-- k is the archive's length
module _ (k : ℕ) (b : BookData) (d : List ℕ) (e : k ≡ length (encode_book b)) (h : 8 + k ≤ length d) where
  whole_room : Room (be 8 k ++ encode_book b) 0 d
  whole_room = room_as (laid k b e) (laid_room k b d e h)

  pub number_room : Room (be 8 k) 0 d
  number_room = room_first (encode_book b) whole_room

  module _ {d₁ : List ℕ} {at : ℕ} (p : Puts (be 8 k) 0 d d₁ at) where
    number_fits : Fits (be 8 k) 0 d d₁ at
    number_fits = fits_put number_room p

    pub behind_number : at ≤ length d₁
    behind_number = rest_starts number_fits

    pub book_laid : {ys : List ℕ} {i : ℕ} → Fits (encode_book b) 0 (take (length d₁ - at) (drop at d₁)) ys i
        → take at d₁ ++ (ys ++ drop (length d₁ - at) (drop at d₁)) ≡ overlay (book_bytes (view b)) d
    book_laid f = (puts_overlay (puts_as (laid k b e) ((fits_both number_fits (encode_book b) f).puts whole_room))).1
