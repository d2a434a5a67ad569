-- The numbers by which a call is turned away: paper 01, "Where a call is turned away". Specimens and recorded lists keep the bare numbers, so
-- that two of these cannot be swapped unseen.
use Rattle.std.specs.Prelude.{ℕ}
use Rattle.book.specs.declared.refusal.Refusal.{Refusal}
use Rattle.book.specs.declared.refusal.Refusal.TheVariants.{NoBook, BadList, BadValue, UnknownToken, AlreadyFinalized, NotFinalized, InvalidSubmission, StaleVariant, UnrequestedFee, Full, NoToken, ShortBuffer, NoArchive}

-- door: the book is not sound
abbrev pub no_book : ℕ
no_book = 1

-- door: a coin list, coin ids, or over 64 submission ids
abbrev pub bad_list : ℕ
bad_list = 2

-- door: bundle, expiry or fee intent outside its ranges, or an unused cell of it that is not zero
abbrev pub bad_value : ℕ
bad_value = 3

-- token: not live and not below next token (relinquish: not set aside)
abbrev pub unknown_token : ℕ
unknown_token = 4

-- finalise: already finalised
abbrev pub already_finalized : ℕ
already_finalized = 5

-- acknowledge: not finalised
abbrev pub not_finalized : ℕ
not_finalized = 6

-- finalise: `validate` fails
abbrev pub invalid_submission : ℕ
invalid_submission = 7

-- the current fingerprint differs from the attempt's
abbrev pub stale_variant : ℕ
stale_variant = 8

-- finalise: a fee source without unresolved fee
abbrev pub unrequested_fee : ℕ
unrequested_fee = 9

-- a step: full
abbrev pub full : ℕ
full = 10

-- drain: a token is needed, and next token is 2^64 − 1
abbrev pub no_token : ℕ
no_token = 11

-- writing: the buffer is shorter than needed
abbrev pub short_buffer : ℕ
short_buffer = 12

-- reader: not an archive
abbrev pub no_archive : ℕ
no_archive = 13

-- the number of each refusal
abbrev pub refusal_number : Refusal → ℕ
refusal_number NoBook = no_book
refusal_number BadList = bad_list
refusal_number BadValue = bad_value
refusal_number UnknownToken = unknown_token
refusal_number AlreadyFinalized = already_finalized
refusal_number NotFinalized = not_finalized
refusal_number InvalidSubmission = invalid_submission
refusal_number StaleVariant = stale_variant
refusal_number UnrequestedFee = unrequested_fee
refusal_number Full = full
refusal_number NoToken = no_token
refusal_number ShortBuffer = short_buffer
refusal_number NoArchive = no_archive
