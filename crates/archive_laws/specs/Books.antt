-- The book over plain lists: the parser accepts exactly the bytes of sound ones.
use Rattle.std.specs.Prelude.{◌≡◌, refl, true, not, ◌&&◌, List, [], ◌++◌, map, ℕ, ◌<◌, ◌≤◌, ◌^◌, eqb, length}
use Rattle.std.proofs.Common.{sym, ap, ◌∙◌, subst, append-nil, append_assoc, arith, eqb-true}
use Rattle.base_lists.specs.Lists.{elemb, distinctb, risingb}
use Rattle.std.specs.List.{list_all, flat_map}
use Rattle.base_lists.specs.Laws.{and_split, and_both}
use Rattle.codec_forms.specs.Wire.{be, enc_list, list_of}
use Rattle.codec_forms.specs.Lawful.{Lawful, step, finish, recode, regood}
use Rattle.codec_forms.specs.Items.{AllFrom}
use Rattle.codec_forms.proofs.Items.{number_lawful, checked_lawful, list_from_lawful}
use Rattle.archive_bundle_form.specs.Forms.{encode_height}
use Rattle.book.specs.Zero.{zero_submitted, zero_delivery}
use Rattle.book.specs.Sound.{sound_submitted, sound_delivery, id_of, tokens_of, sound_lists}
use Rattle.book.specs.SoundLaws.{sound_lists_lem, lists_sound}
use Rattle.book.specs.Model.{Book}
use Rattle.book.specs.Typed.{Every, U64, TypedOptionalHeight, TypedSubmitted, TypedDelivery}
use Rattle.std.specs.Prelude.{Option}
use Rattle.book.specs.declared.Height.{Height}
use Rattle.book.specs.declared.SubmittedTx.{SubmittedTx}
use Rattle.book.specs.declared.PendingDelivery.{PendingDelivery}
use Rattle.archive_form.specs.Encode.{encode_submitted, encode_delivery, encode_numbers, encode_model}
use Rattle.archive_form.specs.Parse.{above, parse_delivery, parse_retired, parse_replayed, Numbers, parse_numbers, parse_model}
use Rattle.archive_laws.specs.Cells.{six, every_from, from_every, every_test, test_every, every_map, every_both}
use Rattle.archive_laws.specs.Parts.{height_lawful}
use Rattle.archive_laws.specs.Entries.{GoodSubmitted, submitted_lawful, GoodDelivery, delivery_lawful}
use Rattle.archive_laws.specs.Rules.{whole_from, from_whole, from_both, from_map, distinct_grow, distinct_last, distinct_start, keys_grow, keys_last, keys_start, Held, FreshSlots, slots_grow, slots_last, slots_start, rising_grow, rising_last, rising_start}

-- ---- the numbers section
pub record GoodNumbers (n : Numbers) : Type 0 where
  pub token : n.token < 256 ^ 8
  pub id : n.id < 256 ^ 8

unfoldable pub enc_numbers : Numbers → List ℕ
enc_numbers n = be 1 2 ++ be 8 n.token ++ be 8 n.id

pub numbers_lawful : Lawful GoodNumbers enc_numbers parse_numbers
unfolding enc_numbers parse_numbers
numbers_lawful =
    recode enc_numbers (λ n x. ap (λ (l : List ℕ). be 1 2 ++ (be 8 n.token ++ l)) (append-nil (be 8 n.id)) ∙ sym (append_assoc (be 1 2) (be 8 n.token) (be 8 n.id)))
    (step (λ (n : Numbers). 2) (checked_lawful (λ k. eqb k 2) (number_lawful 1)) (λ n x. (omega arith, refl)) (λ k gk.
    step (λ (n : Numbers). n.token) (number_lawful 8) (λ n x. x.0.token) (λ t gt.
    step (λ (n : Numbers). n.id) (number_lawful 8) (λ n x. x.0.0.id) (λ i gi.
    finish (record { token = t; id = i }) (((record { token = gt; id = gi }, sym (eqb-true k 2 gk.1)), refl), refl) (λ n x j. record { token = x.0.1 j; id = x.1 j })))))

-- ---- retired and replayed ids
abbrev pub GoodRetired : List ℕ → ℕ → Type 0
GoodRetired before x = (x < 256 ^ 8) × (not (elemb x before) ≡ true)

abbrev pub GoodReplayed : List ℕ → List ℕ → ℕ → Type 0
GoodReplayed retained before x = (x < 256 ^ 8) × ((above before x && elemb x retained) ≡ true)

pub retired_lawful : (before : List ℕ) → Lawful (GoodRetired before) (be 8) (parse_retired before)
unfolding parse_retired
retired_lawful before = checked_lawful (λ x. not (elemb x before)) (number_lawful 8)

pub replayed_lawful : (retained before : List ℕ) → Lawful (GoodReplayed retained before) (be 8) (parse_replayed retained before)
unfolding parse_replayed
replayed_lawful retained before = checked_lawful (λ x. above before x && elemb x retained) (number_lawful 8)

-- ---- the book, as it is read
pub record GoodModel (m : Book) : Type 0 where
  pub token : m.next_token.0 < 256 ^ 8
  pub id : m.next_id.0 < 256 ^ 8
  pub submitted : AllFrom (GoodSubmitted m.next_token.0) [] m.submitted × (length m.submitted ≤ 16)
  pub pending : Every GoodDelivery m.pending × (length m.pending ≤ 16)
  pub retired : AllFrom GoodRetired [] m.retired × (length m.retired ≤ 64)
  pub rollback : TypedOptionalHeight m.rollback
  pub replayed : AllFrom (GoodReplayed (map id_of m.submitted)) [] m.replayed × (length m.replayed ≤ 16)

pub queue_lawful : Lawful (λ l. Every GoodDelivery l × (length l ≤ 16)) (enc_list encode_delivery) (list_of 16 parse_delivery)
queue_lawful =
    regood (λ l x. (from_every GoodDelivery [] l x.0, x.1)) (λ l x. (every_from GoodDelivery [] l x.0, x.1))
    (list_from_lawful 16 zero_delivery (λ b d. GoodDelivery d) (omega arith) (λ before. delivery_lawful))

abbrev pub numbers_of : Book → Numbers
numbers_of m = record { token = m.next_token.0; id = m.next_id.0 }

model_of : Numbers → List SubmittedTx → List PendingDelivery → List ℕ → Option Height → List ℕ → Book
model_of n s q r h p = record { next_token = record { 0 = n.token }; next_id = record { 0 = n.id }; submitted = s; pending = q; retired = r; rollback = h; replayed = p }

model_bytes : (m : Book) → enc_numbers (numbers_of m) ++ (enc_list encode_submitted m.submitted ++ (enc_list encode_delivery m.pending ++ (enc_list (be 8) m.retired ++ (encode_height m.rollback ++ (enc_list (be 8) m.replayed ++ []))))) ≡ encode_model m
unfolding encode_model enc_numbers encode_numbers
model_bytes m =
    ap (λ (l : List ℕ). encode_numbers m ++ (enc_list encode_submitted m.submitted ++ (enc_list encode_delivery m.pending ++ (enc_list (be 8) m.retired ++ (encode_height m.rollback ++ l))))) (append-nil (enc_list (be 8) m.replayed))
    ∙ six (encode_numbers m) (enc_list encode_submitted m.submitted) (enc_list encode_delivery m.pending) (enc_list (be 8) m.retired) (encode_height m.rollback) (enc_list (be 8) m.replayed)

pub model_lawful : Lawful GoodModel encode_model parse_model
unfolding parse_model model_of
model_lawful =
    recode encode_model (λ m x. model_bytes m)
    (step numbers_of numbers_lawful (λ m x. record { token = x.token; id = x.id }) (λ n gn.
    step (λ (m : Book). m.submitted) (list_from_lawful 16 zero_submitted (GoodSubmitted n.token) (omega arith) (submitted_lawful n.token)) (λ m x. (subst (λ (y : Numbers). AllFrom (GoodSubmitted y.token) [] m.submitted) x.1 x.0.submitted.0, x.0.submitted.1)) (λ s gs.
    step (λ (m : Book). m.pending) queue_lawful (λ m x. x.0.0.pending) (λ q gq.
    step (λ (m : Book). m.retired) (list_from_lawful 64 0 GoodRetired (omega arith) retired_lawful) (λ m x. x.0.0.0.retired) (λ r gr.
    step (λ (m : Book). m.rollback) height_lawful (λ m x. x.0.0.0.0.rollback) (λ h gh.
    step (λ (m : Book). m.replayed) (list_from_lawful 16 0 (GoodReplayed (map id_of s)) (omega arith) (replayed_lawful (map id_of s))) (λ m x. (subst (λ (l : List SubmittedTx). AllFrom (GoodReplayed (map id_of l)) [] m.replayed) x.0.0.0.1 x.0.0.0.0.0.replayed.0, x.0.0.0.0.0.replayed.1)) (λ p gp.
    finish (model_of n s q r h p) ((((((record { token = gn.token; id = gn.id; submitted = gs; pending = gq; retired = gr; rollback = gh; replayed = gp }, refl), refl), refl), refl), refl), refl)
    (λ m x j. model_of (x.0.0.0.0.0.1 j) (x.0.0.0.0.1 j) (x.0.0.0.1 j) (x.0.0.1 j) (x.0.1 j) (x.1 j)))))))))

-- ---- the same as the rules over whole lists
pub record TypedModel (m : Book) : Type 0 where
  pub token : U64 m.next_token.0
  pub id : U64 m.next_id.0
  pub submitted : Every TypedSubmitted m.submitted
  pub submitted_few : length m.submitted ≤ 16
  pub pending : Every TypedDelivery m.pending
  pub pending_few : length m.pending ≤ 16
  pub retired : Every U64 m.retired
  pub retired_few : length m.retired ≤ 64
  pub rollback : TypedOptionalHeight m.rollback
  pub replayed : Every U64 m.replayed
  pub replayed_few : length m.replayed ≤ 16

-- what one submission keeps, taken apart
abbrev Kept : SubmittedTx → Type 0
Kept t = TypedSubmitted t × (sound_submitted t ≡ true)

abbrev NewId : List SubmittedTx → SubmittedTx → Type 0
NewId before t = not (elemb (id_of t) (map id_of before)) ≡ true

abbrev IdRule : List SubmittedTx → Type 0
IdRule l = distinctb (map id_of l) ≡ true

abbrev TokenRule : ℕ → List SubmittedTx → Type 0
TokenRule next l = Held next (flat_map tokens_of l)

submitted_from : (next : ℕ) (l : List SubmittedTx) → Every Kept l → IdRule l → TokenRule next l → AllFrom (GoodSubmitted next) [] l
submitted_from next l k i t =
    let a = from_every Kept [] l k in
    let b = from_whole IdRule NewId (keys_start id_of) (keys_last id_of) [] l i in
    let c = from_whole (TokenRule next) (FreshSlots next) (slots_start next) (slots_last next) [] l t in
    from_map (λ b t. (Kept t × NewId b t) × FreshSlots next b t) (GoodSubmitted next)
    (λ b t x. record { typed = x.0.0.0; sound = x.0.0.1; new = x.0.1; live = x.1.0; aside = x.1.1 }) [] l
    (from_both (λ b t. Kept t × NewId b t) (FreshSlots next) [] l (from_both (λ b t. Kept t) NewId [] l a b) c)

submitted_every : (next : ℕ) (l : List SubmittedTx) → AllFrom (GoodSubmitted next) [] l → Every Kept l
submitted_every next l g = every_from Kept [] l (from_map (GoodSubmitted next) (λ b t. Kept t) (λ b t x. (x.typed, x.sound)) [] l g)

submitted_ids : (next : ℕ) (l : List SubmittedTx) → AllFrom (GoodSubmitted next) [] l → IdRule l
submitted_ids next l g = whole_from IdRule NewId (keys_grow id_of) [] l refl (from_map (GoodSubmitted next) NewId (λ b t x. x.new) [] l g)

submitted_tokens : (next : ℕ) (l : List SubmittedTx) → AllFrom (GoodSubmitted next) [] l → TokenRule next l
submitted_tokens next l g =
    whole_from (TokenRule next) (FreshSlots next) (slots_grow next) [] l (record { once = refl; below = refl })
    (from_map (GoodSubmitted next) (FreshSlots next) (λ b t x. (x.live, x.aside)) [] l g)

abbrev Fits : ℕ → Type 0
Fits x = x < 256 ^ 8

abbrev New : List ℕ → ℕ → Type 0
New before x = not (elemb x before) ≡ true

abbrev Once : List ℕ → Type 0
Once l = distinctb l ≡ true

retired_from : (l : List ℕ) → Every Fits l → Once l → AllFrom GoodRetired [] l
retired_from l t d = from_both (λ b x. Fits x) New [] l (from_every Fits [] l t) (from_whole Once New distinct_start distinct_last [] l d)

retired_every : (l : List ℕ) → AllFrom GoodRetired [] l → Every Fits l × Once l
retired_every l g = (
  every_from Fits [] l (from_map GoodRetired (λ b x. Fits x) (λ b x h. h.0) [] l g),
  whole_from Once New distinct_grow [] l refl (from_map GoodRetired New (λ b x h. h.1) [] l g),
)

abbrev Above : List ℕ → ℕ → Type 0
Above before x = above before x ≡ true

abbrev Rising : List ℕ → Type 0
Rising l = risingb l ≡ true

abbrev In : List ℕ → ℕ → Type 0
In retained x = elemb x retained ≡ true

replayed_from : (retained l : List ℕ) → Every Fits l → Rising l → list_all (λ i. elemb i retained) l ≡ true → AllFrom (GoodReplayed retained) [] l
replayed_from retained l t r k =
    from_map (λ b x. (Fits x × In retained x) × Above b x) (GoodReplayed retained) (λ b x h. (h.0.0, and_both h.1 h.0.1)) [] l
    (from_both (λ b x. Fits x × In retained x) Above [] l
    (from_every (λ x. Fits x × In retained x) [] l (every_both Fits (In retained) l t (every_test (λ i. elemb i retained) l k)))
    (from_whole Rising Above rising_start rising_last [] l r))

replayed_every : (retained l : List ℕ) → AllFrom (GoodReplayed retained) [] l → (Every Fits l × Rising l) × (list_all (λ i. elemb i retained) l ≡ true)
replayed_every retained l g = (
  (
    every_from Fits [] l (from_map (GoodReplayed retained) (λ b x. Fits x) (λ b x h. h.0) [] l g),
    whole_from Rising Above rising_grow [] l refl (from_map (GoodReplayed retained) Above (λ b x h. (and_split (above b x) (elemb x retained) h.1).0) [] l g),
  ),
  test_every (λ i. elemb i retained) l (every_from (In retained) [] l (from_map (GoodReplayed retained) (λ b x. In retained x) (λ b x h. (and_split (above b x) (elemb x retained) h.1).1) [] l g)),
)

pub model_good : (m : Book) → TypedModel m → sound_lists m ≡ true → GoodModel m
model_good m t h =
    let f = sound_lists_lem m h in
    record {
      token = t.token;
      id = t.id;
      submitted = (
        submitted_from m.next_token.0 m.submitted (every_both TypedSubmitted (λ x. sound_submitted x ≡ true) m.submitted t.submitted (every_test sound_submitted m.submitted f.submitted))
            f.ids (record { once = f.tokens; below = f.below }),
        t.submitted_few,
      );
      pending = (
        every_map (λ d x. record { typed = x.0; sound = x.1 }) m.pending (every_both TypedDelivery (λ x. sound_delivery x ≡ true) m.pending t.pending (every_test sound_delivery m.pending f.pending)),
        t.pending_few,
      );
      retired = (retired_from m.retired t.retired f.retired, t.retired_few);
      rollback = t.rollback;
      replayed = (replayed_from (map id_of m.submitted) m.replayed t.replayed f.rising f.replayed, t.replayed_few);
    }

pub good_typed : (m : Book) → GoodModel m → TypedModel m
good_typed m g = record {
  token = g.token;
  id = g.id;
  submitted = every_map (λ t x. x.0) m.submitted (submitted_every m.next_token.0 m.submitted g.submitted.0);
  submitted_few = g.submitted.1;
  pending = every_map (λ d x. x.typed) m.pending g.pending.0;
  pending_few = g.pending.1;
  retired = (retired_every m.retired g.retired.0).0;
  retired_few = g.retired.1;
  rollback = g.rollback;
  replayed = (replayed_every (map id_of m.submitted) m.replayed g.replayed.0).0.0;
  replayed_few = g.replayed.1;
}

pub good_sound : (m : Book) → GoodModel m → sound_lists m ≡ true
good_sound m g =
    let t = submitted_tokens m.next_token.0 m.submitted g.submitted.0 in
    let p = replayed_every (map id_of m.submitted) m.replayed g.replayed.0 in
    lists_sound m (record {
      submitted = test_every sound_submitted m.submitted (every_map (λ t x. x.1) m.submitted (submitted_every m.next_token.0 m.submitted g.submitted.0));
      ids = submitted_ids m.next_token.0 m.submitted g.submitted.0;
      tokens = t.once;
      below = t.below;
      pending = test_every sound_delivery m.pending (every_map (λ d x. x.sound) m.pending g.pending.0);
      retired = (retired_every m.retired g.retired.0).1;
      rising = p.0.1;
      replayed = p.1;
    })
