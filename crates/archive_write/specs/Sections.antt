-- The sections as they are written: numbers, retained and queue; retirements, rollback height and replayed ids.
use Rattle.std.specs.Prelude.{◌≡◌, List, ◌++◌, ℕ, min, length, take}
use Rattle.std.proofs.Common.{sym, ap, ◌∙◌, append_assoc}
use Rattle.base_lists.specs.Laws.{take_cut}
use Rattle.codec_forms.specs.Wire.{be, enc_list}
use Rattle.archive_bundle_form.specs.Forms.{encode_height}
use Rattle.book.specs.Model.{view, id_list}
use Rattle.book.specs.declared.Token.{Token}
use Rattle.book.specs.declared.SubmissionId.{SubmissionId}
use Rattle.book.specs.declared.BookData.{BookData}
use Rattle.archive_form.specs.Encode.{encode_submitted, encode_delivery, encode_numbers, encode_model, encode_book}

abbrev pub numbers_form : Token → SubmissionId → List ℕ
numbers_form t i = be 1 2 ++ be 8 t.0 ++ be 8 i.0

abbrev pub front_of : BookData → List ℕ
front_of b =
    numbers_form b.next_delivery_attempt_token b.next_submission_id ++ enc_list encode_submitted (take b.submitted_count b.submitted)
    ++ enc_list encode_delivery (take b.pending_count b.pending_deliveries)

abbrev pub back_of : BookData → List ℕ
back_of b =
    enc_list (be 8) (id_list b.retired_submission_ids) ++ encode_height b.replay_epoch.rollback_height
    ++ enc_list (be 8) (id_list b.replay_epoch.replayed_submission_ids)

pub book_form : (b : BookData) → front_of b ++ back_of b ≡ encode_book b
unfolding encode_book encode_model encode_numbers view
book_form b =
    sym (append_assoc (front_of b) (enc_list (be 8) (id_list b.retired_submission_ids) ++ encode_height b.replay_epoch.rollback_height) (enc_list (be 8) (id_list b.replay_epoch.replayed_submission_ids)))
    ∙ ap (λ (l : List ℕ). l ++ enc_list (be 8) (id_list b.replay_epoch.replayed_submission_ids)) (sym (append_assoc (front_of b) (enc_list (be 8) (id_list b.retired_submission_ids)) (encode_height b.replay_epoch.rollback_height)))

-- the ids in use
pub ids_cut : (N n k : ℕ) (l : List ℕ) → length l ≡ N → k ≡ min n N → enc_list (be 8) (take k l) ≡ enc_list (be 8) (take n l)
ids_cut N n k l h e = ap (enc_list (be 8)) (take_cut N n k l h e)
