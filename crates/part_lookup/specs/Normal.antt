-- A book whose cells hold its lists and nothing else: what the functions on cells ask of a book, and what its parts are then.
use Rattle.std.specs.Prelude.{◌≡◌, true, ◌≤◌, length}
use Rattle.std.proofs.Math.Path.{refl, ap}
use Rattle.std.proofs.Common.{sym, ◌∙◌, arith}
use Rattle.book.specs.Zero.{zero_submitted, zero_delivery}
use Rattle.book.specs.Model.{Book, view, back}
use Rattle.book.specs.Sound.{soundb}
use Rattle.book.specs.SoundLaws.{Fits, Counted, Plain, sound, fits_view, back_view, view_back}
use Rattle.book.specs.declared.BookData.{BookData}
use Rattle.part_ids.specs.Counted.{counted_long}

pub record Normal (b : BookData) : Type 0 where
  pub held : b ≡ back (view b)
  pub fits : Fits (view b)

pub sound_normal : (b : BookData) → soundb b ≡ true → Normal b
sound_normal b h = record { held = sym (back_view b h); fits = fits_view b (sound b h) }

-- a book that an operation answers
pub view_of : {b : BookData} (m : Book) → b ≡ back m → view b ≡ m
view_of m e = ap view e ∙ view_back m

pub normal_of : {b : BookData} (m : Book) → b ≡ back m → Fits m → Normal b
normal_of {b} m e f =
    let v : m ≡ view b = sym (view_of m e) in
    record { held = e ∙ ap back v; fits = rw v at f }

-- ---- the parts of a normal book
module _ (b : BookData) (n : Normal b) where
  pub plain_is : Plain b (view b)
  unfolding view
  plain_is = record { token = refl; id = refl; rollback = refl }

  pub submitted_are : Counted 16 zero_submitted b.submitted_count b.submitted (view b).submitted
  unfolding back
  submitted_are = record { count = ap (λ (x : BookData). x.submitted_count) n.held; held = ap (λ (x : BookData). x.submitted) n.held }

  pub pending_are : Counted 16 zero_delivery b.pending_count b.pending_deliveries (view b).pending
  unfolding back
  pending_are = record { count = ap (λ (x : BookData). x.pending_count) n.held; held = ap (λ (x : BookData). x.pending_deliveries) n.held }

  pub retired_are : Counted 64 0 b.retired_submission_ids.count b.retired_submission_ids.items (view b).retired
  unfolding back
  retired_are = record { count = ap (λ (x : BookData). x.retired_submission_ids.count) n.held; held = ap (λ (x : BookData). x.retired_submission_ids.items) n.held }

  pub replayed_are : Counted 16 0 b.replay_epoch.replayed_submission_ids.count b.replay_epoch.replayed_submission_ids.items (view b).replayed
  unfolding back
  replayed_are = record {
    count = ap (λ (x : BookData). x.replay_epoch.replayed_submission_ids.count) n.held;
    held = ap (λ (x : BookData). x.replay_epoch.replayed_submission_ids.items) n.held;
  }

  -- its counts and the lengths of its arrays
  pub record Sizes : Type 0 where
    pub submitted : b.submitted_count ≤ 16
    pub submitted_long : length b.submitted ≡ 16
    pub pending : b.pending_count ≤ 16
    pub pending_long : length b.pending_deliveries ≡ 16
    pub retired : b.retired_submission_ids.count ≤ 64
    pub replayed : b.replay_epoch.replayed_submission_ids.count ≤ 16

  pub sizes : Sizes
  sizes =
      let f = n.fits in
      record {
        submitted = let c = submitted_are.count in let k = f.submitted in omega arith;
        submitted_long = counted_long submitted_are f.submitted;
        pending = let c = pending_are.count in let k = f.pending in omega arith;
        pending_long = counted_long pending_are f.pending;
        retired = let c = retired_are.count in let k = f.retired in omega arith;
        replayed = let c = replayed_are.count in let k = f.replayed in omega arith;
      }
