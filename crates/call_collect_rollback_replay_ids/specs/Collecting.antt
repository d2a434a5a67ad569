-- The named ids of a book, and the two rounds over them.
use Rattle.std.specs.Prelude.{ℕ, ◌≤◌, ◌<◌, Bool, true, false, cond, not, List, [], ◌∷◌, map, ◌≡◌, refl, length}
use Rattle.std.proofs.Math.Path.{ap}
use Rattle.std.proofs.Common.{sym, ◌∙◌, arith, le-leb}
use Rattle.std.proofs.lemmas.List.{length-map}
use Rattle.std.proofs.lemmas.Bool.{lt-leb}
use Rattle.part_ids.specs.IdLaws.{list_is}
use Rattle.base_lists.specs.Lists.{elemb}
use Rattle.std.specs.List.{filter}
use Rattle.base_lists.specs.Laws.{filter_length}
use Rattle.book.specs.declared.BookData.{BookData}
use Rattle.book.specs.declared.DeliveryTrigger.TheVariants.{Rollback}
use Rattle.book.specs.declared.Ids.{Ids}
use Rattle.book.specs.declared.SubmissionDeliveryGoal.TheVariants.{EnsureBroadcast}
use Rattle.book.specs.Model.{Book, view, id_list, id_cells}
use Rattle.book.specs.Sound.{id_of, soundb}
use Rattle.rules.specs.Doors.{ids_ok}
use Rattle.rules.specs.Rule.{Rule, done, undo, book, ◌>>=◌, ◌>>◌, Outcome, ended, undone, run}
use Rattle.rules.specs.Steps.{run_book}
use Rattle.rules.specs.Calls.Offer.{offer}
use Rattle.rules.specs.Calls.CollectRollbackReplayIds.{mark_each, offer_again, collect_rollback_replay_ids}
use Rattle.part_ids.specs.Ids.{without_ids}
use Rattle.part_lookup.specs.Normal.{sound_normal}
use Rattle.part_sound_laws.specs.Outcomes.{Each, bind_on, bind_turn}
use Rattle.call_collect_rollback_replay_ids.specs.Marking.{mark_one}
use Rattle.book.specs.declared.refusal.Refusal.TheVariants as refusals

-- "all named ones": the retained ids that the list has, in retained order
abbrev pub named_in : List ℕ → Book → List ℕ
named_in is m = filter (λ i. elemb i is) (map id_of m.submitted)

-- ---- the two rounds
-- the marks of ids that were not marked before
unfoldable pub mark_all : List ℕ → Rule (Unit {0})
mark_all [] = done tt
mark_all (i ∷ is) = mark_one i >> mark_all is

pub mark_each_lem : Each mark_all mark_one tt
unfolding mark_all
mark_each_lem = record { none = refl; more = λ i is m. refl }

-- an id that was marked before is passed over
pub marks_are : (m : Book) (is : List ℕ) → mark_each m is ≡ mark_all (without_ids m.replayed is)
unfolding mark_each mark_all
marks_are m [] = refl
marks_are m (i ∷ is) = go (elemb i m.replayed) (marks_are m is)
  where
    go : (t : Bool) → mark_each m is ≡ mark_all (without_ids m.replayed is)
        → (cond t (done tt) (mark_one i) >> mark_each m is) ≡ mark_all (cond (not t) (i ∷ without_ids m.replayed is) (without_ids m.replayed is))
    go true ih = ih
    go false ih = ap (λ (r : Rule (Unit {0})). mark_one i >> r) ih

pub offer_each_lem : Each offer_again (λ i. offer i Rollback EnsureBroadcast) tt
unfolding offer_again
offer_each_lem = record { none = refl; more = λ i is m. bind_turn (offer i Rollback EnsureBroadcast) (offer_again is) m }

module _ (b : BookData) (h : soundb b ≡ true) where
  pub ids_fit : length (map id_of (view b).submitted) ≤ 16
  ids_fit =
      let l : length (map id_of (view b).submitted) ≡ length (view b).submitted = length-map (view b).submitted id_of in
      let f : length (view b).submitted ≤ 16 = (sound_normal b h).fits.submitted in
      omega arith

  pub named_fit : (is : List ℕ) → length (named_in is (view b)) ≤ 16
  named_fit is =
      let k : length (named_in is (view b)) ≤ length (map id_of (view b).submitted) = filter_length (λ i. elemb i is) (map id_of (view b).submitted) in
      let f : length (map id_of (view b).submitted) ≤ 16 = ids_fit in
      omega arith

  pub named_is : {held : Ids 16} → held ≡ id_cells 16 (map id_of (view b).submitted) → (is : List ℕ) {r : Ids 16} → r ≡ id_cells 16 (filter (λ i. elemb i is) (id_list held)) → r ≡ id_cells 16 (named_in is (view b))
  named_is e is q = q ∙ ap (λ (xs : List ℕ). id_cells 16 (filter (λ i. elemb i is) xs)) (list_is (map id_of (view b).submitted) e)

  pub fresh_fit : (is : List ℕ) {named : Ids 16} → named ≡ id_cells 16 (named_in is (view b)) → length (without_ids (view b).replayed (id_list named)) ≤ 16
  fresh_fit is {named} e =
      let k : length (without_ids (view b).replayed (id_list named)) ≤ length (id_list named) = filter_length (λ j. not (elemb j (view b).replayed)) (id_list named) in
      let l : length (id_list named) ≡ length (named_in is (view b)) = ap length (list_is (named_in is (view b)) e) in
      let f : length (named_in is (view b)) ≤ 16 = named_fit is in
      omega arith

-- ---- the call
module _ (is : List ℕ) (m : Book) where
  abbrev rounds : Rule (Unit {0})
  rounds = book >>= (λ b. mark_each b (named_in is b) >>= (λ _. offer_again (named_in is b)))

  pub collect_long : 64 < length is → run_book (collect_rollback_replay_ids is) m ≡ undone refusals.BadList
  unfolding collect_rollback_replay_ids ids_ok run
  collect_long l = ap (λ (t : Bool). run_book (cond t rounds (undo refusals.BadList)) m) (lt-leb (length is) 64 l)

  collect_within : length is ≤ 64 → run_book (collect_rollback_replay_ids is) m ≡ run_book (mark_each m (named_in is m) >>= (λ _. offer_again (named_in is m))) m
  unfolding collect_rollback_replay_ids ids_ok run
  collect_within l = ap (λ (t : Bool). run_book (cond t rounds (undo refusals.BadList)) m) (le-leb (length is) 64 l)

  -- by the answer of the offers, the ids offered, which are the named ones, the fresh ones, and the book after the marks
  pub collect_taken : length is ≤ 64 → {offered fresh : List ℕ} {q : Book} {o : Outcome Book (Unit {0})} → run_book (offer_again offered) q ≡ o
      → offered ≡ named_in is m → fresh ≡ without_ids m.replayed offered → run_book (mark_all fresh) m ≡ ended q [] tt → run_book (collect_rollback_replay_ids is) m ≡ o
  collect_taken l {offered} {fresh} k e f h =
      collect_within l
      ∙ ap (λ (ns : List ℕ). run_book (mark_each m ns >>= (λ _. offer_again ns)) m) (sym e)
      ∙ ap (λ (w : Rule (Unit {0})). run_book (w >>= (λ _. offer_again offered)) m) (marks_are m offered ∙ ap mark_all (sym f))
      ∙ bind_on (mark_all fresh) (λ _. offer_again offered) m h ∙ k
