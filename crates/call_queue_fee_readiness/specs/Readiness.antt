-- What the rules of `queue_fee_readiness` come to, by the tests of the code.
use Rattle.std.specs.Prelude.{Bool, true, false, cond, ◌&&◌, List, [], ◌∷◌, ◌≡◌, refl}
use Rattle.std.proofs.Math.Path.{ap}
use Rattle.std.specs.List.{filter}
use Rattle.book.specs.declared.DeliveryTrigger.TheVariants.{ProviderReadiness}
use Rattle.book.specs.declared.SubmittedTx.{SubmittedTx}
use Rattle.book.specs.Model.{Book}
use Rattle.book.specs.Sound.{id_of}
use Rattle.rules.specs.Parts.{fee_unresolved, active_entry}
use Rattle.rules.specs.Rule.{Rule, done, ◌>>=◌, ended, run}
use Rattle.rules.specs.Steps.{run_book}
use Rattle.rules.specs.Calls.Offer.{offer, goal_for}
use Rattle.rules.specs.Calls.QueueFeeReadiness.{offer_each, queue_fee_readiness}
use Rattle.part_sound_laws.specs.Outcomes.{Each, bind_turn}

abbrev pub is_ready : SubmittedTx → Bool
is_ready t = active_entry t.entry && fee_unresolved t.entry

-- one submission
abbrev pub ready_one : SubmittedTx → Rule (Unit {0})
ready_one t = cond (is_ready t) (offer (id_of t) ProviderReadiness (goal_for t.entry)) (done tt)

abbrev pub ready_all : List SubmittedTx → Rule (Unit {0})
ready_all ts = offer_each ProviderReadiness (filter is_ready ts)

pub ready_each : Each ready_all ready_one tt
unfolding offer_each run
ready_each = record { none = refl; more = λ t ts m. go t ts m (is_ready t) }
  where
    go : (t : SubmittedTx) (ts : List SubmittedTx) (m : Book) (x : Bool)
        → run_book (offer_each ProviderReadiness (cond x (t ∷ filter is_ready ts) (filter is_ready ts))) m
        ≡ run_book (cond x (offer (id_of t) ProviderReadiness (goal_for t.entry)) (done tt) >>= (λ _. ready_all ts)) m
    go t ts m true = bind_turn (offer (id_of t) ProviderReadiness (goal_for t.entry)) (ready_all ts) m
    go t ts m false = refl

module _ (t : SubmittedTx) (m : Book) where
  pub ready_offered : is_ready t ≡ true → run_book (ready_one t) m ≡ run_book (offer (id_of t) ProviderReadiness (goal_for t.entry)) m
  ready_offered e = ap (λ (x : Bool). run_book (cond x (offer (id_of t) ProviderReadiness (goal_for t.entry)) (done tt)) m) e

  pub ready_not : is_ready t ≡ false → run_book (ready_one t) m ≡ ended m [] tt
  unfolding run
  ready_not e = ap (λ (x : Bool). run_book (cond x (offer (id_of t) ProviderReadiness (goal_for t.entry)) (done tt)) m) e

pub readiness_is : (m : Book) → run_book queue_fee_readiness m ≡ run_book (ready_all m.submitted) m
unfolding queue_fee_readiness run
readiness_is m = refl
