-- The numbers of the kinds are their places in the declarations, as `kind as u8` gives them.
use Rattle.std.specs.Prelude.{◌≡◌, refl}
use denote.Enum.Declared.{tag_of}
use Rattle.book.specs.contracts.SubmissionDeliveryGoal.{the_type as goals}
use Rattle.book.specs.contracts.DeliveryTrigger.{the_type as triggers}
use Rattle.book.specs.contracts.SubmissionChainTerminality.{the_type as chains}
use Rattle.book.specs.contracts.FeeResolution.{the_type as resolutions}
use Rattle.book.specs.declared.SubmissionDeliveryGoal.{SubmissionDeliveryGoal}
use Rattle.book.specs.declared.SubmissionDeliveryGoal.TheVariants.{EnsureBroadcast, FeeUpgrade}
use Rattle.book.specs.declared.DeliveryTrigger.{DeliveryTrigger}
use Rattle.book.specs.declared.DeliveryTrigger.TheVariants.{Protocol, FreshChain, Rollback, ProviderReadiness}
use Rattle.book.specs.declared.SubmissionChainTerminality.{SubmissionChainTerminality}
use Rattle.book.specs.declared.SubmissionChainTerminality.TheVariants.{Active, InputSpent, Landed}
use Rattle.book.specs.declared.FeeResolution.{FeeResolution}
use Rattle.book.specs.declared.FeeResolution.TheVariants.{Unresolved, NotRequested, Attached}
use Rattle.archive_form.specs.Encode.{goal_number, trigger_number, chain_number, resolution_number}

pub goal_cast : (g : SubmissionDeliveryGoal) → tag_of goals g ≡ goal_number g
goal_cast EnsureBroadcast = refl
goal_cast FeeUpgrade = refl

pub trigger_cast : (t : DeliveryTrigger) → tag_of triggers t ≡ trigger_number t
trigger_cast Protocol = refl
trigger_cast FreshChain = refl
trigger_cast Rollback = refl
trigger_cast ProviderReadiness = refl

pub chain_cast : (c : SubmissionChainTerminality) → tag_of chains c ≡ chain_number c
chain_cast Active = refl
chain_cast InputSpent = refl
chain_cast Landed = refl

pub resolution_cast : (r : FeeResolution) → tag_of resolutions r ≡ resolution_number r
resolution_cast Unresolved = refl
resolution_cast NotRequested = refl
resolution_cast Attached = refl
