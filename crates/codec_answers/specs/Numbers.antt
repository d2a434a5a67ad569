-- The numbers of the kinds are their places in the declarations, as `kind as u8` gives them.
use Rattle.std.specs.Prelude.{◌≡◌, refl, Bool, true, false}
use denote.Enum.Declared.{tag_of}
use mir.Val.{bool_byte}
use Rattle.book_answers.specs.contracts.SubmissionAttemptStatus.{the_type as statuses}
use Rattle.book_answers.specs.contracts.FeeSourceDisposition.{the_type as dispositions}
use Rattle.book_answers.specs.contracts.SubmissionAttemptRelationship.{the_type as relationships}
use Rattle.book_answers.specs.contracts.SubmissionDrainFailureStage.{the_type as stages}
use Rattle.book_answers.specs.declared.SubmissionAttemptStatus.{SubmissionAttemptStatus}
use Rattle.book_answers.specs.declared.SubmissionAttemptStatus.TheVariants.{Applied, Stale}
use Rattle.book_answers.specs.declared.FeeSourceDisposition.{FeeSourceDisposition}
use Rattle.book_answers.specs.declared.FeeSourceDisposition.TheVariants.{Attached, Unused, NotRequested}
use Rattle.book_answers.specs.declared.SubmissionAttemptRelationship.{SubmissionAttemptRelationship}
use Rattle.book_answers.specs.declared.SubmissionAttemptRelationship.TheVariants.{Initial, Exact, NewerFeeBearing, Other}
use Rattle.book_answers.specs.declared.SubmissionDrainFailureStage.{SubmissionDrainFailureStage}
use Rattle.book_answers.specs.declared.SubmissionDrainFailureStage.TheVariants as stage
use Rattle.codec_answers.specs.Forms.{flag_number, status_number, disposition_number, relationship_number}
use Rattle.codec_answers.specs.Drain.{stage_number}

pub flag_cast : (b : Bool) → bool_byte b ≡ flag_number b
flag_cast true = refl
flag_cast false = refl

pub status_cast : (s : SubmissionAttemptStatus) → tag_of statuses s ≡ status_number s
status_cast Applied = refl
status_cast Stale = refl

pub disposition_cast : (d : FeeSourceDisposition) → tag_of dispositions d ≡ disposition_number d
disposition_cast Attached = refl
disposition_cast Unused = refl
disposition_cast NotRequested = refl

pub relationship_cast : (r : SubmissionAttemptRelationship) → tag_of relationships r ≡ relationship_number r
relationship_cast Initial = refl
relationship_cast Exact = refl
relationship_cast NewerFeeBearing = refl
relationship_cast Other = refl

pub stage_cast : (s : SubmissionDrainFailureStage) → tag_of stages s ≡ stage_number s
stage_cast stage.Fingerprint = refl
stage_cast stage.RetainedState = refl
stage_cast stage.ExpectedOutputs = refl
stage_cast stage.SubmissionId = refl
