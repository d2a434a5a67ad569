-- Five parts written one behind the other are the form of the failure, once its retained id and stage are those that the rules name.
use Rattle.codec_append.specs.Fits.{fits_join, within_as}
use Rattle.codec_answers.specs.Drain.{stage_number, failed_parts, failure_most}
use Rattle.std.specs.Prelude.{Some}
use borrow.Author.Rules.{rules}
use mathlib.Core.Path.{ap, ◌∙◌}
use Rattle.codec_answers.specs.Numbers.{stage_cast}
use Rattle.codec_answers.proofs.drained.append_drain_failure.Goals as goal

pub returns : goal.returns
returns c =
    let f = c.args.f.now in
    within_as (failed_parts f c.retained_id-retained.result _ c.retained_id-retained.ensures (stage_cast c.stage_of-stage.result ∙ ap stage_number c.stage_of-stage.ensures))
    (record {
      fits = fits_join (fits_join (fits_join (fits_join c.append_number-index_end.ensures c.append_id-retained_end.ensures) c.append_id-candidate_end.ensures) c.append_bytes-fingerprint_end.ensures) c.append_byte.ensures;
      few = failure_most f.candidate_index c.retained_id-retained.result (Some f.candidate_id) f.intent_fingerprint _ (search rules);
    })
