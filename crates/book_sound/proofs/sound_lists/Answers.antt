-- Each answer is one of the eight conjuncts, once the gathered ids and tokens are read as lists made of the submissions.
use Rattle.std.proofs.Common.{◌≡◌, ap, ◌∙◌, List, ℕ, ◌&&◌, map, take, ltb}
use Rattle.std.specs.List.{list_all}
use Rattle.base_lists.specs.Lists.{elemb, distinctb, risingb}
use Rattle.base_lists.specs.Laws.{take_cells}
use Rattle.book.specs.Model.{view, id_list}
use Rattle.book.specs.Sound.{sound_lists, id_of}
use Rattle.book_sound.proofs.sound_lists.Goals as goal

pub returns : goal.returns
unfolding sound_lists view
returns c =
    let own : List ℕ = map id_of (take c.args.b.now.submitted_count c.args.b.now.submitted) in
    let ids : c.listed-retained.result.now ≡ own = c.listed-retained.ensures ∙ ap id_list c.submitted_ids-ids.ensures ∙ take_cells 16 0 own in
    λ j. c.sound_submissions-submissions.ensures j && (c.distinct-distinct_submissions.ensures ∙ ap distinctb ids) j
    && (c.distinct_tokens-distinct_attempts.ensures ∙ ap distinctb c.submitted_tokens-tokens.ensures) j
    && (c.tokens_below-issued.ensures ∙ ap (list_all (λ t. ltb t c.args.b.now.next_delivery_attempt_token.0)) c.submitted_tokens-tokens.ensures) j
    && c.sound_deliveries-deliveries.ensures j && (c.distinct-distinct_retired.ensures ∙ ap distinctb c.listed-retired.ensures) j && (c.is_rising-rising.ensures ∙ ap risingb c.listed-replayed.ensures) j
    && (c.all_among-known.ensures ∙ (λ i. list_all (λ k. elemb k (ids i)) (c.listed-replayed.ensures i))) j
