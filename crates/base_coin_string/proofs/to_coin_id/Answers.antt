-- A length cut to 73 takes the same bytes of a 73-byte cell (`take_min`), so the hash is that of the coin's bytes.
use Rattle.base_lists.specs.Laws.{take_min}
use Rattle.base_coin_string.specs.Coin.{coin_id_of}
use mathlib.Core.Path.{◌≡◌, ap, ◌∙◌}
use Prim.Native.Nat.{ℕ}
use lib.ListN.{length, take}
use borrow.Author.Rules.{rules}
use Rattle.base_coin_string.proofs.to_coin_id.Goals as goal

pub returns : goal.returns
returns c =
    let b = c.args.coin in let n = c.args.len in let l : length b ≡ 73 = search rules in
    c.sha256.ensures ∙ ap (λ (k : ℕ). coin_id_of (take k b)) c.within-end.ensures ∙ ap coin_id_of (take_min 73 n b l)
