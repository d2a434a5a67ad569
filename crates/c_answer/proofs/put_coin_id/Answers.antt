-- Over 73 bytes: 3. Else the digest of the coin string, which is its id.
use Rattle.c_answer.specs.Answer.{no_coin_lem, coin_told}
use Rattle.c_answer.proofs.put_coin_id.Goals as goal

pub returns-then-coin-gt73 : goal.returns-then-coin-gt73
returns-then-coin-gt73 c = no_coin_lem _ _ c.if-coin-gt73.true

pub returns : goal.returns
returns c = coin_told _ _ c.if-coin-gt73.false c.put_digest.ensures
