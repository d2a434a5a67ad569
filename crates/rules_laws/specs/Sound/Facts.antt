-- The lists that calls make longer are within their limits; so are then the replayed ids of a sound book.
use Rattle.std.specs.Prelude.{◌≤◌, map, length}
use Rattle.std.proofs.Common.{arith}
use Rattle.std.proofs.lemmas.List.{length-map}
use Rattle.base_lists.specs.Laws.{rising_distinct}
use Rattle.book.specs.Model.{Book}
use Rattle.book.specs.Sound.{id_of}
use Rattle.book.specs.SoundLaws.{SoundLists, Fits}
use Rattle.rules_laws.specs.ListLaws.{pigeons}

pub record Short (b : Book) : Type 0 where
  pub submitted : length b.submitted ≤ 16
  pub pending : length b.pending ≤ 16
  pub retired : length b.retired ≤ 64

-- they are distinct and retained
pub replayed_short : (b : Book) → SoundLists b → Short b → length b.replayed ≤ 16
replayed_short b s k =
    let h = pigeons b.replayed (map id_of b.submitted) (rising_distinct b.replayed s.rising) s.replayed in
    let m = length-map b.submitted id_of in
    let n = k.submitted in
    omega arith

pub short_of : (b : Book) → Fits b → Short b
short_of b f = record { submitted = f.submitted; pending = f.pending; retired = f.retired }
