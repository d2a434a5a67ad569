-- What is pushed are the tokens of the submissions before `i`, at most two of each.
use Rattle.std.proofs.Common.{◌≡◌, ◌*◌, ◌≤◌, take}
use Rattle.std.specs.List.{flat_map}
use Rattle.book.specs.Sound.{tokens_of}
use Rattle.book_sound.proofs.cells.submitted_tokens.Given as goal

abbrev pub invariant-loop-i : goal.invariant-loop-i
invariant-loop-i l = (l.out.count ≤ 2 * l.i) × (take l.out.count l.out.items ≡ flat_map tokens_of (take l.i l.a))
