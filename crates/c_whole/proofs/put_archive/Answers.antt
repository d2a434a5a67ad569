-- One more byte is pasted in each turn, and in the end all of them.
use Rattle.std.specs.Prelude.{◌+◌, ◌++◌, length, take, drop, refl}
use Rattle.std.proofs.Common.{arith, ap, ◌∙◌, slice_set, slice_index_or}
use Rattle.std.proofs.Math.Seq.{paste, take-length}
use Rattle.std.proofs.lemmas.List.Edits.{paste_more}
use Rattle.codec_forms.specs.Puts.{splice}
use Rattle.c_whole.proofs.put_archive.Goals as goal

pub loop-i-preserved : goal.loop-i-preserved
loop-i-preserved c =
    let l = c.loop-i in let a = c.args in
    ap (λ d. slice_set d (a.at + l.i) (slice_index_or a.src.now l.i 0)) l.invariant
    ∙ paste_more a.out.now a.at a.src.now l.i 0 (omega (arith, c.requires.fits)) c.loop-i-test.true

pub returns : goal.returns
unfolding splice
returns c =
    let l = c.loop-i in let a = c.args in
    record {
      next = refl;
      holds =
          l.invariant
          ∙ ap (paste a.out.now a.at a.src.now) (omega (arith, l.auto.i-end, c.loop-i-test.false))
          ∙ ap (λ s. take a.at a.out.now ++ s ++ drop (a.at + length a.src.now) a.out.now) (take-length a.src.now);
    }
