-- By cases on the value; `c.requires.1.1.1` is the clause `appends`.
use Rattle.codec_append.specs.Fits.{FitsWithin}
use Rattle.codec_answers.specs.Looks.{absent_within, present_within}
use Rattle.codec_answers.proofs.part.append_option.Goals as goal

pub returns-in-None : goal.returns-in-None
returns-in-None g c = absent_within g.form.0 g.form.1 c.in-None.is c.append_byte.ensures

pub returns : goal.returns
returns g c =
    let f : FitsWithin g.form.1 (g.form.0 c.in-Some.x) c.append_byte-e.result c.append_byte-e.new.out c.append.new.arg2 c.append.result = c.requires.1.1.1 _ _ _ _ _ c.append.ensures in
    present_within g.form.0 g.form.1 c.in-Some.is c.append_byte-e.ensures f
