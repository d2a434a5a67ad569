use Rattle.codec_append.specs.Fits.{fits_no_number, fits_some_number}
use Rattle.codec_append.proofs.append_optional_number.Goals as goal

pub returns-in-None : goal.returns-in-None
returns-in-None c = fits_no_number c.in-None.is c.append_byte.ensures

pub returns-in-Some : goal.returns-in-Some
returns-in-Some c = fits_some_number c.in-Some.is c.append_byte-e.ensures c.append_number.ensures
