-- Each item follows the one before it (`fits_join`).
use Rattle.codec_append.specs.Fits.{fits_join, fits_as}
use Rattle.archive_bundle_write.specs.Laws.{fee_paid, fee_none, fee_attach}
use Rattle.archive_bundle_write.proofs.write.append_fee_intent.Goals as goal

pub returns-in-AlreadyPaid : goal.returns-in-AlreadyPaid
returns-in-AlreadyPaid c = fits_as (fee_paid c.args.f c.in-AlreadyPaid.is) c.append_byte.ensures

pub returns-in-NoFeeConfigured : goal.returns-in-NoFeeConfigured
returns-in-NoFeeConfigured c = fits_as (fee_none c.args.f c.in-NoFeeConfigured.is) c.append_byte-in-NoFeeConfigured.ensures

pub returns-in-Attach : goal.returns-in-Attach
returns-in-Attach c = fits_as (fee_attach c.args.f c.in-Attach.is) (fits_join (fits_join c.append_byte-a.ensures c.append_bytes-b.ensures) c.append_number.ensures)
