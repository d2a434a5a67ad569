use Rattle.call_write_archive.specs.Archive.{archive_answers}
use Rattle.call_write_archive.proofs.write_archive_sound.Goals as goal

pub returns : goal.returns
returns c = archive_answers c.args.b.parts c.args.b.sound c.args.out.now c.write_sound.ensures
