use Rattle.byteorder.specs.Endian.{little_bytes}
use Rattle.paged_volume.proofs.Spelling.{number_put, length_little}
use Rattle.paged_volume.proofs.New.{stand_more}
use Rattle.paged_volume.proofs.making.put_number.Goals as goal

pub returns-clause-stand : goal.returns-clause-stand
returns-clause-stand c = λ numbers stand.
    stand_more numbers c.args.at c.args.width c.args.value c.args.bytes.now _ c.requires.room
    (number_put c.args.bytes.now c.write_uint.new.buf (little_bytes c.args.width c.args.value) c.args.at c.args.width c.requires.room (length_little c.args.width c.args.value) c.write_uint.ensures) stand
