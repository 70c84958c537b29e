use Rattle.page_map.proofs.NumberLaws.{number_written}
use Rattle.page_map.proofs.numbers.write_number.Goals as goal

pub returns : goal.returns
returns c = number_written c.args.bytes.now c.write_u32.new.buf c.args.index c.args.number c.requires c.write_u32.ensures
