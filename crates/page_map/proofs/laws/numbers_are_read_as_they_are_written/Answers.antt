use Rattle.page_map.proofs.RoundLaws.{read_as_written}
use Rattle.page_map.proofs.laws.numbers_are_read_as_they_are_written.Goals as goal

pub returns : goal.returns
returns c = read_as_written
