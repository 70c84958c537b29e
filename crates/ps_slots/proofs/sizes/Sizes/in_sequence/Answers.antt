use Rattle.ps_slots.specs.inside.Sizes.{size_of}
use Rattle.ps_slots.proofs.Sizing.{sequence_is}
use Rattle.ps_slots.proofs.sizes.Sizes.in_sequence.Goals as goal

pub returns : goal.returns
returns c scope items is = sequence_is scope items (size_of c.args.self) c.max.result c.max.ensures is
