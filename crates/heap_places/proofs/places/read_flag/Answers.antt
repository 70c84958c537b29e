use Rattle.std.proofs.Common.{sym}
use Rattle.heap_places.proofs.PlaceLaws.{nums_below, names-flag}
use Rattle.heap_places.proofs.places.read_flag.Goals as goal

pub num-word-requires-clause-below : goal.num-word-requires-clause-below
num-word-requires-clause-below c = nums_below c.args.sw.now c.args.object c.args.index c.sound.ensures c.requires.held c.requires.place

pub returns-in-None : goal.returns-in-None
returns-in-None c = names-flag c.args.sw.now c.args.object c.args.index c.num-word.result c.damaged.result c.num-word.ensures (sym c.in-None.ensures)
    c.damaged.ensures
