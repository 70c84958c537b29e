use Rattle.std.proofs.Common.{arith}
use Rattle.objects.proofs.MakeEntries.{found-so}
use Rattle.objects.proofs.known_makes.KnownMakes.find.Goals as goal

pub returns-then-known-constant : goal.returns-then-known-constant
returns-then-known-constant c = λ here so.
    found-so here c.args.self.now.entries.items c.index_of-index.result c.args.code c.args.constant c.index-known.result.now so
    (omega (arith, c.if-index-len.false, c.len.ensures)) c.index-known.ensures c.if-known-ne0.true c.if-known-code.true c.if-known-constant.true
