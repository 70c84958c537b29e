use Rattle.std.proofs.Common.{arith}
use Rattle.memory_vault.proofs.TestedLaws.{passes}
use Rattle.memory_vault.proofs.objects.object_at.Goals as goal

pub returns-in-None : goal.returns-in-None
returns-in-None c =
    passes c.args.words.now c.args.pid c.args.wanted c.in-Ok.header _
    (omega (arith, c.if-pid-lt1.false)) (omega (arith, c.if-pid-used-2.false))
    c.in-Ok.ensures.read c.in-Ok.ensures.fields c.in-Ok.ensures.lengths
    c.in-Ok.ensures.refused c.length_of.ensures c.in-None.ensures
