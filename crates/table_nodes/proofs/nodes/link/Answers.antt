use Rattle.std.proofs.Common.{arith, inl}
use Rattle.table_nodes.proofs.NodeLaws.{links_still}
use Rattle.table_nodes.proofs.Sparing.{spares_none}
use Rattle.table_nodes.proofs.nodes.link.Goals as goal

pub returns-then-num-height-clause-linked : goal.returns-then-num-height-clause-linked
returns-then-num-height-clause-linked g c =
    links_still c.args.sw.now (g.V.Vault.outside c.args.vault.now) c.args.at c.args.left c.args.right c.args.height c.sound.ensures
    (record { left_is = c.denotes.ensures.yes c.if-denotes.true; right_is = c.denotes-then-denotes.ensures.yes c.if-denotes-2.true; height_is = grind (arith, c.num.ensures, c.if-num-height.true) })

pub returns-then-num-height-clause-marked : goal.returns-then-num-height-clause-marked
returns-then-num-height-clause-marked g c = inl (record { left_is = c.denotes.ensures.yes c.if-denotes.true; right_is = c.denotes-then-denotes.ensures.yes c.if-denotes-2.true; height_is = grind (arith, c.num.ensures, c.if-num-height.true) })

pub returns-then-num-height-clause-spares : goal.returns-then-num-height-clause-spares
returns-then-num-height-clause-spares g c = spares_none c.args.sw.now (g.V.Vault.outside c.args.vault.now)
