use Rattle.std.proofs.Common.{ap}
use Rattle.ps_placer.specs.declared.placer.Placer.{Placer}
use Rattle.ps_placer.specs.inside.Tables.{value_at}
use Rattle.ps_placer.proofs.Spots.{undone_pop}
use Rattle.ps_placer.proofs.placer.Placer.leave.Goals as goal

pub loop-it-preserved : goal.loop-it-preserved
loop-it-preserved c = record {
  same = ap (λ (x : Placer). record x { spots = c.set.new.self }) c.loop-it.invariant.same;
  undo = λ k. undone_pop c.loop-it.hidden.items c.pop.new.self.items c.in-Some.it (value_at c.loop-it.self.spots k) (value_at c.set.new.self k) _ k c.in-Some.ensures.items (c.in_ok-set.ensures.each k) (c.loop-it.invariant.undo k);
}
