use Rattle.machine_core.specs.ps_heap.Objects.{high_of}
use Rattle.machine_core.specs.ps_stepping.Steps.{push_num}
use Rattle.machine_operands.proofs.Parts.{fails-after, so-after}
use Rattle.machine_vectors.proofs.ElementReads.{bound-found, vector-then}
use Rattle.machine_vectors.proofs.bounds.upper_bound.Goals as goal

pub returns-clause-takes : goal.returns-clause-takes
returns-clause-takes g c =
    let v = c.args.vault.now in
    let bound = c.upper_bound-bound in
    let w = bound.new.vault in
    let before = g.V.Vault.outside v in
    let after = g.V.Vault.outside w in
    let m = c.pop_vector.new.m in
    let give = c.give_bound in
    let p = c.in-Some.ensures in
    vector-then before c.args.m.now m p.leaves (λ ty u d. push_num (high_of d.store.held.objects u) d) after give.new.m give.result c.in-Some.vector (p.pops v)
    (bound-found before after m give.new.m bound.new.self give.result c.in-Some.vector high_of p.names bound.ensures.leaves bound.result bound.ensures.keeps
    bound.ensures.got (give.ensures v w))

pub returns-clause-fails : goal.returns-clause-fails
returns-clause-fails g c =
    let v = c.args.vault.now in
    let bound = c.upper_bound-bound in
    let w = bound.new.vault in
    let give = c.give_bound in
    fails-after give.result give.new.m (g.V.Vault.outside v) (g.V.Vault.outside w) bound.result (give.ensures v w).ends.breaks bound.ensures.fails

pub returns-clause-alive : goal.returns-clause-alive
returns-clause-alive g c =
    let bound = c.upper_bound-bound in
    let w = bound.new.vault in
    let give = c.give_bound in
    so-after give.result give.new.m bound.result (g.V.Vault.alive w) (give.ensures w w).ends.breaks bound.ensures.alive
