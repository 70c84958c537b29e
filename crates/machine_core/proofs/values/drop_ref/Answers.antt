use Rattle.ps_stepping.specs.Machine.{pop_ref, on}
use Rattle.machine_core.specs.Holding.{object_in}
use Rattle.machine_core.proofs.Between.{ref-then, any-value}
use Rattle.machine_core.proofs.values.drop_ref.Goals as goal

pub returns-in-Some-clause-takes : goal.returns-in-Some-clause-takes
returns-in-Some-clause-takes g c =
    let mid = c.pop_ref.new.m in
    λ v.
    let out = g.V.Vault.outside v in
    ref-then out out c.args.m.now mid mid c.quiet.result c.in-Some.ensures.leaves pop_ref _ (λ value d. on d) (c.in-Some.ensures.taken v) c.in-Some.ensures.named
    (any-value out out on mid mid (object_in _) c.quiet.result (c.quiet.ensures.takes v))
