use Rattle.std.proofs.Common.{◌≡◌, ℤ, false, w32, to_z, of_z, rules, Some, sym, subst}
use Rattle.joint_tables.specs.Tables.{AreFoundInt}
use Rattle.machine_tables.specs.inside.Operands.{Follows}
use Rattle.machine_tables.specs.inside.Scanning.{IsFoundInt, goes_on_with}
use Rattle.machine_tables.proofs.Going.{no-int, int-or-none}
use Rattle.machine_tables.proofs.found.with_int.Goals as goal

pub returns-in-Some-clause-goes_on : goal.returns-in-Some-clause-goes_on
returns-in-Some-clause-goes_on g c v =
    let out = g.V.Vault.outside v in
    let m = c.args.m.now in
    let did = c.call_with_int in
    let key = c.in-Some.key in
    let same : to_z w32 (of_z w32 key) ≡ key = search rules in
    subst (λ found. Follows out out (λ names f. AreFoundInt m.objects out names found f) (goes_on_with false c.args.scan) m did.new.m did.result) (sym c.in-Some.is)
    (int-or-none c.args.scan out m did.new.m did.result key c.in-Some.object
    (subst (λ (z : ℤ). Follows out out (IsFoundInt m.objects out z c.in-Some.object) (λ found. goes_on_with false c.args.scan (Some found)) m did.new.m did.result) same (did.ensures.goes_on v)))

pub returns-in-None-clause-goes_on : goal.returns-in-None-clause-goes_on
returns-in-None-clause-goes_on g c v =
    let out = g.V.Vault.outside v in
    let m = c.args.m.now in
    let did = c.forward in
    subst (λ found. Follows out out (λ names f. AreFoundInt m.objects out names found f) (goes_on_with false c.args.scan) m did.new.m did.result) (sym c.in-None.is)
    (no-int c.args.scan out m did.new.m did.result c.requires.names (did.ensures.takes v))
