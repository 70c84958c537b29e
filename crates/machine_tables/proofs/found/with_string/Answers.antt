use Rattle.std.proofs.Common.{true, sym, subst}
use Rattle.joint_tables.specs.Tables.{AreFoundText}
use Rattle.machine_tables.specs.inside.Operands.{Follows}
use Rattle.machine_tables.specs.inside.Scanning.{goes_on_with}
use Rattle.machine_tables.proofs.Going.{no-string, string-or-none}
use Rattle.machine_tables.proofs.found.with_string.Goals as goal

pub returns-in-Some-clause-goes_on : goal.returns-in-Some-clause-goes_on
returns-in-Some-clause-goes_on g c v =
    let out = g.V.Vault.outside v in
    let m = c.args.m.now in
    let did = c.call_with_string in
    subst (λ found. Follows out out (λ names f. AreFoundText m.objects out names found f) (goes_on_with true c.args.scan) m did.new.m did.result) (sym c.in-Some.is)
    (string-or-none c.args.scan out m did.new.m did.result c.in-Some.key c.in-Some.object (did.ensures.goes_on v))

pub returns-in-None-clause-goes_on : goal.returns-in-None-clause-goes_on
returns-in-None-clause-goes_on g c v =
    let out = g.V.Vault.outside v in
    let m = c.args.m.now in
    let did = c.forward in
    subst (λ found. Follows out out (λ names f. AreFoundText m.objects out names found f) (goes_on_with true c.args.scan) m did.new.m did.result) (sym c.in-None.is)
    (no-string c.args.scan out m did.new.m did.result c.requires.names (did.ensures.takes v))
