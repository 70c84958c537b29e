use Rattle.std.proofs.Common.{true, ◌∙◌}
use Rattle.machine_tables.specs.inside.Scanning.{IsFoundText}
use Rattle.machine_tables.proofs.Going.{scan-full, scan-hands}
use Rattle.machine_tables.proofs.found.call_with_string.Goals as goal

pub returns-then-is_full-clause-goes_on : goal.returns-then-is_full-clause-goes_on
returns-then-is_full-clause-goes_on g c v =
    let out = g.V.Vault.outside v in
    let m = c.args.m.now in
    let did = c.trapped in
    scan-full true c.args.scan out m did.new.m did.result (IsFoundText m.objects out c.args.key c.args.object)
    (λ names conf h. c.is_full.ensures v names conf h ∙ c.if-is_full.true) c.requires.names (did.ensures.takes v).sound did.ensures.answer did.ensures.left

pub returns-clause-goes_on : goal.returns-clause-goes_on
returns-clause-goes_on g c v =
    let out = g.V.Vault.outside v in
    let m = c.args.m.now in
    let did = c.hand_string in
    scan-hands true c.args.scan out m did.new.m did.result (IsFoundText m.objects out c.args.key c.args.object)
    (λ names conf h. c.is_full.ensures v names conf h ∙ c.if-is_full.false) (did.ensures.hands v)
