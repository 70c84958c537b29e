use Rattle.std.proofs.Common.{ℤ, false, ◌∙◌, w32, subst}
use Rattle.std.proofs.lemmas.Int.{to_z-of_z}
use Rattle.machine_tables.specs.inside.Operands.{Follows}
use Rattle.machine_tables.specs.inside.Scanning.{IsFoundInt, hands_over}
use Rattle.machine_tables.proofs.Going.{scan-full, scan-hands}
use Rattle.machine_tables.proofs.found.call_with_int.Goals as goal

pub returns-then-is_full-clause-goes_on : goal.returns-then-is_full-clause-goes_on
returns-then-is_full-clause-goes_on g c v =
    let out = g.V.Vault.outside v in
    let m = c.args.m.now in
    let did = c.trapped in
    scan-full false c.args.scan out m did.new.m did.result (IsFoundInt m.objects out c.args.key c.args.object)
    (λ names conf h. c.is_full.ensures v names conf h ∙ c.if-is_full.true) c.requires.names (did.ensures.takes v).sound did.ensures.answer did.ensures.left

pub returns-clause-goes_on : goal.returns-clause-goes_on
returns-clause-goes_on g c v =
    let out = g.V.Vault.outside v in
    let m = c.args.m.now in
    let did = c.hand_int in
    scan-hands false c.args.scan out m did.new.m did.result (IsFoundInt m.objects out c.args.key c.args.object)
    (λ names conf h. c.is_full.ensures v names conf h ∙ c.if-is_full.false)
    (subst (λ (z : ℤ). Follows out out (IsFoundInt m.objects out z c.args.object) (hands_over false c.args.scan) m did.new.m did.result) (to_z-of_z w32 c.args.key c.ranges.key) (did.ensures.hands v))
