use Rattle.std.proofs.Common.{◌≡◌, true, rules, subst}
use Rattle.std.specs.Prelude.{Err}
use Rattle.machine_core.specs.joint_ops.World.{Answers}
use Rattle.machine_core.specs.heap_texts.declared.fault.OpFault.TheVariants as op
use Rattle.machine_core.specs.ps_heap.Scans.{next_key}
use Rattle.machine_operands.proofs.Reading.{names-kept}
use Rattle.joint_tables.specs.Tables.{AreFoundText}
use Rattle.machine_tables.specs.inside.Scanning.{AreTableAndText}
use Rattle.machine_tables.proofs.Going.{scan-broken, scan-found, scan-trapped}
use Rattle.machine_tables.proofs.scans.next_string.Goals as goal

pub with_string-requires-clause-names : goal.with_string-requires-clause-names
with_string-requires-clause-names g c = names-kept c.args.m.now c.next_text-next.new.self c.in-Ok.ensures.keeps c.requires.names

pub returns-in-Ok-clause-follows : goal.returns-in-Ok-clause-follows
returns-in-Ok-clause-follows g c =
    let v = c.args.vault.now in
    let next = c.next_text-next in
    let w = next.new.vault in
    let out = g.V.Vault.outside v in
    let after = g.V.Vault.outside w in
    let m = c.args.m.now in
    let now = next.new.self in
    let did = c.with_string in
    scan-found true c.args.scan out after m did.new.m now did.result c.requires.names next.ensures.leaves next.ensures.keeps (λ names found f. AreFoundText now after names found f)
    (AreTableAndText m.objects out c.args.table c.args.after) (λ a. a.table) (λ a. a.key) c.in-Ok.found
    (λ heap names a world d. c.in-Ok.ensures.next heap names a.key a.table world d.key_is d.table_is)
    (did.ensures.goes_on w)

pub returns-in-Err-Trap-clause-follows : goal.returns-in-Err-Trap-clause-follows
returns-in-Err-Trap-clause-follows g c =
    let v = c.args.vault.now in
    let next = c.next_text-next in
    let w = next.new.vault in
    let out = g.V.Vault.outside v in
    let after = g.V.Vault.outside w in
    let m = c.args.m.now in
    let now = next.new.self in
    let is : next.result ≡ Err (op.Trap c.in-Err-Trap.trap) = search rules in
    let did = c.trapped in
    scan-trapped true c.args.scan out after m did.new.m now did.result c.requires.names next.ensures.leaves next.ensures.keeps (λ names found f. AreFoundText now after names found f)
    (AreTableAndText m.objects out c.args.table c.args.after) (λ a. a.table) (λ a. a.key) c.in-Err-Trap.trap
    (λ heap names a world d. subst (Answers m.objects now out after (AreFoundText now after names) heap names (next_key true heap a.table a.key)) is (next.ensures.next heap names a.key a.table world d.key_is d.table_is))
    (did.ensures.takes v).sound did.ensures.answer did.ensures.left

pub returns-in-Err-Swizzle-clause-follows : goal.returns-in-Err-Swizzle-clause-follows
returns-in-Err-Swizzle-clause-follows g c =
    let v = c.args.vault.now in
    let next = c.next_text-next in
    let w = next.new.vault in
    let out = g.V.Vault.outside v in
    let after = g.V.Vault.outside w in
    let m = c.args.m.now in
    let now = next.new.self in
    let is : next.result ≡ Err (op.Swizzle c.in-Err-Swizzle.fault) = search rules in
    let did = c.broke in
    scan-broken true c.args.scan out after m did.new.m now did.result c.requires.names next.ensures.leaves next.ensures.keeps (λ names found f. AreFoundText now after names found f)
    (AreTableAndText m.objects out c.args.table c.args.after) (λ a. a.table) (λ a. a.key) c.in-Err-Swizzle.fault
    (λ heap names a world d. subst (Answers m.objects now out after (AreFoundText now after names) heap names (next_key true heap a.table a.key)) is (next.ensures.next heap names a.key a.table world d.key_is d.table_is))
    did.ensures.answer (did.ensures.breaks v w)
