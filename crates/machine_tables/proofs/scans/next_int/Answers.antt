use Rattle.std.proofs.Common.{◌≡◌, false, Option, rules, subst}
use Rattle.std.specs.Prelude.{Ok, Err}
use Rattle.machine_core.specs.joint_ops.World.{Answers}
use Rattle.machine_core.specs.heap_texts.declared.fault.OpFault.TheVariants as op
use Rattle.machine_core.specs.ps_heap.Scans.{next_key}
use Rattle.machine_core.specs.ps_heap.Tables.{Key}
use Rattle.machine_operands.proofs.Reading.{names-kept}
use Rattle.joint_tables.specs.Tables.{AreFoundInt}
use Rattle.machine_tables.specs.inside.Scanning.{AreTableAndInt}
use Rattle.machine_tables.proofs.Going.{scan-broken, scan-found, scan-trapped}
use Rattle.machine_tables.proofs.scans.next_int.Goals as goal

pub with_int-requires-clause-names : goal.with_int-requires-clause-names
with_int-requires-clause-names g c = names-kept c.args.m.now c.next_int-next.new.self c.in-Ok.ensures.keeps c.requires.names

pub returns-in-Ok-clause-follows : goal.returns-in-Ok-clause-follows
returns-in-Ok-clause-follows g c =
    let v = c.args.vault.now in
    let next = c.next_int-next in
    let w = next.new.vault in
    let out = g.V.Vault.outside v in
    let after = g.V.Vault.outside w in
    let m = c.args.m.now in
    let now = next.new.self in
    let did = c.with_int in
    scan-found false c.args.scan out after m did.new.m now did.result c.requires.names next.ensures.leaves next.ensures.keeps (λ names found f. AreFoundInt now after names found f)
    (AreTableAndInt m.objects out c.args.table c.args.after) (λ a. a.table) (λ a. a.key) c.in-Ok.found
    (λ heap names a world d. subst (λ (k : Option Key). Answers m.objects now out after (AreFoundInt now after names) heap names (next_key false heap a.table k) (Ok c.in-Ok.found)) d.key_is (c.in-Ok.ensures.next heap names a.table world d.table_is))
    (did.ensures.goes_on w)

pub returns-in-Err-Trap-clause-follows : goal.returns-in-Err-Trap-clause-follows
returns-in-Err-Trap-clause-follows g c =
    let v = c.args.vault.now in
    let next = c.next_int-next in
    let w = next.new.vault in
    let out = g.V.Vault.outside v in
    let after = g.V.Vault.outside w in
    let m = c.args.m.now in
    let now = next.new.self in
    let is : next.result ≡ Err (op.Trap c.in-Err-Trap.trap) = search rules in
    let did = c.trapped in
    scan-trapped false c.args.scan out after m did.new.m now did.result c.requires.names next.ensures.leaves next.ensures.keeps (λ names found f. AreFoundInt now after names found f)
    (AreTableAndInt m.objects out c.args.table c.args.after) (λ a. a.table) (λ a. a.key) c.in-Err-Trap.trap
    (λ heap names a world d. subst (λ (k : Option Key). Answers m.objects now out after (AreFoundInt now after names) heap names (next_key false heap a.table k) (Err (op.Trap c.in-Err-Trap.trap))) d.key_is (subst (Answers m.objects now out after (AreFoundInt now after names) heap names (next_key false heap a.table _)) is (next.ensures.next heap names a.table world d.table_is)))
    (did.ensures.takes v).sound did.ensures.answer did.ensures.left

pub returns-in-Err-Swizzle-clause-follows : goal.returns-in-Err-Swizzle-clause-follows
returns-in-Err-Swizzle-clause-follows g c =
    let v = c.args.vault.now in
    let next = c.next_int-next in
    let w = next.new.vault in
    let out = g.V.Vault.outside v in
    let after = g.V.Vault.outside w in
    let m = c.args.m.now in
    let now = next.new.self in
    let is : next.result ≡ Err (op.Swizzle c.in-Err-Swizzle.fault) = search rules in
    let did = c.broke in
    scan-broken false c.args.scan out after m did.new.m now did.result c.requires.names next.ensures.leaves next.ensures.keeps (λ names found f. AreFoundInt now after names found f)
    (AreTableAndInt m.objects out c.args.table c.args.after) (λ a. a.table) (λ a. a.key) c.in-Err-Swizzle.fault
    (λ heap names a world d. subst (λ (k : Option Key). Answers m.objects now out after (AreFoundInt now after names) heap names (next_key false heap a.table k) (Err (op.Swizzle c.in-Err-Swizzle.fault))) d.key_is (subst (Answers m.objects now out after (AreFoundInt now after names) heap names (next_key false heap a.table _)) is (next.ensures.next heap names a.table world d.table_is)))
    did.ensures.answer (did.ensures.breaks v w)
