use Rattle.std.proofs.Common.{◌≡◌, ℕ, true, List, [], ◌∷◌, length, refl, Some, None, ap, arith, rules, subst}
use Rattle.std.specs.Prelude.{Ok, Err}
use Rattle.machine_core.specs.joint_ops.World.{Answers}
use Rattle.machine_core.specs.heap_texts.declared.fault.OpFault.TheVariants as op
use Rattle.machine_core.specs.ps_heap.Scans.{next_key}
use Rattle.machine_core.specs.ps_heap.Tables.{string_key}
use Rattle.machine_core.proofs.Failing.{failing-behind}
use Rattle.machine_operands.proofs.Reading.{names-kept}
use Rattle.joint_tables.specs.Tables.{AreFoundText}
use Rattle.machine_tables.specs.inside.Operands.{IsTable}
use Rattle.machine_tables.proofs.Going.{above-none, above-some, above-trap, empty-follows, scan-broken, scan-found, scan-trapped}
use Rattle.machine_tables.proofs.scans.string_after_empty.Goals as goal

no-bytes : (bytes : List ℕ) → length bytes ≡ 0 → bytes ≡ []
no-bytes [] e = refl
no-bytes (b ∷ bs) e = absurd (omega (arith, e))

pub next_string-requires-clause-names : goal.next_string-requires-clause-names
next_string-requires-clause-names g c = names-kept c.args.m.now c.next_text-least.new.self c.next_text-least.ensures.keeps c.requires.names

pub with_string-requires-clause-names : goal.with_string-requires-clause-names
with_string-requires-clause-names g c = names-kept c.args.m.now c.next_text-least.new.self c.next_text-least.ensures.keeps c.requires.names

pub with_string-requires-in-Ok-None-clause-names : goal.with_string-requires-in-Ok-None-clause-names
with_string-requires-in-Ok-None-clause-names g c = names-kept c.args.m.now c.next_text-least.new.self c.next_text-least.ensures.keeps c.requires.names

pub returns-in-Ok-None-clause-follows : goal.returns-in-Ok-None-clause-follows
returns-in-Ok-None-clause-follows g c =
    let v = c.args.vault.now in
    let least = c.next_text-least in
    let w = least.new.vault in
    let out = g.V.Vault.outside v in
    let after = g.V.Vault.outside w in
    let m = c.args.m.now in
    let now = least.new.self in
    let is : least.result ≡ Ok None = search rules in
    let did = c.with_string-in-Ok-None in
    scan-found true c.args.scan out after m did.new.m now did.result c.requires.names least.ensures.leaves least.ensures.keeps (λ names found f. AreFoundText now after names found f)
    (IsTable m.objects out c.args.table) (λ a. a) (λ a. Some (string_key [])) None
    (λ heap names a world d. above-none out after m now heap names a
    (subst (Answers m.objects now out after (AreFoundText now after names) heap names (next_key true heap a None)) is (least.ensures.next heap names None a world tt d.table_is)))
    (did.ensures.goes_on w)

pub returns-else-text_length-eq0-clause-follows : goal.returns-else-text_length-eq0-clause-follows
returns-else-text_length-eq0-clause-follows g c =
    let v = c.args.vault.now in
    let least = c.next_text-least in
    let w = least.new.vault in
    let out = g.V.Vault.outside v in
    let after = g.V.Vault.outside w in
    let m = c.args.m.now in
    let now = least.new.self in
    let key = c.in-Ok-Some.key in
    let object = c.in-Ok-Some.object in
    let is : least.result ≡ Ok (Some (key, object)) = search rules in
    let did = c.with_string in
    scan-found true c.args.scan out after m did.new.m now did.result c.requires.names least.ensures.leaves least.ensures.keeps (λ names found f. AreFoundText now after names found f)
    (IsTable m.objects out c.args.table) (λ a. a) (λ a. Some (string_key [])) (Some (key, object))
    (λ heap names a world d. above-some out after m now heap names a key object
    (λ bytes denotes empty. let long = c.if-text_length-eq0.false in let count = c.text_length.ensures.value w names bytes denotes in let none = ap length empty in omega (arith, long, count, none))
    (subst (Answers m.objects now out after (AreFoundText now after names) heap names (next_key true heap a None)) is (least.ensures.next heap names None a world tt d.table_is)))
    (did.ensures.goes_on w)

pub returns-then-text_length-eq0-clause-follows : goal.returns-then-text_length-eq0-clause-follows
returns-then-text_length-eq0-clause-follows g c =
    let v = c.args.vault.now in
    let least = c.next_text-least in
    let w = least.new.vault in
    let out = g.V.Vault.outside v in
    let mid = g.V.Vault.outside w in
    let m = c.args.m.now in
    let now = least.new.self in
    let key = c.in-Ok-Some.key in
    let object = c.in-Ok-Some.object in
    let is : least.result ≡ Ok (Some (key, object)) = search rules in
    let did = c.next_string in
    empty-follows c.args.scan out mid (g.V.Vault.outside did.new.vault) m did.new.m now did.result c.args.table key object least.ensures.leaves least.ensures.keeps
    (λ heap names a world d.
    subst (Answers m.objects now out mid (AreFoundText now mid names) heap names (next_key true heap a None)) is (least.ensures.next heap names None a world tt d))
    (λ names bytes denotes. no-bytes bytes (let none = c.if-text_length-eq0.true in let count = c.text_length.ensures.value w names bytes denotes in omega (arith, none, count)))
    did.ensures.follows

pub returns-then-text_length-eq0-clause-fails : goal.returns-then-text_length-eq0-clause-fails
returns-then-text_length-eq0-clause-fails g c =
    let least = c.next_text-least in
    let did = c.next_string in
    failing-behind (g.V.Vault.outside c.args.vault.now) (g.V.Vault.outside least.new.vault) (g.V.Vault.outside did.new.vault) did.result did.new.m
    least.ensures.leaves did.ensures.fails

pub returns-in-Err-Trap-clause-follows : goal.returns-in-Err-Trap-clause-follows
returns-in-Err-Trap-clause-follows g c =
    let v = c.args.vault.now in
    let least = c.next_text-least in
    let w = least.new.vault in
    let out = g.V.Vault.outside v in
    let after = g.V.Vault.outside w in
    let m = c.args.m.now in
    let now = least.new.self in
    let trap = c.in-Err-Trap.trap in
    let is : least.result ≡ Err (op.Trap trap) = search rules in
    let did = c.trapped in
    scan-trapped true c.args.scan out after m did.new.m now did.result c.requires.names least.ensures.leaves least.ensures.keeps (λ names found f. AreFoundText now after names found f)
    (IsTable m.objects out c.args.table) (λ a. a) (λ a. Some (string_key [])) trap
    (λ heap names a world d. above-trap out after m now heap names a trap
    (subst (Answers m.objects now out after (AreFoundText now after names) heap names (next_key true heap a None)) is (least.ensures.next heap names None a world tt d.table_is)))
    (did.ensures.takes v).sound did.ensures.answer did.ensures.left

pub returns-in-Err-Swizzle-clause-follows : goal.returns-in-Err-Swizzle-clause-follows
returns-in-Err-Swizzle-clause-follows g c =
    let v = c.args.vault.now in
    let least = c.next_text-least in
    let w = least.new.vault in
    let out = g.V.Vault.outside v in
    let after = g.V.Vault.outside w in
    let m = c.args.m.now in
    let now = least.new.self in
    let fault = c.in-Err-Swizzle.fault in
    let is : least.result ≡ Err (op.Swizzle fault) = search rules in
    let did = c.broke in
    scan-broken true c.args.scan out after m did.new.m now did.result c.requires.names least.ensures.leaves least.ensures.keeps (λ names found f. AreFoundText now after names found f)
    (IsTable m.objects out c.args.table) (λ a. a) (λ a. Some (string_key [])) fault
    (λ heap names a world d.
    subst (Answers m.objects now out after (AreFoundText now after names) heap names (next_key true heap a None)) is (least.ensures.next heap names None a world tt d.table_is))
    did.ensures.answer (did.ensures.breaks v w)
