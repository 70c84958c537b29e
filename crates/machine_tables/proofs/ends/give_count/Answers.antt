use Rattle.std.proofs.Common.{◌≡◌, rules, sym, subst}
use Rattle.std.specs.Prelude.{Err}
use Rattle.machine_core.specs.heap_texts.declared.fault.OpFault.TheVariants as op
use Rattle.machine_tables.specs.inside.Ends.{GivesCount}
use Rattle.machine_tables.proofs.Endings.{count-given, count-failed}
use Rattle.machine_tables.proofs.ends.give_count.Goals as goal

pub returns-in-Ok : goal.returns-in-Ok
returns-in-Ok g c v =
    let out = g.V.Vault.outside v in
    let m = c.args.m.now in
    let did = c.push_count in
    subst (λ told. GivesCount out m did.new.m did.result c.args.line told) (sym c.in-Ok.is)
    (count-given out m did.new.m did.result c.args.line c.in-Ok.count did.ensures.goes (did.ensures.takes v))

pub returns-in-Err-Trap : goal.returns-in-Err-Trap
returns-in-Err-Trap g c v =
    let out = g.V.Vault.outside v in
    let m = c.args.m.now in
    let did = c.trapped in
    let is : c.args.counted ≡ Err (op.Trap c.in-Err-Trap.trap) = search rules in
    subst (λ told. GivesCount out m did.new.m did.result c.args.line told) (sym is)
    (count-failed out m did.new.m did.result c.args.line (op.Trap c.in-Err-Trap.trap) (did.ensures.takes v).sound did.ensures.answer did.ensures.left)

pub returns-in-Err-Swizzle : goal.returns-in-Err-Swizzle
returns-in-Err-Swizzle g c v =
    let out = g.V.Vault.outside v in
    let m = c.args.m.now in
    let did = c.broke in
    let is : c.args.counted ≡ Err (op.Swizzle c.in-Err-Swizzle.fault) = search rules in
    subst (λ told. GivesCount out m did.new.m did.result c.args.line told) (sym is)
    (count-failed out m did.new.m did.result c.args.line (op.Swizzle c.in-Err-Swizzle.fault) (did.ensures.breaks v v).sound did.ensures.answer did.ensures.left)
