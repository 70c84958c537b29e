use Rattle.std.proofs.Common.{ℤ, w32, Ok, Err, sym, subst}
use Rattle.std.proofs.lemmas.Int.{to_z-of_z}
use Rattle.joint_ops.specs.swizzle.Heap.{Heap}
use Rattle.joint_ops.specs.heap_texts.declared.fault.OpFault.{OpFault}
use Rattle.objects.proofs.LastingLaws.{keeps-lasts}
use Rattle.objects.proofs.KnownLaws.{right-stays}
use Rattle.objects.proofs.BrokenLaws.{lasts-broken}
use Rattle.objects.proofs.TableLaws.{entered-lasts}
use Rattle.objects.proofs.EnterRuns.{int-run}
use Rattle.objects.proofs.TableCalls.{EntersIntRun}
use Rattle.objects.proofs.objects.Objects.enter_int.Goals as goal

pub invariant_of-self : goal.invariant_of-self
invariant_of-self g c =
    let here = c.self.inside.sw in
    let new = c.enter_int-done.new.sw in
    let before = g.V.Vault.outside c.args.vault.now in
    let after = g.V.Vault.outside c.enter_int-done.new.vault in
    right-stays here new c.self.inside.known c.self.invariant
    (entered-lasts here new before after c.args.table c.in-Ok.ensures.table c.in-Ok.ensures.spares)

pub invariant_of-self-in-Err : goal.invariant_of-self-in-Err
invariant_of-self-in-Err g c =
    let here = c.self.inside.sw in
    let new = c.enter_int-done.new.sw in
    c.keep.ensures.right here new c.self.invariant (lasts-broken here new c.in-Err.fault (keeps-lasts here new c.in-Err.ensures.still.keeps))

pub returns-in-Ok-clause-run : goal.returns-in-Ok-clause-run
returns-in-Ok-clause-run g c =
    let here = c.self.inside.sw in
    let new = c.enter_int-done.new.sw in
    let before = g.V.Vault.outside c.args.vault.now in
    let after = g.V.Vault.outside c.enter_int-done.new.vault in
    subst (λ (x : Heap). EntersIntRun x new before after c.args.key c.args.table c.args.to (Ok tt)) c.self.view_is
    (subst (λ (z : ℤ). EntersIntRun here new before after z c.args.table c.args.to (Ok tt)) (to_z-of_z w32 c.args.key c.ranges.key)
    (int-run here new before after c.sound.ensures c.sound-2.ensures c.args.table c.args.to (Ok tt) c.in-Ok.ensures.table c.in-Ok.ensures.spares _
    c.in-Ok.ensures.entered c.in-Ok.ensures.pairs))

pub returns-in-Err-clause-run : goal.returns-in-Err-clause-run
returns-in-Err-clause-run g c =
    let here = c.self.inside.sw in
    let new = c.enter_int-done.new.sw in
    let before = g.V.Vault.outside c.args.vault.now in
    let after = g.V.Vault.outside c.enter_int-done.new.vault in
    subst (λ (x : Heap). EntersIntRun x new before after c.args.key c.args.table c.args.to (Err c.keep.result)) c.self.view_is
    (subst (λ (f : OpFault). EntersIntRun here new before after c.args.key c.args.table c.args.to (Err f)) (sym c.keep.ensures.same)
    (subst (λ (z : ℤ). EntersIntRun here new before after z c.args.table c.args.to (Err c.in-Err.fault)) (to_z-of_z w32 c.args.key c.ranges.key)
    (int-run here new before after c.sound.ensures c.sound-2.ensures c.args.table c.args.to (Err c.in-Err.fault) c.in-Err.ensures.table c.in-Err.ensures.spares _
    c.in-Err.ensures.entered c.in-Err.ensures.pairs)))
