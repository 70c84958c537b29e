use Rattle.std.proofs.Common.{Ok, Err, sym, subst}
use Rattle.joint_ops.specs.swizzle.Heap.{Heap}
use Rattle.joint_ops.specs.heap_texts.declared.fault.OpFault.{OpFault}
use Rattle.objects.proofs.LastingLaws.{keeps-lasts}
use Rattle.objects.proofs.KnownLaws.{right-stays}
use Rattle.objects.proofs.BrokenLaws.{lasts-broken}
use Rattle.objects.proofs.TableLaws.{entered-lasts}
use Rattle.objects.proofs.EnterRuns.{text-run}
use Rattle.objects.proofs.TableCalls.{EntersTextRun}
use Rattle.objects.proofs.objects.Objects.enter_text.Goals as goal

pub invariant_of-self : goal.invariant_of-self
invariant_of-self g c =
    let here = c.self.inside.sw in
    let new = c.enter_text-done.new.sw in
    let before = g.V.Vault.outside c.args.vault.now in
    let after = g.V.Vault.outside c.enter_text-done.new.vault in
    right-stays here new c.self.inside.known c.self.invariant
    (entered-lasts here new before after c.args.table c.in-Ok.ensures.table c.in-Ok.ensures.spares)

pub invariant_of-self-in-Err : goal.invariant_of-self-in-Err
invariant_of-self-in-Err g c =
    let here = c.self.inside.sw in
    let new = c.enter_text-done.new.sw in
    c.keep.ensures.right here new c.self.invariant (lasts-broken here new c.in-Err.fault (keeps-lasts here new c.in-Err.ensures.still.keeps))

pub returns-in-Ok-clause-run : goal.returns-in-Ok-clause-run
returns-in-Ok-clause-run g c =
    let here = c.self.inside.sw in
    let new = c.enter_text-done.new.sw in
    let before = g.V.Vault.outside c.args.vault.now in
    let after = g.V.Vault.outside c.enter_text-done.new.vault in
    subst (λ (x : Heap). EntersTextRun x new before after c.args.key c.args.table c.args.to (Ok tt)) c.self.view_is
    (text-run here new before after c.sound.ensures c.sound-2.ensures c.args.table c.args.to (Ok tt) c.in-Ok.ensures.table c.in-Ok.ensures.spares c.args.key
    c.in-Ok.ensures.entered c.in-Ok.ensures.pairs)

pub returns-in-Err-clause-run : goal.returns-in-Err-clause-run
returns-in-Err-clause-run g c =
    let here = c.self.inside.sw in
    let new = c.enter_text-done.new.sw in
    let before = g.V.Vault.outside c.args.vault.now in
    let after = g.V.Vault.outside c.enter_text-done.new.vault in
    subst (λ (x : Heap). EntersTextRun x new before after c.args.key c.args.table c.args.to (Err c.keep.result)) c.self.view_is
    (subst (λ (f : OpFault). EntersTextRun here new before after c.args.key c.args.table c.args.to (Err f)) (sym c.keep.ensures.same)
    (text-run here new before after c.sound.ensures c.sound-2.ensures c.args.table c.args.to (Err c.in-Err.fault) c.in-Err.ensures.table c.in-Err.ensures.spares c.args.key
    c.in-Err.ensures.entered c.in-Err.ensures.pairs))
