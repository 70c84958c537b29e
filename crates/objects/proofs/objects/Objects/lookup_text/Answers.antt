use Rattle.std.proofs.Common.{Ok, Err, sym, subst}
use Rattle.joint_ops.specs.swizzle.Heap.{Heap}
use Rattle.joint_ops.specs.heap_texts.declared.fault.OpFault.{OpFault}
use Rattle.objects.proofs.LastingLaws.{keeps-lasts}
use Rattle.objects.proofs.KnownLaws.{right-stays}
use Rattle.objects.proofs.BrokenLaws.{lasts-broken}
use Rattle.objects.proofs.TableCalls.{LooksUpText}
use Rattle.objects.proofs.objects.Objects.lookup_text.Goals as goal

pub invariant_of-self : goal.invariant_of-self
invariant_of-self g c =
    let here = c.self.inside.sw in
    let new = c.find_text-got.new.sw in
    right-stays here new c.self.inside.known c.self.invariant (keeps-lasts here new c.find_text-got.ensures.keeps)

pub invariant_of-self-in-Err : goal.invariant_of-self-in-Err
invariant_of-self-in-Err g c =
    let here = c.self.inside.sw in
    let new = c.find_text-got.new.sw in
    c.keep.ensures.right here new c.self.invariant (lasts-broken here new c.in-Err.fault (keeps-lasts here new c.find_text-got.ensures.keeps))

pub returns-in-Ok-clause-looked : goal.returns-in-Ok-clause-looked
returns-in-Ok-clause-looked g c =
    let here = c.self.inside.sw in
    let new = c.find_text-got.new.sw in
    let before = g.V.Vault.outside c.args.vault.now in
    let after = g.V.Vault.outside c.find_text-got.new.vault in
    subst (λ (x : Heap). LooksUpText x new before after c.args.key c.args.table (Ok c.in-Ok.found)) c.self.view_is
    c.in-Ok.ensures.looked

pub returns-in-Err-clause-looked : goal.returns-in-Err-clause-looked
returns-in-Err-clause-looked g c =
    let here = c.self.inside.sw in
    let new = c.find_text-got.new.sw in
    let before = g.V.Vault.outside c.args.vault.now in
    let after = g.V.Vault.outside c.find_text-got.new.vault in
    subst (λ (x : Heap). LooksUpText x new before after c.args.key c.args.table (Err c.keep.result)) c.self.view_is
    (subst (λ (f : OpFault). LooksUpText here new before after c.args.key c.args.table (Err f)) (sym c.keep.ensures.same)
    c.in-Err.ensures.looked)
