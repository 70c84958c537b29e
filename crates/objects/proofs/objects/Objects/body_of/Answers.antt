use Rattle.std.proofs.Common.{sym, subst, Ok}
use Rattle.joint_ops.specs.swizzle.Heap.{Heap, IsHeld}
use Rattle.joint_ops.proofs.of_heap_ops.LayoutLaws.{held-from}
use Rattle.objects.specs.Bodies.{HasBody}
use Rattle.objects.proofs.BodyLaws.{GotBody, body-known, body-place, body-scope}
use Rattle.objects.proofs.objects.Objects.body_of.Goals as goal

pub find-requires : goal.find-requires
find-requires g c =
    (held-from c.self.inside.sw c.args.procedure c.sound.ensures
    (subst (λ (x : Heap). IsHeld x c.args.procedure) (sym c.self.view_is) c.requires.held)).0

pub returns-in-Some-clause-got : goal.returns-in-Some-clause-got
returns-in-Some-clause-got g c =
    let outside = g.V.Vault.outside c.args.vault.now in
    let here = c.self.inside.sw in
    subst (λ (x : Heap). GotBody x x outside outside c.args.procedure (Ok c.in-Some.body)) c.self.view_is
    (body-known here outside c.args.procedure c.in-Some.body c.sound.ensures (c.in-Some.ensures here c.self.invariant.procedures))

pub returns-in-Some-clause-body : goal.returns-in-Some-clause-body
returns-in-Some-clause-body g c =
    subst (λ (x : Heap). HasBody x c.args.procedure c.in-Some.body) c.self.view_is (c.in-Some.ensures c.self.inside.sw c.self.invariant.procedures)

pub returns-in-Some-clause-place : goal.returns-in-Some-clause-place
returns-in-Some-clause-place g c = (returns-in-Some-clause-body g c).code.place

pub returns-in-Some-clause-scope : goal.returns-in-Some-clause-scope
returns-in-Some-clause-scope g c = body-scope c.args.self.now c.args.procedure (Ok c.in-Some.body) (returns-in-Some-clause-body g c)

pub returns-in-None-clause-got : goal.returns-in-None-clause-got
returns-in-None-clause-got g c =
    subst (λ (x : Heap). GotBody x c.read_body.new.sw (g.V.Vault.outside c.args.vault.now) (g.V.Vault.outside c.read_body.new.vault) c.args.procedure
    c.read_body.result) c.self.view_is c.read_body.ensures.got

pub returns-in-None-clause-place : goal.returns-in-None-clause-place
returns-in-None-clause-place g c = body-place c.read_body.new.sw c.args.procedure c.read_body.result c.read_body.ensures.body

pub returns-in-None-clause-scope : goal.returns-in-None-clause-scope
returns-in-None-clause-scope g c = body-scope c.read_body.new.sw c.args.procedure c.read_body.result c.read_body.ensures.body
