use Rattle.std.proofs.Common.{◌≡◌, ℤ, w32, sym, subst, Ok}
use Rattle.std.proofs.lemmas.Int.{to_z-of_z}
use Rattle.joint_ops.specs.swizzle.Heap.{Heap}
use Rattle.joint_ops.specs.swizzle.Heap.{Stands as AllStand}
use Rattle.joint_ops.specs.heap_places.Places.{IsNear}
use Rattle.joint_ops.specs.heap_ops.Vectors.{SetsElement}
use Rattle.joint_ops.proofs.of_heap_ops.VectorLaws.{near-fitted}
use Rattle.objects.proofs.KnownLaws.{right-stays}
use Rattle.objects.proofs.ElementLaws.{can-put, reached-put, reached-held, put-lasts, Sets, element-set}
use Rattle.objects.proofs.KeptElements.{SetsKept, set-kept}
use Rattle.objects.proofs.objects.Objects.set_element.Goals as goal

pub put_element-requires-clause-put : goal.put_element-requires-clause-put
put_element-requires-clause-put g c =
    can-put c.self.inside.sw c.args.vector _ c.args.to c.in-Some.found.form c.in-Some.found.place c.in-Some.value c.sound.ensures
    (c.in-Some.ensures c.self.inside.sw c.self.invariant.vectors)

pub put_element-requires-clause-near : goal.put_element-requires-clause-near
put_element-requires-clause-near g c =
    near-fitted c.self.inside.sw c.in-Some.found.form c.args.to c.in-Some.value (c.in-Some.ensures c.self.inside.sw c.self.invariant.vectors).kept
    (subst (λ (x : Heap). IsNear x c.args.to) (sym c.self.view_is) c.requires.near)

pub invariant_of-self : goal.invariant_of-self
invariant_of-self g c =
    let here = c.self.inside.sw in
    let new = c.put_element.new.sw in
    let outside = g.V.Vault.outside c.args.vault.now in
    let p = c.in-Some.ensures here c.self.invariant.vectors in
    right-stays here new c.self.inside.known c.self.invariant
    (put-lasts here new outside outside c.args.vector _ c.args.to (Ok tt)
    (reached-held here c.args.vector _ c.in-Some.found.form c.in-Some.found.place c.sound.ensures p.reached)
    (reached-put here c.args.vector _ c.in-Some.found.form c.in-Some.found.place c.sound.ensures p.reached new outside c.args.to c.in-Some.value p.kept c.put_element.ensures))

pub returns-in-Some-clause-set : goal.returns-in-Some-clause-set
returns-in-Some-clause-set g c =
    let here = c.self.inside.sw in
    let new = c.put_element.new.sw in
    let outside = g.V.Vault.outside c.args.vault.now in
    let p = c.in-Some.ensures here c.self.invariant.vectors in
    subst (λ (x : Heap). Sets x new outside outside c.args.vector c.args.at c.args.to (Ok tt)) c.self.view_is
    (element-set here new outside c.args.vector c.args.at _ c.args.to c.sound.ensures c.sound-in-Some.ensures (g.met.V.Vault.one c.args.vault.now)
    (to_z-of_z w32 c.args.at c.ranges.at)
    (reached-put here c.args.vector _ c.in-Some.found.form c.in-Some.found.place c.sound.ensures p.reached new outside c.args.to c.in-Some.value p.kept c.put_element.ensures))

pub returns-in-Some-clause-does : goal.returns-in-Some-clause-does
returns-in-Some-clause-does g c =
    let here = c.self.inside.sw in
    let new = c.put_element.new.sw in
    let outside = g.V.Vault.outside c.args.vault.now in
    let p = c.in-Some.ensures here c.self.invariant.vectors in
    subst (λ (x : Heap). SetsElement x new outside outside c.args.vector c.args.at c.args.to (Ok tt)) c.self.view_is
    (subst (λ (z : ℤ). SetsElement here new outside outside c.args.vector z c.args.to (Ok tt)) (to_z-of_z w32 c.args.at c.ranges.at)
    (reached-put here c.args.vector _ c.in-Some.found.form c.in-Some.found.place c.sound.ensures p.reached new outside c.args.to c.in-Some.value p.kept c.put_element.ensures))

pub returns-in-Some-clause-stands : goal.returns-in-Some-clause-stands
returns-in-Some-clause-stands g c =
    let here = c.self.inside.sw in
    let new = c.put_element.new.sw in
    let outside = g.V.Vault.outside c.args.vault.now in
    let p = c.in-Some.ensures here c.self.invariant.vectors in
    let lasts = put-lasts here new outside outside c.args.vector _ c.args.to (Ok tt)
    (reached-held here c.args.vector _ c.in-Some.found.form c.in-Some.found.place c.sound.ensures p.reached)
    (reached-put here c.args.vector _ c.in-Some.found.form c.in-Some.found.place c.sound.ensures p.reached new outside c.args.to c.in-Some.value p.kept c.put_element.ensures) in
    subst (λ (x : Heap). AllStand x new) c.self.view_is lasts.stands

pub returns-in-None-clause-set : goal.returns-in-None-clause-set
returns-in-None-clause-set g c =
    let here = c.self.inside.sw in
    let new = c.write_element.new.sw in
    let before = g.V.Vault.outside c.args.vault.now in
    let after = g.V.Vault.outside c.write_element.new.vault in
    subst (λ (x : Heap). Sets x new before after c.args.vector c.args.at c.args.to c.write_element.result) c.self.view_is
    (subst (λ (z : ℤ). Sets here new before after c.args.vector z c.args.to c.write_element.result) (to_z-of_z w32 c.args.at c.ranges.at)
    c.write_element.ensures.set)

pub returns-in-Some-clause-kept : goal.returns-in-Some-clause-kept
returns-in-Some-clause-kept g c =
    let here = c.self.inside.sw in
    let new = c.put_element.new.sw in
    let outside = g.V.Vault.outside c.args.vault.now in
    let p = c.in-Some.ensures here c.self.invariant.vectors in
    subst (λ (x : Heap). SetsKept x new outside outside c.args.vector c.args.at c.args.to (Ok tt)) c.self.view_is
    (set-kept here new outside outside c.args.vector c.args.at _ c.args.to (Ok tt) c.sound.ensures c.sound-in-Some.ensures
    (g.met.V.Vault.one c.args.vault.now) (g.met.V.Vault.one c.args.vault.now) (to_z-of_z w32 c.args.at c.ranges.at)
    (reached-put here c.args.vector _ c.in-Some.found.form c.in-Some.found.place c.sound.ensures p.reached new outside c.args.to c.in-Some.value p.kept c.put_element.ensures))

pub returns-in-None-clause-kept : goal.returns-in-None-clause-kept
returns-in-None-clause-kept g c =
    let here = c.self.inside.sw in
    let new = c.write_element.new.sw in
    let before = g.V.Vault.outside c.args.vault.now in
    let after = g.V.Vault.outside c.write_element.new.vault in
    subst (λ (x : Heap). SetsKept x new before after c.args.vector c.args.at c.args.to c.write_element.result) c.self.view_is
    (subst (λ (z : ℤ). SetsKept here new before after c.args.vector z c.args.to c.write_element.result) (to_z-of_z w32 c.args.at c.ranges.at)
    c.write_element.ensures.kept)

pub returns-in-Some-clause-size : goal.returns-in-Some-clause-size
returns-in-Some-clause-size g c =
    let here = c.self.inside.sw in
    let new = c.put_element.new.sw in
    let outside = g.V.Vault.outside c.args.vault.now in
    let p = c.in-Some.ensures here c.self.invariant.vectors in
    let lasts = put-lasts here new outside outside c.args.vector _ c.args.to (Ok tt)
    (reached-held here c.args.vector _ c.in-Some.found.form c.in-Some.found.place c.sound.ensures p.reached)
    (reached-put here c.args.vector _ c.in-Some.found.form c.in-Some.found.place c.sound.ensures p.reached new outside c.args.to c.in-Some.value p.kept c.put_element.ensures) in
    subst (λ (x : Heap). new.size ≡ x.size) c.self.view_is lasts.size
