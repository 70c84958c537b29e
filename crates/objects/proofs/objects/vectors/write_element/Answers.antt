use Rattle.std.proofs.Common.{◌≡◌, w32, to_z, of_z, Ok, Err, sym, subst}
use Rattle.std.proofs.lemmas.Int.{to_z-of_z}
use Rattle.objects.proofs.KnownLaws.{right-stays}
use Rattle.objects.proofs.BrokenLaws.{unless-broken, size-same}
use Rattle.joint_ops.specs.heap_texts.declared.fault.OpFault.{OpFault}
use Rattle.joint_ops.specs.heap_ops.Outcomes.{UnlessFault}
use Rattle.objects.proofs.ElementLaws.{put-lasts}
use Rattle.objects.proofs.KeptElements.{SetsKept, set-kept}
use Rattle.objects.specs.Lasting.{Lasts}
use Rattle.objects.proofs.objects.vectors.write_element.Goals as goal

pub returns-in-Ok-clause-set : goal.returns-in-Ok-clause-set
returns-in-Ok-clause-set g c = rw (to_z-of_z w32 c.args.at c.ranges.at) at c.in-Ok.ensures.set

pub returns-in-Ok-clause-right : goal.returns-in-Ok-clause-right
returns-in-Ok-clause-right g c =
    let old = c.args.sw.now in
    let new = c.set_element-set.new.sw in
    let right = right-stays old new c.args.known.now c.requires.right
    (put-lasts old new (g.V.Vault.outside c.args.vault.now) (g.V.Vault.outside c.set_element-set.new.vault) c.args.vector (to_z w32 (of_z w32 c.args.at)) c.args.to
    (Ok tt) c.requires.held c.in-Ok.ensures.does) in
    record { layouts = right.layouts; fields = right.fields; vectors = c.learn.ensures right.vectors; procedures = right.procedures; makes = right.makes }

pub returns-in-Err-clause-right : goal.returns-in-Err-clause-right
returns-in-Err-clause-right g c =
    let old = c.args.sw.now in
    let new = c.set_element-set.new.sw in
    c.keep.ensures.right old new c.requires.right
    (unless-broken (Unit {0}) (Lasts old new) c.in-Err.fault
    (put-lasts old new (g.V.Vault.outside c.args.vault.now) (g.V.Vault.outside c.set_element-set.new.vault) c.args.vector (to_z w32 (of_z w32 c.args.at)) c.args.to
    (Err c.in-Err.fault) c.requires.held c.in-Err.ensures.does))

pub returns-in-Ok-clause-kept : goal.returns-in-Ok-clause-kept
returns-in-Ok-clause-kept g c =
    set-kept c.args.sw.now c.set_element-set.new.sw (g.V.Vault.outside c.args.vault.now) (g.V.Vault.outside c.set_element-set.new.vault) c.args.vector c.args.at
    (to_z w32 (of_z w32 c.args.at)) c.args.to (Ok tt) c.sound.ensures c.sound-2.ensures (g.met.V.Vault.one c.args.vault.now)
    (g.met.V.Vault.one c.set_element-set.new.vault) (to_z-of_z w32 c.args.at c.ranges.at) c.in-Ok.ensures.does

pub returns-in-Err-clause-kept : goal.returns-in-Err-clause-kept
returns-in-Err-clause-kept g c =
    let old = c.args.sw.now in
    let new = c.set_element-set.new.sw in
    let before = g.V.Vault.outside c.args.vault.now in
    let after = g.V.Vault.outside c.set_element-set.new.vault in
    subst (λ (x : OpFault). SetsKept old new before after c.args.vector c.args.at c.args.to (Err x)) (sym c.keep.ensures.same)
    (set-kept old new before after c.args.vector c.args.at (to_z w32 (of_z w32 c.args.at)) c.args.to (Err c.in-Err.fault) c.sound.ensures c.sound-2.ensures
    (g.met.V.Vault.one c.args.vault.now) (g.met.V.Vault.one c.set_element-set.new.vault) (to_z-of_z w32 c.args.at c.ranges.at) c.in-Err.ensures.does)

pub returns-in-Ok-clause-size : goal.returns-in-Ok-clause-size
returns-in-Ok-clause-size g c =
    let old = c.args.sw.now in
    let new = c.set_element-set.new.sw in
    (put-lasts old new (g.V.Vault.outside c.args.vault.now) (g.V.Vault.outside c.set_element-set.new.vault) c.args.vector (to_z w32 (of_z w32 c.args.at)) c.args.to
    (Ok tt) c.requires.held c.in-Ok.ensures.does).size

pub returns-in-Err-clause-size : goal.returns-in-Err-clause-size
returns-in-Err-clause-size g c =
    let old = c.args.sw.now in
    let new = c.set_element-set.new.sw in
    subst (λ (f : OpFault). UnlessFault {T = Unit {0}} (Err f) (new.size ≡ old.size)) (sym c.keep.ensures.same)
    (size-same {T = Unit {0}} old new (Err c.in-Err.fault)
    (put-lasts old new (g.V.Vault.outside c.args.vault.now) (g.V.Vault.outside c.set_element-set.new.vault) c.args.vector (to_z w32 (of_z w32 c.args.at)) c.args.to
    (Err c.in-Err.fault) c.requires.held c.in-Err.ensures.does))
