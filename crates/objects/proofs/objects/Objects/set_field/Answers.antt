use Rattle.std.proofs.Common.{◌≡◌, subst}
use Rattle.joint_ops.specs.swizzle.Heap.{Heap}
use Rattle.objects.proofs.KnownLaws.{right-stays}
use Rattle.objects.proofs.LaterLaws.{SetsAll}
use Rattle.objects.proofs.ReachedLaws.{put-set, put-lacks, put-notes, put-lasts, put-row, put-near}
use Rattle.objects.proofs.objects.Objects.set_field.Goals as goal

pub write_place-requires-clause-place : goal.write_place-requires-clause-place
write_place-requires-clause-place g c =
    put-row c.self.inside.sw c.args.code c.args.constant c.args.field c.args.object c.args.to c.in-Some.put c.in-Some.ensures

pub write_place-requires-clause-near : goal.write_place-requires-clause-near
write_place-requires-clause-near g c =
    put-near c.self.inside.sw c.args.self.now c.args.code c.args.constant c.args.field c.args.object c.args.to c.in-Some.put c.self.view_is c.in-Some.ensures
    c.requires.near

pub invariant_of-self : goal.invariant_of-self
invariant_of-self g c =
    right-stays c.self.inside.sw c.write_place.new.sw c.self.inside.known c.self.invariant
    (put-lasts c.self.inside.sw c.write_place.new.sw c.args.code c.args.constant c.args.field c.args.object c.args.to c.in-Some.put c.sound.ensures
    c.in-Some.ensures c.write_place.ensures.written)

pub returns-in-Some-clause-set : goal.returns-in-Some-clause-set
returns-in-Some-clause-set g c =
    put-set c.self.inside.sw c.args.self.now c.write_place.new.sw (g.V.Vault.outside c.args.vault.now) c.args.code c.args.constant c.args.field c.args.object
    c.args.to c.in-Some.put c.self.view_is c.sound.ensures c.sound-in-Some.ensures (g.met.V.Vault.one c.args.vault.now) c.in-Some.ensures c.write_place.ensures.written

pub returns-in-Some-clause-damaged : goal.returns-in-Some-clause-damaged
returns-in-Some-clause-damaged g c lacks =
    absurd (put-lacks c.self.inside.sw c.args.self.now (g.V.Vault.outside c.args.vault.now) c.args.code c.args.constant c.args.field c.args.object
    c.args.to c.in-Some.put c.self.view_is c.sound.ensures c.in-Some.ensures lacks)

pub returns-in-Some-clause-notes : goal.returns-in-Some-clause-notes
returns-in-Some-clause-notes g c =
    put-notes c.self.inside.sw c.args.self.now c.write_place.new.sw c.args.code c.args.constant c.args.field c.args.object c.args.to c.in-Some.put
    c.self.view_is c.in-Some.ensures c.write_place.ensures.written

pub returns-in-None-clause-set : goal.returns-in-None-clause-set
returns-in-None-clause-set g c =
    subst (λ (x : Heap). SetsAll x c.write_field.new.sw (g.V.Vault.outside c.args.vault.now) (g.V.Vault.outside c.write_field.new.vault) c.args.code
    c.args.constant c.args.field c.args.object c.args.to c.write_field.result) c.self.view_is c.write_field.ensures.set

pub returns-in-Some-clause-size : goal.returns-in-Some-clause-size
returns-in-Some-clause-size g c =
    let new = c.write_place.new.sw in
    subst (λ (x : Heap). new.size ≡ x.size) c.self.view_is
    (put-lasts c.self.inside.sw new c.args.code c.args.constant c.args.field c.args.object c.args.to c.in-Some.put c.sound.ensures
    c.in-Some.ensures c.write_place.ensures.written).size
