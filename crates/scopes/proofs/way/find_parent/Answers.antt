use Rattle.scopes.proofs.WayLaws.{parent-below, tells}
use Rattle.scopes.proofs.way.find_parent.Goals as goal

pub touch_slot-requires-clause-below : goal.touch_slot-requires-clause-below
touch_slot-requires-clause-below g c = parent-below c.args.sw.now c.args.scope c.sound.ensures c.requires.held c.in-Ok.ensures

pub returns-in-Ok-clause-told : goal.returns-in-Ok-clause-told
returns-in-Ok-clause-told g c =
    let e = c.touch_slot.ensures in
    tells c.args.sw.now c.touch_slot.new.self (g.V.Vault.outside c.args.vault.now) (g.V.Vault.outside c.touch_slot.new.vault) c.args.scope
    c.touch_slot.result c.in-Ok.ensures e.target e.keeps e.joint (λ near. (e.near near).0) e.only e.call e.fault
