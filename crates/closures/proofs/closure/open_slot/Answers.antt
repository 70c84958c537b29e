use Rattle.closures.proofs.ClosureLaws.{slot-below, opens}
use Rattle.closures.proofs.closure.open_slot.Goals as goal

pub touch_slot-requires-clause-below : goal.touch_slot-requires-clause-below
touch_slot-requires-clause-below g c =
    slot-below c.args.sw.now c.args.closure c.args.slot c.sound.ensures c.requires.held c.in-Ok.ensures c.requires.slot

pub returns-in-Ok-clause-opened : goal.returns-in-Ok-clause-opened
returns-in-Ok-clause-opened g c =
    let e = c.touch_slot.ensures in
    opens c.args.sw.now c.touch_slot.new.self (g.V.Vault.outside c.args.vault.now) (g.V.Vault.outside c.touch_slot.new.vault) c.args.closure
    c.args.slot
    c.touch_slot.result c.in-Ok.ensures e.target e.keeps e.joint (λ to is. (e.still to is).0) (λ near. (e.near near).0) e.only e.call e.fault
