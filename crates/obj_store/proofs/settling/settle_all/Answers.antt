use Rattle.std.proofs.Common.{◌<◌, sym, ap, subst, arith, Err}
use Rattle.paged_volume.specs.Standing.{logical_of}
use Rattle.paged_volume.proofs.Tables.{committed_staged}
use Rattle.paged_volume.specs.declared.committed.Committed.{Committed}
use Rattle.obj_store.specs.Spaces.{IsInOrder, spaces}
use Rattle.obj_store.proofs.SettleLaws.{switch_becomes, switch_settles, switch_fails, switched_order}
use Rattle.obj_store.proofs.LackLaws.{switch_fault}
use Rattle.obj_layout.specs.declared.vault.VaultFault.{VaultFault}
use Rattle.obj_layout.specs.Stored.{directed}
use Rattle.obj_layout.specs.Storing.{Settles, settling}
use Rattle.obj_store.specs.Tested.{IsSettleFault}
use Rattle.paged_volume.specs.Planning.{switched}
use Rattle.obj_store.proofs.settling.settle_all.Goals as goal

pub returns-in-Ok-clause-becomes : goal.returns-in-Ok-clause-becomes
returns-in-Ok-clause-becomes g c =
    let o = g.H.Host.outside in
    let v = c.args.volume.now in
    let z = c.switch.new.self in
    let order = c.requires.order in
    let below = c.requires.below in
    let next = switched_order c.args.used c.args.directory v.table.committed z.table.committed order (omega arith) below c.in-Ok.ensures.committed in
    let is = c.in-Ok.ensures.switches in
    switch_becomes c.args.used c.args.directory v.table z.table (o v.host) (o z.host) order next is.holds is.stays

pub returns-in-Ok-clause-settles : goal.returns-in-Ok-clause-settles
returns-in-Ok-clause-settles g c =
    let o = g.H.Host.outside in
    let v = c.args.volume.now in
    let z = c.switch.new.self in
    let order = c.requires.order in
    let below = c.requires.below in
    let next = switched_order c.args.used c.args.directory v.table.committed z.table.committed order (omega arith) below c.in-Ok.ensures.committed in
    switch_settles c.args.used c.args.directory v.table z.table (o v.host) (o z.host) order next c.switch.ensures.past (omega arith) c.switch.ensures.calls.most c.in-Ok.ensures.switches

pub returns-in-Err-clause-settles : goal.returns-in-Err-clause-settles
returns-in-Err-clause-settles g c =
    let o = g.H.Host.outside in
    let v = c.args.volume.now in
    let z = c.switch.new.self in
    let order = c.requires.order in
    subst (λ (f : VaultFault). Settles {T = Unit {0}} (spaces c.args.used v.table (o v.host)) (spaces c.args.used z.table (o z.host)) (settling c.args.used) (directed c.args.directory) (Err f)) (sym c.vault_fault.ensures)
    (switch_fails o v.host z.host v.live z.live c.args.used c.args.directory v.table z.table (switched c.args.used c.args.directory v.table.committed) c.in-Err.fault order
    (subst (λ (k : Committed). IsInOrder c.args.used k) (sym c.in-Err.ensures.uncommitted) order) c.switch.ensures.past c.in-Err.ensures.fault c.in-Err.ensures.switches)

pub returns-in-Err-clause-fault : goal.returns-in-Err-clause-fault
returns-in-Err-clause-fault g c =
    let o = g.H.Host.outside in
    let v = c.args.volume.now in
    let z = c.switch.new.self in
    let next = switched c.args.used c.args.directory v.table.committed in
    subst (IsSettleFault v.table next) (sym c.vault_fault.ensures) (switch_fault o v.host z.host v.live z.live v.table z.table next c.in-Err.fault c.in-Err.ensures.fault)

pub returns-in-Ok-clause-note : goal.returns-in-Ok-clause-note
returns-in-Ok-clause-note g c = (ap (λ (k : Committed). k.note.used) c.in-Ok.ensures.committed, ap (λ (k : Committed). k.note.directory) c.in-Ok.ensures.committed)

pub returns-in-Ok-clause-order : goal.returns-in-Ok-clause-order
returns-in-Ok-clause-order g c =
    let v = c.args.volume.now in
    let z = c.switch.new.self in
    let below = c.requires.below in
    switched_order c.args.used c.args.directory v.table.committed z.table.committed c.requires.order (omega arith) below c.in-Ok.ensures.committed

pub returns-in-Err-clause-order : goal.returns-in-Err-clause-order
returns-in-Err-clause-order g c = subst (λ (k : Committed). IsInOrder c.args.used k) (sym c.in-Err.ensures.uncommitted) c.requires.order

pub returns-in-Ok-clause-has : goal.returns-in-Ok-clause-has
returns-in-Ok-clause-has g c = λ page lt.
    committed_staged c.switch.new.self.table c.in-Ok.ensures.alive.is_table page (subst (λ (k : Committed). page < logical_of k) (sym c.in-Ok.ensures.committed) lt)
