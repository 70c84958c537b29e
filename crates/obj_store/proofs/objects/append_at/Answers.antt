use Rattle.std.proofs.Common.{◌≡◌, ◌+◌, ◌^◌, ◌<◌, ◌≤◌, ℕ, length, sym, ◌∙◌, ap, subst, arith}
use Rattle.paged_volume.specs.Layout.{capacity_of}
use Rattle.paged_volume.specs.declared.committed.Committed.{Committed}
use Rattle.obj_layout.specs.Stored.{appended}
use Rattle.obj_store.specs.Spaces.{IsInOrder}
use Rattle.obj_store.specs.Words.{HoldsPut}
use Rattle.paged_volume.specs.Staging.{HasPages}
use Rattle.obj_store.specs.StoreLaws.{order_low}
use Rattle.obj_store.proofs.WriteLaws.{has_more}
use Rattle.obj_store.proofs.ChangeLaws.{becomes_of, joins_append}
use Rattle.obj_store.proofs.LackLaws.{fault_told}
use Rattle.obj_store.proofs.FaultLaws.{append_refused}
use Rattle.obj_store.specs.Tested.{IsAppendFault}
use Rattle.obj_store.proofs.objects.append_at.Goals as goal

pub returns-in-Ok-clause-becomes : goal.returns-in-Ok-clause-becomes
returns-in-Ok-clause-becomes g c =
    let o = g.H.Host.outside in
    let v = c.args.volume.now in
    let z = c.write_words.new.volume in
    let put = c.args.words.now in
    let used = c.args.used in
    let order = c.requires.order in
    let below = order.below in
    let most : c.capacity-capacity.result ≡ capacity_of v.table.committed.pages = c.capacity-capacity.ensures ∙ ap (λ (n : ℕ). capacity_of n) c.pages.ensures in
    let fits : used + length put ≤ capacity_of v.table.committed.pages = omega (arith, c.if-wanted-capacity.false, most, order.within) in
    let next : IsInOrder (used + length put) v.table.committed = record { fit = order.fit; below = omega arith; within = fits } in
    becomes_of used (used + length put) v.table z.table (o v.host) (o z.host) (HoldsPut used (used + length put) used put) (appended put)
    c.in-Ok.ensures.turns order (subst (λ (k : Committed). IsInOrder (used + length put) k) (sym c.write_words.ensures.committed) next) (λ x y is. joins_append used put x y is)

pub logical_pages-had-requires : goal.logical_pages-had-requires
logical_pages-had-requires g c =
    let low = order_low c.args.used c.args.volume.now.table.committed c.requires.order in
    let few = low.1 in
    let fits : c.args.used + 511 < 2 ^ 64 = omega arith in
    fits

pub overflow_cast-had : goal.overflow_cast-had
overflow_cast-had g c =
    let low = order_low c.args.used c.args.volume.now.table.committed c.requires.order in
    let few = low.1 in
    omega (arith, c.logical_pages-had.ensures)

pub write_words-requires-clause-has : goal.write_words-requires-clause-has
write_words-requires-clause-has g c = subst (λ (n : ℕ). HasPages c.args.volume.now.table n) (sym c.logical_pages-had.ensures) c.requires.has

pub returns-in-Ok-clause-has : goal.returns-in-Ok-clause-has
returns-in-Ok-clause-has g c = has_more c.args.used (length c.args.words.now) c.args.volume.now.table c.write_words.new.volume.table c.requires.has c.in-Ok.ensures.marks

pub returns-in-Err-clause-fault : goal.returns-in-Err-clause-fault
returns-in-Err-clause-fault g c =
    let o = g.H.Host.outside in
    let v = c.args.volume.now in
    let z = c.write_words.new.volume in
    subst (IsAppendFault (o v.host) (o z.host) z.table c.args.used (length c.args.words.now) (capacity_of v.table.committed.pages)) (sym c.vault_fault.ensures)
    (append_refused (o v.host) (o z.host) z.table c.args.used (length c.args.words.now) (capacity_of v.table.committed.pages) _ (fault_told (o v.host) (o z.host) z.table 1 c.in-Err.fault c.in-Err.ensures.fault))
