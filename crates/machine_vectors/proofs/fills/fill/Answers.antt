use Rattle.std.proofs.Common.{◌≡◌, w32, to_z, of_z, rules}
use Rattle.machine_operands.proofs.Parts.{making-fails}
use Rattle.machine_vectors.proofs.VectorFills.{filled-made}
use Rattle.machine_vectors.proofs.fills.fill.Goals as goal

pub returns-clause-makes : goal.returns-clause-makes
returns-clause-makes g c =
    let v = c.args.vault.now in
    let out = g.V.Vault.outside v in
    let p = c.in-Some.ensures in
    let q = c.in-Some-pop_int.ensures in
    let made = c.make_vector-made in
    let give = c.give_object in
    let high = c.in-Some.high in
    let low = c.in-Some-pop_int.low in
    let same_high : to_z w32 (of_z w32 high) ≡ high = search rules in
    let same_low : to_z w32 (of_z w32 low) ≡ low = search rules in
    filled-made out c.args.ty c.args.to c.args.line c.args.m.now c.pop_int.new.m p.leaves high (p.pops v) c.pop_int-2.new.m q.leaves low _ _ same_high same_low (q.pops v)
    q.names made.new.self give.new.m give.result made.result made.ensures.keeps made.ensures.held made.ensures.made (give.ensures v)

pub returns-clause-fails : goal.returns-clause-fails
returns-clause-fails g c =
    let v = c.args.vault.now in
    let made = c.make_vector-made in
    let give = c.give_object in
    making-fails (g.V.Vault.outside v) c.pop_int-2.new.m.objects made.new.self give.new.m give.result made.result (give.ensures v).ends.breaks made.ensures.fails
