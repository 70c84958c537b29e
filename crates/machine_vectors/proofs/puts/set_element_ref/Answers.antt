use Rattle.std.proofs.Common.{◌≡◌, w32, to_z, of_z, rules}
use Rattle.machine_vectors.proofs.ElementPuts.{reference-taken}
use Rattle.machine_vectors.proofs.puts.set_element_ref.Goals as goal

pub returns-clause-takes : goal.returns-clause-takes
returns-clause-takes g c =
    let v = c.args.vault.now in
    let put = c.write_reference in
    let p = c.in-Some.ensures in
    let q = c.in-Some-pop_int.ensures in
    let x = c.in-Some-pop_vector.ensures in
    let at = c.in-Some-pop_int.at in
    let same_at : to_z w32 (of_z w32 at) ≡ at = search rules in
    reference-taken (g.V.Vault.outside v) c.args.line c.args.m.now c.pop_any.new.m p.leaves c.in-Some.to (p.pops v) c.pop_int.new.m q.leaves at (q.pops v)
    c.pop_vector.new.m x.leaves (g.V.Vault.outside put.new.vault) put.new.m put.result c.in-Some-pop_vector.vector _ same_at (x.pops v) put.ensures.puts
