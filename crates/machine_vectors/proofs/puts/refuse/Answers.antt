use Rattle.std.proofs.Common.{◌≡◌, ℤ, w32, to_z, of_z, rules, subst}
use Rattle.std.specs.Prelude.{Result, Err}
use Rattle.std.proofs.lemmas.Int.{to_z-of_z}
use Rattle.machine_core.specs.swizzle.Touch.{Keeps}
use Rattle.machine_core.specs.heap_places.declared.value.Value.{Value}
use Rattle.machine_core.specs.heap_ops.Outcomes.{UnlessFault}
use Rattle.machine_core.specs.heap_texts.declared.fault.OpFault.{OpFault}
use Rattle.machine_core.specs.heap_texts.declared.fault.OpFault.TheVariants as op
use Rattle.machine_core.specs.declared.stepped.Stepped.TheVariants.{Damaged}
use Rattle.machine_vectors.specs.inside.Elements.{RefusesElement}
use Rattle.machine_vectors.proofs.ElementPuts.{Found, refused-broken, refused-inside, refused-outside}
use Rattle.machine_vectors.proofs.puts.refuse.Goals as goal

pub returns-in-Ok-clause-refuses : goal.returns-in-Ok-clause-refuses
returns-in-Ok-clause-refuses g c =
    let got = c.get_element-got in
    let before = g.V.Vault.outside c.args.vault.now in
    let after = g.V.Vault.outside got.new.vault in
    let m = c.args.m.now in
    let given = c.in-Ok.ensures in
    subst (λ (i : ℤ). RefusesElement before after c.args.line i c.args.vector m (record m { objects = got.new.self }) Damaged) (to_z-of_z w32 c.args.at c.ranges.at)
    (refused-inside before after m got.new.self c.args.vector c.args.line _ c.requires.sound c.requires.names given.leaves _ given.keeps given.got)

pub returns-in-Err-Trap-clause-refuses : goal.returns-in-Err-Trap-clause-refuses
returns-in-Err-Trap-clause-refuses g c =
    let got = c.get_element-got in
    let w = got.new.vault in
    let before = g.V.Vault.outside c.args.vault.now in
    let after = g.V.Vault.outside w in
    let m = c.args.m.now in
    let now = got.new.self in
    let vector = c.args.vector in
    let line = c.args.line in
    let place = to_z w32 (of_z w32 c.args.at) in
    let left = got.ensures.leaves in
    let sound = c.requires.sound in
    let named = c.requires.names in
    let stop = c.trapped in
    let trap = c.in-Err-Trap.trap in
    let is : got.result ≡ Err (op.Trap trap) = search rules in
    subst (λ (i : ℤ). RefusesElement before after line i vector m stop.new.m stop.result) (to_z-of_z w32 c.args.at c.ranges.at)
    (refused-outside before after m now vector line place sound named left trap stop.new.m stop.result
    (subst (λ (r : Result Value OpFault). UnlessFault r (Keeps m.objects now)) is got.ensures.keeps)
    (subst (Found before after m now vector line place sound named left) is got.ensures.got) (stop.ensures.takes w))

pub returns-in-Err-Swizzle-clause-refuses : goal.returns-in-Err-Swizzle-clause-refuses
returns-in-Err-Swizzle-clause-refuses g c =
    let got = c.get_element-got in
    let v = c.args.vault.now in
    let w = got.new.vault in
    let before = g.V.Vault.outside v in
    let after = g.V.Vault.outside w in
    let m = c.args.m.now in
    let now = got.new.self in
    let vector = c.args.vector in
    let line = c.args.line in
    let place = to_z w32 (of_z w32 c.args.at) in
    let left = got.ensures.leaves in
    let sound = c.requires.sound in
    let named = c.requires.names in
    let broke = c.broke in
    let fault = c.in-Err-Swizzle.fault in
    let is : got.result ≡ Err (op.Swizzle fault) = search rules in
    subst (λ (i : ℤ). RefusesElement before after line i vector m broke.new.m broke.result) (to_z-of_z w32 c.args.at c.ranges.at)
    (refused-broken before after m now vector line place sound named left fault broke.new.m broke.result broke.ensures.answer
    (subst (Found before after m now vector line place sound named left) is got.ensures.got) (broke.ensures.breaks v w))
