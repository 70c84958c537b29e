use Rattle.std.proofs.Common.{w32}
use Rattle.std.proofs.lemmas.Int.{to_z-of_z}
use Rattle.objects.proofs.ElementLaws.{element-got}
use Rattle.objects.proofs.objects.Objects.get_element.Goals as goal

pub returns-in-Some-clause-got : goal.returns-in-Some-clause-got
returns-in-Some-clause-got g c = rw (← c.self.view_is) (λ of names id world denotes.
    element-got c.self.inside.sw (g.V.Vault.outside c.args.vault.now) of names c.args.vector id c.args.at _ c.in-Some.value c.sound.ensures
    (g.met.V.Vault.one c.args.vault.now) (to_z-of_z w32 c.args.at c.ranges.at) world denotes c.in-Some.ensures)
