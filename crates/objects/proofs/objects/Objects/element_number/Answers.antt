use Rattle.std.proofs.Common.{w32}
use Rattle.std.proofs.lemmas.Int.{to_z-of_z}
use Rattle.objects.proofs.NumberLaws.{numbers-got}
use Rattle.objects.proofs.objects.Objects.element_number.Goals as goal

pub returns : goal.returns
returns g c = rw (← c.self.view_is) (λ vault of names id world denotes.
    numbers-got c.self.inside.sw (g.V.Vault.outside vault) of names c.args.vector id c.args.at _ c.sound.ensures
    (g.met.V.Vault.one vault) (to_z-of_z w32 c.args.at c.ranges.at) world denotes c.peek_number.result c.peek_number.ensures)
