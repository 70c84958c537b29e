use Rattle.objects.proofs.KnownForms.{form-known}
use Rattle.objects.proofs.objects.Objects.known_form.Goals as goal

pub returns-in-Some : goal.returns-in-Some
returns-in-Some g c = rw (← c.self.view_is) (λ vault of names id world denotes.
    form-known c.self.inside.sw (g.V.Vault.outside vault) of names c.args.vector id _ c.in-Some.found.form c.in-Some.found.place c.sound.ensures
    (g.met.V.Vault.one vault) world denotes (c.in-Some.ensures c.self.inside.sw c.self.invariant.vectors))
