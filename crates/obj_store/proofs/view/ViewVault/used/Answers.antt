use Rattle.std.proofs.Common.{ℕ, ◌∙◌, ap}
use Rattle.obj_store.specs.Spaces.{used_in}
use Rattle.obj_store.proofs.ViewLaws.{used_bounded}
use Rattle.obj_store.proofs.view.ViewVault.used.Goals as goal

pub returns : goal.returns
returns g c =
    let view = c.args.self.now in
    c.used_of.ensures ∙ ap (λ (n : ℕ). used_in view.source n) c.used.ensures ∙ used_bounded view.source view.store.now.used view.few
