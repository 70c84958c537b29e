use Rattle.std.proofs.Common.{ℕ, ◌∙◌, ap}
use Rattle.obj_store.specs.Spaces.{directory_by}
use Rattle.obj_store.proofs.view.ViewVault.directory.Goals as goal

pub returns : goal.returns
returns g c = c.directory_of.ensures ∙ ap (λ (n : ℕ). directory_by c.args.self.now.source n) c.directory.ensures
