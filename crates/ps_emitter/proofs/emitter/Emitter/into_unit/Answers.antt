use Rattle.std.proofs.Common.{ap, ◌∙◌}
use Rattle.ps_base.specs.List.{items_of}
use Rattle.ps_base.specs.CodeUnit.{unit, constants_view}
use Rattle.ps_emitter.proofs.emitter.Emitter.into_unit.Goals as goal

pub returns : goal.returns
returns c =
    ap (λ z. unit z (constants_view (items_of c.new-2.result)) c.args.frame) c.new.ensures
    ∙ ap (λ z. unit c.args.self.code.items z c.args.frame) (ap constants_view c.new-2.ensures)
