use Rattle.std.proofs.Common.{sym, refl, ◌∙◌}
use Rattle.ps_emitter.specs.Choices as choice
use Rattle.ps_emitter.specs.Pieces.{◌▷◌, one, to_behind}
use Rattle.ps_emitter.proofs.Putting.{seq}
use Rattle.ps_emitter.proofs.ChoiceWidths.{width_scan}
use Rattle.ps_emitter.proofs.Steps.{one_is, single, begun}
use Rattle.ps_emitter.proofs.emitter.Emitter.turns.Goals as goal

pub returns : goal.returns
unfolding one ◌▷◌ to_behind
returns c =
    let a = c.args in
    let turn = single (λ t. choice.scan a.text a.q a.s t a.line) (λ end. end) (λ t. width_scan a.text a.q a.s t a.line ∙ sym (width_scan a.text a.q a.s 0 a.line)) c.scan_by.ensures c.in_ok-hole.ensures
    (seq (one_is c.called.ensures c.in_ok-put.ensures) c.in_ok-put-2.ensures) c.in_ok-end.ensures c.scan_by-2.ensures c.overwrite.ensures.fits c.in_ok-overwrite.ensures.written in
    seq (begun _ c.in_ok-turn.turn turn c.in_ok-turn.ensures refl) c.in_ok-put-3.ensures
