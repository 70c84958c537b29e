use Rattle.std.proofs.Common.{◌≡◌, ap, ◌∙◌, ℕ, length, arith}
use lib.Dec.{leb}
use Rattle.ps_stepping.specs.ps_heap.Texts.{is_at_end}
use Rattle.machine_core.proofs.Lines.{at-end}
use Rattle.machine_core.proofs.input.Input.is_at_end.Goals as goal

pub returns : goal.returns
returns c =
    let self = c.self.inside in
    let long : c.len.result ≡ length self.bytes.items = omega (arith, c.len.ensures, self.bytes.ok.0) in
    ap (λ (n : ℕ). leb n self.read) long ∙ at-end self.bytes.items self.read ∙ ap is_at_end c.self.view_is
