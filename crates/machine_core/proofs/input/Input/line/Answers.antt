use Rattle.std.proofs.Common.{ℕ, take, ap, ◌∙◌, arith}
use Rattle.ps_stepping.specs.ps_heap.Texts.{line_of}
use Rattle.machine_core.proofs.Lines.{line-is, line-within}
use Rattle.machine_core.proofs.input.Input.line.Goals as goal

pub split_at-requires : goal.split_at-requires
split_at-requires c =
    let low = line-within c.left-left.result.now in
    omega (arith, low, c.line_length.ensures)

pub returns : goal.returns
returns c =
    let left = c.left-left.result.now in
    c.split_at.ensures.front ∙ ap (λ (n : ℕ). take n left) c.line_length.ensures ∙ line-is left ∙ ap line_of c.left-left.ensures
