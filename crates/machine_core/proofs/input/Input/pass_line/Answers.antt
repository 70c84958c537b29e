use Rattle.std.proofs.Common.{◌≡◌, ◌∙◌, ap, sym, ℕ, List, length, drop, arith}
use Rattle.std.proofs.lemmas.List.{length-drop}
use Rattle.ps_stepping.specs.ps_heap.Texts.{line_of, behind_line}
use Rattle.machine_core.proofs.Lines.{line-within, left-behind, nothing-behind}
use Rattle.machine_core.proofs.input.Input.pass_line.Goals as goal

pub overflow_add-behind : goal.overflow_add-behind
overflow_add-behind c =
    let self = c.self.inside in
    let within = c.self.invariant.within in
    let line = line-within c.args.self.now in
    let long = ap length c.self.view_is in
    omega (arith, within, line, long, c.requires, length-drop self.read self.bytes.items, self.bytes.ok.0)

pub invariant_of-self-else-behind-len : goal.invariant_of-self-else-behind-len
invariant_of-self-else-behind-len c =
    let self = c.self.inside in
    let within = c.self.invariant.within in
    let line = line-within c.args.self.now in
    let long = ap length c.self.view_is in
    record { within = omega (arith, within, line, long, c.requires, length-drop self.read self.bytes.items) }

pub returns-then-behind-len : goal.returns-then-behind-len
returns-then-behind-len c =
    let self = c.self.inside in
    let count : c.args.count ≡ length (line_of (drop self.read self.bytes.items)) = c.requires ∙ ap (λ (xs : List ℕ). length (line_of xs)) (sym c.self.view_is) in
    left-behind self.bytes.items self.read c.args.count (omega (arith, c.if-behind-len.true, c.len.ensures, self.bytes.ok.0)) count ∙ ap behind_line c.self.view_is

pub returns-else-behind-len : goal.returns-else-behind-len
returns-else-behind-len c =
    let self = c.self.inside in
    let count : c.args.count ≡ length (line_of (drop self.read self.bytes.items)) = c.requires ∙ ap (λ (xs : List ℕ). length (line_of xs)) (sym c.self.view_is) in
    nothing-behind self.bytes.items self.read c.args.count (omega (arith, c.if-behind-len.false, c.len.ensures, self.bytes.ok.0)) count ∙ ap behind_line c.self.view_is
