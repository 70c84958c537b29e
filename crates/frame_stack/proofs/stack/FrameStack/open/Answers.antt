use Rattle.std.proofs.Common.{◌≡◌, ◌-◌, ◌+◌, ◌++◌, ◌≤◌, ◌∙◌, ap, take, drop, length, replicate, rules, arith}
use Rattle.std.proofs.lemmas.List.{length-drop}
use Rattle.frame_stack.proofs.Parts.{opened}
use Rattle.frame_stack.proofs.stack.FrameStack.open.Goals as goal

pub returns-clause-below : goal.returns-clause-below
returns-clause-below g c =
    let self = c.self.inside in
    let args = c.args.args in
    let within = c.self.invariant in
    let few = c.requires.args in
    let all = self.words.items in
    let long = ap (λ f. length f.own) c.self.view_is in
    opened all (replicate (c.args.count - args) c.args.blank) c.fill.new.words.items c.len.result self.first args c.fill.ensures.items (omega (arith, c.len.ensures, self.words.ok.0))
    (omega (arith, within, few, long, self.words.ok.0, length-drop self.first all))
    ∙ ap (λ f. f.below ++ take (length f.own - args) f.own) c.self.view_is
