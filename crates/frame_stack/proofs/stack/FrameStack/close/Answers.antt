use Rattle.std.proofs.Common.{◌≡◌, ◌-◌, ◌≤◌, ◌∙◌, ap, take, drop, length, rules, arith}
use Rattle.std.proofs.lemmas.List.{length-take-le}
use Rattle.frame_stack.proofs.Parts.{closed}
use Rattle.frame_stack.proofs.stack.FrameStack.close.Goals as goal

pub returns-clause-own : goal.returns-clause-own
returns-clause-own g c =
    let self = c.self.inside in
    let count = c.args.count in
    let within = c.self.invariant in
    let many = c.requires.count in
    let long = ap (λ f. length f.below) c.self.view_is in
    ap (λ xs. drop (self.first - count) xs) c.truncate.ensures.items
    ∙ closed self.words.items self.first count c.args.dead c.requires.dead
    (omega (arith, many, long, within, self.words.ok.0, length-take-le self.first self.words.items (omega (arith, within, self.words.ok.0))))
    (omega (arith, within, self.words.ok.0))
    ∙ ap (λ f. take (count - c.args.dead) (drop (length f.below - count) f.below)) c.self.view_is
