use Rattle.std.proofs.Common.{◌≡◌, ◌∙◌, ap, take, drop, rules}
use Rattle.std.proofs.lemmas.List.{drop-take}
use Rattle.frame_stack.proofs.stack.FrameStack.truncate.Goals as goal

pub returns-clause-own : goal.returns-clause-own
returns-clause-own g c =
    let self = c.self.inside in
    ap (λ xs. drop self.first xs) c.truncate.ensures.items ∙ drop-take self.first c.args.count self.words.items ∙ ap (λ f. take c.args.count f.own) c.self.view_is
