use Rattle.std.proofs.Common.{◌≡◌, ◌∙◌, ap, set, rules}
use Rattle.std.proofs.lemmas.List.{drop-set-add}
use Rattle.frame_stack.proofs.stack.FrameStack.set.Goals as goal

pub returns-clause-own : goal.returns-clause-own
returns-clause-own g c =
    let self = c.self.inside in
    drop-set-add self.first self.words.items c.args.place c.args.word ∙ ap (λ f. set f.own c.args.place c.args.word) c.self.view_is
