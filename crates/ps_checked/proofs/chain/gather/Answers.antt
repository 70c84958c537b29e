use Rattle.std.proofs.Common.{◌≡◌, arith}
use Rattle.ps_tree.specs.Phrase.{phrase_of}
use Rattle.ps_declared.specs.ps_typing.Checking.{check}
use Rattle.ps_checked.specs.inside.Weights.{weight_link, weight_links}
use Rattle.ps_checked.proofs.LinkSteps.{gathered, gathered_weight, one_link, one_weight}
use Rattle.ps_checked.proofs.chain.gather.Goals as goal

pub loop-link-init : goal.loop-link-init
loop-link-init c = record {
  chain = λ names. one_link c.new-links.result.items c.push.new.self.items c.args.last (check names (phrase_of c.args.left.now)) c.new-links.ensures.items c.in_ok-push.ensures.items;
  lighter =
      let one : weight_links c.push.new.self.items ≡ weight_link c.args.last = one_weight c.new-links.result.items c.push.new.self.items c.args.last c.new-links.ensures.items c.in_ok-push.ensures.items in
      omega (arith, one);
}

pub loop-link-preserved : goal.loop-link-preserved
loop-link-preserved c = record {
  chain = λ names. gathered c.loop-link.links.items _ c.in-Some.link c.loop-link.innermost.now c.in-Some.inner.now _ names (c.loop-link.invariant.chain names) c.in_ok-push-2.ensures.items (c.in-Some.ensures.chain names);
  lighter = gathered_weight c.loop-link.links.items _ c.in-Some.link c.loop-link.innermost.now c.in-Some.inner.now _ c.loop-link.invariant.lighter c.in_ok-push-2.ensures.items c.in-Some.ensures.weight;
}
