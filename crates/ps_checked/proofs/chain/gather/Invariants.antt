use Rattle.std.proofs.Common.{◌≡◌, ◌≤◌, ◌+◌}
use Rattle.ps_tree.specs.Phrase.{phrase_of}
use Rattle.ps_declared.specs.ps_typing.Names.{Names}
use Rattle.ps_declared.specs.ps_typing.Checking.{check}
use Rattle.ps_checked.specs.inside.Links.{check_link, check_links}
use Rattle.ps_checked.specs.inside.Weights.{weight, weight_link, weight_links}
use Rattle.ps_checked.proofs.chain.gather.Given as goal

-- the links so far, after what is left of the chain, make the chain
abbrev pub invariant-loop-link : goal.invariant-loop-link
invariant-loop-link l = record {
  chain : (names : Names) → check_links l.links.items (check names (phrase_of l.innermost)) ≡ check_link l.last (check names (phrase_of l.left));
  lighter : weight_links l.links.items + weight (phrase_of l.innermost) ≤ weight_link l.last + weight (phrase_of l.left);
}

abbrev pub decreases-loop-link : goal.decreases-loop-link
decreases-loop-link l = weight (phrase_of l.innermost)
