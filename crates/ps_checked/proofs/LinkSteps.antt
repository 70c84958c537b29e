-- The links of a chain.
use Rattle.std.proofs.Common.{◌≡◌, ◌≤◌, ◌+◌, ℕ, List, [], ◌∷◌, ◌++◌, arith, refl, sym, ap, ◌∙◌}
use Rattle.ps_tree.specs.Phrase.{phrase_of}
use Rattle.ps_tree.specs.declared.rough.Rough.{Rough}
use Rattle.ps_program.specs.Node.{Node}
use Rattle.ps_declared.specs.ps_typing.Names.{Names}
use Rattle.ps_declared.specs.ps_typing.Checking.{Outcome, check}
use Rattle.ps_declared.specs.declared.fault.CheckFault.{CheckFault}
use Rattle.ps_checked.specs.declared.link.Link.{Link}
use Rattle.ps_checked.specs.declared.link.Link.TheVariants as link
use Rattle.ps_declared.specs.inside.Answers.{IsFault}
use Rattle.ps_checked.specs.inside.Links.{check_link, check_links}
use Rattle.ps_checked.specs.inside.Weights.{weight, weight_link, weight_links}
use Rattle.ps_declared.proofs.Steps.{fails_first, fails_test}

-- a link after the innermost comes first
pub check_links-push : (links : List Link) (last : Link) (o : Outcome Node) → check_links (links ++ last ∷ []) o ≡ check_links links (check_link last o)
check_links-push [] last o = refl
check_links-push (l ∷ links) last o = ap (check_link l) (check_links-push links last o)

fails_link : (l : Link) (o : Outcome Node) (fault : CheckFault) → IsFault o fault → IsFault (check_link l o) fault
fails_link (link.Operator kind left_line right) o fault h = fails_first _ fault _ (fails_test _ _ _ _ fault h)
fails_link (link.Apply line args) o fault h = fails_first _ fault _ h
fails_link (link.Part line left_line i n) o fault h = fails_first _ fault _ (fails_test _ _ _ _ fault h)

pub fails_links : (links : List Link) (o : Outcome Node) (fault : CheckFault) → IsFault o fault → IsFault (check_links links o) fault
fails_links [] o fault h = h
fails_links (l ∷ links) o fault h = fails_link l (check_links links o) fault (fails_links links o fault h)

pub weight_links-push : (links : List Link) (last : Link) → weight_links (links ++ last ∷ []) ≡ weight_links links + weight_link last
weight_links-push [] last = omega arith
weight_links-push (l ∷ links) last = ap (λ n. weight_link l + n) (weight_links-push links last) ∙ omega arith

pub one_link : (first links : List Link) (last : Link) (o : Outcome Node) → first ≡ [] → links ≡ first ++ last ∷ [] → check_links links o ≡ check_link last o
one_link first links last o empty is = ap (λ (ls : List Link). check_links ls o) (is ∙ ap (λ (ls : List Link). ls ++ last ∷ []) empty)

pub one_weight : (first links : List Link) (last : Link) → first ≡ [] → links ≡ first ++ last ∷ [] → weight_links links ≡ weight_link last
one_weight first links last empty is = ap weight_links (is ∙ ap (λ (ls : List Link). ls ++ last ∷ []) empty) ∙ omega arith

-- one link more is kept, and the chain is the same
pub gathered : (links after_it : List Link) (l : Link) (rest inner : Rough) (whole : Outcome Node) (names : Names)
    → check_links links (check names (phrase_of rest)) ≡ whole → after_it ≡ links ++ l ∷ [] → check names (phrase_of rest) ≡ check_link l (check names (phrase_of inner))
    → check_links after_it (check names (phrase_of inner)) ≡ whole
gathered links after_it l rest inner whole names before is step =
    ap (λ (ls : List Link). check_links ls (check names (phrase_of inner))) is ∙ check_links-push links l (check names (phrase_of inner)) ∙ ap (check_links links) (sym step) ∙ before

pub gathered_weight : (links after_it : List Link) (l : Link) (rest inner : Rough) (bound : ℕ)
    → weight_links links + weight (phrase_of rest) ≤ bound → after_it ≡ links ++ l ∷ [] → weight (phrase_of rest) ≡ weight (phrase_of inner) + weight_link l + 1
    → weight_links after_it + weight (phrase_of inner) ≤ bound
gathered_weight links after_it l rest inner bound before is heavy =
    let all : weight_links after_it ≡ weight_links links + weight_link l = ap weight_links is ∙ weight_links-push links l in
    omega arith
