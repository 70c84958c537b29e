use Rattle.std.proofs.Common.{◌≡◌, ℕ, List, ◌++◌, length, take, None, sym, ◌∙◌, ap, arith}
use Rattle.std.proofs.lemmas.List.{same_lists, get_or-map, length-map}
use Rattle.std.proofs.Math.Seq.{take-append_seam}
use Rattle.joint_commit.specs.Saving.{none_made}
use Rattle.machine_core.specs.joint_held.reach_commit.commit_walk.declared.homes.Source.{Source}
use Rattle.machine_commits.proofs.roots.forget_roots.Goals as goal

-- without its root
abbrev bare : Source → Source
bare source = record { number = source.number; root = None }

front-whole : (n : ℕ) (xs ys zs : List Source) → n ≡ length xs → xs ≡ zs → take n (xs ++ ys) ≡ zs
front-whole n xs ys zs long same = ap (λ (k : ℕ). take k (xs ++ ys)) long ∙ (take-append_seam xs ys ∙ same)

pub returns-clause-none : goal.returns-clause-none
returns-clause-none c =
    let inv = c.loop-source.invariant in
    let end = c.loop-source-test.false in
    let was = c.args.writing.now in
    let xs = c.loop-source.source-items in
    let whole : xs ≡ none_made was.items =
    same_lists xs (none_made was.items) (inv.long ∙ sym (length-map was.items bare))
    (λ k d below. inv.front k d (omega (arith, below, end)) below ∙ sym (get_or-map bare was.items k d d (omega (arith, below, inv.long)))) in
    front-whole was.len xs _ (none_made was.items) (was.ok.0 ∙ sym inv.long) whole
