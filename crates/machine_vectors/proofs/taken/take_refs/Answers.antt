use Rattle.std.proofs.Common.{◌≡◌, ℕ, List, drop, map, arith, ap, ◌∙◌, rules}
use Rattle.machine_vectors.specs.inside.Taking.{named}
use Rattle.machine_vectors.proofs.WordsTaken.{few-refs, refs-near, refs-taken}
use Rattle.machine_vectors.proofs.taken.take_refs.Goals as goal

pub returns-in_default-clause-takes : goal.returns-in_default-clause-takes
returns-in_default-clause-takes g c = λ v.
    few-refs c.args.m.now (g.V.Vault.outside v) c.args.n (omega (arith, c.in_default.ensures, c.len.ensures))

pub returns-clause-near : goal.returns-clause-near
returns-clause-near g c =
    let m = c.args.m.now in
    let first = c.in-Some.first in
    let same : c.split_at.result.1.now ≡ drop first m.refs.own = search rules in
    λ all. refs-near m first c.lay_refs.new.values (c.lay_refs.ensures.laid ∙ ap (λ (ws : List ℕ). map named ws) same) c.requires.names

pub returns-clause-takes : goal.returns-clause-takes
returns-clause-takes g c =
    let m = c.args.m.now in
    let first = c.in-Some.first in
    let cut = c.truncate.ensures in
    let same : c.split_at.result.1.now ≡ drop first m.refs.own = search rules in
    λ v.
    refs-taken m (g.V.Vault.outside v) c.args.n first c.truncate.new.self c.lay_refs.new.values cut.below cut.own
    (omega (arith, c.in-Some.ensures.0, c.len.ensures)) c.in-Some.ensures.1 (c.lay_refs.ensures.laid ∙ ap (λ (ws : List ℕ). map named ws) same)
