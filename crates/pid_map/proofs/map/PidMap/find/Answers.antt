use Rattle.std.proofs.Common.{◌≢◌, ◌<◌, ◌%◌, sym, ◌∙◌, subst, length, refl}
use Rattle.pid_map.specs.Chains.{steps}
use Rattle.pid_map.proofs.ChainLaws.{Rest, rest_all, rest_here, rest_few, found_there, found_none, bucket_below}
use Rattle.pid_map.proofs.map.PidMap.find.Goals as goal

pub loop-at-init : goal.loop-at-init
loop-at-init g c = λ m.
    let heads = c.args.self.now.heads.items in
    rest_all _ _ _ _ m (c.args.pid % length heads) c.args.pid c.head-at.result (bucket_below c.args.pid (length heads) (length heads) refl c.requires.some) c.head-at.ensures

pub key_at-requires : goal.key_at-requires
key_at-requires g c =
    let m = c.requires.belongs in
    let heads = c.args.self.now.heads.items in
    let h = rest_here _ _ _ _ m _ _ _ c.loop-at-test.true (c.loop-at.invariant m) in
    m.theirs _ c.loop-at.at (bucket_below c.args.pid (length heads) (length heads) refl c.requires.some) h.is

pub next_at-at-requires : goal.next_at-at-requires
next_at-at-requires g c =
    let m = c.requires.belongs in
    let heads = c.args.self.now.heads.items in
    let h = rest_here _ _ _ _ m _ _ _ c.loop-at-test.true (c.loop-at.invariant m) in
    m.theirs _ c.loop-at.at (bucket_below c.args.pid (length heads) (length heads) refl c.requires.some) h.is

pub returns-then-key_at-pid : goal.returns-then-key_at-pid
returns-then-key_at-pid g c = λ m.
    let heads = c.args.self.now.heads.items in
    let h = rest_here _ _ _ _ m _ _ _ c.loop-at-test.true (c.loop-at.invariant m) in
    found_there _ _ _ _ m _ c.args.pid c.loop-at.at (bucket_below c.args.pid (length heads) (length heads) refl c.requires.some) h.is
    (sym c.key_at.ensures ∙ c.if-key_at-pid.true)

pub loop-at-smaller : goal.loop-at-smaller
loop-at-smaller g c =
    let m = c.requires.belongs in
    let heads = c.args.self.now.heads.items in
    let bound = g.L.Links.bound c.args.links.now in
    let lt = bucket_below c.args.pid (length heads) (length heads) refl c.requires.some in
    let few = rest_few _ _ _ _ m _ c.args.pid c.loop-at.at bound lt (g.met.L.Links.range c.args.links.now) (c.loop-at.invariant m) in
    let h = rest_here _ _ _ _ m _ _ _ c.loop-at-test.true (c.loop-at.invariant m) in
    subst (λ n. steps (g.L.Links.next c.args.links.now) bound n < steps (g.L.Links.next c.args.links.now) bound c.loop-at.at) (sym c.next_at-at.ensures) (h.shorter bound few)

pub loop-at-preserved : goal.loop-at-preserved
loop-at-preserved g c = λ m.
    let heads = c.args.self.now.heads.items in
    let h = rest_here _ _ _ _ m _ _ _ c.loop-at-test.true (c.loop-at.invariant m) in
    let apart : g.L.Links.key c.args.links.now c.loop-at.at ≢ c.args.pid = λ e. c.if-key_at-pid.false (c.key_at.ensures ∙ e) in
    subst (Rest heads (g.L.Links.key c.args.links.now) (g.L.Links.next c.args.links.now) (g.L.Links.is_place c.args.links.now) m (c.args.pid % length heads) c.args.pid) (sym c.next_at-at.ensures) (h.behind apart)

pub returns : goal.returns
returns g c = λ m. found_none _ _ _ _ m _ c.args.pid c.loop-at.at refl c.loop-at-test.false (c.loop-at.invariant m)
