use Rattle.std.proofs.Common.{◌≡◌, ◌%◌, ℕ, List, sym, ap, ◌∙◌, subst, length, refl, get_or}
use Rattle.pid_map.specs.Chains.{Relinked, IsAdded}
use Rattle.pid_map.proofs.ChainLaws.{added, bucket_below}
use Rattle.pid_map.proofs.map.PidMap.add.Goals as goal

pub returns-clause-added : goal.returns-clause-added
returns-clause-added g c = λ m fresh.
    let heads = c.args.self.now.heads.items in
    let old = c.args.links.now in
    let new = c.set_next.new.self in
    let bucket = c.key_at-key.result % length heads in
    let lt = bucket_below c.key_at-key.result (length heads) (length heads) refl c.requires.some in
    let same : bucket ≡ g.L.Links.key old c.args.at % length heads = ap (λ k. k % length heads) c.key_at-key.ensures in
    let link = g.met.L.Relinks.relinks old new c.args.at c.head.result c.requires.place c.set_next.ensures in
    let it = added heads (g.L.Links.key old) (g.L.Links.next old) (g.L.Links.is_place old) m c.args.at bucket (g.L.Links.key new) (g.L.Links.next new) (g.L.Links.is_place new)
    same lt c.requires.place (g.met.L.Links.range old c.args.at c.requires.place).0
    (subst (λ h. Relinked (g.L.Links.key old) (g.L.Links.next old) (g.L.Links.is_place old) (g.L.Links.key new) (g.L.Links.next new) (g.L.Links.is_place new) c.args.at h) c.head.ensures link) fresh in
    subst (λ (hs : List ℕ). IsAdded m c.args.at hs (g.L.Links.key new) (g.L.Links.next new) (g.L.Links.is_place new)) (sym c.put.ensures) it

pub returns-clause-linked : goal.returns-clause-linked
returns-clause-linked g c =
    let heads = c.args.self.now.heads.items in
    let same = ap (λ k. get_or heads (k % length heads) 0) c.key_at-key.ensures in
    subst (λ t. g.L.Relinks.linked c.args.links.now c.set_next.new.self c.args.at t) (c.head.ensures ∙ same) c.set_next.ensures
