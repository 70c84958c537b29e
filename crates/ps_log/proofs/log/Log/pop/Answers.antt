use Rattle.std.proofs.Common.{List, ℕ, ◌∷◌, [], map, ap, ◌∙◌, subst, IsSome}
use Rattle.std.proofs.lemmas.List.{reverse-append}
use Rattle.std.specs.Str.{bytes_eq}
use Rattle.indexmap.specs.IndexMap.{get_by}
use Rattle.ps_log.specs.inside.Kept.{Link, link_of, links_back, IsKept, Replaces}
use Rattle.ps_log.proofs.Kept.{one_less}
use Rattle.ps_log.proofs.log.Log.pop.Goals as goal

pub invariant_of-self : goal.invariant_of-self
invariant_of-self g c =
    let name_of = g.T.Named.name in
    let lines = c.pop.new.self.items in
    let old = c.self.inside.last in
    let new = c.restore_place.new.last in
    let line = c.in-Some.line in
    let links = ap (links_back name_of) c.in-Some.ensures.items ∙ ap (map (link_of name_of)) (reverse-append lines (line ∷ [])) in
    one_less (link_of name_of line) (links_back name_of lines) old new (subst (λ (l : List Link). IsKept l old) links c.self.invariant)
    (subst (λ (name : List ℕ). IsSome (get_by (λ k. bytes_eq name k.items) old) → Replaces old new name line.hides) c.name.ensures c.restore_place.ensures)
