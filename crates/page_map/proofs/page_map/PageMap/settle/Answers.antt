use Rattle.std.proofs.Common.{◌≡◌, ℕ, List, length, not, ◌&&◌, ap, ◌∙◌}
use Rattle.page_map.specs.Pages.{is_free, free_where, one_names}
use Rattle.page_map.specs.Map.{MapView, settled}
use Rattle.page_map.specs.inside.Kept.{map_of}
use Rattle.page_map.proofs.MapLaws.{settled_is_map}
use Rattle.page_map.proofs.LooseLaws.{settled_free, settled_loose}
use Rattle.page_map.proofs.page_map.PageMap.settle.Goals as goal

free_is : (c : goal.After-note_all) → c.hold_each.new.self ≡ (settled (map_of c.self.inside) c.args.map_pages.now).free
free_is c =
    let map = map_of c.self.inside in
    let least = c.hold.new.self in
    settled_free map c.self.inside.loose c.args.map_pages.now c.self.invariant.is_map c.self.invariant.loose c.release_unstaged.new.free least c.hold_each.new.self
    c.release_unstaged.ensures.long c.release_unstaged.ensures.releases c.hold.ensures
    (c.hold_each.ensures ∙ ap (λ (pins : List (List ℕ)). free_where (length least) (λ page. is_free least page && not (one_names pins page))) c.deref.ensures.value)

pub invariant_of-self : goal.invariant_of-self
invariant_of-self c =
    rw (c.copy_from.ensures ∙ c.list.ensures, free_is c)
    (record {
      is_map = settled_is_map (map_of c.self.inside) c.args.map_pages.now c.self.invariant.is_map;
      loose = settled_loose (map_of c.self.inside) c.args.map_pages.now c.note_all.new.noted c.note_all.ensures;
    })

pub returns : goal.returns
returns c =
    rw (c.copy_from.ensures ∙ c.list.ensures, free_is c) (ap (λ (map : MapView). settled map c.args.map_pages.now) c.self.view_is)
