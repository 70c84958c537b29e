use Rattle.std.proofs.Common.{ℕ, List, length, replicate, sym, ap, subst, ◌∙◌}
use Rattle.page_map.specs.Map.{MapView, NoneIsPinned}
use Rattle.page_map.specs.Pages.{one_names, no_pages}
use Rattle.page_map.specs.inside.Kept.{map_of}
use Rattle.page_map.proofs.MapLaws.{reserved_is_map, one_names_no_pages}
use Rattle.page_map.proofs.LooseLaws.{reserved_loose}
use Rattle.page_map.proofs.page_map.PageMap.reserve_pins.Goals as goal

pub invariant_of-self : goal.invariant_of-self
invariant_of-self c =
    let logical = c.logical.ensures ∙ ap (λ (map : MapView). length map.committed) (sym c.self.view_is) in
    rw (c.in_ok-self-inside.ensures, logical) (record {
      is_map = reserved_is_map (map_of c.self.inside) c.args.pins c.self.invariant.is_map;
      loose = reserved_loose (map_of c.self.inside) (replicate c.args.pins (no_pages (length c.self.inside.committed))) c.self.inside.loose c.self.invariant.loose
          (λ page low.
          let none = subst NoneIsPinned (sym c.self.view_is) c.requires.none in
          ap (λ (lists : List (List ℕ)). one_names lists page) none ∙ one_names_no_pages (length c.self.inside.pins.items) (length c.self.inside.committed) page low);
    })
