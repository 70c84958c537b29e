use Rattle.std.proofs.Common.{◌≡◌, ℕ, List, [], length, not, ◌&&◌, ◌||◌, set, refl, ap, ◌∙◌, ◌<◌, arith}
use Rattle.std.proofs.lemmas.List.{get_or_read}
use Rattle.page_map.specs.Pages.{is_free, free_where, may_be_free, names, one_names}
use Rattle.page_map.specs.Map.{MapView, with_pin}
use Rattle.page_map.specs.inside.Kept.{map_of}
use Rattle.page_map.proofs.MapLaws.{giving_up, pinned_is_map}
use Rattle.page_map.proofs.LooseLaws.{pinned_loose}
use Rattle.page_map.proofs.page_map.PageMap.pin.Goals as goal

there : (c : goal.After-hold_all) → c.args.pin < length c.self.inside.pins.items
there c = omega (arith, c.requires, ap (λ (map : MapView). length map.pins) c.self.view_is)

free_is : (c : goal.After-hold_all) → c.hold_all.new.free ≡ (with_pin (map_of c.self.inside) c.args.pin c.self.inside.committed).free
free_is c =
    let map = c.self.inside in
    let pin = c.args.pin in
    let released = c.release_named.new.self in
    let given_up = c.numbers.ensures ∙ get_or_read map.pins.items pin c.index_mut-pinned.result.now (there c) c.index_mut-pinned.ensures.value [] in
    let pins = c.deref.ensures.value ∙ ap (λ (list : List ℕ). set map.pins.items pin list) c.copy_from.ensures in
    giving_up (map_of map) pin map.committed c.self.invariant.is_map (λ page above is. is) released c.hold_all.new.free
    (c.release_named.ensures ∙ ap (λ (list : List ℕ). free_where (length map.free) (λ page. is_free map.free page || (may_be_free page && names list page))) given_up)
    (c.hold_all.ensures
    ∙ ap (λ (list : List ℕ). free_where (length released) (λ page. is_free released page && not (names map.committed page || (names list page || one_names c.deref.result.now page)))) c.list.ensures
    ∙ ap (λ (lists : List (List ℕ)). free_where (length released) (λ page. is_free released page && not (names map.committed page || (names map.staged page || one_names lists page)))) pins)

pub invariant_of-self : goal.invariant_of-self
invariant_of-self c =
    let map = map_of c.self.inside in
    rw (c.copy_from.ensures, free_is c)
    (record {
      is_map = pinned_is_map map c.args.pin map.committed c.self.invariant.is_map (λ page above is. is) (there c) refl;
      loose = pinned_loose map c.args.pin map.committed c.self.inside.loose c.self.invariant.loose;
    })

pub returns : goal.returns
returns c = rw (c.copy_from.ensures, free_is c) (ap (λ (map : MapView). with_pin map c.args.pin map.committed) c.self.view_is)
