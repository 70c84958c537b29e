use Rattle.std.proofs.Common.{◌≡◌, ◌⊎◌, sym, subst}
use Rattle.page_map.specs.Pages.{IsTaken}
use Rattle.page_map.specs.Map.{MapView}
use Rattle.page_map.specs.inside.Kept.{map_of}
use Rattle.page_map.proofs.MapLaws.{staged_is_map}
use Rattle.page_map.proofs.LooseLaws.{noted_loose, staged_but}
use Rattle.page_map.proofs.page_map.PageMap.replace.Goals as goal

pub invariant_of-self : goal.invariant_of-self
invariant_of-self c =
    let number = c.args.physical in
    let map = map_of c.self.inside in
    let may = subst (λ (map : MapView). (number ≡ 0) ⊎ IsTaken map.free number) (sym c.self.view_is) c.requires.physical in
    rw c.set.ensures (record {
      is_map = staged_is_map map c.args.page number c.self.invariant.is_map may;
      loose = noted_loose _ c.number-old.result c.self.inside.loose _ (rw (c.number-old.ensures, c.list.ensures) (staged_but map c.args.page number c.self.inside.loose c.self.invariant.loose)) c.note.ensures;
    })
