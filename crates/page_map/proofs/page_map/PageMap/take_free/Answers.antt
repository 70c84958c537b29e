use Rattle.page_map.specs.inside.Kept.{map_of}
use Rattle.page_map.proofs.MapLaws.{taken_is_map}
use Rattle.page_map.proofs.LooseLaws.{noted_loose, taken_but}
use Rattle.page_map.proofs.page_map.PageMap.take_free.Goals as goal

pub invariant_of-self-2 : goal.invariant_of-self-2
invariant_of-self-2 c =
    let map = map_of c.self.inside in
    let page = c.in_ok-page.page in
    rw c.in_ok-page.ensures.taken (record {
      is_map = taken_is_map map page c.self.invariant.is_map;
      loose = noted_loose _ page c.self.inside.loose _ (taken_but map page c.self.inside.loose c.self.invariant.loose) c.note.ensures;
    })
