use Rattle.page_map.specs.inside.Kept.{map_of}
use Rattle.page_map.proofs.MapLaws.{taken_is_map}
use Rattle.page_map.proofs.LooseLaws.{noted_loose, taken_but}
use Rattle.page_map.proofs.page_map.PageMap.claim.Goals as goal

pub invariant_of-self-2 : goal.invariant_of-self-2
invariant_of-self-2 c =
    let map = map_of c.self.inside in
    rw c.claim.ensures.taken (record {
      is_map = taken_is_map map c.args.physical c.self.invariant.is_map;
      loose = noted_loose _ c.args.physical c.self.inside.loose _ (taken_but map c.args.physical c.self.inside.loose c.self.invariant.loose) c.note.ensures;
    })
