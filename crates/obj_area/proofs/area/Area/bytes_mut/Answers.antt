use Rattle.std.proofs.Common.{arith, refl, ◌∙◌, List, ℕ}
use Rattle.obj_area.proofs.SeenLaws.{given_out-lies, seen-overwritten, bytes_at-seen}
use Rattle.obj_area.proofs.area.Area.bytes_mut.Goals as goal

pub bytes_from_mut-requires-clause-within : goal.bytes_from_mut-requires-clause-within
bytes_from_mut-requires-clause-within c =
    omega (arith, given_out-lies _ _ _ _ _ c.self.view_is c.requires)

pub returns : goal.returns
returns c =
    let written = λ (w : List ℕ). seen-overwritten _ w _ _ _ c.args.at c.self.inside.bytes.ok.0 c.self.view_is c.bytes_from_mut.ensures.spelled in (
      (refl, written),
      record {
        writes_back = tt;
        value = c.bytes_from_mut.ensures.value ∙ bytes_at-seen _ _ _ c.args.at c.args.len c.self.view_is c.bytes_from_mut.ensures.spelled;
        len = c.bytes_from_mut.ensures.len;
      },
    )
