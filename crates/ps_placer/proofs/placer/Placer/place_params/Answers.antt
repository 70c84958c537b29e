use Rattle.std.proofs.Common.{rules, ◌∙◌, length-set, length, ◌<◌}
use Rattle.ps_placer.proofs.Steps.{same_rest, param_placed}
use Rattle.ps_placer.proofs.placer.Placer.place_params.Goals as goal

pub loop-i-preserved : goal.loop-i-preserved
loop-i-preserved c =
    let list = c.loop-i.list.items in
    let before = c.into_vec-list.result.items in
    let i = c.loop-i.i in
    let kept = c.loop-i.invariant in
    let below : i < length list = search (rules, kept.same_length) in
    record {
      same_length = length-set list i _ ∙ kept.same_length;
      rest = same_rest list before i _ kept.rest;
      done = λ around locals stands.
          param_placed list before i c.index_mut.result.now c.index.result.now c.place_of.result around locals below kept.same_length kept.rest c.index_mut.ensures.value c.index.ensures
          (c.place_of.ensures around locals stands) (kept.done around locals stands);
    }
