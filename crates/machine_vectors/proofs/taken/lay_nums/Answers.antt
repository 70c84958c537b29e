use Rattle.std.proofs.Common.{◌≡◌, ℤ, Some, pos, slice_index_or, w32, to_z, of_z, rules, sym, subst}
use Rattle.machine_core.specs.heap_places.Filling.{AreNear}
use Rattle.machine_core.specs.ps_heap.Values.{Num}
use Rattle.machine_core.specs.ps_heap.Objects.{kept_as}
use Rattle.machine_core.specs.joint_ops.World.{IsForIn}
use Rattle.machine_vectors.proofs.WordsTaken.{near-more, nums-all, nums-more}
use Rattle.machine_vectors.proofs.taken.lay_nums.Goals as goal

pub loop-z-preserved : goal.loop-z-preserved
loop-z-preserved g c =
    let f = c.args.form in
    let words = c.args.words.now in
    let i = c.loop-z.z-index in
    let z = slice_index_or words i (pos 0) in
    let k = c.kept_as in
    let same : to_z w32 (of_z w32 z) ≡ z = search rules in
    record {
      laid = λ v here names.
          let out = g.V.Vault.outside v in
          nums-more here out names f words i (pos 0) c.loop-z.values.items c.push_reserved.new.self.items k.result c.loop-z-test.true c.push_reserved.ensures.items
          (c.loop-z.invariant.laid v here names) (k.ensures.form c.requires.row)
          (subst (λ (n : ℤ). IsForIn here out names k.result (kept_as (Some f) (Num n))) same (k.ensures.denotes v here names c.requires.row));
      near = λ here.
          subst (AreNear here) (sym c.push_reserved.ensures.items) (near-more here c.loop-z.values.items k.result (c.loop-z.invariant.near here) (k.ensures.near here));
      many = search rules;
      room = search rules;
    }

pub returns-clause-laid : goal.returns-clause-laid
returns-clause-laid g c = λ v here names.
    nums-all here (g.V.Vault.outside v) names c.args.form c.args.words.now c.loop-z.z-index c.loop-z.values.items c.loop-z.auto.z-index-end c.loop-z-test.false
    (c.loop-z.invariant.laid v here names)
