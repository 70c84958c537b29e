use Rattle.std.proofs.Common.{IfSome, ◌∙◌, arith, subst}
use Rattle.std.proofs.lemmas.Grind.{common_steps}
use Rattle.heap_places.specs.obj_layout.declared.vault.VaultFault.TheVariants.{Damaged}
use Rattle.heap_places.specs.swizzle.declared.fault.SwizzleFault.TheVariants.{Vault}
use Rattle.heap_places.specs.swizzle.Heap.{header_at}
use Rattle.table_nodes.specs.Sought.{IsKeyHeld}
use Rattle.table_nodes.proofs.placing.check_side.Goals as goal

pub returns : goal.returns
returns c = record {
  end = c.in-Some.edge;
  end_is = c.in-Some.is;
  outside = λ e. (let same = c.compare_keys.ensures ∙ e in absurd (grind (arith, common_steps, same)));
  is = c.damaged.ensures ∙ (λ i. Vault (Damaged (header_at c.args.sw.now c.args.at).pid (c.number_of.ensures i) (c.number_of-2.ensures i)));
}

pub compare_keys-requires-clause-other : goal.compare_keys-requires-clause-other
compare_keys-requires-clause-other c = subst (λ e. IfSome e (IsKeyHeld c.args.sw.now)) c.in-Some.is c.requires.edge

pub number_of-requires-2 : goal.number_of-requires-2
number_of-requires-2 c = record { key = subst (λ e. IfSome e (IsKeyHeld c.args.sw.now)) c.in-Some.is c.requires.edge }
