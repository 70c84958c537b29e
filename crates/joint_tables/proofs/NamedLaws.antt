-- Which table an operation was done to.
use Rattle.std.proofs.Common.{◌≡◌, ◌≢◌, ℕ, Option, Some, None, Result, Ok, Err, OnOk, refl}
use Rattle.joint_ops.specs.obj_layout.declared.kind.Kind.{Kind}
use Rattle.joint_ops.specs.obj_layout.declared.kind.Kind.TheVariants as kind
use Rattle.joint_ops.specs.swizzle.Heap.{header_at}
use Rattle.joint_ops.specs.heap_texts.declared.fault.OpFault.{OpFault}
use Rattle.table_lib.specs.Entries.{Enters}
use Rattle.table_lib.specs.Operations.{Uses}
use Rattle.table_lib.specs.table_nodes.avl_trees.Trees.{Tree}
use Rattle.table_lib.specs.table_nodes.node_rows.Keys.{Keys, KeyOf}
use Rattle.table_lib.specs.table_nodes.node_rows.Nodes.{I}
use Rattle.table_lib.specs.table_nodes.Steps.{Place}
use Rattle.joint_tables.specs.Tables.{NamesTable}

table-kind : (k : Kind) → (k ≢ kind.Table → ⊥) → k ≡ kind.Table
table-kind kind.Table f = refl
table-kind kind.Text f = absurd (f (λ e. cc))
table-kind kind.Structure f = absurd (f (λ e. cc))
table-kind kind.Vector f = absurd (f (λ e. cc))
table-kind kind.Scope f = absurd (f (λ e. cc))
table-kind kind.Closure f = absurd (f (λ e. cc))
table-kind kind.Code f = absurd (f (λ e. cc))
table-kind kind.Node f = absurd (f (λ e. cc))
table-kind kind.Directory f = absurd (f (λ e. cc))

-- What was answered was no trap, so there is an operand, and it is a table.
used-named : {T : Type 0} (ks : Keys) (p : Place) (operand : Option ℕ) (unused : Result T OpFault → Type 0)
    (used : ℕ → Tree (I ks) → Result T OpFault → Type 0) (result : Result T OpFault) → Uses ks p operand unused used result
    → OnOk result (NamesTable p.heap operand)
used-named ks p operand unused used (Err fault) u = tt
used-named ks p None unused used (Ok done) u = let e = u.nil refl in absurd (cc)
used-named ks p (Some at) unused used (Ok done) u =
    record { at = at; is = refl; kind = table-kind (header_at p.heap at).kind (λ ne. let e = u.class at refl ne in cc) }

pub entered-named : (ks : Keys) (old new : Place) (operand : Option ℕ) (key : KeyOf ks) (to : Option ℕ) (result : Result (Unit {0}) OpFault)
    → Enters ks old new operand key to result → OnOk result (NamesTable old.heap operand)
entered-named ks old new operand key (Some to) result e = used-named ks old operand _ _ result e
entered-named ks old new operand key None result e = used-named ks old operand _ _ result e
