-- What a reading of a table fetched, by how the table was opened.
use Rattle.std.proofs.Common.{◌≡◌, ℕ, true, Option, Ok, Err, sym, subst}
use Rattle.table_nodes.specs.heap_places.swizzle.Heap.{Heap}
use Rattle.table_nodes.specs.heap_places.heap_texts.declared.fault.OpFault.{OpFault}
use Rattle.table_nodes.specs.avl_trees.Trees.{Tree, items}
use Rattle.table_nodes.specs.node_rows.Keys.{Keys}
use Rattle.table_nodes.specs.node_rows.Nodes.{I}
use Rattle.table_nodes.specs.Steps.{Place}
use Rattle.table_nodes.specs.Fetching.{Arrives}
use Rattle.table_nodes.specs.Searching.{AreSeen}
use Rattle.table_nodes.proofs.FetchLaws.{arrives_none}
use Rattle.table_lib.specs.Tables.{IsTable}
use Rattle.table_lib.specs.Operations.{FetchesUsed, Opens}
use Rattle.table_lib.specs.declared.words.Opened.{Opened}
use Rattle.table_lib.proofs.RootLaws.{one_table}

module _ {T : Type 0} (ks : Keys) (old : Place) (table : Option ℕ) where
  -- it wasn't answered
  pub fetches_failed : (new : Heap) (fault : OpFault) → FetchesUsed {T = T} ks old new table (Err fault)
  fetches_failed new fault = record { unused = λ at e u. tt; used = λ at t e h k. tt }

  -- nothing was done
  pub fetches_none : (value : T) → FetchesUsed ks old old.heap table (Ok value)
  fetches_none value = record { unused = λ at e u. arrives_none old.heap old.outside; used = λ at t e h k. arrives_none old.heap old.outside }

  -- the table has keys of the kind
  pub fetches_used : (new : Heap) (other : Keys) (opened : Opened) → opened.used ≡ true → Opens other old.heap table (Ok opened) → (value : T)
      → ((t : Tree (I ks)) → IsTable ks old opened.at t → AreSeen ks old.heap old.outside (items t) → Arrives old.heap new old.outside) → FetchesUsed ks old new table (Ok value)
  fetches_used new other opened has o value is = record {
    unused = λ at e u. (let f = o.unused at e u in absurd (cc));
    used = λ at t e h k. is t (subst (λ i. IsTable ks old i t) (sym (one_table table opened.at at o.at_is e)) h) k;
  }

-- another answer of the same reading
pub fetches_as : {S T : Type 0} (ks : Keys) (old : Place) (new : Heap) (table : Option ℕ) (a : S) (b : T) → FetchesUsed ks old new table (Ok a) → FetchesUsed ks old new table (Ok b)
fetches_as ks old new table a b f = record { unused = f.unused; used = f.used }
