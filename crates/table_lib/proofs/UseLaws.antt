-- What an operation answers, from how its table was opened.
use Rattle.std.proofs.Common.{◌≡◌, ℕ, true, false, Option, Result, Ok, Err, refl, sym, ap, subst}
use Rattle.table_nodes.specs.heap_places.heap_texts.declared.fault.OpFault.{OpFault}
use Rattle.table_nodes.specs.avl_trees.Trees.{Tree}
use Rattle.table_nodes.specs.node_rows.Keys.{Keys}
use Rattle.table_nodes.specs.node_rows.Nodes.{I}
use Rattle.table_nodes.specs.Steps.{Place}
use Rattle.table_lib.specs.Tables.{IsTable}
use Rattle.table_lib.specs.Operations.{Opens, Uses}
use Rattle.table_lib.specs.declared.words.Opened.{Opened}

pub err_same : {S : Type 0} (a b : OpFault) (r : Result S OpFault) → r ≡ Err a → r ≡ Err b → a ≡ b
err_same a b r e f = cc

module _ {T : Type 0} (ks : Keys) (p : Place) (table : Option ℕ) (unused : Result T OpFault → Type 0) (used : ℕ → Tree (I ks) → Result T OpFault → Type 0) where
  -- it was refused
  pub uses_refused : (fault : OpFault) → Opens ks p.heap table (Err fault) → Uses ks p table unused used (Err fault)
  uses_refused fault o = record {
    nil = λ e. ap Err (err_same fault _ (Err fault) refl (o.nil e));
    class = λ at e ne. ap Err (err_same fault _ (Err fault) refl (o.class at e ne));
    other = λ at other t ne e h. ap Err (err_same fault _ (Err fault) refl (o.other at other ne e h.keys));
    unused_is = λ at e h. (let f = o.unused at e h in absurd (cc));
    used_is = λ at t e h. (let f = o.same at e h.keys in absurd (cc));
  }

  -- it never had a key
  pub uses_unused : (opened : Opened) → opened.used ≡ false → Opens ks p.heap table (Ok opened) → (result : Result T OpFault) → unused result → Uses ks p table unused used result
  uses_unused opened never o result is = record {
    nil = λ e. (let f = o.nil e in absurd (cc));
    class = λ at e ne. (let f = o.class at e ne in absurd (cc));
    other = λ at other t ne e h. (let f = o.other at other ne e h.keys in absurd (cc));
    unused_is = λ at e h. is;
    used_is = λ at t e h. (let f = o.same at e h.keys in absurd (cc));
  }

  -- it has keys of the kind
  pub uses_used : (opened : Opened) → opened.used ≡ true → Opens ks p.heap table (Ok opened) → (result : Result T OpFault) → ((t : Tree (I ks)) → IsTable ks p opened.at t → used opened.at t result) → Uses ks p table unused used result
  uses_used opened has o result is = record {
    nil = λ e. (let f = o.nil e in absurd (cc));
    class = λ at e ne. (let f = o.class at e ne in absurd (cc));
    other = λ at other t ne e h. (let f = o.other at other ne e h.keys in absurd (cc));
    unused_is = λ at e h. (let f = o.unused at e h in absurd (cc));
    used_is = λ at t e h. (let f = o.same at e h.keys in let same : opened.at ≡ at = cc in subst (λ i. used i t result) same (is t (subst (λ i. IsTable ks p i t) (sym same) h)));
  }
