-- What was answered tells which table it was of, and that no other object of the heap has changed.
use Rattle.std.proofs.Common.{◌≡◌, ◌≢◌, ℕ, List, Option, Some, sym, ap, ◌∙◌, subst}
use Rattle.joint_ops.specs.ps_outside.Outside.{Outside}
use Rattle.joint_ops.specs.obj_layout.Stored.{Space}
use Rattle.joint_ops.specs.obj_layout.declared.reference.Reference.{Reference}
use Rattle.joint_ops.specs.swizzle.Heap as area
use Rattle.joint_ops.specs.swizzle.Heap.{IsHeap}
use Rattle.joint_ops.specs.ps_heap.Values.{Pointer, Value}
use Rattle.joint_ops.specs.ps_heap.Texts.{Attempt, Fails, Yields}
use Rattle.joint_ops.specs.ps_heap.Tables.{Key, Table, entered, on_yield}
use Rattle.joint_ops.specs.ps_heap.Calls.{then_try}
use Rattle.joint_ops.specs.ps_heap.Objects.{Heap, Keyed, id_of, object_at, object_of_value, with_object}
use Rattle.joint_ops.specs.ps_heap.Held.{Held}
use Rattle.joint_ops.specs.World.{IsWorld}
use Rattle.joint_ops.proofs.of_heap_meaning.StandingLaws.{object-set_other}
use Rattle.node_rows.specs.Keys.{Keys, KeyOf}
use Rattle.joint_tables.proofs.OperandLaws.{Operand, TableOf, a_table, no_table, operand-is, other_object}
use Rattle.joint_entered.specs.Entered.{HasAnswered, HasEntered}

yielded : (a b : Heap) → Yields a ≡ Yields b → a ≡ b
yielded a b e = cc

some_index : (a b : ℕ) → Some a ≡ Some b → a ≡ b
some_index a b e = cc

-- a heap with one other table has all other objects
one-changed : (of : Heap) (id : ℕ) (attempt : Attempt Table) (objects : Heap) → on_yield attempt (λ u. with_object of id (Keyed u)) ≡ Yields objects → (i : ℕ) → i ≢ id → object_at objects i ≡ object_at of i
one-changed of id (Yields u) objects e i ne = ap (λ (o : Heap). object_at o i) (sym (yielded (with_object of id (Keyed u)) objects e)) ∙ object-set_other of id i (Keyed u) ne
one-changed of id (Fails t) objects e i ne = absurd (cc)

module _ (ks : Keys) (old new : area.Heap) (before after : Outside Space) (names : List Reference) (h : Held) (x : ℕ) (table : Value) (named : Key) (v : Value) (key : KeyOf ks) (to : Option ℕ) (objects : Heap)
    (sound : IsHeap old) (world : IsWorld old before h.objects names) (d : HasAnswered ks old new before after names h x table named v key to objects) where
  abbrev step : Table → Attempt Heap
  step t = on_yield (entered named (object_of_value v) t) (λ u. with_object h.objects (id_of table) (Keyed u))

  of-table : (at : ℕ) → Some x ≡ Some at → TableOf old before h.objects names sound world at table → (id : ℕ) × (table ≡ Pointer id) × HasEntered ks old new before after names h x id key to objects
  of-table at e given =
      let t = subst (λ (y : ℕ). TableOf old before h.objects names sound world y table) (sym (some_index x at e)) given in
      let stepped : step t.table ≡ Yields objects = sym (ap (λ (a : Attempt Table). then_try a step) t.yields) ∙ d.yields in (
        t.id,
        t.v_is,
        record {
          of = record { held = t.held; named = t.pair };
          was = t.table;
          was_is = t.means;
          enters = d.enters;
          spares = d.spares;
          world = d.world;
          others = λ i ne. one-changed h.objects (id_of table) (entered named (object_of_value v) t.table) objects stepped i (λ f. ne (f ∙ ap id_of t.v_is));
        },
      )

  pub answered-table : (id : ℕ) × (table ≡ Pointer id) × HasEntered ks old new before after names h x id key to objects
  answered-table = go (operand-is old before h.objects names sound world (Some x) table d.denotes)
    where
      go : Operand old before h.objects names sound world (Some x) table → (id : ℕ) × (table ≡ Pointer id) × HasEntered ks old new before after names h x id key to objects
      go (no_table e f) = absurd (cc)
      go (other_object at e ne f) = (let bad = sym (ap (λ (a : Attempt Table). then_try a step) f) ∙ d.yields in absurd (cc))
      go (a_table at e t) = of-table at e t
