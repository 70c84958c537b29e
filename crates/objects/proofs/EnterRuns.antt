-- What a run holds after an enter, from what the calls on tables answer.
use Rattle.std.proofs.Common.{◌≡◌, ℕ, ℤ, List, Option, Some, Ok, Err, sym, ap, subst}
use Rattle.std.specs.Prelude.{Result, OnOk}
use Rattle.joint_ops.specs.ps_outside.Outside.{Outside}
use Rattle.joint_ops.specs.obj_layout.Stored.{Space}
use Rattle.joint_ops.specs.obj_layout.declared.reference.Reference.{Reference}
use Rattle.joint_ops.specs.swizzle.Heap as area
use Rattle.joint_ops.specs.swizzle.Heap.{IsHeap}
use Rattle.joint_ops.specs.swizzle.Text.{text_at}
use Rattle.joint_ops.specs.heap_texts.declared.fault.OpFault.{OpFault}
use Rattle.joint_ops.specs.heap_texts.declared.fault.OpFault.TheVariants as op
use Rattle.joint_ops.specs.ps_heap.Values.{Value}
use Rattle.joint_ops.specs.ps_heap.Tables.{Key, int_key, string_key}
use Rattle.joint_ops.specs.ps_heap.Objects.{id_of}
use Rattle.joint_ops.specs.ps_heap.Held.{Held, Under}
use Rattle.joint_ops.specs.World.{DenotesIn}
use Rattle.joint_tables.specs.Tables.{EntersKey, NamesTable}
use Rattle.joint_tables.specs.table_lib.Entries.{Enters, SparesBut}
use Rattle.joint_tables.specs.table_lib.table_nodes.Steps.{place}
use Rattle.joint_tables.specs.table_lib.table_nodes.node_rows.Keys.{Keys, KeyOf, by_ints, by_texts}
use Rattle.joint_held.specs.reach_commit.commit_walk.declared.homes.Source.{Source}
use Rattle.joint_held.specs.Entering.{EntersTable}
use Rattle.joint_held.specs.Held.{HoldsRun}
use Rattle.joint_held.proofs.EnterLaws.{entered-run}
use Rattle.joint_entered.proofs.EnteredLaws.{answered-enter}
use Rattle.objects.specs.Entering.{EntersRun}
use Rattle.objects.proofs.TableCalls.{EntersInt, EntersIntRun, EntersText, EntersTextRun}

module _ (ks : Keys) (old new : area.Heap) (before after : Outside Space) (names : List Reference) (writing : List Source) (directory : Option ℕ) (h : Held)
    (was_sound : IsHeap old) (sound : IsHeap new) (run : HoldsRun old before names writing directory h) (operand to : Option ℕ) (table v : Value) (named : Key)
    (key : KeyOf ks) (denotes : DenotesIn old before names operand table) where
  pub enters-run : (result : Result (Unit {0}) OpFault) → EntersKey old new before after h.objects names operand table named v result
      → Enters ks (place old before) (place new after) operand key to result → OnOk result (NamesTable old operand)
      → ((at : ℕ) → operand ≡ Some at → OnOk result (SparesBut at old new before after))
      → EntersRun old new before after names writing directory h table named v result
  enters-run (Ok done) entered pairs is spares =
      let d = answered-enter ks old new before after names writing directory h is.at table named v key to entered.0 was_sound sound run (record {
        denotes = subst (λ (o : Option ℕ). DenotesIn old before names o table) is.is denotes;
        yields = entered.1;
        enters = subst (λ (o : Option ℕ). Enters {T = Unit {0}} ks (place old before) (place new after) o key to (Ok tt)) is.is pairs;
        spares = spares is.at is.is;
        world = entered.2.world;
      }) in
      let now = subst (λ (id : ℕ). EntersTable old new before after names h run.world.row.stands.tables.nodes is.at id entered.0) (sym (ap id_of d.1)) d.2 in (
        entered.0,
        entered.1,
        record {
          carries = entered.2.carries;
          run = entered-run old new before after names writing directory h is.at (Under (id_of table) named) entered.0 was_sound sound run now;
        },
      )
  enters-run (Err (op.Trap t)) entered pairs is spares = entered
  enters-run (Err (op.Swizzle fault)) entered pairs is spares = entered.1

-- The same of the calls by a string and by an int.
module _ (old new : area.Heap) (before after : Outside Space) (was_sound : IsHeap old) (sound : IsHeap new) (operand to : Option ℕ) (result : Result (Unit {0}) OpFault)
    (is : OnOk result (NamesTable old operand)) (spares : (at : ℕ) → operand ≡ Some at → OnOk result (SparesBut at old new before after)) where
  pub text-run : (key : ℕ) → EntersText old new before after key operand to result
      → Enters by_texts (place old before) (place new after) operand (text_at old key) to result → EntersTextRun old new before after key operand to result
  text-run key entered pairs names writing directory h bytes v w run dk dt dw pntr =
      enters-run by_texts old new before after names writing directory h was_sound sound run operand to v w (string_key bytes) (text_at old key) dt result
      (entered h.objects names bytes v w run.world dk dt dw pntr) pairs is spares

  pub int-run : (key : ℤ) → EntersInt old new before after key operand to result → Enters by_ints (place old before) (place new after) operand key to result
      → EntersIntRun old new before after key operand to result
  int-run key entered pairs names writing directory h v w run dt dw pntr =
      enters-run by_ints old new before after names writing directory h was_sound sound run operand to v w (int_key key) key dt result
      (entered h.objects names v w run.world dt dw pntr) pairs is spares
