-- What follows the operands of a call on tables, once the operation was done.
use Rattle.machine_core.specs.Holding.{world_in, run_in}
use Rattle.std.proofs.Common.{◌≡◌, ℕ, List, Option, ◌∙◌}
use Rattle.std.specs.Prelude.{Result, Ok, Err, IfOk, IfSome}
use Rattle.ps_base.specs.declared.line.Line.{Line}
use Rattle.machine_core.specs.ps_outside.Outside.{Outside}
use Rattle.machine_core.specs.obj_layout.Stored.{Space}
use Rattle.machine_core.specs.obj_layout.declared.reference.Reference.{Reference}
use Rattle.machine_core.specs.swizzle.Heap as area
use Rattle.machine_core.specs.swizzle.Heap.{IsHeld, Stands as AllStand}
use Rattle.machine_core.specs.swizzle.Reading.{LeavesOutside}
use Rattle.machine_core.specs.swizzle.Touch.{Keeps}
use Rattle.machine_core.specs.heap_ops.Outcomes.{UnlessFault}
use Rattle.machine_core.specs.heap_texts.declared.fault.OpFault.{OpFault}
use Rattle.machine_core.specs.heap_texts.declared.fault.OpFault.TheVariants as op
use Rattle.machine_core.specs.ps_heap.Library.{MakeTable}
use Rattle.machine_core.specs.ps_heap.Objects.{Heap, Keyed}
use Rattle.machine_core.specs.ps_heap.Tables.{Key, without_keys}
use Rattle.machine_core.specs.ps_heap.Texts.{Yields}
use Rattle.machine_core.specs.ps_heap.Values.{Value, Pointer}
use Rattle.machine_core.specs.ps_stepping.Config.{Config}
use Rattle.machine_core.specs.ps_stepping.Steps.{Step, attempted}
use Rattle.machine_core.specs.ps_stepping.Objects.{make}
use Rattle.machine_core.specs.ps_stepping.Library.{call_on_heap}
use Rattle.machine_core.specs.joint_ops.Made.{Makes}
use Rattle.machine_core.specs.joint_ops.World.{IsWorld}
use Rattle.machine_core.specs.declared.machine.Machine.{Machine}
use Rattle.machine_core.specs.declared.stepped.Stepped.{Stepped}
use Rattle.machine_core.specs.Naming.{NamesObjects}
use Rattle.machine_core.specs.Stepped.{Takes}
use Rattle.machine_core.proofs.Carrying.{unless-broken}
use Rattle.machine_operands.specs.Giving.{GivesObject, structures}
use Rattle.machine_operands.proofs.Parts.{unless-fault}
use Rattle.machine_operands.proofs.Reading.{names-kept, names-stand}
use Rattle.joint_tables.specs.Tables.{LooksUp, under_key}
use Rattle.machine_core.specs.ps_heap.Held.{Held}
use Rattle.machine_core.specs.joint_held.Held.{HoldsRun}
use Rattle.machine_core.specs.objects.Entering.{EntersRun}
use Rattle.machine_tables.specs.inside.Operands.{Follows}
use Rattle.machine_tables.specs.inside.Ends.{EndsEnter, GivesFound, found_given, pair_entered}
use Rattle.machine_tables.proofs.Calls.{table-made}
use Rattle.machine_tables.proofs.Parts.{does-as, names-after, size-after}

module _ (before after : Outside Space) (m new : Machine) (now : area.Heap) (r : Stepped) (line : Line) (n : NamesObjects m) (left : LeavesOutside before after)
    {A : Type 0} (denotes : List Reference → A → Type 0) (of : A → Config → Step) (key : A → Key) (table : A → Value) where
  -- What was looked up is pushed.
  pub follows-found : (got : Result (Option ℕ) OpFault) → Keeps m.objects now → IfOk got (λ to. IfSome to (IsHeld now))
      → ((a : A) (c : Config) → of a c ≡ attempted line (under_key c.store.held.objects (table a) (key a)) (λ found. found_given found c))
      → ((heap : Heap) (names : List Reference) (a : A) → IsWorld m.objects before heap names → denotes names a
      → LooksUp m.objects now before after heap names (table a) (key a) got)
      → GivesFound before after (record m { objects = now }) new r line got → Follows before after denotes of m new r
  follows-found got keeps held same looked g = record {
    sound = g.ends.sound;
    names = g.ends.names (names-after m now got n keeps) held;
    size = g.ends.size m.objects.size (size-after m now got keeps);
    does = λ names c a h d.
        does-as before after m.objects.size (of a c) (attempted line (under_key c.store.held.objects (table a) (key a)) (λ found. found_given found c)) r new
        (same a c)
        (g.does m.objects names c (under_key c.store.held.objects (table a) (key a)) left h (looked c.store.held.objects names a (world_in h.run) d));
  }

  -- A pair was entered.
  pub follows-entered : (entry : A → Value) (done : Result (Unit {0}) OpFault) → UnlessFault done (AllStand m.objects now)
      → UnlessFault done (now.size ≡ m.objects.size)
      → ((a : A) (c : Config) → of a c ≡ pair_entered line (key a) (table a) (entry a) c)
      → ((names : List Reference) (h : Held) (a : A) → HoldsRun m.objects before names m.databases.writing.items m.databases.directory h → denotes names a
      → EntersRun m.objects now before after names m.databases.writing.items m.databases.directory h (table a) (key a) (entry a) done)
      → EndsEnter before after (record m { objects = now }) new r line done → Follows before after denotes of m new r
  follows-entered entry done stand size same entered g = record {
    sound = g.ends.sound;
    names = g.ends.names (unless-fault done (λ s. names-stand m now s n) stand) (whatever done);
    size = g.ends.size m.objects.size size;
    does = λ names c a h d.
        does-as before after m.objects.size (of a c) (pair_entered line (key a) (table a) (entry a) c) r new (same a c)
        (g.does m.objects names c (key a) (table a) (entry a) h (entered names c.store.held a (run_in h.run) d) left);
  }
    where
      whatever : (done : Result (Unit {0}) OpFault) → IfOk done (λ unit. Unit {0})
      whatever (Ok unit) = tt
      whatever (Err fault) = tt

-- A new table is made.
pub table-given : (out : Outside Space) (m new : Machine) (now : area.Heap) (r : Stepped) (line : Line) (made : Result ℕ OpFault) → NamesObjects m
    → Keeps m.objects now → IfOk made (IsHeld now)
    → ((heap : Heap) (names : List Reference) → IsWorld m.objects out heap names
    → Makes m.objects now out heap names Pointer (Yields (Keyed without_keys)) made)
    → GivesObject out line (record m { objects = now }) new r made → Takes out out (call_on_heap MakeTable line) m new r
table-given out m new now r line made n keeps held makes g = record {
  sound = g.ends.sound;
  names = λ again. g.ends.names (names-kept m now keeps n) held;
  size = unless-broken r (λ e. e ∙ keeps.size) g.ends.size;
  does = λ c h.
      does-as out out m.objects.size (call_on_heap MakeTable line c) (make Pointer (Keyed without_keys) c) r new (table-made line c)
      (g.does m.objects h.names c Pointer (Yields (Keyed without_keys)) structures h.held (makes c.store.held.objects h.names (world_in h.held.run)));
}

-- what is so is so unless an operation failed as a whole
pub so-unless-fault : {T : Type 0} (got : Result T OpFault) (P : Type 0) → P → UnlessFault got P
so-unless-fault (Ok given) P p = p
so-unless-fault (Err (op.Trap t)) P p = p
so-unless-fault (Err (op.Swizzle fault)) P p = tt

pub whatever-told : {T : Type 0} (got : Result T OpFault) → IfOk got (λ given. Unit {0})
whatever-told (Ok given) = tt
whatever-told (Err fault) = tt
