-- Bodies of procedures that are called.
use Rattle.std.specs.Prelude.{◌≡◌, ℕ, List, Option, Some, IfSome, if◌then◌else◌}
use Rattle.ps_base.specs.CodeUnit.{UnitView}
use Rattle.ps_base.specs.declared.line.Line.{Line}
use Rattle.machine_core.specs.ps_outside.Outside.{Outside}
use Rattle.machine_core.specs.obj_layout.Stored.{Space}
use Rattle.machine_core.specs.obj_layout.declared.reference.Reference.{Reference}
use Rattle.machine_core.specs.swizzle.Heap as area
use Rattle.machine_core.specs.swizzle.Heap.{IsHeld}
use Rattle.machine_core.specs.proc_values.Reading.{IsPlaceOf}
use Rattle.machine_core.specs.ps_heap.Values.{Value, Procedure, as_compiled}
use Rattle.machine_core.specs.ps_stepping.Config.{Config}
use Rattle.machine_core.specs.ps_stepping.Steps.{Step, Stuck}
use Rattle.machine_core.specs.ps_stepping.Procedures.{takes_refs, unit_called}
use Rattle.machine_core.specs.joint_ops.World.{DenotesIn}
use Rattle.machine_core.specs.objects.Bodies.{IsBodyIn}
use Rattle.machine_core.specs.objects.declared.body.Body.{Body}
use Rattle.machine_core.specs.declared.machine.Machine.{Machine}
use Rattle.machine_core.specs.declared.stepped.Stepped.{Stepped}
use Rattle.machine_core.specs.Calling.{HasBelow, call_popped}
use Rattle.machine_core.specs.Holding.{HeldBy, IsSound, object_in}
use Rattle.machine_core.specs.Naming.{NamesObjects}
use Rattle.machine_core.specs.Stepped.{Does, UnlessBroken}

-- a value is the procedure of a unit
pub record IsProcedure (v : Value) : Type 0 where
  pub unit : UnitView
  pub scope : Option ℕ
  pub is : v ≡ Procedure (as_compiled unit) scope

module _ (here : area.Heap) (outside : Outside Space) where
  -- whatever the word denotes isn't called
  abbrev pub IsNotCalled : ℕ → Type 0
  IsNotCalled word = (names : List Reference) (v : Value) → DenotesIn here outside names (object_in word) v
      → (next : UnitView → Option ℕ → Step) → unit_called v next ≡ Stuck

  -- the word names this object, and whatever it denotes is a procedure
  pub record IsCalled (word at : ℕ) : Type 0 where
    pub named : object_in word ≡ Some at
    pub is : (names : List Reference) (v : Value) → DenotesIn here outside names (object_in word) v → IsProcedure v

module _ (outside : Outside Space) where
  -- what is below so many references is this word, which denotes a value
  abbrev pub IsBelow : ℕ → ℕ → Machine → Type 0
  IsBelow n word m = (names : List Reference) (c : Config) → HeldBy outside names m c → HasBelow outside n names m c (Some word)

  -- From each configuration that the machine holds, where the body is that of a unit, the call of it with so many references is what was answered.
  pub record CallsWith (body : Body) (n : ℕ) (line : Line) (old new : Machine) (answer : Stepped) : Type 0 where
    pub sound : IsSound new
    pub names : NamesObjects old → IsPlaceOf old.objects body.code body.place → IfSome body.scope (IsHeld old.objects) → UnlessBroken answer (NamesObjects new)
    pub size : UnlessBroken answer (new.objects.size ≡ old.objects.size)
    pub does : (names : List Reference) (c : Config) (of : UnitView) (scope : Option ℕ) → HeldBy outside names old c → IsBodyIn old.objects outside names of scope body
        → Does outside outside old.objects.size (if takes_refs n body.frame then call_popped n body.frame.num_params line of scope c else Stuck) answer new
