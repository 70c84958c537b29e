-- What is called, and what comes of a call and of coming back.
use Rattle.std.specs.Prelude.{◌≡◌, ℕ, Bool, true, false, List, [], ◌∷◌, length, Option, Some, None}
use Rattle.ps_base.specs.CodeUnit.{UnitView}
use Rattle.ps_base.specs.declared.line.Line.{Line}
use Rattle.joint_ops.specs.ps_outside.Outside.{Outside}
use Rattle.joint_ops.specs.obj_layout.Stored.{Space}
use Rattle.joint_ops.specs.obj_layout.declared.reference.Reference.{Reference}
use Rattle.joint_ops.specs.swizzle.Heap as area
use Rattle.joint_ops.specs.proc_values.Loaded.{IsFitUnit}
use Rattle.joint_ops.specs.proc_values.Reading.{IsPlaceOf}
use Rattle.ps_stepping.specs.ps_heap.Values.{Value}
use Rattle.ps_stepping.specs.Config.{Caller, Config, frame_in}
use Rattle.ps_stepping.specs.Machine.{resumed}
use Rattle.ps_stepping.specs.Steps.{Step, Stuck, pop_ref}
use Rattle.ps_stepping.specs.Objects.{pop_nums, pop_refs}
use Rattle.ps_stepping.specs.Procedures.{called}
use Rattle.joint_ops.specs.World.{DenotesIn, DenotesScopeIn, IsUnitIn}
use Rattle.machine_core.specs.declared.body.Body.{Body}
use Rattle.machine_core.specs.declared.machine.Machine.{Machine}
use Rattle.machine_core.specs.declared.stepped.Stepped.{Stepped}
use Rattle.machine_core.specs.Holding.{HeldBy, IsSound, object_in}
use Rattle.machine_core.specs.Naming.{IsNamed, NamesObjects}
use Rattle.machine_core.specs.Stepped.{Does, UnlessBroken}

-- A body is that of this unit, in this scope.
pub record IsBody (here : area.Heap) (outside : Outside Space) (names : List Reference) (body : Body) (of : UnitView) (scope : Option ℕ) : Type 0 where
  pub unit_is : IsUnitIn here outside body.code of
  pub fit : IsFitUnit of
  pub frame_is : frame_in of ≡ body.frame
  pub scope_is : DenotesScopeIn here outside names (object_in body.scope) scope

-- The bytes of its code lie at their place, and its scope is none or one of the area.
pub record IsThere (here : area.Heap) (body : Body) : Type 0 where
  pub code : IsPlaceOf here body.code body.place
  pub scope : IsNamed here body.scope

-- so many references are popped, and then one below them
abbrev pub pop_below : ℕ → Config → (List Value → Value → Config → Step) → Step
pop_below n c next = pop_refs n [] c (λ vs d. pop_ref d (λ v e. next vs v e))

-- A body is called with so many references and numbers that are popped, between which the procedure is.
abbrev pub call_popped : ℕ → ℕ → Line → UnitView → Option ℕ → Config → Step
call_popped refs nums line of scope c = pop_below refs c (λ vs v d. pop_nums nums [] d (λ zs e. called (length e.callers) line of scope zs vs e))

module _ (outside : Outside Space) where
  -- From each configuration that the machine holds, where the body is that of a unit, the call of it is what was answered.
  pub record Calls (body : Body) (refs : ℕ) (line : Line) (old new : Machine) (answer : Stepped) : Type 0 where
    pub sound : IsSound new
    pub names : NamesObjects old → IsThere old.objects body → UnlessBroken answer (NamesObjects new)
    pub size : UnlessBroken answer (new.objects.size ≡ old.objects.size)
    pub does : (names : List Reference) (c : Config) (of : UnitView) (scope : Option ℕ) → HeldBy outside names old c → IsBody old.objects outside names body of scope
        → Does outside outside old.objects.size (call_popped refs body.frame.num_params line of scope c) answer new

  -- what the word denotes that stands below so many references, or there are not so many
  abbrev pub HasBelow : ℕ → List Reference → Machine → Config → Option ℕ → Type 0
  HasBelow n names m c None = (next : List Value → Value → Config → Step) → pop_below n c next ≡ Stuck
  HasBelow n names m c (Some w) =
      (vs : List Value) × (v : Value) × (d : Config) × ((next : List Value → Value → Config → Step) → pop_below n c next ≡ next vs v d)
      × DenotesIn m.objects outside names (object_in w) v

  -- The last body that waits goes on where it waited; or none does, and the machine stays.
  abbrev pub GoesBack : List Reference → Machine → Machine → Config → Bool → Type 0
  GoesBack names old new c true =
      (caller : Caller) × (rest : List Caller) × (c.callers ≡ caller ∷ rest) × HeldBy outside names new (resumed caller caller.nums caller.refs rest c.store)
  GoesBack names old new c false = (c.callers ≡ []) × HeldBy outside names new c

  pub record Resumes (old new : Machine) (answer : Bool) : Type 0 where
    pub goes : (names : List Reference) (c : Config) → HeldBy outside names old c → GoesBack names old new c answer

  -- The machine holds each configuration that it held, with this scope for the current one.
  pub record Enters (to : Option ℕ) (old new : Machine) : Type 0 where
    pub holds : (names : List Reference) (c : Config) (scope : Option ℕ) → HeldBy outside names old c → DenotesScopeIn old.objects outside names to scope
        → HeldBy outside names new (record c { scope = scope })
