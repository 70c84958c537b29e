-- What is popped of the stack of references, where it is of the kind that an instruction wants.
use Rattle.std.specs.Prelude.{◌≡◌, ℕ, List, Option, Some, None}
use Rattle.machine_core.specs.ps_outside.Outside.{Outside}
use Rattle.machine_core.specs.obj_layout.Stored.{Space}
use Rattle.machine_core.specs.obj_layout.declared.reference.Reference.{Reference}
use Rattle.machine_core.specs.obj_layout.declared.kind.Kind.{Kind}
use Rattle.machine_core.specs.swizzle.Heap as area
use Rattle.machine_core.specs.swizzle.Heap.{IsHeld, header_at}
use Rattle.machine_core.specs.ps_heap.Values.{Value, Text, Vector}
use Rattle.machine_core.specs.ps_stepping.Config.{Config}
use Rattle.machine_core.specs.ps_stepping.Steps.{Step, Stuck, pop_ref, pop_text}
use Rattle.machine_core.specs.ps_stepping.Objects.{pop_object, pop_denoting, pop_vector, type_of}
use Rattle.machine_core.specs.joint_ops.World.{DenotesIn}
use Rattle.machine_core.specs.joint_ops.Operands.{IsByObject}
use Rattle.machine_core.specs.declared.machine.Machine.{Machine}
use Rattle.machine_core.specs.Holding.{HeldBy}

-- an object of this kind lies there
abbrev pub IsKind : Kind → area.Heap → ℕ → Type 0
IsKind kind here at = IsHeld here at × ((header_at here at).kind ≡ kind)

abbrev pub anything : {W : Type 0} → W → Type 0
anything w = Unit {0}

module _ (outside : Outside Space) where
  -- What follows gets what was popped, which an object of the area denotes, and the configuration that the machine holds then; or there is nothing of
  -- the kind.
  abbrev pub GivesAs : {T W : Type 0} → (T → Option ℕ) → (W → Value) → (W → Type 0) → List Reference → ((W → Config → Step) → Step) → Option T → Machine → Type 0
  GivesAs {T} {W} named value is names taking None m = (next : W → Config → Step) → taking next ≡ Stuck
  GivesAs {T} {W} named value is names taking (Some t) m =
      (d : Config) × (w : W) × ((next : W → Config → Step) → taking next ≡ next w d) × HeldBy outside names m d
      × DenotesIn m.objects outside names (named t) (value w) × is w

  pub record TakenAs {T W : Type 0} (named : T → Option ℕ) (value : W → Value) (is : W → Type 0) (taking : Config → (W → Config → Step) → Step)
      (old new : Machine) (answer : Option T) : Type 0 where
    pub gives : (names : List Reference) (c : Config) → HeldBy outside names old c → GivesAs named value is names (taking c) answer new

  abbrev pub PopsText : Machine → Machine → Option ℕ → Type 0
  PopsText = TakenAs (λ at. Some at) (λ bytes. Text bytes) anything pop_text

  -- whatever is on top
  abbrev pub PopsAny : Machine → Machine → Option (Option ℕ) → Type 0
  PopsAny = TakenAs (λ to. to) (λ v. v) anything pop_ref

  -- nil or a structure
  abbrev pub PopsObject : Machine → Machine → Option (Option ℕ) → Type 0
  PopsObject = TakenAs (λ to. to) (λ v. v) anything pop_object

  -- nil, a structure, a table or a vector
  abbrev pub PopsDenoting : Machine → Machine → Option (Option ℕ) → Type 0
  PopsDenoting = TakenAs (λ to. to) (λ v. v) IsByObject pop_denoting

  -- A vector, whose type's text what follows gets too.
  abbrev pub GivesVector : List Reference → Config → Option ℕ → Machine → Type 0
  GivesVector names c None m = (next : List ℕ → Value → Config → Step) → pop_vector c next ≡ Stuck
  GivesVector names c (Some at) m =
      (d : Config) × (id : ℕ) × (ty : List ℕ) × ((next : List ℕ → Value → Config → Step) → pop_vector c next ≡ next ty (Vector id) d)
      × (type_of d.store.held.objects (Vector id) ≡ Some ty) × HeldBy outside names m d × DenotesIn m.objects outside names (Some at) (Vector id)

  pub record PopsVector (old new : Machine) (answer : Option ℕ) : Type 0 where
    pub gives : (names : List Reference) (c : Config) → HeldBy outside names old c → GivesVector names c answer new
