-- So many words that are popped at once, as the machine's values.
use Rattle.std.specs.Prelude.{◌≡◌, ℕ, ℤ, Bool, true, false, List, [], map, replicate, Some}
use Rattle.machine_core.specs.ps_outside.Outside.{Outside}
use Rattle.machine_core.specs.obj_layout.Stored.{Space}
use Rattle.machine_core.specs.obj_layout.declared.reference.Reference.{Reference}
use Rattle.machine_core.specs.text_forms.declared.forms.Form.{Form}
use Rattle.machine_core.specs.text_forms.declared.forms.Form.TheVariants as form
use Rattle.machine_core.specs.heap_places.declared.value.Value as code
use Rattle.machine_core.specs.heap_places.declared.value.Value.TheVariants as held
use Rattle.machine_core.specs.ps_heap.Values.{Value, Num}
use Rattle.machine_core.specs.ps_heap.Objects.{kept_as}
use Rattle.machine_core.specs.ps_stepping.Config.{Config}
use Rattle.machine_core.specs.ps_stepping.Steps.{Step, Stuck}
use Rattle.machine_core.specs.ps_stepping.Objects.{pop_nums, pop_refs}
use Rattle.machine_core.specs.joint_ops.Operands.{AreForIn}
use Rattle.machine_core.specs.declared.machine.Machine.{Machine}
use Rattle.machine_core.specs.Holding.{HeldBy, IsSound, object_in}
use Rattle.machine_core.specs.Naming.{NamesObjects}

-- numbers as a place of a form keeps them
abbrev pub kept_values : Form → List ℤ → List Value
kept_values form zs = map (kept_as (Some form)) (map Num zs)

-- what a word of the stack of references names
abbrev pub named : ℕ → code.Value
named word = held.Ref (object_in word)

-- The objects stay as they were, and the machine's words name objects of the area where they did.
pub record LeavesObjects (old new : Machine) : Type 0 where
  pub sound : IsSound new
  pub objects : new.objects ≡ old.objects
  pub names : NamesObjects old → NamesObjects new

module _ (outside : Outside Space) where
  -- What follows gets so many numbers, which the machine's values denote as a place of this form keeps them; or there are too few.
  abbrev pub GivesNumbers : Form → ℕ → List Reference → ((List ℤ → Config → Step) → Step) → Bool → Machine → Type 0
  GivesNumbers f n names taking false m = (next : List ℤ → Config → Step) → taking next ≡ Stuck
  GivesNumbers f n names taking true m =
      (d : Config) × (zs : List ℤ) × ((next : List ℤ → Config → Step) → taking next ≡ next zs d) × HeldBy outside names m d
      × AreForIn m.objects outside names (replicate n f) m.values.items (kept_values f zs)

  pub record TakesNumbers (f : Form) (n : ℕ) (old new : Machine) (all : Bool) : Type 0 where
    pub gives : (names : List Reference) (c : Config) → HeldBy outside names old c → GivesNumbers f n names (pop_nums n [] c) all new

  -- And so with references.
  abbrev pub GivesReferences : ℕ → List Reference → ((List Value → Config → Step) → Step) → Bool → Machine → Type 0
  GivesReferences n names taking false m = (next : List Value → Config → Step) → taking next ≡ Stuck
  GivesReferences n names taking true m =
      (d : Config) × (vs : List Value) × ((next : List Value → Config → Step) → taking next ≡ next vs d) × HeldBy outside names m d
      × AreForIn m.objects outside names (replicate n form.Reference) m.values.items vs

  pub record TakesReferences (n : ℕ) (old new : Machine) (all : Bool) : Type 0 where
    pub gives : (names : List Reference) (c : Config) → HeldBy outside names old c → GivesReferences n names (pop_refs n [] c) all new
