-- What follows a vector that was popped: an element of it is pushed, or is written.
use Rattle.std.specs.Prelude.{◌≡◌, ℕ, ℤ, true, false, List, Option, Some}
use Rattle.ps_base.specs.declared.line.Line.{Line}
use Rattle.machine_core.specs.ps_outside.Outside.{Outside}
use Rattle.machine_core.specs.obj_layout.Stored.{Space}
use Rattle.machine_core.specs.obj_layout.declared.reference.Reference.{Reference}
use Rattle.machine_core.specs.text_forms.declared.forms.Form.{Form}
use Rattle.machine_core.specs.text_forms.Forms.{element_of, is_number_form}
use Rattle.machine_core.specs.ps_heap.Values.{Value, Num, Vector, word_of}
use Rattle.machine_core.specs.ps_heap.Held.{reading, element_place}
use Rattle.machine_core.specs.ps_heap.Objects.{kept_as, with_element, element_of as element_at}
use Rattle.machine_core.specs.ps_stepping.Config.{Config}
use Rattle.machine_core.specs.ps_stepping.Steps.{Step, Stuck, attempted, push_num, push_ref}
use Rattle.machine_core.specs.ps_stepping.Objects.{type_of, when_number, when_reference, having, changed}
use Rattle.machine_core.specs.joint_ops.World.{DenotesIn}
use Rattle.machine_core.specs.declared.machine.Machine.{Machine}
use Rattle.machine_core.specs.declared.stepped.Stepped.{Stepped}
use Rattle.machine_core.specs.Holding.{HeldBy, IsSound}
use Rattle.machine_core.specs.Naming.{NamesObjects}
use Rattle.machine_core.specs.Stepped.{Does, UnlessBroken}

-- The element at a subscript of a vector whose type has this text, as it is pushed: an int or a bool, or a reference.
abbrev pub number_read : Line → ℤ → List ℕ → Value → Config → Step
number_read line at ty v c = attempted line (element_at c.store.held.objects v at) (λ w. when_number (Some (element_of ty)) (push_num (word_of w) (having (reading w) c)))

abbrev pub reference_read : Line → ℤ → List ℕ → Value → Config → Step
reference_read line at ty v c = attempted line (element_at c.store.held.objects v at) (λ w. when_reference (Some (element_of ty)) (push_ref w (having (reading w) c)))

-- A number, or a reference, is written there.
abbrev pub number_put : Line → ℤ → ℤ → List ℕ → Value → Config → Step
number_put line at z ty v c =
    attempted line (with_element c.store.held.objects v at (kept_as (Some (element_of ty)) (Num z))) (λ heap. when_number (Some (element_of ty)) (changed (element_place c.store.held.objects v at) heap c))

abbrev pub reference_put : Line → ℤ → Value → List ℕ → Value → Config → Step
reference_put line at w ty v c = attempted line (with_element c.store.held.objects v at w) (λ heap. when_reference (Some (element_of ty)) (changed (element_place c.store.held.objects v at) heap c))

-- What is to be written belongs into the other row: the trap of the subscript, or none.
abbrev pub refused : Line → ℤ → Value → Value → Config → Step
refused line at w v c = attempted line (with_element c.store.held.objects v at w) (λ heap. Stuck)

-- ints or bools, or references
abbrev pub OfNumbers : Form → Type 0
OfNumbers form = is_number_form form ≡ true

abbrev pub OfReferences : Form → Type 0
OfReferences form = is_number_form form ≡ false

module _ (before after : Outside Space) where
  -- From each configuration that the machine holds, where this object denotes a vector and its elements are such, what follows the vector is what was
  -- answered.
  pub record TakesVector (such : Form → Type 0) (of : List ℕ → Value → Config → Step) (vector : ℕ) (old new : Machine) (answer : Stepped) : Type 0 where
    pub sound : IsSound new
    pub names : UnlessBroken answer (NamesObjects new)
    pub size : UnlessBroken answer (new.objects.size ≡ old.objects.size)
    pub does : (names : List Reference) (c : Config) (id : ℕ) (ty : List ℕ) → HeldBy before names old c
        → DenotesIn old.objects before names (Some vector) (Vector id) → type_of c.store.held.objects (Vector id) ≡ Some ty → such (element_of ty)
        → Does before after old.objects.size (of ty (Vector id) c) answer new

  -- And so where an object, or none, denotes a value that is written.
  pub record PutsReference (such : Form → Type 0) (line : Line) (at : ℤ) (to : Option ℕ) (vector : ℕ) (old new : Machine) (answer : Stepped) : Type 0 where
    pub sound : IsSound new
    pub names : UnlessBroken answer (NamesObjects new)
    pub size : UnlessBroken answer (new.objects.size ≡ old.objects.size)
    pub does : (names : List Reference) (c : Config) (id : ℕ) (ty : List ℕ) (w : Value) → HeldBy before names old c
        → DenotesIn old.objects before names (Some vector) (Vector id) → type_of c.store.held.objects (Vector id) ≡ Some ty → such (element_of ty)
        → DenotesIn old.objects before names to w → Does before after old.objects.size (reference_put line at w ty (Vector id) c) answer new

  -- And so where whatever is to be written is refused.
  pub record RefusesElement (line : Line) (at : ℤ) (vector : ℕ) (old new : Machine) (answer : Stepped) : Type 0 where
    pub sound : IsSound new
    pub names : UnlessBroken answer (NamesObjects new)
    pub size : UnlessBroken answer (new.objects.size ≡ old.objects.size)
    pub does : (names : List Reference) (c : Config) (id : ℕ) (w : Value) → HeldBy before names old c
        → DenotesIn old.objects before names (Some vector) (Vector id) → Does before after old.objects.size (refused line at w (Vector id) c) answer new
