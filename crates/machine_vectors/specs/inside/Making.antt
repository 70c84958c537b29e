-- What follows the text of a type: a vector of it is made, beside a vault that stays.
use Rattle.std.specs.Prelude.{◌≡◌, ℕ, List, [], length, replicate, Some}
use Rattle.ps_base.specs.declared.line.Line.{Line}
use Rattle.machine_core.specs.ps_outside.Outside.{Outside}
use Rattle.machine_core.specs.obj_layout.Stored.{Space}
use Rattle.machine_core.specs.obj_layout.declared.reference.Reference.{Reference}
use Rattle.machine_core.specs.text_forms.Forms.{element_of}
use Rattle.machine_core.specs.heap_places.declared.value.Value as code
use Rattle.machine_core.specs.ps_heap.Values.{Value, Num, Text, Vector}
use Rattle.machine_core.specs.ps_heap.Objects.{kept_as, filled_vector, vector_of}
use Rattle.machine_core.specs.ps_stepping.Config.{Config}
use Rattle.machine_core.specs.ps_stepping.Steps.{Step, attempted, pop_num, pop_ref, pop_two}
use Rattle.machine_core.specs.ps_stepping.Objects.{make, pop_nums, pop_refs, when_number, when_reference}
use Rattle.machine_core.specs.joint_ops.World.{DenotesIn, IsForIn, IsOfForm}
use Rattle.machine_core.specs.joint_ops.Operands.{AreForIn}
use Rattle.machine_core.specs.declared.machine.Machine.{Machine}
use Rattle.machine_core.specs.declared.stepped.Stepped.{Stepped}
use Rattle.machine_core.specs.Holding.{HeldBy, IsSound}
use Rattle.machine_core.specs.Naming.{NamesObjects}
use Rattle.machine_core.specs.Stepped.{Does, UnlessBroken}
use Rattle.machine_vectors.specs.inside.Taking.{kept_values}

-- an upper and a lower bound are popped, and a vector is made whose elements all have this value
abbrev pub filled : Line → List ℕ → Value → Config → Step
filled line ty v c = pop_two c (λ low high d. attempted line (filled_vector ty low high v) (λ object. make Vector object d))

-- a lower bound is popped, and a vector is made of these elements
abbrev pub listed : Line → List ℕ → List Value → Config → Step
listed line ty elements c = pop_num c (λ low d. attempted line (vector_of ty low elements) (λ object. make Vector object d))

-- a vector of one value, which is popped first
abbrev pub numbers_filled : Line → List ℕ → Config → Step
numbers_filled line ty c = when_number (Some (element_of ty)) (pop_num c (λ z d. filled line ty (kept_as (Some (element_of ty)) (Num z)) d))

abbrev pub references_filled : Line → List ℕ → Config → Step
references_filled line ty c = when_reference (Some (element_of ty)) (pop_ref c (λ v d. filled line ty v d))

-- a vector of so many values, which are popped first
abbrev pub numbers_listed : ℕ → Line → List ℕ → Config → Step
numbers_listed n line ty c = when_number (Some (element_of ty)) (pop_nums n [] c (λ zs d. listed line ty (kept_values (element_of ty) zs) d))

abbrev pub references_listed : ℕ → Line → List ℕ → Config → Step
references_listed n line ty c = when_reference (Some (element_of ty)) (pop_refs n [] c (λ vs d. listed line ty vs d))

module _ (outside : Outside Space) where
  -- From each configuration that the machine holds, what follows the text that this object denotes is what was answered.
  pub record TakesType (of : List ℕ → Config → Step) (ty : ℕ) (old new : Machine) (answer : Stepped) : Type 0 where
    pub sound : IsSound new
    pub names : UnlessBroken answer (NamesObjects new)
    pub size : UnlessBroken answer (new.objects.size ≡ old.objects.size)
    pub does : (names : List Reference) (c : Config) (text : List ℕ) → HeldBy outside names old c → DenotesIn old.objects outside names (Some ty) (Text text)
        → Does outside outside old.objects.size (of text c) answer new

  -- And so where this value in code denotes the one that all elements have.
  pub record FillsWith (ty : ℕ) (to : code.Value) (line : Line) (old new : Machine) (answer : Stepped) : Type 0 where
    pub sound : IsSound new
    pub names : UnlessBroken answer (NamesObjects new)
    pub size : UnlessBroken answer (new.objects.size ≡ old.objects.size)
    pub does : (names : List Reference) (c : Config) (text : List ℕ) (v : Value) → HeldBy outside names old c
        → DenotesIn old.objects outside names (Some ty) (Text text) → IsOfForm (element_of text) to → IsForIn old.objects outside names to v
        → Does outside outside old.objects.size (filled line text v c) answer new

  -- And so where the machine's values denote the elements.
  pub record ListsValues (ty : ℕ) (line : Line) (old new : Machine) (answer : Stepped) : Type 0 where
    pub sound : IsSound new
    pub names : UnlessBroken answer (NamesObjects new)
    pub size : UnlessBroken answer (new.objects.size ≡ old.objects.size)
    pub does : (names : List Reference) (c : Config) (text : List ℕ) (elements : List Value) → HeldBy outside names old c
        → DenotesIn old.objects outside names (Some ty) (Text text)
        → AreForIn old.objects outside names (replicate (length old.values.items) (element_of text)) old.values.items elements
        → Does outside outside old.objects.size (listed line text elements c) answer new
