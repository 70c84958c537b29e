-- Structures that are made of what is pushed.
use Rattle.std.specs.Prelude.{◌≡◌, ℕ, ◌<◌, ◌≤◌, true, ℤ, List, [], ◌∷◌, ◌++◌, length, drop, reverse}
use Rattle.machine_core.specs.text_forms.declared.forms.Form.{Form}
use Rattle.machine_core.specs.text_forms.declared.forms.Form.TheVariants as form
use Rattle.machine_core.specs.text_forms.declared.forms.Rows.{Rows}
use Rattle.machine_core.specs.text_forms.Forms.{forms_of, one_more}
use Rattle.machine_core.specs.heap_places.declared.value.Value as code
use Rattle.machine_core.specs.heap_places.declared.value.Value.TheVariants as held
use Rattle.machine_core.specs.ps_heap.Objects.{Structure}
use Rattle.machine_core.specs.ps_heap.Operators.{is_int}
use Rattle.machine_core.specs.ps_heap.Values.{Pointer, is_one}
use Rattle.machine_core.specs.ps_stepping.Config.{Config}
use Rattle.machine_core.specs.ps_stepping.Steps.{Step}
use Rattle.machine_core.specs.ps_stepping.Objects.{pop_fields, make}
use Rattle.machine_core.specs.Rows.{object_in}

-- the values of the fields of a class are popped, and a structure is made of them
abbrev pub structure_of : List ℕ → Config → Step
structure_of class c = pop_fields (reverse (forms_of class)) [] c (λ fields d. make Pointer (Structure class fields) d)

-- Values in code of fields of these forms, laid out of two rows: a number as an int or as a bool, and a word as what it names.
abbrev pub AreLaid : List Form → List ℤ → List ℕ → List code.Value → Type 0
AreLaid [] [] [] [] = Unit {0}
AreLaid (form.Number ∷ fs) (z ∷ zs) ws (k ∷ ks) = (is_int z ≡ true) × (k ≡ held.Num z) × AreLaid fs zs ws ks
AreLaid (form.Flag ∷ fs) (z ∷ zs) ws (k ∷ ks) = (k ≡ held.Flag (is_one z)) × AreLaid fs zs ws ks
AreLaid (form.Reference ∷ fs) zs (w ∷ ws) (k ∷ ks) = (k ≡ held.Ref (object_in w)) × AreLaid fs zs ws ks
AreLaid _ _ _ _ = ⊥

-- behind so many values there is one more in the row of this form
abbrev pub IsNext : Form → List ℤ → List ℕ → Rows → Type 0
IsNext form.Reference nums refs passed = (passed.nums ≤ length nums) × (passed.refs < length refs)
IsNext _ nums refs passed = (passed.nums < length nums) × (passed.refs ≤ length refs)

-- The value of one field more was laid out behind others.
pub record LaysOne (f : Form) (nums : List ℤ) (refs : List ℕ) (passed : Rows) (old new : List code.Value) (more : Rows) : Type 0 where
  pub value : code.Value
  pub items_are : new ≡ old ++ value ∷ []
  pub more_is : more ≡ one_more f passed
  pub laid : (fs : List Form) (ks : List code.Value) → AreLaid fs (drop more.nums nums) (drop more.refs refs) ks
      → AreLaid (f ∷ fs) (drop passed.nums nums) (drop passed.refs refs) (value ∷ ks)
