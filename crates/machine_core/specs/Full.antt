-- Why a step broke off.
use Rattle.std.specs.Prelude.{◌≡◌, ◌⊎◌, ℕ, ◌<◌, ◌+◌, List, [], ◌∷◌, length, Option, Some}
use Rattle.joint_ops.specs.ps_outside.Outside.{Outside, Rose}
use Rattle.joint_ops.specs.obj_layout.Stored.{Space}
use Rattle.joint_ops.specs.obj_layout.declared.vault.VaultFault.TheVariants.{Device, Output, Full, NoPages, Damaged}
use Rattle.joint_ops.specs.swizzle.declared.fault.SwizzleFault.{SwizzleFault}
use Rattle.joint_ops.specs.swizzle.declared.fault.SwizzleFault.TheVariants.{AreaFull, Vault}
use Rattle.joint_ops.specs.World.{IsStored}
use Rattle.joint_ops.specs.Made.{AreWords}
use Rattle.ps_stepping.specs.ps_heap.Values.{Value, Routine, Text, Pointer, Vector, Procedure}
use Rattle.ps_stepping.specs.ps_heap.Texts.{Yields}
use Rattle.ps_stepping.specs.ps_heap.Tables.{Key}
use Rattle.ps_stepping.specs.ps_heap.Calls.{enter_call}
use Rattle.ps_stepping.specs.ps_heap.Objects.{Object, new_number}
use Rattle.ps_stepping.specs.ps_meaning.Meaning.{Store, and_object, and_text, and_closure}
use Rattle.ps_stepping.specs.ps_heap.Weights.{own_weight, text_weight, closure_weight}
use Rattle.ps_stepping.specs.Config.{Config}
use Rattle.ps_stepping.specs.Steps.{Step, Goes, Stuck}

-- On the way to a configuration one object of so many bytes was made last, and this was the store before it: the configuration has that store with the
-- object, and the object on top of its references, or as its scope.
pub data Makes (before : Store) (next : Config) : ℕ → Type 0 where
  a_text : {bytes : List ℕ} {refs : List Value} → next.refs ≡ Text bytes ∷ refs → next.store ≡ and_text bytes before → Makes before next (text_weight bytes)
  a_structure : (object : Object) {refs : List Value} → next.refs ≡ Pointer (new_number before.held.objects) ∷ refs → next.store ≡ and_object object before →
      Makes before next (own_weight object)
  a_vector : (object : Object) {refs : List Value} → next.refs ≡ Vector (new_number before.held.objects) ∷ refs → next.store ≡ and_object object before →
      Makes before next (own_weight object)
  a_scope : (object : Object) → next.scope ≡ Some (new_number before.held.objects) → next.store ≡ and_object object before → Makes before next (own_weight object)
  a_procedure : {does : Routine} {scope : Option ℕ} {refs : List Value} → next.refs ≡ Procedure does scope ∷ refs → next.store ≡ and_closure before →
      Makes before next closure_weight

-- The step goes on quietly, and on its way makes an object of so many words.
pub record MakesOne (s : Step) (wanted : ℕ) : Type 0 where
  pub next : Config
  pub step_is : s ≡ Goes [] next
  pub before : Store
  pub weight : ℕ
  pub makes : Makes before next weight
  pub words : AreWords wanted weight

-- The step goes on quietly, and on its way enters a pair into a table: a node has 11 words.
pub record EntersOne (s : Step) (wanted : ℕ) : Type 0 where
  pub next : Config
  pub step_is : s ≡ Goes [] next
  pub before : Store
  pub key : Key
  pub table : Value
  pub value : Value
  pub enters : enter_call key table value before.held ≡ Yields next.store.held
  pub words : wanted ≡ 11

-- The vault holds an object of so many words that may come into the area.
pub record StoresOne (outside : Outside Space) (wanted : ℕ) : Type 0 where
  pub pid : ℕ
  pub words : List ℕ
  pub stored : IsStored outside pid words
  pub count : length words ≡ wanted

-- The fault is why the step broke off in an area of this size. From the top on there was no room for an object that the step makes, or for a node of a
-- table, or for an object that was to be fetched; or the device failed; or the code or what it names is damaged, and then there is no step.
abbrev pub BreaksBy : Outside Space → Outside Space → ℕ → Step → SwizzleFault → Type 0
BreaksBy before after size s (AreaFull top wanted its) = (its ≡ size) × (size < top + wanted) × (MakesOne s wanted ⊎ (EntersOne s wanted ⊎ StoresOne before wanted))
BreaksBy before after size s (Vault Device) = Rose before.device_faults after.device_faults
BreaksBy before after size s (Vault Output) = ⊥
BreaksBy before after size s (Vault (Full used wanted capacity)) = ⊥
BreaksBy before after size s (Vault (NoPages held wanted pages)) = ⊥
BreaksBy before after size s (Vault (Damaged at found wanted)) = s ≡ Stuck
