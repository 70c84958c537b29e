-- How an instruction ends that did an operation on objects: but for its objects the machine is still that before the operation, whose area stood for
-- the configuration then.
use Rattle.std.specs.Prelude.{◌≡◌, ◌≢◌, ℕ, ℤ, Bool, true, false, List, Option, Some, Result, Ok, Err, IfOk}
use Rattle.machine_core.specs.ps_outside.Outside.{Outside}
use Rattle.machine_core.specs.obj_layout.Stored.{Space}
use Rattle.machine_core.specs.obj_layout.declared.reference.Reference.{Reference}
use Rattle.machine_core.specs.swizzle.Heap as area
use Rattle.machine_core.specs.swizzle.Heap.{IsHeld}
use Rattle.machine_core.specs.swizzle.Reading.{LeavesOutside}
use Rattle.machine_core.specs.swizzle.declared.fault.SwizzleFault.{SwizzleFault}
use Rattle.machine_core.specs.text_forms.declared.forms.Form.{Form}
use Rattle.machine_core.specs.heap_places.Places.{IsNear}
use Rattle.machine_core.specs.heap_places.declared.value.Value as code
use Rattle.machine_core.specs.heap_ops.Outcomes.{UnlessFault}
use Rattle.machine_core.specs.heap_texts.declared.fault.OpFault.{OpFault}
use Rattle.machine_core.specs.heap_texts.declared.fault.OpFault.TheVariants as op
use Rattle.machine_core.specs.proc_values.Reading.{IsDamaged}
use Rattle.ps_base.specs.declared.line.Line.{Line}
use Rattle.machine_core.specs.ps_heap.Values.{Value, Pointer, Vector, word_of, number_of}
use Rattle.machine_core.specs.ps_heap.Texts.{Attempt, Yields}
use Rattle.machine_core.specs.ps_heap.Held.{Place, object_of, reading}
use Rattle.machine_core.specs.ps_heap.Objects.{Heap, Object, id_of}
use Rattle.machine_core.specs.ps_stepping.Config.{Config}
use Rattle.machine_core.specs.ps_stepping.Steps.{Step, Stuck, attempted, push_num, push_ref}
use Rattle.machine_core.specs.ps_stepping.Objects.{make, make_text, having, changed, when_number, when_reference}
use Rattle.machine_core.specs.joint_ops.World.{Answers, Writes, BreaksOff, IsForIn, IsOfForm}
use Rattle.machine_core.specs.joint_ops.Made.{Makes, MakesText}
use Rattle.machine_core.specs.objects.Classes.{BreaksByCode, MakesLater}
use Rattle.machine_core.specs.declared.machine.Machine.{Machine}
use Rattle.machine_core.specs.declared.stepped.Stepped.{Stepped}
use Rattle.machine_core.specs.declared.stepped.Stepped.TheVariants.{Halts, Breaks, Damaged}
use Rattle.machine_core.specs.declared.run_end.RunEnd.TheVariants as in_code
use Rattle.machine_core.specs.Holding.{HeldIn, IsSound}
use Rattle.machine_core.specs.Naming.{NamesObjects}
use Rattle.machine_core.specs.Stepped.{Does, UnlessBroken, ended}

-- what an operation that failed returns: its trap, or it broke off where the stack has room
abbrev pub failed_of : OpFault → Bool → Stepped
failed_of (op.Trap trap) room = Halts
failed_of (op.Swizzle fault) true = Breaks
failed_of (op.Swizzle fault) false = Damaged

-- the machine after it
abbrev pub failed_in : OpFault → Line → Bool → Machine → Machine
failed_in (op.Trap trap) line room m = ended (in_code.Trapped trap line) m
failed_in (op.Swizzle fault) line true m = record m { fault = fault }
failed_in (op.Swizzle fault) line false m = m

-- and where it has no trap
abbrev pub broken_of : OpFault → Stepped
broken_of (op.Trap trap) = Damaged
broken_of (op.Swizzle fault) = Breaks

abbrev pub broken_in : OpFault → Machine → Machine
broken_in (op.Trap trap) m = m
broken_in (op.Swizzle fault) m = record m { fault = fault }

-- how a new object is named: as a structure or as a vector
pub data IsNaming : (ℕ → Value) → Type 0 where
  structures : IsNaming Pointer
  vectors : IsNaming Vector

-- it broke off exactly where the operation did, and for its fault
abbrev pub BreaksAs : {T : Type 0} → Result T OpFault → Stepped → Machine → Type 0
BreaksAs (Ok given) answer new = answer ≢ Breaks
BreaksAs (Err (op.Trap trap)) answer new = answer ≢ Breaks
BreaksAs (Err (op.Swizzle fault)) answer new = (answer ≡ Breaks) × (new.fault ≡ fault)

-- Whatever the machine holds, it stays sound after an operation with this result. Unless that broke off, its words name objects of the area where they
-- did after the operation, and where what was pushed lies in the area; and the area has the size that it had then.
module _ {T : Type 0} (got : Result T OpFault) (lies : T → Type 0) (old new : Machine) (answer : Stepped) where
  pub record EndsSoundly : Type 0 where
    pub sound : IsSound new
    pub names : UnlessFault got (NamesObjects old) → IfOk got lies → UnlessBroken answer (NamesObjects new)
    pub size : (size : ℕ) → UnlessFault got (old.objects.size ≡ size) → UnlessBroken answer (new.objects.size ≡ size)
    pub breaks : BreaksAs got answer new

-- As that, where an operation that makes an object left the area as it was or with the object, whatever its result. It broke off only where the operation
-- did, and for its fault.
module _ (old new : Machine) (answer : Stepped) where
  pub record EndsMaking (made : Result ℕ OpFault) : Type 0 where
    pub sound : IsSound new
    pub names : NamesObjects old → IfOk made (IsHeld old.objects) → UnlessBroken answer (NamesObjects new)
    pub size : UnlessBroken answer (new.objects.size ≡ old.objects.size)
    pub breaks : answer ≡ Breaks → made ≡ Err (op.Swizzle new.fault)

-- An operation that makes an object or a text beside a vault that stays.
module _ (outside : Outside Space) (line : Line) (old new : Machine) (answer : Stepped) where
  pub record GivesText (made : Result ℕ OpFault) : Type 0 where
    pub ends : EndsMaking old new answer made
    pub does : (here : area.Heap) (names : List Reference) (c : Config) (attempt : Attempt (List ℕ)) → HeldIn here outside names old c
        → MakesText here old.objects outside c.store.held.objects names attempt made
        → Does outside outside here.size (attempted line attempt (λ bytes. make_text bytes c)) answer new

  pub record GivesObject (made : Result ℕ OpFault) : Type 0 where
    pub ends : EndsMaking old new answer made
    pub does : (here : area.Heap) (names : List Reference) (c : Config) (denoting : ℕ → Value) (attempt : Attempt Object) → IsNaming denoting
        → HeldIn here outside names old c → Makes here old.objects outside c.store.held.objects names denoting attempt made
        → Does outside outside here.size (attempted line attempt (λ object. make denoting object c)) answer new

-- An operation that reads or writes, and may fetch: the vault was seen so before it, and is seen so after it.
module _ (before after : Outside Space) (old new : Machine) (answer : Stepped) where
  -- The code is at fault, and there is no step: the operation found that, or broke off before it could.
  abbrev pub DoesByCode : {T : Type 0} → Result T OpFault → Type 0
  DoesByCode {T} got =
      (here : area.Heap) (at : ℕ) (s : Step) → s ≡ Stuck → BreaksByCode here old.objects before after at got → Does before after here.size s answer new

  -- a structure of a class whose text was read before it was made
  pub record GivesStructure (made : Result ℕ OpFault) : Type 0 where
    pub ends : EndsSoundly made (IsHeld old.objects) old new answer
    pub does : (here : area.Heap) (names : List Reference) (c : Config) (object : Object) → LeavesOutside before after → HeldIn here before names old c
        → MakesLater here old.objects before after c.store.held.objects names Pointer (Yields object) made
        → Does before after here.size (make Pointer object c) answer new
    pub damaged : DoesByCode made

  -- a number that has no trap: the bound of a vector
  pub record GivesBound (bound : Result ℤ OpFault) : Type 0 where
    pub ends : EndsSoundly bound (λ z. Unit {0}) old new answer
    pub does : (here : area.Heap) (names : List Reference) (c : Config) (wanted : ℤ) → LeavesOutside before after → HeldIn here before names old c
        → Answers here old.objects before after (λ z w. z ≡ w) c.store.held.objects names (Yields wanted) bound
        → Does before after here.size (push_num wanted c) answer new

  -- a bool that has no trap
  pub record GivesFlag (got : Result Bool OpFault) : Type 0 where
    pub ends : EndsSoundly got (λ b. Unit {0}) old new answer
    pub does : (here : area.Heap) (names : List Reference) (c : Config) (wanted : Bool) → LeavesOutside before after → HeldIn here before names old c
        → Answers here old.objects before after (λ b w. b ≡ w) c.store.held.objects names (Yields wanted) got
        → Does before after here.size (push_num (number_of wanted) c) answer new
    pub damaged : DoesByCode got

  module _ (line : Line) where
    pub record GivesNumber (got : Result code.Value OpFault) : Type 0 where
      pub ends : EndsSoundly got (λ value. Unit {0}) old new answer
      pub does : (here : area.Heap) (names : List Reference) (c : Config) (form : Form) (attempt : Attempt Value) → LeavesOutside before after
          → HeldIn here before names old c
          → Answers here old.objects before after (λ k v. IsOfForm form k × IsForIn old.objects after names k v) c.store.held.objects names attempt got
          → Does before after here.size (attempted line attempt (λ w. when_number (Some form) (push_num (word_of w) (having (reading w) c)))) answer new
      pub damaged : DoesByCode got

    pub record GivesReference (got : Result code.Value OpFault) : Type 0 where
      pub ends : EndsSoundly got (IsNear old.objects) old new answer
      pub does : (here : area.Heap) (names : List Reference) (c : Config) (form : Form) (attempt : Attempt Value) → LeavesOutside before after
          → HeldIn here before names old c
          → Answers here old.objects before after (λ k v. IsOfForm form k × IsForIn old.objects after names k v) c.store.held.objects names attempt got
          → Does before after here.size (attempted line attempt (λ w. when_reference (Some form) (push_ref w (having (reading w) c)))) answer new
      pub damaged : DoesByCode got

    pub record Changes (done : Result (Unit {0}) OpFault) : Type 0 where
      pub ends : EndsSoundly done (λ unit. Unit {0}) old new answer
      pub does : (here : area.Heap) (names : List Reference) (c : Config) (place : Place) (operand : Value) (attempt : Attempt Heap)
          → object_of place ≡ id_of operand → HeldIn here before names old c
          → Writes here old.objects before after operand c.store.held.objects names attempt done
          → Does before after here.size (attempted line attempt (λ heap. changed place heap c)) answer new
      pub damaged : DoesByCode done

  -- An operation without traps broke off with this fault: so did the step, whatever it is; or the code is damaged, and there is no step.
  pub record BreaksWith (fault : SwizzleFault) : Type 0 where
    pub sound : IsSound new
    pub off : (here : area.Heap) (s : Step) → BreaksOff here old.objects before after fault → Does before after here.size s answer new
    pub damaged : (here : area.Heap) (at : ℕ) (s : Step) → s ≡ Stuck → IsDamaged here at fault → Does before after here.size s answer new
