-- How a call on a table ends after the operation: but for its objects the machine is still that before it, whose area stood for the configuration then.
use Rattle.std.specs.Prelude.{◌≡◌, ℕ, List, Option, Result, Ok, Err, IfSome}
use Rattle.ps_base.specs.declared.line.Line.{Line}
use Rattle.machine_core.specs.ps_outside.Outside.{Outside}
use Rattle.machine_core.specs.obj_layout.Stored.{Space}
use Rattle.machine_core.specs.obj_layout.declared.reference.Reference.{Reference}
use Rattle.machine_core.specs.swizzle.Heap as area
use Rattle.machine_core.specs.swizzle.Heap.{IsHeld}
use Rattle.machine_core.specs.swizzle.Reading.{LeavesOutside}
use Rattle.machine_core.specs.heap_places.declared.value.Value as code
use Rattle.machine_core.specs.heap_places.declared.value.Value.TheVariants as held
use Rattle.machine_core.specs.heap_texts.declared.fault.OpFault.{OpFault}
use Rattle.machine_core.specs.ps_heap.Calls.{answer_of, enter_call, number_answered, then_try}
use Rattle.machine_core.specs.ps_heap.Held.{reading}
use Rattle.machine_core.specs.ps_heap.Objects.{value_of_object}
use Rattle.machine_core.specs.ps_heap.Tables.{Key, on_yield}
use Rattle.machine_core.specs.ps_heap.Texts.{Attempt}
use Rattle.machine_core.specs.ps_heap.Values.{Value, Nothing}
use Rattle.machine_core.specs.ps_stepping.Config.{Config}
use Rattle.machine_core.specs.ps_stepping.Steps.{Step, attempted, push_ref}
use Rattle.machine_core.specs.ps_stepping.Objects.{having}
use Rattle.machine_core.specs.ps_stepping.Library.{gives_nothing, gives_num}
use Rattle.machine_core.specs.joint_ops.World.{Answers, DenotesIn}
use Rattle.machine_core.specs.declared.machine.Machine.{Machine}
use Rattle.machine_core.specs.declared.stepped.Stepped.{Stepped}
use Rattle.machine_core.specs.Holding.{HeldBy, HeldIn}
use Rattle.machine_core.specs.Stepped.{Does}
use Rattle.machine_operands.specs.Giving.{EndsSoundly}
use Rattle.machine_core.specs.objects.Entering.{EntersRun}

-- the object that was found is read and pushed, or nil is
abbrev pub found_given : Option ℕ → Config → Step
found_given found c = push_ref (value_of_object found) (having (reading (value_of_object found)) c)

-- what was found, as a value of a place
abbrev pub as_reference : Result (Option ℕ) OpFault → Result code.Value OpFault
as_reference (Ok to) = Ok (held.Ref to)
as_reference (Err fault) = Err fault

-- a number of pairs, where it is an int
abbrev pub count_pushed : Line → ℕ → Config → Step
count_pushed line count c = attempted line (number_answered count c.store.held) (λ a. gives_num a c)

-- how a pair is entered
abbrev pub pair_entered : Line → Key → Value → Value → Config → Step
pair_entered line key table v c = attempted line (on_yield (enter_call key table v c.store.held) (answer_of Nothing)) (λ a. gives_nothing a c)

module _ (before after : Outside Space) (old new : Machine) (answer : Stepped) (line : Line) where
  pub record GivesFound (got : Result (Option ℕ) OpFault) : Type 0 where
    pub ends : EndsSoundly got (λ to. IfSome to (IsHeld old.objects)) old new answer
    pub does : (here : area.Heap) (names : List Reference) (c : Config) (attempt : Attempt (Option ℕ)) → LeavesOutside before after
        → HeldIn here before names old c
        → Answers here old.objects before after (λ to found. DenotesIn old.objects after names to (value_of_object found)) c.store.held.objects names attempt got
        → Does before after here.size (attempted line attempt (λ found. found_given found c)) answer new

  pub record EndsEnter (done : Result (Unit {0}) OpFault) : Type 0 where
    pub ends : EndsSoundly done (λ unit. Unit {0}) old new answer
    pub does : (here : area.Heap) (names : List Reference) (c : Config) (key : Key) (table v : Value) → HeldIn here before names old c
        → EntersRun here old.objects before after names old.databases.writing.items old.databases.directory c.store.held table key v done
        → LeavesOutside before after
        → Does before after here.size (pair_entered line key table v c) answer new

-- A number of pairs is pushed, where it is an int.
module _ (outside : Outside Space) (old new : Machine) (answer : Stepped) (line : Line) where
  pub record GivesCount (counted : Result ℕ OpFault) : Type 0 where
    pub ends : EndsSoundly counted (λ count. Unit {0}) old new answer
    pub does : (names : List Reference) (c : Config) (attempt : Attempt ℕ) → HeldBy outside names old c
        → Answers old.objects old.objects outside outside (λ count wanted. count ≡ wanted) c.store.held.objects names attempt counted
        → Does outside outside old.objects.size
        (attempted line (then_try attempt (λ count. number_answered count c.store.held)) (λ a. gives_num a c)) answer new
