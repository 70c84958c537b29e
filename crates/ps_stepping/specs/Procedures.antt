-- What the machine does with instructions over scopes and procedures. Where what it finds isn't of the kind that the instruction wants, it is stuck.
use Rattle.std.specs.Prelude.{ℕ, suc, ◌+◌, ℤ, pos, Bool, ◌&&◌, List, [], ◌∷◌, length, get_or, nat_eq, nat_lt, not, Option, Some, None, if◌then◌else◌}
use Rattle.ps_meaning.specs.text_forms.Forms.{forms_of, form_in}
use Rattle.ps_code.specs.ps_base.CodeUnit.{UnitView, ConstantView, text, literal}
use Rattle.ps_code.specs.ps_base.declared.code_unit.Frame.{Frame}
use Rattle.ps_code.specs.ps_base.declared.line.Line.{Line}
use Rattle.ps_code.specs.ps_base.declared.trap.Trap.TheVariants.{TooDeep}
use Rattle.ps_code.specs.ps_base.declared.instr.Instr.{Instr}
use Rattle.ps_code.specs.ps_base.declared.instr.Instr.TheVariants as instr
use Rattle.ps_heap.specs.Ends.{Trapped, OutOfTurns}
use Rattle.ps_heap.specs.Events.{Turn}
use Rattle.ps_heap.specs.Objects.{Object, Scope, new_number}
use Rattle.ps_heap.specs.Scopes.{new_scope, scope_at, scope_out, kept_name}
use Rattle.ps_heap.specs.Values.{Value, Num, Nil, Procedure, as_compiled, word_of}
use Rattle.ps_heap.specs.References.{scope_ids}
use Rattle.ps_heap.specs.Held.{touching, reading_name, assigned_name}
use Rattle.ps_meaning.specs.Meaning.{Store, and_object, and_closure, on_held, spent}
use Rattle.ps_meaning.specs.Evaluation.{most_calls}
use Rattle.ps_stepping.specs.Config.{frame_words, Locals, Caller, Config, constants_in, frame_in, constant_at}
use Rattle.ps_stepping.specs.Steps.{Step, Goes, Stops, Stuck, on, push_num, push_ref, pop_num, pop_ref, with_text}
use Rattle.ps_stepping.specs.Library.{library}
use Rattle.ps_stepping.specs.Objects.{holding, having, when_number, when_reference, pop_nums, pop_refs, acts_on_objects}

-- Scopes.

-- a new scope of a text inside the current one, which is the current one from then on
abbrev pub enter_scope : ℕ → Config → Step
enter_scope k c =
    with_text k c (λ of. on (record (holding (and_object (new_scope of c.scope) c.store) c) { scope = Some (new_number c.store.held.objects) }))

-- what goes on with the text and the parent of a scope
abbrev pub of_scope : Option Object → (List ℕ → Option ℕ → Step) → Step
of_scope (Some (Scope of parent names)) next = next of parent
of_scope _ next = Stuck

-- the scope round the current one is the current one again
abbrev pub leave_scope : Config → Step
leave_scope c = of_scope (scope_at c.store.held.objects c.scope) (λ of parent. on (record c { scope = parent }))

-- what goes on with the text of the scope so many levels out
abbrev pub at_level : ℕ → Config → (List ℕ → Step) → Step
at_level up c next = of_scope (scope_at c.store.held.objects (scope_out c.store.held.objects c.scope up)) (λ of parent. next of)

abbrev pub kept_num : ℕ → ℕ → Config → Step
kept_num up i c =
    at_level up c (λ of. when_number (form_in (forms_of of) i) (push_num (word_of (kept_name c.store.held.objects c.scope up i)) (having (reading_name c.scope up i) c)))

abbrev pub kept_ref : ℕ → ℕ → Config → Step
kept_ref up i c =
    at_level up c (λ of. when_reference (form_in (forms_of of) i) (push_ref (kept_name c.store.held.objects c.scope up i) (having (reading_name c.scope up i) c)))

abbrev pub keep_num : ℕ → ℕ → Config → Step
keep_num up i c =
    pop_num c (λ z d. at_level up d (λ of. when_number (form_in (forms_of of) i) (on (having (assigned_name d.scope up i (Num z)) d))))

abbrev pub keep_ref : ℕ → ℕ → Config → Step
keep_ref up i c =
    pop_ref c (λ v d. at_level up d (λ of. when_reference (form_in (forms_of of) i) (on (having (assigned_name d.scope up i v) d))))

-- Procedures.

-- the procedure of a unit, made in the current scope
abbrev pub procedure_of : Option ConstantView → Config → Step
procedure_of (Some (literal of)) c = push_ref (Procedure (as_compiled of) c.scope) (holding (and_closure c.store) c)
procedure_of _ c = Stuck

abbrev pub closure : ℕ → Config → Step
closure k c = procedure_of (constant_at (constants_in c.unit) k) c

abbrev pub unit_called : Value → (UnitView → Option ℕ → Step) → Step
unit_called (Procedure (as_compiled of) scope) next = next of scope
unit_called _ next = Stuck

-- a procedure is popped
abbrev pub pop_procedure : Config → (UnitView → Option ℕ → Config → Step) → Step
pop_procedure c next = pop_ref c (λ v d. unit_called v (λ of scope. next of scope d))

-- a frame that fits on the stacks, and whose locals include so many parameters that are references
abbrev pub takes_refs : ℕ → Frame → Bool
takes_refs n frame =
    nat_eq n frame.ref_params && (not (nat_lt frame.refs frame.ref_params) && (not (nat_lt frame.nums frame.num_params)
    && (not (nat_lt frame_words frame.nums) && not (nat_lt frame_words frame.refs))))

-- the body that calls, after its call
abbrev pub waiting : Config → Caller
waiting c = record { unit = c.unit; at = c.at; nums = c.nums; refs = c.refs; locals = c.locals; scope = c.scope }

-- The arguments are the first locals of the body that is called, and its other locals are 0 or nil.
abbrev pub body_of_call : UnitView → Option ℕ → List ℤ → List Value → Store → Config → Config
body_of_call of scope zs vs store c = record {
  unit = of;
  at = 0;
  nums = [];
  refs = [];
  locals = record { nums = λ slot. get_or zs slot (pos 0); refs = λ slot. get_or vs slot Nil };
  scope = scope;
  callers = waiting c ∷ c.callers;
  store = store;
}

abbrev pub in_turn : Option Store → UnitView → Option ℕ → List ℤ → List Value → Config → Step
in_turn None of scope zs vs c = Stops OutOfTurns 0
in_turn (Some store) of scope zs vs c =
    Goes (Turn store.held.counted ∷ []) (body_of_call of scope zs vs (on_held (touching (scope_ids scope) store.held) store) c)

-- With so many bodies that wait: the depth is tested, then a turn is taken, and then the scope of the procedure is touched.
abbrev pub called : ℕ → Line → UnitView → Option ℕ → List ℤ → List Value → Config → Step
called depth line of scope zs vs c =
    if nat_lt depth most_calls then in_turn (spent c.store) of scope zs vs c else Stops (Trapped TooDeep line) 0

-- A call with so many arguments that are references, which stand above the procedure; those that are numbers go by its frame.
abbrev pub call : ℕ → Line → Config → Step
call n line c =
    pop_refs n [] c (λ vs d. pop_procedure d (λ of scope e.
    if takes_refs n (frame_in of) then pop_nums (frame_in of).num_params [] e (λ zs f.
    called (length f.callers) line of scope zs vs f) else Stuck))

-- Where a body comes back to one that waits, what it gives is pushed, if the frame of that one has room for it.
abbrev pub num_back : Caller → Step → Step
num_back caller next = if nat_lt ((frame_in caller.unit).nums + length caller.nums) frame_words then next else Stuck

abbrev pub ref_back : Caller → Step → Step
ref_back caller next = if nat_lt ((frame_in caller.unit).refs + length caller.refs) frame_words then next else Stuck

-- What an instruction over scopes, procedures or objects does, and one of the library; the configuration stands after it already. All others are stuck here.
abbrev pub acts_on_procedures : Instr → Config → Step
acts_on_procedures (instr.KeptM u i) c = kept_num u i c
acts_on_procedures (instr.KeptP u i) c = kept_ref u i c
acts_on_procedures (instr.KeepM u i) c = keep_num u i c
acts_on_procedures (instr.KeepP u i) c = keep_ref u i c
acts_on_procedures (instr.Scope k) c = enter_scope k c
acts_on_procedures instr.Leave c = leave_scope c
acts_on_procedures (instr.Closure k) c = closure k c
acts_on_procedures (instr.Call n line) c = call n line c
acts_on_procedures (instr.Lib k line) c = library k line c
acts_on_procedures i c = acts_on_objects i c
