-- Each instruction over scopes and procedures takes from the stacks and leaves on them what the table says.
use Rattle.std.proofs.Common.{◌≡◌, ℕ, ◌+◌, ℤ, Bool, true, false, List, [], ◌∷◌, length, Option, Some, None, refl, sym, ap, arith, eqb-true}
use Rattle.std.specs.Prelude.{◌&&◌, nat_eq, nat_lt, if◌then◌else◌}
use Rattle.ps_code.specs.ps_base.CodeUnit.{UnitView, ConstantView, text, literal}
use Rattle.ps_code.specs.ps_base.declared.line.Line.{Line}
use Rattle.ps_code.specs.ps_base.declared.trap.Trap.TheVariants.{TooDeep}
use Rattle.ps_code.specs.ps_base.declared.instr.Instr.{Instr}
use Rattle.ps_code.specs.ps_base.declared.instr.Instr.TheVariants as instr
use Rattle.ps_meaning.specs.text_forms.Forms.{forms_of, form_in}
use Rattle.ps_heap.specs.Ends.{Trapped}
use Rattle.ps_meaning.specs.Evaluation.{most_calls}
use Rattle.ps_heap.specs.Scopes.{kept_name, new_scope, scope_at, scope_out}
use Rattle.ps_meaning.specs.Meaning.{Store, spent, and_object, and_closure}
use Rattle.ps_heap.specs.Objects.{Object, Structure, Elements, Scope, Keyed, new_number}
use Rattle.ps_heap.specs.Held.{reading_name, assigned_name}
use Rattle.ps_heap.specs.Values.{Value, Num, Procedure, as_written, as_compiled, word_of}
use Rattle.ps_heap.specs.Values as value
use Rattle.ps_stepping.specs.Config.{Caller, Config, constants_in, frame_in, constant_at}
use Rattle.ps_stepping.specs.Steps.{Step, Stops, Stuck, on, push_num, push_ref}
use Rattle.ps_stepping.specs.Objects.{holding, having, when_number, when_reference, pop_nums}
use Rattle.ps_stepping.specs.Procedures.{enter_scope, of_scope, leave_scope, at_level, kept_num, kept_ref, keep_num, keep_ref, procedure_of, unit_called, pop_procedure, takes_refs, waiting, in_turn, called, call, acts_on_procedures}
use Rattle.ps_stepping.specs.Effects.{Effect, enters, nums, refs, nothing, effect_of}
use Rattle.ps_stepping.proofs.Popping.{Does, does_if, does_tested, popped_num, popped_ref}
use Rattle.ps_stepping.proofs.LibraryEffects.{does_library}
use Rattle.ps_stepping.proofs.ObjectEffects.{does_with_text, does_number, does_reference, ends_num, ends_ref, popped_nums, popped_refs, does_on_objects}

does_of_scope : (e : Effect) (c : Config) (found : Option Object) (next : List ℕ → Option ℕ → Step) →
    ((of : List ℕ) (parent : Option ℕ) → Does e c (next of parent)) → Does e c (of_scope found next)
does_of_scope e c None next h = tt
does_of_scope e c (Some (Structure class fields)) next h = tt
does_of_scope e c (Some (Elements ty low elements)) next h = tt
does_of_scope e c (Some (Keyed table)) next h = tt
does_of_scope e c (Some (Scope of parent names)) next h = h of parent

does_at_level : (e : Effect) (c d : Config) (up : ℕ) (next : List ℕ → Step) → ((of : List ℕ) → Does e c (next of)) → Does e c (at_level up d next)
does_at_level e c d up next h =
    does_of_scope e c (scope_at d.store.held.objects (scope_out d.store.held.objects d.scope up)) (λ of parent. next of) (λ of parent. h of)

does_enter : (k : ℕ) (c : Config) → Does nothing c (enter_scope k c)
does_enter k c =
    does_with_text nothing c k
    (λ of. on (record (holding (and_object (new_scope of c.scope) c.store) c) { scope = Some (new_number c.store.held.objects) }))
    (λ of. record { nums = refl; refs = refl })

does_leave : (c : Config) → Does nothing c (leave_scope c)
does_leave c =
    does_of_scope nothing c (scope_at c.store.held.objects c.scope) (λ of parent. on (record c { scope = parent })) (λ of parent. record { nums = refl; refs = refl })

does_kept_num : (up i : ℕ) (c : Config) → Does (nums 0 1) c (kept_num up i c)
does_kept_num up i c =
    does_at_level (nums 0 1) c c up (λ of. when_number (form_in (forms_of of) i) (push_num (word_of (kept_name c.store.held.objects c.scope up i)) (having (reading_name c.scope up i) c)))
    (λ of. does_number (nums 0 1) c (form_in (forms_of of) i) (push_num (word_of (kept_name c.store.held.objects c.scope up i)) (having (reading_name c.scope up i) c))
    (ends_num (nums 0 1) c (having (reading_name c.scope up i) c) (word_of (kept_name c.store.held.objects c.scope up i)) (record { nums = omega arith; refs = refl })))

does_kept_ref : (up i : ℕ) (c : Config) → Does (refs 0 1) c (kept_ref up i c)
does_kept_ref up i c =
    does_at_level (refs 0 1) c c up (λ of. when_reference (form_in (forms_of of) i) (push_ref (kept_name c.store.held.objects c.scope up i) (having (reading_name c.scope up i) c)))
    (λ of. does_reference (refs 0 1) c (form_in (forms_of of) i) (push_ref (kept_name c.store.held.objects c.scope up i) (having (reading_name c.scope up i) c))
    (ends_ref (refs 0 1) c (having (reading_name c.scope up i) c) (kept_name c.store.held.objects c.scope up i) (record { nums = refl; refs = omega arith })))

does_keep_num : (up i : ℕ) (c : Config) → Does (nums 1 0) c (keep_num up i c)
does_keep_num up i c =
    popped_num (nums 1 0) c c
    (λ z d. at_level up d (λ of. when_number (form_in (forms_of of) i) (on (having (assigned_name d.scope up i (Num z)) d))))
    (λ z rest is. does_at_level (nums 1 0) c (record c { nums = rest }) up
    (λ of. when_number (form_in (forms_of of) i) (on (having (assigned_name c.scope up i (Num z)) (record c { nums = rest }))))
    (λ of. does_number (nums 1 0) c (form_in (forms_of of) i) (on (having (assigned_name c.scope up i (Num z)) (record c { nums = rest })))
    (record { nums = omega (arith, ap length is); refs = refl })))

does_keep_ref : (up i : ℕ) (c : Config) → Does (refs 1 0) c (keep_ref up i c)
does_keep_ref up i c =
    popped_ref (refs 1 0) c c
    (λ v d. at_level up d (λ of. when_reference (form_in (forms_of of) i) (on (having (assigned_name d.scope up i v) d))))
    (λ v rest is. does_at_level (refs 1 0) c (record c { refs = rest }) up
    (λ of. when_reference (form_in (forms_of of) i) (on (having (assigned_name c.scope up i v) (record c { refs = rest }))))
    (λ of. does_reference (refs 1 0) c (form_in (forms_of of) i) (on (having (assigned_name c.scope up i v) (record c { refs = rest })))
    (record { nums = refl; refs = omega (arith, ap length is) })))

does_closure : (c : Config) (found : Option ConstantView) → Does (refs 0 1) c (procedure_of found c)
does_closure c None = tt
does_closure c (Some (text bytes)) = tt
does_closure c (Some (literal of)) =
    ends_ref (refs 0 1) c (holding (and_closure c.store) c) (Procedure (as_compiled of) c.scope) (record { nums = refl; refs = omega arith })

-- Calls.

first_is : (a b : Bool) → (a && b) ≡ true → a ≡ true
first_is true b h = refl
first_is false b h = h

does_unit_called : (e : Effect) (c : Config) (v : Value) (next : UnitView → Option ℕ → Step) →
    ((of : UnitView) (scope : Option ℕ) → Does e c (next of scope)) → Does e c (unit_called v next)
does_unit_called e c (Procedure (as_compiled of) scope) next h = h of scope
does_unit_called e c (Procedure (as_written of) scope) next h = tt
does_unit_called e c (value.Num z) next h = tt
does_unit_called e c (value.Flag b) next h = tt
does_unit_called e c (value.Text bytes) next h = tt
does_unit_called e c value.Nil next h = tt
does_unit_called e c (value.Pointer o) next h = tt
does_unit_called e c (value.Vector o) next h = tt
does_unit_called e c value.Nothing next h = tt

-- a body is entered, which takes so many references: the stacks of the one that waits are without the arguments and the procedure
does_entered : (n : ℕ) (c d : Config) (line : Line) (of : UnitView) (scope : Option ℕ) (zs : List ℤ) (vs : List Value) → d.callers ≡ c.callers →
    (frame_in of).ref_params ≡ n → length d.nums + (frame_in of).num_params ≡ length c.nums → length d.refs + (n + 1) ≡ length c.refs →
    Does (enters n) c (called (length d.callers) line of scope zs vs d)
does_entered n c d line of scope zs vs same taken on_nums on_refs =
    does_if (enters n) c (nat_lt (length d.callers) most_calls) (in_turn (spent d.store) of scope zs vs d) (Stops (Trapped TooDeep line) 0)
    (in_a_turn (spent d.store)) tt
  where
    in_a_turn : (store : Option Store) → Does (enters n) c (in_turn store of scope zs vs d)
    in_a_turn None = tt
    in_a_turn (Some store) = record {
      caller = waiting d;
      waits = ap (λ (callers : List Caller). waiting d ∷ callers) same;
      taken = taken;
      nums = on_nums;
      refs = on_refs;
      own_nums = refl;
      own_refs = refl;
    }

does_call : (n : ℕ) (line : Line) (c : Config) → Does (enters n) c (call n line c)
does_call n line c =
    let e = enters n in
    let enter : List Value → UnitView → Option ℕ → Config → Step = λ vs of scope d.
    if takes_refs n (frame_in of) then pop_nums (frame_in of).num_params [] d (λ zs f. called (length f.callers) line of scope zs vs f) else Stuck in
    popped_refs e n [] c c (λ vs d. pop_procedure d (λ of scope f. enter vs of scope f))
    (λ vs rest long. popped_ref e c (record c { refs = rest }) (λ v d. unit_called v (λ of scope. enter vs of scope d))
    (λ v below is. does_unit_called e c v (λ of scope. enter vs of scope (record c { refs = below }))
    (λ of scope. does_tested e c (takes_refs n (frame_in of)) _
    (λ fits. popped_nums e (frame_in of).num_params [] c (record c { refs = below })
    (λ zs f. called (length f.callers) line of scope zs vs f)
    (λ zs left many. does_entered n c (record c { nums = left; refs = below }) line of scope zs vs refl
    (sym (eqb-true n (frame_in of).ref_params (first_is (nat_eq n (frame_in of).ref_params) _ fits)))
    (omega (arith, many)) (omega (arith, long, ap length is)))))))

pub does_on_procedures : (i : Instr) (c : Config) → Does (effect_of i) c (acts_on_procedures i c)
does_on_procedures (instr.KeptM u i) c = does_kept_num u i c
does_on_procedures (instr.KeptP u i) c = does_kept_ref u i c
does_on_procedures (instr.KeepM u i) c = does_keep_num u i c
does_on_procedures (instr.KeepP u i) c = does_keep_ref u i c
does_on_procedures (instr.Scope k) c = does_enter k c
does_on_procedures instr.Leave c = does_leave c
does_on_procedures (instr.Closure k) c = does_closure c (constant_at (constants_in c.unit) k)
does_on_procedures (instr.Call n line) c = does_call n line c
does_on_procedures (instr.Lib k line) c = does_library k line c
does_on_procedures i c = does_on_objects i c
