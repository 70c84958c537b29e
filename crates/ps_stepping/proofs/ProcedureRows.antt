-- Steps over scopes and procedures that are computed.
use Rattle.std.proofs.Common.{◌≡◌, ℕ, ℤ, pos, List, [], ◌∷◌, refl, true, false, None}
use Rattle.std.specs.Prelude.{get_or, Option, Some, codes}
use Rattle.ps_meaning.specs.text_forms.Forms.{forms_of, forms_from, form_here, form_in, begins}
use Rattle.ps_code.specs.ps_base.CodeUnit.{UnitView, unit, text, literal, no_constants, constant_then}
use Rattle.ps_code.specs.ps_base.declared.line.Line.{Line}
use Rattle.ps_code.specs.ps_base.declared.trap.Trap.TheVariants as trap
use Rattle.ps_code.specs.ps_base.declared.instr.Instr.TheVariants as instr
use Rattle.ps_heap.specs.Ends.{Trapped, OutOfTurns}
use Rattle.ps_heap.specs.Events.{Turn}
use Rattle.ps_heap.specs.Objects.{Heap, Object, Scope}
use Rattle.ps_heap.specs.Scopes.{new_scope, scope_out, name_in, with_name}
use Rattle.ps_heap.specs.Texts.{line_read, line_of, behind_line}
use Rattle.ps_heap.specs.Values.{Value, Num, Flag, Text, Nil, Procedure, as_compiled}
use Rattle.ps_heap.specs.Held.{home_at, touched_after, touched_weight, is_first_touch, places_with, way_out}
use Rattle.ps_heap.specs.Library.{library_procedure}
use Rattle.ps_heap.proofs.Scenes.{uncommitted}
use Rattle.ps_stepping.specs.Config.{Config}
use Rattle.ps_stepping.specs.Steps.{Goes, Stops, Stuck, on}
use Rattle.ps_stepping.specs.Library.{read_line, at_end}
use Rattle.ps_stepping.specs.Procedures.{acts_on_procedures, waiting, body_of_call, called}

abbrev line : Line
line = record { 0 = 7 }

abbrev inner_text : List ℕ
inner_text = codes "scope(int n;bool full)"

abbrev outer_text : List ℕ
outer_text = codes "scope(string s)"

-- a procedure of an int and a string, with two locals more
abbrev body : UnitView
body = unit [] no_constants (record { nums = 2; refs = 2; num_params = 1; ref_params = 1 })

-- a body whose constants are the texts of two scopes and that procedure
abbrev code : UnitView
code = unit [] (constant_then (text outer_text) (constant_then (text inner_text) (constant_then (literal body) no_constants)))
    (record { nums = 0; refs = 0; num_params = 0; ref_params = 0 })

abbrev at : List ℤ → List Value → Heap → Option ℕ → Config
at nums refs heap scope = record {
  unit = code;
  at = 10;
  nums = nums;
  refs = refs;
  locals = record { nums = λ s. pos 0; refs = λ s. Nil };
  scope = scope;
  callers = [];
  store = record { turns = 1; input = []; held = uncommitted heap 0 };
}

-- where so many bytes are counted
abbrev counting : ℕ → Config → Config
counting counted c = record c { store = record c.store { held = record c.store.held { counted = counted } } }

-- a scope with a string, and inside it one with an int and a bool
abbrev outer : Object
outer = Scope outer_text None (Text (codes "a") ∷ [])

abbrev scopes : Heap
scopes = outer ∷ Scope inner_text (Some 0) (Num (pos 3) ∷ Flag true ∷ []) ∷ []

-- a new scope holds 0, false and nil, stands inside the current one, and counts its words
first_scope : acts_on_procedures (instr.Scope 0) (at [] [] [] None) ≡ on (counting 64 (at [] [] (Scope outer_text None (Nil ∷ []) ∷ []) (Some 0)))
unfolding forms_of forms_from form_here begins new_scope
first_scope = refl

scope_inside : acts_on_procedures (instr.Scope 1) (at [] [] (outer ∷ []) (Some 0)) ≡ on
    (counting 72 (at [] [] (outer ∷ Scope inner_text (Some 0) (Num (pos 0) ∷ Flag false ∷ []) ∷ []) (Some 1)))
unfolding forms_of forms_from form_here begins new_scope
scope_inside = refl

scope_of_a_procedure : acts_on_procedures (instr.Scope 2) (at [] [] [] None) ≡ Stuck
scope_of_a_procedure = refl

leaves_to_the_parent : acts_on_procedures instr.Leave (at [] [] scopes (Some 1)) ≡ on (at [] [] scopes (Some 0))
leaves_to_the_parent = refl

leaves_no_scope : acts_on_procedures instr.Leave (at [] [] scopes None) ≡ Stuck
leaves_no_scope = refl

-- levels are counted outward from the current scope
own_name : acts_on_procedures (instr.KeptM 0 0) (at [] [] scopes (Some 1)) ≡ on (at (pos 3 ∷ []) [] scopes (Some 1))
unfolding forms_of forms_from form_here form_in begins scope_out name_in home_at touched_after touched_weight is_first_touch places_with way_out
own_name = refl

bool_is_a_number : acts_on_procedures (instr.KeptM 0 1) (at [] [] scopes (Some 1)) ≡ on (at (pos 1 ∷ []) [] scopes (Some 1))
unfolding forms_of forms_from form_here form_in begins scope_out name_in home_at touched_after touched_weight is_first_touch places_with way_out
bool_is_a_number = refl

outer_name : acts_on_procedures (instr.KeptP 1 0) (at [] [] scopes (Some 1)) ≡ on (at [] (Text (codes "a") ∷ []) scopes (Some 1))
unfolding forms_of forms_from form_here form_in begins scope_out name_in home_at touched_after touched_weight is_first_touch places_with way_out
outer_name = refl

reference_as_a_number : acts_on_procedures (instr.KeptM 1 0) (at [] [] scopes (Some 1)) ≡ Stuck
unfolding forms_of forms_from form_here form_in begins scope_out home_at touched_after touched_weight is_first_touch places_with way_out
reference_as_a_number = refl

no_such_name : acts_on_procedures (instr.KeptM 0 2) (at [] [] scopes (Some 1)) ≡ Stuck
unfolding forms_of forms_from form_here form_in begins scope_out home_at touched_after touched_weight is_first_touch places_with way_out
no_such_name = refl

no_such_level : acts_on_procedures (instr.KeptM 2 0) (at [] [] scopes (Some 1)) ≡ Stuck
unfolding scope_out home_at touched_after touched_weight is_first_touch places_with way_out
no_such_level = refl

-- a bool's name keeps whether a number is above 0
kept_as_a_bool : acts_on_procedures (instr.KeepM 0 1) (at (pos 0 ∷ []) [] scopes (Some 1)) ≡ on
    (at [] [] (outer ∷ Scope inner_text (Some 0) (Num (pos 3) ∷ Flag false ∷ []) ∷ []) (Some 1))
unfolding forms_of forms_from form_here form_in begins scope_out with_name home_at touched_after touched_weight is_first_touch places_with way_out
kept_as_a_bool = refl

kept_outside : acts_on_procedures (instr.KeepP 1 0) (at [] (Text (codes "b") ∷ []) scopes (Some 1)) ≡ on
    (at [] [] (Scope outer_text None (Text (codes "b") ∷ []) ∷ Scope inner_text (Some 0) (Num (pos 3) ∷ Flag true ∷ []) ∷ []) (Some 1))
unfolding forms_of forms_from form_here form_in begins scope_out with_name home_at touched_after touched_weight is_first_touch places_with way_out
kept_outside = refl

-- a procedure has the scope that it is made in, and counts seven words
closure_is_made : acts_on_procedures (instr.Closure 2) (at [] [] scopes (Some 1)) ≡ on
    (counting 56 (at [] (Procedure (as_compiled body) (Some 1) ∷ []) scopes (Some 1)))
closure_is_made = refl

closure_of_a_text : acts_on_procedures (instr.Closure 0) (at [] [] scopes (Some 1)) ≡ Stuck
closure_of_a_text = refl

-- The arguments go into the first locals; what stands below them and below the procedure waits.
ready : Config
ready = at (pos 5 ∷ pos 8 ∷ []) (Text (codes "x") ∷ Procedure (as_compiled body) (Some 1) ∷ Nil ∷ []) scopes None

unfoldable waits : Config
waits = at (pos 8 ∷ []) (Nil ∷ []) scopes None

call_takes_a_turn : acts_on_procedures (instr.Call 1 line) ready ≡ Goes (Turn 0 ∷ [])
    (body_of_call body (Some 1) (pos 5 ∷ []) (Text (codes "x") ∷ []) (record { turns = 0; input = []; held = uncommitted scopes 0 }) waits)
unfolding ready waits home_at touched_after touched_weight is_first_touch places_with way_out
call_takes_a_turn = refl

-- the first argument is the first local
abbrev of_two : UnitView
of_two = unit [] no_constants (record { nums = 2; refs = 0; num_params = 2; ref_params = 0 })

first_argument_first : acts_on_procedures (instr.Call 0 line) (at (pos 5 ∷ pos 4 ∷ []) (Procedure (as_compiled of_two) None ∷ []) [] None)
    ≡ Goes (Turn 0 ∷ [])
    (body_of_call of_two None (pos 4 ∷ pos 5 ∷ []) [] (record { turns = 0; input = []; held = uncommitted [] 0 }) (at [] [] [] None))
unfolding home_at touched_after touched_weight is_first_touch places_with way_out
first_argument_first = refl

-- the body that is called stands in the procedure's scope, over nothing, and its other locals are 0 and nil
called_body : Config
called_body = body_of_call body (Some 1) (pos 5 ∷ []) (Text (codes "x") ∷ []) (record { turns = 0; input = []; held = uncommitted scopes 0 }) waits

called_body_begins : called_body ≡ record {
  unit = body;
  at = 0;
  nums = [];
  refs = [];
  locals = record { nums = λ slot. get_or (pos 5 ∷ []) slot (pos 0); refs = λ slot. get_or (Text (codes "x") ∷ []) slot Nil };
  scope = Some 1;
  callers = waiting waits ∷ [];
  store = record { turns = 0; input = []; held = uncommitted scopes 0 };
}
unfolding called_body waits
called_body_begins = refl

no_turn_is_left : acts_on_procedures (instr.Call 1 line) (record ready { store = record ready.store { turns = 0 } }) ≡ Stops OutOfTurns 0
unfolding ready home_at touched_after touched_weight is_first_touch places_with way_out
no_turn_is_left = refl

another_number_of_arguments : acts_on_procedures (instr.Call 0 line) (record ready { refs = Procedure (as_compiled body) None ∷ [] }) ≡ Stuck
unfolding ready home_at touched_after touched_weight is_first_touch places_with way_out
another_number_of_arguments = refl

call_of_nil : acts_on_procedures (instr.Call 1 line) (record ready { refs = Text [] ∷ Nil ∷ [] }) ≡ Stuck
unfolding ready home_at touched_after touched_weight is_first_touch places_with way_out
call_of_nil = refl

argument_missing : acts_on_procedures (instr.Call 1 line) (record ready { nums = [] }) ≡ Stuck
unfolding ready home_at touched_after touched_weight is_first_touch places_with way_out
argument_missing = refl

-- 2,000 calls are made inside one another, and none deeper, whether or not a turn is left
last_depth : called 1999 line body None [] [] ready ≡ Goes (Turn 0 ∷ []) (body_of_call body None [] [] (record ready.store { turns = 0 }) ready)
unfolding ready touched_after touched_weight
last_depth = refl

too_deep : called 2000 line body None [] [] (record ready { store = record ready.store { turns = 0 } }) ≡ Stops (Trapped trap.TooDeep line) 0
unfolding ready
too_deep = refl

-- a line of the input is a text, and its newline is passed over
reading : List ℕ → Config
reading input = record (at [] [] [] None) { store = record { turns = 0; input = input; held = uncommitted [] 0 } }

line_is_read : read_line line (reading (97 ∷ 98 ∷ 10 ∷ 99 ∷ [])) ≡ on (record (reading (codes "c")) { refs = Text (codes "ab") ∷ []; store = record { turns = 0; input = codes "c"; held = uncommitted [] 48 } })
unfolding reading line_read line_of behind_line
line_is_read = refl

no_line_is_left : read_line line (reading []) ≡ Stops (Trapped trap.NoInput line) 0
unfolding reading line_read
no_line_is_left = refl

end_of_input : at_end (reading []) ≡ on (record (reading []) { nums = pos 1 ∷ [] })
unfolding reading
end_of_input = refl

something_is_left : at_end (reading (10 ∷ [])) ≡ on (record (reading (10 ∷ [])) { nums = pos 0 ∷ [] })
unfolding reading
something_is_left = refl

-- both by their numbers in the library
line_by_its_number : acts_on_procedures (instr.Lib 9 line) (reading []) ≡ Stops (Trapped trap.NoInput line) 0
unfolding library_procedure reading line_read
line_by_its_number = refl

end_by_its_number : acts_on_procedures (instr.Lib 10 line) (reading []) ≡ on (record (reading []) { nums = pos 1 ∷ [] })
unfolding library_procedure reading
end_by_its_number = refl
