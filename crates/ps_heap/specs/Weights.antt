-- How many bytes things weigh, a multiple of eight: of an object these are the bytes of its words, and of code at least those.
use Rattle.std.specs.Prelude.{ℕ, ◌+◌, ◌*◌, ◌/◌, List, [], ◌∷◌, length, Option, Some, None}
use Rattle.ps_base.specs.TyView.{TyView}
use Rattle.ps_base.specs.TyView as types
use Rattle.ps_base.specs.CodeUnit.{UnitView, unit, ConstantsView, no_constants, constant_then}
use Rattle.ps_base.specs.CodeUnit as code_unit
use Rattle.ps_typing.specs.ps_type_text.Texts.{type_text}
use Rattle.ps_typing.specs.ps_program.Node.{Param, Node, BodyNode, body}
use Rattle.ps_typing.specs.ps_program.Node as node
use Rattle.ps_typing.specs.ps_program.Parts.{Part, operand, label, branch, literal, fold}
use Rattle.ps_typing.specs.WellTyped.{types_of_params}
use Rattle.ps_heap.specs.Values.{Value, Text, Procedure, Routine, as_written, as_compiled}
use Rattle.ps_heap.specs.Tables.{Key, string_key, int_key, Entry, Table, without_keys, by_strings, by_ints}
use Rattle.ps_heap.specs.Objects.{Object, Structure, Elements, Scope, Keyed}
use Rattle.ps_heap.specs.References.{values_of}

-- a text: five words, and one for each eight bytes or part of them
abbrev pub text_weight : List ℕ → ℕ
text_weight bytes = 40 + 8 * ((length bytes + 7) / 8)

-- an object by itself, without the text that it names, and a table without its entries
abbrev pub own_weight : Object → ℕ
own_weight (Structure class fields) = 48 + 8 * length fields
own_weight (Elements ty low elements) = 56 + 8 * length elements
own_weight (Scope text parent names) = 56 + 8 * length names
own_weight (Keyed table) = 64

-- a procedure value, without its code and its scope
abbrev pub closure_weight : ℕ
closure_weight = 56

-- the text of a scope, where one is made
abbrev pub scope_weight : Option (List ℕ) → ℕ
scope_weight None = 0
scope_weight (Some text) = text_weight text

-- a body without its clause: its parameters, and the texts of its type and of its scope
abbrev pub head_weight : List Param → TyView → Option (List ℕ) → ℕ
head_weight params gives scope = 64 + 16 * length params + text_weight (type_text (types.Proc (types_of_params params) gives)) + scope_weight scope

-- the texts that a clause names by itself, and the head of a procedure literal
abbrev pub named_weight : Node → ℕ
named_weight (node.Text bytes) = text_weight bytes
named_weight (node.Block scope items) = scope_weight scope
named_weight (node.For slot a b c scope control s line) = scope_weight scope
named_weight (node.Is e class) = text_weight class
named_weight (node.Make class args) = text_weight class
named_weight (node.Field e class index ty line) = text_weight class
named_weight (node.SetField p class index ty e line) = text_weight class
named_weight (node.Fill l u e ty line) = text_weight (type_text ty)
named_weight (node.Elems l items ty line) = text_weight (type_text ty)
named_weight (node.Proc (body params gives tree scope line)) = head_weight params gives scope
named_weight _ = 0

abbrev pub total_of : List (Part ℕ) → ℕ
total_of [] = 0
total_of (operand n ∷ rest) = n + total_of rest
total_of (label n ∷ rest) = n + total_of rest
total_of (branch n ∷ rest) = n + total_of rest
total_of (literal n ∷ rest) = n + total_of rest

-- a clause of code: 96 bytes for each clause in it, with the texts that they name and the code of the procedure literals in it
abbrev pub clause_weight : Node → ℕ
clause_weight = fold (λ clause parts. 96 + named_weight clause + total_of parts)

-- the code of a body
abbrev pub code_weight : BodyNode → ℕ
code_weight (body params gives tree scope line) = head_weight params gives scope + clause_weight tree

-- an entry of a table, with its key where that is a text
abbrev pub entry_weight : Key → ℕ
entry_weight (string_key bytes) = 88 + text_weight bytes
entry_weight (int_key value) = 88

abbrev pub entries_weight : {K : Type 0} → (K → Key) → List (Entry K) → ℕ
entries_weight key_of [] = 0
entries_weight key_of (entry ∷ entries) = entry_weight (key_of entry.key) + entries_weight key_of entries

abbrev pub table_weight : Table → ℕ
table_weight without_keys = 0
table_weight (by_strings entries) = entries_weight string_key entries
table_weight (by_ints entries) = entries_weight int_key entries

-- an object in full: with the text of its class, type or scope, or with its entries
abbrev pub full_weight : Object → ℕ
full_weight (Structure class fields) = own_weight (Structure class fields) + text_weight class
full_weight (Elements ty low elements) = own_weight (Elements ty low elements) + text_weight ty
full_weight (Scope text parent names) = own_weight (Scope text parent names) + text_weight text
full_weight (Keyed table) = own_weight (Keyed table) + table_weight table

-- the words of the objects of a unit of code, with those of its constants
unfoldable mutual
  pub unit_weight : UnitView → ℕ
  unit_weight (unit code constants frame) = 48 + 8 * ((length code + 7) / 8) + constants_weight constants

  pub constants_weight : ConstantsView → ℕ
  constants_weight no_constants = 0
  constants_weight (constant_then (code_unit.text bytes) rest) = 8 + text_weight bytes + constants_weight rest
  constants_weight (constant_then (code_unit.literal code) rest) = 8 + unit_weight code + constants_weight rest

-- What a procedure does: the code of the body that was written. Where code is all that there is, its words are the least that the body weighs.
abbrev pub routine_weight : Routine → ℕ
routine_weight (as_written of) = code_weight of
routine_weight (as_compiled of) = unit_weight of

-- A value in a place: a text, or a procedure with its code and without its scope, where this is what code weighs. All else lies in the place itself.
abbrev pub value_weight : (Routine → ℕ) → Value → ℕ
value_weight weigh (Text bytes) = text_weight bytes
value_weight weigh (Procedure does scope) = closure_weight + weigh does
value_weight weigh _ = 0

abbrev pub values_weight : (Routine → ℕ) → List Value → ℕ
values_weight weigh [] = 0
values_weight weigh (v ∷ vs) = value_weight weigh v + values_weight weigh vs

-- an object in full, with the texts and procedures in its places
abbrev pub whole_weight : (Routine → ℕ) → Object → ℕ
whole_weight weigh object = full_weight object + values_weight weigh (values_of object)
