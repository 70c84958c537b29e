-- The slots that a body takes on each stack, and which kept names it mentions.
use Rattle.std.specs.Prelude.{ℕ, ◌+◌, Bool, false, ◌||◌, ◌&&◌, nat_eq, if◌then◌else◌, Option, Some, None, List, [], ◌∷◌, ◌++◌}
use Rattle.ps_heap.specs.ps_base.TyView.{TyView}
use Rattle.ps_heap.specs.ps_base.TyView as types
use Rattle.ps_soundness.specs.ps_program.declared.place.Place.{Place}
use Rattle.ps_soundness.specs.ps_program.declared.place.Place.TheVariants.{Plain, Kept}
use Rattle.ps_soundness.specs.ps_program.Node.{Param, Node, BodyNode, body}
use Rattle.ps_soundness.specs.ps_program.Node as node
use Rattle.ps_soundness.specs.ps_program.Parts.{Part, operand, label, branch, literal, fold}
use Rattle.ps_soundness.specs.ps_meaning.Frames.{stands_on}
use Rattle.ps_heap.specs.Held.{row}

-- so many numbers from one on
abbrev pub from : ℕ → ℕ → List ℕ
from first count = row (λ slot. slot) first count

-- a name of this type at this place takes its slot on its stack; a kept one takes none
abbrev pub slot_on : Bool → TyView → Place → List ℕ
slot_on numbers ty (Plain slot) = if stands_on numbers ty then slot ∷ [] else []
slot_on numbers ty (Kept up position) = []

-- a loop by `for` takes three numbers from its slot on, and a scan three numbers and three references
abbrev pub own_slots : Bool → Node → List ℕ
own_slots numbers (node.Let place ty e) = slot_on numbers ty place
own_slots numbers (node.For slot a b c scope control s line) = (if numbers then from slot 3 else []) ++ slot_on numbers types.Int control
own_slots numbers (node.Scan text a f q s line) = if numbers then from s 3 else from q 3
own_slots numbers _ = []

-- the slots in the parts of a clause; a literal is a body by itself
abbrev pub joined : List (Part (List ℕ)) → List ℕ
joined [] = []
joined (operand slots ∷ rest) = slots ++ joined rest
joined (label slots ∷ rest) = slots ++ joined rest
joined (branch slots ∷ rest) = slots ++ joined rest
joined (literal slots ∷ rest) = joined rest

-- how many parameters stand on a stack: each takes a slot there, kept or not
abbrev pub params_on : Bool → List Param → ℕ
params_on numbers [] = 0
params_on numbers (param ∷ params) = (if stands_on numbers param.ty then 1 else 0) + params_on numbers params

abbrev pub slots_of : Bool → BodyNode → List ℕ
slots_of numbers (body params gives tree scope line) = from 0 (params_on numbers params) ++ fold (λ clause parts. own_slots numbers clause ++ joined parts) tree

-- Mentions. A clause is asked inside so many scopes of its own body whether it mentions the name at a position of the scope so many levels outside the body.

abbrev pub is_at : ℕ → ℕ → Place → Bool
is_at up position (Plain slot) = false
is_at up position (Kept levels other) = nat_eq up levels && nat_eq position other

abbrev pub own_mention : ℕ → ℕ → Node → Bool
own_mention up position (node.Name place ty) = is_at up position place
own_mention up position (node.SetName place ty e) = is_at up position place
own_mention up position _ = false

abbrev pub one_scope : Option (List ℕ) → ℕ
one_scope None = 0
one_scope (Some text) = 1

-- how many scopes more there are round the parts of a clause
abbrev pub scopes_inside : Node → ℕ
scopes_inside (node.Block scope items) = one_scope scope
scopes_inside (node.Proc (body params gives tree scope line)) = one_scope scope
scopes_inside _ = 0

abbrev pub asked : Part (ℕ → Bool) → ℕ → Bool
asked (operand ask) inside = ask inside
asked (label ask) inside = ask inside
asked (branch ask) inside = ask inside
asked (literal ask) inside = ask inside

abbrev pub some_asked : List (Part (ℕ → Bool)) → ℕ → Bool
some_asked [] inside = false
some_asked (part ∷ parts) inside = asked part inside || some_asked parts inside

-- of a `for` the scope is round the last part alone, which is what is repeated
abbrev pub last_inside : ℕ → List (Part (ℕ → Bool)) → ℕ → Bool
last_inside more [] inside = false
last_inside more (part ∷ []) inside = asked part (inside + more)
last_inside more (part ∷ parts) inside = asked part inside || last_inside more parts inside

abbrev pub parts_asked : Node → List (Part (ℕ → Bool)) → ℕ → Bool
parts_asked (node.For slot a b c scope control s line) parts inside = last_inside (one_scope scope) parts inside
parts_asked clause parts inside = some_asked parts (inside + scopes_inside clause)

abbrev pub clause_mentions : ℕ → ℕ → Node → ℕ → Bool
clause_mentions out position = fold (λ clause parts inside. own_mention (inside + out) position clause || parts_asked clause parts inside)

-- a body mentions the name at this position of the scope so many levels out, of those round it
abbrev pub mentions : ℕ → ℕ → BodyNode → Bool
mentions out position (body params gives tree scope line) = clause_mentions out position tree (one_scope scope)
