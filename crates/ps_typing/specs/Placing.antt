-- Where the names of a body are kept.
use Rattle.std.specs.Prelude.{ℕ, ◌+◌, nat_eq, Bool, true, false, List, [], ◌∷◌, map, codes, slice_get, Option, Some, None, if◌then◌else◌}
use Rattle.ps_tree.specs.ps_base.TyView.{TyView}
use Rattle.ps_tree.specs.ps_base.TyView as ty
use Rattle.ps_program.specs.declared.place.Place.{Place}
use Rattle.ps_program.specs.declared.place.Place.TheVariants.{Plain, Kept}
use Rattle.ps_program.specs.Node.{Node, Nodes, none, more}
use Rattle.ps_program.specs.Node as node
use Rattle.ps_type_text.specs.Texts.{Field, class_text}
use Rattle.ps_typing.specs.Mentions.{number_of, is_among}

-- The next free local on each stack, and the locals of the names that have one.
pub record Locals : Type 0 where
  pub nums : ℕ
  pub refs : ℕ
  pub of : List (ℕ × ℕ)

-- What is known where a clause stands: all names of the program, those of them that are kept, and the kept names of each scope
-- around, innermost first.
pub record Around : Type 0 where
  pub names : List Field
  pub kept : List ℕ
  pub scopes : List (List ℕ)

-- ints and bools stand on the number stack, all else on the reference stack
abbrev pub is_number : TyView → Bool
is_number ty.Int = true
is_number ty.Bool = true
is_number _ = false

-- a name takes the next local of its stack
abbrev pub with_name : ℕ → TyView → Locals → Locals
with_name k ty locals =
    if is_number ty then record locals { nums = locals.nums + 1; of = (k, locals.nums) ∷ locals.of }
    else record locals { refs = locals.refs + 1; of = (k, locals.refs) ∷ locals.of }

-- a name that is declared in the body: a kept one takes no local
abbrev pub with_declared : Around → ℕ → TyView → Locals → Locals
with_declared around k ty locals = if is_among around.kept k then locals else with_name k ty locals

abbrev pub next_position : Option ℕ → Option ℕ
next_position None = None
next_position (Some i) = Some (i + 1)

-- the position of a name among these
abbrev pub position : List ℕ → ℕ → Option ℕ
position [] k = None
position (name ∷ names) k = if nat_eq name k then Some 0 else next_position (position names k)

-- the local of a name that has one
abbrev pub local_of : List (ℕ × ℕ) → ℕ → ℕ
local_of [] k = 0
local_of (entry ∷ entries) k = if nat_eq entry.0 k then entry.1 else local_of entries k

-- Where a name is kept, so many scopes further out: in the innermost scope around that has it, else in its local.
abbrev pub found_at : List (ℕ × ℕ) → ℕ → ℕ → List (List ℕ) → Place
found_at locals k up [] = Plain (local_of locals k)
found_at locals k up (scope ∷ scopes) = elim (position scope k) [ Some i ↦ Kept up i | None ↦ found_at locals k (up + 1) scopes ]

abbrev pub place_of : Around → Locals → Place → Place
place_of around locals place = found_at locals.of (number_of place) 0 around.scopes

abbrev pub field_at : List Field → ℕ → Field
field_at names k = elim (slice_get names k) [ Some field ↦ field | None ↦ record { ty = ty.Void; name = [] } ]

-- the text of the scope that keeps these names: none where there are none
abbrev pub scope_text : List Field → List ℕ → Option (List ℕ)
scope_text names [] = None
scope_text names (k ∷ ks) = Some (class_text (codes "scope") (map (field_at names) (k ∷ ks)))

-- inside a block that keeps these names
abbrev pub inside : Around → List ℕ → Around
inside around [] = around
inside around (k ∷ ks) = record around { scopes = (k ∷ ks) ∷ around.scopes }

-- the names that the items of a sequence declare
abbrev pub declared : Nodes → List ℕ
declared none = []
declared (more (node.Let place ty e) rest) = number_of place ∷ declared rest
declared (more first rest) = declared rest
