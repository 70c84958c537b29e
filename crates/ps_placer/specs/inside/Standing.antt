-- What a placer knows where a clause stands, against what is around the clause and the locals before it.
use Rattle.std.specs.Prelude.{◌≡◌, ℕ, ◌+◌, Bool, nat_eq, if◌then◌else◌, List, [], ◌∷◌, ◌++◌, length, Option, Some, None}
use Rattle.ps_type_text.specs.Members.{fields_of}
use Rattle.ps_type_text.specs.declared.classes.Member.{Member}
use Rattle.ps_program.specs.Node.{Node, none, more}
use Rattle.ps_typing.specs.Mentions.{is_among}
use Rattle.ps_typing.specs.Placing.{Around, Locals, local_of, position, declared}
use Rattle.ps_typing.specs.Placed.{Given, no_locals}
use Rattle.ps_placer.specs.declared.placer.Placer.{Placer}
use Rattle.ps_placer.specs.declared.placer.Spot.{Spot}
use Rattle.ps_placer.specs.declared.placer.Outer.{Outer}
use Rattle.ps_placer.specs.declared.placer.Hidden.{Hidden}
use Rattle.ps_placer.specs.declared.survey.Survey.{Survey}
use Rattle.ps_placer.specs.inside.Tables.{value_at, Sets}
use Rattle.ps_placer.specs.inside.Marks.{marks_of, is_kept}

-- those of these names that pass a test
abbrev pub chosen : (ℕ → Bool) → List ℕ → List ℕ
chosen test [] = []
chosen test (k ∷ ks) = if test k then k ∷ chosen test ks else chosen test ks

-- the name that an item declares
abbrev pub declared_by : Node → List ℕ
declared_by n = declared (more n none)

abbrev pub spot : ℕ → ℕ → Spot
spot scope position = record { scope = scope; position = position }

-- where a name is found in a scope, counted from there, or else outside of it
abbrev pub spot_among : ℕ → ℕ → Option ℕ → Option Spot → Option Spot
spot_among scope from None outside = outside
spot_among scope from (Some i) outside = Some (spot scope (from + i))

abbrev pub spot_in : List (List ℕ) → ℕ → Option Spot
spot_in [] k = None
spot_in (scope ∷ scopes) k = spot_among (length scopes + 1) 0 (position scope k) (spot_in scopes k)

pub record Stands (placer : Placer) (around : Around) (locals : Locals) : Type 0 where
  pub names : fields_of placer.names.items ≡ around.names
  pub kept : (k : ℕ) → is_kept (marks_of placer.survey) k ≡ is_among around.kept k
  pub scopes : placer.scopes ≡ length around.scopes
  pub spots : (k : ℕ) → value_at placer.spots k ≡ spot_in around.scopes k
  pub nums : placer.nums ≡ locals.nums
  pub refs : placer.refs ≡ locals.refs
  pub of : (k : ℕ) → value_at placer.locals k ≡ local_of locals.of k

-- no clause was placed yet
pub record Begins (names : List Member) (survey : Survey) (placer : Placer) : Type 0 where
  pub at : (kept : List ℕ) → ((k : ℕ) → is_kept (marks_of survey) k ≡ is_among kept k) → Stands placer (record { names = fields_of names; kept = kept; scopes = [] }) no_locals

-- where a name was found before these were hidden, where it is found so now
abbrev pub undone : List Hidden → Option Spot → ℕ → Option Spot
undone [] now k = now
undone (it ∷ rest) now k = if nat_eq it.name k then it.spot else undone rest now k

-- in a scope that keeps these names, of which those from this place on are found by now
abbrev pub found_from : ℕ → ℕ → List ℕ → Option Spot → ℕ → Option Spot
found_from scope from names outside k = spot_among scope from (position names k) outside

abbrev pub scopes_inside : List ℕ → ℕ → ℕ
scopes_inside [] scopes = scopes
scopes_inside (k ∷ ks) scopes = scopes + 1

-- a scope that keeps these names is gone into
pub record Enters (names : List ℕ) (old new : Placer) (outer : Outer) : Type 0 where
  pub same : new ≡ record old { scopes = new.scopes; spots = new.spots }
  pub scopes : new.scopes ≡ scopes_inside names old.scopes
  pub outer_scopes : outer.scopes ≡ old.scopes
  pub found : (k : ℕ) → value_at new.spots k ≡ found_from new.scopes 0 names (value_at old.spots k) k
  pub undo : (k : ℕ) → undone outer.hidden.items (value_at new.spots k) k ≡ value_at old.spots k

-- what it hid is found again
pub record Leaves (outer : Outer) (old new : Placer) : Type 0 where
  pub same : new ≡ record old { scopes = outer.scopes; spots = new.spots }
  pub undo : (k : ℕ) → value_at new.spots k ≡ undone outer.hidden.items (value_at old.spots k) k

-- one name is found in the innermost scope, and is hidden where it was found before
pub record Hides (name position : ℕ) (old new : Placer) (before after : List Hidden) : Type 0 where
  pub same : new ≡ record old { spots = new.spots }
  pub found : Sets name (Some (spot old.scopes position)) old.spots new.spots
  pub hidden : after ≡ before ++ record { name = name; spot = value_at old.spots name } ∷ []

-- what is done where a clause stands gives what it should, and the placer stands after it
pub record Does {A : Type 0} (does : Around → Locals → Given A) (old : Placer) (made : A) (new : Placer) : Type 0 where
  pub at : (around : Around) (locals : Locals) → Stands old around locals → (made ≡ (does around locals).of) × Stands new around (does around locals).locals
