-- Bodies that have types by the rules, inside scopes as they are known there and as they are in a heap.
use Rattle.std.specs.Prelude.{◌≡◌, ℕ, ◌<◌, ◌≤◌, List, [], ◌∷◌, length}
use Rattle.std.specs.List.{AllByRecursion}
use Rattle.ps_heap.specs.ps_base.Limits.{most_slots}
use Rattle.ps_soundness.specs.ps_program.Node.{BodyNode}
use Rattle.ps_soundness.specs.ps_program.Slots.{slot_count}
use Rattle.ps_soundness.specs.ps_type_text.Texts.{Field}
use Rattle.ps_soundness.specs.ps_typing.Program.{bodies}
use Rattle.ps_soundness.specs.ps_typing.WellTyped.{IsBody}
use Rattle.ps_typing_laws.specs.Counted.{Each}
use Rattle.ps_typing_laws.specs.ps_tree.Phrase.{Phrase}
use Rattle.ps_typing_laws.specs.ps_typing.Items.{LetsAreItems}
use Rattle.ps_typing_laws.specs.ps_typing.Program.{Typed, check_program}
use Rattle.ps_fit_laws.specs.ps_leaf_laws.Leaves.{LeavesFit}
use Rattle.ps_heap.specs.reaching.Reaching.{IsIn}
use Rattle.ps_soundness.specs.Valued.{IsValued}
use Rattle.ps_soundness.specs.Running.{BodyRuns}
use Rattle.ps_soundness.specs.Shapes.{IsPrefix, type_of_body}
use Rattle.heap_fit.specs.Bodies.{Level, IsFitBody}

-- a scope in which these names have had their declarations, the first of all that it keeps
pub record IsLevel (fields whole : List Field) (level : Level) : Type 0 where
  pub names : level.names ≡ whole
  pub front : IsPrefix fields whole
  pub declared : (position : ℕ) → position < length fields → IsIn position level.declared
  pub valued : AllByRecursion (λ field. IsValued field.ty) fields

-- the scopes round a clause, innermost first
abbrev pub AreLevels : (scopes wholes : List (List Field)) → List Level → Type 0
AreLevels [] [] [] = Unit {0}
AreLevels (fields ∷ scopes) (whole ∷ wholes) (level ∷ levels) = IsLevel fields whole level × AreLevels scopes wholes levels
AreLevels scopes wholes levels = ⊥

-- a body takes and gives values, and its slot count is within the limit
pub record IsSmall (of : BodyNode) : Type 0 where
  pub valued : IsValued (type_of_body of)
  pub few : slot_count of ≤ most_slots

-- A body with types that runs, and that takes and gives values within the limit of slots, as all literals in it do, is fit for the scopes round it.
abbrev pub TypedBodiesAreFit : Type 0
TypedBodiesAreFit = (scopes wholes : List (List Field)) (levels : List Level) (of : BodyNode) → IsBody scopes of → BodyRuns wholes of → Each IsSmall (bodies of)
    → AreLevels scopes wholes levels → IsFitBody levels of

-- The program of each tree whose leaves fit is a fit body, and with it all bodies in it are.
abbrev pub TypedProgramsAreFit : Type 0
TypedProgramsAreFit = (tree : Phrase) (program : BodyNode) → LetsAreItems tree → LeavesFit tree → check_program tree ≡ Typed program → IsFitBody [] program
