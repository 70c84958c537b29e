-- What is known where a clause with types by the rules stands: the locals in scope, and the scopes round it.
use Rattle.std.proofs.Common.{ℕ, List, [], Option, Some, None}
use Rattle.ps_type_text.specs.Texts.{Field}
use Rattle.ps_meaning.specs.ps_typing.WellTyped.{Env, Local}
use Rattle.ps_heap.specs.Objects.{Heap}
use Rattle.ps_meaning.specs.Meaning.{Frame}
use Rattle.ps_soundness.specs.Shapes.{by_types, AreScopes, AreLocals, Grows}
use Rattle.ps_soundness.proofs.Notion.{Kind, Notion}
use Rattle.ps_soundness.proofs.Growing.{locals_kept, scopes_kept, procedure_kept}

-- procedures that have types by the rules
abbrev pub by_rules : Kind
by_rules = record { asked = by_types; kept = procedure_kept; of_type = λ heap ty of scope h. h.ty_is; round_kept = λ heap new g parent h. h; no_keys = tt; entered_kept = λ key object old new h e. tt }

-- What is known where a clause stands: the locals in scope, and of the scopes round it either nothing, or all the names of each. Those of the
-- names that have had their declarations are in scope.
pub record Standing : Type 0 where
  pub locals : List Local
  pub wholes : Option (List (List Field))
  pub scopes : List (List Field)

abbrev pub AreAround : Heap → Option ℕ → Option (List (List Field)) → List (List Field) → Type 0
AreAround heap scope None scopes = Unit {0}
AreAround heap scope (Some wholes) scopes = AreScopes heap scope wholes scopes

abbrev pub IsStanding : Heap → Frame → Standing → Type 0
IsStanding heap frame known = AreLocals heap frame known.locals × AreAround heap frame.scope known.wholes known.scopes

pub around_kept : (heap new : Heap) → Grows heap new → (scope : Option ℕ) (wholes : Option (List (List Field))) (scopes : List (List Field)) →
    AreAround heap scope wholes scopes → AreAround new scope wholes scopes
around_kept heap new g scope None scopes h = tt
around_kept heap new g scope (Some wholes) scopes h = scopes_kept heap new g wholes scopes scope h

pub standing_kept : (heap new : Heap) → Grows heap new → (frame : Frame) (known : Standing) → IsStanding heap frame known →
    IsStanding new frame known
standing_kept heap new g frame known h =
    (locals_kept by_rules heap new g frame known.locals h.0, around_kept heap new g frame.scope known.wholes known.scopes h.1)

-- what is known with the names of an environment
abbrev pub stand : Option (List (List Field)) → Env → Standing
stand wholes env = record { locals = env.locals; wholes = wholes; scopes = env.scopes }

-- nothing but locals
abbrev pub over : List Local → Standing
over locals = record { locals = locals; wholes = None; scopes = [] }

abbrev pub in_scopes : Notion
in_scopes = record {
  kind = by_rules;
  Standing = Standing;
  IsStanding = IsStanding;
  kept = standing_kept;
  nothing = over [];
  is_nothing = λ heap frame. (tt, tt);
}
