-- What is known where a fit clause stands: the locals in scope, and the scopes round it with what was declared in them; or nothing.
use Rattle.std.proofs.Common.{ℕ, List, [], ◌∷◌, Option, Some, None, sym, subst}
use Rattle.ps_heap.specs.ps_base.TyView.{TyView}
use Rattle.ps_heap.specs.ps_base.TyView as types
use Rattle.ps_soundness.specs.ps_program.declared.place.Place.TheVariants.{Plain}
use Rattle.ps_soundness.specs.ps_typing.WellTyped.{Local}
use Rattle.ps_heap.specs.Values.{Value}
use Rattle.ps_heap.specs.Objects.{Heap, with_new, new_number}
use Rattle.ps_heap.specs.Scopes.{new_scope}
use Rattle.ps_soundness.specs.ps_type_text.Texts.{Field, class_text, IsNamed}
use Rattle.std.specs.Prelude.{codes}
use Rattle.ps_soundness.specs.ps_meaning.Meaning.{Frame, Meaning, frame_with, set, scoped}
use Rattle.ps_soundness.specs.Over.{Grows, AreLocals}
use Rattle.ps_soundness.proofs.Notion.{Notion}
use Rattle.ps_soundness.proofs.Growing.{grows_new, locals_kept}
use Rattle.ps_soundness.proofs.Declaring.{scope_same}
use Rattle.ps_soundness.proofs.Combining.{Sound, sound_set}
use Rattle.ps_soundness.proofs.Calling.{locals_in_scope, sound_inside}
use Rattle.heap_fit.specs.Bodies.{Level, InScope}
use Rattle.fit_soundness.specs.Levels.{AreLevelsAt, fitting}
use Rattle.fit_soundness.proofs.Levels.{levels_kept, fits, level_made}

pub record Standing : Type 0 where
  pub locals : List Local
  pub levels : Option (List Level)

abbrev pub AreAround : Heap → Option ℕ → Option (List Level) → Type 0
AreAround heap scope None = Unit {0}
AreAround heap scope (Some levels) = AreLevelsAt heap scope levels

abbrev pub IsStanding : Heap → Frame → Standing → Type 0
IsStanding heap frame known = AreLocals fitting heap frame known.locals × AreAround heap frame.scope known.levels

around_kept : (heap new : Heap) → Grows heap new → (scope : Option ℕ) (levels : Option (List Level)) → AreAround heap scope levels → AreAround new scope levels
around_kept heap new g scope None h = tt
around_kept heap new g scope (Some levels) h = levels_kept heap new g levels scope h

pub standing_kept : (heap new : Heap) → Grows heap new → (frame : Frame) (known : Standing) → IsStanding heap frame known → IsStanding new frame known
standing_kept heap new g frame known h =
    (locals_kept fits heap new g frame known.locals h.0, around_kept heap new g frame.scope known.levels h.1)

abbrev pub in_levels : Notion
in_levels = record {
  kind = fits;
  Standing = Standing;
  IsStanding = IsStanding;
  kept = standing_kept;
  nothing = record { locals = []; levels = None };
  is_nothing = λ heap frame. (tt, tt);
}

abbrev pub within : List Local → List Level → Standing
within locals levels = record { locals = locals; levels = Some levels }

abbrev pub stand : InScope → Standing
stand env = within env.locals env.levels

-- another value in a local
pub sound_set_local : {heap : Heap} {first last : List Local} {levels : List Level} (slot : ℕ) (ty : TyView) (v : Value) →
    ((new : Heap) (frame : Frame) → Grows heap new → AreLocals fitting new frame first → AreLocals fitting new (frame_with frame ty slot v) last) →
    Sound in_levels heap (within first levels) (within last levels) types.Void (set (Plain slot) ty v)
sound_set_local {levels = levels} slot ty v h = sound_set in_levels slot ty v (λ new frame g are.
    (h new frame g are.0, subst (λ (scope : Option ℕ). AreLevelsAt new scope levels) (sym (scope_same frame ty slot v)) are.1))

-- a clause in a new scope
pub sound_scope : {heap : Heap} {first last : List Local} {levels : List Level} {ty : TyView} {m : Meaning} (names : List Field) → IsNamed (codes "scope") names →
    ((new : Heap) → Grows heap new → Sound in_levels new (within first (record { names = names; declared = [] } ∷ levels))
    (within last (record { names = names; declared = [] } ∷ levels)) ty m) →
    Sound in_levels heap (within first levels) (within last levels) ty (scoped (class_text (codes "scope") names) m)
sound_scope {first = first} {last = last} {levels = levels} names named h =
    let text = class_text (codes "scope") names in
    sound_inside in_levels text
    (λ now frame typed are.
    let made = level_made now frame.scope names levels named typed are.1 in
    let new = with_new now (new_scope text frame.scope) in
    (made.0, (locals_in_scope fits new frame (Some (new_number now)) first (locals_kept fits now new (grows_new now (new_scope text frame.scope)) frame first are.0), made.1)))
    (λ old now frame behind g stand are.
    (locals_in_scope fits now behind frame.scope last are.0, levels_kept old now g levels frame.scope stand.1))
    h
