-- A name that is declared in a fit body gets a value of its type, and what was known stays so.
use Rattle.std.proofs.Common.{◌≡◌, ℕ, true, List, [], Option, Some, refl, sym, subst}
use Rattle.ps_heap.specs.ps_base.TyView.{TyView}
use Rattle.ps_heap.specs.ps_base.TyView as types
use Rattle.ps_heap.specs.text_forms.Classes.{form_of_type}
use Rattle.ps_soundness.specs.ps_program.declared.place.Place.{Place}
use Rattle.ps_soundness.specs.ps_program.declared.place.Place.TheVariants.{Kept}
use Rattle.ps_soundness.specs.ps_program.Node.{BodyNode, body}
use Rattle.ps_soundness.specs.ps_program.Node as node
use Rattle.ps_soundness.specs.ps_typing.Checking.{isnt_void}
use Rattle.ps_soundness.specs.ps_typing.WellTyped.{Local}
use Rattle.ps_heap.specs.Values.{Value, Procedure, as_written}
use Rattle.ps_heap.specs.Objects.{Heap, kept_as}
use Rattle.ps_heap.specs.Scopes.{with_kept_name}
use Rattle.ps_soundness.specs.ps_meaning.Meaning.{Frame, ◌>>=◌, made_procedure, set}
use Rattle.ps_soundness.specs.Over.{IsOf, AreLocals}
use Rattle.ps_soundness.specs.Shapes.{HasValue, type_of_body}
use Rattle.ps_soundness.proofs.Telling.{Told}
use Rattle.ps_soundness.proofs.Growing.{of_kept, locals_kept}
use Rattle.ps_soundness.proofs.Places.{spare_slot, slot_has}
use Rattle.ps_soundness.proofs.Fields.{kept_by_type}
use Rattle.ps_soundness.proofs.Names.{has_value}
use Rattle.ps_soundness.proofs.Combining.{Sound, sound_then}
use Rattle.ps_soundness.proofs.Calling.{sound_kept_set, sound_kept_literal, sound_procedure}
use Rattle.heap_fit.specs.Slots.{slot_on}
use Rattle.heap_fit.specs.Bodies.{Level, InScope, Declares, IsFit, IsFitBody}
use Rattle.heap_fit.specs.Bodies as fit
use Rattle.fit_soundness.specs.Levels.{HasRoom, AreLevelsAt, IsProcedure, fitting}
use Rattle.fit_soundness.proofs.Rooms.{Taken, joint, room_right, named_spare, room_named}
use Rattle.fit_soundness.proofs.Levels.{fits, fewer_declared, kept_declared}
use Rattle.fit_soundness.proofs.Standings.{IsStanding, in_levels, within, stand, sound_set_local}

-- a name that a scope keeps, whichever locals there are
pub kept_sound : (told : Told) {scope : Option (List ℕ)} {env own : InScope} {up position : ℕ} {ty : TyView} (locals : List Local) → Declares scope env (Kept up position) ty own → isnt_void ty ≡ true →
    (heap : Heap) (v : Value) → IsOf fitting heap ty v →
    Sound in_levels heap (within locals env.levels) (within locals own.levels) types.Void (set (Kept up position) ty v)
kept_sound told locals (fit.as_kept {env = env} {position = position} {ty = ty} level around is at) isnt heap v of_type =
    sound_kept_set in_levels 0 position ty v (λ now frame g typed are.
    let of = of_kept fits heap now g ty v of_type in
    let d = kept_declared told now frame.scope [] level around position ty v typed (subst (AreLevelsAt now frame.scope) is are.1) at isnt (has_value fits now ty v of)
    (kept_by_type fits now ty v of) (λ new grows around. of_kept fits now new grows ty v of) in
    (d.0, d.1, (locals_kept fits now (with_kept_name now frame.scope 0 position v) d.0 frame locals are.0, d.2)))

pub declares_sound : (told : Told) {scope : Option (List ℕ)} {env own : InScope} {place : Place} {ty : TyView} (rest : Taken) → Declares scope env place ty own → isnt_void ty ≡ true →
    HasRoom env.locals (joint (λ numbers. slot_on numbers ty place) rest) → (heap : Heap) (v : Value) → IsOf fitting heap ty v →
    Sound in_levels heap (stand env) (stand own) types.Void (set place ty v)
declares_sound told rest (fit.as_local {env = env} {slot = slot} {ty = ty}) isnt room heap v of_type =
    sound_set_local slot ty v (λ new frame g are.
    (slot_has fits new frame ty slot v (of_kept fits heap new g ty v of_type), spare_slot fits new frame ty slot v env.locals (named_spare ty slot rest room) are))
declares_sound told rest (fit.as_kept {text = text} {env = env} level around is at) isnt room heap v of_type = kept_sound told env.locals (fit.as_kept {text = text} {env = env} level around is at) isnt heap v of_type

-- what is known before it is known after it
pub declares_over : {scope : Option (List ℕ)} {env own : InScope} {place : Place} {ty : TyView} → Declares scope env place ty own → (heap : Heap) (frame : Frame) →
    AreLocals fitting heap frame own.locals → AreLocals fitting heap frame env.locals
declares_over fit.as_local heap frame h = h.1
declares_over (fit.as_kept level around is at) heap frame h = h

pub declares_levels : {scope : Option (List ℕ)} {env own : InScope} {place : Place} {ty : TyView} → Declares scope env place ty own → (heap : Heap) (scope : Option ℕ) → AreLevelsAt heap scope own.levels →
    AreLevelsAt heap scope env.levels
declares_levels fit.as_local heap scope h = h
declares_levels (fit.as_kept {position = position} level around is at) heap scope h =
    subst (AreLevelsAt heap scope) (sym is) (fewer_declared heap scope [] level around position h)

pub declares_less : {scope : Option (List ℕ)} {env own : InScope} {place : Place} {ty : TyView} → Declares scope env place ty own → (heap : Heap) (frame : Frame) → IsStanding heap frame (stand own) →
    IsStanding heap frame (stand env)
declares_less declares heap frame h = (declares_over declares heap frame h.0, declares_levels declares heap frame.scope h.1)

pub declares_room : {scope : Option (List ℕ)} {env own : InScope} {place : Place} {ty : TyView} (rest : Taken) → Declares scope env place ty own →
    HasRoom env.locals (joint (λ numbers. slot_on numbers ty place) rest) → HasRoom own.locals rest
declares_room rest (fit.as_local {slot = slot} {ty = ty}) room = room_named ty slot rest room
declares_room rest (fit.as_kept {position = position} {ty = ty} level around is at) room =
    room_right (λ numbers. slot_on numbers ty (Kept 0 position)) rest room

-- A literal: its body is fit for the scopes round it.
pub literal_is : {env : InScope} {of : BodyNode} {ty : TyView} → IsFit env (node.Proc of) ty → IsFitBody env.levels of × (ty ≡ type_of_body of)
literal_is (fit.literal is_body) = (is_body, refl)
literal_is (fit.by_rule r names parts) = elim r [ ]

pub procedure_is : (heap : Heap) (ty : TyView) (of : BodyNode) (scope : Option ℕ) → ty ≡ type_of_body of → IsProcedure heap ty of scope →
    IsOf fitting heap ty (Procedure (as_written of) scope)
procedure_is heap ty (body params gives tree text line) scope e h =
    subst (λ (t : TyView). IsOf fitting heap t (Procedure (as_written (body params gives tree text line)) scope)) (sym e)
    (subst (λ (t : TyView). IsProcedure heap t (body params gives tree text line) scope) e h)

procedure_given : (ty : TyView) (of : BodyNode) (scope : Option ℕ) → ty ≡ type_of_body of →
    HasValue ty (Procedure (as_written of) scope) × (kept_as (Some (form_of_type ty)) (Procedure (as_written of) scope) ≡ Procedure (as_written of) scope)
procedure_given ty (body params gives tree text line) scope e =
    let v = Procedure (as_written (body params gives tree text line)) scope in
    subst (λ (t : TyView). HasValue t v × (kept_as (Some (form_of_type t)) v ≡ v)) (sym e) (refl, refl)

procedure_nonvoid : (ty : TyView) (of : BodyNode) → ty ≡ type_of_body of → isnt_void ty ≡ true
procedure_nonvoid ty (body params gives tree text line) e = subst (λ (t : TyView). isnt_void t ≡ true) (sym e) refl

pub literal_sound : (told : Told) {scope : Option (List ℕ)} {env own : InScope} {place : Place} {ty : TyView} {of : BodyNode} (rest : Taken) → Declares scope env place ty own → IsFit own (node.Proc of) ty →
    HasRoom env.locals (joint (λ numbers. slot_on numbers ty place) rest) → (heap : Heap) →
    Sound in_levels heap (stand env) (stand own) types.Void (made_procedure of >>= λ v. set place ty v)
literal_sound told {of = of} rest (fit.as_local {own = scope} {env = env} {slot = slot} {ty = ty}) lit room heap =
    let l = literal_is lit in
    sound_then in_levels {between = stand env} (sound_procedure in_levels of ty (λ now frame are.
    procedure_is now ty of frame.scope l.1 (record { levels = env.levels; fit = l.0; stand = are.1; ty_is = l.1 })))
    (λ new v g is. declares_sound told rest (fit.as_local {own = scope} {env = env} {slot = slot} {ty = ty}) (procedure_nonvoid ty of l.1) room new v is)
literal_sound told {of = of} rest (fit.as_kept {env = env} {position = position} {ty = ty} level around is at) lit room heap =
    let l = literal_is lit in
    sound_kept_literal in_levels 0 position ty of (λ now frame typed are.
    let v = Procedure (as_written of) frame.scope in
    let given = procedure_given ty of frame.scope l.1 in
    let d = kept_declared told now frame.scope [] level around position ty v typed (subst (AreLevelsAt now frame.scope) is are.1) at (procedure_nonvoid ty of l.1) given.0 given.1
    (λ new grows around. procedure_is new ty of frame.scope l.1 (record { levels = _; fit = l.0; stand = around; ty_is = l.1 })) in
    (d.0, d.1, (locals_kept fits now (with_kept_name now frame.scope 0 position v) d.0 frame env.locals are.0, d.2)))
