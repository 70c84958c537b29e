-- Free slots only grow from clause to clause, and a name that is declared takes one that no local in scope has.
use Rattle.std.proofs.Common.{◌≡◌, ℕ, ◌+◌, ◌<◌, ◌≤◌, Bool, true, false, List, [], ◌∷◌, ◌++◌, length, Option, Some, None, inl, inr, refl, sym, subst, arith}
use Rattle.std.specs.Prelude.{if◌then◌else◌}
use Rattle.ps_meaning.specs.ps_base.TyView.{TyView}
use Rattle.ps_meaning.specs.ps_base.TyView as types
use Rattle.ps_meaning.specs.ps_program.declared.place.Place.{Place}
use Rattle.ps_meaning.specs.ps_program.declared.place.Place.TheVariants.{Plain, Kept}
use Rattle.ps_meaning.specs.ps_program.Node.{Node, Nodes, BodyNode, body}
use Rattle.ps_meaning.specs.ps_program.Node as node
use Rattle.ps_type_text.specs.Texts.{Field}
use Rattle.ps_meaning.specs.ps_typing.Placing.{is_number}
use Rattle.ps_meaning.specs.ps_typing.WellTyped.{At, IsOfType, Env, Free, Local, Claim, next_slot, behind_one, and_kept, types_of_params, Declares, IsTyped, AreTyped, AreItems, IsBody}
use Rattle.ps_meaning.specs.ps_typing.WellTyped as typed
use Rattle.ps_heap.specs.Values.{Value, Procedure, as_written}
use Rattle.ps_heap.specs.Objects.{Heap}
use Rattle.ps_meaning.specs.Meaning.{Frame, Meaning, ◌>>=◌, made_procedure, frame_with, set, with_local as local_with}
use Rattle.ps_soundness.specs.Running.{IsPlace, BodyRuns}
use Rattle.ps_soundness.specs.Free.{AllBelow}
use Rattle.ps_soundness.specs.Shapes.{IsOf, type_of_body, IsProcedure, AreLocals, Grows}
use Rattle.ps_soundness.proofs.Telling.{Told}
use Rattle.ps_soundness.proofs.Growing.{of_kept}
use Rattle.ps_soundness.proofs.Places.{free_slot, slot_has}
use Rattle.ps_soundness.proofs.Scopes.{scopes_less}
use Rattle.ps_soundness.proofs.Combining.{Sound, sound_then, sound_set, narrowed}
use Rattle.ps_soundness.proofs.Calling.{sound_procedure}
use Rattle.ps_soundness.proofs.Standings.{Standing, AreAround, IsStanding, stand, by_rules, in_scopes}
use Rattle.ps_soundness.proofs.InScopes.{sound_declare_kept, sound_declare_literal}

-- no slot becomes free again
pub record Climbs (free behind : Free) : Type 0 where
  pub nums : free.nums ≤ behind.nums
  pub refs : free.refs ≤ behind.refs

climbs_not : (free : Free) → Climbs free free
climbs_not free = record { nums = omega arith; refs = omega arith }

climbs_then : (a b c : Free) → Climbs a b → Climbs b c → Climbs a c
climbs_then a b c g h = record { nums = omega (arith, g.nums, h.nums); refs = omega (arith, g.refs, h.refs) }

pub climbs_one : (free : Free) (number : Bool) →
    Climbs free (if number then record free { nums = free.nums + 1 } else record free { refs = free.refs + 1 })
climbs_one free true = record { nums = omega arith; refs = omega arith }
climbs_one free false = record { nums = omega arith; refs = omega arith }

pub declared_climbs : {env with_name : Env} {free behind : Free} {place : Place} {ty : TyView} → Declares env free place ty with_name behind →
    Climbs free behind
declared_climbs (typed.as_local {free = free} {ty = ty} e) = climbs_one free (is_number ty)
declared_climbs (typed.as_kept {free = free} name scopes is) = climbs_not free

mutual
  pub climbs : {env : Env} {free behind : Free} {t : Node} {ty : TyView} → IsTyped env free t ty behind → Climbs free behind
  climbs (typed.by_rule r are) = climbs_all are
  climbs (typed.name {free = free} is) = climbs_not free
  climbs (typed.set_name is te) = climbs te
  climbs (typed.block opens are is) = climbs_items are
  climbs (typed.loop {free = free} {behind = behind} {between = between} {free' = last} slot_is opens declares is are t) =
      let one = declared_climbs declares in
      let three = climbs_all are in
      let body = climbs t in
      record { nums = omega (arith, one.nums, three.nums, body.nums); refs = omega (arith, one.refs, three.refs, body.refs) }
  climbs (typed.scan q_is s_is are) = let h = climbs_all are in record { nums = omega (arith, h.nums); refs = omega (arith, h.refs) }
  climbs (typed.literal {free = free} is_body) = climbs_not free

  pub climbs_all : {env : Env} {free behind : Free} {claims : List Claim} → AreTyped env free claims behind → Climbs free behind
  climbs_all (typed.AreTyped.no_more {free = free}) = climbs_not free
  climbs_all (typed.AreTyped.one_more {free = free} {between = between} {free' = last} first others) =
      climbs_then free between last (climbs first) (climbs_all others)

  climbs_items : {env last : Env} {free behind : Free} {before ty : TyView} {items : Nodes} → AreItems env free before items ty last behind →
      Climbs free behind
  climbs_items (typed.at_end {free = free}) = climbs_not free
  climbs_items (typed.a_clause {free = free} {between = between} {free' = last} first others) =
      climbs_then free between last (climbs first) (climbs_items others)
  climbs_items (typed.a_value {free = free} {behind = behind} {between = between} {free' = last} isnt declares te others) =
      climbs_then free behind last (declared_climbs declares) (climbs_then behind between last (climbs te) (climbs_items others))
  climbs_items (typed.a_literal {free = free} {behind = behind} {between = between} {free' = last} declares te others) =
      climbs_then free behind last (declared_climbs declares) (climbs_then behind between last (climbs te) (climbs_items others))

-- locals in scope stay below the free slots
next_climbs : (free behind : Free) (number : Bool) (slot : ℕ) → Climbs free behind → slot < (if number then free.nums else free.refs) →
    slot < (if number then behind.nums else behind.refs)
next_climbs free behind true slot h below = omega (arith, h.nums)
next_climbs free behind false slot h below = omega (arith, h.refs)

pub below_climbs : (free behind : Free) (locals : List Local) → Climbs free behind → AllBelow locals free → AllBelow locals behind
below_climbs free behind [] h below = tt
below_climbs free behind (local ∷ locals) h below =
    (next_climbs free behind (is_number local.ty) local.slot h below.0, below_climbs free behind locals h below.1)

pub below_one : (free : Free) (number : Bool) (slot : ℕ) → slot ≡ (if number then free.nums else free.refs) →
    slot < (if number then (if number then record free { nums = free.nums + 1 } else record free { refs = free.refs + 1 }).nums
    else (if number then record free { nums = free.nums + 1 } else record free { refs = free.refs + 1 }).refs)
below_one free true slot e = omega arith
below_one free false slot e = omega arith

pub declared_below : {env with_name : Env} {free behind : Free} {place : Place} {ty : TyView} → Declares env free place ty with_name behind →
    AllBelow env.locals free → AllBelow with_name.locals behind
declared_below (typed.as_local {env = env} {free = free} {slot = slot} {ty = ty} e) below =
    (below_one free (is_number ty) slot e, below_climbs free (behind_one ty free) env.locals (climbs_one free (is_number ty)) below)
declared_below (typed.as_kept name scopes is) below = below

-- the locals that were in scope before are typed where those in scope after are
pub declared_over : {env with_name : Env} {free behind : Free} {place : Place} {ty : TyView} → Declares env free place ty with_name behind →
    (heap : Heap) (frame : Frame) → AreLocals heap frame with_name.locals → AreLocals heap frame env.locals
declared_over (typed.as_local e) heap frame h = h.1
declared_over (typed.as_kept name scopes is) heap frame h = h

around_less : (heap : Heap) (scope : Option ℕ) (wholes : Option (List (List Field))) (fields : List Field) (next : Field)
    (scopes : List (List Field)) → AreAround heap scope wholes ((fields ++ next ∷ []) ∷ scopes) → AreAround heap scope wholes (fields ∷ scopes)
around_less heap scope None fields next scopes h = tt
around_less heap scope (Some wholes) fields next scopes h = scopes_less heap scope wholes fields next scopes h

-- what is known before a name is declared is known after it
pub declared_less : {env with_name : Env} {free behind : Free} {place : Place} {ty : TyView} (wholes : Option (List (List Field))) →
    Declares env free place ty with_name behind → (heap : Heap) (frame : Frame) → IsStanding heap frame (stand wholes with_name) →
    IsStanding heap frame (stand wholes env)
declared_less wholes (typed.as_local e) heap frame h = (h.0.1, h.1)
declared_less wholes (typed.as_kept {ty = ty} {scope = scope} {around = around} name scopes is) heap frame h =
    (h.0, subst (AreAround heap frame.scope wholes) (sym scopes) (around_less heap frame.scope wholes scope (record { ty = ty; name = name }) around h.1))

-- a local with another value leaves the scope
scope_in_row : (frame : Frame) (number : Bool) (slot : ℕ) (v : Value) →
    (if number then record frame { nums = local_with frame.nums slot v } else record frame { refs = local_with frame.refs slot v }).scope ≡ frame.scope
scope_in_row frame true slot v = refl
scope_in_row frame false slot v = refl

pub scope_same : (frame : Frame) (ty : TyView) (slot : ℕ) (v : Value) → (frame_with frame ty slot v).scope ≡ frame.scope
scope_same frame ty slot v = scope_in_row frame (is_number ty) slot v

pub sound_set_local : {heap : Heap} {first last : List Local} {wholes : Option (List (List Field))} {scopes : List (List Field)} (slot : ℕ) (ty : TyView)
    (v : Value) →
    ((new : Heap) (frame : Frame) → Grows heap new → AreLocals new frame first → AreLocals new (frame_with frame ty slot v) last) →
    Sound in_scopes heap (record { locals = first; wholes = wholes; scopes = scopes }) (record { locals = last; wholes = wholes; scopes = scopes }) types.Void
    (set (Plain slot) ty v)
sound_set_local {wholes = wholes} {scopes = scopes} slot ty v h = sound_set in_scopes slot ty v (λ new frame g are.
    (h new frame g are.0, subst (λ (scope : Option ℕ). AreAround new scope wholes scopes) (sym (scope_same frame ty slot v)) are.1))

-- what is so of the innermost
innermost_at : (whole : List Field) (wholes : List (List Field)) (P : List Field → Type 0) → At P (whole ∷ wholes) 0 → P whole
innermost_at whole wholes P (inl h) = h.1
innermost_at whole wholes P (inr h) = absurd (let e = h.1 in omega arith)

pub declare_kept : (told : Told) {heap : Heap} {locals : List Local} (wholes : List (List Field)) {scopes around : List (List Field)} {fields : List Field}
    (position : ℕ) (name : List ℕ) (ty : TyView) (v : Value) → scopes ≡ fields ∷ around → position ≡ length fields →
    At (λ (whole : List Field). At (IsOfType ty) whole position) wholes 0 → IsOf heap ty v →
    Sound in_scopes heap (record { locals = locals; wholes = Some wholes; scopes = scopes })
    (record { locals = locals; wholes = Some wholes; scopes = and_kept fields name ty ∷ around }) types.Void (set (Kept 0 position) ty v)
declare_kept told [] position name ty v e p at is = absurd at
declare_kept told {heap = heap} {locals = locals} (whole ∷ wholes) {scopes = scopes} {around = around} {fields = fields} position name ty v e p at is =
    let first : List (List Field) → Standing = λ ss. record { locals = locals; wholes = Some (whole ∷ wholes); scopes = ss } in
    let last = first (and_kept fields name ty ∷ around) in
    subst (λ (n : ℕ). Sound in_scopes heap (first scopes) last types.Void (set (Kept 0 n) ty v)) (sym p)
    (subst (λ (ss : List (List Field)). Sound in_scopes heap (first ss) last types.Void (set (Kept 0 (length fields)) ty v)) (sym e)
    (sound_declare_kept told name ty v (subst (At (IsOfType ty) whole) p (innermost_at whole wholes (λ (w : List Field). At (IsOfType ty) w position) at)) is))

-- the initial value of a name is of its type
pub declared_sound : (told : Told) (wholes : Option (List (List Field))) {env with_name : Env} {free behind : Free} {place : Place} {ty : TyView} →
    Declares env free place ty with_name behind → IsPlace wholes place ty → AllBelow env.locals free →
    (heap : Heap) (v : Value) → IsOf heap ty v → Sound in_scopes heap (stand wholes env) (stand wholes with_name) types.Void (set place ty v)
declared_sound told wholes (typed.as_local {env = env} {free = free} {slot = slot} {ty = ty} e) at below heap v h =
    sound_set_local slot ty v (λ new frame g are.
    (slot_has by_rules new frame ty slot v (of_kept by_rules heap new g ty v h), free_slot by_rules new frame free ty slot v env.locals (omega (arith, e)) below are))
declared_sound told None (typed.as_kept name scopes is) at below heap v h = absurd at
declared_sound told (Some wholes) (typed.as_kept {position = position} {ty = ty} name scopes is) at below heap v h =
    declare_kept told wholes position name ty v scopes is at h

-- and the names after it
pub sound_let : (told : Told) (wholes : Option (List (List Field))) {env with_name : Env} {free behind : Free} {place : Place} {ty last : TyView}
    {e : Meaning} {next : Value → Meaning} {heap : Heap} →
    Declares env free place ty with_name behind → IsPlace wholes place ty → AllBelow env.locals free →
    Sound in_scopes heap (stand wholes env) (stand wholes env) ty e →
    ((new : Heap) (v : Value) → IsOf new types.Void v → Sound in_scopes new (stand wholes with_name) (stand wholes with_name) last (next v)) →
    Sound in_scopes heap (stand wholes env) (stand wholes env) last ((e >>= λ v. set place ty v) >>= next)
sound_let told wholes declares at below h k =
    narrowed in_scopes (declared_less wholes declares)
    (sound_then in_scopes (sound_then in_scopes h (λ h1 v g is. declared_sound told wholes declares at below h1 v is)) (λ h2 u g is. k h2 u is))

-- A literal: its body is typed in the scopes round it.
pub literal_is : {env : Env} {free behind : Free} {of : BodyNode} {ty : TyView} → IsTyped env free (node.Proc of) ty behind →
    IsBody env.scopes of × (ty ≡ type_of_body of)
literal_is (typed.literal is_body) = (is_body, refl)
literal_is (typed.by_rule r are) = elim r [ ]

pub procedure_is : (heap : Heap) (ty : TyView) (of : BodyNode) (scope : Option ℕ) → ty ≡ type_of_body of → IsProcedure heap ty of scope →
    IsOf heap ty (Procedure (as_written of) scope)
procedure_is heap ty (body params gives tree text line) scope e h =
    subst (λ (t : TyView). IsOf heap t (Procedure (as_written (body params gives tree text line)) scope)) (sym e)
    (subst (λ (t : TyView). IsProcedure heap t (body params gives tree text line) scope) e h)

declare_literal : (told : Told) {heap : Heap} {locals : List Local} (wholes : List (List Field)) {scopes around : List (List Field)}
    {fields : List Field} (position : ℕ) (name : List ℕ) (ty : TyView) (of : BodyNode) → scopes ≡ fields ∷ around → position ≡ length fields →
    At (λ (whole : List Field). At (IsOfType ty) whole position) wholes 0 → ty ≡ type_of_body of → IsBody (and_kept fields name ty ∷ around) of →
    BodyRuns wholes of →
    Sound in_scopes heap (record { locals = locals; wholes = Some wholes; scopes = scopes })
    (record { locals = locals; wholes = Some wholes; scopes = and_kept fields name ty ∷ around }) types.Void
    (made_procedure of >>= λ v. set (Kept 0 position) ty v)
declare_literal told [] position name ty of e p at ty_is is_body runs = absurd at
declare_literal told {heap = heap} {locals = locals} (whole ∷ wholes) {scopes = scopes} {around = around} {fields = fields} position name ty
    (body params gives tree text line) e p at ty_is is_body runs =
    let of = body params gives tree text line in
    let known : List (List Field) → Standing = λ ss. record { locals = locals; wholes = Some (whole ∷ wholes); scopes = ss } in
    let own = types.Proc (types_of_params params) gives in
    subst (λ (n : ℕ). Sound in_scopes heap (known scopes) (known (and_kept fields name ty ∷ around)) types.Void
    (made_procedure of >>= λ v. set (Kept 0 n) ty v)) (sym p)
    (subst (λ (ss : List (List Field)). Sound in_scopes heap (known ss) (known (and_kept fields name ty ∷ around)) types.Void
    (made_procedure of >>= λ v. set (Kept 0 (length fields)) ty v)) (sym e)
    (subst (λ (t : TyView). Sound in_scopes heap (known (fields ∷ around)) (known (and_kept fields name t ∷ around)) types.Void
    (made_procedure of >>= λ v. set (Kept 0 (length fields)) t v)) (sym ty_is)
    (sound_declare_literal told name params gives tree text line
    (subst (λ (t : TyView). At (IsOfType t) whole (length fields)) ty_is
    (subst (At (IsOfType ty) whole) p (innermost_at whole wholes (λ (w : List Field). At (IsOfType ty) w position) at)))
    (subst (λ (t : TyView). IsBody (and_kept fields name t ∷ around) of) ty_is is_body) runs)))

pub literal_sound : (told : Told) (wholes : List (List Field)) {env with_name : Env} {free behind between : Free} {place : Place} {ty : TyView}
    {of : BodyNode} → Declares env free place ty with_name behind → IsTyped with_name behind (node.Proc of) ty between → BodyRuns wholes of →
    IsPlace (Some wholes) place ty → AllBelow env.locals free → (heap : Heap) →
    Sound in_scopes heap (stand (Some wholes) env) (stand (Some wholes) with_name) types.Void (made_procedure of >>= λ v. set place ty v)
literal_sound told wholes {of = of} (typed.as_local {env = env} {free = free} {ty = ty} e) te runs at below heap =
    let lit = literal_is te in
    sound_then in_scopes (sound_procedure in_scopes of ty (λ now frame are. procedure_is now ty of frame.scope lit.1
    (record { wholes = wholes; scopes = env.scopes; typed = lit.0; runs = runs; stand = are.1; ty_is = lit.1 })))
    (λ new v g is. declared_sound told (Some wholes) (typed.as_local {free = free} e) tt below new v is)
literal_sound told wholes {of = of} (typed.as_kept {position = position} {ty = ty} name scopes is) te runs at below heap =
    let lit = literal_is te in
    declare_literal told wholes position name ty of scopes is at lit.1 lit.0 runs
