-- Calls, and the names that scopes keep, where procedures have types by the rules.
use Rattle.std.proofs.Common.{ℕ, List, [], ◌∷◌, length, Option, Some, None, refl, sym, subst}
use Rattle.std.specs.Prelude.{codes}
use Rattle.ps_meaning.specs.ps_base.TyView.{TyView}
use Rattle.ps_meaning.specs.ps_base.TyView as types
use Rattle.ps_meaning.specs.ps_base.declared.line.Line.{Line}
use Rattle.ps_type_text.specs.Texts.{Field, class_text, IsNamed}
use Rattle.ps_meaning.specs.ps_program.Node.{Param, Node, body}
use Rattle.ps_meaning.specs.ps_program.declared.place.Place.TheVariants.{Kept}
use Rattle.ps_meaning.specs.ps_typing.WellTyped.{Local, At, IsOfType, and_kept, types_of_params, IsBody}
use Rattle.ps_heap.specs.Values.{Value, Procedure, as_written}
use Rattle.ps_heap.specs.Objects.{Heap, with_new, new_number}
use Rattle.ps_heap.specs.Scopes.{new_scope, with_kept_name}
use Rattle.ps_meaning.specs.Meaning.{Meaning, ◌>>=◌, get, set as set_at, made_procedure, scoped}
use Rattle.ps_meaning.specs.Evaluation.{Context}
use Rattle.ps_soundness.specs.Running.{IsScopeText, BodyRuns}
use Rattle.ps_soundness.specs.Shapes.{IsOf, Grows}
use Rattle.ps_soundness.proofs.Telling.{Told}
use Rattle.ps_soundness.proofs.Growing.{grows_new, of_kept, locals_kept, scopes_kept}
use Rattle.ps_soundness.proofs.Fields.{kept_by_type}
use Rattle.ps_soundness.proofs.Scopes.{found, name_read, name_put, name_declared, scope_made}
use Rattle.ps_soundness.proofs.Names.{has_value}
use Rattle.ps_soundness.proofs.Standings.{Standing, by_rules, in_scopes}
use Rattle.ps_soundness.proofs.Combining.{Sound}
use Rattle.ps_soundness.proofs.Calling.{Answers, locals_in_scope, sound_kept_get, sound_kept_set, sound_kept_literal, sound_inside}

-- where nothing is known of the scopes nothing is called
abbrev pub AreCalls : Option (List (List Field)) → Context → Type 0
AreCalls None c = Unit {0}
AreCalls (Some wholes) c = Answers in_scopes c.call

pub sound_get_kept : (told : Told) {heap : Heap} {locals : List Local} {wholes scopes : List (List Field)} (up position : ℕ) (ty : TyView) →
    At (λ (s : List Field). At (IsOfType ty) s position) scopes up →
    Sound in_scopes heap (record { locals = locals; wholes = Some wholes; scopes = scopes }) (record { locals = locals; wholes = Some wholes; scopes = scopes }) ty
    (get (Kept up position) ty)
sound_get_kept told {wholes = wholes} {scopes = scopes} up position ty at =
    sound_kept_get in_scopes up position ty (λ now frame typed are.
    name_read told now frame.scope up position ty typed (found now wholes scopes frame.scope up position ty at are.1))

pub sound_set_kept : (told : Told) {heap : Heap} {locals : List Local} {wholes scopes : List (List Field)} (up position : ℕ) (ty : TyView) (v : Value) →
    At (λ (s : List Field). At (IsOfType ty) s position) scopes up → IsOf heap ty v →
    Sound in_scopes heap (record { locals = locals; wholes = Some wholes; scopes = scopes }) (record { locals = locals; wholes = Some wholes; scopes = scopes })
    types.Void (set_at (Kept up position) ty v)
sound_set_kept told {heap = heap} {locals = locals} {wholes = wholes} {scopes = scopes} up position ty v at is =
    sound_kept_set in_scopes up position ty v (λ now frame g typed are.
    let new = with_kept_name now frame.scope up position v in
    let put = name_put told now frame.scope up position ty v typed (found now wholes scopes frame.scope up position ty at are.1)
    (of_kept by_rules heap now g ty v is) in
    (put.0, put.1, (locals_kept by_rules now new put.0 frame locals are.0, scopes_kept now new put.0 wholes scopes frame.scope are.1)))

-- the next name of the innermost scope, with a value of its type
pub sound_declare_kept : (told : Told) {heap : Heap} {locals : List Local} {whole : List Field} {wholes scopes : List (List Field)} {fields : List Field}
    (name : List ℕ) (ty : TyView) (v : Value) → At (IsOfType ty) whole (length fields) → IsOf heap ty v →
    Sound in_scopes heap (record { locals = locals; wholes = Some (whole ∷ wholes); scopes = fields ∷ scopes })
    (record { locals = locals; wholes = Some (whole ∷ wholes); scopes = and_kept fields name ty ∷ scopes }) types.Void
    (set_at (Kept 0 (length fields)) ty v)
sound_declare_kept told {heap = heap} {locals = locals} {whole = whole} {wholes = wholes} {scopes = scopes} {fields = fields} name ty v at is =
    sound_kept_set in_scopes 0 (length fields) ty v (λ now frame g typed are.
    let next : Field = record { ty = ty; name = name } in
    let of = of_kept by_rules heap now g ty v is in
    let declared = name_declared told now frame.scope whole wholes fields scopes next v typed are.1 at (has_value by_rules now ty v of)
    (kept_by_type by_rules now ty v of) (λ new grows scopes_are. of_kept by_rules now new grows ty v of) in
    (declared.0, declared.1, (locals_kept by_rules now (with_kept_name now frame.scope 0 (length fields) v) declared.0 frame locals are.0, declared.2)))

-- a clause in a new scope
pub sound_scoped : {heap : Heap} {first : List Local} {inner : Standing} {wholes scopes : List (List Field)} {ty : TyView} {m : Meaning}
    (whole : List Field) →
    IsNamed (codes "scope") whole →
    ((new : Heap) → Grows heap new → Sound in_scopes new (record { locals = first; wholes = Some (whole ∷ wholes); scopes = [] ∷ scopes }) inner ty m) →
    Sound in_scopes heap (record { locals = first; wholes = Some wholes; scopes = scopes })
    (record { locals = inner.locals; wholes = Some wholes; scopes = scopes }) ty (scoped (class_text (codes "scope") whole) m)
sound_scoped {first = first} {inner = inner} {wholes = wholes} {scopes = scopes} whole named h =
    let text = class_text (codes "scope") whole in
    sound_inside in_scopes text
    (λ now frame typed are.
    let made = scope_made now frame.scope whole wholes scopes named typed are.1 in
    let new = with_new now (new_scope text frame.scope) in
    (made.0, (locals_in_scope by_rules new frame (Some (new_number now)) first (locals_kept by_rules now new (grows_new now (new_scope text frame.scope)) frame first are.0), made.1)))
    (λ old now frame behind g stand are.
    (locals_in_scope by_rules now behind frame.scope inner.locals are.0, scopes_kept old now g wholes scopes frame.scope stand.1))
    h

-- a scope whose text has names of a text
pub sound_opened : {heap : Heap} {first : List Local} {inner : Standing} {wholes scopes : List (List Field)} {ty : TyView} {m : Meaning} (text : List ℕ)
    (own : IsScopeText text) →
    ((new : Heap) → Grows heap new → Sound in_scopes new (record { locals = first; wholes = Some (own.fields ∷ wholes); scopes = [] ∷ scopes }) inner ty m) →
    Sound in_scopes heap (record { locals = first; wholes = Some wholes; scopes = scopes })
    (record { locals = inner.locals; wholes = Some wholes; scopes = scopes }) ty (scoped text m)
sound_opened {heap = heap} {first = first} {inner = inner} {wholes = wholes} {scopes = scopes} {ty = ty} {m = m} text own h =
    subst (λ (t : List ℕ). Sound in_scopes heap (record { locals = first; wholes = Some wholes; scopes = scopes })
    (record { locals = inner.locals; wholes = Some wholes; scopes = scopes }) ty (scoped t m)) (sym own.text_is)
    (sound_scoped own.fields own.named h)

-- a name that its own literal mentions
pub sound_declare_literal : (told : Told) {heap : Heap} {locals : List Local} {whole : List Field} {wholes scopes : List (List Field)}
    {fields : List Field} (name : List ℕ) (params : List Param) (gives : TyView) (tree : Node) (text : Option (List ℕ)) (line : Line) →
    At (IsOfType (types.Proc (types_of_params params) gives)) whole (length fields) →
    IsBody (and_kept fields name (types.Proc (types_of_params params) gives) ∷ scopes) (body params gives tree text line) →
    BodyRuns (whole ∷ wholes) (body params gives tree text line) →
    Sound in_scopes heap (record { locals = locals; wholes = Some (whole ∷ wholes); scopes = fields ∷ scopes })
    (record { locals = locals; wholes = Some (whole ∷ wholes); scopes = and_kept fields name (types.Proc (types_of_params params) gives) ∷ scopes })
    types.Void
    (made_procedure (body params gives tree text line)
    >>= λ v. set_at (Kept 0 (length fields)) (types.Proc (types_of_params params) gives) v)
sound_declare_literal told {locals = locals} {whole = whole} {wholes = wholes} {scopes = scopes} {fields = fields} name params gives tree text line at
    typed_body runs =
    let ty = types.Proc (types_of_params params) gives in
    let of = body params gives tree text line in
    sound_kept_literal in_scopes 0 (length fields) ty of (λ now frame typed are.
    let next : Field = record { ty = ty; name = name } in
    let v = Procedure (as_written of) frame.scope in
    let declared = name_declared told now frame.scope whole wholes fields scopes next v typed are.1 at refl refl
    (λ new grows stand. record { wholes = whole ∷ wholes; scopes = and_kept fields name ty ∷ scopes; typed = typed_body; runs = runs; stand = stand; ty_is = refl }) in
    (declared.0, declared.1, (locals_kept by_rules now (with_kept_name now frame.scope 0 (length fields) v) declared.0 frame locals are.0, declared.2)))
