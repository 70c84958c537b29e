-- Instructions over scopes do what is meant by the clauses that they stand for, and so do those that make a procedure and read the input.
use Rattle.std.proofs.Common.{◌≡◌, ℕ, ◌+◌, List, [], ◌∷◌, Option, Some, refl, ap, ◌∙◌, subst}
use Rattle.ps_gen.specs.ps_base.TyView.{TyView, TyViews}
use Rattle.ps_gen.specs.ps_base.TyView as types
use Rattle.ps_gen.specs.ps_base.CodeUnit.{ConstantView, text, literal}
use Rattle.ps_gen.specs.ps_base.declared.instr.Instr.TheVariants as instr
use Rattle.ps_gen.specs.ps_program.declared.place.Place.TheVariants.{Kept}
use Rattle.ps_gen.specs.ps_program.Node.{BodyNode}
use Rattle.ps_stepping.specs.ps_heap.Values.{Value, Num, Procedure, as_written, word_of}
use Rattle.ps_stepping.specs.ps_heap.Held.{reading_name, assigned_name}
use Rattle.ps_stepping.specs.ps_heap.Objects.{new_number}
use Rattle.ps_stepping.specs.ps_heap.Scopes.{new_scope, kept_name}
use Rattle.ps_stepping.specs.ps_meaning.Meaning.{Frame, Store, State, give, made_procedure, enter, and_object, and_closure, change, get, set}
use Rattle.ps_gen.specs.Units.{unit_of}
use Rattle.ps_stepping.specs.Config.{constants_in, constant_at}
use Rattle.ps_stepping.specs.Machine.{Step, on, push_num, push_ref}
use Rattle.ps_stepping.specs.Objects.{holding, having}
use Rattle.ps_stepping.specs.Procedures.{procedure_of}
use Rattle.heap_fit.specs.Bodies.{Level}
use Rattle.ps_code_laws.specs.Compiled.{compiled, compiled_routine, compiled_store}
use Rattle.ps_code_laws.proofs.Known.{HasPlace}
use Rattle.ps_code_laws.proofs.Clauses.{IsNum, IsRef}
use Rattle.ps_code_laws.proofs.Compiling.{number_compiled, new_scope_compiled, and_object_compiled, kept_name_compiled, with_kept_name_compiled}
use Rattle.ps_code_laws.proofs.HeldCompiling.{reading_name_compiled, assigned_name_compiled}
use Rattle.ps_code_laws.proofs.KeptNames.{IsThere, place_there, level_there, number_there, reference_there, word_kept}
use Rattle.ps_code_laws.proofs.Doing.{Origin, IsSince, IsQuietly, Way, place, Does, does_meant, push_ref_goes}
use Rattle.ps_code_laws.proofs.Operands.{Stand}
use Rattle.ps_code_laws.proofs.Attempts.{text_there, number_held, reference_held, held_steps}
use Rattle.fit_soundness.proofs.Standings.{AreAround}

pub there_of : {P : BodyNode → Type 0} {n : Origin} {up position : ℕ} {ty : TyView} (f : Frame) (s : State) → HasPlace n.known up position ty → IsSince P n f s →
    IsThere s.store.held.objects f.scope up position ty
there_of {n = n} {up = up} {position = position} {ty = ty} f s there since =
    place_there s.store.held.objects there.levels f.scope up position ty there.at
    (subst (λ (levels : Option (List Level)). AreAround s.store.held.objects f.scope levels) there.are since.are.1)

quiet_get : (up position : ℕ) (ty : TyView) → IsQuietly (get (Kept up position) ty)
unfolding get change
quiet_get up position ty f s = refl

quiet_set : (up position : ℕ) (ty : TyView) (v : Value) → IsQuietly (set (Kept up position) ty v)
unfolding set change
quiet_set up position ty v f s = refl

quiet_enter : (bytes : List ℕ) → IsQuietly (enter bytes)
unfolding enter
quiet_enter bytes f s = refl

quiet_procedure : (of : BodyNode) → IsQuietly (made_procedure of)
unfolding made_procedure
quiet_procedure of f s = refl

module _ (w : Way) where
  pub does_get_kept : (n : Origin) (p up position : ℕ) {ty : TyView} → IsNum ty → HasPlace n.known up position ty → Stand w p (instr.KeptM up position) →
      Does w n [] [] (get (Kept up position) ty) ty 1 p (p + 9)
  unfolding get give
  does_get_kept n p up position {ty = ty} num kept at =
      does_meant w p 1 (instr.KeptM up position)
      (λ nums refs f s room since.
      let name = there_of {n = n} f s kept since in
      level_there s.store.held.objects f.scope up name.whole name.names name.at_scope _
      ∙ number_there s.store.held.objects f.scope up position name num _
      ∙ ap (λ (v : Value). push_num (word_of v) (having (reading_name f.scope up position) (place w (p + 9) nums refs f s.store)))
      (kept_name_compiled s.store.held.objects f.scope up position)
      ∙ number_held w (p + 9) nums refs f s num (kept_name s.store.held.objects f.scope up position) (reading_name f.scope up position)
      (reading_name f.scope up position) (reading_name_compiled f.scope up position s.store.held since.weighs) room)
      (quiet_get up position ty) at

  pub does_get_kept_ref : (n : Origin) (p up position : ℕ) {ty : TyView} → IsRef ty → HasPlace n.known up position ty →
      Stand w p (instr.KeptP up position) → Does w n [] [] (get (Kept up position) ty) ty 1 p (p + 9)
  unfolding get give
  does_get_kept_ref n p up position {ty = ty} ref kept at =
      does_meant w p 1 (instr.KeptP up position)
      (λ nums refs f s room since.
      let name = there_of {n = n} f s kept since in
      level_there s.store.held.objects f.scope up name.whole name.names name.at_scope _
      ∙ reference_there s.store.held.objects f.scope up position name ref _
      ∙ ap (λ (v : Value). push_ref v (having (reading_name f.scope up position) (place w (p + 9) nums refs f s.store)))
      (kept_name_compiled s.store.held.objects f.scope up position)
      ∙ reference_held w (p + 9) nums refs f s ref (kept_name s.store.held.objects f.scope up position) (reading_name f.scope up position)
      (reading_name f.scope up position) (reading_name_compiled f.scope up position s.store.held since.weighs) room)
      (quiet_get up position ty) at

  pub does_set_kept : (n : Origin) (p up position : ℕ) {ty : TyView} (v : Value) → IsNum ty → HasPlace n.known up position ty →
      Stand w p (instr.KeepM up position) → Does w n (word_of v ∷ []) [] (set (Kept up position) ty v) types.Void 0 p (p + 9)
  unfolding set
  does_set_kept n p up position {ty = ty} v num kept at =
      does_meant w p 0 (instr.KeepM up position)
      (λ nums refs f s room since.
      let name = there_of {n = n} f s kept since in
      level_there s.store.held.objects f.scope up name.whole name.names name.at_scope _
      ∙ number_there s.store.held.objects f.scope up position name num _
      ∙ held_steps w (p + 9) nums refs f s (assigned_name f.scope up position (Num (word_of v))) (assigned_name f.scope up position v)
      (assigned_name_compiled f.scope up position (Num (word_of v)) v s.store.held since.weighs
      (word_kept s.store.held.objects f.scope up position v name num)))
      (quiet_set up position ty v) at

  pub does_set_kept_ref : (n : Origin) (p up position : ℕ) {ty : TyView} (v : Value) → IsRef ty → HasPlace n.known up position ty →
      Stand w p (instr.KeepP up position) → Does w n [] (compiled v ∷ []) (set (Kept up position) ty v) types.Void 0 p (p + 9)
  unfolding set
  does_set_kept_ref n p up position {ty = ty} v ref kept at =
      does_meant w p 0 (instr.KeepP up position)
      (λ nums refs f s room since.
      let name = there_of {n = n} f s kept since in
      level_there s.store.held.objects f.scope up name.whole name.names name.at_scope _
      ∙ reference_there s.store.held.objects f.scope up position name ref _
      ∙ held_steps w (p + 9) nums refs f s (assigned_name f.scope up position (compiled v)) (assigned_name f.scope up position v)
      (assigned_name_compiled f.scope up position (compiled v) v s.store.held since.weighs
      (with_kept_name_compiled s.store.held.objects f.scope up position v)))
      (quiet_set up position ty v) at

  -- a new scope is the current one
  pub does_enter : (n : Origin) (p k : ℕ) (bytes : List ℕ) → Stand w p (instr.Scope k) → constant_at (constants_in w.unit) k ≡ Some (text bytes) →
      Does w n [] [] (enter bytes) types.Void 0 p (p + 5)
  unfolding enter
  does_enter n p k bytes at there =
      does_meant w p 0 (instr.Scope k)
      (λ nums refs f s room since.
      let entered : Store → ℕ → Step = λ store id.
      on (record (holding store (place w (p + 5) nums refs f s.store)) { scope = Some id }) in
      text_there w k bytes (place w (p + 5) nums refs f s.store) _ there
      ∙ ap (λ (id : ℕ). entered (and_object (new_scope bytes f.scope) (compiled_store s.store)) id) (number_compiled s.store.held.objects)
      ∙ ap (λ (store : Store). entered store (new_number s.store.held.objects))
      (ap (λ (object : _). and_object object (compiled_store s.store)) (new_scope_compiled bytes f.scope)
      ∙ and_object_compiled (new_scope bytes f.scope) s.store))
      (quiet_enter bytes) at

  -- a procedure is made in the scope that the clause stands in
  pub does_closure : (n : Origin) (p k : ℕ) {params : TyViews} {gives : TyView} (of : BodyNode) → Stand w p (instr.Closure k) →
      constant_at (constants_in w.unit) k ≡ Some (literal (unit_of of)) →
      Does w n [] [] (made_procedure of) (types.Proc params gives) 1 p (p + 5)
  unfolding made_procedure compiled_routine
  does_closure n p k of at there =
      does_meant w p 1 (instr.Closure k)
      (λ nums refs f s room since.
      ap (λ (constant : Option ConstantView). procedure_of constant (place w (p + 5) nums refs f s.store)) there
      ∙ push_ref_goes w (p + 5) (compiled (Procedure (as_written of) f.scope)) nums refs f (and_closure s.store) room)
      (quiet_procedure of) at
