-- Instructions over structures do what is meant by the clauses that they stand for.
use Rattle.std.proofs.Common.{◌≡◌, ℕ, ◌+◌, Bool, List, [], ◌∷◌, ◌++◌, Option, Some, sym, ap, ◌∙◌}
use Rattle.ps_gen.specs.ps_base.TyView.{TyView}
use Rattle.ps_gen.specs.ps_base.TyView as types
use Rattle.ps_gen.specs.ps_base.CodeUnit.{text}
use Rattle.ps_gen.specs.ps_base.declared.line.Line.{Line}
use Rattle.ps_gen.specs.ps_base.declared.instr.Instr.TheVariants as instr
use Rattle.ps_stepping.specs.text_forms.declared.forms.Form.{Form}
use Rattle.ps_stepping.specs.text_forms.Forms.{forms_of, form_in}
use Rattle.ps_stepping.specs.ps_heap.Values.{Value, Num, Flag, number_of, word_of}
use Rattle.ps_stepping.specs.ps_heap.Objects.{is_class, field_of, with_field, id_of}
use Rattle.ps_stepping.specs.ps_heap.Held.{Part}
use Rattle.ps_stepping.specs.ps_meaning.Meaning.{give, with_heap, read, assign}
use Rattle.ps_stepping.specs.ps_meaning.Operations.{kept_as, field_meant, set_field_meant}
use Rattle.ps_gen.specs.ps_emitter.Choices as choice
use Rattle.ps_stepping.specs.Config.{constants_in, constant_at}
use Rattle.ps_stepping.specs.Machine.{Step, push_num}
use Rattle.ps_stepping.specs.Objects.{when_number, when_reference}
use Rattle.ps_soundness.specs.Running.{HasField}
use Rattle.ps_code_laws.specs.Fitting.{IsOf}
use Rattle.ps_soundness.proofs.Fields.{form_in_field, kept_in_field}
use Rattle.ps_code_laws.specs.Compiled.{compiled, compiled_heap}
use Rattle.ps_code_laws.specs.Meets.{nums_left, refs_left}
use Rattle.ps_code_laws.proofs.Compiling.{class_compiled, field_compiled, with_field_compiled}
use Rattle.ps_code_laws.proofs.HeldCompiling.{id_compiled}
use Rattle.ps_code_laws.proofs.Clauses.{IsNum, IsRef, Kind, of_num, of_ref}
use Rattle.ps_code_laws.proofs.Doing.{Origin, Way, place, Does, does_meant, push_goes}
use Rattle.ps_code_laws.proofs.Operands.{Stand}
use Rattle.ps_code_laws.proofs.Attempts.{at_num, at_ref, quiet_give, quiet_with_heap, quiet_read, quiet_put, number_form, reference_form, kept_word, object_pops, text_there, compiled_steps, number_read, reference_read, change_steps, over_num, over_ref}
use Rattle.fit_soundness.proofs.Levels.{fits}

field_number : (class : List ℕ) (i : ℕ) {ty : TyView} → HasField class i ty → IsNum ty → (s : Step) → when_number (form_in (forms_of class) i) s ≡ s
field_number class i {ty = ty} has num s = ap (λ (form : Option Form). when_number form s) (form_in_field class i ty has) ∙ number_form num s

field_reference : (class : List ℕ) (i : ℕ) {ty : TyView} → HasField class i ty → IsRef ty → (s : Step) →
    when_reference (form_in (forms_of class) i) s ≡ s
field_reference class i {ty = ty} has ref s = ap (λ (form : Option Form). when_reference form s) (form_in_field class i ty has) ∙ reference_form ref s

module _ (w : Way) where
  pub does_is : (n : Origin) (p k : ℕ) (class : List ℕ) (v : Value) → IsOf n.heap types.Pntr v → Stand w p (instr.Is k) →
      constant_at (constants_in w.unit) k ≡ Some (text class) →
      Does w n [] (compiled v ∷ []) (with_heap (λ heap. give (Flag (is_class heap v class)))) types.Bool 1 p (p + 5)
  unfolding with_heap give
  does_is n p k class v is at named =
      does_meant w p 1 (instr.Is k)
      (λ nums refs f s room since. text_there w k class (place w (p + 5) nums (compiled v ∷ refs) f s.store) _ named ∙ object_pops n.heap v is _ _
      ∙ ap (λ (b : Bool). push_num (number_of b) (place w (p + 5) nums refs f s.store)) (class_compiled s.store.held.objects v class)
      ∙ push_goes w (p + 5) (number_of (is_class s.store.held.objects v class)) nums refs f s.store room)
      (quiet_with_heap (λ heap. give (Flag (is_class heap v class))) (λ heap. quiet_give (Flag (is_class heap v class)))) at

  pub does_field : (n : Origin) (p k i : ℕ) (line : Line) (class : List ℕ) {ty : TyView} (v : Value) → Kind ty → HasField class i ty →
      IsOf n.heap types.Pntr v →
      Stand w p (choice.by_type ty (instr.FieldM k i line) (instr.FieldP k i line)) → constant_at (constants_in w.unit) k ≡ Some (text class) →
      Does w n [] (compiled v ∷ []) (field_meant line class i v) ty 1 p (p + 13)
  unfolding with_heap
  does_field n p k i line class {ty = ty} v (of_num num) has is at named =
      does_meant w p 1 (instr.FieldM k i line)
      (λ nums refs f s room since. text_there w k class (place w (p + 13) nums (compiled v ∷ refs) f s.store) _ named
      ∙ field_number class i has num _ ∙ object_pops n.heap v is _ _
      ∙ compiled_steps w compiled (p + 13) nums refs ty f s line (field_of s.store.held.objects v class i) _ _ read (field_compiled s.store.held.objects v class i)
      (λ x. number_read w (p + 13) nums refs f s num since.weighs x room))
      (quiet_read line (λ heap. field_of heap v class i)) (at_num w _ _ num at)
  does_field n p k i line class {ty = ty} v (of_ref ref) has is at named =
      does_meant w p 1 (instr.FieldP k i line)
      (λ nums refs f s room since. text_there w k class (place w (p + 13) nums (compiled v ∷ refs) f s.store) _ named
      ∙ field_reference class i has ref _ ∙ object_pops n.heap v is _ _
      ∙ compiled_steps w compiled (p + 13) nums refs ty f s line (field_of s.store.held.objects v class i) _ _ read (field_compiled s.store.held.objects v class i)
      (λ x. reference_read w (p + 13) nums refs f s ref since.weighs x room))
      (quiet_read line (λ heap. field_of heap v class i)) (at_ref w _ _ ref at)

  -- the value that a field takes is the one that is meant
  number_kept : (class : List ℕ) (i : ℕ) {ty : TyView} (v : Value) → IsNum ty → HasField class i ty →
      kept_as (form_in (forms_of class) i) (Num (word_of v)) ≡ compiled (kept_as (form_in (forms_of class) i) v)
  number_kept class i {ty = ty} v num has =
      ap (λ (form : Option Form). kept_as form (Num (word_of v))) (form_in_field class i ty has) ∙ kept_word num v
      ∙ ap (λ (form : Option Form). compiled (kept_as form v)) (sym (form_in_field class i ty has))

  pub does_set_field : (n : Origin) (p k i : ℕ) (line : Line) (class : List ℕ) {ty : TyView} (o v : Value) → Kind ty → HasField class i ty →
      IsOf n.heap types.Pntr o → IsOf n.heap ty v →
      Stand w p (choice.by_type ty (instr.SetFieldM k i line) (instr.SetFieldP k i line)) → constant_at (constants_in w.unit) k ≡ Some (text class) →
      Does w n (nums_left ty v ++ []) (refs_left ty v ++ (compiled o ∷ [])) (set_field_meant line class i o v) types.Void 1 p (p + 13)
  unfolding with_heap
  does_set_field n p k i line class {ty = ty} o v (of_num num) has is of at named =
      over_num w [] (compiled o ∷ []) num v
      (does_meant w p 1 (instr.SetFieldM k i line)
      (λ nums refs f s room since. text_there w k class (place w (p + 13) (word_of v ∷ nums) (compiled o ∷ refs) f s.store) _ named
      ∙ field_number class i has num _ ∙ object_pops n.heap o is _ _
      ∙ compiled_steps w compiled_heap (p + 13) nums refs types.Void f s line
      (with_field s.store.held.objects o class i (kept_as (form_in (forms_of class) i) v)) _ _ (assign (Part (id_of o) i))
      (ap (with_field (compiled_heap s.store.held.objects) (compiled o) class i) (number_kept class i v num has)
      ∙ with_field_compiled s.store.held.objects o class i (kept_as (form_in (forms_of class) i) v))
      (λ heap. change_steps w (p + 13) nums refs f s (Part (id_of (compiled o)) i) (Part (id_of o) i) heap
      (ap (λ (id : ℕ). Part id i) (id_compiled o))))
      (quiet_put line (λ heap. with_field heap o class i (kept_as (form_in (forms_of class) i) v)) (λ heap. Part (id_of o) i)) (at_num w _ _ num at))
  does_set_field n p k i line class {ty = ty} o v (of_ref ref) has is of at named =
      over_ref w [] (compiled o ∷ []) ref v
      (does_meant w p 1 (instr.SetFieldP k i line)
      (λ nums refs f s room since. text_there w k class (place w (p + 13) nums (compiled v ∷ compiled o ∷ refs) f s.store) _ named
      ∙ field_reference class i has ref _ ∙ object_pops n.heap o is _ _
      ∙ compiled_steps w compiled_heap (p + 13) nums refs types.Void f s line
      (with_field s.store.held.objects o class i (kept_as (form_in (forms_of class) i) v)) _ _ (assign (Part (id_of o) i))
      (ap (λ (x : Value). with_field (compiled_heap s.store.held.objects) (compiled o) class i (compiled x)) (sym (kept_in_field fits n.heap class i ty v has of))
      ∙ with_field_compiled s.store.held.objects o class i (kept_as (form_in (forms_of class) i) v))
      (λ heap. change_steps w (p + 13) nums refs f s (Part (id_of (compiled o)) i) (Part (id_of o) i) heap
      (ap (λ (id : ℕ). Part id i) (id_compiled o))))
      (quiet_put line (λ heap. with_field heap o class i (kept_as (form_in (forms_of class) i) v)) (λ heap. Part (id_of o) i)) (at_ref w _ _ ref at))
