-- Instructions that take a row of values from the stacks: those of the fields of a structure, and the elements of a vector.
use Rattle.std.proofs.Common.{◌≡◌, ℕ, zero, suc, ◌+◌, ℤ, true, false, List, [], ◌∷◌, ◌++◌, length, map, Some, refl, sym, ap, ◌∙◌, append_assoc, append-nil}
use Rattle.std.specs.Prelude.{reverse}
use Rattle.std.specs.List.{AllByRecursion}
use Rattle.std.proofs.lemmas.List.{reverse-append}
use Rattle.ps_gen.specs.ps_base.TyView.{TyView}
use Rattle.ps_gen.specs.ps_base.TyView as types
use Rattle.ps_gen.specs.ps_base.CodeUnit.{text}
use Rattle.ps_gen.specs.ps_base.declared.line.Line.{Line}
use Rattle.ps_gen.specs.ps_base.declared.instr.Instr.{Instr}
use Rattle.ps_gen.specs.ps_base.declared.instr.Instr.TheVariants as instr
use Rattle.ps_type_text.specs.Texts.{Field, class_text, IsNamed}
use Rattle.ps_stepping.specs.text_forms.declared.forms.Form.{Form}
use Rattle.ps_stepping.specs.text_forms.declared.forms.Form.TheVariants as form
use Rattle.ps_stepping.specs.text_forms.Forms.{forms_of, element_of}
use Rattle.ps_stepping.specs.text_forms.Classes.{form_of_type, form_of_field}
use Rattle.ps_stepping.proofs.of_text_forms.ClassForms.{class-told}
use Rattle.ps_stepping.specs.ps_heap.Values.{Value, Num, Flag, Pointer, Vector, word_of}
use Rattle.ps_stepping.specs.ps_heap.Objects.{Heap, Structure, vector_of}
use Rattle.ps_stepping.specs.ps_meaning.Meaning.{Frame, Store, made}
use Rattle.ps_stepping.specs.ps_meaning.Operations.{kept_as, kept_all, kept_elements, make_meant, elements_meant}
use Rattle.ps_gen.specs.ps_emitter.Choices as choice
use Rattle.ps_stepping.specs.Config.{Config, constants_in, constant_at}
use Rattle.ps_stepping.specs.Machine.{Step, act}
use Rattle.ps_stepping.specs.Steps.{pop_num, attempted}
use Rattle.ps_stepping.specs.Objects.{make, pop_fields, pop_nums, pop_refs}
use Rattle.ps_code_laws.specs.Fitting.{IsOf, AreOf}
use Rattle.ps_soundness.proofs.Fields.{kept_in_class, all_kept_in_vector}
use Rattle.ps_code_laws.specs.Compiled.{compiled, compiled_all, compiled_object}
use Rattle.ps_code_laws.specs.Meets.{nums_left, refs_left}
use Rattle.ps_code_laws.proofs.Compiling.{vector_compiled}
use Rattle.ps_code_laws.proofs.Clauses.{IsNum, int, bool, IsRef, str, pntr, vector, proc, Kind, of_num, of_ref}
use Rattle.ps_code_laws.proofs.Doing.{Origin, Way, place, Does, does_meant}
use Rattle.ps_code_laws.proofs.Operands.{Stand}
use Rattle.ps_code_laws.proofs.Attempts.{at_num, at_ref, quiet_attempt, quiet_made, text_there, compiled_steps, object_steps}
use Rattle.ps_code_laws.proofs.VectorForms.{text_of, element_number, element_reference, element_kept}
use Rattle.fit_soundness.proofs.Levels.{fits}

-- The words of values of fields, over those that were there; the last one's are on top.
abbrev pub pushed_nums : List Field → List Value → List ℤ → List ℤ
pushed_nums [] vs nums = nums
pushed_nums (field ∷ fields) [] nums = nums
pushed_nums (field ∷ fields) (v ∷ vs) nums = pushed_nums fields vs (nums_left field.ty v ++ nums)

abbrev pub pushed_refs : List Field → List Value → List Value → List Value
pushed_refs [] vs refs = refs
pushed_refs (field ∷ fields) [] refs = refs
pushed_refs (field ∷ fields) (v ∷ vs) refs = pushed_refs fields vs (refs_left field.ty v ++ refs)

-- those of values of one type
abbrev pub all_nums : TyView → List Value → List ℤ → List ℤ
all_nums ty [] nums = nums
all_nums ty (v ∷ vs) nums = all_nums ty vs (nums_left ty v ++ nums)

abbrev pub all_refs : TyView → List Value → List Value → List Value
all_refs ty [] refs = refs
all_refs ty (v ∷ vs) refs = all_refs ty vs (refs_left ty v ++ refs)

-- over further words
pub pushed_nums_over : (fields : List Field) (vs : List Value) (xs ys : List ℤ) → pushed_nums fields vs xs ++ ys ≡ pushed_nums fields vs (xs ++ ys)
pushed_nums_over [] vs xs ys = refl
pushed_nums_over (field ∷ fields) [] xs ys = refl
pushed_nums_over (field ∷ fields) (v ∷ vs) xs ys =
    pushed_nums_over fields vs (nums_left field.ty v ++ xs) ys ∙ ap (pushed_nums fields vs) (append_assoc (nums_left field.ty v) xs ys)

pub pushed_refs_over : (fields : List Field) (vs xs ys : List Value) → pushed_refs fields vs xs ++ ys ≡ pushed_refs fields vs (xs ++ ys)
pushed_refs_over [] vs xs ys = refl
pushed_refs_over (field ∷ fields) [] xs ys = refl
pushed_refs_over (field ∷ fields) (v ∷ vs) xs ys =
    pushed_refs_over fields vs (refs_left field.ty v ++ xs) ys ∙ ap (pushed_refs fields vs) (append_assoc (refs_left field.ty v) xs ys)

all_nums_over : (ty : TyView) (vs : List Value) (xs ys : List ℤ) → all_nums ty vs xs ++ ys ≡ all_nums ty vs (xs ++ ys)
all_nums_over ty [] xs ys = refl
all_nums_over ty (v ∷ vs) xs ys = all_nums_over ty vs (nums_left ty v ++ xs) ys ∙ ap (all_nums ty vs) (append_assoc (nums_left ty v) xs ys)

all_refs_over : (ty : TyView) (vs xs ys : List Value) → all_refs ty vs xs ++ ys ≡ all_refs ty vs (xs ++ ys)
all_refs_over ty [] xs ys = refl
all_refs_over ty (v ∷ vs) xs ys = all_refs_over ty vs (refs_left ty v ++ xs) ys ∙ ap (all_refs ty vs) (append_assoc (refs_left ty v) xs ys)

-- numbers leave no references, and references no numbers
no_refs : {ty : TyView} → IsNum ty → (vs refs : List Value) → all_refs ty vs refs ≡ refs
no_refs num [] refs = refl
no_refs int (v ∷ vs) refs = no_refs int vs refs
no_refs bool (v ∷ vs) refs = no_refs bool vs refs

no_nums : {ty : TyView} → IsRef ty → (vs : List Value) (nums : List ℤ) → all_nums ty vs nums ≡ nums
no_nums ref [] nums = refl
no_nums str (v ∷ vs) nums = no_nums str vs nums
no_nums pntr (v ∷ vs) nums = no_nums pntr vs nums
no_nums (vector {element = element}) (v ∷ vs) nums = no_nums (vector {element = element}) vs nums
no_nums (proc {params = params} {gives = gives}) (v ∷ vs) nums = no_nums (proc {params = params} {gives = gives}) vs nums

module _ (w : Way) where
  -- Taking them again: the last one is taken first.

  pub last_num : (k n : ℕ) (zs nums : List ℤ) (refs : List Value) (f : Frame) (store : Store) (next : List ℤ → Config → Step) →
      pop_nums (suc n) zs (place w k nums refs f store) next ≡ pop_nums n zs (place w k nums refs f store) (λ ws d. pop_nums 1 ws d next)
  last_num k zero zs nums refs f store next = refl
  last_num k (suc n) zs [] refs f store next = refl
  last_num k (suc n) zs (z ∷ nums) refs f store next = last_num k n (z ∷ zs) nums refs f store next

  pub last_ref : (k n : ℕ) (vs : List Value) (nums : List ℤ) (refs : List Value) (f : Frame) (store : Store) (next : List Value → Config → Step) →
      pop_refs (suc n) vs (place w k nums refs f store) next ≡ pop_refs n vs (place w k nums refs f store) (λ ws d. pop_refs 1 ws d next)
  last_ref k zero vs nums refs f store next = refl
  last_ref k (suc n) vs nums [] f store next = refl
  last_ref k (suc n) vs nums (v ∷ refs) f store next = last_ref k n (v ∷ vs) nums refs f store next

  last_field : (k : ℕ) (forms : List Form) (last : Form) (vs : List Value) (nums : List ℤ) (refs : List Value) (f : Frame) (store : Store)
      (next : List Value → Config → Step) →
      pop_fields (forms ++ last ∷ []) vs (place w k nums refs f store) next
      ≡ pop_fields forms vs (place w k nums refs f store) (λ ws d. pop_fields (last ∷ []) ws d next)
  last_field k [] last vs nums refs f store next = refl
  last_field k (form.Reference ∷ forms) last vs nums [] f store next = refl
  last_field k (form.Reference ∷ forms) last vs nums (v ∷ refs) f store next = last_field k forms last (v ∷ vs) nums refs f store next
  last_field k (form.Number ∷ forms) last vs [] refs f store next = refl
  last_field k (form.Number ∷ forms) last vs (z ∷ nums) refs f store next =
      last_field k forms last (kept_as (Some form.Number) (Num z) ∷ vs) nums refs f store next
  last_field k (form.Flag ∷ forms) last vs [] refs f store next = refl
  last_field k (form.Flag ∷ forms) last vs (z ∷ nums) refs f store next =
      last_field k forms last (kept_as (Some form.Flag) (Num z) ∷ vs) nums refs f store next

  nums_taken : {ty : TyView} → IsNum ty → (k : ℕ) (vs : List Value) (zs nums : List ℤ) (refs : List Value) (f : Frame) (store : Store)
      (next : List ℤ → Config → Step) →
      pop_nums (length vs) zs (place w k (all_nums ty vs nums) refs f store) next ≡ next (map word_of vs ++ zs) (place w k nums refs f store)
  nums_taken num k [] zs nums refs f store next = refl
  nums_taken int k (v ∷ vs) zs nums refs f store next =
      last_num k (length vs) zs (all_nums types.Int vs (word_of v ∷ nums)) refs f store next
      ∙ nums_taken int k vs zs (word_of v ∷ nums) refs f store (λ ws d. pop_nums 1 ws d next)
  nums_taken bool k (v ∷ vs) zs nums refs f store next =
      last_num k (length vs) zs (all_nums types.Bool vs (word_of v ∷ nums)) refs f store next
      ∙ nums_taken bool k vs zs (word_of v ∷ nums) refs f store (λ ws d. pop_nums 1 ws d next)

  refs_taken : {ty : TyView} → IsRef ty → (k : ℕ) (vs us : List Value) (nums : List ℤ) (refs : List Value) (f : Frame) (store : Store)
      (next : List Value → Config → Step) →
      pop_refs (length vs) us (place w k nums (all_refs ty vs refs) f store) next ≡ next (compiled_all vs ++ us) (place w k nums refs f store)
  refs_taken ref k [] us nums refs f store next = refl
  refs_taken str k (v ∷ vs) us nums refs f store next =
      last_ref k (length vs) us nums (all_refs types.Str vs (compiled v ∷ refs)) f store next
      ∙ refs_taken str k vs us nums (compiled v ∷ refs) f store (λ ws d. pop_refs 1 ws d next)
  refs_taken pntr k (v ∷ vs) us nums refs f store next =
      last_ref k (length vs) us nums (all_refs types.Pntr vs (compiled v ∷ refs)) f store next
      ∙ refs_taken pntr k vs us nums (compiled v ∷ refs) f store (λ ws d. pop_refs 1 ws d next)
  refs_taken (vector {element = element}) k (v ∷ vs) us nums refs f store next =
      last_ref k (length vs) us nums (all_refs (types.Vector element) vs (compiled v ∷ refs)) f store next
      ∙ refs_taken (vector {element = element}) k vs us nums (compiled v ∷ refs) f store (λ ws d. pop_refs 1 ws d next)
  refs_taken (proc {params = params} {gives = gives}) k (v ∷ vs) us nums refs f store next =
      last_ref k (length vs) us nums (all_refs (types.Proc params gives) vs (compiled v ∷ refs)) f store next
      ∙ refs_taken (proc {params = params} {gives = gives}) k vs us nums (compiled v ∷ refs) f store (λ ws d. pop_refs 1 ws d next)

  -- a field is taken as the value that it was
  field_taken : (heap : Heap) {ty : TyView} → Kind ty → (k : ℕ) (v : Value) → IsOf heap ty v → (us : List Value) (nums : List ℤ) (refs : List Value)
      (f : Frame) (store : Store) (next : List Value → Config → Step) →
      pop_fields (form_of_type ty ∷ []) us (place w k (nums_left ty v ++ nums) (refs_left ty v ++ refs) f store) next
      ≡ next (compiled v ∷ us) (place w k nums refs f store)
  field_taken heap (of_num int) k (Num z) is us nums refs f store next = refl
  field_taken heap (of_num int) k _ is us nums refs f store next = absurd is
  field_taken heap (of_num bool) k (Flag true) is us nums refs f store next = refl
  field_taken heap (of_num bool) k (Flag false) is us nums refs f store next = refl
  field_taken heap (of_num bool) k _ is us nums refs f store next = absurd is
  field_taken heap (of_ref str) k v is us nums refs f store next = refl
  field_taken heap (of_ref pntr) k v is us nums refs f store next = refl
  field_taken heap (of_ref vector) k v is us nums refs f store next = refl
  field_taken heap (of_ref proc) k v is us nums refs f store next = refl

  fields_taken : (heap : Heap) (fields : List Field) → AllByRecursion (λ (field : Field). Kind field.ty) fields → (k : ℕ) (vs : List Value) →
      AreOf heap fields vs → (us : List Value) (nums : List ℤ) (refs : List Value) (f : Frame) (store : Store) (next : List Value → Config → Step) →
      pop_fields (reverse (map form_of_field fields)) us (place w k (pushed_nums fields vs nums) (pushed_refs fields vs refs) f store) next
      ≡ next (compiled_all vs ++ us) (place w k nums refs f store)
  fields_taken heap [] kinds k [] are us nums refs f store next = refl
  fields_taken heap [] kinds k (v ∷ vs) are us nums refs f store next = absurd are
  fields_taken heap (field ∷ fields) kinds k [] are us nums refs f store next = absurd are
  fields_taken heap (field ∷ fields) kinds k (v ∷ vs) are us nums refs f store next =
      let on_nums = pushed_nums fields vs (nums_left field.ty v ++ nums) in
      let on_refs = pushed_refs fields vs (refs_left field.ty v ++ refs) in
      ap (λ (forms : List Form). pop_fields forms us (place w k on_nums on_refs f store) next)
      (reverse-append (form_of_field field ∷ []) (map form_of_field fields))
      ∙ last_field k (reverse (map form_of_field fields)) (form_of_field field) us on_nums on_refs f store next
      ∙ fields_taken heap fields kinds.1 k vs are.1 us (nums_left field.ty v ++ nums) (refs_left field.ty v ++ refs) f store
      (λ ws d. pop_fields (form_of_field field ∷ []) ws d next)
      ∙ field_taken heap kinds.0 k v are.0 (compiled_all vs ++ us) nums refs f store next

  -- on the stacks of rows over further words
  on_stacks : (i : Instr) (p : ℕ) (xs ys : List ℤ) (us vs : List Value) (f : Frame) (store : Store) → xs ≡ ys → us ≡ vs →
      act i (place w p xs us f store) ≡ act i (place w p ys vs f store)
  on_stacks i p xs ys us vs f store same also =
      ap (λ (zs : List ℤ). act i (place w p zs us f store)) same ∙ ap (λ (rs : List Value). act i (place w p ys rs f store)) also

  pub does_make : (n : Origin) (p k : ℕ) (class name : List ℕ) (fields : List Field) (vs : List Value) → IsNamed name fields →
      class ≡ class_text name fields →
      AllByRecursion (λ (field : Field). Kind field.ty) fields → AreOf n.heap fields vs → Stand w p (instr.Make k) →
      constant_at (constants_in w.unit) k ≡ Some (text class) →
      Does w n (pushed_nums fields vs []) (pushed_refs fields vs []) (make_meant class vs) types.Pntr 1 p (p + 5)
  does_make n p k class name fields vs named class_is kinds are at there =
      does_meant w p 1 (instr.Make k)
      (λ nums refs f s room since.
      let make_of : List Value → Step = λ values. make Pointer (Structure class values) (place w (p + 5) nums refs f s.store) in
      on_stacks (instr.Make k) p (pushed_nums fields vs [] ++ nums) (pushed_nums fields vs nums) (pushed_refs fields vs [] ++ refs)
      (pushed_refs fields vs refs)
      f s.store (pushed_nums_over fields vs [] nums) (pushed_refs_over fields vs [] refs)
      ∙ text_there w k class (place w (p + 5) (pushed_nums fields vs nums) (pushed_refs fields vs refs) f s.store) _ there
      ∙ ap (λ (forms : List Form). pop_fields (reverse forms) [] (place w (p + 5) (pushed_nums fields vs nums) (pushed_refs fields vs refs) f s.store)
      (λ values d. make Pointer (Structure class values) d))
      (ap forms_of class_is ∙ class-told name fields named)
      ∙ fields_taken n.heap fields kinds (p + 5) vs are [] nums refs f s.store (λ values d. make Pointer (Structure class values) d)
      ∙ ap make_of (append-nil (compiled_all vs) ∙ ap compiled_all (sym (kept_in_class fits n.heap name fields vs named are)
      ∙ ap (λ (text_is : List ℕ). kept_all (forms_of text_is) vs) (sym class_is)))
      ∙ object_steps w (p + 5) nums refs f s Pointer (λ id. refl) pntr (Structure class (kept_all (forms_of class) vs)) room)
      (quiet_made Pointer (Structure class (kept_all (forms_of class) vs))) at

  -- the elements that are kept are those that are meant
  elements_kept : {element : TyView} → IsNum element → (vs : List Value) →
      kept_elements (text_of element) (map Num (map word_of vs ++ [])) ≡ compiled_all (kept_elements (text_of element) vs)
  elements_kept num [] = refl
  elements_kept {element = element} num (v ∷ vs) =
      ap (λ (x : Value). x ∷ kept_elements (text_of element) (map Num (map word_of vs ++ []))) (element_kept num v)
      ∙ ap (λ (xs : List Value). compiled (kept_as (Some (element_of (text_of element))) v) ∷ xs) (elements_kept num vs)

  pub does_list : (n : Origin) (p k : ℕ) (line : Line) {t : TyView} (low : Value) (vs : List Value) → Kind t → AllByRecursion (IsOf n.heap t) vs →
      Stand w p (choice.by_type t (instr.ListM k (length vs) line) (instr.ListP k (length vs) line)) →
      constant_at (constants_in w.unit) k ≡ Some (text (text_of t)) →
      Does w n (all_nums t vs (word_of low ∷ [])) (all_refs t vs []) (elements_meant line (text_of t) low vs) (types.Vector t) 1 p (p + 13)
  does_list n p k line {t = t} low vs (of_num num) are at there =
      let of : List Value → _ = λ values. vector_of (text_of t) (word_of low) values in
      does_meant w p 1 (instr.ListM k (length vs) line)
      (λ nums refs f s room since.
      on_stacks (instr.ListM k (length vs) line) p (all_nums t vs (word_of low ∷ []) ++ nums) (all_nums t vs (word_of low ∷ nums))
      (all_refs t vs [] ++ refs) refs
      f s.store (all_nums_over t vs (word_of low ∷ []) nums) (ap (λ (rs : List Value). rs ++ refs) (no_refs num vs []))
      ∙ text_there w k (text_of t) (place w (p + 13) (all_nums t vs (word_of low ∷ nums)) refs f s.store) _ there
      ∙ element_number num _
      ∙ nums_taken num (p + 13) vs [] (word_of low ∷ nums) refs f s.store
      (λ zs d. pop_num d (λ low e. attempted line (vector_of (text_of t) low (kept_elements (text_of t) (map Num zs)))
      (λ object. make Vector object e)))
      ∙ compiled_steps w compiled_object (p + 13) nums refs (types.Vector t) f s line (of (kept_elements (text_of t) vs)) _ _ (made Vector)
      (ap of (elements_kept num vs) ∙ vector_compiled (text_of t) (word_of low) (kept_elements (text_of t) vs))
      (λ object. object_steps w (p + 13) nums refs f s Vector (λ id. refl) (vector {element = t}) object room))
      (quiet_attempt line (of (kept_elements (text_of t) vs)) (made Vector) (quiet_made Vector)) (at_num w _ _ num at)
  does_list n p k line {t = t} low vs (of_ref ref) are at there =
      let of : List Value → _ = λ values. vector_of (text_of t) (word_of low) values in
      does_meant w p 1 (instr.ListP k (length vs) line)
      (λ nums refs f s room since.
      on_stacks (instr.ListP k (length vs) line) p (all_nums t vs (word_of low ∷ []) ++ nums) (word_of low ∷ nums) (all_refs t vs [] ++ refs)
      (all_refs t vs refs)
      f s.store (ap (λ (zs : List ℤ). zs ++ nums) (no_nums ref vs (word_of low ∷ []))) (all_refs_over t vs [] refs)
      ∙ text_there w k (text_of t) (place w (p + 13) (word_of low ∷ nums) (all_refs t vs refs) f s.store) _ there
      ∙ element_reference ref _
      ∙ refs_taken ref (p + 13) vs [] (word_of low ∷ nums) refs f s.store
      (λ us d. pop_num d (λ low e. attempted line (vector_of (text_of t) low us) (λ object. make Vector object e)))
      ∙ compiled_steps w compiled_object (p + 13) nums refs (types.Vector t) f s line (of (kept_elements (text_of t) vs)) _ _ (made Vector)
      (ap of (append-nil (compiled_all vs) ∙ ap compiled_all (sym (all_kept_in_vector fits n.heap t vs are)))
      ∙ vector_compiled (text_of t) (word_of low) (kept_elements (text_of t) vs))
      (λ object. object_steps w (p + 13) nums refs f s Vector (λ id. refl) (vector {element = t}) object room))
      (quiet_attempt line (of (kept_elements (text_of t) vs)) (made Vector) (quiet_made Vector)) (at_ref w _ _ ref at)
