-- Instructions over vectors do what is meant by the clauses that they stand for.
use Rattle.std.proofs.Common.{◌≡◌, ℕ, ◌+◌, ℤ, Bool, true, false, List, [], ◌∷◌, ◌++◌, Option, Some, refl, sym, ap, ◌∙◌}
use Rattle.ps_gen.specs.ps_base.TyView.{TyView}
use Rattle.ps_gen.specs.ps_base.TyView as types
use Rattle.ps_gen.specs.ps_base.CodeUnit.{text}
use Rattle.ps_gen.specs.ps_base.declared.line.Line.{Line}
use Rattle.ps_gen.specs.ps_base.declared.instr.Instr.TheVariants as instr
use Rattle.ps_type_text.specs.Texts.{type_text}
use Rattle.ps_stepping.specs.text_forms.declared.forms.Form.{Form}
use Rattle.ps_stepping.specs.text_forms.Forms.{element_of}
use Rattle.ps_stepping.proofs.of_text_forms.ClassForms.{element-told}
use Rattle.ps_stepping.specs.ps_heap.Values.{Value, Num, Vector, word_of}
use Rattle.ps_stepping.specs.ps_heap.Objects.{Heap, filled_vector, vector_in, type_in, with_element, low_of, high_of, element_of as element_at}
use Rattle.ps_stepping.specs.ps_meaning.Meaning.{give, with_heap, read, assign, made}
use Rattle.ps_stepping.specs.ps_heap.Held.{element_place}
use Rattle.ps_stepping.specs.ps_meaning.Operations.{kept_as, fill_meant, element_meant, set_element_meant, bound_meant}
use Rattle.ps_gen.specs.ps_emitter.Choices as choice
use Rattle.ps_stepping.specs.Config.{constants_in, constant_at}
use Rattle.ps_stepping.specs.Machine.{Step, push_num}
use Rattle.ps_stepping.specs.Objects.{when_number, when_reference, type_of_object, type_of, of_type}
use Rattle.ps_code_laws.specs.Fitting.{IsOf}
use Rattle.ps_soundness.proofs.Growing.{of_kept}
use Rattle.ps_soundness.proofs.Fields.{kept_in_vector}
use Rattle.ps_code_laws.specs.Compiled.{compiled, compiled_object, compiled_heap}
use Rattle.ps_code_laws.specs.Meets.{nums_left, refs_left}
use Rattle.ps_code_laws.proofs.Compiling.{compiled_found, object_compiled, filled_compiled, element_compiled, with_element_compiled, low_bound_compiled, high_bound_compiled}
use Rattle.ps_code_laws.proofs.HeldCompiling.{element_place_compiled}
use Rattle.ps_code_laws.proofs.Clauses.{IsNum, IsRef, vector, Kind, of_num, of_ref}
use Rattle.ps_code_laws.proofs.Doing.{Origin, Way, place, Does, does_meant, push_goes}
use Rattle.ps_code_laws.proofs.Operands.{Stand}
use Rattle.ps_code_laws.proofs.Attempts.{at_num, at_ref, quiet_give, quiet_attempt, quiet_with_heap, quiet_made, quiet_read, quiet_put, number_form, reference_form, kept_word, text_there, compiled_steps, number_read, reference_read, object_steps, change_steps, over_num, over_ref}
use Rattle.fit_soundness.proofs.Levels.{fits}

-- the text of a vector's type, where a value denotes one
abbrev pub text_of : TyView → List ℕ
text_of element = type_text (types.Vector element)

-- the type's text of what a value of a vector's type denotes
type_is : (heap : Heap) (element : TyView) (v : Value) → IsOf heap (types.Vector element) v →
    type_of (compiled_heap heap) (compiled v) ≡ Some (text_of element)
type_is heap element (Vector id) h = ap type_of_object (object_compiled heap id ∙ ap compiled_found h.is)
type_is heap element _ h = absurd h

vector_pops : (heap : Heap) (element : TyView) (v : Value) → IsOf heap (types.Vector element) v → (next : List ℕ → Step) →
    of_type (type_of (compiled_heap heap) (compiled v)) next ≡ next (text_of element)
vector_pops heap element v h next = ap (λ (found : Option (List ℕ)). of_type found next) (type_is heap element v h)

type_in_is : (heap : Heap) (element : TyView) (v : Value) → IsOf heap (types.Vector element) v → type_in (vector_in heap v) ≡ text_of element
type_in_is heap element (Vector id) h = ap type_in h.is
type_in_is heap element _ h = absurd h

pub element_number : {element : TyView} → IsNum element → (s : Step) → when_number (Some (element_of (text_of element))) s ≡ s
element_number {element = element} num s = ap (λ (form : Form). when_number (Some form) s) (element-told element) ∙ number_form num s

pub element_reference : {element : TyView} → IsRef element → (s : Step) → when_reference (Some (element_of (text_of element))) s ≡ s
element_reference {element = element} ref s = ap (λ (form : Form). when_reference (Some form) s) (element-told element) ∙ reference_form ref s

pub element_kept : {element : TyView} → IsNum element → (v : Value) →
    kept_as (Some (element_of (text_of element))) (Num (word_of v)) ≡ compiled (kept_as (Some (element_of (text_of element))) v)
element_kept {element = element} num v =
    ap (λ (form : Form). kept_as (Some form) (Num (word_of v))) (element-told element) ∙ kept_word num v
    ∙ ap (λ (form : Form). compiled (kept_as (Some form) v)) (sym (element-told element))

module _ (w : Way) where
  pub does_fill : (n : Origin) (p k : ℕ) (line : Line) {t : TyView} (low high v : Value) → Kind t → IsOf n.heap t v →
      Stand w p (choice.by_type t (instr.FillM k line) (instr.FillP k line)) → constant_at (constants_in w.unit) k ≡ Some (text (text_of t)) →
      Does w n (nums_left t v ++ (word_of high ∷ word_of low ∷ [])) (refs_left t v ++ []) (fill_meant line (text_of t) low high v) (types.Vector t) 1
      p (p + 9)
  does_fill n p k line {t = t} low high v (of_num num) is at named =
      let filled = filled_vector (text_of t) (word_of low) (word_of high) (kept_as (Some (element_of (text_of t))) v) in
      over_num w (word_of high ∷ word_of low ∷ []) [] num v
      (does_meant w p 1 (instr.FillM k line)
      (λ nums refs f s room since. text_there w k (text_of t) (place w (p + 9) (word_of v ∷ word_of high ∷ word_of low ∷ nums) refs f s.store) _ named
      ∙ element_number num _
      ∙ compiled_steps w compiled_object (p + 9) nums refs (types.Vector t) f s line filled _ _ (made Vector)
      (ap (filled_vector (text_of t) (word_of low) (word_of high)) (element_kept num v)
      ∙ filled_compiled (text_of t) (word_of low) (word_of high) (kept_as (Some (element_of (text_of t))) v))
      (λ object. object_steps w (p + 9) nums refs f s Vector (λ id. refl) (vector {element = t}) object room))
      (quiet_attempt line filled (made Vector) (quiet_made Vector)) (at_num w _ _ num at))
  does_fill n p k line {t = t} low high v (of_ref ref) is at named =
      let filled = filled_vector (text_of t) (word_of low) (word_of high) (kept_as (Some (element_of (text_of t))) v) in
      over_ref w (word_of high ∷ word_of low ∷ []) [] ref v
      (does_meant w p 1 (instr.FillP k line)
      (λ nums refs f s room since. text_there w k (text_of t) (place w (p + 9) (word_of high ∷ word_of low ∷ nums) (compiled v ∷ refs) f s.store) _ named
      ∙ element_reference ref _
      ∙ compiled_steps w compiled_object (p + 9) nums refs (types.Vector t) f s line filled _ _ (made Vector)
      (ap (λ (x : Value). filled_vector (text_of t) (word_of low) (word_of high) (compiled x)) (sym (kept_in_vector fits n.heap t v is))
      ∙ filled_compiled (text_of t) (word_of low) (word_of high) (kept_as (Some (element_of (text_of t))) v))
      (λ object. object_steps w (p + 9) nums refs f s Vector (λ id. refl) (vector {element = t}) object room))
      (quiet_attempt line filled (made Vector) (quiet_made Vector)) (at_ref w _ _ ref at))

  pub does_element : (n : Origin) (p : ℕ) (line : Line) {t : TyView} (v i : Value) → Kind t → IsOf n.heap (types.Vector t) v →
      Stand w p (choice.by_type t (instr.ElemM line) (instr.ElemP line)) →
      Does w n (word_of i ∷ []) (compiled v ∷ []) (element_meant line v i) t 1 p (p + 5)
  unfolding with_heap
  does_element n p line {t = t} v i (of_num num) is at =
      does_meant w p 1 (instr.ElemM line)
      (λ nums refs f s room since. vector_pops s.store.held.objects t v (of_kept fits n.heap s.store.held.objects since.grows (types.Vector t) v is) _
      ∙ compiled_steps w compiled (p + 5) nums refs t f s line (element_at s.store.held.objects v (word_of i)) _ _ read (element_compiled s.store.held.objects v (word_of i))
      (λ x. element_number num _ ∙ number_read w (p + 5) nums refs f s num since.weighs x room))
      (quiet_read line (λ heap. element_at heap v (word_of i))) (at_num w _ _ num at)
  does_element n p line {t = t} v i (of_ref ref) is at =
      does_meant w p 1 (instr.ElemP line)
      (λ nums refs f s room since. vector_pops s.store.held.objects t v (of_kept fits n.heap s.store.held.objects since.grows (types.Vector t) v is) _
      ∙ compiled_steps w compiled (p + 5) nums refs t f s line (element_at s.store.held.objects v (word_of i)) _ _ read (element_compiled s.store.held.objects v (word_of i))
      (λ x. element_reference ref _ ∙ reference_read w (p + 5) nums refs f s ref since.weighs x room))
      (quiet_read line (λ heap. element_at heap v (word_of i))) (at_ref w _ _ ref at)

  pub does_set_element : (n : Origin) (p : ℕ) (line : Line) {t : TyView} (v i e : Value) → Kind t → IsOf n.heap (types.Vector t) v → IsOf n.heap t e →
      Stand w p (choice.by_type t (instr.SetElemM line) (instr.SetElemP line)) →
      Does w n (nums_left t e ++ (word_of i ∷ [])) (refs_left t e ++ (compiled v ∷ [])) (set_element_meant line v i e) types.Void 1 p (p + 5)
  unfolding with_heap
  does_set_element n p line {t = t} v i e (of_num num) is of at =
      over_num w (word_of i ∷ []) (compiled v ∷ []) num e
      (does_meant w p 1 (instr.SetElemM line)
      (λ nums refs f s room since.
      let now = of_kept fits n.heap s.store.held.objects since.grows (types.Vector t) v is in
      vector_pops s.store.held.objects t v now _
      ∙ compiled_steps w compiled_heap (p + 5) nums refs types.Void f s line
      (with_element s.store.held.objects v (word_of i) (kept_as (Some (element_of (type_in (vector_in s.store.held.objects v)))) e)) _ _ (assign (element_place s.store.held.objects v (word_of i)))
      (ap (with_element (compiled_heap s.store.held.objects) (compiled v) (word_of i))
      (element_kept num e ∙ ap (λ (ty : List ℕ). compiled (kept_as (Some (element_of ty)) e)) (sym (type_in_is s.store.held.objects t v now)))
      ∙ with_element_compiled s.store.held.objects v (word_of i) (kept_as (Some (element_of (type_in (vector_in s.store.held.objects v)))) e))
      (λ heap. element_number num _ ∙ change_steps w (p + 5) nums refs f s (element_place (compiled_heap s.store.held.objects) (compiled v) (word_of i))
      (element_place s.store.held.objects v (word_of i)) heap (element_place_compiled s.store.held.objects v (word_of i))))
      (quiet_put line (λ heap. with_element heap v (word_of i) (kept_as (Some (element_of (type_in (vector_in heap v)))) e)) (λ heap. element_place heap v (word_of i))) (at_num w _ _ num at))
  does_set_element n p line {t = t} v i e (of_ref ref) is of at =
      over_ref w (word_of i ∷ []) (compiled v ∷ []) ref e
      (does_meant w p 1 (instr.SetElemP line)
      (λ nums refs f s room since.
      let now = of_kept fits n.heap s.store.held.objects since.grows (types.Vector t) v is in
      vector_pops s.store.held.objects t v now _
      ∙ compiled_steps w compiled_heap (p + 5) nums refs types.Void f s line
      (with_element s.store.held.objects v (word_of i) (kept_as (Some (element_of (type_in (vector_in s.store.held.objects v)))) e)) _ _ (assign (element_place s.store.held.objects v (word_of i)))
      (ap (λ (x : Value). with_element (compiled_heap s.store.held.objects) (compiled v) (word_of i) (compiled x))
      (sym (ap (λ (ty : List ℕ). kept_as (Some (element_of ty)) e) (type_in_is s.store.held.objects t v now) ∙ kept_in_vector fits n.heap t e of))
      ∙ with_element_compiled s.store.held.objects v (word_of i) (kept_as (Some (element_of (type_in (vector_in s.store.held.objects v)))) e))
      (λ heap. element_reference ref _ ∙ change_steps w (p + 5) nums refs f s (element_place (compiled_heap s.store.held.objects) (compiled v) (word_of i))
      (element_place s.store.held.objects v (word_of i)) heap (element_place_compiled s.store.held.objects v (word_of i))))
      (quiet_put line (λ heap. with_element heap v (word_of i) (kept_as (Some (element_of (type_in (vector_in heap v)))) e)) (λ heap. element_place heap v (word_of i))) (at_ref w _ _ ref at))

  pub does_bound : (n : Origin) (p : ℕ) (upper : Bool) (t : TyView) (v : Value) → IsOf n.heap (types.Vector t) v → Stand w p (choice.bound upper) →
      Does w n [] (compiled v ∷ []) (bound_meant upper v) types.Int 1 p (p + 1)
  unfolding with_heap give
  does_bound n p true t v is at =
      does_meant w p 1 instr.Upb
      (λ nums refs f s room since. vector_pops s.store.held.objects t v (of_kept fits n.heap s.store.held.objects since.grows (types.Vector t) v is) _
      ∙ ap (λ (z : ℤ). push_num z (place w (p + 1) nums refs f s.store)) (high_bound_compiled s.store.held.objects v)
      ∙ push_goes w (p + 1) (high_of s.store.held.objects v) nums refs f s.store room)
      (quiet_with_heap (λ heap. give (Num (high_of heap v))) (λ heap. quiet_give (Num (high_of heap v)))) at
  does_bound n p false t v is at =
      does_meant w p 1 instr.Lwb
      (λ nums refs f s room since. vector_pops s.store.held.objects t v (of_kept fits n.heap s.store.held.objects since.grows (types.Vector t) v is) _
      ∙ ap (λ (z : ℤ). push_num z (place w (p + 1) nums refs f s.store)) (low_bound_compiled s.store.held.objects v)
      ∙ push_goes w (p + 1) (low_of s.store.held.objects v) nums refs f s.store room)
      (quiet_with_heap (λ heap. give (Num (low_of heap v))) (λ heap. quiet_give (Num (low_of heap v)))) at
