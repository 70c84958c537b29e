-- Where a step goes on, something is so of its events and of what is held then. For each way in which a step begins: it has it where what follows has it.
use Rattle.std.proofs.Common.{ℕ, zero, suc, ◌+◌, ℤ, Bool, true, false, List, [], ◌∷◌, length, Option, Some, None}
use Rattle.std.specs.Prelude.{nat_lt, if◌then◌else◌}
use Rattle.ps_code.specs.ps_base.CodeUnit.{UnitView, ConstantView, text, literal}
use Rattle.ps_code.specs.ps_base.declared.line.Line.{Line}
use Rattle.ps_meaning.specs.text_forms.declared.forms.Form.{Form}
use Rattle.ps_meaning.specs.text_forms.declared.forms.Form.TheVariants as form
use Rattle.ps_meaning.specs.Operations.{kept_as}
use Rattle.ps_heap.specs.Events.{Event}
use Rattle.ps_heap.specs.Held.{Place, Held}
use Rattle.ps_heap.specs.Objects.{Heap, Object, Scope}
use Rattle.ps_heap.specs.Scopes.{scope_at, scope_out}
use Rattle.ps_heap.specs.Texts.{Attempt, Yields, Fails}
use Rattle.ps_heap.specs.Values.{Value, Num, Procedure, as_compiled}
use Rattle.ps_heap.specs.Values as value
use Rattle.ps_stepping.specs.Config.{frame_words, Config, constants_in, frame_in, constant_at}
use Rattle.ps_stepping.specs.Steps.{Step, Goes, Stops, Stuck, on, put_num, push_num, push_ref, pop_num_of, pop_num, pop_ref_of, pop_ref, text_of, pop_text, text_in, with_text, attempted}
use Rattle.ps_stepping.specs.Objects.{denoting_of, pop_denoting, object_of, pop_object, pop_fields, when_number, when_reference, type_of, of_type, pop_vector, pop_nums, pop_refs}
use Rattle.ps_stepping.specs.Procedures.{of_scope, at_level, unit_called, pop_procedure}
use Rattle.database_steps.specs.Quiet.{AreQuiet}

abbrev pub Going : (List Event → Held → Type 0) → Step → Type 0
Going K (Goes events next) = K events next.store.held
Going K (Stops e touched) = Unit {0}
Going K Stuck = Unit {0}

-- so of what an attempt yields
abbrev pub Yielding : {A : Type 0} → (A → Type 0) → Attempt A → Type 0
Yielding Q (Yields a) = Q a
Yielding Q (Fails trap) = Unit {0}

-- so after quiet events, whichever objects there are then, places assigned, objects touched and bytes counted
abbrev pub Quietly : (List Event → Held → Type 0) → Held → Type 0
Quietly K h =
    (objects : Heap) (assigned : List Place) (touched : List ℕ) (counted : ℕ) (events : List Event) → AreQuiet events →
    K events (record h { objects = objects; assigned = assigned; touched = touched; counted = counted })

module _ (K : List Event → Held → Type 0) where
  pub either : (b : Bool) (s t : Step) → Going K s → Going K t → Going K (if b then s else t)
  either true s t h g = h
  either false s t h g = g

  -- what is stuck where a test is false
  pub tested : (b : Bool) (s : Step) → Going K s → Going K (if b then s else Stuck)
  tested b s h = either b s Stuck h tt

  pub pushed_num : (z : ℤ) (c : Config) → K [] c.store.held → Going K (push_num z c)
  pushed_num z c h = tested (nat_lt ((frame_in c.unit).nums + length c.nums) frame_words) (put_num z c) h

  pub pushed_ref : (v : Value) (c : Config) → K [] c.store.held → Going K (push_ref v c)
  pushed_ref v c h = tested (nat_lt ((frame_in c.unit).refs + length c.refs) frame_words) (on (record c { refs = v ∷ c.refs })) h

  pub popped_num : (c : Config) (next : ℤ → Config → Step) → ((z : ℤ) (rest : List ℤ) → Going K (next z (record c { nums = rest }))) → Going K (pop_num c next)
  popped_num c next h = of_list c.nums
    where
      of_list : (xs : List ℤ) → Going K (pop_num_of xs c next)
      of_list [] = tt
      of_list (z ∷ rest) = h z rest

  pub popped_ref : (c : Config) (next : Value → Config → Step) → ((v : Value) (rest : List Value) → Going K (next v (record c { refs = rest }))) → Going K (pop_ref c next)
  popped_ref c next h = of_list c.refs
    where
      of_list : (xs : List Value) → Going K (pop_ref_of xs c next)
      of_list [] = tt
      of_list (v ∷ rest) = h v rest

  of_text : (v : Value) (c : Config) (next : List ℕ → Config → Step) → ((bytes : List ℕ) → Going K (next bytes c)) → Going K (text_of v c next)
  of_text (value.Text bytes) c next h = h bytes
  of_text v c next h = tt

  pub popped_text : (c : Config) (next : List ℕ → Config → Step) → ((bytes : List ℕ) (rest : List Value) → Going K (next bytes (record c { refs = rest }))) →
      Going K (pop_text c next)
  popped_text c next h = popped_ref c (λ v d. text_of v d next) (λ v rest. of_text v (record c { refs = rest }) next (λ bytes. h bytes rest))

  of_denoting : (v : Value) (c : Config) (next : Value → Config → Step) → ((w : Value) → Going K (next w c)) → Going K (denoting_of v c next)
  of_denoting value.Nil c next h = h value.Nil
  of_denoting (value.Pointer id) c next h = h (value.Pointer id)
  of_denoting (value.Vector id) c next h = h (value.Vector id)
  of_denoting v c next h = tt

  pub popped_denoting : (c : Config) (next : Value → Config → Step) → ((v : Value) (rest : List Value) → Going K (next v (record c { refs = rest }))) →
      Going K (pop_denoting c next)
  popped_denoting c next h = popped_ref c (λ v d. denoting_of v d next) (λ v rest. of_denoting v (record c { refs = rest }) next (λ w. h w rest))

  pub of_object : (v : Value) (c : Config) (next : Value → Config → Step) → ((w : Value) → Going K (next w c)) → Going K (object_of v c next)
  of_object value.Nil c next h = h value.Nil
  of_object (value.Pointer id) c next h = h (value.Pointer id)
  of_object v c next h = tt

  pub popped_object : (c : Config) (next : Value → Config → Step) → ((v : Value) (rest : List Value) → Going K (next v (record c { refs = rest }))) →
      Going K (pop_object c next)
  popped_object c next h = popped_ref c (λ v d. object_of v d next) (λ v rest. of_object v (record c { refs = rest }) next (λ w. h w rest))

  of_known_type : (ty : Option (List ℕ)) (next : List ℕ → Step) → ((bytes : List ℕ) → Going K (next bytes)) → Going K (of_type ty next)
  of_known_type (Some bytes) next h = h bytes
  of_known_type None next h = tt

  pub popped_vector : (c : Config) (next : List ℕ → Value → Config → Step) →
      ((ty : List ℕ) (v : Value) (rest : List Value) → Going K (next ty v (record c { refs = rest }))) → Going K (pop_vector c next)
  popped_vector c next h =
      popped_ref c (λ v d. of_type (type_of d.store.held.objects v) (λ ty. next ty v d))
      (λ v rest. of_known_type (type_of c.store.held.objects v) (λ ty. next ty v (record c { refs = rest })) (λ ty. h ty v rest))

  of_unit : (v : Value) (next : UnitView → Option ℕ → Step) → ((of : UnitView) (scope : Option ℕ) → Going K (next of scope)) → Going K (unit_called v next)
  of_unit (Procedure (as_compiled of) scope) next h = h of scope
  of_unit v next h = tt

  pub popped_procedure : (c : Config) (next : UnitView → Option ℕ → Config → Step) →
      ((of : UnitView) (scope : Option ℕ) (rest : List Value) → Going K (next of scope (record c { refs = rest }))) → Going K (pop_procedure c next)
  popped_procedure c next h =
      popped_ref c (λ v d. unit_called v (λ of scope. next of scope d))
      (λ v rest. of_unit v (λ of scope. next of scope (record c { refs = rest })) (λ of scope. h of scope rest))

  pub popped_nums : (n : ℕ) (zs : List ℤ) (c : Config) (next : List ℤ → Config → Step) →
      ((ys rest : List ℤ) → Going K (next ys (record c { nums = rest }))) → Going K (pop_nums n zs c next)
  popped_nums zero zs c next h = h zs c.nums
  popped_nums (suc n) zs c next h =
      popped_num c (λ z d. pop_nums n (z ∷ zs) d next) (λ z rest. popped_nums n (z ∷ zs) (record c { nums = rest }) next h)

  pub popped_refs : (n : ℕ) (vs : List Value) (c : Config) (next : List Value → Config → Step) →
      ((ws rest : List Value) → Going K (next ws (record c { refs = rest }))) → Going K (pop_refs n vs c next)
  popped_refs zero vs c next h = h vs c.refs
  popped_refs (suc n) vs c next h =
      popped_ref c (λ v d. pop_refs n (v ∷ vs) d next) (λ v rest. popped_refs n (v ∷ vs) (record c { refs = rest }) next h)

  pub popped_fields : (forms : List Form) (values : List Value) (c : Config) (next : List Value → Config → Step) →
      ((ws : List Value) (nums : List ℤ) (refs : List Value) → Going K (next ws (record c { nums = nums; refs = refs }))) → Going K (pop_fields forms values c next)
  popped_fields [] values c next h = h values c.nums c.refs
  popped_fields (form.Reference ∷ forms) values c next h =
      popped_ref c (λ v d. pop_fields forms (v ∷ values) d next)
      (λ v rest. popped_fields forms (v ∷ values) (record c { refs = rest }) next h)
  popped_fields (form.Number ∷ forms) values c next h =
      popped_num c (λ z d. pop_fields forms (kept_as (Some form.Number) (Num z) ∷ values) d next)
      (λ z rest. popped_fields forms (kept_as (Some form.Number) (Num z) ∷ values) (record c { nums = rest }) next h)
  popped_fields (form.Flag ∷ forms) values c next h =
      popped_num c (λ z d. pop_fields forms (kept_as (Some form.Flag) (Num z) ∷ values) d next)
      (λ z rest. popped_fields forms (kept_as (Some form.Flag) (Num z) ∷ values) (record c { nums = rest }) next h)

  of_constant : (constant : Option ConstantView) (next : List ℕ → Step) → ((bytes : List ℕ) → Going K (next bytes)) → Going K (text_in constant next)
  of_constant (Some (text bytes)) next h = h bytes
  of_constant (Some (literal code)) next h = tt
  of_constant None next h = tt

  pub by_text : (k : ℕ) (c : Config) (next : List ℕ → Step) → ((bytes : List ℕ) → Going K (next bytes)) → Going K (with_text k c next)
  by_text k c next h = of_constant (constant_at (constants_in c.unit) k) next h

  pub of_yield : {A : Type 0} (Q : A → Type 0) (line : Line) (a : Attempt A) (next : A → Step) → Yielding Q a → ((x : A) → Q x → Going K (next x)) →
      Going K (attempted line a next)
  of_yield Q line (Yields x) next q h = h x q
  of_yield Q line (Fails trap) next q h = tt

  pub of_attempt : {A : Type 0} (line : Line) (a : Attempt A) (next : A → Step) → ((x : A) → Going K (next x)) → Going K (attempted line a next)
  of_attempt line (Yields x) next h = h x
  of_attempt line (Fails trap) next h = tt

  pub of_number : (f : Option Form) (s : Step) → Going K s → Going K (when_number f s)
  of_number (Some form.Number) s h = h
  of_number (Some form.Flag) s h = h
  of_number (Some form.Reference) s h = tt
  of_number None s h = tt

  pub of_reference : (f : Option Form) (s : Step) → Going K s → Going K (when_reference f s)
  of_reference (Some form.Reference) s h = h
  of_reference (Some form.Number) s h = tt
  of_reference (Some form.Flag) s h = tt
  of_reference None s h = tt

  pub in_scope : (found : Option Object) (next : List ℕ → Option ℕ → Step) → ((of : List ℕ) (parent : Option ℕ) → Going K (next of parent)) →
      Going K (of_scope found next)
  in_scope (Some (Scope of parent names)) next h = h of parent
  in_scope found next h = tt

  pub levels_out : (up : ℕ) (c : Config) (next : List ℕ → Step) → ((of : List ℕ) → Going K (next of)) → Going K (at_level up c next)
  levels_out up c next h = in_scope (scope_at c.store.held.objects (scope_out c.store.held.objects c.scope up)) (λ of parent. next of) (λ of parent. h of)
