-- The arguments of a call: the words that their clauses leave on the two stacks, and what the machine takes of them for the body that is called.
use Rattle.std.proofs.Common.{◌≡◌, ℕ, suc, ◌+◌, ℤ, pos, List, [], ◌∷◌, ◌++◌, map, true, false, refl, ap, ◌∙◌, arith}
use Rattle.std.specs.Prelude.{get_or, if◌then◌else◌}
use Rattle.std.specs.List.{AllByRecursion}
use Rattle.std.proofs.Math.ListN.{get_or-map}
use Rattle.ps_gen.specs.ps_base.TyView.{TyView, TyViews}
use Rattle.ps_gen.specs.ps_base.TyView as types
use Rattle.ps_gen.specs.ps_program.Node.{Param}
use Rattle.ps_type_text.specs.Texts.{Field}
use Rattle.ps_typing_laws.specs.ps_typing.Placing.{is_number}
use Rattle.ps_typing_laws.specs.ps_typing.Locals.{one_on, taken_by_params}
use Rattle.ps_gen.specs.ps_emitter.Choices as choice
use Rattle.ps_soundness.specs.Valued.{AllValued}
use Rattle.ps_code_laws.specs.Fitting.{AreOf}
use Rattle.ps_typing_laws.specs.ps_typing.WellTyped.{types_of_params}
use Rattle.ps_stepping.specs.ps_heap.Values.{Value, Num, Nil, word_of}
use Rattle.ps_stepping.specs.ps_heap.Objects.{Heap}
use Rattle.ps_stepping.specs.ps_meaning.Meaning.{Frame, Store}
use Rattle.ps_stepping.specs.ps_meaning.Frames.{stands_on, arguments_on}
use Rattle.ps_stepping.specs.Config.{Config}
use Rattle.ps_stepping.specs.Machine.{Step}
use Rattle.ps_stepping.specs.Objects.{pop_nums, pop_refs}
use Rattle.ps_soundness.proofs.Calling.{ValuesOf}
use Rattle.ps_code_laws.specs.Compiled.{compiled, compiled_all}
use Rattle.ps_code_laws.specs.Meets.{nums_left, refs_left}
use Rattle.ps_code_laws.proofs.Clauses.{int, bool, str, pntr, vector, proc, Kind, of_num, of_ref, fields_by, kind_of}
use Rattle.ps_code_laws.proofs.Doing.{Way, place}
use Rattle.ps_code_laws.proofs.RowForms.{pushed_nums, pushed_refs, last_num, last_ref}
use Rattle.fit_soundness.proofs.Levels.{fits}

-- the types of parameters as those of fields, by which the words of a row go
abbrev pub fields_of : List Param → List Field
fields_of params = fields_by (types_of_params params)

abbrev pub KindsAre : List Param → Type 0
KindsAre params = AllByRecursion (λ (param : Param). Kind param.ty) params

pub kinds_are : (params : List Param) → AllValued (types_of_params params) → KindsAre params
kinds_are [] h = tt
kinds_are (param ∷ params) h = (kind_of param.ty h.0, kinds_are params h.1)

-- arguments of the types of fields are those of the types
pub values_by : (heap : Heap) (tys : TyViews) (vs : List Value) → AreOf heap (fields_by tys) vs → ValuesOf fits heap tys vs
values_by heap types.none [] h = tt
values_by heap types.none (v ∷ vs) h = absurd h
values_by heap (types.more ty rest) [] h = absurd h
values_by heap (types.more ty rest) (v ∷ vs) h = (h.0, values_by heap rest vs h.1)

-- how many arguments are references
pub references_are : (params : List Param) → choice.references (types_of_params params) ≡ taken_by_params false params
references_are [] = refl
references_are (param ∷ params) = ap (λ (n : ℕ). (if is_number param.ty then 0 else 1) + n) (references_are params)

module _ (w : Way) where
  one_ref : (m : ℕ) (v : Value) (rest : List Value) (pushed : List Value → List Value) (k : ℕ) (us : List Value) (nums : List ℤ) (refs : List Value)
      (f : Frame) (store : Store) (next : List Value → Config → Step) →
      ((vs under : List Value) (then_so : List Value → Config → Step) →
      pop_refs m vs (place w k nums (pushed under) f store) then_so ≡ then_so (compiled_all rest ++ vs) (place w k nums under f store)) →
      pop_refs (1 + m) us (place w k nums (pushed (compiled v ∷ refs)) f store) next
      ≡ next (compiled_all (v ∷ rest) ++ us) (place w k nums refs f store)
  one_ref m v rest pushed k us nums refs f store next h =
      let one_more : 1 + m ≡ suc m = omega arith in
      ap (λ (n : ℕ). pop_refs n us (place w k nums (pushed (compiled v ∷ refs)) f store) next) one_more
      ∙ last_ref w k m us nums (pushed (compiled v ∷ refs)) f store next
      ∙ h us (compiled v ∷ refs) (λ ws d. pop_refs 1 ws d next)

  no_ref : (m : ℕ) (rest : List Value) (pushed : List Value → List Value) (k : ℕ) (us : List Value) (nums : List ℤ) (refs : List Value) (f : Frame)
      (store : Store) (next : List Value → Config → Step) →
      ((vs under : List Value) (then_so : List Value → Config → Step) →
      pop_refs m vs (place w k nums (pushed under) f store) then_so ≡ then_so (compiled_all rest ++ vs) (place w k nums under f store)) →
      pop_refs (0 + m) us (place w k nums (pushed refs) f store) next ≡ next (compiled_all rest ++ us) (place w k nums refs f store)
  no_ref m rest pushed k us nums refs f store next h =
      let same : 0 + m ≡ m = omega arith in
      ap (λ (n : ℕ). pop_refs n us (place w k nums (pushed refs) f store) next) same ∙ h us refs next

  ref_front : {ty : TyView} → Kind ty → (m : ℕ) (v : Value) (rest : List Value) (pushed : List Value → List Value) (k : ℕ) (us : List Value)
      (nums : List ℤ) (refs : List Value) (f : Frame) (store : Store) (next : List Value → Config → Step) →
      ((vs under : List Value) (then_so : List Value → Config → Step) →
      pop_refs m vs (place w k nums (pushed under) f store) then_so ≡ then_so (compiled_all rest ++ vs) (place w k nums under f store)) →
      pop_refs (one_on false ty + m) us (place w k nums (pushed (refs_left ty v ++ refs)) f store) next
      ≡ next (compiled_all (if stands_on false ty then v ∷ rest else rest) ++ us) (place w k nums refs f store)
  ref_front (of_num int) m v rest pushed k us nums refs f store next h = no_ref m rest pushed k us nums refs f store next h
  ref_front (of_num bool) m v rest pushed k us nums refs f store next h = no_ref m rest pushed k us nums refs f store next h
  ref_front (of_ref str) m v rest pushed k us nums refs f store next h = one_ref m v rest pushed k us nums refs f store next h
  ref_front (of_ref pntr) m v rest pushed k us nums refs f store next h = one_ref m v rest pushed k us nums refs f store next h
  ref_front (of_ref vector) m v rest pushed k us nums refs f store next h = one_ref m v rest pushed k us nums refs f store next h
  ref_front (of_ref proc) m v rest pushed k us nums refs f store next h = one_ref m v rest pushed k us nums refs f store next h

  -- the arguments that are references, compiled
  pub refs_popped : (heap : Heap) (params : List Param) → KindsAre params → (k : ℕ) (vs : List Value) → ValuesOf fits heap (types_of_params params) vs →
      (us : List Value) (nums : List ℤ) (refs : List Value) (f : Frame) (store : Store) (next : List Value → Config → Step) →
      pop_refs (taken_by_params false params) us (place w k nums (pushed_refs (fields_of params) vs refs) f store) next
      ≡ next (compiled_all (arguments_on false params vs) ++ us) (place w k nums refs f store)
  unfolding arguments_on
  refs_popped heap [] kinds k [] are us nums refs f store next = refl
  refs_popped heap [] kinds k (v ∷ vs) are us nums refs f store next = absurd are
  refs_popped heap (param ∷ params) kinds k [] are us nums refs f store next = absurd are
  refs_popped heap (param ∷ params) kinds k (v ∷ vs) are us nums refs f store next =
      ref_front kinds.0 (taken_by_params false params) v (arguments_on false params vs) (λ under. pushed_refs (fields_of params) vs under) k us nums refs
      f store next (λ ws under then_so. refs_popped heap params kinds.1 k vs are.1 ws nums under f store then_so)

  one_num : (m : ℕ) (v : Value) (rest : List Value) (pushed : List ℤ → List ℤ) (k : ℕ) (zs nums : List ℤ) (refs : List Value) (f : Frame)
      (store : Store) (next : List ℤ → Config → Step) →
      ((ws under : List ℤ) (then_so : List ℤ → Config → Step) →
      pop_nums m ws (place w k (pushed under) refs f store) then_so ≡ then_so (map word_of rest ++ ws) (place w k under refs f store)) →
      pop_nums (1 + m) zs (place w k (pushed (word_of v ∷ nums)) refs f store) next ≡ next (map word_of (v ∷ rest) ++ zs) (place w k nums refs f store)
  one_num m v rest pushed k zs nums refs f store next h =
      let one_more : 1 + m ≡ suc m = omega arith in
      ap (λ (n : ℕ). pop_nums n zs (place w k (pushed (word_of v ∷ nums)) refs f store) next) one_more
      ∙ last_num w k m zs (pushed (word_of v ∷ nums)) refs f store next
      ∙ h zs (word_of v ∷ nums) (λ ws d. pop_nums 1 ws d next)

  no_num : (m : ℕ) (rest : List Value) (pushed : List ℤ → List ℤ) (k : ℕ) (zs nums : List ℤ) (refs : List Value) (f : Frame) (store : Store)
      (next : List ℤ → Config → Step) →
      ((ws under : List ℤ) (then_so : List ℤ → Config → Step) →
      pop_nums m ws (place w k (pushed under) refs f store) then_so ≡ then_so (map word_of rest ++ ws) (place w k under refs f store)) →
      pop_nums (0 + m) zs (place w k (pushed nums) refs f store) next ≡ next (map word_of rest ++ zs) (place w k nums refs f store)
  no_num m rest pushed k zs nums refs f store next h =
      let same : 0 + m ≡ m = omega arith in
      ap (λ (n : ℕ). pop_nums n zs (place w k (pushed nums) refs f store) next) same ∙ h zs nums next

  num_front : {ty : TyView} → Kind ty → (m : ℕ) (v : Value) (rest : List Value) (pushed : List ℤ → List ℤ) (k : ℕ) (zs nums : List ℤ)
      (refs : List Value) (f : Frame) (store : Store) (next : List ℤ → Config → Step) →
      ((ws under : List ℤ) (then_so : List ℤ → Config → Step) →
      pop_nums m ws (place w k (pushed under) refs f store) then_so ≡ then_so (map word_of rest ++ ws) (place w k under refs f store)) →
      pop_nums (one_on true ty + m) zs (place w k (pushed (nums_left ty v ++ nums)) refs f store) next
      ≡ next (map word_of (if stands_on true ty then v ∷ rest else rest) ++ zs) (place w k nums refs f store)
  num_front (of_num int) m v rest pushed k zs nums refs f store next h = one_num m v rest pushed k zs nums refs f store next h
  num_front (of_num bool) m v rest pushed k zs nums refs f store next h = one_num m v rest pushed k zs nums refs f store next h
  num_front (of_ref str) m v rest pushed k zs nums refs f store next h = no_num m rest pushed k zs nums refs f store next h
  num_front (of_ref pntr) m v rest pushed k zs nums refs f store next h = no_num m rest pushed k zs nums refs f store next h
  num_front (of_ref vector) m v rest pushed k zs nums refs f store next h = no_num m rest pushed k zs nums refs f store next h
  num_front (of_ref proc) m v rest pushed k zs nums refs f store next h = no_num m rest pushed k zs nums refs f store next h

  -- the arguments that are numbers
  pub nums_popped : (heap : Heap) (params : List Param) → KindsAre params → (k : ℕ) (vs : List Value) → ValuesOf fits heap (types_of_params params) vs →
      (zs nums : List ℤ) (refs : List Value) (f : Frame) (store : Store) (next : List ℤ → Config → Step) →
      pop_nums (taken_by_params true params) zs (place w k (pushed_nums (fields_of params) vs nums) refs f store) next
      ≡ next (map word_of (arguments_on true params vs) ++ zs) (place w k nums refs f store)
  unfolding arguments_on
  nums_popped heap [] kinds k [] are zs nums refs f store next = refl
  nums_popped heap [] kinds k (v ∷ vs) are zs nums refs f store next = absurd are
  nums_popped heap (param ∷ params) kinds k [] are zs nums refs f store next = absurd are
  nums_popped heap (param ∷ params) kinds k (v ∷ vs) are zs nums refs f store next =
      num_front kinds.0 (taken_by_params true params) v (arguments_on true params vs) (λ under. pushed_nums (fields_of params) vs under) k zs nums refs
      f store next (λ ws under then_so. nums_popped heap params kinds.1 k vs are.1 ws under refs f store then_so)

-- The locals that the machine gives the body that is called are those of its frame.
pub num_locals : (params : List Param) (args : List Value) (slot : ℕ) →
    get_or (map word_of (arguments_on true params args)) slot (pos 0) ≡ word_of (get_or (arguments_on true params args) slot (Num (pos 0)))
num_locals params args slot = get_or-map word_of (arguments_on true params args) slot (Num (pos 0))

pub ref_locals : (params : List Param) (args : List Value) (slot : ℕ) →
    get_or (compiled_all (arguments_on false params args)) slot Nil ≡ compiled (get_or (arguments_on false params args) slot Nil)
ref_locals params args slot = get_or-map compiled (arguments_on false params args) slot Nil
