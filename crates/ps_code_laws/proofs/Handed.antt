-- The arguments of a body that is called: they stand in the first locals of their stacks, in their order.
use Rattle.std.proofs.Common.{◌≡◌, ℕ, ◌+◌, pos, Bool, true, false, List, [], ◌∷◌, ◌++◌, length, Option, refl, sym, ap, ◌∙◌, subst, append_assoc, length-append}
use Rattle.std.specs.Prelude.{get_or, not, if◌then◌else◌}
use Rattle.ps_gen.specs.ps_base.TyView.{TyView}
use Rattle.ps_gen.specs.ps_program.declared.place.Place.TheVariants.{Kept}
use Rattle.ps_gen.specs.ps_program.Node.{Param, body}
use Rattle.ps_typing_laws.specs.ps_typing.Placing.{is_number}
use Rattle.ps_typing_laws.specs.ps_typing.WellTyped.{types_of_params}
use Rattle.ps_stepping.specs.ps_heap.Values.{Value, Num, Nil}
use Rattle.ps_stepping.specs.ps_heap.Objects.{Heap}
use Rattle.ps_stepping.specs.ps_meaning.Meaning.{Frame, local_of}
use Rattle.ps_stepping.specs.ps_meaning.Frames.{arguments_on, frame_of_call}
use Rattle.ps_code_laws.specs.Fitting.{IsOf, AreLocals}
use Rattle.ps_soundness.proofs.Calling.{ValuesOf}
use Rattle.heap_fit.specs.Bodies.{InScope, Declares, Takes}
use Rattle.heap_fit.specs.Bodies as fit
use Rattle.fit_soundness.proofs.Levels.{fits}

behind_front : (front : List Value) (v : Value) (rest : List Value) (other : Value) → get_or (front ++ v ∷ rest) (length front) other ≡ v
behind_front [] v rest other = refl
behind_front (x ∷ front) v rest other = behind_front front v rest other

one_longer : (front : List Value) (v : Value) (n : ℕ) → length front ≡ n → length (front ++ v ∷ []) ≡ n + 1
one_longer front v n e = length-append front (v ∷ []) ∙ ap (λ (k : ℕ). k + 1) e

-- the rows of a frame, of which as much has been passed as there are slots that are taken, and the rest is this
pub record Passed (nums refs : ℕ) (nums_left refs_left : List Value) (frame : Frame) : Type 0 where
  nums_passed : List Value
  refs_passed : List Value
  nums_long : length nums_passed ≡ nums
  refs_long : length refs_passed ≡ refs
  nums_are : (slot : ℕ) → frame.nums slot ≡ get_or (nums_passed ++ nums_left) slot (Num (pos 0))
  refs_are : (slot : ℕ) → frame.refs slot ≡ get_or (refs_passed ++ refs_left) slot Nil

one_passed : (row : ℕ → Value) (front : List Value) (v : Value) (rest : List Value) (other : Value) →
    ((slot : ℕ) → row slot ≡ get_or (front ++ v ∷ rest) slot other) → (slot : ℕ) → row slot ≡ get_or ((front ++ v ∷ []) ++ rest) slot other
one_passed row front v rest other h slot = h slot ∙ ap (λ (vs : List Value). get_or vs slot other) (sym (append_assoc front (v ∷ []) rest))

-- the next argument stands in the next slot of its stack
pub passed_next : (number : Bool) (frame : Frame) (nums refs : ℕ) (v : Value) (left right : List Value) →
    Passed nums refs (if number then v ∷ left else left) (if not number then v ∷ right else right) frame →
    Passed (if number then nums + 1 else nums) (if number then refs else refs + 1) left right frame
    × ((if number then frame.nums (if number then nums else refs) else frame.refs (if number then nums else refs)) ≡ v)
passed_next true frame nums refs v left right h = (
  record {
    nums_passed = h.nums_passed ++ v ∷ [];
    refs_passed = h.refs_passed;
    nums_long = one_longer h.nums_passed v nums h.nums_long;
    refs_long = h.refs_long;
    nums_are = one_passed frame.nums h.nums_passed v left (Num (pos 0)) h.nums_are;
    refs_are = h.refs_are;
  },
  subst (λ (n : ℕ). frame.nums n ≡ v) h.nums_long (h.nums_are (length h.nums_passed) ∙ behind_front h.nums_passed v left (Num (pos 0))),
)
passed_next false frame nums refs v left right h = (
  record {
    nums_passed = h.nums_passed;
    refs_passed = h.refs_passed ++ v ∷ [];
    nums_long = h.nums_long;
    refs_long = one_longer h.refs_passed v refs h.refs_long;
    nums_are = h.nums_are;
    refs_are = one_passed frame.refs h.refs_passed v right Nil h.refs_are;
  },
  subst (λ (n : ℕ). frame.refs n ≡ v) h.refs_long (h.refs_are (length h.refs_passed) ∙ behind_front h.refs_passed v right Nil),
)

-- in another scope the rows are the same
pub passed_in : {nums refs : ℕ} {left right : List Value} (frame : Frame) (scope : _) → Passed nums refs left right frame →
    Passed nums refs left right (record frame { scope = scope })
passed_in frame scope h = record {
  nums_passed = h.nums_passed;
  refs_passed = h.refs_passed;
  nums_long = h.nums_long;
  refs_long = h.refs_long;
  nums_are = h.nums_are;
  refs_are = h.refs_are;
}

-- where a body is called, none has been passed
pub none_passed : (params : List Param) (gives : TyView) (tree : _) (text : _) (line : _) (scope : _) (args : List Value) →
    Passed 0 0 (arguments_on true params args) (arguments_on false params args)
    (frame_of_call (body params gives tree text line) scope args)
unfolding frame_of_call
none_passed params gives tree text line scope args =
    record { nums_passed = []; refs_passed = []; nums_long = refl; refs_long = refl; nums_are = λ slot. refl; refs_are = λ slot. refl }

-- a parameter that a scope keeps is no local
kept_known : {scope : Option (List ℕ)} {env own : InScope} {up position : ℕ} {ty : TyView} → Declares scope env (Kept up position) ty own → (heap : Heap)
    (frame : Frame) → AreLocals heap frame env.locals → AreLocals heap frame own.locals
kept_known (fit.as_kept level around is at) heap frame h = h

-- the locals in scope have the values of their types
pub locals_handed : {scope : Option (List ℕ)} {env last : InScope} {nums refs : ℕ} {params : List Param} (heap : Heap) (frame : Frame) (args : List Value) →
    Takes scope env nums refs params last → Passed nums refs (arguments_on true params args) (arguments_on false params args) frame →
    ValuesOf fits heap (types_of_params params) args → AreLocals heap frame env.locals → AreLocals heap frame last.locals
unfolding arguments_on
locals_handed heap frame args fit.Takes.no_more rows are known = known
locals_handed heap frame [] (fit.Takes.as_local e rest) rows are known = absurd are
locals_handed heap frame (arg ∷ args) (fit.Takes.as_local {nums = nums} {refs = refs} {slot = slot} {ty = ty} {rest = params} e rest) rows are known =
    let next = passed_next (is_number ty) frame nums refs arg (arguments_on true params args) (arguments_on false params args) rows in
    let here : local_of frame ty slot ≡ arg = ap (local_of frame ty) e ∙ next.1 in
    locals_handed heap frame args rest next.0 are.1 (subst (IsOf heap ty) (sym here) are.0, known)
locals_handed heap frame [] (fit.Takes.as_kept declares rest) rows are known = absurd are
locals_handed heap frame (arg ∷ args) (fit.Takes.as_kept {nums = nums} {refs = refs} {ty = ty} {rest = params} declares rest) rows are known =
    let next = passed_next (is_number ty) frame nums refs arg (arguments_on true params args) (arguments_on false params args) rows in
    locals_handed heap frame args rest next.0 are.1 (kept_known declares heap frame known)
