-- Bodies that are called answer: by induction on the turns that may be left.
use Rattle.std.proofs.Common.{◌≡◌, ℕ, suc, ◌+◌, pos, Bool, true, false, List, [], ◌∷◌, ◌++◌, length, Option, Some, None, refl, sym, ap, ◌∙◌, subst, append_assoc, length-append}
use Rattle.std.specs.Prelude.{get_or, not, if◌then◌else◌}
use Rattle.ps_meaning.specs.ps_base.TyView.{TyView, TyViews}
use Rattle.ps_meaning.specs.ps_base.TyView as types
use Rattle.ps_meaning.specs.ps_program.Node.{Param, Node, BodyNode, body}
use Rattle.ps_type_text.specs.Texts.{Field}
use Rattle.ps_meaning.specs.ps_typing.Placing.{is_number}
use Rattle.ps_meaning.specs.ps_typing.WellTyped.{Env, Free, Local, next_slot, behind_one, types_of_params, Takes, IsTyped, IsBody}
use Rattle.ps_meaning.specs.ps_typing.WellTyped as typed
use Rattle.ps_heap.specs.Values.{Value, Num, Nil}
use Rattle.ps_heap.specs.Objects.{Heap}
use Rattle.ps_meaning.specs.Meaning.{Frame, State, Outcome, Value_is, Ends, local_of}
use Rattle.ps_meaning.specs.Frames.{arguments_on, frame_of_call, keep, keep_all}
use Rattle.ps_meaning.specs.Evaluation.{Context, eval}
use Rattle.ps_meaning.specs.Calls.{body_meant, call_within, context}
use Rattle.ps_soundness.specs.Running.{ArePlaces, RunsIn, BodyRuns}
use Rattle.ps_soundness.specs.Free.{AllBelow, AreBelow}
use Rattle.ps_soundness.specs.Shapes.{IsOf, AreScopes, type_of_body, AreLocals, ComesToInside, IsTypedHeld}
use Rattle.ps_soundness.proofs.Telling.{Told}
use Rattle.ps_soundness.proofs.Growing.{grows_not}
use Rattle.ps_soundness.proofs.Combining.{Comes, Sound, sound_then, sound_nothing, narrowed}
use Rattle.ps_soundness.proofs.Calling.{ValuesOf, values_kept, Answers}
use Rattle.ps_soundness.proofs.Declaring.{climbs_one, below_climbs, below_one, declare_kept}
use Rattle.ps_soundness.proofs.Within.{BodiesSound, bodies_answer}
use Rattle.ps_soundness.proofs.Clauses.{sound}
use Rattle.ps_soundness.proofs.Standings.{stand, over, by_rules, in_scopes}
use Rattle.ps_soundness.proofs.InScopes.{sound_opened}

-- The locals of a body lie below its free slots.
takes_below : {env last : Env} {free behind : Free} {params : List Param} → Takes env free params last behind → AllBelow env.locals free →
    AllBelow last.locals behind
takes_below typed.Takes.no_more below = below
takes_below (typed.Takes.as_local {env = env} {free = free} {slot = slot} {ty = ty} e rest) below =
    takes_below rest (below_one free (is_number ty) slot e, below_climbs free (behind_one ty free) env.locals (climbs_one free (is_number ty)) below)
takes_below (typed.Takes.as_kept {env = env} {free = free} {ty = ty} name scopes is rest) below =
    takes_below rest (below_climbs free (behind_one ty free) env.locals (climbs_one free (is_number ty)) below)

-- Arguments that a scope keeps are copied there.
keep_sound : (told : Told) (wholes : List (List Field)) {env last : Env} {free behind : Free} {params : List Param} → Takes env free params last behind →
    (locals : List Local) (args : List Value) → ArePlaces wholes params → (heap : Heap) → ValuesOf by_rules heap (types_of_params params) args →
    Sound in_scopes heap (record { locals = locals; wholes = Some wholes; scopes = env.scopes })
    (record { locals = locals; wholes = Some wholes; scopes = last.scopes }) types.Void (keep_all params args)
unfolding keep_all keep
keep_sound told wholes typed.Takes.no_more locals args places heap are = sound_nothing in_scopes
keep_sound told wholes (typed.Takes.as_local e rest) locals [] places heap are = absurd are
keep_sound told wholes (typed.Takes.as_local {ty = ty} {rest = params} e rest) locals (arg ∷ args) places heap are =
    sound_then in_scopes (sound_nothing in_scopes) (λ new u g is.
    keep_sound told wholes rest locals args places.1 new (values_kept by_rules heap new g (types_of_params params) args are.1))
keep_sound told wholes (typed.Takes.as_kept name scopes is rest) locals [] places heap are = absurd are
keep_sound told wholes (typed.Takes.as_kept {position = position} {ty = ty} {rest = params} name scopes is rest) locals (arg ∷ args) places heap are =
    sound_then in_scopes (declare_kept told wholes position name ty arg scopes is places.0 are.0) (λ new u g done.
    keep_sound told wholes rest locals args places.1 new (values_kept by_rules heap new g (types_of_params params) args are.1))

-- Arguments stand in the locals of their stacks, in their order.
behind_front : (front : List Value) (v : Value) (rest : List Value) (other : Value) → get_or (front ++ v ∷ rest) (length front) other ≡ v
behind_front [] v rest other = refl
behind_front (x ∷ front) v rest other = behind_front front v rest other

one_longer : (front : List Value) (v : Value) (n : ℕ) → length front ≡ n → length (front ++ v ∷ []) ≡ n + 1
one_longer front v n e = length-append front (v ∷ []) ∙ ap (λ (k : ℕ). k + 1) e

-- the rows of a frame, of which so much has been passed, and the rest is this
pub record Rows (frame : Frame) (free : Free) (nums_left refs_left : List Value) : Type 0 where
  pub nums_passed : List Value
  pub refs_passed : List Value
  pub nums_long : length nums_passed ≡ free.nums
  pub refs_long : length refs_passed ≡ free.refs
  pub nums_are : (slot : ℕ) → frame.nums slot ≡ get_or (nums_passed ++ nums_left) slot (Num (pos 0))
  pub refs_are : (slot : ℕ) → frame.refs slot ≡ get_or (refs_passed ++ refs_left) slot Nil

passed : (row : ℕ → Value) (front : List Value) (v : Value) (rest : List Value) (other : Value) →
    ((slot : ℕ) → row slot ≡ get_or (front ++ v ∷ rest) slot other) → (slot : ℕ) → row slot ≡ get_or ((front ++ v ∷ []) ++ rest) slot other
passed row front v rest other h slot = h slot ∙ ap (λ (vs : List Value). get_or vs slot other) (sym (append_assoc front (v ∷ []) rest))

pub rows_next : (number : Bool) (frame : Frame) (free : Free) (v : Value) (nums refs : List Value) →
    Rows frame free (if number then v ∷ nums else nums) (if not number then v ∷ refs else refs) →
    Rows frame (if number then record free { nums = free.nums + 1 } else record free { refs = free.refs + 1 }) nums refs
    × ((if number then frame.nums (if number then free.nums else free.refs) else frame.refs (if number then free.nums else free.refs)) ≡ v)
rows_next true frame free v nums refs h = (
  record {
    nums_passed = h.nums_passed ++ v ∷ [];
    refs_passed = h.refs_passed;
    nums_long = one_longer h.nums_passed v free.nums h.nums_long;
    refs_long = h.refs_long;
    nums_are = passed frame.nums h.nums_passed v nums (Num (pos 0)) h.nums_are;
    refs_are = h.refs_are;
  },
  subst (λ (n : ℕ). frame.nums n ≡ v) h.nums_long (h.nums_are (length h.nums_passed) ∙ behind_front h.nums_passed v nums (Num (pos 0))),
)
rows_next false frame free v nums refs h = (
  record {
    nums_passed = h.nums_passed;
    refs_passed = h.refs_passed ++ v ∷ [];
    nums_long = h.nums_long;
    refs_long = one_longer h.refs_passed v free.refs h.refs_long;
    nums_are = h.nums_are;
    refs_are = passed frame.refs h.refs_passed v refs Nil h.refs_are;
  },
  subst (λ (n : ℕ). frame.refs n ≡ v) h.refs_long (h.refs_are (length h.refs_passed) ∙ behind_front h.refs_passed v refs Nil),
)

locals_handed : {env last : Env} {free behind : Free} {params : List Param} (heap : Heap) (frame : Frame) (args : List Value) →
    Takes env free params last behind →
    Rows frame free (arguments_on true params args) (arguments_on false params args) → ValuesOf by_rules heap (types_of_params params) args →
    AreLocals heap frame env.locals → AreLocals heap frame last.locals
unfolding arguments_on
locals_handed heap frame args typed.Takes.no_more rows are known = known
locals_handed heap frame [] (typed.Takes.as_local e rest) rows are known = absurd are
locals_handed heap frame (arg ∷ args) (typed.Takes.as_local {free = free} {slot = slot} {ty = ty} {rest = params} e rest) rows are known =
    let next = rows_next (is_number ty) frame free arg (arguments_on true params args) (arguments_on false params args) rows in
    let here : local_of frame ty slot ≡ arg = ap (local_of frame ty) e ∙ next.1 in
    locals_handed heap frame args rest next.0 are.1 (subst (IsOf heap ty) (sym here) are.0, known)
locals_handed heap frame [] (typed.Takes.as_kept name scopes is rest) rows are known = absurd are
locals_handed heap frame (arg ∷ args) (typed.Takes.as_kept {free = free} {ty = ty} {rest = params} name scopes is rest) rows are known =
    let next = rows_next (is_number ty) frame free arg (arguments_on true params args) (arguments_on false params args) rows in
    locals_handed heap frame args rest next.0 are.1 known

-- what a body takes and gives
abbrev pub taken : BodyNode → TyViews
taken (body params gives tree text line) = types_of_params params

abbrev pub given : BodyNode → TyView
given (body params gives tree text line) = gives

pub taken_is : (of : BodyNode) (ps : TyViews) (g : TyView) → types.Proc ps g ≡ type_of_body of → ps ≡ taken of
taken_is (body params gives tree text line) ps g e = cc

pub given_is : (of : BodyNode) (ps : TyViews) (g : TyView) → types.Proc ps g ≡ type_of_body of → g ≡ given of
given_is (body params gives tree text line) ps g e = cc

-- What is known of a body that is called: the locals where its clause begins, and what it returns.
record Called (of : BodyNode) (wholes scopes : List (List Field)) : Type 0 where
  locals : List Local
  are_locals : (heap : Heap) (scope : Option ℕ) (args : List Value) → ValuesOf by_rules heap (taken of) args →
      AreLocals heap (frame_of_call of scope args) locals
  sounds : (c : Context) → Answers in_scopes c.call → (heap : Heap) (args : List Value) → ValuesOf by_rules heap (taken of) args →
      Sound in_scopes heap (record { locals = locals; wholes = Some wholes; scopes = scopes }) (over []) (given of) (body_meant c of args)

of_call : (of : BodyNode) (wholes scopes : List (List Field)) (told : Told) → IsBody scopes of → BodyRuns wholes of → Called of wholes scopes
unfolding body_meant frame_of_call
of_call (body params gives tree None line) wholes scopes told (typed.of_params {env = env} {free = free} typed.unscoped takes ended t) runs =
    let below = takes_below takes tt in
    record {
      locals = env.locals;
      are_locals = λ heap scope args are. locals_handed heap (frame_of_call (body params gives tree None line) scope args) args takes
          (record { nums_passed = []; refs_passed = []; nums_long = refl; refs_long = refl; nums_are = λ slot. refl; refs_are = λ slot. refl })
          are tt;
      sounds = λ c calls heap args are.
          sound_then in_scopes (keep_sound told wholes takes env.locals args runs.0 heap are)
          (λ new u k done. narrowed in_scopes (λ now frame standing. (tt, tt)) (sound told (Some wholes) t below runs.1 c calls new));
    }
of_call (body params gives tree (Some text) line) wholes scopes told (typed.of_params {env = env} {free = free} typed.scoped takes ended t) runs =
    let below = takes_below takes tt in
    let own = runs.0 in
    record {
      locals = env.locals;
      are_locals = λ heap scope args are. locals_handed heap (frame_of_call (body params gives tree (Some text) line) scope args) args takes
          (record { nums_passed = []; refs_passed = []; nums_long = refl; refs_long = refl; nums_are = λ slot. refl; refs_are = λ slot. refl })
          are tt;
      sounds = λ c calls heap args are. narrowed in_scopes (λ now frame standing. (tt, tt)) (sound_opened text own (λ opened grown.
          sound_then in_scopes (keep_sound told (own.fields ∷ wholes) takes env.locals args runs.1 opened
          (values_kept by_rules heap opened grown (types_of_params params) args are))
          (λ new u k done. sound told (Some (own.fields ∷ wholes)) t below runs.2 c calls new)));
    }

pub scope_of_call : (of : BodyNode) (scope : Option ℕ) (args : List Value) → (frame_of_call of scope args).scope ≡ scope
unfolding frame_of_call
scope_of_call (body params gives tree text line) scope args = refl

within_answers_as : (told : Told) → BodiesSound in_scopes
within_answers_as told c calls of scope args ps g heap is are =
    let called = of_call of is.wholes is.scopes told is.typed is.runs in
    let args_are = subst (λ (tys : TyViews). ValuesOf by_rules heap tys args) (taken_is of ps g is.ty_is) are in
    record {
      known = record { locals = called.locals; wholes = Some is.wholes; scopes = is.scopes };
      stands = (
        called.are_locals heap scope args args_are,
        subst (λ (s : Option ℕ). AreScopes heap s is.wholes is.scopes) (sym (scope_of_call of scope args)) is.stand,
      );
      sounds = λ new grown.
          subst (λ (ty : TyView). Sound in_scopes new (record { locals = called.locals; wholes = Some is.wholes; scopes = is.scopes }) (over []) ty (body_meant c of args))
          (sym (given_is of ps g is.ty_is)) (called.sounds c calls new args (values_kept by_rules heap new grown (taken of) args args_are));
    }

pub within_answers : (told : Told) (n depth : ℕ) → Answers in_scopes (call_within n depth)
within_answers told n depth = bodies_answer in_scopes (within_answers_as told) n depth

comes_inside : (before : State) (wholes : List (List Field)) (env : Env) (ty : TyView) (o : Outcome) → Comes in_scopes before (stand (Some wholes) env) ty o →
    ComesToInside before.store.held.objects wholes env ty o
comes_inside before wholes env ty (Value_is v frame state) h =
    (record { grows = h.grows; typed = h.typed; locals = h.are.0; value = h.value }, h.are.1)
comes_inside before wholes env ty (Ends e state) h = (h.0, h.1)

pub comes_to_inside : (told : Told) (turns depth : ℕ) (wholes : List (List Field)) (env : Env) (free behind : Free) (clause : Node) (ty : TyView)
    (frame : Frame) (state : State) →
    IsTyped env free clause ty behind → RunsIn (Some wholes) clause → AreBelow env free → IsTypedHeld state.store.held →
    AreLocals state.store.held.objects frame env.locals → AreScopes state.store.held.objects frame.scope wholes env.scopes →
    ComesToInside state.store.held.objects wholes env ty (eval (context turns depth) clause frame state)
comes_to_inside told turns depth wholes env free behind clause ty frame state of runs below typed_heap are scopes =
    let heap = state.store.held.objects in
    let c = context turns depth in
    comes_inside state wholes env ty (eval c clause frame state)
    ((sound told (Some wholes) of below runs c (within_answers told turns (suc depth)) heap).runs frame state (grows_not heap) typed_heap (are, scopes))
