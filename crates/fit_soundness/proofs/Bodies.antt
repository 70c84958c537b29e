-- Fit bodies that are called answer.
use Rattle.std.proofs.Common.{◌≡◌, ℕ, suc, ◌+◌, Bool, true, false, List, [], ◌∷◌, ◌++◌, Option, Some, None, refl, sym, ap, ◌∙◌, subst, arith, if◌then◌else◌}
use Rattle.std.specs.Prelude.{not}
use Rattle.ps_heap.specs.ps_base.TyView.{TyView, TyViews}
use Rattle.ps_heap.specs.ps_base.TyView as types
use Rattle.ps_heap.specs.ps_base.declared.line.Line.{Line}
use Rattle.std.proofs.lemmas.List.{append_assoc}
use Rattle.ps_soundness.specs.ps_program.declared.place.Place.TheVariants.{Plain, Kept}
use Rattle.ps_soundness.specs.ps_program.Node.{Param, Node, BodyNode, body}
use Rattle.ps_soundness.specs.ps_typing.Placing.{is_number}
use Rattle.ps_soundness.specs.ps_typing.WellTyped.{Local, types_of_params}
use Rattle.ps_heap.specs.Values.{Value}
use Rattle.ps_heap.specs.Objects.{Heap}
use Rattle.ps_heap.specs.Held.{row}
use Rattle.ps_soundness.specs.ps_meaning.Meaning.{Frame, State, Outcome, Value_is, Ends, local_of}
use Rattle.ps_soundness.specs.ps_meaning.Frames.{stands_on, arguments_on, frame_of_call, keep, keep_all}
use Rattle.ps_soundness.specs.ps_meaning.Evaluation.{Context, eval}
use Rattle.ps_soundness.specs.ps_meaning.Calls.{body_meant, call_within, context}
use Rattle.ps_soundness.specs.Over.{IsOf, AreLocals, IsTypedHeld}
use Rattle.ps_soundness.specs.Valued.{AllValued}
use Rattle.ps_soundness.proofs.Rules.{valued_nonvoid}
use Rattle.ps_soundness.proofs.Telling.{Told}
use Rattle.ps_soundness.proofs.Growing.{grows_not, grows_then}
use Rattle.ps_soundness.proofs.Combining.{Comes, Sound, sound_then, sound_nothing, narrowed}
use Rattle.ps_soundness.proofs.Calling.{ValuesOf, values_kept, Answers}
use Rattle.ps_soundness.proofs.Within.{BodiesSound, IsBodySound, bodies_answer}
use Rattle.ps_soundness.proofs.Bodies.{Rows, rows_next, taken, given, taken_is, given_is}
use Rattle.heap_fit.specs.Slots.{from, slot_on, params_on}
use Rattle.heap_fit.specs.Bodies.{Level, InScope, Declares, Takes, IsFit, IsFitBody, HasSlots, AreApart}
use Rattle.heap_fit.specs.Bodies as fit
use Rattle.fit_soundness.specs.Levels.{IsProcedure, HasRoom, AreLevelsAt, ComesToFit, fitting}
use Rattle.fit_soundness.specs.Laws.{AreValues, AnswersFit}
use Rattle.fit_soundness.proofs.Rooms.{Taken, joint, room_right, room_as, room_named}
use Rattle.fit_soundness.proofs.Levels.{fits}
use Rattle.fit_soundness.proofs.Standings.{in_levels, within, stand, sound_scope}
use Rattle.fit_soundness.proofs.Declaring.{kept_sound, declares_levels}
use Rattle.fit_soundness.proofs.Clauses.{of_clause, sound}

-- A parameter that a scope keeps is no local.

kept_room : {scope : Option (List ℕ)} {env own : InScope} {up position : ℕ} {ty : TyView} → Declares scope env (Kept up position) ty own → (rest : Taken) → HasRoom env.locals rest → HasRoom own.locals rest
kept_room (fit.as_kept level around is at) rest room = room

kept_locals : {scope : Option (List ℕ)} {env own : InScope} {up position : ℕ} {ty : TyView} → Declares scope env (Kept up position) ty own → (heap : Heap) (frame : Frame) →
    AreLocals fitting heap frame env.locals → AreLocals fitting heap frame own.locals
kept_locals (fit.as_kept level around is at) heap frame h = h

params_levels : {scope : Option (List ℕ)} {env last : InScope} {nums refs : ℕ} {params : List Param} → Takes scope env nums refs params last → (heap : Heap) (at : Option ℕ) →
    AreLevelsAt heap at last.levels → AreLevelsAt heap at env.levels
params_levels fit.Takes.no_more heap scope h = h
params_levels (fit.Takes.as_local e rest) heap scope h = params_levels rest heap scope h
params_levels (fit.Takes.as_kept declares rest) heap scope h = declares_levels declares heap scope (params_levels rest heap scope h)

-- The slots of parameters, which are the first on each stack.

abbrev of_params : ℕ → ℕ → List Param → Taken
of_params nums refs params numbers = from (if numbers then nums else refs) (params_on numbers params)

from_one : (first more : ℕ) → from first (1 + more) ≡ first ∷ from (first + 1) more
unfolding row
from_one first more = ap (λ n. from first n) (let e : 1 + more ≡ suc more = omega arith in e) ∙ ap (λ n. first ∷ row (λ slot. slot) n more) (omega arith)

from_same : (first more : ℕ) → from first (0 + more) ≡ from first more
from_same first more = ap (λ n. from first n) (omega arith)

-- the first parameter takes the next slot of its stack
first_slot : (b numbers : Bool) (nums refs more : ℕ) →
    from (if numbers then nums else refs) ((if (if numbers then b else not b) then 1 else 0) + more)
    ≡ (if (if numbers then b else not b) then (if b then nums else refs) ∷ [] else [])
    ++ from (if numbers then (if b then nums + 1 else nums) else (if b then refs else refs + 1)) more
first_slot true true nums refs more = from_one nums more
first_slot true false nums refs more = from_same refs more
first_slot false true nums refs more = from_same nums more
first_slot false false nums refs more = from_one refs more

stands_as : (numbers : Bool) (ty : TyView) → stands_on numbers ty ≡ (if numbers then is_number ty else not (is_number ty))
stands_as true ty = refl
stands_as false ty = refl

params_next : (nums refs : ℕ) (ty : TyView) (rest : List Param) (numbers : Bool) →
    from (if numbers then nums else refs) ((if stands_on numbers ty then 1 else 0) + params_on numbers rest)
    ≡ slot_on numbers ty (Plain (if is_number ty then nums else refs))
    ++ of_params (if is_number ty then nums + 1 else nums) (if is_number ty then refs else refs + 1) rest numbers
params_next nums refs ty rest numbers =
    subst (λ b. from (if numbers then nums else refs) ((if b then 1 else 0) + params_on numbers rest)
    ≡ (if b then (if is_number ty then nums else refs) ∷ [] else [])
    ++ of_params (if is_number ty then nums + 1 else nums) (if is_number ty then refs else refs + 1) rest numbers) (sym (stands_as numbers ty))
    (first_slot (is_number ty) numbers nums refs (params_on numbers rest))

params_room : {scope : Option (List ℕ)} {env last : InScope} {nums refs : ℕ} {params : List Param} (tree : Taken) → Takes scope env nums refs params last →
    HasRoom env.locals (joint (of_params nums refs params) tree) → HasRoom last.locals tree
params_room tree (fit.Takes.no_more {nums = nums} {refs = refs}) room = room_right (of_params nums refs []) tree room
params_room tree (fit.Takes.as_local {env = env} {nums = nums} {refs = refs} {slot = slot} {ty = ty} {rest = rest} e takes) room =
    let at = if is_number ty then nums else refs in
    let more = of_params (if is_number ty then nums + 1 else nums) (if is_number ty then refs else refs + 1) rest in
    params_room tree takes (room_named ty slot (joint more tree)
    (subst (λ n. HasRoom env.locals (joint (λ numbers. slot_on numbers ty (Plain n)) (joint more tree))) (sym e)
    (room_as (joint (of_params nums refs (record { ty = ty; place = Plain slot } ∷ rest)) tree) (joint (λ numbers. slot_on numbers ty (Plain at)) (joint more tree))
    (λ numbers. ap (λ xs. xs ++ tree numbers) (params_next nums refs ty rest numbers) ∙ append_assoc (slot_on numbers ty (Plain at)) (more numbers) (tree numbers)) room)))
params_room tree (fit.Takes.as_kept {env = env} {nums = nums} {refs = refs} {up = up} {position = position} {ty = ty} {rest = rest} declares takes) room =
    let at = if is_number ty then nums else refs in
    let more = of_params (if is_number ty then nums + 1 else nums) (if is_number ty then refs else refs + 1) rest in
    params_room tree takes (kept_room declares (joint more tree) (room_right (λ numbers. slot_on numbers ty (Plain at)) (joint more tree)
    (room_as (joint (of_params nums refs (record { ty = ty; place = Kept up position } ∷ rest)) tree) (joint (λ numbers. slot_on numbers ty (Plain at)) (joint more tree))
    (λ numbers. ap (λ xs. xs ++ tree numbers) (params_next nums refs ty rest numbers) ∙ append_assoc (slot_on numbers ty (Plain at)) (more numbers) (tree numbers)) room)))

-- Arguments stand in the locals of their stacks, in their order.

rows_as : (b : Bool) (frame : Frame) (nums refs : ℕ) (left right : List Value) →
    Rows frame (if b then record { nums = nums + 1; refs = refs } else record { nums = nums; refs = refs + 1 }) left right →
    Rows frame (record { nums = if b then nums + 1 else nums; refs = if b then refs else refs + 1 }) left right
rows_as true frame nums refs left right h = h
rows_as false frame nums refs left right h = h

handed : {scope : Option (List ℕ)} {env last : InScope} {nums refs : ℕ} {params : List Param} (heap : Heap) (frame : Frame) (args : List Value) → Takes scope env nums refs params last →
    Rows frame (record { nums = nums; refs = refs }) (arguments_on true params args) (arguments_on false params args) → ValuesOf fits heap (types_of_params params) args →
    AreLocals fitting heap frame env.locals → AreLocals fitting heap frame last.locals
unfolding arguments_on
handed heap frame args fit.Takes.no_more rows are known = known
handed heap frame [] (fit.Takes.as_local e rest) rows are known = absurd are
handed heap frame (arg ∷ args) (fit.Takes.as_local {nums = nums} {refs = refs} {slot = slot} {ty = ty} {rest = params} e rest) rows are known =
    let next = rows_next (is_number ty) frame (record { nums = nums; refs = refs }) arg (arguments_on true params args) (arguments_on false params args) rows in
    let here : local_of frame ty slot ≡ arg = ap (local_of frame ty) e ∙ next.1 in
    handed heap frame args rest (rows_as (is_number ty) frame nums refs (arguments_on true params args) (arguments_on false params args) next.0) are.1
    (subst (IsOf fitting heap ty) (sym here) are.0, known)
handed heap frame [] (fit.Takes.as_kept declares rest) rows are known = absurd are
handed heap frame (arg ∷ args) (fit.Takes.as_kept {nums = nums} {refs = refs} {ty = ty} {rest = params} declares rest) rows are known =
    let next = rows_next (is_number ty) frame (record { nums = nums; refs = refs }) arg (arguments_on true params args) (arguments_on false params args) rows in
    handed heap frame args rest (rows_as (is_number ty) frame nums refs (arguments_on true params args) (arguments_on false params args) next.0) are.1
    (kept_locals declares heap frame known)

-- Those that a scope keeps are copied there.
keep_sound : (told : Told) {scope : Option (List ℕ)} {env last : InScope} {nums refs : ℕ} {params : List Param} → Takes scope env nums refs params last → AllValued (types_of_params params) → (locals : List Local) (args : List Value) → (heap : Heap) →
    ValuesOf fits heap (types_of_params params) args →
    Sound in_levels heap (within locals env.levels) (within locals last.levels) types.Void (keep_all params args)
unfolding keep_all keep
keep_sound told fit.Takes.no_more valued locals args heap are = sound_nothing in_levels
keep_sound told (fit.Takes.as_local e rest) valued locals [] heap are = absurd are
keep_sound told (fit.Takes.as_local {env = env} {rest = params} e rest) valued locals (arg ∷ args) heap are =
    sound_then in_levels {between = within locals env.levels} (sound_nothing in_levels) (λ new u g is.
    keep_sound told rest valued.1 locals args new (values_kept fits heap new g (types_of_params params) args are.1))
keep_sound told (fit.Takes.as_kept declares rest) valued locals [] heap are = absurd are
keep_sound told (fit.Takes.as_kept {ty = ty} {rest = params} declares rest) valued locals (arg ∷ args) heap are =
    sound_then in_levels (kept_sound told locals declares (valued_nonvoid ty valued.0) heap arg are.0) (λ new u g done.
    keep_sound told rest valued.1 locals args new (values_kept fits heap new g (types_of_params params) args are.1))

-- A body that is called.

pub tree_room : {env : InScope} {inside : List Level} {params : List Param} {gives : TyView} {tree : Node} {text : Option (List ℕ)} {line : Line} →
    Takes text (record { locals = []; levels = inside }) 0 0 params env → HasSlots (body params gives tree text line) → HasRoom env.locals (of_clause tree)
tree_room {params = params} {tree = tree} takes s =
    params_room (of_clause tree) takes (record { apart = apart; free = tt })
  where
    apart : (numbers : Bool) → AreApart (joint (of_params 0 0 params) (of_clause tree) numbers)
    apart true = s.nums_apart
    apart false = s.refs_apart

body_sound : (told : Told) (c : Context) → Answers in_levels c.call → {levels : List Level} {of : BodyNode} (scope : Option ℕ) (args : List Value) (heap : Heap) → IsFitBody levels of →
    AreLevelsAt heap scope levels → ValuesOf fits heap (taken of) args → IsBodySound in_levels c of scope args (given of) heap
unfolding body_meant frame_of_call
body_sound told c calls {levels = levels} {of = body params gives tree None line} scope args heap (fit.of_params {env = env} fit.unscoped takes t valued slots_are) stands are = record {
  known = within env.locals levels;
  stands = (
    handed heap (frame_of_call (body params gives tree None line) scope args) args takes
        (record { nums_passed = []; refs_passed = []; nums_long = refl; refs_long = refl; nums_are = λ slot. refl; refs_are = λ slot. refl }) are tt,
    stands,
  );
  sounds = λ new grown.
      sound_then in_levels {between = within env.locals env.levels} (keep_sound told takes valued.0 env.locals args new (values_kept fits heap new grown (types_of_params params) args are))
      (λ later u k done. narrowed in_levels (λ now frame standing. (tt, tt)) (sound told t (tree_room takes slots_are) c calls later));
}
body_sound told c calls {levels = levels} {of = body params gives tree (Some text) line} scope args heap
    (fit.of_params {env = env} (fit.scoped {first = first} {rest = rest} named) takes t valued slots_are) stands are = record {
      known = within env.locals levels;
      stands = (
        handed heap (frame_of_call (body params gives tree (Some text) line) scope args) args takes
            (record { nums_passed = []; refs_passed = []; nums_long = refl; refs_long = refl; nums_are = λ slot. refl; refs_are = λ slot. refl }) are tt,
        stands,
      );
      sounds = λ new grown. narrowed in_levels {wide = within env.locals levels} (λ now frame standing. (tt, tt)) (sound_scope (first ∷ rest) named (λ opened further.
          sound_then in_levels {between = within env.locals env.levels}
          (keep_sound told takes valued.0 env.locals args opened (values_kept fits heap opened (grows_then heap new opened grown further) (types_of_params params) args are))
          (λ later u k done. narrowed in_levels (λ now frame standing. (standing.0, params_levels takes now frame.scope standing.1))
          (sound told t (tree_room takes slots_are) c calls later))));
    }

bodies_sound : (told : Told) → BodiesSound in_levels
bodies_sound told c calls of scope args ps g heap is are =
    let args_are = subst (λ (tys : TyViews). ValuesOf fits heap tys args) (taken_is of ps g is.ty_is) are in
    subst (λ (ty : TyView). IsBodySound in_levels c of scope args ty heap) (sym (given_is of ps g is.ty_is))
    (body_sound told c calls scope args heap is.fit is.stand args_are)

pub within_answers : (told : Told) (n depth : ℕ) → Answers in_levels (call_within n depth)
within_answers told n depth = bodies_answer in_levels (bodies_sound told) n depth

comes_fit : (before : State) (env : InScope) (ty : TyView) (o : Outcome) → Comes in_levels before (stand env) ty o → ComesToFit before env ty o
comes_fit before env ty (Value_is v frame state) h =
    record { grows = h.grows; held = h.typed; locals = h.are.0; levels = h.are.1; value = h.value; commits = h.commits }
comes_fit before env ty (Ends e state) h = h

pub comes_to_fit : (told : Told) (turns depth : ℕ) (env : InScope) (clause : Node) (ty : TyView) (frame : Frame) (state : State) → IsFit env clause ty →
    HasRoom env.locals (of_clause clause) → IsTypedHeld fitting state.store.held → AreLocals fitting state.store.held.objects frame env.locals →
    AreLevelsAt state.store.held.objects frame.scope env.levels → ComesToFit state env ty (eval (context turns depth) clause frame state)
comes_to_fit told turns depth env clause ty frame state fits_it room held locals levels =
    let heap = state.store.held.objects in
    let c = context turns depth in
    comes_fit state env ty (eval c clause frame state)
    ((sound told fits_it room c (within_answers told turns (suc depth)) heap).runs frame state (grows_not heap) held (locals, levels))

answers_fit : (before : State) (gives : TyView) (o : Outcome) → Comes in_levels before (record { locals = []; levels = None }) gives o → AnswersFit before gives o
answers_fit before gives (Value_is v frame state) h = record { grows = h.grows; held = h.typed; value = h.value; commits = h.commits }
answers_fit before gives (Ends e state) h = h

values_of : (heap : Heap) (tys : TyViews) (vs : List Value) → AreValues heap tys vs → ValuesOf fits heap tys vs
values_of heap types.none [] h = tt
values_of heap types.none (v ∷ vs) h = absurd h
values_of heap (types.more ty tys) [] h = absurd h
values_of heap (types.more ty tys) (v ∷ vs) h = (h.0, values_of heap tys vs h.1)

pub procedures_answer : (told : Told) (turns depth : ℕ) (of : BodyNode) (scope : Option ℕ) (args : List Value) (params : TyViews) (gives : TyView) (state : State) →
    IsTypedHeld fitting state.store.held → IsProcedure state.store.held.objects (types.Proc params gives) of scope → AreValues state.store.held.objects params args →
    AnswersFit state gives (call_within turns depth of args (frame_of_call of scope args) state)
procedures_answer told turns depth of scope args params gives state held is are =
    answers_fit state gives (call_within turns depth of args (frame_of_call of scope args) state)
    ((within_answers told turns depth).answers of scope args params gives state held is (values_of state.store.held.objects params args are))
