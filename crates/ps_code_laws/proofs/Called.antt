-- A body that is called does what it means: its scope is made, the arguments that it keeps are moved there, its clause runs, and it comes back. By
-- induction on the turns that may be left.
use Rattle.std.proofs.Common.{◌≡◌, ℕ, ◌+◌, ◌≤◌, Bool, true, false, List, [], ◌∷◌, ◌++◌, length, Option, Some, None, refl, sym, ap, ◌∙◌, subst, arith}
use Rattle.ps_gen.specs.ps_base.TyView.{TyView, TyViews}
use Rattle.ps_gen.specs.ps_base.TyView as types
use Rattle.ps_gen.specs.ps_base.CodeUnit.{text as text_of}
use Rattle.ps_gen.specs.ps_base.Instr.{spelled}
use Rattle.ps_gen.specs.ps_base.declared.line.Line.{Line}
use Rattle.ps_gen.specs.ps_base.declared.code_unit.Frame.{Frame as Frames}
use Rattle.ps_gen.specs.ps_base.declared.instr.Instr.{Instr}
use Rattle.ps_gen.specs.ps_base.declared.instr.Instr.TheVariants as instr
use Rattle.ps_gen.specs.ps_program.declared.place.Place.{Place}
use Rattle.ps_gen.specs.ps_program.declared.place.Place.TheVariants.{Plain, Kept}
use Rattle.ps_gen.specs.ps_program.Node.{Param, Node, BodyNode, body}
use Rattle.std.specs.Prelude.{if◌then◌else◌}
use Rattle.ps_gen.specs.ps_program.Slots.{depth}
use Rattle.ps_typing_laws.specs.ps_typing.Placing.{is_number}
use Rattle.ps_typing_laws.specs.ps_typing.Locals.{taken_by_params}
use Rattle.ps_typing_laws.specs.ps_typing.WellTyped.{types_of_params}
use Rattle.ps_stepping.specs.ps_heap.Values.{Value}
use Rattle.ps_stepping.specs.ps_heap.Objects.{Heap, with_new, new_number}
use Rattle.ps_stepping.specs.ps_heap.Scopes.{new_scope}
use Rattle.ps_stepping.specs.ps_meaning.Meaning.{Frame, State, Outcome, Value_is, Ends, after, ◌>>=◌, enter, back_in, scoped, and_object}
use Rattle.ps_stepping.specs.ps_meaning.Frames.{arguments_on, frame_of_call, keep_all}
use Rattle.ps_stepping.specs.ps_meaning.Evaluation.{eval}
use Rattle.ps_stepping.specs.ps_meaning.Calls.{body_meant, context}
use Rattle.ps_gen.specs.ps_emitter.Choices as choice
use Rattle.ps_gen.specs.Emission.{size, emit}
use Rattle.ps_gen.specs.Units.{kept_at, size_kept_at, keeps, size_keeps, body_instrs, type_constant, constants, frame_of, unit_of}
use Rattle.ps_gen.proofs.Widths.{widths}
use Rattle.ps_stepping.specs.Config.{Caller, frame_in}
use Rattle.ps_soundness.specs.Running.{IsScopeText}
use Rattle.ps_soundness.specs.Shapes.{type_of_body}
use Rattle.ps_code_laws.specs.Fitting.{IsTypedHeld}
use Rattle.ps_soundness.proofs.Telling.{Told}
use Rattle.ps_soundness.proofs.Growing.{grows_not, grows_new}
use Rattle.ps_soundness.proofs.Calling.{ValuesOf, values_kept}
use Rattle.ps_code_laws.specs.Literals.{BodyIs, BodiesAre}
use Rattle.ps_code_laws.specs.Compiled.{WeighsUnits}
use Rattle.ps_code_laws.specs.Meets.{nums_left, refs_left, standing}
use Rattle.heap_fit.specs.Slots.{slots_of}
use Rattle.heap_fit.specs.Bodies.{Level, InScope, Takes, HasSlots, IsFit, IsFitBody}
use Rattle.heap_fit.specs.Bodies as fit
use Rattle.fit_soundness.specs.Levels.{AreLevelsAt}
use Rattle.fit_soundness.proofs.Clauses.{of_clause}
use Rattle.ps_code_laws.proofs.Counting.{HasLocals, has_locals}
use Rattle.ps_code_laws.proofs.Standing.{Ahead, Named, all_ahead, all_named, front, behind, after_clause}
use Rattle.ps_code_laws.proofs.Literals.{AreLiterals, InHeap}
use Rattle.ps_code_laws.proofs.Holding.{frame_is}
use Rattle.ps_code_laws.proofs.Building.{Placed, tree_placed, part}
use Rattle.ps_code_laws.proofs.Doing.{IsSince, Way, place, Comes, Room, less_room}
use Rattle.ps_code_laws.proofs.From.{On, From, from_does, then_from}
use Rattle.ps_code_laws.proofs.ScopeForms.{does_enter}
use Rattle.ps_code_laws.proofs.Scoping.{entered_since}
use Rattle.ps_code_laws.proofs.Arguments.{kinds_are}
use Rattle.ps_code_laws.proofs.Handed.{Passed, passed_in, none_passed, locals_handed}
use Rattle.ps_code_laws.proofs.Beginning.{begun, keep_leads, keeps_do}
use Rattle.ps_code_laws.proofs.Calls.{Entered}
use Rattle.ps_code_laws.proofs.Operands.{some_depth, context_in, Stand}
use Rattle.ps_soundness.specs.Valued.{IsValued, AllValued}
use Rattle.ps_code_laws.proofs.Simulation.{does}
use Rattle.fit_soundness.proofs.Levels.{fits}

width_by : (number : Bool) (place : Place) (rest : List Param) (nums refs : ℕ) → ((n r : ℕ) → widths (keeps rest n r) ≡ size_keeps rest) →
    widths (if number then kept_at place (instr.GetM nums) (λ u i. instr.KeepM u i) ++ keeps rest (nums + 1) refs
    else kept_at place (instr.GetP refs) (λ u i. instr.KeepP u i) ++ keeps rest nums (refs + 1)) ≡ size_kept_at place + size_keeps rest
width_by true (Plain slot) rest nums refs h = let e = h (nums + 1) refs in omega arith
width_by false (Plain slot) rest nums refs h = let e = h nums (refs + 1) in omega arith
width_by true (Kept up position) rest nums refs h = let e = h (nums + 1) refs in omega arith
width_by false (Kept up position) rest nums refs h = let e = h nums (refs + 1) in omega arith

width_keeps : (params : List Param) (nums refs : ℕ) → widths (keeps params nums refs) ≡ size_keeps params
width_keeps [] nums refs = refl
width_keeps (param ∷ rest) nums refs = width_by (is_number param.ty) param.place rest nums refs (width_keeps rest)

on_any : (o : Outcome) → On (λ v f. Unit {0}) o
on_any (Value_is v f s) = tt
on_any (Ends e s) = tt

module _ (v : Way) where
  -- what a body is known by: its parameters and its clause
  record Inside (inside : List Level) (params : List Param) (tree : Node) (gives : TyView) : Type 0 where
    own : Option (List ℕ)
    env : InScope
    takes : Takes own (record { locals = []; levels = inside }) 0 0 params env
    fit_tree : IsFit env tree gives
    bodies : BodiesAre v.Body IsValued tree
    valued : AllValued (types_of_params params)
    placed : Placed (frame_in v.unit).nums (frame_in v.unit).refs env.locals (of_clause tree)
    nums_taken : taken_by_params true params ≤ (frame_in v.unit).nums
    refs_taken : taken_by_params false params ≤ (frame_in v.unit).refs

  -- after its scope, a body keeps its arguments and does what its clause means
  clause_does : (told : Told) {inside : List Level} {params : List Param} {tree : Node} {gives : TyView}
      (h : Inside inside params tree gives) (turns : ℕ) → Entered v turns → (heap : Heap) (args : List Value) →
      ValuesOf fits heap (types_of_params params) args → AreLiterals v.Body args → (p k : ℕ) (behind_it : List Instr) →
      Ahead v.Allows v.unit p (keeps params 0 0 ++ (emit tree (p + size_keeps params) k ++ behind_it)) → Named v.unit k (constants tree) →
      From v (begun turns heap h.env.locals inside) (Passed 0 0 (arguments_on true params args)
      (arguments_on false params args)) [] [] (keep_all params args >>= λ u. eval (context_in v turns) tree) gives (depth tree) p
      (p + size_keeps params + size tree)
  clause_does told {inside = inside} {params = params} {tree = tree} {gives = gives} h turns enters heap args are literals p k behind_it
      ahead names =
      let q = p + size_keeps params in
      let of_tree = behind v.Allows v.unit p q (keeps params 0 0) _ (ap (λ (n : ℕ). p + n) (width_keeps params 0 0)) ahead in
      then_from v (λ u. eval (context_in v turns) tree) (λ u f. Unit {0}) 1 (depth tree) p q (q + size tree) (some_depth tree)
      (keep_leads v.Body told h.takes h.valued h.env.locals args turns heap are literals) (λ f s is. on_any (keep_all params args f s))
      (keeps_do v told h.takes h.valued h.env.locals args (kinds_are params h.valued) turns heap p are literals
      (let n = h.nums_taken in omega arith) (let n = h.refs_taken in omega arith) (front v.Allows v.unit p (keeps params 0 0) _ ahead))
      (λ new u g done. from_does v (λ f. Unit {0})
      (does v (begun turns new h.env.locals h.env.levels) enters q k
      (part told v.Body (frame_in v.unit).nums (frame_in v.unit).refs h.fit_tree h.bodies h.placed)
      (front v.Allows v.unit q (emit tree q k) behind_it of_tree) names))

-- the same way in a body of its own, inside bodies that wait
abbrev pub within : Way → BodyNode → List Caller → Way
within w of callers = record {
  unit = unit_of of;
  callers = callers;
  Body = w.Body;
  Allows = w.Allows;
  fits = w.fits;
  allowed = w.allowed;
  Holds = λ c so_far. w.Holds c so_far;
  Final = λ e counted so_far. w.Final e counted so_far;
  goes = λ {c} {next} {so_far} events {i} at ok acts h. w.goes events at ok acts h;
  stops = λ {c} {so_far} {e} {touched} {i} at ok acts h. w.stops at ok acts h;
}

-- what is so where a body has its value, or ends the run
abbrev pub Closes : Way → (Value → State → Type 0) → Outcome → Type 0
Closes w Is (Value_is u f s) = Is u s
Closes w Is (Ends e s) = w.Final e s.store.held.counted s.events

closes_in : (w : Way) (Is : Value → State → Type 0) (scope : Option ℕ) (o : Outcome) → Closes w Is (back_in scope o) → Closes w Is o
unfolding back_in
closes_in w Is scope (Value_is u f s) h = h
closes_in w Is scope (Ends e s) h = h

-- from where a body returns, it comes to what follows
abbrev pub Returns : Way → TyView → (Value → State → Type 0) → Type 0
Returns v gives Is = (k : ℕ) → Stand v k (instr.Return (choice.kind_of gives)) → (u : Value) (f : Frame) (s : State) → Is u s →
    v.Holds (place v k (nums_left gives u ++ []) (refs_left gives u ++ []) f s.store) s.events

comes_at : (v : Way) (gives : TyView) (Is : Value → State → Type 0) → Returns v gives Is → (k : ℕ) → Stand v k (instr.Return (choice.kind_of gives)) →
    (o : Outcome) → Closes v Is o → Comes v k [] [] gives o
comes_at v gives Is returns k at (Value_is u f s) h = returns k at u f s h
comes_at v gives Is returns k at (Ends e s) h = h

-- what is known of a fit body
inside_of : (v : Way) {inside : List Level} (params : List Param) (gives : TyView) (tree : Node) (text : Option (List ℕ)) (line : Line)
    {env : InScope} → frame_in v.unit ≡ frame_of (body params gives tree text line) → HasLocals (body params gives tree text line) →
    Takes text (record { locals = []; levels = inside }) 0 0 params env → IsFit env tree gives → HasSlots (body params gives tree text line) →
    BodiesAre v.Body IsValued tree → AllValued (types_of_params params) → Inside v inside params tree gives
inside_of v {inside = inside} params gives tree text line {env = env} frame counted takes t slots bodies valued =
    let of = body params gives tree text line in
    let nums_are : length (slots_of true of) ≡ (frame_in v.unit).nums = counted.long true ∙ sym (ap (λ (x : Frames). x.nums) frame) in
    let refs_are : length (slots_of false of) ≡ (frame_in v.unit).refs = counted.long false ∙ sym (ap (λ (x : Frames). x.refs) frame) in
    let frame_nums = ap (λ (x : Frames). x.nums) frame in
    let frame_refs = ap (λ (x : Frames). x.refs) frame in
    record {
      own = text;
      env = env;
      takes = takes;
      fit_tree = t;
      bodies = bodies;
      valued = valued;
      placed = tree_placed (frame_in v.unit).nums (frame_in v.unit).refs takes slots nums_are refs_are;
      nums_taken = omega arith;
      refs_taken = omega arith;
    }

module _ (told : Told) (w : Way) (callers : List Caller) (turns : ℕ) (scope : Option ℕ) (args : List Value) (s : State) where
  -- From its first instruction a body does what it means, with these arguments and its scope in this one.
  pub body_does : (levels : List Level) (of : BodyNode) (ps : TyViews) (g : TyView) (Is : Value → State → Type 0) →
      types.Proc ps g ≡ type_of_body of → IsFitBody levels of → AreLevelsAt s.store.held.objects scope levels →
      BodyIs w.Body IsValued of → s.store.turns ≤ turns → Entered (within w of callers) turns → IsTypedHeld s.store.held → WeighsUnits s.store.held.weigh →
      ValuesOf fits s.store.held.objects ps args → AreLiterals w.Body args → InHeap w.Body s.store.held.objects → Returns (within w of callers) g Is →
      Closes w Is (body_meant (context turns (length callers)) of args (frame_of_call of scope args) s) →
      w.Holds (standing (unit_of of) callers 0 [] [] (frame_of_call of scope args) s.store) s.events
  unfolding body_meant scoped ◌>>=◌ after enter frame_of_call inside_of
  body_does levels (body params gives tree None line) ps g Is ty_is (fit.of_params {env = env} fit.unscoped takes t valued slots) stand fitted few
      enters typed_heap weighs values literals held returns reach =
      let of = body params gives tree None line in
      let v = within w of callers in
      let u = unit_of of in
      let heap = s.store.held.objects in
      let given : g ≡ gives = cc in
      let taken : ps ≡ types_of_params params = cc in
      let are = subst (λ (tys : TyViews). ValuesOf fits heap tys args) taken values in
      let counted : HasLocals of = has_locals (fit.of_params {around = levels} {line = line} fit.unscoped takes t valued slots) in
      let h = inside_of v params gives tree None line refl counted takes t slots fitted.1 valued.0 in
      let whole = all_ahead w.Allows u 0 (body_instrs params gives tree None) (w.fits of fitted.0).unit (w.allowed of fitted.0) refl in
      let names = all_named (spelled (body_instrs params gives tree None)) (type_constant params gives) (constants tree) (frame_of of) in
      let does = clause_does v told h turns enters heap args are literals 0 1 (instr.Return (choice.kind_of gives) ∷ []) whole names in
      let of_tree = behind w.Allows u 0 (0 + size_keeps params) (keeps params 0 0) _ (ap (λ (n : ℕ). 0 + n) (width_keeps params 0 0)) whole in
      let at_return = (after_clause w.Allows u tree (0 + size_keeps params) 1 _ of_tree).0 in
      let frame = frame_of_call of scope args in
      let passed = none_passed params gives tree None line scope args in
      let m = keep_all params args >>= λ x. eval (context turns (length callers)) tree in
      does.by [] [] frame s passed
      (let room = counted.room in let few_slots = (w.fits of fitted.0).slots in record { on_nums = omega arith; on_refs = omega arith })
      (record {
        few = few;
        grows = grows_not heap;
        typed = typed_heap;
        are = (locals_handed heap frame args takes passed are tt, stand);
        held = (frame_is w.Body of scope args literals, held);
        weighs = weighs;
      })
      (comes_at v gives Is (subst (λ (ty : TyView). Returns v ty Is) given returns) (0 + size_keeps params + size tree) at_return (m frame s) reach)
  body_does levels (body params gives tree (Some bytes) line) ps g Is ty_is
      (fit.of_params {env = env} (fit.scoped {first = first} {rest = rest} scope_named) takes t valued slots) stand
      fitted few enters typed_heap weighs values literals held returns reach =
      let of = body params gives tree (Some bytes) line in
      let v = within w of callers in
      let u = unit_of of in
      let heap = s.store.held.objects in
      let given : g ≡ gives = cc in
      let taken : ps ≡ types_of_params params = cc in
      let are = subst (λ (tys : TyViews). ValuesOf fits heap tys args) taken values in
      let own : IsScopeText bytes = record { fields = first ∷ rest; named = scope_named; text_is = refl } in
      let counted : HasLocals of = has_locals (fit.of_params {around = levels} {line = line} (fit.scoped {first = first} {rest = rest} scope_named) takes t valued slots) in
      let h = inside_of v params gives tree (Some bytes) line refl counted takes t slots fitted.1 valued.0 in
      let whole = all_ahead w.Allows u 0 (body_instrs params gives tree (Some bytes)) (w.fits of fitted.0).unit (w.allowed of fitted.0) refl in
      let names = all_named (spelled (body_instrs params gives tree (Some bytes))) (type_constant params gives) (text_of bytes ∷ constants tree)
      (frame_of of) in
      let frame = frame_of_call of scope args in
      let new = with_new heap (new_scope bytes scope) in
      let grown = grows_new heap (new_scope bytes scope) in
      let inner : Frame = record frame { scope = Some (new_number heap) } in
      let now : State = record s { store = and_object (new_scope bytes scope) s.store } in
      let values_now = values_kept fits heap new grown (types_of_params params) args are in
      let does = clause_does v told h turns enters new args values_now literals 5 2 (instr.Return (choice.kind_of gives) ∷ []) whole.1 names.1 in
      let of_tree = behind w.Allows u 5 (5 + size_keeps params) (keeps params 0 0) _ (ap (λ (n : ℕ). 5 + n) (width_keeps params 0 0)) whole.1 in
      let at_return = (after_clause w.Allows u tree (5 + size_keeps params) 2 _ of_tree).0 in
      let passed = none_passed params gives tree (Some bytes) line scope args in
      let m = keep_all params args >>= λ x. eval (context turns (length callers)) tree in
      let outer = begun turns heap env.locals levels in
      let since : IsSince w.Body outer frame s = record {
        few = few;
        grows = grows_not heap;
        typed = typed_heap;
        are = (locals_handed heap frame args takes passed are tt, stand);
        held = (frame_is w.Body of scope args literals, held);
        weighs = weighs;
      } in
      let room : Room v (depth tree) [] []
      = let room = counted.room in let few_slots = (w.fits of fitted.0).slots in record { on_nums = omega arith; on_refs = omega arith } in
      (does_enter v outer 0 1 bytes whole.0 names.0).by [] [] frame s (less_room v 0 (depth tree) [] [] (omega arith) room) since
      (does.by [] [] inner now (passed_in frame (Some (new_number heap)) passed) room (entered_since outer bytes levels own frame s refl since)
      (comes_at v gives Is (subst (λ (ty : TyView). Returns v ty Is) given returns) (5 + size_keeps params + size tree) at_return (m inner now)
      (closes_in v Is scope (m inner now) reach)))
