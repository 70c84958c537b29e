-- Bodies do what they mean, inside any bodies that wait, and so does a program.
use Rattle.std.proofs.Common.{◌≡◌, Bool, true, ℕ, zero, suc, ◌+◌, ◌≤◌, List, [], ◌∷◌, ◌++◌, length, Option, Some, None, refl, sym, ap, ◌∙◌, subst, append_assoc, append-nil, arith}
use Rattle.std.specs.List.{AllByRecursion}
use Rattle.std.proofs.lemmas.List.{map-append}
use Rattle.ps_gen.specs.ps_base.TyView.{TyView, TyViews}
use Rattle.ps_gen.specs.ps_base.TyView as types
use Rattle.ps_gen.specs.ps_base.CodeUnit.{UnitView}
use Rattle.ps_gen.specs.ps_base.declared.line.Line.{Line}
use Rattle.ps_gen.specs.ps_base.declared.instr.Instr.{Instr}
use Rattle.ps_gen.specs.ps_base.declared.instr.Instr.TheVariants as instr
use Rattle.ps_gen.specs.ps_program.Node.{Param, Node, BodyNode, body}
use Rattle.ps_typing_laws.specs.ps_typing.Program.{bodies, first_complex}
use Rattle.ps_typing_laws.specs.ps_typing.WellTyped.{types_of_params, IsBody, IsWellTyped}
use Rattle.ps_typing_laws.specs.ps_typing.WellTyped as typed
use Rattle.ps_typing_laws.specs.Counted.{Each}
use Rattle.ps_stepping.specs.ps_heap.Objects.{Heap}
use Rattle.ps_stepping.specs.ps_heap.Weights.{code_weight}
use Rattle.ps_stepping.specs.ps_heap.Ends.{End, Done}
use Rattle.ps_stepping.specs.ps_heap.Events.{Event, Finish}
use Rattle.ps_stepping.specs.ps_heap.Values.{Value, Routine}
use Rattle.ps_stepping.specs.ps_meaning.Meaning.{Frame, Store, State, Outcome, Value_is, Ends, give, after, ◌>>=◌}
use Rattle.ps_stepping.specs.ps_meaning.Frames.{arguments_on, frame_of_call, keep_all}
use Rattle.ps_stepping.specs.ps_meaning.Calls.{body_meant, context}
use Rattle.ps_stepping.specs.ps_meaning.Runs.{Given, fresh_frame, fresh_store, fresh_state, outcome_with, all_events, events_with}
use Rattle.ps_gen.specs.ps_emitter.Choices as choice
use Rattle.ps_gen.specs.Units.{HasUnit, unit_of}
use Rattle.ps_stepping.specs.Config.{frame_words, Caller, Config, code_in, frame_in, IsAt, start}
use Rattle.ps_stepping.specs.Machine.{Step, Goes, Stops, and_touched, act, Steps, at_instruction, resumed, RunsBy, goes_by, stops_by}
use Rattle.ps_stepping.specs.Path.{Reaches, Finishes}
use Rattle.ps_stepping.specs.Path as path
use Rattle.ps_soundness.specs.Running.{BodyRuns}
use Rattle.ps_soundness.specs.Valued.{IsValued}
use Rattle.ps_soundness.specs.Shapes.{type_of_body}
use Rattle.ps_soundness.proofs.Telling.{Told}
use Rattle.ps_soundness.proofs.Calling.{ValuesOf}
use Rattle.heap_fit.specs.Bodies.{Level, IsFitBody}
use Rattle.heap_fit.specs.Typed.{IsSmall, TypedBodiesAreFit}
use Rattle.fit_soundness.specs.Laws.{program}
use Rattle.ps_code_laws.specs.Literals.{AreLevelsValued, BodyIs, Fits, FitsBy, instrs_of}
use Rattle.ps_code_laws.specs.Meets.{nums_left, refs_left, standing, ComesBack, Follows, AreHanded, HasRoom, IsFittingHeap, Meets}
use Rattle.ps_code_laws.specs.Compiled.{compiled_store, compiled_event, compiled_events, WeighsUnits}
use Rattle.ps_code_laws.proofs.Doing.{Way, if_lt, quiet, halt}
use Rattle.ps_code_laws.proofs.CallForms.{Returned}
use Rattle.ps_code_laws.proofs.Calls.{Enters, Entered}
use Rattle.ps_code_laws.proofs.Called.{within, Closes, Returns, body_does}
use Rattle.ps_code_laws.proofs.Naming.{names_in_body}
use Rattle.ps_code_laws.proofs.Inside.{bodies_inside, bodies_fit}
use Rattle.fit_soundness.proofs.Levels.{fits}

-- one step more before what follows
with_end : (c : Config) (events later rest : List Event) → Finishes c (compiled_events events ++ (compiled_events later ++ rest)) →
    Finishes c (compiled_events (events ++ later) ++ rest)
with_end c events later rest h =
    subst (λ (es : List Event). Finishes c (es ++ rest)) (sym (map-append compiled_event events later))
    (subst (λ (es : List Event). Finishes c es) (sym (append_assoc (compiled_events events) (compiled_events later) rest)) h)

back_goes : {c next : Config} (events later : List Event) (callers : List Caller) (gives : TyView) (v : Value) (store : Store) →
    Steps c (Goes (compiled_events events) next) → ComesBack next later callers gives v store → ComesBack c (events ++ later) callers gives v store
back_goes {c = c} events later [] gives v store s h = with_end c events later (Finish Done store.held.counted ∷ []) (path.goes s h)
back_goes {c = c} events later (caller ∷ callers) gives v store s h =
    subst (λ (es : List Event). Reaches c es (resumed caller (nums_left gives v ++ caller.nums) (refs_left gives v ++ caller.refs) callers (compiled_store store)))
    (sym (map-append compiled_event events later)) (path.more s h)

follows_goes : {c next : Config} (events so_far : List Event) (callers : List Caller) (gives : TyView) (o : Outcome) →
    Steps c (Goes (compiled_events events) next) →
    Follows next (so_far ++ events) callers gives o → Follows c so_far callers gives o
follows_goes events so_far callers gives (Value_is v f state) s h =
    (events ++ h.0, h.1 ∙ append_assoc so_far events h.0, back_goes events h.0 callers gives v state.store s h.2)
follows_goes {c = c} events so_far callers gives (Ends e state) s h = (
  events ++ h.0,
  h.1 ∙ append_assoc so_far events h.0,
  with_end c events h.0 (Finish e state.store.held.counted ∷ []) (path.goes s h.2),
)

-- the end that an outcome has, where so many bytes are counted
abbrev EndsSo : Outcome → End → ℕ → List Event → Type 0
EndsSo (Value_is v f state) e counted so_far = ⊥
EndsSo (Ends end state) e counted so_far = (e ≡ end) × (counted ≡ state.store.held.counted) × (state.events ≡ so_far)

follows_stops : {c : Config} {e : End} {touched : ℕ} (so_far : List Event) (callers : List Caller) (gives : TyView) (o : Outcome) →
    Steps c (Stops e touched) → EndsSo o e (and_touched touched c.store.held.counted) so_far → Follows c so_far callers gives o
follows_stops so_far callers gives (Value_is v f state) s h = absurd h
follows_stops {c = c} {e = e} {touched = touched} so_far callers gives (Ends end state) s h = (
  [],
  h.2 ∙ sym (append-nil so_far),
  subst (λ (counted : ℕ). Finishes c (Finish end counted ∷ [])) h.1
      (subst (λ (e : End). Finishes c (Finish e (and_touched touched c.store.held.counted) ∷ [])) h.0 (path.stops s)),
)

-- each instruction may run
any_may : (is : List Instr) → AllByRecursion (λ (i : Instr). Unit {0}) is
any_may [] = tt
any_may (i ∷ is) = (tt, any_may is)

-- the way to what an outcome says
abbrev way_to : UnitView → List Caller → TyView → Outcome → Way
way_to u callers gives o = record {
  unit = u;
  callers = callers;
  Body = Fits;
  Allows = λ i. Unit {0};
  fits = λ of h. h;
  allowed = λ of h. any_may (instrs_of of);
  Holds = λ c so_far. Follows c so_far callers gives o;
  Final = λ e counted so_far. EndsSo o e counted so_far;
  goes = λ {c} {next} {so_far} events {i} at ok acts h.
      follows_goes events so_far callers gives o (subst (λ (s : Step). Steps c s) acts (at_instruction at)) h;
  stops = λ {c} {so_far} {e} {touched} {i} at ok acts h.
      follows_stops so_far callers gives o (subst (λ (s : Step). Steps c s) acts (at_instruction at)) h;
}

-- the last instruction of a body
return_stops : (u : UnitView) (k : ℕ) (gives : TyView) (v : Value) (f : Frame) (store : Store) →
    act (instr.Return (choice.kind_of gives)) (standing u [] k (nums_left gives v ++ []) (refs_left gives v ++ []) f store) ≡ Stops Done 0
return_stops u k types.Int v f store = refl
return_stops u k types.Bool v f store = refl
return_stops u k types.Void v f store = refl
return_stops u k other v f store = refl

return_goes : (u : UnitView) (k : ℕ) (gives : TyView) (v : Value) (f : Frame) (store : Store) (caller : Caller) (callers : List Caller) →
    HasRoom (caller ∷ callers) →
    act (instr.Return (choice.kind_of gives)) (standing u (caller ∷ callers) k (nums_left gives v ++ []) (refs_left gives v ++ []) f store)
    ≡ Goes [] (resumed caller (nums_left gives v ++ caller.nums) (refs_left gives v ++ caller.refs) callers (compiled_store store))
return_goes u k types.Int v f store caller callers room = if_lt ((frame_in caller.unit).nums + length caller.nums) frame_words _ _ room.0
return_goes u k types.Bool v f store caller callers room = if_lt ((frame_in caller.unit).nums + length caller.nums) frame_words _ _ room.0
return_goes u k types.Void v f store caller callers room = refl
return_goes u k other v f store caller callers room = if_lt ((frame_in caller.unit).refs + length caller.refs) frame_words _ _ room.1

returns : (u : UnitView) (k : ℕ) (gives : TyView) (v : Value) (f : Frame) (store : Store) (callers : List Caller) → HasRoom callers →
    IsAt (code_in u) k (instr.Return (choice.kind_of gives)) →
    ComesBack (standing u callers k (nums_left gives v ++ []) (refs_left gives v ++ []) f store) [] callers gives v store
returns u k gives v f store [] room at =
    path.stops (subst (λ (s : Step). Steps (standing u [] k (nums_left gives v ++ []) (refs_left gives v ++ []) f store) s)
    (return_stops u k gives v f store) (at_instruction at))
returns u k gives v f store (caller ∷ callers) room at =
    path.more (subst (λ (s : Step). Steps (standing u (caller ∷ callers) k (nums_left gives v ++ []) (refs_left gives v ++ []) f store) s)
    (return_goes u k gives v f store caller callers room) (at_instruction at)) path.no_step

-- Coming back to a body that waits, on any way.
abbrev comes_to : Way → Caller → TyView → Value → State → Type 0
comes_to w caller g v s =
    w.Holds (resumed caller (nums_left g v ++ caller.nums) (refs_left g v ++ caller.refs) w.callers (compiled_store s.store)) s.events

closed_by : (w : Way) (of : BodyNode) (caller : Caller) (g : TyView) (o : Outcome) → Returned w caller g o →
    Closes w (comes_to w caller g) o
closed_by w of caller g (Value_is v f s) h = h
closed_by w of caller g (Ends e s) h = h

returns_to : (w : Way) (of : BodyNode) (caller : Caller) (g : TyView) → HasRoom (caller ∷ []) →
    Returns (within w of (caller ∷ w.callers)) g (comes_to w caller g)
returns_to w of caller g room k at v f s h =
    quiet (within w of (caller ∷ w.callers)) (instr.Return (choice.kind_of g)) at (return_goes (unit_of of) k g v f s.store caller w.callers room) h

-- where the bodies that are called inside it do what they mean
enters_by : (told : Told) (m : ℕ) → ((v : Way) → Entered v m) → (w : Way) → Enters w m
enters_by told m entered w caller of scope args ps g s few room typed_heap weighs is are fitted literals held reach =
    body_does told w (caller ∷ w.callers) m scope args s is.levels of ps g (comes_to w caller g) is.ty_is is.fit is.stand fitted few
    (entered (within w of (caller ∷ w.callers))) typed_heap weighs are literals held (returns_to w of caller g room) (closed_by w of caller g _ reach)

-- by induction on the turns that may be left
enters_up_to : (told : Told) (n m : ℕ) → m ≤ n → (w : Way) → Enters w m
enters_up_to told zero m le w = enters_by told m (λ v j lt. absurd (omega arith)) w
enters_up_to told (suc n) m le w = enters_by told m (λ v j lt. enters_up_to told n j (omega arith) v) w

pub all_enter : (told : Told) (n : ℕ) (w : Way) → Entered w n
all_enter told n w m lt = enters_up_to told m m (omega arith) w

-- what an outcome has
abbrev HasSo : Outcome → Value → State → Type 0
HasSo (Value_is u f t) v s = (u ≡ v) × (t ≡ s)
HasSo (Ends e t) v s = ⊥

has_so : (u : UnitView) (callers : List Caller) (g : TyView) (o : Outcome) → Closes (way_to u callers g o) (HasSo o) o
has_so u callers g (Value_is v f s) = (refl, refl)
has_so u callers g (Ends e s) = (refl, refl, refl)

comes_so : (u : UnitView) (callers : List Caller) (g : TyView) (o : Outcome) → HasRoom callers → (k : ℕ) →
    IsAt (code_in u) k (instr.Return (choice.kind_of g)) → (v : Value) (f : Frame) (s : State) → HasSo o v s →
    Follows (standing u callers k (nums_left g v ++ []) (refs_left g v ++ []) f s.store) s.events callers g o
comes_so u callers g (Value_is w e t) room k at v f s h =
    subst (λ (x : Value). Follows (standing u callers k (nums_left g v ++ []) (refs_left g v ++ []) f s.store) s.events callers g (Value_is x e t))
    (sym h.0)
    (subst (λ (y : State). Follows (standing u callers k (nums_left g v ++ []) (refs_left g v ++ []) f s.store) s.events callers g (Value_is v e y))
    (sym h.1) ([], sym (append-nil s.events), returns u k g v f s.store callers room at))
comes_so u callers g (Ends e t) room k at v f s h = absurd h

handed : (heap : Heap) (params : List Param) (args : List Value) → AreHanded heap params args → ValuesOf fits heap (types_of_params params) args
handed heap [] [] h = tt
handed heap [] (v ∷ vs) h = absurd h
handed heap (param ∷ params) [] h = absurd h
handed heap (param ∷ params) (v ∷ vs) h = (h.0, handed heap params vs h.1)

-- a body whose bodies fit
pub body_meets : (told : Told) (levels : List Level) (of : BodyNode) (n : ℕ) → IsFitBody levels of → AreLevelsValued levels → AllByRecursion Fits (bodies of) →
    Meets n levels of
body_meets told levels (body params gives tree text line) n is_body valued fit =
    let of : BodyNode = body params gives tree text line in
    let fitted = names_in_body Fits Fits (λ round b f h. h) is_body (bodies_inside Fits of fit) valued in
    record {
      follows = λ callers scope args state turns room fitting stand are literals.
          let o = body_meant (context n (length callers)) of args (frame_of_call of scope args) state in
          let w = way_to (unit_of of) callers gives o in
          body_does told w callers n scope args state levels of (types_of_params params) gives (HasSo o) refl is_body stand fitted turns
          (all_enter told n (within w of callers)) fitting.typed fitting.weighs (handed state.store.held.objects params args are) literals fitting.fit
          (λ k at v f s h. comes_so (unit_of of) callers gives o room k at.0 v f s h) (has_so (unit_of of) callers gives o);
    }

-- Programs.

-- the way of a run that has all these events in the end
abbrev run_to : (may : Instr → Bool) → UnitView → List Event → Way
run_to may u total = record {
  unit = u;
  callers = [];
  Body = FitsBy may;
  Allows = λ i. may i ≡ true;
  fits = λ of h. h.fits;
  allowed = λ of h. h.each_may;
  Holds = λ c so_far. RunsBy may (compiled_events total) c (compiled_events so_far);
  Final = λ e counted so_far. total ≡ so_far ++ Finish e counted ∷ [];
  goes = λ {c} {next} {so_far} events {i} at ok acts h. goes_by at ok acts
      (subst (λ (es : List Event). RunsBy may (compiled_events total) next es) (map-append compiled_event so_far events) h);
  stops = λ {c} {so_far} {e} {touched} {i} at ok acts h.
      stops_by at ok acts
      (ap compiled_events h ∙ map-append compiled_event so_far (Finish e (and_touched touched c.store.held.counted) ∷ []));
}

-- what is so where a program has its value
abbrev EndsIn : List Event → Value → State → Type 0
EndsIn total v s = total ≡ s.events ++ Finish Done s.store.held.counted ∷ []

ends_so : (may : Instr → Bool) (u : UnitView) (o : Outcome) → Closes (run_to may u (all_events o)) (EndsIn (all_events o)) o
unfolding all_events
ends_so may u (Value_is v f s) = refl
ends_so may u (Ends e s) = refl

ends_at : (may : Instr → Bool) (of : BodyNode) (gives : TyView) (total : List Event) → Returns (within (run_to may (unit_of of) total) of []) gives (EndsIn total)
ends_at may of gives total k at v f s is =
    halt (within (run_to may (unit_of of) total) of []) (instr.Return (choice.kind_of gives)) at (return_stops (unit_of of) k gives v f s.store) is

-- what the law of programs says of one
abbrev pub RunsAsMeant : (Instr → Bool) → (Routine → ℕ) → Given → BodyNode → Type 0
RunsAsMeant may weigh given program =
    RunsBy may (compiled_events (events_with weigh given program))
    (start (unit_of program) (compiled_store (fresh_store weigh given (code_weight program)))) []

-- a program is a body that is called with nothing
pub program_runs : (told : Told) (may : Instr → Bool) (gives : TyView) (tree : Node) (line : Line) (weigh : Routine → ℕ) (given : Given) → WeighsUnits weigh →
    IsFittingHeap may given.heap → IsFitBody [] (program gives tree line) → BodyIs (FitsBy may) IsValued (program gives tree line) →
    RunsAsMeant may weigh given (program gives tree line)
unfolding events_with outcome_with fresh_state fresh_frame body_meant keep_all ◌>>=◌ after give frame_of_call arguments_on
program_runs told may gives tree line weigh given weighs heap is_body fitted =
    let of : BodyNode = program gives tree line in
    let o = outcome_with weigh given of in
    let w = run_to may (unit_of of) (all_events o) in
    body_does told w [] given.turns None [] (fresh_state weigh given (code_weight of)) [] of types.none gives (EndsIn (all_events o)) refl is_body refl
    fitted (omega arith) (all_enter told given.turns (within w of [])) (heap.typed, heap.roots) weighs tt tt heap.fit (ends_at may of gives (all_events o))
    (ends_so may (unit_of of) o)

-- Typed programs.

-- a typed program has no scope of its own
no_scope : (gives : TyView) (tree : Node) (bytes : List ℕ) (line : Line) → IsBody [] (body [] gives tree (Some bytes) line) → ⊥
no_scope gives tree bytes line (typed.of_params typed.scoped typed.Takes.no_more ended t) = cc

-- where each instruction may run
pub each_true : (is : List Instr) → AllByRecursion (λ (i : Instr). true ≡ true) is
each_true [] = tt
each_true (i ∷ is) = (refl, each_true is)

pub all_true : (all : List BodyNode) → AllByRecursion (λ (of : BodyNode). AllByRecursion (λ (i : Instr). true ≡ true) (instrs_of of)) all
all_true [] = tt
all_true (of ∷ all) = (each_true (instrs_of of), all_true all)

-- bodies that fit, and whose instructions may run
both_fit : (may : Instr → Bool) (all : List BodyNode) → AllByRecursion Fits all →
    AllByRecursion (λ (of : BodyNode). AllByRecursion (λ (i : Instr). may i ≡ true) (instrs_of of)) all → AllByRecursion (FitsBy may) all
both_fit may [] h k = tt
both_fit may (of ∷ all) h k = (record { fits = h.0; each_may = k.0 }, both_fit may all h.1 k.1)

small : (all : List BodyNode) → AllByRecursion Fits all → Each IsSmall all
small [] h = tt
small (of ∷ all) h = (record { valued = h.0.valued; few = h.0.slots }, small all h.1)

pub typed_program_fits : TypedBodiesAreFit → (may : Instr → Bool) (of : BodyNode) → IsWellTyped of → BodyRuns [] of →
    AllByRecursion (λ (b : BodyNode). IsValued (type_of_body b)) (bodies of) → first_complex (bodies of) ≡ None → AllByRecursion HasUnit (bodies of) →
    AllByRecursion (λ (b : BodyNode). AllByRecursion (λ (i : Instr). may i ≡ true) (instrs_of b)) (bodies of) →
    IsFitBody [] of × BodyIs (FitsBy may) IsValued of
typed_program_fits fit may (body params gives tree text line) typed_program runs valued few units instrs =
    let of : BodyNode = body params gives tree text line in
    let fitted = bodies_fit (bodies of) valued few units in
    let is_body = fit [] [] [] of typed_program.2 runs (small (bodies of) fitted) tt in
    (is_body, names_in_body (FitsBy may) (FitsBy may) (λ round b f h. h) is_body (bodies_inside (FitsBy may) of (both_fit may (bodies of) fitted instrs)) tt)

pub typed_program_runs : (told : Told) → TypedBodiesAreFit → (may : Instr → Bool) (of : BodyNode) (weigh : Routine → ℕ) (given : Given) → WeighsUnits weigh →
    IsFittingHeap may given.heap → IsWellTyped of → BodyRuns [] of → AllByRecursion (λ (b : BodyNode). IsValued (type_of_body b)) (bodies of) →
    first_complex (bodies of) ≡ None → AllByRecursion HasUnit (bodies of) →
    AllByRecursion (λ (b : BodyNode). AllByRecursion (λ (i : Instr). may i ≡ true) (instrs_of b)) (bodies of) → RunsAsMeant may weigh given of
typed_program_runs told fit may (body params gives tree text line) weigh given weighs heap typed_program runs valued few units instrs =
    let of = body params gives tree text line in
    let fits_so = typed_program_fits fit may of typed_program runs valued few units instrs in
    let Done : List Param → Option (List ℕ) → Type 0 = λ ps scope. IsBody [] (body ps gives tree scope line) → IsFitBody [] (body ps gives tree scope line) →
    BodyIs (FitsBy may) IsValued (body ps gives tree scope line) → RunsAsMeant may weigh given (body ps gives tree scope line) in
    let by_scope : (scope : Option (List ℕ)) → Done [] scope = λ scope. elim scope as (λ s. Done [] s) [
      | None ↦ λ is f b. program_runs told may gives tree line weigh given weighs heap f b
      | Some bytes ↦ λ is f b. absurd (no_scope gives tree bytes line is)
    ] in
    subst (λ (ps : List Param). Done ps text) (sym typed_program.0) (by_scope text) typed_program.2 fits_so.0 fits_so.1
