-- A call does what it means, where the body that is called does what it means with a turn less.
use Rattle.std.proofs.Common.{◌≡◌, ℕ, zero, suc, ◌+◌, ◌<◌, ◌≤◌, ℤ, pos, Bool, true, false, List, [], ◌∷◌, ◌++◌, length, map, Option, refl, sym, ap, ◌∙◌, subst, append-nil, arith}
use Rattle.std.specs.Prelude.{get_or, nat_lt, if◌then◌else◌}
use Rattle.ps_gen.specs.ps_base.TyView.{TyView, TyViews}
use Rattle.ps_gen.specs.ps_base.TyView as types
use Rattle.ps_gen.specs.ps_base.declared.line.Line.{Line}
use Rattle.ps_gen.specs.ps_base.declared.trap.Trap.TheVariants.{TooDeep}
use Rattle.ps_gen.specs.ps_base.declared.instr.Instr.{Instr}
use Rattle.ps_gen.specs.ps_base.declared.instr.Instr.TheVariants as instr
use Rattle.ps_gen.specs.ps_program.Node.{Param, Node, BodyNode, body}
use Rattle.ps_gen.specs.ps_program.Slots.{slot_count}
use Rattle.ps_typing_laws.specs.ps_typing.Locals.{locals_on, taken_by_params}
use Rattle.ps_typing_laws.specs.ps_typing.WellTyped.{types_of_params}
use Rattle.ps_stepping.specs.ps_heap.Ends.{Trapped}
use Rattle.ps_stepping.specs.ps_heap.Events.{Event, Turn}
use Rattle.ps_stepping.specs.ps_heap.References.{scope_ids}
use Rattle.ps_stepping.specs.ps_heap.Held.{Held, touching}
use Rattle.ps_stepping.specs.ps_heap.Values.{Value, Num, Nil, Procedure, as_written, word_of}
use Rattle.ps_stepping.specs.ps_heap.Objects.{Heap}
use Rattle.ps_stepping.specs.ps_meaning.Meaning.{Frame, Store, State, stop, after, ◌>>=◌, choose, change, touch_scope, back_to, in_frame, with_turns, turned, spent, take_turn, on_held}
use Rattle.ps_stepping.specs.ps_meaning.Evaluation.{most_calls, call_meant}
use Rattle.ps_stepping.specs.ps_meaning.Frames.{arguments_on, frame_of_call}
use Rattle.ps_stepping.specs.ps_meaning.Calls.{body_meant, call_within, context}
use Rattle.ps_gen.specs.ps_emitter.Choices as choice
use Rattle.ps_gen.specs.Units.{unit_of}
use Rattle.ps_stepping.specs.Config.{frame_words, Caller, Config}
use Rattle.ps_stepping.specs.Steps.{Goes, Stops}
use Rattle.ps_stepping.specs.Machine.{act}
use Rattle.ps_stepping.specs.Procedures.{in_turn, waiting, body_of_call}
use Rattle.ps_code_laws.specs.Fitting.{IsOf, AreOf, IsTypedHeld}
use Rattle.heap_fit.specs.Bodies.{Level, IsFitBody}
use Rattle.fit_soundness.specs.Levels.{IsProcedure}
use Rattle.ps_soundness.proofs.Calling.{ValuesOf, values_kept}
use Rattle.ps_code_laws.specs.Compiled.{compiled, compiled_all, compiled_store, WeighsUnits}
use Rattle.ps_soundness.specs.Valued.{IsValued}
use Rattle.ps_code_laws.specs.Literals.{BodyIs}
use Rattle.ps_code_laws.specs.Meets.{standing, HasRoom}
use Rattle.ps_code_laws.proofs.Literals.{IsLiteral, AreLiterals, InHeap}
use Rattle.ps_code_laws.proofs.HeldCompiling.{touching_compiled}
use Rattle.ps_code_laws.proofs.Clauses.{fields_by}
use Rattle.ps_code_laws.proofs.Counting.{HasLocals, has_locals}
use Rattle.ps_code_laws.proofs.Standing.{AtBy}
use Rattle.ps_code_laws.proofs.Doing.{Origin, Way, place, Comes, Does, step, halt_there}
use Rattle.ps_code_laws.proofs.Operands.{context_in, Stand}
use Rattle.ps_code_laws.proofs.RowForms.{pushed_nums, pushed_refs, pushed_nums_over, pushed_refs_over}
use Rattle.ps_code_laws.proofs.CallForms.{Returned, back_behind, call_acts}
use Rattle.ps_code_laws.proofs.Arguments.{fields_of, kinds_are, values_by, references_are, num_locals, ref_locals}
use Rattle.fit_soundness.proofs.Levels.{fits, procedure_kept}
use Rattle.fit_soundness.proofs.Standings.{Standing}

module _ (w : Way) where
  -- From its first instruction a body that is called does what it means where at most so many turns are left, whatever waits that has room: whatever is
  -- so of what it returns is so of where it begins. Its bodies fit, and so do those of its arguments and of the heap.
  abbrev pub Enters : ℕ → Type 0
  Enters n = (caller : Caller) (of : BodyNode) (scope : Option ℕ) (args : List Value) (ps : TyViews) (g : TyView) (s : State) →
      s.store.turns ≤ n → HasRoom (caller ∷ []) → IsTypedHeld s.store.held → WeighsUnits s.store.held.weigh → IsProcedure s.store.held.objects (types.Proc ps g) of scope →
      ValuesOf fits s.store.held.objects ps args → BodyIs w.Body IsValued of → AreLiterals w.Body args → InHeap w.Body s.store.held.objects →
      Returned w caller g (body_meant (context n (suc (length w.callers))) of args (frame_of_call of scope args) s) →
      w.Holds (standing (unit_of of) (caller ∷ w.callers) 0 [] [] (frame_of_call of scope args) s.store) s.events

  -- where fewer turns may be left than these
  abbrev pub Entered : ℕ → Type 0
  Entered n = (m : ℕ) → m < n → Enters m

  -- the configuration that a call makes is where the body stands in its frame
  body_stands : (params : List Param) (gives : TyView) (tree : Node) (text : Option (List ℕ)) (line : Line) (scope : Option ℕ) (args : List Value)
      (store : Store) (c : Config) → c.callers ≡ w.callers →
      body_of_call (unit_of (body params gives tree text line)) scope (map word_of (arguments_on true params args) ++ [])
      (compiled_all (arguments_on false params args) ++ []) (compiled_store store) c
      ≡ standing (unit_of (body params gives tree text line)) (waiting c ∷ w.callers) 0 [] []
      (frame_of_call (body params gives tree text line) scope args) store
  unfolding frame_of_call
  body_stands params gives tree text line scope args store c same =
      let of = body params gives tree text line in
      let made : (ℕ → ℤ) → (ℕ → Value) → List Caller → Config = λ nums refs callers. record {
        unit = unit_of of;
        at = 0;
        nums = [];
        refs = [];
        locals = record { nums = nums; refs = refs };
        scope = scope;
        callers = waiting c ∷ callers;
        store = compiled_store store;
      } in
      ap (λ (zs : List ℤ). made (λ slot. get_or zs slot (pos 0)) (λ slot. get_or (compiled_all (arguments_on false params args) ++ []) slot Nil) c.callers)
      (append-nil (map word_of (arguments_on true params args)))
      ∙ ap (λ (vs : List Value). made (λ slot. get_or (map word_of (arguments_on true params args)) slot (pos 0)) (λ slot. get_or vs slot Nil) c.callers)
      (append-nil (compiled_all (arguments_on false params args)))
      ∙ ap (λ (row : ℕ → ℤ). made row (λ slot. get_or (compiled_all (arguments_on false params args)) slot Nil) c.callers)
      (λ i slot. num_locals params args slot i)
      ∙ ap (λ (row : ℕ → Value). made (λ slot. word_of (get_or (arguments_on true params args) slot (Num (pos 0)))) row c.callers)
      (λ i slot. ref_locals params args slot i)
      ∙ ap (made (λ slot. word_of (get_or (arguments_on true params args) slot (Num (pos 0))))
      (λ slot. compiled (get_or (arguments_on false params args) slot Nil))) same

  -- after the test of the depth: where a turn is left it is taken, and the body begins
  call_goes : (m turns p : ℕ) (i : Instr) (before : Config) (params : List Param) (gives : TyView) (tree : Node)
      (text : Option (List ℕ)) (line : Line) (scope : Option ℕ) (args : List Value) (nums : List ℤ) (refs : List Value) (f : Frame)
      (s : State) → turns ≤ suc m → Enters m → before.store.held.counted ≡ s.store.held.counted → AtBy w.Allows before.unit before.at i →
      act i before
      ≡ in_turn (with_turns (compiled_store s.store) turns) (unit_of (body params gives tree text line)) scope
      (map word_of (arguments_on true params args) ++ []) (compiled_all (arguments_on false params args) ++ []) (place w (p + 9) nums refs f s.store) →
      HasRoom (waiting (place w (p + 9) nums refs f s.store) ∷ []) → IsTypedHeld s.store.held → WeighsUnits s.store.held.weigh →
      IsProcedure s.store.held.objects (types.Proc (types_of_params params) gives) (body params gives tree text line) scope →
      ValuesOf fits s.store.held.objects (types_of_params params) args → BodyIs w.Body IsValued (body params gives tree text line) → AreLiterals w.Body args →
      InHeap w.Body s.store.held.objects →
      Comes w (p + 9) nums refs gives (back_to f (after (turned (with_turns s.store turns)
      (frame_of_call (body params gives tree text line) scope args) s)
      (λ t. touch_scope >>= λ u. body_meant (context m (suc (length w.callers))) (body params gives tree text line) args))) →
      w.Holds before s.events
  unfolding after back_to ◌>>=◌ change frame_of_call
  call_goes m zero p i before params gives tree text line scope args nums refs f s le enters same at acts room typed weighs is are fitted literals held reach =
      halt_there w i s same at acts reach
  call_goes m (suc left) p i before params gives tree text line scope args nums refs f s le enters same at acts room typed weighs is are fitted literals held
      reach =
      let of = body params gives tree text line in
      let c = place w (p + 9) nums refs f s.store in
      let taken : Store = record s.store { turns = left } in
      let touched : Store = on_held (touching (scope_ids scope) taken.held) taken in
      let turn : List Event = Turn s.store.held.counted ∷ [] in
      let now : State = record { events = s.events ++ turn; store = touched } in
      let entered : Held → Config = λ held. body_of_call (unit_of of) scope (map word_of (arguments_on true params args) ++ [])
      (compiled_all (arguments_on false params args) ++ []) (on_held held (compiled_store taken)) c in
      step w turn i at (acts ∙ ap (λ (held : Held). Goes turn (entered held)) (touching_compiled (scope_ids scope) s.store.held weighs))
      (subst (λ (next : Config). w.Holds next now.events) (sym (body_stands params gives tree text line scope args touched c refl))
      (enters (waiting c) of scope args (types_of_params params) gives now (omega arith) room typed weighs is are fitted literals held
      (back_behind w p nums refs gives f s.store
      (body_meant (context m (suc (length w.callers))) of args (frame_of_call of scope args) now) reach)))

  -- the test of the depth, and where no turn may be left
  depth_goes : (turns p : ℕ) (deep : Bool) (i : Instr) (before : Config) (params : List Param) (gives : TyView) (tree : Node)
      (text : Option (List ℕ)) (line at_line : Line) (scope : Option ℕ) (args : List Value) (nums : List ℤ) (refs : List Value) (f : Frame) (s : State) →
      s.store.turns ≤ turns → Entered turns → before.store.held.counted ≡ s.store.held.counted → AtBy w.Allows before.unit before.at i →
      act i before
      ≡ (if deep then in_turn (spent (compiled_store s.store)) (unit_of (body params gives tree text line)) scope
      (map word_of (arguments_on true params args) ++ []) (compiled_all (arguments_on false params args) ++ []) (place w (p + 9) nums refs f s.store)
      else Stops (Trapped TooDeep at_line) 0) →
      HasRoom (waiting (place w (p + 9) nums refs f s.store) ∷ []) → IsTypedHeld s.store.held → WeighsUnits s.store.held.weigh →
      IsProcedure s.store.held.objects (types.Proc (types_of_params params) gives) (body params gives tree text line) scope →
      ValuesOf fits s.store.held.objects (types_of_params params) args → BodyIs w.Body IsValued (body params gives tree text line) → AreLiterals w.Body args →
      InHeap w.Body s.store.held.objects →
      Comes w (p + 9) nums refs gives (choose deep (in_frame (frame_of_call (body params gives tree text line) scope args)
      (call_within turns (suc (length w.callers)) (body params gives tree text line) args)) (stop (Trapped TooDeep at_line)) f s) →
      w.Holds before s.events
  unfolding choose stop in_frame back_to call_within take_turn ◌>>=◌
  depth_goes turns p false i before params gives tree text line at_line scope args nums refs f s le entered same at acts room typed weighs is are fitted literals
      held reach =
      halt_there w i s same at acts reach
  depth_goes zero p true i before params gives tree text line at_line scope args nums refs f s le entered same at acts room typed weighs is are fitted literals
      held reach =
      let none_left : s.store.turns ≡ 0 = omega arith in
      halt_there w i s same at (acts ∙ ap (λ (t : ℕ). in_turn (with_turns (compiled_store s.store) t) (unit_of (body params gives tree text line)) scope
      (map word_of (arguments_on true params args) ++ []) (compiled_all (arguments_on false params args) ++ []) (place w (p + 9) nums refs f s.store))
      none_left) reach
  depth_goes (suc m) p true i before params gives tree text line at_line scope args nums refs f s le entered same at acts room typed weighs is are fitted literals
      held reach =
      call_goes m s.store.turns p i before params gives tree text line scope args nums refs f s le (entered m (omega arith)) same at acts room typed weighs is
      are fitted literals held reach

  -- the locals of a body that fits
  few_locals : {levels : List Level} (params : List Param) (gives : TyView) (tree : Node) (text : Option (List ℕ)) (line : Line) →
      IsFitBody levels (body params gives tree text line) → slot_count (body params gives tree text line) ≤ frame_words →
      (locals_on true (body params gives tree text line) ≤ frame_words) × (locals_on false (body params gives tree text line) ≤ frame_words)
  few_locals params gives tree text line is_body few =
      let counted : HasLocals (body params gives tree text line) = has_locals is_body in
      let room = counted.room in (omega arith, omega arith)

  call_by : (turns : ℕ) (heap : Heap) (known : Standing) (p need : ℕ) (at_line : Line) (params : List Param) (gives : TyView) (tree : Node)
      (text : Option (List ℕ)) (line : Line) (scope : Option ℕ) (args : List Value) → 1 ≤ need → Entered turns →
      BodyIs w.Body IsValued (body params gives tree text line) → AreLiterals w.Body args →
      IsProcedure heap (types.Proc (types_of_params params) gives) (body params gives tree text line) scope → AreOf heap (fields_of params) args →
      Stand w p (instr.Call (choice.references (types_of_params params)) at_line) →
      Does w (record { turns = turns; heap = heap; known = known }) (pushed_nums (fields_of params) args [])
      (pushed_refs (fields_of params) args (compiled (Procedure (as_written (body params gives tree text line)) scope) ∷ []))
      (call_meant (context_in w turns) at_line (Procedure (as_written (body params gives tree text line)) scope) args) gives need p (p + 9)
  unfolding call_meant
  call_by turns heap known p need at_line params gives tree text line scope args one entered fitted literals is are at = record {
    by = λ nums refs f s room since reach.
        let of = body params gives tree text line in
        let v = compiled (Procedure (as_written of) scope) in
        let few = few_locals params gives tree text line is.fit (w.fits of fitted.0).slots in
        let i = instr.Call (taken_by_params false params) at_line in
        let at_call : Stand w p i = subst (λ (n : ℕ). Stand w p (instr.Call n at_line)) (references_are params) at in
        let values = values_by heap (types_of_params params) args are in
        let now = s.store.held.objects in
        let begun = depth_goes turns p (nat_lt (length w.callers) most_calls) i
        (place w p (pushed_nums (fields_of params) args nums) (pushed_refs (fields_of params) args (v ∷ refs)) f s.store) params gives tree text line
        at_line scope args nums refs f s since.few entered refl at_call
        (call_acts w heap p at_line params gives tree text line scope args nums refs f s.store (kinds_are params (w.fits of fitted.0).valued.0) values few.0 few.1)
        (let a = room.on_nums in omega arith, let a = room.on_refs in omega arith) since.typed since.weighs
        (procedure_kept heap now since.grows (types.Proc (types_of_params params) gives) of scope is)
        (values_kept fits heap now since.grows (types_of_params params) args values) fitted literals since.held.1 reach in
        subst (λ (zs : List ℤ). w.Holds (place w p zs (pushed_refs (fields_of params) args (v ∷ []) ++ refs) f s.store) s.events)
        (sym (pushed_nums_over (fields_of params) args [] nums))
        (subst (λ (vs : List Value). w.Holds (place w p (pushed_nums (fields_of params) args nums) vs f s.store) s.events)
        (sym (pushed_refs_over (fields_of params) args (v ∷ []) refs)) begun);
  }

  -- an instruction that calls the procedure under its arguments
  pub does_call : (n : Origin) (p need : ℕ) (line : Line) (tys : TyViews) (ty : TyView) (v : Value) (args : List Value) → 1 ≤ need → Entered n.turns →
      IsOf n.heap (types.Proc tys ty) v → IsLiteral w.Body v → AreOf n.heap (fields_by tys) args → AreLiterals w.Body args →
      Stand w p (instr.Call (choice.references tys) line) →
      Does w n (pushed_nums (fields_by tys) args []) (pushed_refs (fields_by tys) args (compiled v ∷ [])) (call_meant (context_in w n.turns) line v args)
      ty need p (p + 9)
  does_call n p need line tys ty (Procedure (as_written (body params gives tree text own_line)) scope) args one entered is fitted are literals at =
      let of = body params gives tree text own_line in
      let v = Procedure (as_written of) scope in
      let same : tys ≡ types_of_params params = let e = is.ty_is in cc in
      let same_given : ty ≡ gives = let e = is.ty_is in cc in
      let Done : TyViews → TyView → Type 0 = λ ts t. IsProcedure n.heap (types.Proc ts t) of scope → AreOf n.heap (fields_by ts) args →
      Stand w p (instr.Call (choice.references ts) line) →
      Does w n (pushed_nums (fields_by ts) args []) (pushed_refs (fields_by ts) args (compiled v ∷ [])) (call_meant (context_in w n.turns) line v args)
      t need p (p + 9) in
      subst (λ (ts : TyViews). Done ts ty) (sym same) (subst (λ (t : TyView). Done (types_of_params params) t) (sym same_given)
      (λ h k stand_at. call_by n.turns n.heap n.known p need line params gives tree text own_line scope args one entered fitted literals h k stand_at))
      is are at
  does_call n p need line tys ty _ args one entered is fitted are literals at = absurd is
