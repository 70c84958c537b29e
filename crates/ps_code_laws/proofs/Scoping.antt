-- A clause in a scope of its own: the scope is made and entered, the clause's code runs, and the scope round it is the current one again.
use Rattle.std.proofs.Common.{◌≡◌, ℕ, ◌+◌, ℤ, List, [], ◌∷◌, ◌++◌, map, Option, Some, sym, ap, ◌∙◌, subst, arith}
use Rattle.ps_gen.specs.ps_program.Node.{BodyNode}
use Rattle.ps_gen.specs.ps_base.TyView.{TyView}
use Rattle.ps_gen.specs.ps_base.CodeUnit.{text}
use Rattle.ps_gen.specs.ps_base.declared.instr.Instr.TheVariants as instr
use Rattle.ps_stepping.specs.text_forms.Forms.{forms_of}
use Rattle.ps_typing_laws.specs.ps_typing.WellTyped.{Local}
use Rattle.ps_stepping.specs.ps_heap.Values.{Value}
use Rattle.ps_stepping.specs.ps_heap.Objects.{Heap, Object, Structure, Elements, Scope, Keyed, object_at, with_new, new_number}
use Rattle.ps_stepping.specs.ps_heap.Scopes.{first_value, new_scope, scope_at}
use Rattle.ps_stepping.specs.ps_meaning.Meaning.{Frame, Store, State, Outcome, Value_is, Ends, Meaning, after, ◌>>=◌, enter, back_in, scoped, and_object}
use Rattle.ps_stepping.specs.Config.{constants_in, constant_at}
use Rattle.ps_stepping.specs.Machine.{Step, on, act}
use Rattle.ps_stepping.specs.Procedures.{of_scope}
use Rattle.ps_soundness.specs.Running.{IsScopeText}
use Rattle.ps_soundness.specs.Over.{IsSameSort, Grows}
use Rattle.ps_code_laws.specs.Fitting.{IsTypedHeap, AreLocals}
use Rattle.ps_soundness.proofs.Growing.{grows_not, grows_then, grows_new, at_new, roots_kept, locals_kept}
use Rattle.heap_fit.specs.Bodies.{Level}
use Rattle.fit_soundness.specs.Levels.{AreLevelsAt}
use Rattle.ps_code_laws.specs.Compiled.{compiled_heap}
use Rattle.ps_code_laws.specs.Meets.{nums_left, refs_left}
use Rattle.ps_code_laws.proofs.Compiling.{compiled_found, object_compiled}
use Rattle.ps_code_laws.proofs.Known.{new_level, opened}
use Rattle.ps_code_laws.proofs.Staying.{IsIn, Stays}
use Rattle.ps_code_laws.proofs.Doing.{Origin, IsSince, after_it, Behind, Leads, leads_left, Way, place, Comes, Does, quiet, less_room}
use Rattle.ps_code_laws.proofs.Operands.{Stand}
use Rattle.ps_code_laws.proofs.From.{From, from_does}
use Rattle.ps_code_laws.proofs.Holding.{holds_enter}
use Rattle.ps_code_laws.proofs.ScopeForms.{does_enter}
use Rattle.fit_soundness.proofs.Levels.{fits, level_made}
use Rattle.fit_soundness.proofs.Standings.{Standing, AreAround}

-- a scope keeps its text and its parent
scope_kept : (bytes : List ℕ) (parent : Option ℕ) (names : List Value) (now : Object) → IsSameSort (Scope bytes parent names) now →
    (others : List Value) × (now ≡ Scope bytes parent others)
scope_kept bytes parent names (Structure class values) h = absurd h
scope_kept bytes parent names (Elements other low values) h = absurd h
scope_kept bytes parent names (Keyed table) h = absurd h
scope_kept bytes parent names (Scope other round others) h =
    (others, ap (λ (t : List ℕ). Scope t round others) h.0 ∙ ap (λ (p : Option ℕ). Scope bytes p others) h.1)

-- a scope of this number stands inside this one
record IsInside (heap : Heap) (id : ℕ) (parent : Option ℕ) : Type 0 where
  text : List ℕ
  names : List Value
  is : object_at heap id ≡ Some (Scope text parent names)

inside_kept : (old new : Heap) (bytes : List ℕ) (parent : Option ℕ) → Grows (with_new old (new_scope bytes parent)) new →
    IsInside new (new_number old) parent
unfolding new_scope
inside_kept old new bytes parent g =
    let stays = g (new_number old) (new_scope bytes parent) (at_new old (new_scope bytes parent)) in
    let kept = scope_kept bytes parent (map first_value (forms_of bytes)) stays.now stays.sort in
    record { text = bytes; names = kept.0; is = stays.is ∙ ap (λ (o : Object). Some o) kept.1 }

abbrev InsideOn : ℕ → Option ℕ → Outcome → Type 0
InsideOn id parent (Value_is v g t) = IsInside t.store.held.objects id parent
InsideOn id parent (Ends e t) = Unit {0}

inside_on : (P : BodyNode → Type 0) (n : Origin) (last : Standing) (ty : TyView) (old : Heap) (bytes : List ℕ) (parent : Option ℕ) (o : Outcome) →
    Grows (with_new old (new_scope bytes parent)) n.heap → Behind P n last ty o → InsideOn (new_number old) parent o
inside_on P n last ty old bytes parent (Value_is v g t) from left =
    inside_kept old t.store.held.objects bytes parent (grows_then (with_new old (new_scope bytes parent)) n.heap t.store.held.objects from left.grows)
inside_on P n last ty old bytes parent (Ends e t) from left = tt

locals_in : (heap : Heap) (frame : Frame) (scope : Option ℕ) (locals : List Local) → AreLocals heap frame locals →
    AreLocals heap (record frame { scope = scope }) locals
locals_in heap frame scope [] h = tt
locals_in heap frame scope (local ∷ locals) h = (h.0, locals_in heap frame scope locals h.1)

-- what is known where a new scope has been entered
pub entered_since : {P : BodyNode → Type 0} (n : Origin) (bytes : List ℕ) (levels : List Level) (own : IsScopeText bytes) (f : Frame) (s : State) →
    n.known.levels ≡ Some levels → IsSince P n f s →
    IsSince P (after_it n (with_new s.store.held.objects (new_scope bytes f.scope)) (opened n.known own.fields levels))
    (record f { scope = Some (new_number s.store.held.objects) }) (record s { store = and_object (new_scope bytes f.scope) s.store })
unfolding enter
entered_since {P = P} n bytes levels own f s are since =
    let old = s.store.held.objects in
    let new = with_new old (new_scope bytes f.scope) in
    let around = subst (λ (of : Option (List Level)). AreAround old f.scope of) are since.are.1 in
    let made = subst (λ (t : List ℕ). IsTypedHeap (with_new old (new_scope t f.scope))
    × AreLevelsAt (with_new old (new_scope t f.scope)) (Some (new_number old)) (new_level own.fields ∷ levels)) (sym own.text_is)
    (level_made old f.scope own.fields levels own.named since.typed.0 around) in
    let held = holds_enter P bytes f s since.held.0 since.held.1 in
    record {
      few = since.few;
      grows = grows_not new;
      typed = (made.0, roots_kept old new (grows_new old (new_scope bytes f.scope)) s.store.held.directory since.typed.1);
      are = (
        locals_in new f (Some (new_number old)) n.known.locals
            (locals_kept fits old new (grows_new old (new_scope bytes f.scope)) f n.known.locals since.are.0),
        made.1,
      );
      held = (held.1, held.2);
      weighs = since.weighs;
    }

module _ (w : Way) where
  leave_acts : (q : ℕ) (nums : List ℤ) (refs : List Value) (g : Frame) (store : Store) (id : ℕ) (parent : Option ℕ) → g.scope ≡ Some id →
      IsInside store.held.objects id parent →
      act instr.Leave (place w q nums refs g store) ≡ on (place w (q + 1) nums refs (record g { scope = parent }) store)
  leave_acts q nums refs g store id parent in_it inside =
      let behind : Option ℕ → Step = λ scope. on (place w (q + 1) nums refs (record g { scope = scope }) store) in
      ap (λ (at : Option ℕ). of_scope (scope_at (compiled_heap store.held.objects) at) (λ of round. behind round)) in_it
      ∙ ap (λ (found : Option Object). of_scope found (λ of round. behind round)) (object_compiled store.held.objects id ∙ ap compiled_found inside.is)

  comes_left : (q : ℕ) (nums : List ℤ) (refs : List Value) (ty : TyView) (scope : Option ℕ) (id : ℕ) (o : Outcome) → IsIn (Some id) o →
      InsideOn id scope o → Stand w q instr.Leave → Comes w (q + 1) nums refs ty (back_in scope o) → Comes w q nums refs ty o
  unfolding back_in
  comes_left q nums refs ty scope id (Value_is v g t) in_it inside at reach =
      quiet w instr.Leave at (leave_acts q (nums_left ty v ++ nums) (refs_left ty v ++ refs) g t.store id scope in_it inside) reach
  comes_left q nums refs ty scope id (Ends e t) in_it inside at reach = reach

  -- from locals of which something is so that says nothing of the scope
  pub from_scoped : {n : Origin} {pre : Frame → Type 0} {m : Meaning} {ty : TyView} {need : ℕ} {last : Standing} (p q k : ℕ) (bytes : List ℕ)
      (levels : List Level) (own : IsScopeText bytes) → n.known.levels ≡ Some levels → Stand w p (instr.Scope k) →
      constant_at (constants_in w.unit) k ≡ Some (text bytes) → Stand w q instr.Leave → Stays m →
      ((f : Frame) (scope : Option ℕ) → pre f → pre (record f { scope = scope })) →
      ((new : Heap) → Grows n.heap new → Leads w.Body (after_it n new (opened n.known own.fields levels)) last ty m) →
      ((new : Heap) → Grows n.heap new → From w (after_it n new (opened n.known own.fields levels)) pre [] [] m ty need (p + 5) q) →
      From w n pre [] [] (scoped bytes m) ty need p (q + 1)
  unfolding scoped ◌>>=◌ after enter
  from_scoped {n = n} {m = m} {ty = ty} {need = need} {last = last} p q k bytes levels own are at there leave stays into leads d = record {
    by = λ nums refs f s is room since reach.
        let old = s.store.held.objects in
        let new = with_new old (new_scope bytes f.scope) in
        let inner : Frame = record f { scope = Some (new_number old) } in
        let held : State = record s { store = and_object (new_scope bytes f.scope) s.store } in
        let grown = grows_then n.heap old new since.grows (grows_new old (new_scope bytes f.scope)) in
        let now = entered_since n bytes levels own f s are since in
        (does_enter w n p k bytes at there).by nums refs f s (less_room w 0 need nums refs (omega arith) room) since
        ((d new grown).by nums refs inner held (into f (Some (new_number old)) is) room now
        (comes_left q nums refs ty f.scope (new_number old) (m inner held) (stays inner held)
        (inside_on w.Body (after_it n new (opened n.known own.fields levels)) last ty old bytes f.scope (m inner held) (grows_not new)
        (leads_left (leads new grown) now)) leave reach));
  }

  pub does_scoped : {n : Origin} {m : Meaning} {ty : TyView} {need : ℕ} {last : Standing} (p q k : ℕ) (bytes : List ℕ) (levels : List Level)
      (own : IsScopeText bytes) → n.known.levels ≡ Some levels → Stand w p (instr.Scope k) →
      constant_at (constants_in w.unit) k ≡ Some (text bytes) → Stand w q instr.Leave → Stays m →
      ((new : Heap) → Grows n.heap new → Leads w.Body (after_it n new (opened n.known own.fields levels)) last ty m) →
      ((new : Heap) → Grows n.heap new → Does w (after_it n new (opened n.known own.fields levels)) [] [] m ty need (p + 5) q) →
      Does w n [] [] (scoped bytes m) ty need p (q + 1)
  does_scoped {n = n} {m = m} {ty = ty} {need = need} {last = last} p q k bytes levels own are at there leave stays leads d =
      let whole : From w n (λ f. Unit {0}) [] [] (scoped bytes m) ty need p (q + 1)
      = from_scoped {last = last} p q k bytes levels own are at there leave stays (λ f scope is. tt) leads (λ new g. from_does w _ (d new g)) in
      record { by = λ nums refs f s room since reach. whole.by nums refs f s tt room since reach }
