-- A call: its arguments are taken from the stacks, the depth is tested and a turn taken, and the body that is called begins. What it returns is what
-- the call comes to, after which the frame is the caller's again.
use Rattle.std.proofs.Common.{◌≡◌, ℕ, ◌+◌, ◌≤◌, ℤ, Bool, true, false, not, ◌&&◌, List, [], ◌∷◌, ◌++◌, length, map, Option, refl, ap, ◌∙◌, arith, eq-eqb}
use Rattle.std.specs.Prelude.{nat_eq, nat_lt, if◌then◌else◌}
use Rattle.std.proofs.lemmas.Bool.{le-ltb}
use Rattle.ps_gen.specs.ps_base.TyView.{TyView}
use Rattle.ps_gen.specs.ps_base.declared.line.Line.{Line}
use Rattle.ps_gen.specs.ps_base.declared.instr.Instr.TheVariants as instr
use Rattle.ps_gen.specs.ps_program.Node.{Param, Node, body}
use Rattle.ps_typing_laws.specs.ps_typing.Locals.{locals_on, taken_by_params}
use Rattle.ps_typing_laws.specs.ps_typing.WellTyped.{types_of_params}
use Rattle.ps_stepping.specs.ps_heap.Values.{Value, Procedure, as_written, word_of}
use Rattle.ps_stepping.specs.ps_heap.Objects.{Heap}
use Rattle.ps_stepping.specs.ps_meaning.Meaning.{Frame, Store, Outcome, Value_is, Ends, back_to}
use Rattle.ps_stepping.specs.ps_meaning.Frames.{arguments_on}
use Rattle.ps_gen.specs.Units.{frame_of, unit_of}
use Rattle.ps_stepping.specs.Config.{frame_words, Caller, frame_in}
use Rattle.ps_stepping.specs.Steps.{Stuck}
use Rattle.ps_stepping.specs.Machine.{act, resumed}
use Rattle.ps_stepping.specs.Objects.{pop_nums}
use Rattle.ps_stepping.specs.Procedures.{takes_refs, pop_procedure, called, waiting}
use Rattle.ps_soundness.proofs.Calling.{ValuesOf}
use Rattle.ps_code_laws.specs.Compiled.{compiled, compiled_routine, compiled_all, compiled_store}
use Rattle.ps_code_laws.specs.Meets.{nums_left, refs_left}
use Rattle.ps_code_laws.proofs.Doing.{Way, if_true, place, Comes}
use Rattle.ps_code_laws.proofs.RowForms.{pushed_nums, pushed_refs}
use Rattle.ps_code_laws.proofs.Arguments.{fields_of, KindsAre, refs_popped, nums_popped}
use Rattle.fit_soundness.proofs.Levels.{fits}

and_true : (a b : Bool) → a ≡ true → b ≡ true → (a && b) ≡ true
and_true true b h k = k
and_true false b h k = h

not_below : (m n : ℕ) → n ≤ m → not (nat_lt m n) ≡ true
not_below m n le = ap not (le-ltb m n le)

-- a body whose locals fit takes its arguments
takes : (params : List Param) (gives : TyView) (tree : Node) (text : Option (List ℕ)) (line : Line) →
    locals_on true (body params gives tree text line) ≤ frame_words → locals_on false (body params gives tree text line) ≤ frame_words →
    takes_refs (taken_by_params false params) (frame_of (body params gives tree text line)) ≡ true
takes params gives tree text line nums_fit refs_fit =
    let of = body params gives tree text line in
    let n = taken_by_params false params in
    and_true (nat_eq n n) _ (eq-eqb n n refl)
    (and_true (not (nat_lt (locals_on false of) n)) _ (not_below (locals_on false of) n (omega arith))
    (and_true (not (nat_lt (locals_on true of) (taken_by_params true params))) _
    (not_below (locals_on true of) (taken_by_params true params) (omega arith))
    (and_true (not (nat_lt frame_words (locals_on true of))) _ (not_below frame_words (locals_on true of) nums_fit)
    (not_below frame_words (locals_on false of) refs_fit))))

module _ (w : Way) where
  -- what a call does once its arguments are taken
  pub call_acts : (heap : Heap) (p : ℕ) (at : Line) (params : List Param) (gives : TyView) (tree : Node) (text : Option (List ℕ)) (line : Line)
      (scope : Option ℕ) (args : List Value) (nums : List ℤ) (refs : List Value) (f : Frame) (store : Store) → KindsAre params →
      ValuesOf fits heap (types_of_params params) args →
      locals_on true (body params gives tree text line) ≤ frame_words → locals_on false (body params gives tree text line) ≤ frame_words →
      act (instr.Call (taken_by_params false params) at) (place w p (pushed_nums (fields_of params) args nums)
      (pushed_refs (fields_of params) args (compiled (Procedure (as_written (body params gives tree text line)) scope) ∷ refs)) f store)
      ≡ called (length w.callers) at (unit_of (body params gives tree text line)) scope (map word_of (arguments_on true params args) ++ [])
      (compiled_all (arguments_on false params args) ++ []) (place w (p + 9) nums refs f store)
  unfolding compiled_routine
  call_acts heap p at params gives tree text line scope args nums refs f store kinds are nums_fit refs_fit =
      let of = body params gives tree text line in
      let vs = compiled_all (arguments_on false params args) ++ [] in
      refs_popped w heap params kinds (p + 9) args are [] (pushed_nums (fields_of params) args nums)
      (compiled (Procedure (as_written of) scope) ∷ refs) f store
      (λ vs d. pop_procedure d (λ unit scope e. if takes_refs (taken_by_params false params) (frame_in unit)
      then pop_nums (frame_in unit).num_params [] e (λ zs c. called (length c.callers) at unit scope zs vs c) else Stuck))
      ∙ if_true (takes_refs (taken_by_params false params) (frame_of of)) _ _ (takes params gives tree text line nums_fit refs_fit)
      ∙ nums_popped w heap params kinds (p + 9) args are [] nums refs f store
      (λ zs c. called (length c.callers) at (unit_of of) scope zs vs c)

  -- what comes back to a body that waits, and what ends the run
  abbrev pub Returned : Caller → TyView → Outcome → Type 0
  Returned caller gives (Value_is v f s) =
      w.Holds (resumed caller (nums_left gives v ++ caller.nums) (refs_left gives v ++ caller.refs) w.callers (compiled_store s.store)) s.events
  Returned caller gives (Ends e s) = w.Final e s.store.held.counted s.events

  -- after a call the frame is the caller's
  pub back_behind : (p : ℕ) (nums : List ℤ) (refs : List Value) (gives : TyView) (f : Frame) (store : Store) (o : Outcome) →
      Comes w (p + 9) nums refs gives (back_to f o) → Returned (waiting (place w (p + 9) nums refs f store)) gives o
  unfolding back_to
  back_behind p nums refs gives f store (Value_is v g s) reach = reach
  back_behind p nums refs gives f store (Ends e s) reach = reach
