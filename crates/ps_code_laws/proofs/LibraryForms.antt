-- Calls of the library do what they mean: those over tables and databases, with what they ask and save, and those over texts and the input.
use Rattle.std.proofs.Common.{◌≡◌, ℕ, ◌+◌, ℤ, pos, List, [], ◌∷◌, ◌++◌, length, Option, Some, refl, sym, ap, ◌∙◌, subst, arith}
use Rattle.std.specs.Fmt.{signed_decimal}
use Rattle.ps_gen.specs.ps_base.TyView.{TyView, TyViews}
use Rattle.ps_gen.specs.ps_base.TyView as types
use Rattle.ps_gen.specs.ps_base.declared.line.Line.{Line}
use Rattle.ps_gen.specs.ps_base.declared.instr.Instr.{Instr}
use Rattle.ps_gen.specs.ps_base.declared.instr.Instr.TheVariants as instr
use Rattle.ps_typing_laws.specs.ps_typing.Library.{one, two, three}
use Rattle.ps_stepping.specs.ps_heap.Texts.{Attempt, Yields, Fails, line_read, behind_line, is_at_end}
use Rattle.ps_stepping.specs.ps_heap.Values.{Value, Num, Text, word_of, number_of}
use Rattle.ps_stepping.specs.ps_heap.Objects.{Heap}
use Rattle.ps_stepping.specs.ps_heap.Calls.{Answer}
use Rattle.ps_stepping.specs.ps_heap.Library.{HeapProcedure, CreateDatabase, OpenDatabase, Commit, MakeTable, EnterString, LookUpString, EnterInt, LookUpInt, Cardinality, LibraryProcedure, OnHeap, ReadLine, AtEnd, Length, IntText, library_procedure, heap_call}
use Rattle.ps_stepping.specs.ps_meaning.Meaning.{Frame, Store, State, give, after, ◌>>=◌, attempt, put_answer, answered, made_text, with_input, put_input, on_held, on_input, stop}
use Rattle.ps_stepping.specs.ps_meaning.Operations.{read_line, at_end, lib_meant}
use Rattle.ps_stepping.specs.Config.{Config, frame_words, frame_in}
use Rattle.ps_stepping.specs.Steps.{Step, Goes, attempted}
use Rattle.ps_stepping.specs.Machine.{act}
use Rattle.ps_stepping.specs.Library.{gives_nothing, gives_num, gives_ref, answered_by, call_on_heap, library_of}
use Rattle.ps_code_laws.specs.Fitting.{IsOf, AreOf}
use Rattle.ps_soundness.proofs.HeapCalls.{taken_by, given_by}
use Rattle.ps_soundness.proofs.Library.{parameters_of, type_given}
use Rattle.ps_code_laws.specs.Compiled.{compiled, compiled_all, compiled_events}
use Rattle.ps_code_laws.specs.Meets.{nums_left, refs_left}
use Rattle.ps_code_laws.proofs.Compiling.{word_compiled, compiled_attempt}
use Rattle.ps_code_laws.proofs.LibraryCompiling.{compiled_answer, heap_call_compiled}
use Rattle.ps_code_laws.proofs.Clauses.{fields_by}
use Rattle.ps_code_laws.proofs.Standing.{AtBy}
use Rattle.ps_code_laws.proofs.Doing.{Origin, IsQuietly, Way, place, Comes, Room, Does, step, halt_there, if_lt, does_meant, push_goes}
use Rattle.ps_code_laws.proofs.Operands.{Stand}
use Rattle.ps_code_laws.proofs.Attempts.{quiet_give, quiet_attempt, quiet_made_text, attempt_steps, text_steps, object_pops}
use Rattle.ps_code_laws.proofs.RowForms.{pushed_nums, pushed_refs}

-- The arguments of a call, by their types.

text_is : (heap : Heap) (v : Value) → IsOf heap types.Str v → (bytes : List ℕ) × (v ≡ Text bytes)
text_is heap (Text bytes) h = (bytes, refl)
text_is heap v h = absurd h

int_is : (heap : Heap) (v : Value) → IsOf heap types.Int v → (z : ℤ) × (v ≡ Num z)
int_is heap (Num z) h = (z, refl)
int_is heap v h = absurd h

none_are : (heap : Heap) (vs : List Value) → AreOf heap [] vs → vs ≡ []
none_are heap [] h = refl
none_are heap (v ∷ vs) h = absurd h

one_is : (heap : Heap) (a : TyView) (vs : List Value) → AreOf heap (fields_by (one a)) vs → (v : Value) × (vs ≡ v ∷ []) × IsOf heap a v
one_is heap a [] h = absurd h
one_is heap a (v ∷ []) h = (v, refl, h.0)
one_is heap a (v ∷ u ∷ vs) h = absurd h.1

two_are : (heap : Heap) (a b : TyView) (vs : List Value) → AreOf heap (fields_by (two a b)) vs →
    (v : Value) × (u : Value) × (vs ≡ v ∷ u ∷ []) × IsOf heap a v × IsOf heap b u
two_are heap a b [] h = absurd h
two_are heap a b (v ∷ vs) h = let rest = one_is heap b vs h.1 in (v, rest.0, ap (λ (us : List Value). v ∷ us) rest.1, h.0, rest.2)

three_are : (heap : Heap) (a b c : TyView) (vs : List Value) → AreOf heap (fields_by (three a b c)) vs →
    (v : Value) × (u : Value) × (x : Value) × (vs ≡ v ∷ u ∷ x ∷ []) × IsOf heap a v × IsOf heap b u × IsOf heap c x
three_are heap a b c [] h = absurd h
three_are heap a b c (v ∷ vs) h =
    let rest = two_are heap b c vs h.1 in (v, rest.0, rest.1, ap (λ (us : List Value). v ∷ us) rest.2, h.0, rest.3, rest.4)

module _ (w : Way) where
  -- What an answer leaves is compiled.

  nothing_given : (k : ℕ) (nums : List ℤ) (refs : List Value) (f : Frame) (store : Store) (a : Answer) → Room w 1 nums refs →
      gives_nothing (compiled_answer a) (place w k nums refs f store)
      ≡ Goes (compiled_events a.events) (place w k nums refs f (on_held a.held store))
  nothing_given k nums refs f store a room = refl

  ref_given : (k : ℕ) (nums : List ℤ) (refs : List Value) (f : Frame) (store : Store) (a : Answer) → Room w 1 nums refs →
      gives_ref (compiled_answer a) (place w k nums refs f store)
      ≡ Goes (compiled_events a.events) (place w k nums (compiled a.value ∷ refs) f (on_held a.held store))
  ref_given k nums refs f store a room =
      if_lt ((frame_in w.unit).refs + length refs) frame_words _ _ (let h = room.on_refs in omega arith)

  num_given : (k : ℕ) (nums : List ℤ) (refs : List Value) (f : Frame) (store : Store) (a : Answer) → Room w 1 nums refs →
      gives_num (compiled_answer a) (place w k nums refs f store)
      ≡ Goes (compiled_events a.events) (place w k (word_of a.value ∷ nums) refs f (on_held a.held store))
  num_given k nums refs f store a room =
      if_lt ((frame_in w.unit).nums + length nums) frame_words _ _ (let h = room.on_nums in omega arith)
      ∙ ap (λ (z : ℤ). Goes (compiled_events a.events) (place w k (z ∷ nums) refs f (on_held a.held store))) (word_compiled a.value)

  -- the machine goes on with what a call answers, after its events, or ends in the trap
  abbrev Given : ℕ → List ℤ → List Value → TyView → Frame → Store → (Answer → Config → Step) → Type 0
  Given k nums refs ty f store gives = (a : Answer) →
      gives (compiled_answer a) (place w k nums refs f store)
      ≡ Goes (compiled_events a.events) (place w k (nums_left ty a.value ++ nums) (refs_left ty a.value ++ refs) f (on_held a.held store))

  answer_goes : (k : ℕ) (nums : List ℤ) (refs : List Value) (ty : TyView) (f : Frame) (s : State) (line : Line) (i : Instr) (before : Config)
      (gives : Answer → Config → Step) (a : Attempt Answer) → before.store.held.counted ≡ s.store.held.counted → AtBy w.Allows before.unit before.at i →
      act i before ≡ attempted line (compiled_attempt compiled_answer a) (λ answer. gives answer (place w k nums refs f s.store)) →
      Given k nums refs ty f s.store gives → Comes w k nums refs ty (attempt line a put_answer f s) → w.Holds before s.events
  unfolding attempt put_answer stop
  answer_goes k nums refs ty f s line i before gives (Yields a) same at acts given reach = step w a.events i at (acts ∙ given a) reach
  answer_goes k nums refs ty f s line i before gives (Fails trap) same at acts given reach = halt_there w i s same at acts reach

  -- a call on the heap with these arguments, whose words stand on the stacks
  does_heap_call : {n : Origin} {bn : List ℤ} {br : List Value} {ty : TyView} (p code : ℕ) (line : Line) (of : HeapProcedure) (vs : List Value)
      (gives : Answer → Config → Step) → library_procedure code ≡ Some (OnHeap of) → AtBy w.Allows w.unit p (instr.Lib code line) →
      ((nums : List ℤ) (refs : List Value) (f : Frame) (s : State) →
      call_on_heap of line (place w (p + 9) (bn ++ nums) (br ++ refs) f s.store)
      ≡ answered_by of line gives (compiled_all vs) (place w (p + 9) nums refs f s.store)) →
      ((nums : List ℤ) (refs : List Value) (f : Frame) (s : State) → Room w 1 nums refs → Given (p + 9) nums refs ty f s.store gives) →
      Does w n bn br (answered line (heap_call of vs)) ty 1 p (p + 9)
  unfolding answered
  does_heap_call {bn = bn} {br = br} {ty = ty} p code line of vs gives by_number at pops given = record {
    by = λ nums refs f s room since reach.
        let here = place w (p + 9) nums refs f s.store in
        answer_goes (p + 9) nums refs ty f s line (instr.Lib code line) (place w p (bn ++ nums) (br ++ refs) f s.store) gives
        (heap_call of vs s.store.held) refl at
        (ap (λ (procedure : Option LibraryProcedure). library_of procedure line (place w (p + 9) (bn ++ nums) (br ++ refs) f s.store)) by_number
        ∙ pops nums refs f s
        ∙ ap (λ (a : Attempt Answer). attempted line a (λ answer. gives answer here)) (heap_call_compiled of vs s.store.held since.weighs))
        (given nums refs f s room) reach;
  }

  -- what a call does whose arguments are these
  abbrev DoesCall : Origin → ℕ → Line → HeapProcedure → List Value → Type 0
  DoesCall n p line of vs =
      Does w n (pushed_nums (fields_by (taken_by of)) vs []) (pushed_refs (fields_by (taken_by of)) vs []) (answered line (heap_call of vs)) (given_by of) 1 p
      (p + 9)

  ref_answer : (p : ℕ) (nums : List ℤ) (refs : List Value) (f : Frame) (s : State) → Room w 1 nums refs →
      Given (p + 9) nums refs types.Pntr f s.store gives_ref
  ref_answer p nums refs f s room a = ref_given (p + 9) nums refs f s.store a room

  no_answer : (p : ℕ) (nums : List ℤ) (refs : List Value) (f : Frame) (s : State) → Room w 1 nums refs →
      Given (p + 9) nums refs types.Void f s.store gives_nothing
  no_answer p nums refs f s room a = refl

  num_answer : (p : ℕ) (nums : List ℤ) (refs : List Value) (f : Frame) (s : State) → Room w 1 nums refs →
      Given (p + 9) nums refs types.Int f s.store gives_num
  num_answer p nums refs f s room a = num_given (p + 9) nums refs f s.store a room

  does_create : (n : Origin) (p code : ℕ) (line : Line) (name password : List ℕ) → library_procedure code ≡ Some (OnHeap CreateDatabase) →
      Stand w p (instr.Lib code line) → DoesCall n p line CreateDatabase (Text name ∷ Text password ∷ [])
  does_create n p code line name password e at =
      does_heap_call p code line CreateDatabase (Text name ∷ Text password ∷ []) gives_ref e at (λ nums refs f s. refl)
      (λ nums refs f s room. ref_answer p nums refs f s room)

  does_open : (n : Origin) (p code : ℕ) (line : Line) (name password mode : List ℕ) → library_procedure code ≡ Some (OnHeap OpenDatabase) →
      Stand w p (instr.Lib code line) → DoesCall n p line OpenDatabase (Text name ∷ Text password ∷ Text mode ∷ [])
  does_open n p code line name password mode e at =
      does_heap_call p code line OpenDatabase (Text name ∷ Text password ∷ Text mode ∷ []) gives_ref e at (λ nums refs f s. refl)
      (λ nums refs f s room. ref_answer p nums refs f s room)

  does_enter_string : (n : Origin) (p code : ℕ) (line : Line) (key : List ℕ) (table v : Value) → IsOf n.heap types.Pntr table → IsOf n.heap types.Pntr v →
      library_procedure code ≡ Some (OnHeap EnterString) → Stand w p (instr.Lib code line) → DoesCall n p line EnterString (Text key ∷ table ∷ v ∷ [])
  does_enter_string n p code line key table v is of e at =
      does_heap_call p code line EnterString (Text key ∷ table ∷ v ∷ []) gives_nothing e at
      (λ nums refs f s. object_pops n.heap v of _ _ ∙ object_pops n.heap table is _ _) (λ nums refs f s room. no_answer p nums refs f s room)

  does_enter_int : (n : Origin) (p code : ℕ) (line : Line) (key : ℤ) (table v : Value) → IsOf n.heap types.Pntr table → IsOf n.heap types.Pntr v →
      library_procedure code ≡ Some (OnHeap EnterInt) → Stand w p (instr.Lib code line) → DoesCall n p line EnterInt (Num key ∷ table ∷ v ∷ [])
  does_enter_int n p code line key table v is of e at =
      does_heap_call p code line EnterInt (Num key ∷ table ∷ v ∷ []) gives_nothing e at
      (λ nums refs f s. object_pops n.heap v of _ _ ∙ object_pops n.heap table is _ _) (λ nums refs f s room. no_answer p nums refs f s room)

  does_look_up_string : (n : Origin) (p code : ℕ) (line : Line) (key : List ℕ) (table : Value) → IsOf n.heap types.Pntr table →
      library_procedure code ≡ Some (OnHeap LookUpString) → Stand w p (instr.Lib code line) → DoesCall n p line LookUpString (Text key ∷ table ∷ [])
  does_look_up_string n p code line key table is e at =
      does_heap_call p code line LookUpString (Text key ∷ table ∷ []) gives_ref e at (λ nums refs f s. object_pops n.heap table is _ _)
      (λ nums refs f s room. ref_answer p nums refs f s room)

  does_look_up_int : (n : Origin) (p code : ℕ) (line : Line) (key : ℤ) (table : Value) → IsOf n.heap types.Pntr table →
      library_procedure code ≡ Some (OnHeap LookUpInt) → Stand w p (instr.Lib code line) → DoesCall n p line LookUpInt (Num key ∷ table ∷ [])
  does_look_up_int n p code line key table is e at =
      does_heap_call p code line LookUpInt (Num key ∷ table ∷ []) gives_ref e at (λ nums refs f s. object_pops n.heap table is _ _)
      (λ nums refs f s room. ref_answer p nums refs f s room)

  does_cardinality : (n : Origin) (p code : ℕ) (line : Line) (table : Value) → IsOf n.heap types.Pntr table →
      library_procedure code ≡ Some (OnHeap Cardinality) → Stand w p (instr.Lib code line) → DoesCall n p line Cardinality (table ∷ [])
  does_cardinality n p code line table is e at =
      does_heap_call p code line Cardinality (table ∷ []) gives_num e at (λ nums refs f s. object_pops n.heap table is _ _)
      (λ nums refs f s room. num_answer p nums refs f s room)

  does_on_heap : (n : Origin) (p code : ℕ) (line : Line) (of : HeapProcedure) (vs : List Value) → library_procedure code ≡ Some (OnHeap of) →
      AreOf n.heap (fields_by (taken_by of)) vs → Stand w p (instr.Lib code line) → DoesCall n p line of vs
  does_on_heap n p code line CreateDatabase vs e are at =
      let h = two_are n.heap types.Str types.Str vs are in
      let name = text_is n.heap h.0 h.3 in
      let password = text_is n.heap h.1 h.4 in
      subst (DoesCall n p line CreateDatabase)
      (sym (h.2 ∙ ap (λ (v : Value). v ∷ h.1 ∷ []) name.1 ∙ ap (λ (v : Value). Text name.0 ∷ v ∷ []) password.1))
      (does_create n p code line name.0 password.0 e at)
  does_on_heap n p code line OpenDatabase vs e are at =
      let h = three_are n.heap types.Str types.Str types.Str vs are in
      let name = text_is n.heap h.0 h.4 in
      let password = text_is n.heap h.1 h.5 in
      let mode = text_is n.heap h.2 h.6 in
      subst (DoesCall n p line OpenDatabase)
      (sym (h.3 ∙ ap (λ (v : Value). v ∷ h.1 ∷ h.2 ∷ []) name.1 ∙ ap (λ (v : Value). Text name.0 ∷ v ∷ h.2 ∷ []) password.1
      ∙ ap (λ (v : Value). Text name.0 ∷ Text password.0 ∷ v ∷ []) mode.1))
      (does_open n p code line name.0 password.0 mode.0 e at)
  does_on_heap n p code line Commit vs e are at =
      subst (DoesCall n p line Commit) (sym (none_are n.heap vs are))
      (does_heap_call p code line Commit [] gives_ref e at (λ nums refs f s. refl) (λ nums refs f s room. ref_answer p nums refs f s room))
  does_on_heap n p code line MakeTable vs e are at =
      subst (DoesCall n p line MakeTable) (sym (none_are n.heap vs are))
      (does_heap_call p code line MakeTable [] gives_ref e at (λ nums refs f s. refl) (λ nums refs f s room. ref_answer p nums refs f s room))
  does_on_heap n p code line EnterString vs e are at =
      let h = three_are n.heap types.Str types.Pntr types.Pntr vs are in
      let key = text_is n.heap h.0 h.4 in
      subst (DoesCall n p line EnterString) (sym (h.3 ∙ ap (λ (v : Value). v ∷ h.1 ∷ h.2 ∷ []) key.1))
      (does_enter_string n p code line key.0 h.1 h.2 h.5 h.6 e at)
  does_on_heap n p code line LookUpString vs e are at =
      let h = two_are n.heap types.Str types.Pntr vs are in
      let key = text_is n.heap h.0 h.3 in
      subst (DoesCall n p line LookUpString) (sym (h.2 ∙ ap (λ (v : Value). v ∷ h.1 ∷ []) key.1)) (does_look_up_string n p code line key.0 h.1 h.4 e at)
  does_on_heap n p code line EnterInt vs e are at =
      let h = three_are n.heap types.Int types.Pntr types.Pntr vs are in
      let key = int_is n.heap h.0 h.4 in
      subst (DoesCall n p line EnterInt) (sym (h.3 ∙ ap (λ (v : Value). v ∷ h.1 ∷ h.2 ∷ []) key.1))
      (does_enter_int n p code line key.0 h.1 h.2 h.5 h.6 e at)
  does_on_heap n p code line LookUpInt vs e are at =
      let h = two_are n.heap types.Int types.Pntr vs are in
      let key = int_is n.heap h.0 h.3 in
      subst (DoesCall n p line LookUpInt) (sym (h.2 ∙ ap (λ (v : Value). v ∷ h.1 ∷ []) key.1)) (does_look_up_int n p code line key.0 h.1 h.4 e at)
  does_on_heap n p code line Cardinality vs e are at =
      let h = one_is n.heap types.Pntr vs are in
      subst (DoesCall n p line Cardinality) (sym h.1) (does_cardinality n p code line h.0 h.2 e at)

  -- Texts and the input.

  -- the machine's step, where the procedure is known
  by_procedure : (code : ℕ) (line : Line) (of : LibraryProcedure) (c : Config) → library_procedure code ≡ Some of →
      library_of (library_procedure code) line c ≡ library_of (Some of) line c
  by_procedure code line of c e = ap (λ (procedure : Option LibraryProcedure). library_of procedure line c) e

  does_length : (n : Origin) (p code : ℕ) (line : Line) (bytes : List ℕ) → library_procedure code ≡ Some Length → Stand w p (instr.Lib code line) →
      Does w n [] (Text bytes ∷ []) (give (Num (pos (length bytes)))) types.Int 1 p (p + 9)
  unfolding give
  does_length n p code line bytes e at =
      does_meant w p 1 (instr.Lib code line)
      (λ nums refs f s room since. by_procedure code line Length (place w (p + 9) nums (Text bytes ∷ refs) f s.store) e
      ∙ push_goes w (p + 9) (pos (length bytes)) nums refs f s.store room)
      (quiet_give (Num (pos (length bytes)))) at

  does_int_text : (n : Origin) (p code : ℕ) (line : Line) (z : ℤ) → library_procedure code ≡ Some IntText → Stand w p (instr.Lib code line) →
      Does w n (z ∷ []) [] (made_text (signed_decimal z)) types.Str 1 p (p + 9)
  does_int_text n p code line z e at =
      does_meant w p 1 (instr.Lib code line)
      (λ nums refs f s room since. by_procedure code line IntText (place w (p + 9) (z ∷ nums) refs f s.store) e
      ∙ text_steps w (p + 9) nums refs f s (signed_decimal z) room)
      (quiet_made_text (signed_decimal z)) at

  quiet_line : (input bytes : List ℕ) → IsQuietly (put_input input >>= λ u. made_text bytes)
  unfolding put_input made_text ◌>>=◌ after
  quiet_line input bytes f s = refl

  quiet_read_line : (line : Line) → IsQuietly (read_line line)
  unfolding read_line with_input
  quiet_read_line line f s =
      quiet_attempt line (line_read s.store.input) (λ bytes. put_input (behind_line s.store.input) >>= λ u. made_text bytes)
      (λ bytes. quiet_line (behind_line s.store.input) bytes) f s

  quiet_at_end : IsQuietly at_end
  unfolding at_end with_input give
  quiet_at_end f s = refl

  does_read_line : (n : Origin) (p code : ℕ) (line : Line) → library_procedure code ≡ Some ReadLine → Stand w p (instr.Lib code line) →
      Does w n [] [] (read_line line) types.Str 1 p (p + 9)
  unfolding read_line with_input put_input ◌>>=◌ after
  does_read_line n p code line e at =
      does_meant w p 1 (instr.Lib code line)
      (λ nums refs f s room since. by_procedure code line ReadLine (place w (p + 9) nums refs f s.store) e
      ∙ attempt_steps w (p + 9) nums refs types.Str f s line (line_read s.store.input) _ _
      (λ bytes. text_steps w (p + 9) nums refs f (record s { store = on_input (behind_line s.store.input) s.store }) bytes room))
      (quiet_read_line line) at

  does_at_end : (n : Origin) (p code : ℕ) (line : Line) → library_procedure code ≡ Some AtEnd → Stand w p (instr.Lib code line) →
      Does w n [] [] at_end types.Bool 1 p (p + 9)
  unfolding at_end with_input give
  does_at_end n p code line e at =
      does_meant w p 1 (instr.Lib code line)
      (λ nums refs f s room since. by_procedure code line AtEnd (place w (p + 9) nums refs f s.store) e
      ∙ push_goes w (p + 9) (number_of (is_at_end s.store.input)) nums refs f s.store room) quiet_at_end at

  -- A call of the library.

  abbrev DoesLibrary : Origin → ℕ → Line → LibraryProcedure → List Value → Type 0
  DoesLibrary n p line of vs =
      Does w n (pushed_nums (fields_by (parameters_of of)) vs []) (pushed_refs (fields_by (parameters_of of)) vs []) (lib_meant line (Some of) vs)
      (type_given of) 1 p (p + 9)

  pub does_procedure : (n : Origin) (p code : ℕ) (line : Line) (of : LibraryProcedure) (vs : List Value) → library_procedure code ≡ Some of →
      AreOf n.heap (fields_by (parameters_of of)) vs → Stand w p (instr.Lib code line) → DoesLibrary n p line of vs
  does_procedure n p code line (OnHeap of) vs e are at = does_on_heap n p code line of vs e are at
  does_procedure n p code line ReadLine vs e are at =
      subst (DoesLibrary n p line ReadLine) (sym (none_are n.heap vs are)) (does_read_line n p code line e at)
  does_procedure n p code line AtEnd vs e are at =
      subst (DoesLibrary n p line AtEnd) (sym (none_are n.heap vs are)) (does_at_end n p code line e at)
  does_procedure n p code line Length vs e are at =
      let h = one_is n.heap types.Str vs are in
      let text = text_is n.heap h.0 h.2 in
      subst (DoesLibrary n p line Length) (sym (h.1 ∙ ap (λ (v : Value). v ∷ []) text.1)) (does_length n p code line text.0 e at)
  does_procedure n p code line IntText vs e are at =
      let h = one_is n.heap types.Int vs are in
      let number = int_is n.heap h.0 h.2 in
      subst (DoesLibrary n p line IntText) (sym (h.1 ∙ ap (λ (v : Value). v ∷ []) number.1)) (does_int_text n p code line number.0 e at)
