-- What the code between two places does: what a meaning says, whatever follows.
use Rattle.std.proofs.Common.{◌≡◌, ℕ, zero, suc, ◌+◌, ◌<◌, ◌≤◌, ℤ, Bool, true, false, List, [], ◌∷◌, ◌++◌, length, Option, refl, sym, ap, ◌∙◌, subst, append_assoc, append-nil, length-append, arith}
use Rattle.std.specs.Prelude.{nat_lt, nat_eq, if◌then◌else◌}
use Rattle.std.proofs.lemmas.Bool.{lt-ltb}
use Rattle.ps_gen.specs.ps_base.TyView.{TyView}
use Rattle.ps_gen.specs.ps_base.TyView as types
use Rattle.ps_gen.specs.ps_base.CodeUnit.{UnitView}
use Rattle.ps_gen.specs.ps_base.Instr.{width_of}
use Rattle.ps_gen.specs.ps_base.declared.line.Line.{Line}
use Rattle.ps_gen.specs.ps_base.declared.trap.Trap.TheVariants.{TooLong}
use Rattle.ps_gen.specs.ps_base.declared.instr.Instr.{Instr}
use Rattle.ps_gen.specs.ps_base.declared.instr.Instr.TheVariants as instr
use Rattle.ps_gen.specs.ps_program.declared.place.Place.TheVariants.{Plain}
use Rattle.ps_stepping.specs.ps_heap.Operators.{Answer, Gives, Traps}
use Rattle.ps_stepping.specs.ps_heap.Ends.{End, Trapped, OutOfTurns}
use Rattle.ps_stepping.specs.ps_heap.Events.{Event, Turn}
use Rattle.ps_stepping.specs.ps_heap.Values.{Value, Nothing, word_of, is_one, flag_of}
use Rattle.ps_stepping.specs.ps_meaning.Meaning.{Frame, Store, State, Outcome, Value_is, Ends, Meaning, give, stop, after, ◌>>=◌, choose, answer, some_out, emit, in_places, is_width, written, with_turns, turned, spent, take_turn, with_local, get, set}
use Rattle.ps_stepping.specs.ps_heap.Objects.{Heap}
use Rattle.ps_stepping.specs.ps_meaning.Loops.{while_turns}
use Rattle.ps_soundness.specs.Over.{Grows}
use Rattle.ps_code_laws.specs.Fitting.{IsOf, IsTypedHeld}
use Rattle.ps_soundness.proofs.Growing.{grows_not, grows_then}
use Rattle.ps_soundness.proofs.Combining.{Sound, sound_then}
use Rattle.ps_soundness.proofs.Combining as combining
use Rattle.ps_stepping.specs.Config.{frame_words, Caller, Config, code_in, frame_in, IsAt}
use Rattle.ps_stepping.specs.Machine.{Step, Goes, Stops, Stuck, and_touched, on, push_num, push_ref, forward, back, turn_to, answered, act}
use Rattle.ps_stepping.specs.Machine as machine
use Rattle.ps_code_laws.specs.Compiled.{compiled, compiled_store, compiled_events, WeighsUnits}
use Rattle.ps_code_laws.specs.Meets.{nums_left, refs_left, standing}
use Rattle.ps_code_laws.proofs.Clauses.{IsNum, int, bool, IsRef, str, pntr, vector, proc}
use Rattle.ps_code_laws.proofs.Falls.{Falls, Falling, falls_then}
use Rattle.ps_gen.specs.ps_program.Node.{BodyNode}
use Rattle.std.specs.List.{AllByRecursion}
use Rattle.ps_code_laws.specs.Literals.{Fits, instrs_of}
use Rattle.ps_code_laws.proofs.Standing.{AtBy}
use Rattle.ps_code_laws.proofs.Literals.{IsLiteral, InHeap, InFrame}
use Rattle.ps_code_laws.proofs.Holding.{Left, Holds, holds_then}
use Rattle.fit_soundness.proofs.Standings.{Standing, IsStanding, in_levels}

-- A run of a unit, inside bodies that wait, that is to come to something: whatever is so of what a step returns is so of what it
-- starts from. The events are the meaning's.
pub record Way : Type 1 where
  pub unit : UnitView
  pub callers : List Caller
  -- what is so of each body that may run: it fits, and its instructions are such as may run
  pub Body : BodyNode → Type 0
  pub Allows : Instr → Type 0
  pub fits : (of : BodyNode) → Body of → Fits of
  pub allowed : (of : BodyNode) → Body of → AllByRecursion Allows (instrs_of of)
  pub Holds : Config → List Event → Type 0
  pub Final : End → ℕ → List Event → Type 0
  pub goes : {c next : Config} {so_far : List Event} (events : List Event) {i : Instr} → IsAt (code_in c.unit) c.at i → Allows i →
      act i c ≡ Goes (compiled_events events) next → Holds next (so_far ++ events) → Holds c so_far
  pub stops : {c : Config} {so_far : List Event} {e : End} {touched : ℕ} {i : Instr} → IsAt (code_in c.unit) c.at i → Allows i →
      act i c ≡ Stops e touched → Final e (and_touched touched c.store.held.counted) so_far →
      Holds c so_far

pub if_true : {A : Type 0} (b : Bool) (x y : A) → b ≡ true → (if b then x else y) ≡ x
if_true b x y h = ap (λ (c : Bool). if c then x else y) h

pub if_false : {A : Type 0} (b : Bool) (x y : A) → b ≡ false → (if b then x else y) ≡ y
if_false b x y h = ap (λ (c : Bool). if c then x else y) h

pub if_lt : {A : Type 0} (m n : ℕ) (x y : A) → m < n → (if nat_lt m n then x else y) ≡ x
if_lt m n x y h = if_true (nat_lt m n) x y (lt-ltb m n h)

pub words_set : (row : ℕ → Value) (slot : ℕ) (v : Value) → (λ s. word_of (with_local row slot v s)) ≡ with_local (λ s. word_of (row s)) slot
    (word_of v)
words_set row slot v = λ i s. each s i
  where
    each : (s : ℕ) → word_of (if nat_eq s slot then v else row s) ≡ (if nat_eq s slot then word_of v else word_of (row s))
    each s = elim (nat_eq s slot) as (λ b. word_of (if b then v else row s) ≡ (if b then word_of v else word_of (row s)))
        [ true ↦ refl | false ↦ refl ]

pub refs_set : (row : ℕ → Value) (slot : ℕ) (v : Value) →
    (λ s. compiled (with_local row slot v s)) ≡ with_local (λ s. compiled (row s)) slot (compiled v)
refs_set row slot v = λ i s. each s i
  where
    each : (s : ℕ) → compiled (if nat_eq s slot then v else row s) ≡ (if nat_eq s slot then compiled v else compiled (row s))
    each s = elim (nat_eq s slot) as (λ b. compiled (if b then v else row s) ≡ (if b then compiled v else compiled (row s)))
        [ true ↦ refl | false ↦ refl ]

pub nums_few : (ty : TyView) (v : Value) → length (nums_left ty v) ≤ 1
nums_few types.Int v = omega arith
nums_few types.Bool v = omega arith
nums_few other v = omega arith

pub refs_few : (ty : TyView) (v : Value) → length (refs_left ty v) ≤ 1
refs_few types.Int v = omega arith
refs_few types.Bool v = omega arith
refs_few types.Void v = omega arith
refs_few other v = omega arith

-- Where a clause begins: so many turns are left at most, the heap has grown from this one, and this is known of the locals and the scopes.
pub record Origin : Type 0 where
  pub turns : ℕ
  pub heap : Heap
  pub known : Standing

pub record IsSince (P : BodyNode → Type 0) (n : Origin) (f : Frame) (s : State) : Type 0 where
  pub few : s.store.turns ≤ n.turns
  pub grows : Grows n.heap s.store.held.objects
  pub typed : IsTypedHeld s.store.held
  pub are : IsStanding s.store.held.objects f n.known
  pub held : InFrame P f × InHeap P s.store.held.objects
  pub weighs : WeighsUnits s.store.held.weigh

-- after a part
abbrev pub after_it : Origin → Heap → Standing → Origin
after_it n heap last = record { turns = n.turns; heap = heap; known = last }

pub since_more : {P : BodyNode → Type 0} {n : Origin} {f : Frame} {s : State} {m : ℕ} {heap : Heap} → m ≤ n.turns → Grows n.heap heap →
    IsSince P (record { turns = m; heap = heap; known = n.known }) f s → IsSince P n f s
since_more {n = n} {s = s} {heap = heap} le g h = record {
  few = let few = h.few in omega arith;
  grows = grows_then n.heap heap s.store.held.objects g h.grows;
  typed = h.typed;
  are = h.are;
  held = h.held;
  weighs = h.weighs;
}

-- What a part returns that is of a type: the turns have fallen, the heap has grown and is typed, what is known after it is so, and each procedure that
-- is held fits.
pub record IsLeft (P : BodyNode → Type 0) (n : Origin) (last : Standing) (ty : TyView) (v : Value) (f : Frame) (s : State) : Type 0 where
  pub few : s.store.turns ≤ n.turns
  pub grows : Grows n.heap s.store.held.objects
  pub typed : IsTypedHeld s.store.held
  pub are : IsStanding s.store.held.objects f last
  pub value : IsOf s.store.held.objects ty v
  pub held : InFrame P f × InHeap P s.store.held.objects
  pub literal : IsLiteral P v
  pub weighs : WeighsUnits s.store.held.weigh

abbrev pub Behind : (BodyNode → Type 0) → Origin → Standing → TyView → Outcome → Type 0
Behind P n last ty (Value_is v f s) = IsLeft P n last ty v f s
Behind P n last ty (Ends e s) = Unit {0}

pub since_left : {P : BodyNode → Type 0} (n : Origin) (last : Standing) (ty : TyView) (v : Value) (f : Frame) (s : State) → IsLeft P n last ty v f s →
    IsSince P (after_it n s.store.held.objects last) f s
since_left n last ty v f s left = record {
  few = left.few;
  grows = grows_not s.store.held.objects;
  typed = left.typed;
  are = left.are;
  held = left.held;
  weighs = left.weighs;
}

-- a part that takes turns alone, and yields a value of a type
pub record Leads (P : BodyNode → Type 0) (n : Origin) (last : Standing) (ty : TyView) (a : Meaning) : Type 0 where
  pub falls : Falling a
  pub sound : Sound in_levels n.heap n.known last ty a
  pub holds : Holds P a

left_of : (P : BodyNode → Type 0) (n : Origin) (last : Standing) (ty : TyView) (before : State) (o : Outcome) → before.store.turns ≤ n.turns → Grows n.heap before.store.held.objects →
    WeighsUnits before.store.held.weigh → Falls before.store o → combining.Comes in_levels before last ty o → Left P o → Behind P n last ty o
left_of P n last ty before (Value_is v f s) le g weighs falls h k = record {
  few = let fewer = falls.0 in omega arith;
  grows = grows_then n.heap before.store.held.objects s.store.held.objects g h.grows;
  typed = h.typed;
  are = h.are;
  value = h.value;
  held = (k.1, k.2);
  literal = k.0;
  weighs = subst WeighsUnits (sym falls.1) weighs;
}
left_of P n last ty before (Ends e s) le g weighs falls h k = tt

pub leads_left : {P : BodyNode → Type 0} {n : Origin} {last : Standing} {ty : TyView} {a : Meaning} {f : Frame} {s : State} → Leads P n last ty a → IsSince P n f s →
    Behind P n last ty (a f s)
leads_left {P = P} {n = n} {last = last} {ty = ty} {a = a} {f = f} {s = s} leads since =
    left_of P n last ty s (a f s) since.few since.grows since.weighs (leads.falls f s)
    (leads.sound.runs f s since.grows since.typed since.are) (leads.holds f s since.held.0 since.held.1)

pub leads_more : {P : BodyNode → Type 0} {n : Origin} {last : Standing} {ty : TyView} {a : Meaning} {m : ℕ} {heap : Heap} → m ≤ n.turns → Grows n.heap heap →
    Leads P n last ty a →
    Leads P (record { turns = m; heap = heap; known = n.known }) last ty a
leads_more {heap = heap} le g h = record { falls = h.falls; sound = combining.later in_levels heap g h.sound; holds = h.holds }

-- one part, and then another that needs no value of it
pub leads_then : {P : BodyNode → Type 0} {n : Origin} {between last : Standing} {tya ty : TyView} {a b : Meaning} → Leads P n between tya a →
    ((new : Heap) → Grows n.heap new → Leads P (after_it n new between) last ty b) → Leads P n last ty (a >>= λ u. b)
leads_then {P = P} {n = n} {a = a} {b = b} h k = record {
  falls = falls_then a (λ u. b) h.falls (λ u. (k n.heap (grows_not n.heap)).falls);
  sound = sound_then in_levels h.sound (λ new u g is. (k new g).sound);
  holds = holds_then P a (λ u. b) h.holds (λ u literal. (k n.heap (grows_not n.heap)).holds);
}

-- nothing is output, and where the run ends nothing is made
abbrev pub IsQuiet : State → Outcome → Type 0
IsQuiet old (Value_is v f s) = s.events ≡ old.events
IsQuiet old (Ends e s) = s ≡ old

abbrev pub IsQuietly : Meaning → Type 0
IsQuietly m = (f : Frame) (s : State) → IsQuiet s (m f s)

module _ (w : Way) where
  abbrev pub place : ℕ → List ℤ → List Value → Frame → Store → Config
  place at nums refs f store = standing w.unit w.callers at nums refs f store

  -- where the run stands after a clause of this type that came to this
  abbrev pub Comes : ℕ → List ℤ → List Value → TyView → Outcome → Type 0
  Comes k nums refs ty (Value_is v f s) = w.Holds (place k (nums_left ty v ++ nums) (refs_left ty v ++ refs) f s.store) s.events
  Comes k nums refs ty (Ends e s) = w.Final e s.store.held.counted s.events

  -- there is room for so many words more on each stack, with the locals of both
  pub record Room (need : ℕ) (nums : List ℤ) (refs : List Value) : Type 0 where
    pub on_nums : (frame_in w.unit).nums + (frame_in w.unit).refs + length nums + need ≤ 512
    pub on_refs : (frame_in w.unit).nums + (frame_in w.unit).refs + length refs + need ≤ 512

  -- From p to k the code does what is meant, with these words on the stacks before it, and takes them.
  pub record Does (n : Origin) (bn : List ℤ) (br : List Value) (m : Meaning) (ty : TyView) (need p k : ℕ) : Type 0 where
    pub by : (nums : List ℤ) (refs : List Value) (f : Frame) (s : State) → Room need nums refs → IsSince w.Body n f s → Comes k nums refs ty (m f s) →
        w.Holds (place p (bn ++ nums) (br ++ refs) f s.store) s.events

  -- one step
  pub step : {c next : Config} {so_far : List Event} (events : List Event) (i : Instr) → AtBy w.Allows c.unit c.at i → act i c ≡ Goes (compiled_events events) next →
      w.Holds next (so_far ++ events) → w.Holds c so_far
  step {c = c} events i at e h = w.goes events at.0 at.1 e h

  pub quiet : {c next : Config} {so_far : List Event} (i : Instr) → AtBy w.Allows c.unit c.at i → act i c ≡ on next → w.Holds next so_far →
      w.Holds c so_far
  quiet {next = next} {so_far = so_far} i at e h = step [] i at e (subst (λ (es : List Event). w.Holds next es) (sym (append-nil so_far)) h)

  pub halt : {c : Config} {so_far : List Event} {e : End} {touched : ℕ} (i : Instr) → AtBy w.Allows c.unit c.at i → act i c ≡ Stops e touched →
      w.Final e (and_touched touched c.store.held.counted) so_far → w.Holds c so_far
  halt {c = c} i at e h = w.stops at.0 at.1 e h

  -- where as many bytes are counted as in a state
  pub halt_there : {c : Config} {e : End} (i : Instr) (s : State) → c.store.held.counted ≡ s.store.held.counted → AtBy w.Allows c.unit c.at i →
      act i c ≡ Stops e 0 →
      w.Final e s.store.held.counted s.events → w.Holds c s.events
  halt_there {e = e} i s same at acts h = halt i at acts (subst (λ (n : ℕ). w.Final e n s.events) (sym same) h)

  pub less_room : (need need' : ℕ) (nums : List ℤ) (refs : List Value) → need ≤ need' → Room need' nums refs → Room need nums refs
  less_room need need' nums refs le room = record { on_nums = let h = room.on_nums in omega arith; on_refs = let h = room.on_refs in omega arith }

  pub room_above : (m need need' : ℕ) (bn : List ℤ) (br : List Value) (nums : List ℤ) (refs : List Value) → length bn ≤ m → length br ≤ m →
      need + m ≤ need' →
      Room need' nums refs → Room need (bn ++ nums) (br ++ refs)
  room_above m need need' bn br nums refs few_nums few_refs le room = record {
    on_nums = let h = room.on_nums in let k = length-append bn nums in omega arith;
    on_refs = let h = room.on_refs in let k = length-append br refs in omega arith;
  }

  pub moved : {n : Origin} {bn : List ℤ} {br : List Value} {m : Meaning} {ty : TyView} (need need' p k k' : ℕ) → need ≤ need' → k ≡ k' →
      Does n bn br m ty need p k → Does n bn br m ty need' p k'
  moved {n = n} {bn = bn} {br = br} {m = m} {ty = ty} need need' p k k' le ek d =
      let d' : Does n bn br m ty need p k' = subst (λ (q : ℕ). Does n bn br m ty need p q) ek d in
      record { by = λ nums refs f s room since reach. d'.by nums refs f s (less_room need need' nums refs le room) since reach }

  -- from fewer turns, and a heap that has grown
  pub fewer : {n : Origin} {bn : List ℤ} {br : List Value} {a : Meaning} {ty : TyView} {need p k : ℕ} (m : ℕ) (heap : Heap) → m ≤ n.turns →
      Grows n.heap heap →
      Does n bn br a ty need p k → Does (record { turns = m; heap = heap; known = n.known }) bn br a ty need p k
  fewer m heap le g d = record { by = λ nums refs f s room since reach. d.by nums refs f s room (since_more le g since) reach }

  pub later : {n : Origin} {bn : List ℤ} {br : List Value} {a : Meaning} {ty : TyView} {need p k : ℕ} (heap : Heap) → Grows n.heap heap →
      Does n bn br a ty need p k → Does (after_it n heap n.known) bn br a ty need p k
  later {n = n} heap g d = fewer n.turns heap (omega arith) g d

  comes_then : (n : Origin) (last : Standing) (need q k : ℕ) (nums : List ℤ) (refs : List Value) (tya ty : TyView) (b : Value → Meaning) →
      ((new : Heap) (v : Value) → Grows n.heap new → IsOf new tya v → IsLiteral w.Body v →
      Does (after_it n new last) (nums_left tya v) (refs_left tya v) (b v) ty need q k) →
      Room need nums refs → (o : Outcome) → Behind w.Body n last tya o → Comes k nums refs ty (after o b) → Comes q nums refs tya o
  unfolding after
  comes_then n last need q k nums refs tya ty b db room (Value_is v f s) left reach =
      (db s.store.held.objects v left.grows left.value left.literal).by nums refs f s room (since_left n last tya v f s left) reach
  comes_then n last need q k nums refs tya ty b db room (Ends e s) left reach = reach

  -- one part, and then another that takes its value, of which each procedure fits
  pub does_then_held : {n : Origin} {bn : List ℤ} {br : List Value} {a : Meaning} {tya ty : TyView} {last : Standing} (b : Value → Meaning)
      (na nb need p q k : ℕ) →
      na ≤ need → nb ≤ need → Leads w.Body n last tya a → Does n bn br a tya na p q →
      ((new : Heap) (v : Value) → Grows n.heap new → IsOf new tya v → IsLiteral w.Body v →
      Does (after_it n new last) (nums_left tya v) (refs_left tya v) (b v) ty nb q k) →
      Does n bn br (a >>= b) ty need p k
  unfolding ◌>>=◌
  does_then_held {n = n} {a = a} {tya = tya} {ty = ty} {last = last} b na nb need p q k le_a le_b leads da db = record {
    by = λ nums refs f s room since reach. da.by nums refs f s (less_room na need nums refs le_a room) since
        (comes_then n last nb q k nums refs tya ty b db (less_room nb need nums refs le_b room) (a f s) (leads_left leads since) reach);
  }

  -- one part, and then another that takes its value
  pub does_then : {n : Origin} {bn : List ℤ} {br : List Value} {a : Meaning} {tya ty : TyView} {last : Standing} (b : Value → Meaning)
      (na nb need p q k : ℕ) →
      na ≤ need → nb ≤ need → Leads w.Body n last tya a → Does n bn br a tya na p q →
      ((new : Heap) (v : Value) → Grows n.heap new → IsOf new tya v → Does (after_it n new last) (nums_left tya v) (refs_left tya v) (b v) ty nb q k)
      →
      Does n bn br (a >>= b) ty need p k
  does_then b na nb need p q k le_a le_b leads da db =
      does_then_held b na nb need p q k le_a le_b leads da (λ new v g is literal. db new v g is)

  comes_over : (n : Origin) (last : Standing) (nb q k : ℕ) (bn : List ℤ) (br : List Value) (nums : List ℤ) (refs : List Value) (tya ty : TyView)
      (b : Value → Meaning) →
      ((new : Heap) (v : Value) → Grows n.heap new → IsOf new tya v → IsLiteral w.Body v →
      Does (after_it n new last) (nums_left tya v ++ bn) (refs_left tya v ++ br) (b v) ty nb q k) → Room nb nums refs → (o : Outcome) →
      Behind w.Body n last tya o →
      Comes k nums refs ty (after o b) → Comes q (bn ++ nums) (br ++ refs) tya o
  unfolding after
  comes_over n last nb q k bn br nums refs tya ty b db room (Value_is v f s) left reach =
      subst (λ (zs : List ℤ). w.Holds (place q zs (refs_left tya v ++ (br ++ refs)) f s.store) s.events) (append_assoc (nums_left tya v) bn nums)
      (subst (λ (vs : List Value). w.Holds (place q ((nums_left tya v ++ bn) ++ nums) vs f s.store) s.events) (append_assoc (refs_left tya v) br refs)
      ((db s.store.held.objects v left.grows left.value left.literal).by nums refs f s room (since_left n last tya v f s left) reach))
  comes_over n last nb q k bn br nums refs tya ty b db room (Ends e s) left reach = reach

  -- one part over words that stay, and then another that takes its value, of which each procedure fits, and those words
  pub does_over_held : {n : Origin} {a : Meaning} {tya ty : TyView} {last : Standing} (bn : List ℤ) (br : List Value) (b : Value → Meaning)
      (m na nb need p q k : ℕ) →
      length bn ≤ m → length br ≤ m → na + m ≤ need → nb ≤ need → Leads w.Body n last tya a → Does n [] [] a tya na p q →
      ((new : Heap) (v : Value) → Grows n.heap new → IsOf new tya v → IsLiteral w.Body v →
      Does (after_it n new last) (nums_left tya v ++ bn) (refs_left tya v ++ br) (b v) ty nb q k) → Does n bn br (a >>= b) ty need p k
  unfolding ◌>>=◌
  does_over_held {n = n} {a = a} {tya = tya} {ty = ty} {last = last} bn br b m na nb need p q k few_nums few_refs le_a le_b leads da db = record {
    by = λ nums refs f s room since reach. da.by (bn ++ nums) (br ++ refs) f s (room_above m na need bn br nums refs few_nums few_refs le_a room)
        since
        (comes_over n last nb q k bn br nums refs tya ty b db (less_room nb need nums refs le_b room) (a f s) (leads_left leads since) reach);
  }

  -- one part over words that stay, and then another that takes its value and those words
  pub does_over : {n : Origin} {a : Meaning} {tya ty : TyView} {last : Standing} (bn : List ℤ) (br : List Value) (b : Value → Meaning)
      (m na nb need p q k : ℕ) →
      length bn ≤ m → length br ≤ m → na + m ≤ need → nb ≤ need → Leads w.Body n last tya a → Does n [] [] a tya na p q →
      ((new : Heap) (v : Value) → Grows n.heap new → IsOf new tya v →
      Does (after_it n new last) (nums_left tya v ++ bn) (refs_left tya v ++ br) (b v) ty nb q k) → Does n bn br (a >>= b) ty need p k
  does_over bn br b m na nb need p q k few_nums few_refs le_a le_b leads da db =
      does_over_held bn br b m na nb need p q k few_nums few_refs le_a le_b leads da (λ new v g is literal. db new v g is)

  -- no instruction
  pub does_nothing : (n : Origin) (need k : ℕ) → Does n [] [] (give Nothing) types.Void need k k
  unfolding give
  does_nothing n need k = record { by = λ nums refs f s room since reach. reach }

  -- nothing more: the value of the clause before is left
  pub does_left : (n : Origin) (need k : ℕ) (ty : TyView) (v : Value) → Does n (nums_left ty v) (refs_left ty v) (give v) ty need k k
  unfolding give
  does_left n need k ty v = record { by = λ nums refs f s room since reach. reach }

  -- an instruction that gives a value
  pub does_give : (n : Origin) (p need : ℕ) (bn : List ℤ) (br : List Value) (v : Value) (ty : TyView) (i : Instr) →
      ((nums : List ℤ) (refs : List Value) (f : Frame) (store : Store) → Room need nums refs →
      act i (place p (bn ++ nums) (br ++ refs) f store) ≡ on (place (p + width_of i) (nums_left ty v ++ nums) (refs_left ty v ++ refs) f store)) →
      AtBy w.Allows w.unit p i → Does n bn br (give v) ty need p (p + width_of i)
  unfolding give
  does_give n p need bn br v ty i acts at = record {
    by = λ nums refs f s room since reach. quiet i at (acts nums refs f s.store room) reach;
  }

  pub push_goes : (p : ℕ) (z : ℤ) (nums : List ℤ) (refs : List Value) (f : Frame) (store : Store) → Room 1 nums refs →
      push_num z (place p nums refs f store) ≡ on (place p (z ∷ nums) refs f store)
  push_goes p z nums refs f store room = if_lt ((frame_in w.unit).nums + length nums) frame_words _ _ (let h = room.on_nums in omega arith)

  pub push_ref_goes : (p : ℕ) (v : Value) (nums : List ℤ) (refs : List Value) (f : Frame) (store : Store) → Room 1 nums refs →
      push_ref v (place p nums refs f store) ≡ on (place p nums (v ∷ refs) f store)
  push_ref_goes p v nums refs f store room = if_lt ((frame_in w.unit).refs + length refs) frame_words _ _ (let h = room.on_refs in omega arith)

  pub does_get : (n : Origin) (p slot : ℕ) {ty : TyView} → IsNum ty → slot < (frame_in w.unit).nums → AtBy w.Allows w.unit p (instr.GetM slot) →
      Does n [] [] (get (Plain slot) ty) ty 1 p (p + 5)
  unfolding get
  does_get n p slot int below at = record {
    by = λ nums refs f s room since reach. quiet (instr.GetM slot) at
        (if_lt slot (frame_in w.unit).nums _ _ below ∙ push_goes (p + 5) (word_of (f.nums slot)) nums refs f s.store room) reach;
  }
  does_get n p slot bool below at = record {
    by = λ nums refs f s room since reach. quiet (instr.GetM slot) at
        (if_lt slot (frame_in w.unit).nums _ _ below ∙ push_goes (p + 5) (word_of (f.nums slot)) nums refs f s.store room) reach;
  }

  pub got_ref : (n : Origin) (p slot : ℕ) (f : Frame) (s : State) (nums : List ℤ) (refs : List Value) → slot < (frame_in w.unit).refs →
      AtBy w.Allows w.unit p (instr.GetP slot) →
      Room 1 nums refs → w.Holds (place (p + 5) nums (compiled (f.refs slot) ∷ refs) f s.store) s.events → w.Holds (place p nums refs f s.store) s.events
  got_ref n p slot f s nums refs below at room reach =
      quiet (instr.GetP slot) at (if_lt slot (frame_in w.unit).refs _ _ below ∙ push_ref_goes (p + 5) (compiled (f.refs slot)) nums refs f s.store room) reach

  pub does_get_ref : (n : Origin) (p slot : ℕ) {ty : TyView} → IsRef ty → slot < (frame_in w.unit).refs → AtBy w.Allows w.unit p (instr.GetP slot) →
      Does n [] [] (get (Plain slot) ty) ty 1 p (p + 5)
  unfolding get
  does_get_ref n p slot str below at =
      record { by = λ nums refs f s room since reach. got_ref n p slot f s nums refs below at room reach }
  does_get_ref n p slot pntr below at =
      record { by = λ nums refs f s room since reach. got_ref n p slot f s nums refs below at room reach }
  does_get_ref n p slot vector below at =
      record { by = λ nums refs f s room since reach. got_ref n p slot f s nums refs below at room reach }
  does_get_ref n p slot proc below at =
      record { by = λ nums refs f s room since reach. got_ref n p slot f s nums refs below at room reach }

  -- the machine with its numbers given as they are
  abbrev pub with_words : ℕ → List ℤ → List Value → (ℕ → ℤ) → Frame → Store → Config
  with_words at nums refs row f store = record (place at nums refs f store) { locals = record { nums = row; refs = λ slot. compiled (f.refs slot) } }

  -- and with its references
  abbrev pub with_values : ℕ → List ℤ → List Value → (ℕ → Value) → Frame → Store → Config
  with_values at nums refs row f store = record (place at nums refs f store) { locals = record { nums = λ slot. word_of (f.nums slot); refs = row } }

  pub set_goes : (p slot : ℕ) (v : Value) (nums : List ℤ) (refs : List Value) (f : Frame) (s : State) → slot < (frame_in w.unit).nums →
      AtBy w.Allows w.unit p (instr.SetM slot) → w.Holds (place (p + 5) nums refs (record f { nums = with_local f.nums slot v }) s.store) s.events →
      w.Holds (place p (word_of v ∷ nums) refs f s.store) s.events
  set_goes p slot v nums refs f s below at reach =
      quiet (instr.SetM slot) at (if_lt slot (frame_in w.unit).nums _ _ below)
      (subst (λ (row : ℕ → ℤ). w.Holds (with_words (p + 5) nums refs row f s.store) s.events) (words_set f.nums slot v) reach)

  pub does_set : (n : Origin) (p slot : ℕ) {ty : TyView} (v : Value) → IsNum ty → slot < (frame_in w.unit).nums →
      AtBy w.Allows w.unit p (instr.SetM slot) →
      Does n (word_of v ∷ []) [] (set (Plain slot) ty v) types.Void 0 p (p + 5)
  unfolding set
  does_set n p slot v int below at = record {
    by = λ nums refs f s room since reach. set_goes p slot v nums refs f s below at reach;
  }
  does_set n p slot v bool below at = record {
    by = λ nums refs f s room since reach. set_goes p slot v nums refs f s below at reach;
  }

  pub set_ref_goes : (p slot : ℕ) (v : Value) (nums : List ℤ) (refs : List Value) (f : Frame) (s : State) → slot < (frame_in w.unit).refs →
      AtBy w.Allows w.unit p (instr.SetP slot) → w.Holds (place (p + 5) nums refs (record f { refs = with_local f.refs slot v }) s.store) s.events →
      w.Holds (place p nums (compiled v ∷ refs) f s.store) s.events
  set_ref_goes p slot v nums refs f s below at reach =
      quiet (instr.SetP slot) at (if_lt slot (frame_in w.unit).refs _ _ below)
      (subst (λ (row : ℕ → Value). w.Holds (with_values (p + 5) nums refs row f s.store) s.events) (refs_set f.refs slot v) reach)

  pub does_set_ref : (n : Origin) (p slot : ℕ) {ty : TyView} (v : Value) → IsRef ty → slot < (frame_in w.unit).refs →
      AtBy w.Allows w.unit p (instr.SetP slot) →
      Does n [] (compiled v ∷ []) (set (Plain slot) ty v) types.Void 0 p (p + 5)
  unfolding set
  does_set_ref n p slot v str below at =
      record { by = λ nums refs f s room since reach. set_ref_goes p slot v nums refs f s below at reach }
  does_set_ref n p slot v pntr below at =
      record { by = λ nums refs f s room since reach. set_ref_goes p slot v nums refs f s below at reach }
  does_set_ref n p slot v vector below at =
      record { by = λ nums refs f s room since reach. set_ref_goes p slot v nums refs f s below at reach }
  does_set_ref n p slot v proc below at =
      record { by = λ nums refs f s room since reach. set_ref_goes p slot v nums refs f s below at reach }

  -- the words that a clause of such a type left
  pub taken : {n : Origin} {m : Meaning} {t : TyView} {need p k : ℕ} {ty : TyView} → IsNum ty → (v : Value) →
      Does n (word_of v ∷ []) [] m t need p k →
      Does n (nums_left ty v) (refs_left ty v) m t need p k
  taken int v d = d
  taken bool v d = d

  pub taken_ref : {n : Origin} {m : Meaning} {t : TyView} {need p k : ℕ} {ty : TyView} → IsRef ty → (v : Value) → Does n [] (compiled v ∷ []) m t need p k →
      Does n (nums_left ty v) (refs_left ty v) m t need p k
  taken_ref str v d = d
  taken_ref pntr v d = d
  taken_ref vector v d = d
  taken_ref proc v d = d

  -- an instruction that takes words and gives an int, or traps
  pub does_answer : (n : Origin) (p : ℕ) (bn : List ℤ) (a : Answer) (line : Line) (i : Instr) →
      ((nums : List ℤ) (refs : List Value) (f : Frame) (store : Store) →
      act i (place p (bn ++ nums) refs f store) ≡ answered line a (place (p + width_of i) nums refs f store)) →
      AtBy w.Allows w.unit p i → Does n bn [] (answer line a) types.Int 0 p (p + width_of i)
  unfolding answer give stop
  does_answer n p bn (Gives z) line i acts at = record {
    by = λ nums refs f s room since reach. quiet i at (acts nums refs f s.store) reach;
  }
  does_answer n p bn (Traps trap) line i acts at = record {
    by = λ nums refs f s room since reach. halt i at (acts nums refs f s.store) reach;
  }

  -- what is output is as it was
  out_compiled : (bytes : List ℕ) (counted : ℕ) → some_out bytes counted ≡ compiled_events (some_out bytes counted)
  out_compiled [] counted = refl
  out_compiled (byte ∷ bytes) counted = refl

  write_goes : (q : ℕ) (before : Config) (line : Line) (width : Option ℤ) (bytes : List ℕ) (i : Instr) (fits : Bool) (nums : List ℤ)
      (refs : List Value)
      (f : Frame) (s : State) → before.store.held.counted ≡ s.store.held.counted → AtBy w.Allows before.unit before.at i →
      act i before ≡ (if fits then Goes (some_out (in_places width bytes) s.store.held.counted) (place q nums refs f s.store) else Stops
      (Trapped TooLong line) 0) →
      Comes q nums refs types.Void ((if fits then emit (in_places width bytes) else stop (Trapped TooLong line)) f s) → w.Holds before s.events
  unfolding emit stop
  write_goes q before line width bytes i true nums refs f s same at acts reach =
      let events = some_out (in_places width bytes) s.store.held.counted in
      step events i at
      (acts ∙ ap (λ (es : List Event). Goes es (place q nums refs f s.store)) (out_compiled (in_places width bytes) s.store.held.counted)) reach
  write_goes q before line width bytes i false nums refs f s same at acts reach = halt_there i s same at acts reach

  -- an instruction that writes
  pub does_write : (n : Origin) (p : ℕ) (bn : List ℤ) (br : List Value) (line : Line) (width : Option ℤ) (bytes : List ℕ) (i : Instr) →
      ((nums : List ℤ) (refs : List Value) (f : Frame) (store : Store) →
      act i (place p (bn ++ nums) (br ++ refs) f store) ≡ machine.written line width bytes (place (p + width_of i) nums refs f store)) →
      AtBy w.Allows w.unit p i → Does n bn br (written line width bytes) types.Void 0 p (p + width_of i)
  unfolding written
  does_write n p bn br line width bytes i acts at = record {
    by = λ nums refs f s room since reach.
        write_goes (p + width_of i) (place p (bn ++ nums) (br ++ refs) f s.store) line width bytes i (is_width width) nums refs f s refl at
        (acts nums refs f s.store) reach;
  }

  -- an instruction that ends the run
  pub does_stop : (n : Origin) (p k : ℕ) (ty : TyView) (e : End) (i : Instr) →
      ((nums : List ℤ) (refs : List Value) (f : Frame) (store : Store) → act i (place p nums refs f store) ≡ Stops e 0) → AtBy w.Allows w.unit p i →
      Does n [] [] (stop e) ty 0 p k
  unfolding stop
  does_stop n p k ty e i acts at = record { by = λ nums refs f s room since reach. halt i at (acts nums refs f s.store) reach }

  -- Jumps. A test takes a number, and goes on or jumps.
  pub jump_goes : {c : Config} {so_far : List Event} (p to : ℕ) (d : Config) (i : Instr) → AtBy w.Allows c.unit c.at i → act i c ≡ forward p to d →
      p < to →
      w.Holds (record d { at = to }) so_far → w.Holds c so_far
  jump_goes p to d i at acts lt reach = quiet i at (acts ∙ if_lt p to _ _ lt) reach

  pub does_jump_false : {n : Origin} {ty : TyView} (need p k to : ℕ) (v : Value) (a b : Meaning) → Does n [] [] a ty need (p + 5) k →
      Does n [] [] b ty need to k → p < to →
      AtBy w.Allows w.unit p (instr.JumpFalse to) → (c : Bool) → is_one (word_of v) ≡ c → Does n (word_of v ∷ []) [] (choose c a b) ty need p k
  unfolding choose
  does_jump_false need p k to v a b da db lt at true is = record {
    by = λ nums refs f s room since reach. quiet (instr.JumpFalse to) at (if_true (is_one (word_of v)) _ _ is) (da.by nums refs f s room since reach);
  }
  does_jump_false need p k to v a b da db lt at false is = record {
    by = λ nums refs f s room since reach.
        jump_goes p to (place (p + 5) nums refs f s.store) (instr.JumpFalse to) at (if_false (is_one (word_of v)) _ _ is) lt
        (db.by nums refs f s room since reach);
  }

  pub does_and : {n : Origin} (need p k : ℕ) (v : Value) (b : Meaning) → Does n [] [] b types.Bool need (p + 5) k → p < k →
      AtBy w.Allows w.unit p (instr.And k) →
      (c : Bool) → is_one (word_of v) ≡ c → Does n (word_of v ∷ []) [] (choose c b (give v)) types.Bool need p k
  unfolding choose give
  does_and need p k v b db lt at true is = record {
    by = λ nums refs f s room since reach. quiet (instr.And k) at (if_true (is_one (word_of v)) _ _ is) (db.by nums refs f s room since reach);
  }
  does_and need p k v b db lt at false is = record {
    by = λ nums refs f s room since reach.
        jump_goes p k (place (p + 5) (word_of v ∷ nums) refs f s.store) (instr.And k) at (if_false (is_one (word_of v)) _ _ is) lt reach;
  }

  pub does_or : {n : Origin} (need p k : ℕ) (v : Value) (b : Meaning) → Does n [] [] b types.Bool need (p + 5) k → p < k →
      AtBy w.Allows w.unit p (instr.Or k) →
      (c : Bool) → is_one (word_of v) ≡ c → Does n (word_of v ∷ []) [] (choose c (give v) b) types.Bool need p k
  unfolding choose give
  does_or need p k v b db lt at true is = record {
    by = λ nums refs f s room since reach.
        jump_goes p k (place (p + 5) (word_of v ∷ nums) refs f s.store) (instr.Or k) at (if_true (is_one (word_of v)) _ _ is) lt reach;
  }
  does_or need p k v b db lt at false is = record {
    by = λ nums refs f s room since reach. quiet (instr.Or k) at (if_false (is_one (word_of v)) _ _ is) (db.by nums refs f s room since reach);
  }

  comes_jump : (q k : ℕ) (nums : List ℤ) (refs : List Value) (ty : TyView) → q < k → AtBy w.Allows w.unit q (instr.Jump k) → (o : Outcome) →
      Comes k nums refs ty o → Comes q nums refs ty o
  comes_jump q k nums refs ty lt at (Value_is v f s) reach =
      jump_goes q k (place (q + 5) (nums_left ty v ++ nums) (refs_left ty v ++ refs) f s.store) (instr.Jump k) at refl lt reach
  comes_jump q k nums refs ty lt at (Ends e s) reach = reach

  -- a clause, and then a jump
  pub does_jump : {n : Origin} {bn : List ℤ} {br : List Value} {a : Meaning} {ty : TyView} {need p : ℕ} (q k : ℕ) → q < k →
      AtBy w.Allows w.unit q (instr.Jump k) →
      Does n bn br a ty need p q → Does n bn br a ty need p k
  does_jump {a = a} {ty = ty} q k lt at da = record {
    by = λ nums refs f s room since reach. da.by nums refs f s room since (comes_jump q k nums refs ty lt at (a f s) reach);
  }

  -- a jump, and then a clause
  pub jump_does : {n : Origin} {bn : List ℤ} {br : List Value} {a : Meaning} {ty : TyView} {need k : ℕ} (p to : ℕ) → p < to →
      AtBy w.Allows w.unit p (instr.Jump to) →
      Does n bn br a ty need to k → Does n bn br a ty need p k
  jump_does {bn = bn} {br = br} p to lt at da = record {
    by = λ nums refs f s room since reach.
        jump_goes p to (place (p + 5) (bn ++ nums) (br ++ refs) f s.store) (instr.Jump to) at refl lt (da.by nums refs f s room since reach);
  }

  -- an instruction that takes a turn and goes to a place, where one is left
  pub turn_goes : (k to : ℕ) (before : Config) (i : Instr) (nums after_nums : List ℤ) (refs after_refs : List Value) (ty : TyView) (f : Frame)
      (s : State)
      (turns : ℕ) (next : Value → Meaning) → before.store.held.counted ≡ s.store.held.counted → AtBy w.Allows before.unit before.at i →
      act i before ≡ turn_to (with_turns (compiled_store s.store) turns) to (place (before.at + width_of i) nums refs f s.store) →
      ((events : List Event) (left : ℕ) → left < turns →
      Comes k after_nums after_refs ty (next Nothing f (record { events = events; store = record s.store { turns = left } })) →
      w.Holds (place to nums refs f (record s.store { turns = left })) events) →
      Comes k after_nums after_refs ty (after (turned (with_turns s.store turns) f s) next) → w.Holds before s.events
  unfolding after
  turn_goes k to before i nums after_nums refs after_refs ty f s zero next same at acts rest reach = halt_there i s same at acts reach
  turn_goes k to before i nums after_nums refs after_refs ty f s (suc left) next same at acts rest reach =
      step (Turn s.store.held.counted ∷ []) i at acts (rest (s.events ++ Turn s.store.held.counted ∷ []) left (omega arith) reach)

  -- the test of a loop: with a turn to the start of its clause, or on
  again_goes : (p to : ℕ) (v : Value) (nums : List ℤ) (refs : List Value) (f : Frame) (store : Store) → to < p → is_one (word_of v) ≡ true →
      act (instr.Again to) (place p (word_of v ∷ nums) refs f store) ≡ turn_to (spent (compiled_store store)) to (place (p + 5) nums refs f store)
  again_goes p to v nums refs f store lt is = if_true (is_one (word_of v)) _ _ is ∙ if_lt to p _ _ lt

  does_last : (heap : Heap) (known : Standing) (need p to : ℕ) (v : Value) → to < p → AtBy w.Allows w.unit p (instr.Again to) →
      (c : Bool) → is_one (word_of v) ≡ c →
      Does (record { turns = 0; heap = heap; known = known }) (word_of v ∷ []) [] (choose c (stop OutOfTurns) (give Nothing)) types.Void need p
      (p + 5)
  unfolding choose give stop
  does_last heap known need p to v lt at true is = record {
    by = λ nums refs f s room since reach.
        let none_left : s.store.turns ≡ 0 = let few = since.few in omega arith in
        halt (instr.Again to) at (again_goes p to v nums refs f s.store lt is
        ∙ ap (λ (t : ℕ). turn_to (with_turns (compiled_store s.store) t) to (place (p + 5) nums refs f s.store)) none_left) reach;
  }
  does_last heap known need p to v lt at false is = record {
    by = λ nums refs f s room since reach. quiet (instr.Again to) at (if_false (is_one (word_of v)) _ _ is) reach;
  }

  does_again : (n need p to : ℕ) (heap : Heap) (known : Standing) (v : Value) (next : Value → Meaning) →
      Does (record { turns = n; heap = heap; known = known }) [] [] (next Nothing) types.Void need to (p + 5) → to < p →
      AtBy w.Allows w.unit p (instr.Again to) → (c : Bool) → is_one (word_of v) ≡ c →
      Does (record { turns = suc n; heap = heap; known = known }) (word_of v ∷ []) [] (choose c (take_turn >>= next) (give Nothing)) types.Void
      need p (p + 5)
  unfolding choose give take_turn ◌>>=◌
  does_again n need p to heap known v next d lt at true is = record {
    by = λ nums refs f s room since reach.
        turn_goes (p + 5) to (place p (word_of v ∷ nums) refs f s.store) (instr.Again to) nums nums refs refs types.Void f s s.store.turns next refl
        at
        (again_goes p to v nums refs f s.store lt is)
        (λ events left less. d.by nums refs f _ room
        (record { few = let few = since.few in omega arith; grows = since.grows; typed = since.typed; are = since.are; held = since.held; weighs = since.weighs })) reach;
  }
  does_again n need p to heap known v next d lt at false is = record {
    by = λ nums refs f s room since reach. quiet (instr.Again to) at (if_false (is_one (word_of v)) _ _ is) reach;
  }

  -- The test from p on, the clause from `to` on up to p, and the end of the loop after the test.
  pub does_while : (n : Origin) (need nc na p q to : ℕ) (test clause : Meaning) → nc ≤ need → na ≤ need → Leads w.Body n n.known types.Bool test →
      Leads w.Body n n.known types.Void clause → Does n [] [] test types.Bool nc p q → Does n [] [] clause types.Void na to p → to < q →
      AtBy w.Allows w.unit q (instr.Again to) → (m : ℕ) (heap : Heap) → m ≤ n.turns → Grows n.heap heap →
      Does (record { turns = m; heap = heap; known = n.known }) [] [] (while_turns m test clause) types.Void need p (q + 5)
  unfolding while_turns
  does_while n need nc na p q to test clause le_c le_a lt_c lt_a dt dc lt at zero heap le g =
      does_then _ nc need need p q (q + 5) le_c (omega arith) (leads_more le g lt_c) (fewer 0 heap le g dt)
      (λ new v k is. does_last new n.known need q to v lt at (flag_of v) refl)
  does_while n need nc na p q to test clause le_c le_a lt_c lt_a dt dc lt at (suc m) heap le g =
      does_then _ nc need need p q (q + 5) le_c (omega arith) (leads_more le g lt_c) (fewer (suc m) heap le g dt)
      (λ new v k is. let h = grows_then n.heap heap new g k in
      does_again m need q to new n.known v (λ t. clause >>= λ u. while_turns m test clause)
      (does_then (λ u. while_turns m test clause) na need need to p (q + 5) le_a (omega arith) (leads_more (omega arith) h lt_a)
      (fewer m new (omega arith) h dc)
      (λ last u l of. does_while n need nc na p q to test clause le_c le_a lt_c lt_a dt dc lt at m last (omega arith)
      (grows_then n.heap new last h l)))
      lt at (flag_of v) refl)

  -- the same meaning
  pub does_same : {n : Origin} {bn : List ℤ} {br : List Value} {m : Meaning} {ty : TyView} {need p k : ℕ} (m' : Meaning) →
      ((f : Frame) (s : State) → m f s ≡ m' f s) →
      Does n bn br m ty need p k → Does n bn br m' ty need p k
  does_same {ty = ty} {k = k} m' same d = record {
    by = λ nums refs f s room since reach. d.by nums refs f s room since (subst (λ (o : Outcome). Comes k nums refs ty o) (sym (same f s)) reach);
  }

  -- Instructions that write nothing.

  -- what the machine does for an outcome
  abbrev pub stepped : ℕ → List ℤ → List Value → TyView → Outcome → Step
  stepped k nums refs ty (Value_is v f s) = on (place k (nums_left ty v ++ nums) (refs_left ty v ++ refs) f s.store)
  stepped k nums refs ty (Ends e s) = Stops e 0

  by_outcome : (k : ℕ) (nums : List ℤ) (refs : List Value) (ty : TyView) (before : Config) (old : State) (i : Instr) (o : Outcome) →
      AtBy w.Allows before.unit before.at i → before.store.held.counted ≡ old.store.held.counted → act i before ≡ stepped k nums refs ty o → IsQuiet old o →
      Comes k nums refs ty o → w.Holds before old.events
  by_outcome k nums refs ty before old i (Value_is v f s) at same acts is reach =
      quiet i at acts (subst (λ (es : List Event). w.Holds (place k (nums_left ty v ++ nums) (refs_left ty v ++ refs) f s.store) es) is reach)
  by_outcome k nums refs ty before old i (Ends e s) at same acts is reach =
      halt_there i old same at acts (subst (λ (t : State). w.Final e t.store.held.counted t.events) is reach)

  -- an instruction that does what is meant
  pub does_meant : {n : Origin} {bn : List ℤ} {br : List Value} {m : Meaning} {ty : TyView} (p need : ℕ) (i : Instr) →
      ((nums : List ℤ) (refs : List Value) (f : Frame) (s : State) → Room need nums refs → IsSince w.Body n f s →
      act i (place p (bn ++ nums) (br ++ refs) f s.store) ≡ stepped (p + width_of i) nums refs ty (m f s)) →
      IsQuietly m → AtBy w.Allows w.unit p i → Does n bn br m ty need p (p + width_of i)
  does_meant {bn = bn} {br = br} {m = m} {ty = ty} p need i acts is at = record {
    by = λ nums refs f s room since reach.
        by_outcome (p + width_of i) nums refs ty (place p (bn ++ nums) (br ++ refs) f s.store) s i (m f s) at refl (acts nums refs f s room since)
        (is f s) reach;
  }
