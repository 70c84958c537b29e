-- Loops by `for`: the machine reads the limit and the step from their locals at each turn, and nothing but the loop sets them.
use Rattle.std.proofs.Common.{◌≡◌, ℕ, zero, suc, ◌+◌, ◌<◌, ◌≤◌, ℤ, pos, ◌+ℤ◌, Bool, true, false, List, [], ◌∷◌, Option, Some, None, refl, sym, ap, ◌∙◌, subst, arith, eq-eqb}
use Rattle.std.specs.Prelude.{nat_eq}
use Rattle.ps_gen.specs.ps_program.Node.{BodyNode}
use Rattle.ps_gen.specs.ps_base.TyView.{TyView}
use Rattle.ps_gen.specs.ps_base.TyView as types
use Rattle.ps_gen.specs.ps_base.CodeUnit.{text}
use Rattle.ps_gen.specs.ps_base.Instr.{width_of}
use Rattle.ps_gen.specs.ps_base.declared.line.Line.{Line}
use Rattle.ps_gen.specs.ps_base.declared.trap.Trap.TheVariants.{Bounds}
use Rattle.ps_gen.specs.ps_base.declared.instr.Instr.{Instr}
use Rattle.ps_gen.specs.ps_base.declared.instr.Instr.TheVariants as instr
use Rattle.ps_gen.specs.ps_program.declared.place.Place.{Place}
use Rattle.ps_gen.specs.ps_program.declared.place.Place.TheVariants.{Plain, Kept}
use Rattle.ps_gen.specs.ps_emitter.Choices as choice
use Rattle.ps_gen.specs.Emission.{size_at}
use Rattle.ps_stepping.specs.ps_heap.Operators.{is_int, is_same}
use Rattle.ps_stepping.specs.ps_heap.Objects.{Heap}
use Rattle.ps_stepping.specs.ps_heap.Ends.{Trapped}
use Rattle.ps_stepping.specs.ps_heap.Values.{Value, Num, Nothing, word_of}
use Rattle.ps_stepping.specs.ps_meaning.Meaning.{Frame, Store, State, Outcome, Value_is, Ends, Meaning, give, stop, after, ◌>>=◌, choose, in_scope, with_turns, spent, take_turn, with_local, change, set}
use Rattle.ps_stepping.specs.ps_meaning.Loops.{Counting, goes_on, in_turn, for_turns, for_loop, for_meant}
use Rattle.ps_stepping.specs.Config.{Config, constants_in, constant_at, frame_in}
use Rattle.ps_stepping.specs.Machine.{turn_to, started, counted, act}
use Rattle.heap_fit.specs.Bodies.{Level}
use Rattle.ps_code_laws.specs.Compiled.{compiled_store}
use Rattle.ps_soundness.specs.Running.{IsScopeText}
use Rattle.ps_soundness.specs.Over.{Grows}
use Rattle.ps_code_laws.specs.Fitting.{IsOf}
use Rattle.ps_soundness.proofs.Combining.{Sound}
use Rattle.ps_soundness.proofs.Growing.{grows_not, grows_then}
use Rattle.ps_soundness.proofs.Loops.{goes_on_int}
use Rattle.ps_code_laws.proofs.Known.{opened}
use Rattle.ps_code_laws.proofs.Clauses.{int, KeepsTypes, Controls, IsControl, by_local, by_scope}
use Rattle.ps_code_laws.proofs.Keeps.{on_nums, Same, Leaves, other_local, leaves_set, leaves_then, leaves_kept, leaves_scoped}
use Rattle.ps_code_laws.proofs.Falls.{falls_set, falls_then, falls_scoped}
use Rattle.ps_code_laws.proofs.Staying.{Stays, stays_then, stays_set}
use Rattle.ps_code_laws.proofs.Literals.{IsLiteral}
use Rattle.ps_code_laws.proofs.Holding.{holds_set, holds_then, holds_scoped}
use Rattle.ps_code_laws.proofs.Standing.{AtBy}
use Rattle.ps_code_laws.proofs.Doing.{Origin, IsSince, after_it, Leads, leads_more, leads_then, Way, if_true, if_false, if_lt, words_set, place, Comes, Room, Does, later, moved, step, quiet, halt, halt_there, less_room, jump_goes, push_goes, with_words, set_goes, does_set, turn_goes}
use Rattle.ps_code_laws.proofs.From.{On, From, from_does, then_from, fewer_from}
use Rattle.ps_code_laws.proofs.ScopeForms.{does_set_kept}
use Rattle.ps_code_laws.proofs.Scoping.{from_scoped}
use Rattle.fit_soundness.proofs.Standings.{Standing, in_levels}

same_local : (row : ℕ → Value) (slot : ℕ) (v : Value) → with_local row slot v slot ≡ v
same_local row slot v = if_true (nat_eq slot slot) v (row slot) (eq-eqb slot slot refl)

-- a local that is left alone has the number that it had
abbrev Reads : ℕ → ℤ → Frame → Type 0
Reads x z f = word_of (f.nums x) ≡ z

reads_on : (x : ℕ) (z : ℤ) (f : Frame) (o : Outcome) → Reads x z f → Same (on_nums x) f o → On (λ v g. Reads x z g) o
reads_on x z f (Value_is v g s) h k = ap word_of k ∙ h
reads_on x z f (Ends e s) h k = tt

-- the three locals of a loop
pub record Three (slot : ℕ) (z limit step : ℤ) (f : Frame) : Type 0 where
  pub control_is : Reads slot z f
  pub limit_is : Reads (slot + 1) limit f
  pub step_is : Reads (slot + 2) step f

record Two (slot : ℕ) (z limit : ℤ) (f : Frame) : Type 0 where
  pub control_is : Reads slot z f
  pub limit_is : Reads (slot + 1) limit f

two_on : (slot : ℕ) (z limit : ℤ) (f : Frame) (o : Outcome) → Two slot z limit f → Same (on_nums slot) f o → Same (on_nums (slot + 1)) f o →
    On (λ v g. Two slot z limit g) o
two_on slot z limit f (Value_is v g s) h k l = record { control_is = ap word_of k ∙ h.control_is; limit_is = ap word_of l ∙ h.limit_is }
two_on slot z limit f (Ends e s) h k l = tt

three_on : (slot : ℕ) (z limit step : ℤ) (f : Frame) (o : Outcome) → Three slot z limit step f → Same (on_nums slot) f o → Same (on_nums (slot + 1)) f o →
    Same (on_nums (slot + 2)) f o →
    On (λ v g. Three slot z limit step g) o
three_on slot z limit step f (Value_is v g s) h k l m =
    record { control_is = ap word_of k ∙ h.control_is; limit_is = ap word_of l ∙ h.limit_is; step_is = ap word_of m ∙ h.step_is }
three_on slot z limit step f (Ends e s) h k l m = tt

-- what is done in a turn: what is repeated with this number as the control, in a scope of its own where it has one
abbrev pub turn_meant : Option (List ℕ) → Place → Meaning → ℤ → Meaning
turn_meant scope control clause z = in_scope scope (set control types.Int (Num z) >>= λ u. clause)

int_literal : (P : BodyNode → Type 0) (heap : Heap) (v : Value) → IsOf heap types.Int v → IsLiteral P v
int_literal P heap (Num z) is = tt
int_literal P heap _ is = absurd is

module _ (w : Way) where
  -- what a loop by `for` needs, and where it stands: its turns begin here, and the step to the next is here
  pub record Stands (n : Origin) (own_known : Standing) (slot : ℕ) (scope : Option (List ℕ)) (control : Place) (need turn q : ℕ) (clause : Meaning) :
      Type 0 where
    pub typed : KeepsTypes n.known own_known slot
    pub leads : (z : ℤ) → is_int z ≡ true → Leads w.Body n own_known types.Void (turn_meant scope control clause z)
    pub three : slot + 2 < (frame_in w.unit).nums
    pub does : (z limit step : ℤ) → is_int z ≡ true →
        From w n (Three slot z limit step) [] [] (turn_meant scope control clause z) types.Void need turn q
    pub next_at : AtBy w.Allows w.unit q (instr.ForNext slot turn)
    pub back : turn < q
    pub keeps : (z : ℤ) → Leaves (on_nums slot) (turn_meant scope control clause z)
    pub keeps_limit : (z : ℤ) → Leaves (on_nums (slot + 1)) (turn_meant scope control clause z)
    pub keeps_step : (z : ℤ) → Leaves (on_nums (slot + 2)) (turn_meant scope control clause z)

  module _ (n : Origin) (own_known : Standing) (slot : ℕ) (scope : Option (List ℕ)) (control : Place) (need turn q : ℕ) (clause : Meaning)
      (limit step_by : ℤ) (h : Stands n own_known slot scope control need turn q clause) where
    abbrev loop : Counting
    loop = record { slot = slot; scope = scope; control = control; limit = limit; step = step_by }

    abbrev At : ℤ → Frame → Type 0
    At z f = Three slot z limit step_by f

    -- from so many turns, in a heap, where this is known
    abbrev since : ℕ → Heap → Standing → Origin
    since m heap known = record { turns = m; heap = heap; known = known }

    -- from an instruction that takes a turn to the turns with this number, where so many may be left
    abbrev Turns : ℕ → Type 0
    Turns m = (z : ℤ) (before : Config) (i : Instr) (nums : List ℤ) (refs : List Value) (f : Frame) (s : State) →
        before.store.held.counted ≡ s.store.held.counted → AtBy w.Allows before.unit before.at i →
        act i before ≡ turn_to (spent (compiled_store s.store)) turn (place w (before.at + width_of i) nums refs f s.store) →
        IsSince w.Body (since m s.store.held.objects n.known) f s → m ≤ n.turns → Grows n.heap s.store.held.objects → is_int z ≡ true → At z f → Room w need nums refs →
        Comes w (q + 9) nums refs types.Void (for_turns m loop clause z f s) → w.Holds before s.events

    counted_is : (z : ℤ) (nums : List ℤ) (refs : List Value) (f : Frame) (store : Store) → At z f →
        act (instr.ForNext slot turn) (place w q nums refs f store) ≡ counted q slot turn limit step_by (z +ℤ step_by)
        (place w (q + 9) nums refs f store)
    counted_is z nums refs f store is =
        let c = place w (q + 9) nums refs f store in
        if_lt (slot + 2) (frame_in w.unit).nums _ _ h.three
        ∙ ap (λ (x : ℤ). counted q slot turn x (word_of (f.nums (slot + 2))) (word_of (f.nums slot) +ℤ word_of (f.nums (slot + 2))) c) is.limit_is
        ∙ ap (λ (x : ℤ). counted q slot turn limit x (word_of (f.nums slot) +ℤ x) c) is.step_is
        ∙ ap (λ (x : ℤ). counted q slot turn limit step_by (x +ℤ step_by) c) is.control_is

    next_does : (m : ℕ) (heap : Heap) (z : ℤ) → m ≤ n.turns → Grows n.heap heap → Turns m → (b : Bool) → goes_on limit step_by (z +ℤ step_by) ≡ b →
        From w (since m heap own_known) (At z) [] [] (choose b
        (set (Plain slot) types.Int (Num (z +ℤ step_by)) >>= λ u. for_turns m loop clause (z +ℤ step_by)) (give Nothing))
        types.Void need q (q + 9)
    unfolding choose ◌>>=◌ set after give
    next_does m heap z le grown rest true on_it = record {
      by = λ nums refs f s is room known reach.
          let z' = z +ℤ step_by in
          let g : Frame = record f { nums = with_local f.nums slot (Num z') } in
          let acts = counted_is z nums refs f s.store is ∙ if_true (goes_on limit step_by z') _ _ on_it ∙ if_lt turn q _ _ h.back
          ∙ ap (λ (row : ℕ → ℤ). turn_to (spent (compiled_store s.store)) turn (with_words w (q + 9) nums refs row f s.store)) (sym (words_set f.nums slot
          (Num z')))
          in
          let now : At z' g = record {
            control_is = ap word_of (same_local f.nums slot (Num z'));
            limit_is = ap word_of (other_local f.nums slot (slot + 1) (Num z') (λ e. omega arith)) ∙ is.limit_is;
            step_is = ap word_of (other_local f.nums slot (slot + 2) (Num z') (λ e. omega arith)) ∙ is.step_is;
          } in
          let set_types = (h.typed.counts z' s.store.held.objects).runs f s (grows_not s.store.held.objects) known.typed known.are in
          let held = holds_set w.Body (Plain slot) types.Int (Num z') tt f s known.held.0 known.held.1 in
          rest z' (place w q nums refs f s.store) (instr.ForNext slot turn) nums refs g s refl h.next_at acts
          (record { few = known.few; grows = grows_not s.store.held.objects; typed = known.typed; are = set_types.are; held = (held.1, held.2); weighs = known.weighs }) le
          (grows_then n.heap heap s.store.held.objects grown known.grows)
          (goes_on_int limit step_by z' on_it) now room reach;
    }
    next_does m heap z le grown rest false on_it = record {
      by = λ nums refs f s is room known reach. quiet w (instr.ForNext slot turn) h.next_at
          (counted_is z nums refs f s.store is ∙ if_false (goes_on limit step_by (z +ℤ step_by)) _ _ on_it) reach;
    }

    -- a turn, and those after it
    turn_does : (m : ℕ) (heap : Heap) (z : ℤ) → m ≤ n.turns → Grows n.heap heap → is_int z ≡ true → Turns m →
        From w (since m heap n.known) (At z) [] [] (in_turn loop clause z >>= λ v.
        choose (goes_on limit step_by (z +ℤ step_by))
        (set (Plain slot) types.Int (Num (z +ℤ step_by)) >>= λ u. for_turns m loop clause (z +ℤ step_by)) (give Nothing)) types.Void need turn (q + 9)
    turn_does m heap z le grown is_number rest =
        then_from w _ (λ v g. At z g) need need turn q (q + 9) (omega arith) (leads_more le grown (h.leads z is_number))
        (λ f s is. three_on slot z limit step_by f (in_turn loop clause z f s) is (h.keeps z f s) (h.keeps_limit z f s) (h.keeps_step z f s))
        (fewer_from w m heap le grown (h.does z limit step_by is_number))
        (λ last v k is. next_does m last z le (grows_then n.heap heap last grown k) rest (goes_on limit step_by (z +ℤ step_by)) refl)

    turns_go : (m : ℕ) → Turns m
    unfolding for_turns take_turn stop ◌>>=◌
    turns_go zero z before i nums refs f s same at acts known le grown is_number is room reach =
        let none_left : s.store.turns ≡ 0 = let few = known.few in omega arith in
        halt_there w i s same at (acts ∙ ap (λ (t : ℕ). turn_to (with_turns (compiled_store s.store) t) turn (place w
        (before.at + width_of i) nums refs f s.store))
        none_left) reach
    turns_go (suc m) z before i nums refs f s same at acts known le grown is_number is room reach =
        turn_goes w (q + 9) turn before i nums nums refs refs types.Void f s s.store.turns _ same at acts
        (λ events left less reach'. (turn_does m s.store.held.objects z (omega arith) grown is_number (turns_go m)).by nums refs f _ is room
        (record {
          few = let few = known.few in omega arith;
          grows = grows_not s.store.held.objects;
          typed = known.typed;
          are = known.are;
          held = known.held;
          weighs = known.weighs;
        }) reach') reach

    -- the start of a loop
    module _ (p : ℕ) (line : Line) (start_at : AtBy w.Allows w.unit p (instr.ForStart slot (q + 9) line)) (turn_is : p + 13 ≡ turn) where
      started_is : (z : ℤ) (nums : List ℤ) (refs : List Value) (f : Frame) (store : Store) → At z f →
          act (instr.ForStart slot (q + 9) line) (place w p nums refs f store) ≡ started p (q + 9) line z limit step_by
          (place w (p + 13) nums refs f store)
      started_is z nums refs f store is =
          let c = place w (p + 13) nums refs f store in
          if_lt (slot + 2) (frame_in w.unit).nums _ _ h.three
          ∙ ap (λ (x : ℤ). started p (q + 9) line x (word_of (f.nums (slot + 1))) (word_of (f.nums (slot + 2))) c) is.control_is
          ∙ ap (λ (x : ℤ). started p (q + 9) line z x (word_of (f.nums (slot + 2))) c) is.limit_is
          ∙ ap (λ (x : ℤ). started p (q + 9) line z limit x c) is.step_is

      start_does : (heap : Heap) → Grows n.heap heap → (z : ℤ) (zero_step goes : Bool) → is_same step_by (pos 0) ≡ zero_step →
          goes_on limit step_by z ≡ goes →
          From w (since n.turns heap n.known) (At z) [] []
          (choose zero_step (stop (Trapped Bounds line)) (choose goes (for_turns n.turns loop clause z) (give Nothing))) types.Void need p (q + 9)
      unfolding choose stop give
      start_does heap grown z true goes is_zero on_it = record {
        by = λ nums refs f s is room known reach. halt w (instr.ForStart slot (q + 9) line) start_at
            (started_is z nums refs f s.store is ∙ if_true (is_same step_by (pos 0)) _ _ is_zero) reach;
      }
      start_does heap grown z false true is_zero on_it = record {
        by = λ nums refs f s is room known reach.
            let acts = started_is z nums refs f s.store is ∙ if_false (is_same step_by (pos 0)) _ _ is_zero ∙ if_true (goes_on limit step_by z) _ _
            on_it
            ∙ ap (λ (to : ℕ). turn_to (spent (compiled_store s.store)) to (place w (p + 13) nums refs f s.store)) turn_is in
            turns_go n.turns z (place w p nums refs f s.store) (instr.ForStart slot (q + 9) line) nums refs f s refl start_at acts
            (record { few = known.few; grows = grows_not s.store.held.objects; typed = known.typed; are = known.are; held = known.held; weighs = known.weighs }) (omega arith)
            (grows_then n.heap heap s.store.held.objects grown known.grows) (goes_on_int limit step_by z on_it) is room reach;
      }
      start_does heap grown z false false is_zero on_it = record {
        by = λ nums refs f s is room known reach. jump_goes w p (q + 9) (place w (p + 13) nums refs f s.store) (instr.ForStart slot (q + 9) line)
            start_at
            (started_is z nums refs f s.store is ∙ if_false (is_same step_by (pos 0)) _ _ is_zero ∙ if_false (goes_on limit step_by z) _ _ on_it)
            (let b = h.back in omega arith) reach;
      }

      loop_does : (heap : Heap) → Grows n.heap heap → (z : ℤ) →
          From w (since n.turns heap n.known) (At z) [] [] (for_loop n.turns line loop clause z) types.Void need p (q + 9)
      unfolding for_loop
      loop_does heap grown z = start_does heap grown z (is_same step_by (pos 0)) (goes_on limit step_by z) refl refl

  on_unit : (o : Outcome) → On (λ v g. Unit {0}) o
  on_unit (Value_is v f s) = tt
  on_unit (Ends e s) = tt

  first_post : (slot : ℕ) (v : Value) (f : Frame) (s : State) → On (λ u g. Reads slot (word_of v) g) (set (Plain slot) types.Int v f s)
  unfolding set
  first_post slot v f s = ap word_of (same_local f.nums slot v)

  second_post : (slot : ℕ) (z : ℤ) (v : Value) (f : Frame) (s : State) → Reads slot z f →
      On (λ u g. Two slot z (word_of v) g) (set (Plain (slot + 1)) types.Int v f s)
  unfolding set
  second_post slot z v f s is = record {
    control_is = ap word_of (other_local f.nums (slot + 1) slot v (λ e. omega arith)) ∙ is;
    limit_is = ap word_of (same_local f.nums (slot + 1) v);
  }

  third_post : (slot : ℕ) (z limit : ℤ) (v : Value) (f : Frame) (s : State) → Two slot z limit f →
      On (λ u g. Three slot z limit (word_of v) g) (set (Plain (slot + 2)) types.Int v f s)
  unfolding set
  third_post slot z limit v f s is = record {
    control_is = ap word_of (other_local f.nums (slot + 2) slot v (λ e. omega arith)) ∙ is.control_is;
    limit_is = ap word_of (other_local f.nums (slot + 2) (slot + 1) v (λ e. omega arith)) ∙ is.limit_is;
    step_is = ap word_of (same_local f.nums (slot + 2) v);
  }

  -- the start, the limit and the step, and then the loop
  pub does_for : (n : Origin) (own_known : Standing) (slot : ℕ) (scope : Option (List ℕ)) (control : Place) (need q na nb nc p pa pb pc : ℕ)
      (a b c clause : Meaning) (line : Line) → Stands n own_known slot scope control need (pc + 5 + 13) q clause → na ≤ need → nb ≤ need → nc ≤ need →
      Leads w.Body n n.known types.Int a → Leads w.Body n n.known types.Int b → Leads w.Body n n.known types.Int c →
      Does w n [] [] a types.Int na p pa → AtBy w.Allows w.unit pa (instr.SetM slot) →
      Does w n [] [] b types.Int nb (pa + 5) pb → AtBy w.Allows w.unit pb (instr.SetM (slot + 1)) →
      Does w n [] [] c types.Int nc (pb + 5) pc → AtBy w.Allows w.unit pc (instr.SetM (slot + 2)) →
      AtBy w.Allows w.unit (pc + 5) (instr.ForStart slot (q + 9) line) → Leaves (on_nums slot) b → Leaves (on_nums slot) c → Leaves (on_nums (slot + 1)) c →
      Does w n [] [] (for_meant n.turns line slot scope control a b c clause) types.Void need p (q + 9)
  unfolding for_meant
  does_for n own_known slot scope control need q na nb nc p pa pb pc a b c clause line h le_a le_b le_c la lb lc da at_a db at_b dc at_c at_start
      keeps_b keeps_c keeps_limit =
      let three = h.three in
      let sets : (at : ℕ) (heap : Heap) (v : Value) → slot ≤ at → at < slot + 3 → IsOf heap types.Int v →
      Leads w.Body (after_it n heap n.known) n.known types.Void (set (Plain at) types.Int v)
      = λ at heap v le below is. record {
        falls = falls_set (Plain at) types.Int v;
        sound = h.typed.spares at le below heap v;
        holds = holds_set w.Body (Plain at) types.Int v (int_literal w.Body heap v is);
      } in
      let chain : From w n (λ f. Unit {0}) [] [] (for_meant n.turns line slot scope control a b c clause) types.Void need p (q + 9)
      = then_from w _ (λ v g. Unit {0}) na need p pa (q + 9) le_a la (λ f s is. on_unit (a f s)) (from_does w _ da)
      (λ h1 first g1 is1. then_from w _ (λ u g. Reads slot (word_of first) g) 0 need pa (pa + 5) (q + 9) (omega arith)
      (sets slot h1 first (omega arith) (omega arith) is1)
      (λ f s is. first_post slot first f s) (from_does w _ (does_set w (after_it n h1 n.known) pa slot first int (omega arith) at_a))
      (λ h2 u g2 is2. let k2 = grows_then n.heap h1 h2 g1 g2 in
      then_from w _ (λ v g. Reads slot (word_of first) g) nb need (pa + 5) pb (q + 9) le_b (leads_more (omega arith) k2 lb)
      (λ f s is. reads_on slot (word_of first) f (b f s) is (keeps_b f s)) (from_does w _ (later w h2 k2 db))
      (λ h3 limit g3 is3. then_from w _ (λ u g. Two slot (word_of first) (word_of limit) g) 0 need pb (pb + 5) (q + 9) (omega arith)
      (sets (slot + 1) h3 limit (omega arith) (omega arith) is3) (λ f s is. second_post slot (word_of first) limit f s is)
      (from_does w _ (does_set w (after_it n h3 n.known) pb (slot + 1) limit int (omega arith) at_b))
      (λ h4 v g4 is4. let k4 = grows_then n.heap h2 h4 k2 (grows_then h2 h3 h4 g3 g4) in
      then_from w _ (λ v g. Two slot (word_of first) (word_of limit) g) nc need (pb + 5) pc (q + 9) le_c (leads_more (omega arith) k4 lc)
      (λ f s is. two_on slot (word_of first) (word_of limit) f (c f s) is (keeps_c f s) (keeps_limit f s)) (from_does w _ (later w h4 k4 dc))
      (λ h5 by_step g5 is5. then_from w _ (λ u g. Three slot (word_of first) (word_of limit) (word_of by_step) g) 0 need pc (pc + 5) (q + 9)
      (omega arith)
      (sets (slot + 2) h5 by_step (omega arith) (omega arith) is5) (λ f s is. third_post slot (word_of first) (word_of limit) by_step f s is)
      (from_does w _ (does_set w (after_it n h5 n.known) pc (slot + 2) by_step int (omega arith) at_c))
      (λ h6 x g6 is6. loop_does n own_known slot scope control need (pc + 5 + 13) q clause (word_of limit) (word_of by_step) h (pc + 5) line at_start
      refl h6
      (grows_then n.heap h4 h6 k4 (grows_then h4 h5 h6 g5 g6)) (word_of first))))))) in
      record { by = λ nums refs f s room known reach. chain.by nums refs f s tt room known reach }

  -- the control of a loop has the number of its turn
  control_does : (n : Origin) (slot p : ℕ) (control : Place) → IsControl (frame_in w.unit).nums slot n.known control → slot + 2 < (frame_in w.unit).nums →
      AtBy w.Allows w.unit p (instr.GetM slot) → AtBy w.Allows w.unit (p + 5) (choice.set control types.Int) → (z limit step : ℤ) →
      From w n (Three slot z limit step) [] [] (set control types.Int (Num z)) types.Void 1 p (p + 5 + size_at control)
  unfolding set
  control_does n slot p (Plain control) (by_local below apart) three get_at set_at z limit step = record {
    by = λ nums refs f s is room known reach. quiet w (instr.GetM slot) get_at
        (if_lt slot (frame_in w.unit).nums _ _ (omega arith) ∙ push_goes w (p + 5) (word_of (f.nums slot)) nums refs f s.store room)
        (subst (λ (x : ℤ). w.Holds (place w (p + 5) (x ∷ nums) refs f s.store) s.events) (sym is.control_is)
        (set_goes w (p + 5) control (Num z) nums refs f s below set_at reach));
  }
  control_does n slot p (Kept up position) (by_scope there) three get_at keep_at z limit step = record {
    by = λ nums refs f s is room known reach. quiet w (instr.GetM slot) get_at
        (if_lt slot (frame_in w.unit).nums _ _ (omega arith) ∙ push_goes w (p + 5) (word_of (f.nums slot)) nums refs f s.store room)
        (subst (λ (x : ℤ). w.Holds (place w (p + 5) (x ∷ nums) refs f s.store) s.events) (sym is.control_is)
        ((does_set_kept w n (p + 5) up position (Num z) int there keep_at).by nums refs f s (less_room w 0 1 nums refs (omega arith) room) known reach));
  }

  -- and the three locals of the loop have theirs
  control_post : {nums slot : ℕ} {known : Standing} {control : Place} → IsControl nums slot known control → (z limit step : ℤ) (f : Frame) (s : State) →
      Three slot z limit step f → On (λ v g. Three slot z limit step g) (set control types.Int (Num z) f s)
  unfolding set change
  control_post {slot = slot} (by_local {control = control} below apart) z limit step f s is = record {
    control_is = ap word_of (other_local f.nums control slot (Num z) apart.first) ∙ is.control_is;
    limit_is = ap word_of (other_local f.nums control (slot + 1) (Num z) apart.second) ∙ is.limit_is;
    step_is = ap word_of (other_local f.nums control (slot + 2) (Num z) apart.third) ∙ is.step_is;
  }
  control_post (by_scope there) z limit step f s is = is

  control_keeps : {nums slot : ℕ} {known : Standing} {control : Place} → IsControl nums slot known control → (z : ℤ) →
      Leaves (on_nums slot) (set control types.Int (Num z)) × Leaves (on_nums (slot + 1)) (set control types.Int (Num z))
      × Leaves (on_nums (slot + 2)) (set control types.Int (Num z))
  control_keeps {slot = slot} (by_local {control = control} below apart) z = (
    leaves_set (on_nums slot) control types.Int (Num z) (λ number e. apart.first e),
    leaves_set (on_nums (slot + 1)) control types.Int (Num z) (λ number e. apart.second e),
    leaves_set (on_nums (slot + 2)) control types.Int (Num z) (λ number e. apart.third e),
  )
  control_keeps {slot = slot} (by_scope {up = up} {position = position} there) z = (
    leaves_kept (on_nums slot) up position types.Int (Num z),
    leaves_kept (on_nums (slot + 1)) up position types.Int (Num z),
    leaves_kept (on_nums (slot + 2)) up position types.Int (Num z),
  )

  -- The turns of a loop without scopes.
  module _ (n : Origin) (own : Standing) (slot ns need turn q : ℕ) (control : Place) (clause : Meaning) (three : slot + 2 < (frame_in w.unit).nums)
      (at : IsControl (frame_in w.unit).nums slot n.known control) (few : ns ≤ need) (one : 1 ≤ need)
      (controls : Controls n.known own control) (leads : Leads w.Body (after_it n n.heap own) own types.Void clause)
      (get_at : AtBy w.Allows w.unit turn (instr.GetM slot)) (set_at : AtBy w.Allows w.unit (turn + 5) (choice.set control types.Int))
      (does : Does w (after_it n n.heap own) [] [] clause types.Void ns (turn + 5 + size_at control) q) where
    set_leads : (z : ℤ) → is_int z ≡ true → Leads w.Body n own types.Void (set control types.Int (Num z))
    set_leads z is = record {
      falls = falls_set control types.Int (Num z);
      sound = controls z is n.heap;
      holds = holds_set w.Body control types.Int (Num z) tt;
    }

    plain_turn : (z limit step : ℤ) → is_int z ≡ true →
        From w n (Three slot z limit step) [] [] (turn_meant None control clause z) types.Void need turn q
    plain_turn z limit step is =
        then_from w (λ u. clause) (λ v g. Three slot z limit step g) 1 need turn (turn + 5 + size_at control) q one (set_leads z is)
        (control_post at z limit step) (control_does n slot turn control at three get_at set_at z limit step)
        (λ new u g done. from_does w _ (moved w ns need (turn + 5 + size_at control) q q few refl (later w new g does)))

    plain_leads : (z : ℤ) → is_int z ≡ true → Leads w.Body n own types.Void (turn_meant None control clause z)
    plain_leads z is = leads_then (set_leads z is) (λ new g. leads_more (omega arith) g leads)

    plain_keeps : (x : ℕ) (z : ℤ) → Leaves (on_nums x) (set control types.Int (Num z)) → Leaves (on_nums x) clause →
        Leaves (on_nums x) (turn_meant None control clause z)
    plain_keeps x z k h = leaves_then (on_nums x) (set control types.Int (Num z)) _ k (λ u. h)

    pub plain_stands : KeepsTypes n.known own slot → AtBy w.Allows w.unit q (instr.ForNext slot turn) → turn < q → Leaves (on_nums slot) clause →
        Leaves (on_nums (slot + 1)) clause → Leaves (on_nums (slot + 2)) clause → Stands n own slot None control need turn q clause
    plain_stands typed next_at back keeps keeps_limit keeps_step = record {
      typed = typed;
      leads = plain_leads;
      three = three;
      does = plain_turn;
      next_at = next_at;
      back = back;
      keeps = λ z. plain_keeps slot z (control_keeps at z).0 keeps;
      keeps_limit = λ z. plain_keeps (slot + 1) z (control_keeps at z).1 keeps_limit;
      keeps_step = λ z. plain_keeps (slot + 2) z (control_keeps at z).2 keeps_step;
    }

  -- The turns of a loop each of which has a scope of its own.
  module _ (n : Origin) (own : Standing) (slot ns need turn q k : ℕ) (control : Place) (clause : Meaning) (bytes : List ℕ) (levels : List Level)
      (its : IsScopeText bytes) (are : n.known.levels ≡ Some levels) (three : slot + 2 < (frame_in w.unit).nums)
      (at : IsControl (frame_in w.unit).nums slot (opened n.known its.fields levels) control) (few : ns ≤ need) (one : 1 ≤ need)
      (controls : Controls (opened n.known its.fields levels) own control) (leads : Leads w.Body (after_it n n.heap own) own types.Void clause)
      (sound : (z : ℤ) → is_int z ≡ true → Sound in_levels n.heap n.known n.known types.Void (turn_meant (Some bytes) control clause z))
      (stays : Stays clause) (scope_at : AtBy w.Allows w.unit turn (instr.Scope k))
      (named : constant_at (constants_in w.unit) k ≡ Some (text bytes)) (get_at : AtBy w.Allows w.unit (turn + 5) (instr.GetM slot))
      (set_at : AtBy w.Allows w.unit (turn + 5 + 5) (choice.set control types.Int))
      (does : Does w (after_it n n.heap own) [] [] clause types.Void ns (turn + 5 + 5 + size_at control) q) (leave_at : AtBy w.Allows w.unit q instr.Leave) where
    abbrev inside : Heap → Origin
    inside new = after_it n new (opened n.known its.fields levels)

    inner_leads : (new : Heap) (z : ℤ) → is_int z ≡ true → Leads w.Body (inside new) own types.Void (set control types.Int (Num z))
    inner_leads new z is = record {
      falls = falls_set control types.Int (Num z);
      sound = controls z is new;
      holds = holds_set w.Body control types.Int (Num z) tt;
    }

    turn_leads : (new : Heap) → Grows n.heap new → (z : ℤ) → is_int z ≡ true →
        Leads w.Body (inside new) own types.Void (set control types.Int (Num z) >>= λ u. clause)
    turn_leads new g z is = leads_then (inner_leads new z is) (λ last l. leads_more (omega arith) (grows_then n.heap new last g l) leads)

    scoped_turn : (z limit step : ℤ) → is_int z ≡ true →
        From w n (Three slot z limit step) [] [] (turn_meant (Some bytes) control clause z) types.Void need turn (q + 1)
    scoped_turn z limit step is =
        from_scoped w {last = own} turn q k bytes levels its are scope_at named leave_at
        (stays_then (set control types.Int (Num z)) (λ u. clause) (stays_set control types.Int (Num z)) (λ u. stays))
        (λ f scope so. record { control_is = so.control_is; limit_is = so.limit_is; step_is = so.step_is }) (λ new g. turn_leads new g z is)
        (λ new g. then_from w (λ u. clause) (λ v g. Three slot z limit step g) 1 need (turn + 5) (turn + 5 + 5 + size_at control) q one
        (inner_leads new z is) (control_post at z limit step) (control_does (inside new) slot (turn + 5) control at three get_at set_at z limit step)
        (λ last u l done. from_does w _ (moved w ns need (turn + 5 + 5 + size_at control) q q few refl
        (later w last (grows_then n.heap new last g l) does))))

    scoped_leads : (z : ℤ) → is_int z ≡ true → Leads w.Body n n.known types.Void (turn_meant (Some bytes) control clause z)
    scoped_leads z is = record {
      falls = falls_scoped bytes _ (falls_then _ _ (falls_set control types.Int (Num z)) (λ u. leads.falls));
      sound = sound z is;
      holds = holds_scoped w.Body bytes _ (holds_then w.Body _ _ (holds_set w.Body control types.Int (Num z) tt) (λ u literal. leads.holds));
    }

    scoped_keeps : (x : ℕ) (z : ℤ) → Leaves (on_nums x) (set control types.Int (Num z)) → Leaves (on_nums x) clause →
        Leaves (on_nums x) (turn_meant (Some bytes) control clause z)
    scoped_keeps x z k h = leaves_scoped (on_nums x) bytes _ (leaves_then (on_nums x) (set control types.Int (Num z)) _ k (λ u. h))

    pub scoped_stands : KeepsTypes n.known n.known slot → AtBy w.Allows w.unit (q + 1) (instr.ForNext slot turn) → turn < q + 1 → Leaves (on_nums slot) clause →
        Leaves (on_nums (slot + 1)) clause → Leaves (on_nums (slot + 2)) clause → Stands n n.known slot (Some bytes) control need turn (q + 1) clause
    scoped_stands typed next_at back keeps keeps_limit keeps_step = record {
      typed = typed;
      leads = scoped_leads;
      three = three;
      does = scoped_turn;
      next_at = next_at;
      back = back;
      keeps = λ z. scoped_keeps slot z (control_keeps at z).0 keeps;
      keeps_limit = λ z. scoped_keeps (slot + 1) z (control_keeps at z).1 keeps_limit;
      keeps_step = λ z. scoped_keeps (slot + 2) z (control_keeps at z).2 keeps_step;
    }
