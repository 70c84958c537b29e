-- What is known of a run between two steps.
use Rattle.std.proofs.Common.{◌≡◌, ◌⊎◌, inl, inr, ℕ, Bool, true, false, ◌+◌, ◌*◌, ◌<◌, ◌≤◌, ◌^◌, List, [], ◌∷◌, ◌++◌, length, refl, sym, ap, ◌∙◌, subst, append_assoc, arith, length-append, length-drop}
use Rattle.std.specs.Prelude.{if◌then◌else◌, nat_lt, Result, Ok, Err, Option, Some, None}
use Rattle.std.proofs.lemmas.List.{append-nil}
use Rattle.ps_base.specs.Instr.{width_of, spelling}
use Rattle.ps_base.proofs.Spellings.{length-spelling}
use Rattle.ps_base.specs.declared.instr.Instr.{Instr}
use Rattle.ps_base.specs.declared.instr.Instr.TheVariants.{Lib}
use Rattle.ps_base.specs.declared.line.Line.{Line}
use Rattle.commit_moments.specs.Steps.{Step as Moment}
use Rattle.machine_core.specs.ps_outside.Outside.{Outside}
use Rattle.machine_core.specs.obj_layout.Stored.{Space}
use Rattle.machine_core.specs.obj_layout.declared.vault.VaultFault.TheVariants.{Output}
use Rattle.machine_core.specs.swizzle.Heap.{IsHeap}
use Rattle.machine_core.specs.swizzle.declared.fault.SwizzleFault.{SwizzleFault}
use Rattle.machine_core.specs.swizzle.declared.fault.SwizzleFault.TheVariants.{Vault}
use Rattle.machine_core.specs.ps_heap.Calls.{Answer, commit_call}
use Rattle.machine_core.specs.ps_heap.Ends.{End, report_of}
use Rattle.machine_core.specs.ps_heap.Events.{Event, Commit}
use Rattle.machine_core.specs.ps_heap.Held.{StoredHeap}
use Rattle.machine_core.specs.ps_heap.Library.{LibraryProcedure, OnHeap, CreateDatabase, OpenDatabase, Commit as CommitCall, heap_call, library_procedure}
use Rattle.machine_core.specs.ps_heap.Values.{Value, Text}
use Rattle.machine_core.specs.ps_stepping.Config.{Config, code_in, frame_in, frame_words}
use Rattle.machine_core.specs.ps_stepping.Steps.{pop_ref_of, pop_text, text_of}
use Rattle.machine_core.specs.ps_stepping.Library.{answering, call_on_heap, gives_ref, library_of}
use Rattle.machine_core.specs.ps_stepping.Machine.{Step, Goes, Stops, Stuck, Steps, at_instruction, at_nothing, act, behind}
use Rattle.machine_core.specs.ps_stepping.Plain.{is_plain, is_plain_call, at_plain}
use Rattle.machine_core.specs.ps_stepping.Path.{Reaches, no_step, more}
use Rattle.machine_core.specs.declared.machine.Machine.{Machine}
use Rattle.machine_core.specs.declared.run_end.RunEnd.{RunEnd}
use Rattle.machine_core.specs.Holding.{Holds, IsSound}
use Rattle.machine_core.specs.Stepped.{end_of}
use Rattle.machine_run.specs.Ran.{TellsBut, FailsAfter}
use Rattle.machine_run.specs.inside.Advancing.{Reports}
use Rattle.machine_run.proofs.Progress.{left, nearer, IsNearer, by_bytes}
use Rattle.machine_run.proofs.Between.{IsWithin, and_step, goes-within, is-small, small-within, taken-turn}
use Rattle.machine_run.proofs.Telling.{but-none}
use Rattle.database_steps.specs.Databases.{IsAlone}
use Rattle.database_steps.proofs.Steps.{step_alone}
use Rattle.session_run.specs.Kept.{Kept, steps_of, reporting}
use Rattle.session_run.specs.Ran.{BreaksFor, BreaksIn, GoesOn, HasDone, IsCut, Ran, ended, broke, broke_in, cut, report_cut}
use Rattle.session_run.specs.inside.Advancing.{Advances, ComesTo}
use Rattle.session_run.specs.declared.advanced.Advanced.TheVariants.{On, Ended, Broke, Failed}
use Rattle.session_run.proofs.Moments.{steps-append, done-quietly, cut-quietly, done-then, cut-then, breaks-then, events-then, events-cut}

-- A call on databases stays in its body, after itself, and takes no turn.
abbrev Stays : Config → Step → Type 0
Stays c (Goes events next) = (next.unit ≡ c.unit) × (next.at ≡ c.at) × (next.callers ≡ c.callers) × (next.store.turns ≡ c.store.turns)
Stays c (Stops e touched) = Unit {0}
Stays c Stuck = Unit {0}

gives-stays : (a : Answer) (c : Config) → Stays c (gives_ref a c)
gives-stays a c = by (nat_lt ((frame_in c.unit).refs + length c.refs) frame_words)
  where
    by : (b : Bool) → Stays c (if b then Goes a.events (answering a (record c { refs = a.value ∷ c.refs })) else Stuck)
    by true = (refl, refl, refl, refl)
    by false = tt

text-stays : (c : Config) (next : List ℕ → Config → Step) → ((bytes : List ℕ) (rest : List Value) → Stays c (next bytes (record c { refs = rest }))) → Stays c (pop_text c next)
text-stays c next stays = of_list c.refs
  where
    of_value : (v : Value) (rest : List Value) → Stays c (text_of v (record c { refs = rest }) next)
    of_value (Text bytes) rest = stays bytes rest
    of_value v rest = tt

    of_list : (vs : List Value) → Stays c (pop_ref_of vs c (λ v d. text_of v d next))
    of_list [] = tt
    of_list (v ∷ rest) = of_value v rest

call-stays : (found : Option LibraryProcedure) (line : Line) (c : Config) → is_plain_call found ≡ false → Stays c (library_of found line c)
unfolding heap_call
call-stays (Some (OnHeap CreateDatabase)) line c is =
    text-stays c _ (λ password rest. text-stays (record c { refs = rest }) _ (λ name more. gives-stays _ (record c { refs = more })))
call-stays (Some (OnHeap OpenDatabase)) line c is =
    text-stays c _ (λ mode rest. text-stays (record c { refs = rest }) _ (λ password more. text-stays (record c { refs = more }) _ (λ name last. gives-stays _ (record c { refs = last }))))
call-stays (Some (OnHeap CommitCall)) line c is = gives-stays _ c
call-stays found line c is = absurd (let bad : true ≡ false = is in cc)

acts-stays : (i : Instr) (c : Config) → is_plain i ≡ false → Stays (behind i c) (act i c)
acts-stays (Lib k line) c is = call-stays (library_procedure k) line (behind (Lib k line) c) is
acts-stays i c is = absurd (let bad : true ≡ false = is in cc)

-- Each step that goes on brings a run nearer to its end.
nearer-any : {c : Config} {s : Step} → Steps c s → (events : List Event) (next : Config) → s ≡ Goes events next → IsNearer (left c) (left next)
nearer-any {c} {s} (at_instruction {i} at) events next is = by (is_plain i) refl
  where
    by : (b : Bool) → is_plain i ≡ b → IsNearer (left c) (left next)
    by true plain = (nearer (at_plain at plain) events next is).0
    by false other =
        let stays = subst (Stays (behind i c)) is (acts-stays i c other) in
        let inside : c.at < length (code_in c.unit) = omega (arith, ap length at.spelled, length-append (spelling i) at.rest, length-spelling i, length-drop c.at (code_in c.unit)) in
        let wide : 1 ≤ width_of i = omega (arith, length-spelling i) in
        let same = ap (λ u. length (code_in u)) stays.0 in
        let at_is = stays.1 in
        by_bytes stays.3 (ap length stays.2) (omega (arith, inside, wide, same, at_is))
nearer-any (at_nothing none) events next is = absurd (let bad : Stuck ≡ Goes events next = is in cc)

-- From a configuration that the first machine holds some steps lead to one that the present machine holds, and what they do was done but for what is pending.
pub record IsAway (old now : Outside Space) (owed rest : List ℕ) (c : Config) (m : Machine) (turns steps : ℕ) : Type 0 where
  pub events : List Event
  pub last : Config
  pub way : Reaches c events last
  pub holds : Holds now m last
  pub alone : IsAlone last.store.held
  pub done : HasDone old now owed rest (steps_of events)
  pub within : IsWithin turns steps last

pub record IsBetween (old now : Outside Space) (owed rest : List ℕ) (m m' : Machine) (turns steps : ℕ) : Type 0 where
  pub size : m'.objects.size ≡ m.objects.size
  pub goes : GoesOn old now
  pub way : (c : Config) → Holds old m c → IsAlone c.store.held → IsAway old now owed rest c m' turns steps

pub between_none : (old : Outside Space) (owed : List ℕ) (m : Machine) → IsHeap m.objects → IsSound m → GoesOn old old → IsBetween old old owed owed m m m.turns (2 ^ 43)
between_none old owed m heap sound goes = record {
  size = refl;
  goes = goes;
  way = λ c h alone. record {
    events = [];
    last = c;
    way = no_step;
    holds = h;
    alone = alone;
    done = done-quietly old old owed owed [] tt (subst (λ (bs : List ℕ). TellsBut old old bs owed) (sym (append-nil owed)) (but-none old owed));
    within = subst (λ (n : ℕ). IsWithin n (2 ^ 43) c) h.held.turns_are (small-within c (is-small old m c heap sound h));
  };
}

module _ (old now new : Outside Space) (owed left rest : List ℕ) (m m' next : Machine) (turns : ℕ) where
  -- one step more
  pub between_more : (steps : ℕ) → IsHeap next.objects → IsSound next → GoesOn old new → IsBetween old now owed left m m' turns (steps + 1)
      → Advances now new left rest m' next On → IsBetween old new owed rest m next turns steps
  between_more steps heap sound goes b a = record {
    size = a.size ∙ b.size;
    goes = goes;
    way = λ c h alone.
        let w = b.way c h alone in
        let by = a.by w.last w.holds w.alone in
        let events = by.2.0 in
        let last = by.2.1 in
        let step = subst (λ (s : Step). Steps w.last s) by.2.2 by.1 in
        record {
          events = w.events ++ events;
          last = last;
          way = and_step w.way step;
          holds = by.2.3;
          alone = step_alone w.last last events step w.alone;
          done = subst (λ (ms : List (Moment Kept)). HasDone old new owed rest ms) (sym (steps-append w.events events))
              (events-then old now new owed left rest (steps_of w.events) w.done events by.2.4);
          within = goes-within turns steps w.last last (is-small new next last heap sound by.2.3) (nearer-any by.1 events last by.2.2) w.within;
        };
  }

  module _ {V : Type 0} (outside : V → Outside Space) {steps : ℕ} (b : IsBetween old now owed left m m' turns steps) where
    plus-none : (P : List (Moment Kept) → Type 0) (ms : List (Moment Kept)) → P (ms ++ []) → P ms
    plus-none P ms p = subst P (append-nil ms) p

    -- the output fails in a step
    pub between_fails : Advances now new left rest m' next Failed → (c : Config) → Holds old m c → IsAlone c.store.held
        → Ran old new owed rest outside m.objects.size c (Err (Vault Output))
    between_fails a c h alone = let w = b.way c h alone in let by = a.by w.last w.holds w.alone in fails w by.0 by.1 by.2
      where
        fails : (w : IsAway old now owed left c m' turns steps) (s : Step) → Steps w.last s → ComesTo now new left rest m'.objects.size s next Failed
            → Ran old new owed rest outside m.objects.size c (Err (Vault Output))
        fails w s step (inl none) =
            cut w.way (plus-none (λ (ms : List (Moment Kept)). IsCut old new owed rest ms) (steps_of w.events) (cut-then old now new owed left rest (steps_of w.events) w.done [] tt b.goes.output none))
        fails w s step (inr in_step) =
            cut (and_step w.way (subst (λ (x : Step). Steps w.last x) in_step.2 step))
            (subst (λ (ms : List (Moment Kept)). IsCut old new owed rest ms) (sym (steps-append w.events in_step.0))
            (events-cut old now new owed left rest (steps_of w.events) w.done in_step.0 b.goes.output in_step.3))

    -- the run breaks off, when the vault is seen as now
    pub between_breaks : (vault : V) → outside vault ≡ now → Advances now new left rest m' next Broke → (c : Config) → Holds old m c → IsAlone c.store.held
        → Ran old new owed rest outside m.objects.size c (Err next.fault)
    between_breaks vault seen a c h alone = let w = b.way c h alone in let by = a.by w.last w.holds w.alone in breaks w by.0 by.1 by.2
      where
        breaks : (w : IsAway old now owed left c m' turns steps) (s : Step) → Steps w.last s → ComesTo now new left rest m'.objects.size s next Broke
            → Ran old new owed rest outside m.objects.size c (Err next.fault)
        breaks w s step (inl of) =
            broke vault w.way step
            (subst (λ (o : Outside Space). BreaksFor o new m.objects.size s next.fault) (sym seen) (subst (λ (n : ℕ). BreaksFor now new n s next.fault) b.size of.0))
            (plus-none (λ (ms : List (Moment Kept)). HasDone old new owed rest ms) (steps_of w.events) (done-then old now new owed left rest (steps_of w.events) w.done [] tt of.1))
        breaks w s step (inr in_commit) =
            broke_in {counted = in_commit.1} w.way (subst (λ (x : Step). Steps w.last x) in_commit.3 step)
            (plus-none (λ (ms : List (Moment Kept)). BreaksIn old new owed rest ms in_commit.0) (steps_of w.events)
            (breaks-then old now new owed left rest (steps_of w.events) w.done [] tt in_commit.0 in_commit.4)) in_commit.5

    -- the run stops, and the report is output, or the output fails in it
    pub between_ends : (final : Outside Space) (most : List ℕ) (r : Result RunEnd SwizzleFault) → GoesOn old new → Advances now new left rest m' next Ended
        → Reports new final rest most next.end r → (c : Config) → Holds old m c → IsAlone c.store.held → Ran old final owed most outside m.objects.size c r
    between_ends final most r goes a report c h alone =
        let w = b.way c h alone in
        let by = a.by w.last w.holds w.alone in
        ends w (subst (λ (x : Step). Steps w.last x) by.2.1 by.1)
        (plus-none (λ (ms : List (Moment Kept)). HasDone old new owed rest ms) (steps_of w.events) (done-then old now new owed left rest (steps_of w.events) w.done [] tt by.2.2)) r report
      where
        due : rest ++ report_of (end_of next.end) ≡ rest ++ (report_of (end_of next.end) ++ [])
        due = ap (λ (bs : List ℕ). rest ++ bs) (sym (append-nil (report_of (end_of next.end))))

        ends : (w : IsAway old now owed left c m' turns steps) {touched : ℕ} → Steps w.last (Stops (end_of next.end) touched) → HasDone old new owed rest (steps_of w.events)
            → (r : Result RunEnd SwizzleFault) → Reports new final rest most next.end r → Ran old final owed most outside m.objects.size c r
        ends w stops done (Ok answer) told =
            subst (λ (x : RunEnd). Ran old final owed most outside m.objects.size c (Ok x)) (sym told.0)
            (ended w.way stops
            (done-then old new final owed rest most (steps_of w.events) done (reporting next.end ∷ []) (refl, tt, tt)
            (done-quietly new final rest most (reporting next.end ∷ []) (refl, tt) (subst (λ (bs : List ℕ). TellsBut new final bs most) due told.1))))
        ends w stops done (Err f) told =
            subst (λ (x : SwizzleFault). Ran old final owed most outside m.objects.size c (Err x)) (sym told.0)
            (report_cut next.end w.way stops
            (cut-then old new final owed rest most (steps_of w.events) done (reporting next.end ∷ []) (refl, tt, tt) goes.output
            (cut-quietly new final rest most (reporting next.end ∷ []) (refl, tt) (subst (λ (bs : List ℕ). FailsAfter new final bs) due told.1) told.2)))

-- where all steps of a turn were taken, a turn was
pub between_turns : (old now : Outside Space) (owed owes : List ℕ) (m m' : Machine) (turns : ℕ) → turns ≤ m'.turns → IsBetween old now owed owes m m' turns 0
    → (c : Config) → Holds old m c → IsAlone c.store.held → ⊥
between_turns old now owed owes m m' turns high b c h alone =
    let w = b.way c h alone in
    let low = taken-turn turns w.last w.within in
    let same = w.holds.held.turns_are in
    omega (arith, low, same, high)

-- and then as many are left of the next one
pub between_again : (old now : Outside Space) (owed left : List ℕ) (m m' : Machine) (turns : ℕ) → IsHeap m'.objects → IsSound m'
    → IsBetween old now owed left m m' turns 0 → IsBetween old now owed left m m' m'.turns (2 ^ 43)
between_again old now owed left m m' turns heap sound b = record {
  size = b.size;
  goes = b.goes;
  way = λ c h alone.
      let w = b.way c h alone in
      record {
        events = w.events;
        last = w.last;
        way = w.way;
        holds = w.holds;
        alone = w.alone;
        done = w.done;
        within = subst (λ (n : ℕ). IsWithin n (2 ^ 43) w.last) w.holds.held.turns_are (small-within w.last (is-small now m' w.last heap sound w.holds));
      };
}
