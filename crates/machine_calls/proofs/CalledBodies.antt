-- Procedures that a machine calls.
use Rattle.std.proofs.Common.{◌≡◌, ◌≢◌, ℕ, Bool, true, false, List, [], length, Option, Some, None, refl, sym, ap, ◌∙◌, subst}
use Rattle.std.specs.Prelude.{IfSome, MatchOption, Result, Ok, Err, if◌then◌else◌, not, ◌&&◌, nat_eq, nat_lt}
use Rattle.std.proofs.lemmas.Bool.{eqb-true, eq-eqb}
use Rattle.ps_base.specs.CodeUnit.{UnitView, unit}
use Rattle.ps_base.specs.declared.code_unit.Frame.{Frame}
use Rattle.ps_base.specs.declared.line.Line.{Line}
use Rattle.machine_core.specs.ps_outside.Outside.{Outside}
use Rattle.machine_core.specs.obj_layout.Stored.{Space}
use Rattle.machine_core.specs.obj_layout.declared.reference.Reference.{Reference}
use Rattle.machine_core.specs.swizzle.Heap as area
use Rattle.machine_core.specs.swizzle.Heap.{IsHeap, IsHeld}
use Rattle.machine_core.specs.swizzle.Reading.{LeavesOutside}
use Rattle.machine_core.specs.swizzle.Touch.{Keeps}
use Rattle.machine_core.specs.swizzle.declared.fault.SwizzleFault.{SwizzleFault}
use Rattle.machine_core.specs.proc_values.Reading.{IsPlaceOf}
use Rattle.machine_core.specs.ps_heap.Objects.{Heap}
use Rattle.machine_core.specs.ps_heap.Values.{Value, Num, Flag, Text, Nil, Pointer, Vector, Procedure, Nothing, as_compiled, as_written}
use Rattle.machine_core.specs.ps_stepping.Config.{Config, frame_in, frame_words}
use Rattle.machine_core.specs.ps_stepping.Steps.{Step, Stuck}
use Rattle.machine_core.specs.ps_stepping.Objects.{pop_nums}
use Rattle.machine_core.specs.ps_stepping.Procedures.{call, called, takes_refs, unit_called}
use Rattle.machine_core.specs.joint_ops.World.{IsWorld, DenotesIn, DenotesScopeIn}
use Rattle.machine_core.specs.joint_ops.Operands.{IsOfSort, IsSorted}
use Rattle.machine_core.specs.joint_ops.declared.values.Sort.{Sort}
use Rattle.machine_core.specs.joint_ops.declared.values.Sort.TheVariants as sort
use Rattle.machine_core.specs.objects.Bodies as bodies
use Rattle.machine_core.specs.objects.Bodies.{AnswersBody, IsBodyIn}
use Rattle.machine_core.specs.objects.declared.body.Body.{Body}
use Rattle.machine_core.specs.declared.machine.Machine.{Machine}
use Rattle.machine_core.specs.declared.stepped.Stepped.{Stepped}
use Rattle.machine_core.specs.declared.stepped.Stepped.TheVariants.{Breaks, Damaged}
use Rattle.machine_core.specs.Calling.{Calls, HasBelow, call_popped}
use Rattle.machine_core.specs.Holding.{HeldBy, IsSound, object_in, word_of, words_of, world_in}
use Rattle.machine_core.specs.Stepped.{Takes, Does}
use Rattle.machine_core.proofs.Carrying.{read-holds, size-behind, broken-off}
use Rattle.machine_core.proofs.Naming.{word-named}
use Rattle.machine_core.proofs.Words.{scope-named-back}
use Rattle.machine_calls.specs.inside.Bodies.{IsProcedure, IsNotCalled, IsCalled, IsBelow, CallsWith}
use Rattle.machine_calls.proofs.Fetching.{broken, names-kept, done-behind, breaks-takes}

-- By its sort a value is a procedure, or isn't called.

module _ (here : area.Heap) (outside : Outside Space) where
  compiled : (names : List Reference) (to : Option ℕ) (v : Value) → DenotesIn here outside names to v → IsOfSort v sort.Procedure → IsProcedure v
  compiled names to (Procedure (as_compiled u) scope) d is = record { unit = u; scope = scope; is = refl }
  compiled names to (Procedure (as_written of) scope) d is = absurd d.stands
  compiled names to (Num z) d is = absurd is
  compiled names to (Flag b) d is = absurd is
  compiled names to (Text b) d is = absurd is
  compiled names to Nil d is = absurd is
  compiled names to (Pointer id) d is = absurd is
  compiled names to (Vector id) d is = absurd is
  compiled names to Nothing d is = absurd is

not-called : (v : Value) (s : Sort) → IsOfSort v s → s ≢ sort.Procedure → (next : UnitView → Option ℕ → Step) → unit_called v next ≡ Stuck
not-called (Procedure body scope) sort.Procedure is other next = absurd (other refl)
not-called (Procedure body scope) sort.Nil is other next = absurd is
not-called (Procedure body scope) sort.Text is other next = absurd is
not-called (Procedure body scope) sort.Pointer is other next = absurd is
not-called (Procedure body scope) sort.Vector is other next = absurd is
not-called (Procedure body scope) sort.Other is other next = absurd is
not-called (Num z) s is other next = refl
not-called (Flag b) s is other next = refl
not-called (Text b) s is other next = refl
not-called Nil s is other next = refl
not-called (Pointer id) s is other next = refl
not-called (Vector id) s is other next = refl
not-called Nothing s is other next = refl

module _ (here : area.Heap) (outside : Outside Space) (word : ℕ) (s : Sort) (to : Option ℕ) (same : to ≡ object_in word) where
  -- each value that the object denotes, or none, is of this sort
  abbrev AllSorted : Type 0
  AllSorted = (names : List Reference) (v : Value) → DenotesIn here outside names to v → IsOfSort v s

  sorted-word : AllSorted → (names : List Reference) (v : Value) → DenotesIn here outside names (object_in word) v → IsOfSort v s
  sorted-word sorted names v d = sorted names v (subst (λ (t : Option ℕ). DenotesIn here outside names t v) (sym same) d)

  pub called-answer : IsSorted here to s → s ≡ sort.Procedure → AllSorted → MatchOption to (IsNotCalled here outside word) (IsCalled here outside word)
  called-answer by is sorted = of to refl
    where
      of : (o : Option ℕ) → o ≡ to → MatchOption o (IsNotCalled here outside word) (IsCalled here outside word)
      of None e = absurd (subst (λ (t : Option ℕ). IsSorted here t sort.Procedure) (sym e) (subst (IsSorted here to) is by))
      of (Some at) e = record {
        named = sym same ∙ sym e;
        is = λ names v d. compiled here outside names (object_in word) v d (subst (IsOfSort v) is (sorted-word sorted names v d));
      }

  pub other-object : s ≢ sort.Procedure → AllSorted → IsNotCalled here outside word
  other-object other sorted names v d next = not-called v s (sorted-word sorted names v d) other next

-- the frame of a unit is the same to objects and machine
frames : (u : UnitView) → bodies.frame_in u ≡ frame_in u
frames (unit bytes row frame) = refl

-- What is called below so many references.

abbrev following : ℕ → Line → List Value → Config → UnitView → Option ℕ → Step
following n line vs e of scope =
    if takes_refs n (frame_in of) then pop_nums (frame_in of).num_params [] e (λ zs f. called (length f.callers) line of scope zs vs f) else Stuck

module _ (before after : Outside Space) (n : ℕ) (line : Line) (m : Machine) where
  pub none-below : IsSound m → ((names : List Reference) (c : Config) → HeldBy before names m c → HasBelow before n names m c None)
      → Takes before after (call n line) m m Damaged
  none-below sound below = record {
    sound = sound;
    names = λ k. k;
    size = refl;
    does = λ c h. below h.names c h.held (λ vs v e. unit_called v (following n line vs e));
  }

  module _ (w : ℕ) (below : IsBelow before n w m) where
    pub other-below : IsSound m → IsNotCalled m.objects before w → Takes before after (call n line) m m Damaged
    other-below sound other = record {
      sound = sound;
      names = λ k. k;
      size = refl;
      does = λ c h.
          let b = below h.names c h.held in
          b.3 (λ vs v e. unit_called v (following n line vs e)) ∙ other h.names b.1 b.4 (following n line b.0 b.2);
    }

    -- it is a procedure, whose body is looked up
    module _ (now : area.Heap) (at : ℕ) (is : IsCalled m.objects before w at) where
      abbrev Got : Result Body SwizzleFault → Type 0
      Got r = (of : Heap) (names : List Reference) (u : UnitView) (within : Option ℕ) → IsWorld m.objects before of names
          → DenotesIn m.objects before names (Some at) (Procedure (as_compiled u) within) → AnswersBody m.objects now before after of names u within r

      denoted : (names : List Reference) (v : Value) (p : IsProcedure v) → DenotesIn m.objects before names (object_in w) v
          → DenotesIn m.objects before names (Some at) (Procedure (as_compiled p.unit) p.scope)
      denoted names v p d =
          subst (λ (to : Option ℕ). DenotesIn m.objects before names to (Procedure (as_compiled p.unit) p.scope)) is.named
          (subst (DenotesIn m.objects before names (object_in w)) p.is d)

      pub body-called : (body : Body) (new : Machine) (r : Stepped) → LeavesOutside before after → Keeps m.objects now → Got (Ok body)
          → IsPlaceOf now body.code body.place → IfSome body.scope (IsHeld now) → CallsWith after body n line (record m { objects = now }) new r
          → Takes before after (call n line) m new r
      body-called body new r left keeps got place scope calls = record {
        sound = calls.sound;
        names = λ k. calls.names (names-kept m now keeps k) place scope;
        size = size-behind r m.objects.size now.size new.objects.size keeps.size calls.size;
        does = λ c h.
            let b = below h.names c h.held in
            let p = is.is h.names b.1 b.4 in
            let a = got c.store.held.objects h.names p.unit p.scope (world_in h.held.run) (denoted h.names b.1 p b.4) in
            let frame = frame_in p.unit in
            let step : call n line c ≡ (if takes_refs n body.frame then call_popped n body.frame.num_params line p.unit p.scope c else Stuck) =
            b.3 (λ vs v e. unit_called v (following n line vs e))
            ∙ ap (λ (v : Value). unit_called v (following n line b.0 b.2)) p.is
            ∙ ap (λ (s : Step). if takes_refs n frame then s else Stuck)
            (sym (b.3 (λ vs v d. pop_nums frame.num_params [] d (λ zs e. called (length e.callers) line p.unit p.scope zs vs e))))
            ∙ ap (λ (f : Frame). if takes_refs n f then call_popped n f.num_params line p.unit p.scope c else Stuck) (sym (a.0.frame_is ∙ frames p.unit)) in
            subst (λ (s : Step). Does before after m.objects.size s r new) (sym step)
            (done-behind before after m now (if takes_refs n body.frame then call_popped n body.frame.num_params line p.unit p.scope c else Stuck) new r left keeps
            (calls.does h.names c p.unit p.scope (read-holds m.objects now before after h.names (words_of m) c h.held a.1) a.0));
      }

      pub no-body : (fault : SwizzleFault) (new : Machine) (r : Stepped) → r ≡ Breaks → new ≡ broken m now fault → IsSound m → Got (Err fault)
          → Takes before after (call n line) m new r
      no-body fault new r answer gone sound got =
          breaks-takes before after m now (call n line) fault new r answer gone sound
          (λ c h.
          let b = below h.names c h.held in
          let p = is.is h.names b.1 b.4 in
          broken-off m.objects now before after (call n line c) fault (got c.store.held.objects h.names p.unit p.scope (world_in h.held.run) (denoted h.names b.1 p b.4)))

-- A body that was looked up.

-- a frame that doesn't fit takes no number of references
unfit : (n : ℕ) (f : Frame) → takes_refs f.ref_params f ≡ false → takes_refs n f ≡ false
unfit n f is = of (nat_eq n f.ref_params)
  where
    rest : Bool
    rest = not (nat_lt f.refs f.ref_params) && (not (nat_lt f.nums f.num_params) && (not (nat_lt frame_words f.nums) && not (nat_lt frame_words f.refs)))

    none : rest ≡ false
    none = ap (λ (b : Bool). b && rest) (sym (eq-eqb f.ref_params f.ref_params refl)) ∙ is

    of : (b : Bool) → (b && rest) ≡ false
    of true = none
    of false = refl

-- one that fits takes as many as it has parameters
pub takes-own : (n : ℕ) (f : Frame) → takes_refs f.ref_params f ≡ true → n ≡ f.ref_params → takes_refs n f ≡ true
takes-own n f is same = ap (λ (k : ℕ). takes_refs k f) same ∙ is

takes-other : (n : ℕ) (f : Frame) → n ≢ f.ref_params → takes_refs n f ≡ false
takes-other n f other = of (nat_eq n f.ref_params) refl
  where
    rest : Bool
    rest = not (nat_lt f.refs f.ref_params) && (not (nat_lt f.nums f.num_params) && (not (nat_lt frame_words f.nums) && not (nat_lt frame_words f.refs)))

    of : (b : Bool) → nat_eq n f.ref_params ≡ b → (nat_eq n f.ref_params && rest) ≡ false
    of true same = absurd (other (eqb-true n f.ref_params same))
    of false same = ap (λ (b : Bool). b && rest) same

module _ (outside : Outside Space) (found : Body) (n : ℕ) (line : Line) (m : Machine) where
  not-taken : IsSound m → takes_refs n found.frame ≡ false → CallsWith outside found n line m m Damaged
  not-taken sound none = record {
    sound = sound;
    names = λ k place scope. k;
    size = refl;
    does = λ names c of scope h is. ap (λ (b : Bool). if b then call_popped n found.frame.num_params line of scope c else Stuck) none;
  }

  -- with another number of references it isn't called, and where its frame doesn't fit
  pub other-arguments : IsSound m → n ≢ found.frame.ref_params → CallsWith outside found n line m m Damaged
  other-arguments sound other = not-taken sound (takes-other n found.frame other)

  pub unfit-frame : IsSound m → takes_refs found.frame.ref_params found.frame ≡ false → CallsWith outside found n line m m Damaged
  unfit-frame sound none = not-taken sound (unfit n found.frame none)

  pub own-arguments : (word : ℕ) (new : Machine) (r : Stepped) → IsHeap m.objects → word ≡ word_of found.scope → takes_refs n found.frame ≡ true
      → Calls outside (record { code = found.code; place = found.place; frame = found.frame; scope = word }) n line m new r
      → CallsWith outside found n line m new r
  own-arguments word new r heap named takes calls = record {
    sound = calls.sound;
    names = λ k place scope.
        calls.names k (record { code = place; scope = subst (λ (w : ℕ). IfSome (object_in w) (IsHeld m.objects)) (sym named) (word-named m.objects found.scope scope) });
    size = calls.size;
    does = λ names c of scope h is.
        subst (λ (s : Step). Does outside outside m.objects.size s r new)
        (sym (ap (λ (b : Bool). if b then call_popped n found.frame.num_params line of scope c else Stuck) takes))
        (calls.does names c of scope h (record {
          unit_is = is.unit_is;
          fit = is.fit;
          frame_is = sym (is.frame_is ∙ frames of);
          scope_is =
              subst (λ (to : Option ℕ). DenotesScopeIn m.objects outside names to scope)
              (sym (ap object_in named ∙ scope-named-back m.objects outside names found.scope scope heap is.scope_is)) is.scope_is;
        }));
  }
