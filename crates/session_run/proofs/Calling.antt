-- The calls on databases.
use Rattle.std.proofs.Common.{◌≡◌, ◌⊎◌, inl, inr, ℕ, ◌+◌, ◌≤◌, Bool, true, false, codes, List, [], ◌∷◌, ◌++◌, refl, sym, ap, ◌∙◌, subst, arith}
use Rattle.std.specs.Prelude.{suc, if◌then◌else◌, nat_lt, length, Option, Some, None}
use Rattle.std.proofs.lemmas.List.{append-nil}
use Rattle.ps_base.specs.declared.line.Line.{Line}
use Rattle.ps_base.specs.declared.instr.Instr.{Instr}
use Rattle.ps_base.specs.declared.instr.Instr.TheVariants.{Lib}
use Rattle.commit_moments.specs.Steps.{AreQuiet, output_by}
use Rattle.machine_core.specs.ps_outside.Outside.{Outside}
use Rattle.machine_core.specs.obj_layout.Stored.{Space}
use Rattle.machine_core.specs.swizzle.Reading.{LeavesOutside}
use Rattle.machine_core.specs.swizzle.Heap.{IsHeap}
use Rattle.machine_core.specs.swizzle.declared.fault.SwizzleFault.{SwizzleFault}
use Rattle.machine_core.specs.ps_heap.Calls.{Answer, asks_to_create, asks_to_open, by_reply, commit_call, create_answer, create_unless, created_database, directory_known, if_replied, open_answer, open_as, open_by, opened_database, reply_in, replies_after}
use Rattle.machine_core.specs.ps_heap.Commit.{is_empty}
use Rattle.machine_core.specs.ps_heap.Databases.{Admission, Admits, Fault, Mode, Numbered, Reading, Refuses, Writing, admission, create_fault, directory_weight, open_for_writing}
use Rattle.machine_core.specs.ps_heap.Events.{Event, Ask, Asked, Commit, ToCreate, ToOpen, outputs}
use Rattle.machine_core.specs.ps_heap.Held.{Busy, Free, Held, Reply, Stale, counting, touching}
use Rattle.machine_core.specs.ps_heap.Library.{HeapProcedure, CreateDatabase, OpenDatabase, heap_call, library_procedure, then_answered}
use Rattle.machine_core.specs.ps_stepping.Config.{Config, frame_in, frame_words}
use Rattle.machine_core.specs.ps_stepping.Steps.{Step, Goes, Stuck}
use Rattle.machine_core.specs.ps_stepping.Library.{answering, call_on_heap, gives_ref}
use Rattle.machine_core.specs.ps_stepping.Machine.{acts}
use Rattle.machine_core.specs.declared.machine.Machine.{Machine}
use Rattle.machine_core.specs.declared.stepped.Stepped.{Stepped}
use Rattle.machine_core.specs.Stepped.{UnlessBroken}
use Rattle.machine_core.specs.declared.stepped.Stepped.TheVariants as stepped
use Rattle.machine_core.specs.Holding.{Holds}
use Rattle.machine_core.specs.Full.{BreaksBy}
use Rattle.machine_run.specs.Ran.{TellsBut, FailsAfter}
use Rattle.machine_run.specs.inside.Advancing.{BlamesCode}
use Rattle.machine_run.proofs.Telling.{but-leaves}
use Rattle.machine_run.proofs.Putting.{put-holds}
use Rattle.machine_commits.specs.machine_databases.Calls.{DoesCall, TakesCall}
use Rattle.machine_commits.specs.Committing.{BreaksIn as CommitBreaksIn, commits, DoesCommit, IsSilent, LeavesBy, TakesCommit}
use Rattle.database_steps.specs.Databases.{IsAlone}
use Rattle.database_steps.proofs.Going.{Going, tested, popped_text}
use Rattle.session_run.specs.Kept.{steps_of}
use Rattle.session_run.specs.Ran.{GoesOn, HasDone, IsCut, BreaksIn}
use Rattle.session_run.specs.inside.Advancing.{ComesTo, Comes}
use Rattle.session_run.specs.declared.advanced.Advanced.{Advanced}
use Rattle.session_run.specs.declared.advanced.Advanced.TheVariants.{On, Ended, Broke, Failed}
use Rattle.session_run.proofs.Moments.{told-steps, done-quietly, cut-quietly, committed, uncommitted, done-then, events-then, breaks-then}

-- Events that output nothing, of which none is a commit.
abbrev pub IsSaid : List Event → Type 0
IsSaid events = AreQuiet (steps_of events) × (outputs events ≡ [])

abbrev Said : List Event → Held → Type 0
Said events d = IsSaid events

asks-alone : (what : Asked) (counted : ℕ) (more : List Event) → more ≡ [] → IsSaid (Ask what counted ∷ more)
asks-alone what counted more none = subst (λ (es : List Event). IsSaid (Ask what counted ∷ es)) (sym none) ((refl, tt), refl)

replied-none : (context : List ℕ) (reply : Reply) (grant : Held → Answer) (h : Held) → (grant h).events ≡ [] → (by_reply context reply grant h).events ≡ []
replied-none context Free grant h none = none
replied-none context Busy grant h none = refl
replied-none context Stale grant h none = refl

asked-none : (context : List ℕ) (grant : Held → Answer) (h : Held) → ((d : Held) → (grant d).events ≡ []) → (if_replied context grant h).events ≡ []
asked-none context grant h none = by (is_empty (open_for_writing h.openings))
  where
    now : Held
    now = record h { replies = replies_after h.replies }

    by : (b : Bool) → (if b then by_reply context (reply_in h.replies) grant now else grant h).events ≡ []
    by true = replied-none context (reply_in h.replies) grant now (none now)
    by false = none h

created-none : (name password : List ℕ) (h : Held) → (create_answer name password h).events ≡ []
unfolding create_answer
created-none name password h = by (create_fault h.directory name password)
  where
    by : (fault : Option Fault) → (create_unless fault name password h).events ≡ []
    by (Some fault) = refl
    by None = asked-none (codes "create.database") (created_database name password) (counting (directory_weight (suc (length h.directory))) h) (λ d. refl)

opened-none : (name password mode : List ℕ) (h : Held) → (open_answer name password mode h).events ≡ []
unfolding open_answer
opened-none name password mode h = by (admission h.directory name password mode)
  where
    admits : (to : Numbered) (how : Mode) (d : Held) → (open_as how to d).events ≡ []
    admits to Reading d = refl
    admits to Writing d = asked-none (codes "open.database") (opened_database to Writing) d (λ e. refl)

    by : (found : Admission) → (open_by found h).events ≡ []
    by (Refuses fault) = refl
    by (Admits to how) = admits to how (touching (to.database.root ∷ []) h)

gives-said : (a : Answer) (c : Config) → IsSaid a.events → Going Said (gives_ref a c)
gives-said a c said = tested Said (nat_lt ((frame_in c.unit).refs + length c.refs) frame_words) (Goes a.events (answering a (record c { refs = a.value ∷ c.refs }))) said

pub create-said : (line : Line) (c : Config) → Going Said (call_on_heap CreateDatabase line c)
unfolding heap_call asks_to_create
create-said line c =
    popped_text Said c _ (λ password rest. popped_text Said (record c { refs = rest }) _ (λ name more.
    gives-said (then_answered (asks_to_create name c.store.held) (create_answer name password)) (record c { refs = more })
    (asks-alone (ToCreate name) (counting 64 (directory_known c.store.held)).counted (create_answer name password (counting 64 (directory_known c.store.held))).events
    (created-none name password (counting 64 (directory_known c.store.held))))))

pub open-said : (line : Line) (c : Config) → Going Said (call_on_heap OpenDatabase line c)
unfolding heap_call asks_to_open
open-said line c =
    popped_text Said c _ (λ mode rest. popped_text Said (record c { refs = rest }) _ (λ password more. popped_text Said (record c { refs = more }) _ (λ name last.
    gives-said (then_answered (asks_to_open name mode c.store.held) (open_answer name password mode)) (record c { refs = last })
    (asks-alone (ToOpen name mode) (directory_known c.store.held).counted (open_answer name password mode (directory_known c.store.held)).events
    (opened-none name password mode (directory_known c.store.held))))))

-- an answer that goes on by no event, and doesn't break off
abbrev pub IsOther : Stepped → Type 0
IsOther answer = (answer ≡ stepped.Damaged) ⊎ ((answer ≡ stepped.Turns) ⊎ ((answer ≡ stepped.Writes) ⊎ (answer ≡ stepped.Halts)))

-- what such an answer leaves
pub whole-other : (P : Type 0) (answer : Stepped) → IsOther answer → UnlessBroken answer P → P
whole-other P answer (inl is) p = subst (λ (a : Stepped). UnlessBroken a P) is p
whole-other P answer (inr (inl is)) p = subst (λ (a : Stepped). UnlessBroken a P) is p
whole-other P answer (inr (inr (inl is))) p = subst (λ (a : Stepped). UnlessBroken a P) is p
whole-other P answer (inr (inr (inr is))) p = subst (λ (a : Stepped). UnlessBroken a P) is p

-- a line, where any serves
pub a-line : Line
a-line = record { 0 = 1 }

-- A call that is no commit.
module _ (old new : Outside Space) (of : Config → Step) (said : (c : Config) → Going Said (of c)) (m m' : Machine) (quiet : LeavesOutside old new) (owed : List ℕ) where
  nothing-said : HasDone old new owed owed []
  nothing-said = done-quietly old new owed owed [] tt (subst (λ (bs : List ℕ). TellsBut old new bs owed) (sym (append-nil owed)) (but-leaves old new owed quiet))

  pub call-on : TakesCall old new of m m' stepped.Quiet → Comes old new owed owed of m m' On
  call-on t = record {
    size = t.size;
    by = λ c h alone.
        let d = t.does c h alone in
        let so : IsSaid d.0 = subst (Going Said) d.2 (said c) in (
          d.0,
          d.1,
          d.2,
          d.3,
          done-quietly old new owed owed (steps_of d.0) so.0
              (subst (λ (bs : List ℕ). TellsBut old new (owed ++ bs) owed) (sym (told d.0 so.1)) (subst (λ (bs : List ℕ). TellsBut old new bs owed) (sym (append-nil owed)) (but-leaves old new owed quiet))),
        );
  }
    where
      told : (es : List Event) → outputs es ≡ [] → output_by (steps_of es) ≡ []
      told es none = told-steps es ∙ none

  pub call-breaks : TakesCall old new of m m' stepped.Breaks → Comes old new owed owed of m m' Broke
  call-breaks t = record { size = tt; by = λ c h alone. inl (t.does c h alone, nothing-said) }

  stuck-call : (s : Step) (answer : Stepped) → IsOther answer → DoesCall old new m.objects.size s answer m' → s ≡ Stuck
  stuck-call s answer (inl is) d = subst (λ (a : Stepped). DoesCall old new m.objects.size s a m') is d
  stuck-call s answer (inr (inl is)) d = absurd (subst (λ (a : Stepped). DoesCall old new m.objects.size s a m') is d)
  stuck-call s answer (inr (inr (inl is))) d = absurd (subst (λ (a : Stepped). DoesCall old new m.objects.size s a m') is d)
  stuck-call s answer (inr (inr (inr is))) d = absurd (subst (λ (a : Stepped). DoesCall old new m.objects.size s a m') is d)

  -- there is no step, and the code is blamed
  pub call-damaged : (at : ℕ) (fault : SwizzleFault) (answer : Stepped) → IsOther answer → BlamesCode m' at fault → TakesCall old new of m m' answer
      → Comes old new owed owed of m (record m' { fault = fault }) Broke
  call-damaged at fault answer other blames t = record {
    size = tt;
    by = λ c h alone.
        inl (inl (subst (λ (f : SwizzleFault). BreaksBy old new m.objects.size (of c) f) (sym blames) (stuck-call (of c) answer other (t.does c h alone))), nothing-said);
  }

-- The commit, once what was pending went out.
module _ (old mid new : Outside Space) (m m' : Machine) (owed : List ℕ) (sent : TellsBut old mid owed []) (sound : IsHeap m.objects) where
  -- what was pending was done
  sent-first : HasDone old mid owed [] []
  sent-first = done-quietly old mid owed [] [] tt (subst (λ (bs : List ℕ). TellsBut old mid bs []) (sym (append-nil owed)) sent)

  -- the machine holds it still
  mid-holds : (c : Config) → Holds old m c → Holds mid m c
  mid-holds c h = put-holds m old mid c sound sent.tells.first.leaves.contents h

  nothing-more : LeavesOutside mid new → HasDone old new owed [] []
  nothing-more quiet =
      events-then old mid new owed [] [] [] sent-first []
      (done-quietly mid new [] [] [] tt (but-leaves mid new [] quiet))

  after-commit : IsSilent mid new → (events : List Event) → LeavesBy mid new events → HasDone old new owed [] (steps_of events)
  after-commit silent [] leaves = nothing-more leaves
  after-commit silent (Commit heap counted ∷ []) leaves =
      events-then old mid new owed [] [] [] sent-first (Commit heap counted ∷ []) (committed mid new heap silent leaves counted)
  after-commit silent (Commit heap counted ∷ event ∷ events) leaves = absurd leaves
  after-commit silent (event ∷ events) leaves = absurd leaves

  pub commit-on : IsSilent mid new → TakesCommit mid new m m' stepped.Quiet → Comes old new owed [] commits m m' On
  commit-on silent t = record {
    size = t.size;
    by = λ c h alone.
        let d = t.does c (mid-holds c h) in
        (d.0, d.1, d.2, d.3, after-commit silent d.0 d.4);
  }

  pub commit-breaks : IsSilent mid new → TakesCommit mid new m m' stepped.Breaks → Comes old new owed [] commits m m' Broke
  commit-breaks silent t = record {
    size = tt;
    by = λ c h alone. breaks c (t.does c (mid-holds c h));
  }
    where
      breaks : (c : Config) → CommitBreaksIn mid new m.objects.size c m'.fault → ComesTo old new owed [] m.objects.size (commits c) m' Broke
      breaks c (inl room) = inl (inr room.0, nothing-more room.1)
      breaks c (inr b) =
          inr (b.0, b.1, b.2, b.3, breaks-then old mid new owed [] [] [] sent-first [] tt b.0 (uncommitted mid new b.0 silent b.4), b.5)

  stuck-commit : (c : Config) (answer : Stepped) → IsOther answer → DoesCommit mid new m.objects.size c answer m' → (commits c ≡ Stuck) × LeavesOutside mid new
  stuck-commit c answer (inl is) d = subst (λ (a : Stepped). DoesCommit mid new m.objects.size c a m') is d
  stuck-commit c answer (inr (inl is)) d = absurd (subst (λ (a : Stepped). DoesCommit mid new m.objects.size c a m') is d)
  stuck-commit c answer (inr (inr (inl is))) d = absurd (subst (λ (a : Stepped). DoesCommit mid new m.objects.size c a m') is d)
  stuck-commit c answer (inr (inr (inr is))) d = absurd (subst (λ (a : Stepped). DoesCommit mid new m.objects.size c a m') is d)

  -- there is no room for the answer, and the code is blamed
  pub commit-damaged : (at : ℕ) (fault : SwizzleFault) (answer : Stepped) → IsOther answer → BlamesCode m' at fault → TakesCommit mid new m m' answer
      → Comes old new owed [] commits m (record m' { fault = fault }) Broke
  commit-damaged at fault answer other blames t = record {
    size = tt;
    by = λ c h alone.
        let d = stuck-commit c answer other (t.does c (mid-holds c h)) in
        inl (inl (subst (λ (f : SwizzleFault). BreaksBy old new m.objects.size (commits c) f) (sym blames) d.0), nothing-more d.1);
  }

-- the output failed before it
pub commit-cut : (old new : Outside Space) (owed left : List ℕ) (m : Machine) → FailsAfter old new owed → left ≡ [] → Comes old new owed left commits m m Failed
commit-cut old new owed left m fails none = record {
  size = tt;
  by = λ c h alone. inl (cut-quietly old new owed left [] tt (subst (λ (bs : List ℕ). FailsAfter old new bs) (sym (append-nil owed)) fails) none);
}

-- The instructions of these calls.
module _ (old new : Outside Space) (owed left : List ℕ) (i : Instr) (own : ℕ) (line : Line) (m m' : Machine) (answer : Advanced) where
  pub create-acts : i ≡ Lib 0 line → Comes old new owed left (call_on_heap CreateDatabase line) m m' answer → Comes old new owed left (acts i own) m m' answer
  unfolding library_procedure
  create-acts is k = subst (λ (x : Instr). Comes old new owed left (acts x own) m m' answer) (sym is) k

  pub open-acts : i ≡ Lib 1 line → Comes old new owed left (call_on_heap OpenDatabase line) m m' answer → Comes old new owed left (acts i own) m m' answer
  unfolding library_procedure
  open-acts is k = subst (λ (x : Instr). Comes old new owed left (acts x own) m m' answer) (sym is) k

  pub commit-acts : i ≡ Lib 2 line → Comes old new owed left commits m m' answer → Comes old new owed left (acts i own) m m' answer
  unfolding library_procedure heap_call
  commit-acts is k = subst (λ (x : Instr). Comes old new owed left (acts x own) m m' answer) (sym is) k
