-- What the machine does at a commit, by what the commit of the run answered.
use Rattle.std.proofs.Common.{◌≡◌, ℕ, ◌+◌, ◌<◌, ◌≤◌, List, [], length, Option, Some, None, inr, refl, sym, ap, ◌∙◌, subst}
use Rattle.std.specs.Prelude.{IfSome, Result, Ok, Err, vec_capacity}
use Rattle.std.specs.declared.alloc.Global.{Global}
use Rattle.std.specs.declared.vec.Vec.{Vec}
use Rattle.machine_core.specs.ps_outside.Outside.{Outside}
use Rattle.machine_core.specs.obj_layout.Stored.{IsSpace, Space}
use Rattle.machine_core.specs.obj_layout.declared.reference.Reference.{Reference}
use Rattle.machine_core.specs.swizzle.Heap as area
use Rattle.machine_core.specs.swizzle.Heap.{IsHeap, IsHeld, top_of, with_none_reached}
use Rattle.machine_core.specs.swizzle.declared.fault.SwizzleFault.{SwizzleFault}
use Rattle.machine_core.specs.ps_heap.Calls.{Answer, answer_of, commit_by, commit_call}
use Rattle.machine_core.specs.ps_heap.Commit.{Decision, NothingToDo, NotWritable, Saves, decision, saved}
use Rattle.machine_core.specs.ps_heap.Held.{Held as Meant}
use Rattle.machine_core.specs.ps_heap.Values.{Nil}
use Rattle.machine_core.specs.ps_meaning.Meaning.{on_held}
use Rattle.machine_core.specs.ps_stepping.Config.{Config, frame_words}
use Rattle.machine_core.specs.ps_stepping.Library.{gives_ref}
use Rattle.machine_core.proofs.of_swizzle.ReadingLaws.{leaves-none}
use Rattle.machine_core.specs.joint_held.Held.{HoldsRun}
use Rattle.machine_core.specs.joint_held.db_dir.Directories.{IsShaped}
use Rattle.machine_core.specs.joint_held.reach_commit.Answers.{LeavesAll, Stores}
use Rattle.machine_core.specs.joint_held.reach_commit.Becoming.{AreNewRoots}
use Rattle.machine_core.specs.joint_held.reach_commit.Committing.{Remains}
use Rattle.machine_core.specs.joint_held.reach_commit.commit_walk.declared.homes.Source.{Source}
use Rattle.machine_core.specs.joint_held.reach_commit.declared.commit.CommitAnswer.{CommitAnswer}
use Rattle.machine_core.specs.joint_held.reach_commit.declared.commit.CommitAnswer.TheVariants as answer
use Rattle.new_pids.specs.Giving.{AreBelow}
use Rattle.joint_held.proofs.BelowLaws.{below-used}
use Rattle.machine_core.specs.declared.machine.Machine.{Machine}
use Rattle.machine_core.specs.declared.stepped.Stepped.{Stepped}
use Rattle.machine_core.specs.declared.stepped.Stepped.TheVariants.{Quiet, Breaks}
use Rattle.machine_core.specs.Holding.{HeldBy, HoldsStore, IsSound, asked_in, holding, run_in, words_of}
use Rattle.machine_core.specs.Naming.{NamesObjects}
use Rattle.joint_commit.specs.Answers.{CommitsHeld}
use Rattle.joint_commit.specs.Saving.{SavesRun, none_made}
use Rattle.machine_databases.specs.inside.Giving.{given}
use Rattle.machine_core.proofs.Carrying.{sound-kept}
use Rattle.machine_core.proofs.Naming.{names-last}
use Rattle.machine_core.proofs.of_swizzle.StandLaws.{stands-left}
use Rattle.machine_databases.proofs.Pushing.{gives-goes}
use Rattle.machine_databases.proofs.Naming.{roots-in, shaped-in, sound-broken}
use Rattle.machine_commits.specs.Committing.{TakesCommit, IsOfVault}
use Rattle.machine_commits.specs.inside.Answering.{PushesNil, RefusesCommit}
use Rattle.machine_commits.proofs.Cleared.{cleared-run}
use Rattle.reach_commit.proofs.ClearLaws.{clears-reached}
use Rattle.machine_commits.proofs.Naming.{names-saved}
use Rattle.machine_commits.proofs.Moving.{StayDenoted, held-cleared, held-moved}

-- what a commit answers goes by what it decides
pub commit-is : (h : Meant) (of : Decision) → decision h ≡ of → commit_call h ≡ commit_by of h
unfolding commit_call
commit-is h of e = ap (λ (d : Decision). commit_by d h) e

-- what the run holds decides so
abbrev Decide : Outside Space → Machine → (Meant → Decision) → Type 0
Decide outside m of = (names : List Reference) (d : Meant) → HoldsRun m.objects outside names m.databases.writing.items m.databases.directory d → decision d ≡ of d

module _ (outside : Outside Space) (m new : Machine) where
  -- There is nothing to do.
  nothing-takes : Decide outside m (λ d. NothingToDo) → PushesNil outside m new → TakesCommit outside outside m new Quiet
  nothing-takes told p = record {
    sound = p.sound;
    names = p.names;
    size = ap (λ (here : area.Heap). here.size) p.objects;
    does = λ c st.
        let d = c.store.held in
        let a = answer_of Nil d in
        let same = commit-is d NothingToDo (told st.names d (run_in st.held.run)) in
        let pushed = p.pushes st.names c a refl st.held in
        ([], given a c, ap (λ (x : Answer). gives_ref x c) same ∙ pushed.0, record { names = st.names; held = pushed.1 }, leaves-none outside);
  }

  -- It is refused.
  refused-takes : (r : Stepped) → Decide outside m (λ d. NotWritable) → RefusesCommit outside m new r → TakesCommit outside outside m new r
  refused-takes r told f = record {
    sound = f.sound;
    names = f.names;
    size = f.size;
    does = λ c st. f.does st.names c st.held (told st.names c.store.held (run_in st.held.run));
  }

-- The run was saved.

-- what it answers then
abbrev saving : Meant → Answer
saving d = commit_by (Saves (saved d)) d

module _ (before after : Outside Space) (m : Machine) (now : area.Heap) (writing : Vec Source Global) (none : writing.items ≡ none_made m.databases.writing.items) where
  abbrev pub forgotten : Machine
  forgotten = record m { objects = now; databases = record m.databases { writing = writing } }

  saved-held : (names : List Reference) (c : Config) → HeldBy before names m c
      → (t : SavesRun m.objects now before after names m.databases.writing.items m.databases.directory c.store.held)
      → HeldBy after t.more forgotten (record c { store = on_held (saving c.store.held).held c.store })
  saved-held names c h t =
      let w = words_of m in
      let d = c.store.held in
      let k : StayDenoted m.objects now before after names t.more = record { values = t.values; scopes = t.scopes; units = t.units } in
      let store : HoldsStore now after t.more writing.items w.asked w.directory (saving d).held =
      holding (asked_in h.run) (subst (λ (ws : List Source). HoldsRun now after t.more ws w.directory (saving d).held) (sym none) t.holds) in
      held-moved m.objects now before after names t.more k w c (on_held (saving d).held c.store) writing.items w.asked w.directory (vec_capacity writing) h store refl refl

  saved-takes : (new : Machine) → now.size ≡ m.objects.size
      → ((names : List Reference) (d : Meant) → HoldsRun m.objects before names m.databases.writing.items m.databases.directory d
      → (decision d ≡ Saves (saved d)) × SavesRun m.objects now before after names m.databases.writing.items m.databases.directory d)
      → PushesNil after forgotten new → TakesCommit before after m new Quiet
  saved-takes new size told p = record {
    sound = p.sound;
    names = p.names;
    size = ap (λ (here : area.Heap). here.size) p.objects ∙ size;
    does = λ c st.
        let d = c.store.held in
        let a = saving d in
        let t = told st.names d (run_in st.held.run) in
        let pushed = p.pushes t.1.more c a refl (saved-held st.names c st.held t.1) in (
          a.events,
          given a c,
          ap (λ (x : Answer). gives_ref x c) (commit-is d (Saves (saved d)) t.0) ∙ pushed.0,
          record { names = t.1.more; held = pushed.1 },
          t.1.leaves,
        );
  }

-- What the commit of the run told of the run that is held.
abbrev pub ToldOf : {V : Type 0} → (V → Outside Space) → V → V → Machine → area.Heap → area.Heap → List Source → Result CommitAnswer SwizzleFault → Type 0
ToldOf outside v w m now here writing r = (names : List Reference) (d : Meant) → HoldsRun here (outside v) names writing m.databases.directory d
    → CommitsHeld here now (outside v) (outside w) names writing m.databases.directory d r

-- By the answer of the commit of the run, to which the area and the databases were lent.
module _ {V : Type 0} (outside : V → Outside Space) (v w : V) (m : Machine) (was now : area.Heap) (same : was ≡ m.objects) (ws : List Source)
    (lent : ws ≡ m.databases.writing.items) where
  told-now : (r : Result CommitAnswer SwizzleFault) → ToldOf outside v w m now was ws r → ToldOf outside v w m now m.objects m.databases.writing.items r
  told-now r told =
      subst (λ (here : area.Heap). ToldOf outside v w m now here m.databases.writing.items r) same
      (subst (λ (writing : List Source). ToldOf outside v w m now was writing r) lent told)

  -- so where it is known what was answered
  told-as : (a b : CommitAnswer) → a ≡ b → ToldOf outside v w m now was ws (Ok a) → ToldOf outside v w m now m.objects m.databases.writing.items (Ok b)
  told-as a b is told =
      told-now (Ok b) (subst (λ (x : CommitAnswer). ToldOf outside v w m now was ws (Ok x)) is told)

  still-as : (a b : CommitAnswer) → a ≡ b → LeavesAll was now v w (Ok a) → LeavesAll was now v w (Ok b)
  still-as a b is still = subst (λ (x : CommitAnswer). LeavesAll was now v w (Ok x)) is still

  pub by-refusal : (a : CommitAnswer) (object home : ℕ) (new : Machine) (r : Stepped) → a ≡ answer.NotWritable object home → ToldOf outside v w m now was ws (Ok a)
      → LeavesAll was now v w (Ok a) → RefusesCommit (outside w) (record m { objects = now }) new r → TakesCommit (outside v) (outside w) m new r
  by-refusal a object home new r is told leaves f =
      let still = still-as a (answer.NotWritable object home) is leaves in
      let here = subst (λ (x : area.Heap). RefusesCommit (outside w) (record m { objects = x }) new r) (still.0 ∙ same) f in
      let there = subst (λ (x : V). RefusesCommit (outside x) m new r) still.1 here in
      subst (λ (x : V). TakesCommit (outside v) (outside x) m new r) (sym still.1)
      (refused-takes (outside v) m new r (λ names d run. (told-as a (answer.NotWritable object home) is told names d run).0) there)

  pub by-nothing : (a : CommitAnswer) (new : Machine) → a ≡ answer.Nothing → ToldOf outside v w m now was ws (Ok a) → LeavesAll was now v w (Ok a)
      → PushesNil (outside v) (record m { objects = now }) new → TakesCommit (outside v) (outside w) m new Quiet
  by-nothing a new is told leaves p =
      let still = still-as a answer.Nothing is leaves in
      let here = subst (λ (x : area.Heap). PushesNil (outside v) (record m { objects = x }) new) (still.0 ∙ same) p in
      subst (λ (x : V). TakesCommit (outside v) (outside x) m new Quiet) (sym still.1)
      (nothing-takes (outside v) m new (λ names d run. (told-as a answer.Nothing is told names d run).0) here)

  pub by-saving : (a : CommitAnswer) (fresh rewritten : ℕ) (writing : Vec Source Global) (new : Machine) → a ≡ answer.Saved fresh rewritten
      → writing.items ≡ none_made m.databases.writing.items → ToldOf outside v w m now was ws (Ok a) → Remains was now
      → PushesNil (outside w) (record m { objects = now; databases = record m.databases { writing = writing } }) new
      → TakesCommit (outside v) (outside w) m new Quiet
  by-saving a fresh rewritten writing new is none told r p =
      saved-takes (outside v) (outside w) m now writing none new (r.size ∙ ap (λ (here : area.Heap). here.size) same)
      (told-as a (answer.Saved fresh rewritten) is told) p

  pub by-fault : (fault : SwizzleFault) → IsOfVault fault → IsSound m → length m.refs.own < frame_words → ToldOf outside v w m now was ws (Err fault)
      → TakesCommit (outside v) (outside w) m (record m { objects = now; fault = fault }) Breaks
  by-fault fault vaults sound room told = record {
    sound = sound-broken m now m.databases fault sound;
    names = tt;
    size = tt;
    does = λ c st.
        let d = c.store.held in
        let a = saving d in
        let t = told-now (Err fault) told st.names d (run_in st.held.run) in
        let goes = ap (λ (x : Answer). gives_ref x c) (commit-is d (Saves (saved d)) t.0) ∙ gives-goes m (outside v) st.names c room st.held a in
        inr (saved d, d.counted, given a c, goes, t.1, vaults);
  }

  -- what the machine's words name is there for it
  pub roots-lent : NamesObjects m → AreNewRoots was ws
  roots-lent n =
      let w = words_of m in
      subst (λ (writing : List Source). AreNewRoots was writing) (sym lent)
      (subst (λ (here : area.Heap). AreNewRoots here w.writing) (sym same) (roots-in m.objects w.writing w.directory w.places n.databases))

  pub directory-lent : NamesObjects m → IfSome m.databases.directory (IsHeld was)
  directory-lent n =
      let w = words_of m in
      subst (λ (here : area.Heap). IfSome w.directory (IsHeld here)) (sym same) (of w.directory (shaped-in m.objects w.writing w.directory w.places n.databases))
    where
      of : (at : Option ℕ) → IfSome at (IsShaped m.objects) → IfSome at (IsHeld m.objects)
      of None is = tt
      of (Some at) is = is.held

  -- and is named still
  pub names-stay : now ≡ was → NamesObjects m → NamesObjects (record m { objects = now })
  names-stay still n = subst (λ (here : area.Heap). NamesObjects (record m { objects = here })) (sym (still ∙ same)) n

  pub names-forgotten : (writing : Vec Source Global) → Remains was now → writing.items ≡ none_made m.databases.writing.items
      → vec_capacity writing ≡ vec_capacity m.databases.writing → NamesObjects m
      → NamesObjects (record m { objects = now; databases = record m.databases { writing = writing } })
  names-forgotten writing r none room n =
      names-saved m.objects now (subst (λ (here : area.Heap). Remains here now) same r) (words_of m) m.writing.item writing.items (vec_capacity writing) n none room

-- A commit that saved leaves the objects of the area, but for homes and PIDs.
pub remains-of : (old new : area.Heap) (writing : List Source) (directory : Option ℕ) (before after : Outside Space) (used now most named : ℕ) (a : CommitAnswer)
    (fresh rewritten : ℕ) → a ≡ answer.Saved fresh rewritten → Stores old new writing directory before after used now most named (Ok a) → Remains old new
remains-of old new writing directory before after used now most named a fresh rewritten is stores =
    let saves = subst (λ (x : CommitAnswer). Stores old new writing directory before after used now most named (Ok x)) is stores in
    saves.commits.remains

-- Nothing is noted as reached any more before it.
module _ (m : Machine) where
  abbrev cleared : Machine
  cleared = record m { objects = with_none_reached m.objects }

  -- It wants the same of the machine.
  module _ (ready : Machine) (is : ready ≡ cleared) where
    pub good-now : IsHeap ready.objects → IsHeap (with_none_reached m.objects)
    good-now good = subst (λ (x : Machine). IsHeap x.objects) is good

    pub ready-sound : IsSound m → IsSound ready
    ready-sound fit = subst (λ (x : Machine). IsSound x) (sym is) (sound-kept m (with_none_reached m.objects) fit)

    pub ready-names : NamesObjects m → NamesObjects ready
    ready-names n =
        let now = with_none_reached m.objects in
        subst (λ (x : Machine). NamesObjects x) (sym is) (names-last m.objects now (stands-left m.objects now refl) (words_of m) m.writing.item n)

    pub ready-stack : length m.refs.own < frame_words → length ready.refs.own < frame_words
    ready-stack room = subst (λ (x : Machine). length x.refs.own < frame_words) (sym is) room

    pub ready-empty : ready.objects.reached ≡ []
    ready-empty = ap (λ (x : Machine). x.objects.reached) is

    pub ready-room : (long : ℕ) → top_of m.objects ≤ long + 1 → top_of ready.objects ≤ long + 1
    ready-room long room =
        let same : top_of (with_none_reached m.objects) ≡ top_of m.objects = (clears-reached m.objects).remade.top in
        subst (λ (x : Machine). top_of x.objects ≤ long + 1) (sym is) (subst (λ (n : ℕ). n ≤ long + 1) (sym same) room)

  module _ (sound : IsHeap m.objects) (good : IsHeap (with_none_reached m.objects)) where
    cleared-takes : (before after : Outside Space) (new : Machine) (r : Stepped) → TakesCommit before after cleared new r → TakesCommit before after m new r
    cleared-takes before after new r t = record {
      sound = t.sound;
      names = t.names;
      size = t.size;
      does = λ c st. t.does c (record { names = st.names; held = held-cleared before st.names m c sound good st.held });
    }

    -- What is done then is done.
    pub ready-takes : (before after : Outside Space) (ready new : Machine) (r : Stepped) → ready ≡ cleared → TakesCommit before after ready new r
        → TakesCommit before after m new r
    ready-takes before after ready new r is t = cleared-takes before after new r (subst (λ (x : Machine). TakesCommit before after x new r) is t)

    -- Where a PID isn't below the used words no run is held.
    pub unready-takes : (outside : Outside Space) (used named : ℕ) → ((space : Space) → outside.contents space → IsSpace used named space) → (ready : Machine)
        → ready ≡ cleared → (fault : SwizzleFault) → IsSound m → (AreBelow ready.objects used → ⊥) → TakesCommit outside outside m (record ready { fault = fault }) Breaks
    unready-takes outside used named space ready is fault fit none =
        subst (λ (x : Machine). TakesCommit outside outside m (record x { fault = fault }) Breaks) (sym is) (record {
          sound = sound-broken m (with_none_reached m.objects) m.databases fault fit;
          names = tt;
          size = tt;
          does = λ c st.
              let w = words_of m in
              let run = cleared-run m.objects outside st.names w.writing w.directory c.store.held sound good (run_in st.held.run) in
              let below = below-used (with_none_reached m.objects) outside st.names w.writing w.directory c.store.held used named space run in
              absurd (subst (λ (x : Machine). AreBelow x.objects used → ⊥) is none below);
        })
