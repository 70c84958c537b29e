-- A database is created: what the machine holds then, and what it answers.
use Rattle.std.proofs.Common.{◌≡◌, ◌≢◌, ◌⊎◌, ℕ, suc, ◌+◌, ◌*◌, ◌<◌, ◌≤◌, Bool, true, false, List, [], ◌∷◌, length, Some, None, inl, inr, refl, sym, ap, ◌∙◌, subst, arith, if◌then◌else◌}
use Rattle.std.specs.Prelude.{◌||◌, codes, nat_eq, nat_lt, Result, Ok, Err}
use Rattle.std.specs.List.{AllByRecursion}
use Rattle.std.proofs.lemmas.Bool.{eq-eqb, true≢false}
use Rattle.machine_core.specs.ps_outside.Outside.{Outside}
use Rattle.machine_core.specs.obj_layout.Stored.{Space}
use Rattle.machine_core.specs.obj_layout.declared.reference.Reference.{Reference}
use Rattle.machine_core.specs.swizzle.Heap as area
use Rattle.machine_core.specs.swizzle.Heap.{IsFull, IsHeld, top_of, Stands as AllStand}
use Rattle.machine_core.specs.swizzle.Joint.{name_at}
use Rattle.machine_core.specs.swizzle.Reading.{LeavesOutside}
use Rattle.machine_core.specs.swizzle.declared.fault.SwizzleFault.{SwizzleFault}
use Rattle.machine_core.specs.swizzle.declared.fault.SwizzleFault.TheVariants.{AreaFull}
use Rattle.machine_core.specs.ps_heap.ps_base.Limits.{most_databases, most_database_name_bytes, most_password_bytes}
use Rattle.machine_core.specs.ps_heap.Calls.{directory_known}
use Rattle.machine_core.specs.ps_heap.Databases.{BadName, BadPassword, Exists, TooMany, Directory, Opening, create_fault, directory_weight, is_there, named}
use Rattle.machine_core.specs.ps_heap.Held.{Held as Meant}
use Rattle.machine_core.specs.ps_heap.Values.{Value, Text}
use Rattle.machine_core.specs.ps_meaning.Meaning.{on_held}
use Rattle.machine_core.specs.ps_stepping.Config.{Config, frame_words}
use Rattle.machine_core.specs.joint_ops.World.{BreaksOff, DenotesIn}
use Rattle.machine_core.specs.joint_ops.heap_meaning.Paired.{and_name}
use Rattle.machine_core.specs.joint_held.Held.{HoldsRun}
use Rattle.machine_core.specs.joint_held.Opening.{and_source}
use Rattle.machine_core.specs.joint_held.db_dir.declared.fault.DirFault.{DirFault}
use Rattle.machine_core.specs.joint_held.db_dir.Answers.{IsShort, fault_of}
use Rattle.machine_core.specs.joint_held.reach_commit.commit_walk.declared.homes.Source.{Source}
use Rattle.machine_core.specs.declared.machine.Machine.{Machine}
use Rattle.machine_core.specs.declared.stepped.Stepped.{Stepped}
use Rattle.machine_core.specs.declared.stepped.Stepped.TheVariants.{Breaks}
use Rattle.machine_core.specs.Holding.{HeldBy, HoldsStore, IsSound, asked_in, holding, run_in, words_of}
use Rattle.machine_core.specs.Naming.{NamesObjects}
use Rattle.machine_core.proofs.Carrying.{broken-off, unless-broken}
use Rattle.machine_core.proofs.RunLaws.{run-counting}
use Rattle.database_steps.specs.Databases.{IsAlone, IsNumber}
use Rattle.database_steps.proofs.Openings.{none_next}
use Rattle.joint_databases.specs.Calls.{Creating, HasNoNext}
use Rattle.joint_databases.specs.declared.calls.Creation.{Creation}
use Rattle.joint_databases.specs.declared.calls.Creation.TheVariants as creation
use Rattle.machine_databases.specs.Asking.{knowing}
use Rattle.machine_databases.specs.Calls.{Counts, DoesCall}
use Rattle.machine_databases.specs.Refusing.{GivesRefusal}
use Rattle.machine_databases.specs.inside.Answering.{AreCredentials, Credentials, Follows, create_with, created_with}
use Rattle.machine_databases.specs.inside.Giving.{GivesRoot, HasPlace, given}
use Rattle.machine_databases.proofs.Calling.{call-behind, so-unless}
use Rattle.machine_databases.proofs.Holding.{held-now}
use Rattle.machine_databases.proofs.Meant.{asking, naming_one, creates, create-refused, directory-counted, refusal-of, root-counted}
use Rattle.machine_databases.proofs.Naming.{sound-broken}
use Rattle.machine_databases.proofs.Places.{few, place-for}
use Rattle.machine_databases.proofs.Pushing.{gives-goes}

-- where there is no fault there aren't as many databases as there may be
not-full : (a b c d : Bool) → (if a then Some BadName else if b then Some BadPassword else if c then Some Exists else if d then Some TooMany else None) ≡ None → d ≡ false
not-full true b c d e = absurd (cc)
not-full false true c d e = absurd (cc)
not-full false false true d e = absurd (cc)
not-full false false false true e = absurd (cc)
not-full false false false false e = refl

room-left : (directory : Directory) (name password : List ℕ) → create_fault directory name password ≡ None → length directory ≢ most_databases
unfolding create_fault
room-left directory name password e full =
    let no = not-full (nat_eq (length name) 0 || nat_lt most_database_name_bytes (length name)) (nat_lt most_password_bytes (length password)) (is_there (named directory name))
    (nat_eq (length directory) most_databases) e in
    true≢false (sym (eq-eqb (length directory) most_databases full) ∙ no)

later-numbers : (count : ℕ) (openings : List Opening) → AllByRecursion (λ opening. IsNumber count opening.number) openings
    → AllByRecursion (λ opening. IsNumber (suc count) opening.number) openings
later-numbers count [] all = tt
later-numbers count (opening ∷ more) all =
    (record { first = all.0.first; last = let last = all.0.last in omega (arith, last) }, later-numbers count more all.1)

module _ (before after : Outside Space) (m : Machine) (now : area.Heap) (name password : ℕ) where
  abbrev pub ToldOf : area.Heap → Result Creation SwizzleFault → Type 0
  ToldOf was r = (names : List Reference) (writing : List Source) (h : Meant) (n p : List ℕ) → h.asked ≡ true → HasNoNext h
      → HoldsRun was before names writing m.databases.directory h → DenotesIn was before names (Some name) (Text n) → DenotesIn was before names (Some password) (Text p)
      → Creating was now before after names writing m.databases.directory h n p r

  abbrev pub Follow : Machine → Stepped → Type 0
  Follow new r = Follows before after (AreCredentials m.objects before name password) create_with knowing m new r

  module _ (was : area.Heap) (same : was ≡ m.objects) where
    told-now : (r : Result Creation SwizzleFault) → ToldOf was r → ToldOf m.objects r
    told-now r told = subst (λ (here : area.Heap). ToldOf here r) same told

    module _ (names : List Reference) (c : Config) (a : Credentials) (h : HeldBy before names m (knowing c)) (d : AreCredentials m.objects before name password names a)
        (alone : IsAlone c.store.held) where
      abbrev W : List Source
      W = m.databases.writing.items

      abbrev h0 : Meant
      h0 = c.store.held

      asking-store : HoldsStore m.objects before names W m.databases.asked m.databases.directory (asking h0)
      asking-store = run-counting names W m.databases.asked m.databases.directory (directory_known h0) m.objects before 64 h.run

      naming-store : HoldsStore m.objects before names W m.databases.asked m.databases.directory (naming_one h0)
      naming-store =
          run-counting names W m.databases.asked m.databases.directory (asking h0) m.objects before (directory_weight (suc (length h0.directory))) asking-store

      told-naming : (r : Result Creation SwizzleFault) → ToldOf was r → Creating m.objects now before after names W m.databases.directory (naming_one h0) a.name a.password r
      told-naming r told = told-now r told names W (naming_one h0) a.name a.password refl (none_next (naming_one h0) alone.named) (run_in naming-store) d.name_is d.password_is

      place : create_fault h0.directory a.name a.password ≡ None → HasPlace W
      place none =
          let count = length h0.directory in
          let low = few m.objects before names W m.databases.directory (naming_one h0) (run_in naming-store) refl in
          let left = room-left h0.directory a.name a.password none in
          place-for m.objects before names W m.databases.directory (naming_one h0) (run_in naming-store) refl (suc count) (suc count) (omega (arith, low, left))
          (later-numbers count h0.openings alone.named) (record { first = omega arith; last = omega arith }) (none_next h0 alone.named)

      made-does : (number root at : ℕ) (new : Machine) (r : Stepped) → ToldOf was (Ok (creation.Made number root at))
          → GivesRoot before after (HasPlace W) (and_source W number (Some root)) (Some at) root (record m { objects = now }) new r
          → DoesCall before after m.objects.size (create_with a c) r new
      made-does number root at new r told g =
          let t = told-naming (Ok (creation.Made number root at)) told in
          let l = creates a h0 alone.replies t.none in
          let answer = created_with a h0 in
          let more = and_name names (name_at now root) in
          let opened = and_source W number (Some root) in
          let store : HoldsStore now after more opened m.databases.asked (Some at) answer.held =
          holding (ap (λ (k : Meant). k.asked) l.held ∙ asked_in h.run) (subst (λ (k : Meant). HoldsRun now after more opened (Some at) k) (sym l.held) t.holds.run) in
          g.does m.objects names more (knowing c) answer h t.holds.carries store
          (subst (λ (v : Value). DenotesIn now after more (Some root) v) (sym l.value) t.denotes) (place t.none)

      fault-does : (fault : DirFault) (new : Machine) (r : Stepped) → ToldOf was (Ok (creation.Fault fault)) → LeavesOutside before after → now.size ≡ m.objects.size
          → GivesRefusal after (codes "create.database") (fault_of fault) (record m { objects = now }) new r
          → DoesCall before after m.objects.size (create_with a c) r new
      fault-does fault new r told left size g =
          let w = words_of m in
          let t = told-now (Ok (creation.Fault fault)) told names W (asking h0) a.name a.password refl (none_next (asking h0) alone.named) (run_in asking-store) d.name_is d.password_is in
          let held = held-now m.objects now before after names names w (knowing c) (on_held (asking h0) c.store) W m.databases.asked m.databases.directory w.places t.1.carries h
          (holding (asked_in h.run) t.1.run) refl refl in
          call-behind before after after m.objects.size now.size (create_with a c) r new left size
          (g.does names (record c { store = on_held (asking h0) c.store }) (created_with a h0) held
          (refusal-of (codes "create.database") (fault_of fault) (asking h0) (created_with a h0) (create-refused a h0 (fault_of fault) t.0)))

      counts : (wanted : ℕ) → length m.refs.own < frame_words → 8 * wanted ≤ (created_with a h0).held.counted → Counts (create_with a c) wanted
      counts wanted room low = record {
        events = (created_with a h0).events;
        next = given (created_with a h0) c;
        step_is = gives-goes m before names (knowing c) room h (created_with a h0);
        counted = low;
      }

      off-does : (fault : SwizzleFault) → ToldOf was (Err fault) → length m.refs.own < frame_words
          → DoesCall before after m.objects.size (create_with a c) Breaks (record m { objects = now; fault = fault })
      off-does fault told room = of (told-naming (Err fault) told)
        where
          of : BreaksOff m.objects now before after fault
              ⊎ (IsFull m.objects now 8 fault ⊎ (IsShort m.objects now before after names h0.directory a.name a.password fault × (now.size ≡ m.objects.size)))
              → DoesCall before after m.objects.size (create_with a c) Breaks (record m { objects = now; fault = fault })
          of (inl off) = inl (broken-off m.objects now before after (create_with a c) fault off)
          of (inr (inl full)) = inr (top_of m.objects, 8, full.fault_is, full.full, counts 8 room (root-counted a h0 alone.replies))
          of (inr (inr (short, size))) =
              let low = directory-counted a h0 alone.replies short.none in
              let words = short.words in
              inr (
                top_of now,
                short.wanted,
                short.fault_is ∙ ap (λ (n : ℕ). AreaFull (top_of now) short.wanted n) size,
                subst (λ (n : ℕ). n < top_of now + short.wanted) size short.full,
                counts short.wanted room (omega (arith, low, words)),
              )

    -- What the call does with what creating answered.

    pub made-follows : (number root at : ℕ) (new : Machine) (r : Stepped) → ToldOf was (Ok (creation.Made number root at)) → now.size ≡ was.size
        → GivesRoot before after (HasPlace m.databases.writing.items) (and_source m.databases.writing.items number (Some root)) (Some at) root (record m { objects = now }) new r
        → Follow new r
    made-follows number root at new r told size g = record {
      sound = g.sound;
      names = so-unless r (NamesObjects new) g.names;
      size = so-unless r (new.objects.size ≡ m.objects.size) (g.size ∙ (size ∙ ap (λ (here : area.Heap). here.size) same));
      does = λ names c a h d alone. made-does names c a h d alone number root at new r told g;
    }

    pub fault-follows : (fault : DirFault) (new : Machine) (r : Stepped) → ToldOf was (Ok (creation.Fault fault)) → LeavesOutside before after → now.size ≡ was.size
        → GivesRefusal after (codes "create.database") (fault_of fault) (record m { objects = now }) new r → Follow new r
    fault-follows fault new r told left size g =
        let stays = size ∙ ap (λ (here : area.Heap). here.size) same in
        record {
          sound = g.sound;
          names = g.names;
          size = unless-broken r (λ e. e ∙ stays) g.size;
          does = λ names c a h d alone. fault-does names c a h d alone fault new r told left stays g;
        }

    pub off-follows : (fault : SwizzleFault) → IsSound m → ToldOf was (Err fault) → length m.refs.own < frame_words
        → Follow (record m { objects = now; fault = fault }) Breaks
    off-follows fault sound told room = record {
      sound = sound-broken m now m.databases fault sound;
      names = tt;
      size = tt;
      does = λ names c a h d alone. off-does names c a h d alone fault told room;
    }
