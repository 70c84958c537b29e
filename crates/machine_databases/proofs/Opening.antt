-- A database is opened: what the machine holds then, and what it answers.
use Rattle.std.proofs.Common.{◌≡◌, ℕ, Bool, true, List, [], ◌∷◌, ◌++◌, length, Some, inl, refl, sym, ap, ◌∙◌, subst}
use Rattle.std.specs.Prelude.{codes, Result, Ok, Err}
use Rattle.std.specs.List.{AllByRecursion}
use Rattle.machine_core.specs.ps_outside.Outside.{Outside}
use Rattle.machine_core.specs.obj_layout.Stored.{Space}
use Rattle.machine_core.specs.obj_layout.declared.reference.Reference.{Reference}
use Rattle.machine_core.specs.swizzle.Heap as area
use Rattle.machine_core.specs.swizzle.Reading.{LeavesOutside}
use Rattle.machine_core.specs.swizzle.declared.fault.SwizzleFault.{SwizzleFault}
use Rattle.machine_core.specs.ps_heap.Calls.{directory_known}
use Rattle.machine_core.specs.ps_heap.Databases.{Admits, Mode, Reading, Writing, Numbered, Opening as OpenAs, admission}
use Rattle.machine_core.specs.ps_heap.Held.{Held as Meant}
use Rattle.machine_core.specs.ps_heap.Library.{OpenDatabase, heap_call}
use Rattle.machine_core.specs.ps_heap.Values.{Value, Text}
use Rattle.machine_core.specs.ps_meaning.Meaning.{on_held}
use Rattle.machine_core.specs.ps_stepping.Config.{Config}
use Rattle.machine_core.specs.joint_ops.World.{DenotesIn}
use Rattle.machine_core.specs.joint_held.Held.{HoldsRun}
use Rattle.machine_core.specs.joint_held.Opening.{with_opening}
use Rattle.machine_core.specs.joint_held.Writing.{HoldsAlike}
use Rattle.machine_core.specs.joint_held.db_dir.declared.admit.Admitted.{Admitted}
use Rattle.machine_core.specs.joint_held.db_dir.declared.admit.Admitted.TheVariants as admitted
use Rattle.machine_core.specs.joint_held.db_dir.declared.fault.DirFault.{DirFault}
use Rattle.machine_core.specs.joint_held.db_dir.Answers.{fault_of}
use Rattle.machine_core.specs.joint_held.db_dir.Found.{is_writing}
use Rattle.machine_core.specs.joint_held.reach_commit.commit_walk.reaching.Reaching.{IsIn}
use Rattle.machine_core.specs.joint_held.reach_commit.commit_walk.declared.homes.Source.{Source}
use Rattle.reaching.proofs.Lists.{not_in}
use Rattle.joint_held.proofs.ValueLaws.{alike-run}
use Rattle.machine_core.specs.declared.machine.Machine.{Machine}
use Rattle.machine_core.specs.declared.stepped.Stepped.{Stepped}
use Rattle.machine_core.specs.declared.stepped.Stepped.TheVariants.{Breaks}
use Rattle.machine_core.specs.Holding.{HeldBy, HoldsStore, IsSound, asked_in, holding, run_in, words_of}
use Rattle.machine_core.specs.Naming.{NamesObjects}
use Rattle.machine_core.proofs.Carrying.{broken-off, unless-broken}
use Rattle.database_steps.specs.Databases.{IsAlone, IsNumber}
use Rattle.database_steps.proofs.Alone.{answers_alone}
use Rattle.joint_databases.specs.Calls.{Opening, now_writing}
use Rattle.machine_databases.specs.Asking.{knowing}
use Rattle.machine_databases.specs.Calls.{DoesCall}
use Rattle.machine_databases.specs.Refusing.{GivesRefusal}
use Rattle.machine_databases.specs.inside.Answering.{AreEntry, Entry, Follows, open_with, opened_with}
use Rattle.machine_databases.specs.inside.Giving.{GivesRoot, HasPlaceFor, and_opened, numbers_of}
use Rattle.machine_databases.proofs.Calling.{call-behind, so-unless}
use Rattle.machine_databases.proofs.Holding.{held-now}
use Rattle.machine_databases.proofs.Meant.{open-refused, opens, refusal-of, touching_root}
use Rattle.machine_databases.proofs.Naming.{sound-broken}
use Rattle.machine_databases.proofs.Places.{few, place-for}

-- the databases that are open for writing, by how one is opened
same-writing : (writing : List Source) (number : ℕ) (mode : Mode) (b : Bool) → b ≡ is_writing mode → and_opened writing number b ≡ now_writing writing number mode
same-writing writing number mode b is = ap (and_opened writing number) is ∙ of mode
  where
    of : (mode : Mode) → and_opened writing number (is_writing mode) ≡ now_writing writing number mode
    of Reading = refl
    of Writing = refl

last-of : (P : OpenAs → Type 0) (openings : List OpenAs) (last : OpenAs) → AllByRecursion P (openings ++ last ∷ []) → P last
last-of P [] last all = all.0
last-of P (opening ∷ more) last all = last-of P more last all.1

-- what is admitted has a number of the directory
number-admitted : (entry : Entry) (h : Meant) (to : Numbered) (mode : Mode) → IsAlone h → admission h.directory entry.of.name entry.of.password entry.mode ≡ Admits to mode
    → IsNumber (length h.directory) to.number
unfolding heap_call
number-admitted entry h to mode alone e =
    let later = answers_alone OpenDatabase h alone (Text entry.of.name ∷ Text entry.of.password ∷ Text entry.mode ∷ []) in
    let now = subst (λ (k : Meant). IsAlone k) (opens entry h alone.replies to mode e).held later in
    last-of (λ opening. IsNumber (length h.directory) opening.number) h.openings (record { number = to.number; mode = mode }) now.named

-- what is touched is nothing to what is held
touched-alike : (number other : ℕ) (mode : Mode) (to : Numbered) (h : Meant) → number ≡ other
    → HoldsAlike (with_opening number mode (directory_known h)) (with_opening other mode (touching_root to h))
touched-alike number other mode to h same = record {
  objects = refl;
  homes = refl;
  directory = refl;
  openings = ap (λ (n : ℕ). h.openings ++ record { number = n; mode = mode } ∷ []) (sym same);
  created = refl;
  assigned = refl;
  asked = refl;
}

module _ (before after : Outside Space) (m : Machine) (now : area.Heap) (name password mode : ℕ) where
  abbrev pub ToldOf : area.Heap → Result Admitted SwizzleFault → Type 0
  ToldOf was r = (names : List Reference) (writing : List Source) (h : Meant) (n p k : List ℕ) → h.asked ≡ true
      → HoldsRun was before names writing m.databases.directory h → DenotesIn was before names (Some name) (Text n) → DenotesIn was before names (Some password) (Text p)
      → DenotesIn was before names (Some mode) (Text k) → Opening was now before after names writing m.databases.directory h n p k r

  abbrev pub Follow : Machine → Stepped → Type 0
  Follow new r = Follows before after (AreEntry m.objects before name password mode) open_with knowing m new r

  module _ (was : area.Heap) (same : was ≡ m.objects) where
    told-now : (r : Result Admitted SwizzleFault) → ToldOf was r → ToldOf m.objects r
    told-now r told = subst (λ (here : area.Heap). ToldOf here r) same told

    module _ (names : List Reference) (c : Config) (a : Entry) (h : HeldBy before names m (knowing c)) (d : AreEntry m.objects before name password mode names a)
        (alone : IsAlone c.store.held) where
      abbrev W : List Source
      W = m.databases.writing.items

      abbrev h0 : Meant
      h0 = c.store.held

      told-knowing : (r : Result Admitted SwizzleFault) → ToldOf was r
          → Opening m.objects now before after names W m.databases.directory (directory_known h0) a.of.name a.of.password a.mode r
      told-knowing r told =
          told-now r told names W (directory_known h0) a.of.name a.of.password a.mode refl (run_in h.run) d.are.name_is d.are.password_is d.mode_is

      place : (number : ℕ) (for_writing : Bool) → IsNumber (length h0.directory) number → HasPlaceFor W number for_writing
      place number for_writing is writes away =
          place-for m.objects before names W m.databases.directory (directory_known h0) (run_in h.run) refl (length h0.directory) number
          (few m.objects before names W m.databases.directory (directory_known h0) (run_in h.run) refl) alone.named is
          (λ l. not_in number (numbers_of W) away (subst (IsIn number) (sym (run_in h.run).sources.numbers) l))

      opened-does : (number root : ℕ) (for_writing : Bool) (new : Machine) (r : Stepped) → ToldOf was (Ok (admitted.Root number root for_writing))
          → GivesRoot before after (HasPlaceFor W number for_writing) (and_opened W number for_writing) m.databases.directory root (record m { objects = now }) new r
          → DoesCall before after m.objects.size (open_with a c) r new
      opened-does number root for_writing new r told g =
          let t = told-knowing (Ok (admitted.Root number root for_writing)) told in
          let to = t.0 in
          let as_mode = t.1 in
          let is = t.3 in
          let l = opens a h0 alone.replies to as_mode t.2 in
          let answer = opened_with a h0 in
          let opened = and_opened W number for_writing in
          let touched =
          alike-run now after names (now_writing W number as_mode) m.databases.directory (with_opening number as_mode (directory_known h0))
          (with_opening to.number as_mode (touching_root to h0)) (touched-alike number to.number as_mode to h0 is.number_is) is.holds.run in
          let run = subst (λ (k : Meant). HoldsRun now after names (now_writing W number as_mode) m.databases.directory k) (sym l.held) touched in
          let store : HoldsStore now after names opened m.databases.asked m.databases.directory answer.held =
          holding (ap (λ (k : Meant). k.asked) l.held ∙ asked_in h.run)
          (subst (λ (ws : List Source). HoldsRun now after names ws m.databases.directory answer.held) (sym (same-writing W number as_mode for_writing is.mode_is)) run) in
          g.does m.objects names names (knowing c) answer h is.holds.carries store
          (subst (λ (v : Value). DenotesIn now after names (Some root) v) (sym l.value) is.denotes)
          (place number for_writing (subst (IsNumber (length h0.directory)) (sym is.number_is) (number-admitted a h0 to as_mode alone t.2)))

      fault-does : (fault : DirFault) (new : Machine) (r : Stepped) → ToldOf was (Ok (admitted.Fault fault)) → LeavesOutside before after → now.size ≡ m.objects.size
          → GivesRefusal after (codes "open.database") (fault_of fault) (record m { objects = now }) new r
          → DoesCall before after m.objects.size (open_with a c) r new
      fault-does fault new r told left size g =
          let w = words_of m in
          let t = told-knowing (Ok (admitted.Fault fault)) told in
          let held = held-now m.objects now before after names names w (knowing c) (on_held (directory_known h0) c.store) W m.databases.asked m.databases.directory w.places
          t.1.carries h (holding (asked_in h.run) t.1.run) refl refl in
          call-behind before after after m.objects.size now.size (open_with a c) r new left size
          (g.does names (knowing c) (opened_with a h0) held
          (refusal-of (codes "open.database") (fault_of fault) (directory_known h0) (opened_with a h0) (open-refused a h0 (fault_of fault) t.0)))

    -- What the call does with what opening answered.

    pub opened-follows : (number root : ℕ) (for_writing : Bool) (new : Machine) (r : Stepped) → ToldOf was (Ok (admitted.Root number root for_writing))
        → now.size ≡ was.size
        → GivesRoot before after (HasPlaceFor m.databases.writing.items number for_writing) (and_opened m.databases.writing.items number for_writing) m.databases.directory root
        (record m { objects = now }) new r → Follow new r
    opened-follows number root for_writing new r told size g = record {
      sound = g.sound;
      names = so-unless r (NamesObjects new) g.names;
      size = so-unless r (new.objects.size ≡ m.objects.size) (g.size ∙ (size ∙ ap (λ (here : area.Heap). here.size) same));
      does = λ names c a h d alone. opened-does names c a h d alone number root for_writing new r told g;
    }

    pub fault-follows : (fault : DirFault) (new : Machine) (r : Stepped) → ToldOf was (Ok (admitted.Fault fault)) → LeavesOutside before after → now.size ≡ was.size
        → GivesRefusal after (codes "open.database") (fault_of fault) (record m { objects = now }) new r → Follow new r
    fault-follows fault new r told left size g =
        let stays = size ∙ ap (λ (here : area.Heap). here.size) same in
        record {
          sound = g.sound;
          names = g.names;
          size = unless-broken r (λ e. e ∙ stays) g.size;
          does = λ names c a h d alone. fault-does names c a h d alone fault new r told left stays g;
        }

    pub off-follows : (fault : SwizzleFault) → IsSound m → ToldOf was (Err fault) → Follow (record m { objects = now; fault = fault }) Breaks
    off-follows fault sound told = record {
      sound = sound-broken m now m.databases fault sound;
      names = tt;
      size = tt;
      does = λ names c a h d alone. inl (broken-off m.objects now before after (open_with a c) fault (told-knowing names c a h d alone (Err fault) told));
    }
