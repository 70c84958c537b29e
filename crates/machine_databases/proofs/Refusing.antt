-- The error record of a refused call is pushed, or there was no room for one of its objects.
use Rattle.std.proofs.Common.{◌≡◌, ℕ, ◌<◌, ◌≤◌, List, length, Option, Some, inr, refl, sym, ap, ◌∙◌, subst, arith}
use Rattle.std.specs.Prelude.{Result, Ok}
use Rattle.machine_core.specs.ps_outside.Outside.{Outside}
use Rattle.machine_core.specs.obj_layout.Stored.{Space}
use Rattle.machine_core.specs.obj_layout.declared.reference.Reference.{Reference}
use Rattle.machine_core.specs.swizzle.Heap as area
use Rattle.machine_core.specs.swizzle.Heap.{top_of}
use Rattle.machine_core.specs.swizzle.Joint.{name_at}
use Rattle.machine_core.specs.swizzle.Touch.{Keeps}
use Rattle.machine_core.specs.joint_ops.heap_meaning.Paired.{and_name}
use Rattle.machine_core.specs.swizzle.declared.fault.SwizzleFault.{SwizzleFault}
use Rattle.machine_core.specs.ps_heap.Calls.{Answer, error_record, refused}
use Rattle.machine_core.specs.ps_heap.Databases.{Fault}
use Rattle.machine_core.specs.ps_heap.Held.{Held as Meant}
use Rattle.machine_core.specs.ps_heap.Values.{Value, Routine}
use Rattle.machine_core.specs.ps_heap.Weights.{whole_weight}
use Rattle.machine_core.specs.ps_meaning.Meaning.{on_held}
use Rattle.machine_core.specs.ps_stepping.Config.{Config, frame_words}
use Rattle.machine_core.specs.joint_ops.World.{DenotesIn}
use Rattle.machine_core.specs.joint_held.Held.{HoldsRun}
use Rattle.machine_core.specs.joint_held.reach_commit.commit_walk.declared.homes.Source.{Source}
use Rattle.joint_held.proofs.ValueLaws.{alike-run}
use Rattle.machine_core.specs.declared.machine.Machine.{Machine}
use Rattle.machine_core.specs.declared.stepped.Stepped.TheVariants.{Quiet, Breaks}
use Rattle.machine_core.specs.Holding.{HeldBy, HoldsStore, IsSound, asked_in, holding, run_in, words_of}
use Rattle.machine_core.specs.Naming.{NamesObjects}
use Rattle.machine_core.proofs.of_heap_ops.ClassLaws.{stands-kept}
use Rattle.machine_core.proofs.Naming.{names-last}
use Rattle.error_records.specs.Records.{IsPart, its_class, its_context, its_fault, its_explain, itself, LacksRoom, Refuses}
use Rattle.machine_databases.specs.Refusing.{GivesRefusal, IsRefusal}
use Rattle.machine_databases.specs.inside.Giving.{Pushes, given}
use Rattle.machine_databases.proofs.Holding.{held-now}
use Rattle.machine_databases.proofs.Naming.{sound-broken}
use Rattle.machine_databases.proofs.Pushing.{gives-goes}

-- the bytes of each object of a record are among those that are counted for it
pub part-counted : (weigh : Routine → ℕ) (context : List ℕ) (fault : Fault) (before weight : ℕ) → IsPart context fault before weight
    → weight ≤ whole_weight weigh (error_record context fault)
part-counted weigh context fault _ _ its_class = omega arith
part-counted weigh context fault _ _ its_context = omega arith
part-counted weigh context fault _ _ its_fault = omega arith
part-counted weigh context fault _ _ its_explain = omega arith
part-counted weigh context fault _ _ itself = omega arith

-- What a machine's words name stays in the area where that keeps its objects.
pub names-after : (m : Machine) (now : area.Heap) → Keeps m.objects now → NamesObjects m → NamesObjects (record m { objects = now })
names-after m now keeps n = names-last m.objects now (stands-kept m.objects now keeps) (words_of m) m.writing.item n

module _ (outside : Outside Space) (context : List ℕ) (fault : Fault) (m : Machine) (now : area.Heap) (sound : IsSound m) where
  abbrev pub ToldOf : area.Heap → Result ℕ SwizzleFault → Type 0
  ToldOf was r = (names : List Reference) (writing : List Source) (directory : Option ℕ) (h : Meant) → HoldsRun was outside names writing directory h
      → Refuses was now outside names writing directory h context fault r

  -- what the answer leaves is held
  refusal-store : (names : List Reference) (c : Config) (a : Answer) (at : ℕ) (more : List Reference) → HeldBy outside names m c → IsRefusal context fault c.store.held a
      → HoldsRun now outside more m.databases.writing.items m.databases.directory (refused context fault c.store.held).held
      → HoldsStore now outside more m.databases.writing.items m.databases.asked m.databases.directory a.held
  refusal-store names c a at more h is run =
      holding (is.held.asked ∙ asked_in h.run)
      (alike-run now outside more m.databases.writing.items m.databases.directory (refused context fault c.store.held).held a.held is.held run)

  record-given : (at : ℕ) (new : Machine) → Keeps m.objects now → ToldOf m.objects (Ok at) → Pushes outside at (record m { objects = now }) new
      → GivesRefusal outside context fault m new Quiet
  record-given at new keeps told p = record {
    sound = p.sound;
    names = p.names;
    size = ap (λ (here : area.Heap). here.size) p.objects ∙ keeps.size;
    does = λ names c a h is.
        let w = words_of m in
        let r = told names w.writing w.directory c.store.held (run_in h.run) in
        let more = and_name names (name_at now at) in
        let store = refusal-store names c a at more h is r.run in
        let held = held-now m.objects now outside outside names more w c (on_held a.held c.store) w.writing w.asked w.directory w.places r.carries h store refl refl in
        let denotes = subst (λ (v : Value). DenotesIn now outside more (Some at) v) (sym is.value) r.denotes in
        let pushed = p.pushes more c a held denotes in
        (a.events, given a c, pushed.0, record { names = more; held = pushed.1 });
  }

  record-lacks : (why : SwizzleFault) → length m.refs.own < frame_words → LacksRoom m.objects now context fault why
      → GivesRefusal outside context fault m (record m { objects = now; fault = why }) Breaks
  record-lacks why room lacks = record {
    sound = sound-broken m now m.databases why sound;
    names = tt;
    size = tt;
    does = λ names c a h is.
        let low = part-counted c.store.held.weigh context fault lacks.before lacks.weight lacks.part in
        inr (
          top_of now,
          lacks.wanted,
          lacks.fault_is,
          lacks.full,
          record {
            events = a.events;
            next = given a c;
            step_is = gives-goes m outside names c room h a;
            counted = omega (arith, low, lacks.words, is.counted);
          },
        );
  }

  -- the area was lent for it
  module _ (was : area.Heap) (same : was ≡ m.objects) where
    pub names-lent : Keeps was now → NamesObjects m → NamesObjects (record m { objects = now })
    names-lent keeps n = names-after m now (subst (λ (here : area.Heap). Keeps here now) same keeps) n

    pub gives-record : (at : ℕ) (new : Machine) → Keeps was now → ToldOf was (Ok at) → Pushes outside at (record m { objects = now }) new
        → GivesRefusal outside context fault m new Quiet
    gives-record at new keeps told p =
        record-given at new (subst (λ (here : area.Heap). Keeps here now) same keeps) (subst (λ (here : area.Heap). ToldOf here (Ok at)) same told) p

    pub breaks-record : (why : SwizzleFault) → length m.refs.own < frame_words → LacksRoom was now context fault why
        → GivesRefusal outside context fault m (record m { objects = now; fault = why }) Breaks
    breaks-record why room lacks = record-lacks why room (subst (λ (here : area.Heap). LacksRoom here now context fault why) same lacks)
