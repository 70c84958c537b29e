-- The error record of a refused commit is pushed, or there was no room for one of its objects.
use Rattle.std.proofs.Common.{◌≡◌, ◌+◌, ◌<◌, List, length, inl, sym, ap, ◌∙◌, subst, arith}
use Rattle.std.specs.Prelude.{codes}
use Rattle.machine_core.specs.ps_outside.Outside.{Outside}
use Rattle.machine_core.specs.obj_layout.Stored.{Space}
use Rattle.machine_core.specs.obj_layout.Storing.{Access}
use Rattle.machine_core.specs.swizzle.Heap as area
use Rattle.machine_core.specs.swizzle.Heap.{IsHeld, top_of}
use Rattle.machine_core.specs.swizzle.declared.fault.SwizzleFault.{SwizzleFault}
use Rattle.machine_core.specs.ps_heap.Calls.{Answer, commit_call, error_record, refused}
use Rattle.machine_core.specs.ps_heap.Commit.{NotWritable}
use Rattle.machine_core.specs.ps_heap.Databases as meant
use Rattle.machine_core.specs.ps_heap.Events.{Event}
use Rattle.machine_core.specs.ps_heap.Weights.{whole_weight}
use Rattle.machine_core.specs.ps_stepping.Config.{Config, frame_words}
use Rattle.machine_core.specs.ps_stepping.Steps.{Goes}
use Rattle.machine_core.proofs.of_swizzle.ReadingLaws.{leaves-none}
use Rattle.machine_core.specs.declared.machine.Machine.{Machine}
use Rattle.machine_core.specs.declared.stepped.Stepped.TheVariants.{Quiet, Breaks}
use Rattle.machine_core.specs.Holding.{IsSound}
use Rattle.error_records.specs.Records.{LacksRoom}
use Rattle.machine_databases.specs.Refusing.{GivesRefusal}
use Rattle.machine_databases.specs.inside.Giving.{given}
use Rattle.machine_databases.proofs.Meant.{Leaves, refusal-of}
use Rattle.machine_databases.proofs.Naming.{sound-broken}
use Rattle.machine_databases.proofs.Pushing.{gives-goes}
use Rattle.machine_databases.proofs.Refusing.{part-counted}
use Rattle.machine_commits.specs.Committing.{FailsBy, LeavesBy}
use Rattle.machine_commits.specs.inside.Answering.{RefusesCommit}
use Rattle.machine_commits.proofs.Committing.{commit-is}

-- a step that goes on has its events
events-same : (a b : List Event) (c d : Config) → Goes a c ≡ Goes b d → a ≡ b
events-same a b c d e = cc

module _ (outside : Outside Space) (m : Machine) where
  -- The record was pushed.
  pub refusal-given : (new : Machine) → length m.refs.own < frame_words → GivesRefusal outside (codes "commit") meant.NotWritable m new Quiet
      → RefusesCommit outside m new Quiet
  refusal-given new room g = record {
    sound = g.sound;
    names = g.names;
    size = g.size;
    does = λ names c h e.
        let d = c.store.held in
        let a = commit_call d in
        let is = commit-is d NotWritable e in
        let leaves : Leaves (refused (codes "commit") meant.NotWritable d).value (refused (codes "commit") meant.NotWritable d).held a =
        record { value = ap (λ (x : Answer). x.value) is; held = ap (λ (x : Answer). x.held) is } in
        let it = g.does names c a h (refusal-of (codes "commit") meant.NotWritable d a leaves) in
        let none = events-same it.0 a.events it.1 (given a c) (sym it.2 ∙ gives-goes m outside names c room h a) ∙ ap (λ (x : Answer). x.events) is in
        (it.0, it.1, it.2, it.3, subst (LeavesBy outside outside) (sym none) (leaves-none outside));
  }

  -- There was no room.
  pub refusal-lacks : (was now : area.Heap) (why : SwizzleFault) → was ≡ m.objects → IsSound m → length m.refs.own < frame_words
      → LacksRoom was now (codes "commit") meant.NotWritable why → RefusesCommit outside m (record m { objects = now; fault = why }) Breaks
  refusal-lacks was now why same sound room lent =
      let lacks = subst (λ (here : area.Heap). LacksRoom here now (codes "commit") meant.NotWritable why) same lent in
      record {
        sound = sound-broken m now m.databases why sound;
        names = tt;
        size = tt;
        does = λ names c h e.
            let d = c.store.held in
            let a = commit_call d in
            let counted : a.held.counted ≡ d.counted + whole_weight d.weigh (error_record (codes "commit") meant.NotWritable) =
            ap (λ (x : Answer). x.held.counted) (commit-is d NotWritable e) in
            let low = part-counted d.weigh (codes "commit") meant.NotWritable lacks.before lacks.weight lacks.part in
            inl (
              (
                top_of now,
                lacks.wanted,
                lacks.fault_is,
                lacks.full,
                record {
                  events = a.events;
                  next = given a c;
                  step_is = gives-goes m outside names c room h a;
                  counted = omega (arith, low, lacks.words, counted);
                },
              ),
              leaves-none outside,
            );
      }

-- want of room in the area may always be
pub lacks-fails : {L : Type 0} (access : Access L) (before after : Outside Space) (was now : area.Heap) (why : SwizzleFault)
    → LacksRoom was now (codes "commit") meant.NotWritable why → FailsBy before after access why
lacks-fails access before after was now why lacks = subst (FailsBy before after access) (sym lacks.fault_is) tt
