-- What a commit pushes: nil, or an error record.
use Rattle.std.specs.Prelude.{◌≡◌, List}
use Rattle.machine_core.specs.ps_outside.Outside.{Outside}
use Rattle.machine_core.specs.obj_layout.Stored.{Space}
use Rattle.machine_core.specs.obj_layout.declared.reference.Reference.{Reference}
use Rattle.machine_core.specs.ps_heap.Calls.{Answer}
use Rattle.machine_core.specs.ps_heap.Commit.{decision, NotWritable}
use Rattle.machine_core.specs.ps_heap.Values.{Nil}
use Rattle.machine_core.specs.ps_stepping.Config.{Config}
use Rattle.machine_core.specs.ps_stepping.Steps.{Goes}
use Rattle.machine_core.specs.ps_stepping.Library.{answering, gives_ref}
use Rattle.machine_core.specs.declared.machine.Machine.{Machine}
use Rattle.machine_core.specs.declared.stepped.Stepped.{Stepped}
use Rattle.machine_core.specs.Holding.{HeldBy, IsSound}
use Rattle.machine_core.specs.Naming.{NamesObjects}
use Rattle.machine_core.specs.Stepped.{UnlessBroken}
use Rattle.machine_databases.specs.inside.Giving.{given}
use Rattle.machine_commits.specs.Committing.{DoesCommit}

module _ (outside : Outside Space) (old new : Machine) where
  -- Nil was pushed. Where the machine held what an answer leaves that is nil, the answer is given.
  pub record PushesNil : Type 0 where
    pub sound : IsSound new
    pub names : NamesObjects new
    pub objects : new.objects ≡ old.objects
    pub pushes : (names : List Reference) (c : Config) (a : Answer) → a.value ≡ Nil → HeldBy outside names old (answering a c)
        → (gives_ref a c ≡ Goes a.events (given a c)) × HeldBy outside names new (given a c)

  -- From each configuration that the machine holds whose commit is refused, the commit is what was answered.
  pub record RefusesCommit (answer : Stepped) : Type 0 where
    pub sound : IsSound new
    pub names : UnlessBroken answer (NamesObjects new)
    pub size : UnlessBroken answer (new.objects.size ≡ old.objects.size)
    pub does : (names : List Reference) (c : Config) → HeldBy outside names old c → decision c.store.held ≡ NotWritable
        → DoesCommit outside outside old.objects.size c answer new
