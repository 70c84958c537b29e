-- A call on databases, told of what stood before it.
use Rattle.std.proofs.Common.{◌≡◌, ℕ, List, inl, inr, ◌∙◌, subst}
use Rattle.std.specs.Prelude.{Ok, Err}
use Rattle.machine_core.specs.ps_outside.Outside.{Outside}
use Rattle.machine_core.specs.obj_layout.Stored.{Space}
use Rattle.machine_core.specs.obj_layout.declared.reference.Reference.{Reference}
use Rattle.machine_core.specs.swizzle.Heap as area
use Rattle.machine_core.specs.swizzle.Heap.{Stands as AllStand}
use Rattle.machine_core.specs.swizzle.Reading.{LeavesOutside}
use Rattle.machine_core.specs.swizzle.declared.fault.SwizzleFault.{SwizzleFault}
use Rattle.machine_core.specs.ps_stepping.Config.{Config}
use Rattle.machine_core.specs.ps_stepping.Steps.{Step}
use Rattle.machine_core.specs.joint_ops.World.{Carries}
use Rattle.machine_core.specs.declared.machine.Machine.{Machine}
use Rattle.machine_core.specs.declared.stepped.Stepped.{Stepped}
use Rattle.machine_core.specs.declared.stepped.Stepped.TheVariants.{Quiet, Turns, Writes, Halts, Breaks, Damaged}
use Rattle.machine_core.specs.Full.{BreaksBy}
use Rattle.machine_core.specs.Holding.{IsSound, words_of}
use Rattle.machine_core.specs.Naming.{NamesObjects}
use Rattle.machine_core.proofs.Naming.{names-last}
use Rattle.machine_core.specs.Stepped.{UnlessBroken}
use Rattle.machine_core.proofs.Carrying.{breaks-behind, broken-off, unless-broken}
use Rattle.machine_databases.specs.Asking.{Asks, knowing}
use Rattle.machine_databases.specs.Calls.{DoesCall, LacksRoom}
use Rattle.machine_databases.proofs.Naming.{sound-broken}
use Rattle.machine_databases.specs.inside.Answering.{AreCredentials, AreEntry, Credentials, Entry, Follows, the_same}

-- after an operation that left the outside and kept the size
pub call-behind : (before mid after : Outside Space) (a b : ℕ) (s : Step) (r : Stepped) (m : Machine) → LeavesOutside before mid → b ≡ a
    → DoesCall mid after b s r m → DoesCall before after a s r m
call-behind before mid after a b s Quiet m left same d = d
call-behind before mid after a b s Turns m left same d = absurd d
call-behind before mid after a b s Writes m left same d = absurd d
call-behind before mid after a b s Halts m left same d = absurd d
call-behind before mid after a b s Breaks m left same (inl by) =
    inl (breaks-behind before mid after a s m.fault left (subst (λ (n : ℕ). BreaksBy mid after n s m.fault) same by))
call-behind before mid after a b s Breaks m left same (inr lacks) = inr (subst (λ (n : ℕ). LacksRoom n s m.fault) same lacks)
call-behind before mid after a b s Damaged m left same d = d

-- what is so is so unless a step broke off
pub so-unless : (r : Stepped) (P : Type 0) → P → UnlessBroken r P
so-unless Quiet P p = p
so-unless Turns P p = p
so-unless Writes P p = p
so-unless Halts P p = p
so-unless Breaks P p = tt
so-unless Damaged P p = p

-- What the texts denote they denote still.
pub credentials-carried : (here now : area.Heap) (before after : Outside Space) (names more : List Reference) (name password : ℕ) (of : Credentials)
    → Carries here now before after names more → AreCredentials here before name password names of → AreCredentials now after name password more of
credentials-carried here now before after names more name password of k d =
    record { name_is = k.values _ _ d.name_is; password_is = k.values _ _ d.password_is }

pub entry-carried : (here now : area.Heap) (before after : Outside Space) (names more : List Reference) (name password mode : ℕ) (entry : Entry)
    → Carries here now before after names more → AreEntry here before name password mode names entry → AreEntry now after name password mode more entry
entry-carried here now before after names more name password mode entry k d = record {
  are = credentials-carried here now before after names more name password entry.of k d.are;
  mode_is = k.values _ _ d.mode_is;
}

module _ (before mid after : Outside Space) {A : Type 0} (denotes later : List Reference → A → Type 0) (of : A → Config → Step) (old m : Machine) where
  -- The call goes on once it asked.
  pub follows-asked : (new : Machine) (r : Stepped) → Asks before mid old m (Ok tt) → LeavesOutside before mid
      → ((names : List Reference) (a : A) → Carries old.objects m.objects before mid names names → denotes names a → later names a)
      → Follows mid after later of knowing m new r → Follows before after denotes of the_same old new r
  follows-asked new r asks left carry f = record {
    sound = f.sound;
    names = f.names;
    size = unless-broken r (λ e. e ∙ asks.size) f.size;
    does = λ names c a h d alone.
        let k = asks.knows names c h in
        call-behind before mid after old.objects.size m.objects.size (of a c) r new left asks.size (f.does names c a k.0 (carry names a k.1 d) alone);
  }

  -- or it broke off
  pub follows-broken : (fault : SwizzleFault) → IsSound old → Asks before after old m (Err fault)
      → Follows before after denotes of the_same old (record m { fault = fault }) Breaks
  follows-broken fault sound asks = record {
    sound = sound-broken m m.objects m.databases fault (asks.sound sound);
    names = tt;
    size = tt;
    does = λ names c a h d alone. inl (broken-off old.objects m.objects before after (of a c) fault (asks.knows names c h));
  }

-- What a machine's words name stays in the area where all objects of that stay.
pub names-lent : (m : Machine) (was now : area.Heap) → was ≡ m.objects → AllStand was now → NamesObjects m → NamesObjects (record m { objects = now })
names-lent m was now same stand n = names-last m.objects now (subst (λ (here : area.Heap). AllStand here now) same stand) (words_of m) m.writing.item n
