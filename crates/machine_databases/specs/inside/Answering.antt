-- What the texts that a call on databases popped denote, and what follows them.
use Rattle.std.specs.Prelude.{◌≡◌, ℕ, List, Some}
use Rattle.machine_core.specs.ps_outside.Outside.{Outside}
use Rattle.machine_core.specs.obj_layout.Stored.{Space}
use Rattle.machine_core.specs.obj_layout.declared.reference.Reference.{Reference}
use Rattle.machine_core.specs.obj_layout.declared.kind.Kind.TheVariants as kind
use Rattle.machine_core.specs.swizzle.Heap as area
use Rattle.machine_core.specs.swizzle.Heap.{IsHeld, header_at}
use Rattle.machine_core.specs.ps_heap.Values.{Text}
use Rattle.machine_core.specs.ps_heap.Held.{Held}
use Rattle.machine_core.specs.ps_heap.Calls.{Answer, asks_to_create, asks_to_open, create_answer, open_answer}
use Rattle.machine_core.specs.ps_heap.Library.{then_answered}
use Rattle.machine_core.specs.ps_stepping.Config.{Config}
use Rattle.machine_core.specs.ps_stepping.Steps.{Step}
use Rattle.machine_core.specs.ps_stepping.Library.{gives_ref}
use Rattle.machine_core.specs.joint_ops.World.{DenotesIn}
use Rattle.machine_core.specs.declared.machine.Machine.{Machine}
use Rattle.machine_core.specs.declared.stepped.Stepped.{Stepped}
use Rattle.machine_core.specs.Holding.{HeldBy, IsSound}
use Rattle.machine_core.specs.Naming.{NamesObjects}
use Rattle.machine_core.specs.Stepped.{UnlessBroken}
use Rattle.database_steps.specs.Databases.{IsAlone}
use Rattle.machine_databases.specs.Calls.{DoesCall}

-- a text lies there
abbrev pub IsText : area.Heap → ℕ → Type 0
IsText here at = IsHeld here at × ((header_at here at).kind ≡ kind.Text)

-- a name and a password
pub record Credentials : Type 0 where
  pub name : List ℕ
  pub password : List ℕ

-- and a mode
pub record Entry : Type 0 where
  pub of : Credentials
  pub mode : List ℕ

module _ (here : area.Heap) (outside : Outside Space) where
  pub record AreCredentials (name password : ℕ) (names : List Reference) (of : Credentials) : Type 0 where
    pub name_is : DenotesIn here outside names (Some name) (Text of.name)
    pub password_is : DenotesIn here outside names (Some password) (Text of.password)

  pub record AreEntry (name password mode : ℕ) (names : List Reference) (entry : Entry) : Type 0 where
    pub are : AreCredentials name password names entry.of
    pub mode_is : DenotesIn here outside names (Some mode) (Text entry.mode)

-- what the calls answer, with what they ask before
abbrev pub created_with : Credentials → Held → Answer
created_with of h = then_answered (asks_to_create of.name h) (create_answer of.name of.password)

abbrev pub opened_with : Entry → Held → Answer
opened_with entry h = then_answered (asks_to_open entry.of.name entry.mode h) (open_answer entry.of.name entry.of.password entry.mode)

-- what follows the texts
abbrev pub create_with : Credentials → Config → Step
create_with of c = gives_ref (created_with of c.store.held) c

abbrev pub open_with : Entry → Config → Step
open_with entry c = gives_ref (opened_with entry c.store.held) c

-- From each configuration of a run that is alone, where the machine holds what was made of it, and for all texts that it denotes, what follows them is what
-- was answered.
module _ (before after : Outside Space) {A : Type 0} (denotes : List Reference → A → Type 0) (of : A → Config → Step) where
  pub record Follows (made : Config → Config) (old new : Machine) (answer : Stepped) : Type 0 where
    pub sound : IsSound new
    pub names : UnlessBroken answer (NamesObjects new)
    pub size : UnlessBroken answer (new.objects.size ≡ old.objects.size)
    pub does : (names : List Reference) (c : Config) (a : A) → HeldBy before names old (made c) → denotes names a → IsAlone c.store.held
        → DoesCall before after old.objects.size (of a c) answer new

abbrev pub the_same : Config → Config
the_same c = c
