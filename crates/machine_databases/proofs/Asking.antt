-- The directory is known at the first call on databases.
use Rattle.std.proofs.Common.{◌≡◌, ℕ, true, false, [], List, Option, None, refl, sym, ◌∙◌, subst}
use Rattle.std.specs.Prelude.{IfSome, Result, Ok, Err}
use Rattle.machine_core.specs.ps_outside.Outside.{Outside}
use Rattle.machine_core.specs.obj_layout.Stored.{Space}
use Rattle.machine_core.specs.obj_layout.declared.reference.Reference.{Reference}
use Rattle.machine_core.specs.swizzle.Heap as area
use Rattle.machine_core.specs.swizzle.Heap.{Stands as AllStand}
use Rattle.machine_core.specs.swizzle.declared.fault.SwizzleFault.{SwizzleFault}
use Rattle.machine_core.specs.ps_heap.Calls.{directory_known}
use Rattle.machine_core.specs.ps_heap.Held.{Held as Meant}
use Rattle.machine_core.specs.ps_meaning.Meaning.{on_held}
use Rattle.machine_core.specs.ps_stepping.Config.{Config}
use Rattle.machine_core.specs.joint_held.Held.{HoldsRun}
use Rattle.machine_core.specs.joint_held.db_dir.Directories.{IsShaped}
use Rattle.machine_core.specs.joint_held.reach_commit.commit_walk.declared.homes.Source.{Source}
use Rattle.machine_core.specs.declared.machine.Machine.{Machine}
use Rattle.machine_core.specs.Holding.{HeldBy, asked_in, holding, run_in, words_of}
use Rattle.machine_core.specs.Naming.{NamesObjects}
use Rattle.machine_core.proofs.Naming.{names-last}
use Rattle.joint_databases.specs.Calls.{Knows as Told}
use Rattle.machine_databases.specs.Asking.{Asks, Knows}
use Rattle.machine_databases.proofs.Holding.{held-now, no-writing, run-unasked}
use Rattle.machine_databases.proofs.Naming.{names-with, sound-with, with-directory}

module _ (before after : Outside Space) (m : Machine) (now : area.Heap) (unasked : m.databases.asked ≡ false) where
  abbrev TellsOf : area.Heap → Result (Option ℕ) SwizzleFault → Type 0
  TellsOf was r = (names : List Reference) (h : Meant) → h.asked ≡ false → HoldsRun was before names [] None h → Told was now before after names h r

  abbrev Tells : Result (Option ℕ) SwizzleFault → Type 0
  Tells r = TellsOf m.objects r

  -- what the run knows, where it holds nothing of databases before
  told-of : (r : Result (Option ℕ) SwizzleFault) → Tells r → (names : List Reference) (c : Config) → HeldBy before names m c
      → Told m.objects now before after names c.store.held r
  told-of r told names c h =
      let is = asked_in h.run ∙ unasked in
      told names c.store.held is (run-unasked m.objects before names m.databases.writing.items m.databases.directory c.store.held is (run_in h.run))

  none-open : (names : List Reference) (c : Config) → HeldBy before names m c → m.databases.writing.items ≡ []
  none-open names c h =
      no-writing m.objects before names m.databases.writing.items m.databases.directory c.store.held (asked_in h.run ∙ unasked) (run_in h.run)

  abbrev knowing_at : Option ℕ → Machine
  knowing_at at = record m { objects = now; databases = record m.databases { asked = true; directory = at } }

  knows-at : (at : Option ℕ) → Tells (Ok at) → (names : List Reference) (c : Config) → HeldBy before names m c → Knows before after m (knowing_at at) names c (Ok tt)
  knows-at at told names c h =
      let k = told-of (Ok at) told names c h in
      let w = words_of m in
      let run = subst (λ (ws : List Source). HoldsRun now after names ws at (directory_known c.store.held)) (sym (none-open names c h)) k.run in (
        held-now m.objects now before after names names w c (on_held (directory_known c.store.held) c.store) w.writing true at w.places k.carries h (holding refl run) refl refl,
        k.carries,
      )

  known : (at : Option ℕ) → NamesObjects m → IfSome at (IsShaped now) → AllStand m.objects now → now.size ≡ m.objects.size → Tells (Ok at)
      → Asks before after m (knowing_at at) (Ok tt)
  known at n shaped stand size told =
      let w = words_of m in
      let later = names-last m.objects now stand w m.writing.item n in
      record {
        sound = sound-with m now (record m.databases { asked = true; directory = at });
        rest = refl;
        names = names-with (record m { objects = now }) (record m.databases { asked = true; directory = at }) later
            (with-directory now w.writing w.directory at w.places later.databases shaped);
        stands = stand;
        size = size;
        asked = refl;
        knows = knows-at at told;
      }

  failed : (fault : SwizzleFault) → Tells (Err fault) → Asks before after m (record m { objects = now }) (Err fault)
  failed fault told = record {
    sound = sound-with m now m.databases;
    rest = refl;
    names = tt;
    stands = tt;
    size = tt;
    asked = tt;
    knows = told-of (Err fault) told;
  }

  -- the area was lent for it
  module _ (was : area.Heap) (same : was ≡ m.objects) where
    pub asks-known : (at : Option ℕ) → NamesObjects m → IfSome at (IsShaped now) → AllStand was now → now.size ≡ was.size → TellsOf was (Ok at)
        → Asks before after m (knowing_at at) (Ok tt)
    asks-known at n shaped stand size told =
        known at n shaped (subst (λ (here : area.Heap). AllStand here now) same stand) (subst (λ (here : area.Heap). now.size ≡ here.size) same size)
        (subst (λ (here : area.Heap). TellsOf here (Ok at)) same told)

    pub asks-failed : (fault : SwizzleFault) → TellsOf was (Err fault) → Asks before after m (record m { objects = now }) (Err fault)
    asks-failed fault told = failed fault (subst (λ (here : area.Heap). TellsOf here (Err fault)) same told)
