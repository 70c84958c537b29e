-- Nil is pushed, where there is room; where there is none, the run is stuck.
use Rattle.std.proofs.Common.{◌≡◌, ℕ, ◌+◌, ◌<◌, ◌≤◌, Bool, List, [], ◌∷◌, ◌++◌, length, None, refl, sym, ap, subst, arith, if◌then◌else◌}
use Rattle.std.proofs.lemmas.Bool.{le-ltb}
use Rattle.machine_core.specs.ps_outside.Outside.{Outside}
use Rattle.machine_core.specs.obj_layout.Stored.{Space}
use Rattle.machine_core.specs.obj_layout.declared.reference.Reference.{Reference}
use Rattle.machine_core.specs.frame_stack.Frames.{Frames}
use Rattle.machine_core.specs.ps_heap.Calls.{commit_call}
use Rattle.machine_core.specs.ps_heap.Values.{Value}
use Rattle.machine_core.specs.ps_stepping.Config.{Config, frame_in, frame_words}
use Rattle.machine_core.specs.ps_stepping.Steps.{Goes, Stuck}
use Rattle.machine_core.specs.ps_stepping.Library.{answering}
use Rattle.machine_core.specs.joint_ops.World.{DenotesIn}
use Rattle.machine_core.specs.declared.machine.Machine.{Machine}
use Rattle.machine_core.specs.declared.stepped.Stepped.TheVariants.{Damaged}
use Rattle.machine_core.specs.Holding.{HeldBy, IsSound, words_of}
use Rattle.machine_core.specs.Naming.{NamesObjects}
use Rattle.machine_core.proofs.of_swizzle.ReadingLaws.{leaves-none}
use Rattle.machine_core.proofs.Naming.{names-pushed}
use Rattle.machine_core.proofs.Popping.{refs_taken}
use Rattle.machine_core.proofs.Words.{nil-denoted}
use Rattle.machine_databases.specs.inside.Giving.{given}
use Rattle.machine_databases.proofs.Pushing.{gives-goes, ref-pushed}
use Rattle.machine_commits.specs.Committing.{TakesCommit, commits}
use Rattle.machine_commits.specs.inside.Answering.{PushesNil}

pub nil-pushed : (outside : Outside Space) (m : Machine) (refs : Frames ℕ) → IsSound (record m { refs = refs }) → NamesObjects m → length m.refs.own < frame_words
    → refs.below ≡ m.refs.below → refs.own ≡ m.refs.own ++ 0 ∷ [] → PushesNil outside m (record m { refs = refs })
nil-pushed outside m refs sound n room below own = record {
  sound = sound;
  names = names-pushed m.objects (words_of m) m.writing.item refs 0 n below own tt;
  objects = refl;
  pushes = λ names c a is h.
      let denoted = subst (λ (v : Value). DenotesIn m.objects outside names None v) (sym is) (nil-denoted m.objects outside names) in
      (gives-goes m outside names (answering a c) room h a, ref-pushed m outside names (answering a c) room h refs 0 a.value below own denoted);
}

commits-stuck : (outside : Outside Space) (names : List Reference) (m : Machine) (c : Config) → HeldBy outside names m c → frame_words ≤ length m.refs.own → commits c ≡ Stuck
commits-stuck outside names m c h full =
    let a = commit_call c.store.held in
    let taken = refs_taken m outside c names h in
    ap (λ (b : Bool). if b then Goes a.events (given a c) else Stuck) (le-ltb ((frame_in c.unit).refs + length c.refs) frame_words (omega (arith, full, taken)))

pub stuck-takes : (outside : Outside Space) (m : Machine) → IsSound m → NamesObjects m → frame_words ≤ length m.refs.own → TakesCommit outside outside m m Damaged
stuck-takes outside m sound n full = record {
  sound = sound;
  names = n;
  size = refl;
  does = λ c st. (commits-stuck outside st.names m c st.held full, leaves-none outside);
}
