-- Objects are pushed, and roots of databases.
use Rattle.std.proofs.Common.{◌≡◌, ℕ, ◌+◌, ◌<◌, Bool, true, false, List, [], ◌∷◌, ◌++◌, length, Option, Some, None, refl, sym, ap, ◌∙◌, subst, arith, nat_lt, if◌then◌else◌}
use Rattle.std.specs.Prelude.{◌||◌, nat_eq, vec_capacity}
use Rattle.std.specs.List.{list_any}
use Rattle.std.proofs.lemmas.Bool.{lt-ltb}
use Rattle.machine_core.specs.ps_outside.Outside.{Outside}
use Rattle.machine_core.specs.obj_layout.Stored.{Space}
use Rattle.machine_core.specs.obj_layout.declared.reference.Reference.{Reference}
use Rattle.machine_core.specs.swizzle.Heap as area
use Rattle.machine_core.specs.swizzle.Heap.{IsHeap, IsHeld}
use Rattle.machine_core.specs.frame_stack.Frames.{Frames}
use Rattle.machine_core.specs.ps_heap.Calls.{Answer}
use Rattle.machine_core.specs.ps_meaning.Meaning.{on_held}
use Rattle.machine_core.specs.ps_stepping.Config.{Config, frame_in, frame_words}
use Rattle.machine_core.specs.ps_stepping.Steps.{Goes, Stuck, on, push_ref}
use Rattle.machine_core.specs.ps_stepping.Library.{answering, gives_ref}
use Rattle.machine_core.specs.joint_ops.World.{DenotesIn}
use Rattle.machine_core.specs.joint_held.reach_commit.commit_walk.reaching.Reaching.{is_in}
use Rattle.machine_core.specs.joint_held.reach_commit.commit_walk.declared.homes.Source.{Source}
use Rattle.machine_core.specs.joint_held.Opening.{and_source}
use Rattle.machine_core.specs.declared.databases.Databases.{Databases}
use Rattle.machine_core.specs.declared.machine.Machine.{Machine}
use Rattle.machine_core.specs.declared.stepped.Stepped.TheVariants.{Quiet, Damaged}
use Rattle.machine_core.specs.Holding.{HeldBy, HoldsStore, IsSound, object_in, words_of}
use Rattle.machine_core.specs.Naming.{NamesObjects}
use Rattle.machine_core.proofs.Naming.{names-pushed, word-named}
use Rattle.machine_core.proofs.Popping.{pushes_ref, refs_taken}
use Rattle.machine_core.proofs.Words.{named-back}
use Rattle.machine_databases.specs.inside.Giving.{AreOpen, GivesRoot, OpensAs, OpensOne, Pushes, and_opened, given, numbers_of}
use Rattle.machine_databases.proofs.Holding.{held-now}

-- one of these sources has the number
pub any-in : (number : ℕ) (writing : List Source) → list_any (λ (s : Source). nat_eq number s.number) writing ≡ is_in number (numbers_of writing)
unfolding is_in
any-in number [] = refl
any-in number (s ∷ ss) = of (nat_eq number s.number) (any-in number ss)
  where
    of : (b : Bool) → list_any (λ (t : Source). nat_eq number t.number) ss ≡ is_in number (numbers_of ss)
        → (b || list_any (λ (t : Source). nat_eq number t.number) ss) ≡ (if b then true else is_in number (numbers_of ss))
    of true rest = refl
    of false rest = rest

-- A database that is opened for writing.
module _ (number : ℕ) (b : Bool) (writes : b ≡ true) where
  abbrev Any : List Source → Bool
  Any writing = list_any (λ (s : Source). nat_eq number s.number) writing

  by-any : (writing : List Source) (found : Bool) → Any writing ≡ found
      → and_opened writing number b ≡ (if found then writing else and_source writing number None)
  by-any writing found is =
      ap (λ (w : Bool). and_opened writing number w) writes
      ∙ ap (λ (f : Bool). if f then writing else and_source writing number None) (sym (any-in number writing) ∙ is)

  pub opened-again : (old : Databases) → Any old.writing.items ≡ true → AreOpen old old (and_opened old.writing.items number b)
  opened-again old is = record { writing_are = sym (by-any old.writing.items true is); room = refl; asked = refl; directory = refl }

  pub opened-first : (old new : Databases) (result : Bool) → Any old.writing.items ≡ false → OpensOne old new number None result → OpensAs old new number b result
  opened-first old new true is o =
      record { writing_are = o.writing_are ∙ sym (by-any old.writing.items false is); room = o.room; asked = o.asked; directory = o.directory }
  opened-first old new false is o = (o.0, writes, sym (any-in number old.writing.items) ∙ is, o.1)

module _ (m : Machine) (outside : Outside Space) (names : List Reference) (c : Config) (room : length m.refs.own < frame_words) where
  is-below : (h : HeldBy outside names m c) → nat_lt ((frame_in c.unit).refs + length c.refs) frame_words ≡ true
  is-below h = lt-ltb ((frame_in c.unit).refs + length c.refs) frame_words (omega (arith, room, refs_taken m outside c names h))

  -- where there is room, an answer is given
  pub gives-goes : HeldBy outside names m c → (a : Answer) → gives_ref a c ≡ Goes a.events (given a c)
  gives-goes h a = ap (λ (b : Bool). if b then Goes a.events (given a c) else Stuck) (is-below h)

  pub ref-pushed : (h : HeldBy outside names m c) (refs : Frames ℕ) (at : ℕ) (v : _) → refs.below ≡ m.refs.below → refs.own ≡ m.refs.own ++ at ∷ []
      → DenotesIn m.objects outside names (object_in at) v → HeldBy outside names (record m { refs = refs }) (record c { refs = v ∷ c.refs })
  ref-pushed h refs at v below own d =
      let p = pushes_ref m outside c names h refs at v below own room d in
      let goes : push_ref v c ≡ on (record c { refs = v ∷ c.refs }) = ap (λ (b : Bool). if b then on (record c { refs = v ∷ c.refs }) else Stuck) (is-below h) in
      let same : Goes [] p.0 ≡ Goes [] (record c { refs = v ∷ c.refs }) = sym p.1 ∙ goes in
      let is : p.0 ≡ record c { refs = v ∷ c.refs } = cc in
      subst (λ (d : Config). HeldBy outside names (record m { refs = refs }) d) is p.2

pub object-pushed : (outside : Outside Space) (m : Machine) (refs : Frames ℕ) (at : ℕ) → IsHeap m.objects → IsSound (record m { refs = refs }) → NamesObjects m
    → length m.refs.own < frame_words → IsHeld m.objects at → refs.below ≡ m.refs.below → refs.own ≡ m.refs.own ++ at ∷ [] → Pushes outside at m (record m { refs = refs })
object-pushed outside m refs at heap sound n room held below own = record {
  sound = sound;
  names = names-pushed m.objects (words_of m) m.writing.item refs at n below own (word-named m.objects (Some at) held);
  objects = refl;
  pushes = λ names c a h d.
      let denoted = subst (λ to. DenotesIn m.objects outside names to a.value) (sym (named-back m.objects outside names (Some at) a.value heap d)) d in
      (gives-goes m outside names (answering a c) room h a, ref-pushed m outside names (answering a c) room h refs at a.value below own denoted);
}

module _ (before after : Outside Space) (place : Type 0) (writing : List Source) (directory : Option ℕ) (root : ℕ) (m : Machine) (d : Databases) where
  -- a root was pushed beside databases that are others
  pub root-given : (new : Machine) → d.writing.items ≡ writing → d.asked ≡ m.databases.asked → d.directory ≡ directory
      → Pushes after root (record m { databases = d }) new → GivesRoot before after place writing directory root m new Quiet
  root-given new opened asked at p = record {
    sound = p.sound;
    names = p.names;
    size = ap (λ (here : area.Heap). here.size) p.objects;
    goes = λ e. absurd (cc);
    does = λ here names more c a h k store denotes is.
        let w = words_of m in
        let one = subst (λ (ws : List Source). HoldsStore m.objects after more ws m.databases.asked directory a.held) (sym opened) store in
        let two = subst (λ (b : Bool). HoldsStore m.objects after more d.writing.items b directory a.held) (sym asked) one in
        let all = subst (λ (to : Option ℕ). HoldsStore m.objects after more d.writing.items d.asked to a.held) (sym at) two in
        let held = held-now here m.objects before after names more w c (on_held a.held c.store) d.writing.items d.asked d.directory (vec_capacity d.writing) k h all refl refl in
        let pushed = p.pushes more c a held denotes in
        (a.events, given a c, pushed.0, record { names = more; held = pushed.1 });
  }

  -- there was no place
  pub root-refused : IsSound m → NamesObjects m → (place → ⊥) → d ≡ m.databases → GivesRoot before after place writing directory root m (record m { databases = d }) Damaged
  root-refused sound n none same =
      subst (λ (x : Databases). GivesRoot before after place writing directory root m (record m { databases = x }) Damaged) (sym same) (record {
        sound = sound;
        names = n;
        size = refl;
        goes = λ e. absurd (cc);
        does = λ here names more c a h k store denotes is. absurd (none is);
      })
