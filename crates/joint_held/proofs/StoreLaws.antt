-- What a vault holds is one store, and the directory that it has before the first call on databases is that of the run.
use Rattle.std.proofs.Common.{◌≡◌, ℕ, ◌+◌, ◌<◌, ◌≤◌, ◌^◌, List, [], ◌∷◌, length, arith, sym, ◌∙◌, subst, Option}
use Rattle.joint_ops.specs.ps_outside.Outside.{Outside, SameContents}
use Rattle.joint_ops.specs.obj_layout.Stored.{Space, IsSpace, Holds}
use Rattle.joint_ops.proofs.of_heap_meaning.of_obj_layout.StoredLaws.{HasObject-within}
use Rattle.joint_ops.specs.obj_layout.declared.kind.Kind.TheVariants as kind
use Rattle.joint_ops.specs.obj_layout.declared.reference.Reference.{Reference}
use Rattle.joint_ops.specs.obj_layout.declared.reference.Reference.TheVariants.{Pid}
use Rattle.joint_ops.specs.swizzle.Heap.{Heap}
use Rattle.joint_ops.specs.swizzle.Joint.{Shown}
use Rattle.joint_ops.specs.World.{seen}
use Rattle.joint_ops.specs.heap_meaning.Standing.{Seen, Pairing}
use Rattle.joint_ops.specs.heap_meaning.Paired.{paired}
use Rattle.joint_ops.specs.ps_heap.Databases.{Directory}
use Rattle.joint_ops.specs.ps_heap.Held.{Held}
use Rattle.db_dir.specs.Directories.{AreNamed, IsDirectoryUnder}
use Rattle.joint_held.specs.Held.{IsOneStore, IsUnasked}
use Rattle.joint_held.proofs.ImageLaws.{all-words}

-- a vault's laws say so of what it holds
pub one-store : (outside : Outside Space) (used directory : ℕ) → ((a b : Space) → outside.contents a → outside.contents b → a ≡ b)
    → ((space : Space) → outside.contents space → IsSpace used directory space) → IsOneStore outside
one-store outside used directory one space = record {
  one = one;
  wide = λ s is. all-words s.words (space s is).wide;
  small = λ s is. let k = space s is in omega (arith, k.long, k.small);
}

-- it is so still where nothing else is held
pub same-store : (before after : Outside Space) → SameContents before after → IsOneStore before → IsOneStore after
same-store before after c s = record {
  one = λ a b p q. s.one a b (c.no_other a p) (c.no_other b q);
  wide = λ space is. s.wide space (c.no_other space is);
  small = λ space is. s.small space (c.no_other space is);
}

-- the PIDs of such a store are small
pub store-low : (outside : Outside Space) (pid : ℕ) (words : List ℕ) → IsOneStore outside → Holds outside pid words → pid < 2 ^ 30
store-low outside pid words s h =
    let within = HasObject-within h.space pid words h.has in
    cases (length words) (length h.space.words) within.high (s.small h.space h.is)
  where
    cases : (n used : ℕ) → pid + n ≤ used → used < 2 ^ 30 → pid < 2 ^ 30
    cases n used high small = omega (arith, high, small)

-- The directory under a PID is that of the databases still where it is seen, and what it names stands for them.
pub under-stays : (old new : Seen) (pair more : Pairing) (pid : ℕ) (ds : Directory) → ((n : Reference) (it : Shown) → it.kind ≡ kind.Directory → old n it → new n it)
    → ((ns : List Reference) → AreNamed old pair ns ds → AreNamed new more ns ds) → IsDirectoryUnder old pair pid ds → IsDirectoryUnder new more pid ds
under-stays old new pair more pid [] see name u = u
under-stays old new pair more pid (d ∷ ds) see name u = record {
  it = u.it;
  there = see (Pid pid) u.it u.is.kind_is u.there;
  is = record {
    kind_is = u.is.kind_is;
    home = u.is.home;
    some = u.is.some;
    few = u.is.few;
    fit = u.is.fit;
    names = name u.it.refs u.is.names;
  };
}

-- What a run that asked for no database has of them stays, where the vault holds nothing else and the run has the same of them.
pub unasked-stays : (old new : Heap) (before after : Outside Space) (names more : List Reference) (h : Held) (directory : Option ℕ)
    → ((space : Space) → after.contents space → before.contents space) → ((n : Reference) (it : Shown) → it.kind ≡ kind.Directory → seen old before n it → seen new after n it)
    → ((ns : List Reference) → AreNamed (seen old before) (paired names) ns h.directory → AreNamed (seen new after) (paired more) ns h.directory)
    → IsUnasked old before names h directory → IsUnasked new after more h directory
unasked-stays old new before after names more h directory no_other see name u = record {
  openings = u.openings;
  created = u.created;
  none = u.none;
  named = λ space is. under-stays (seen old before) (seen new after) (paired names) (paired more) space.directory h.directory see name (u.named space (no_other space is));
}

-- the same of a run with the same directory, openings and databases that were made
pub unasked-as : (here : Heap) (outside : Outside Space) (names : List Reference) (h k : Held) (directory : Option ℕ) → k.directory ≡ h.directory → k.openings ≡ h.openings
    → k.created ≡ h.created → IsUnasked here outside names h directory → IsUnasked here outside names k directory
unasked-as here outside names h k directory d o c u = record {
  openings = o ∙ u.openings;
  created = c ∙ u.created;
  none = u.none;
  named = λ space is. subst (IsDirectoryUnder (seen here outside) (paired names) space.directory) (sym d) (u.named space is);
}
