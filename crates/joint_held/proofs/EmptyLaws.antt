-- A run that holds nothing yet.
use Rattle.std.proofs.Common.{Option, ◌≡◌, ℕ, length, List, [], refl, sym, ap, ◌∙◌, subst, arith, Some, None}
use Rattle.joint_ops.specs.ps_outside.Outside.{Outside}
use Rattle.joint_ops.specs.obj_layout.Stored.{Space}
use Rattle.joint_ops.specs.obj_layout.declared.reference.Reference.{Reference}
use Rattle.joint_ops.specs.swizzle.Heap.{IsHeld, fresh_heap}
use Rattle.joint_ops.specs.World.{seen}
use Rattle.joint_ops.specs.heap_meaning.Paired.{paired, StandsRow}
use Rattle.joint_ops.specs.ps_heap.Objects.{Heap}
use Rattle.joint_ops.specs.ps_heap.Databases.{Directory, Database, database_at, database_from, Opening, open_for_writing, each_once}
use Rattle.joint_ops.specs.ps_heap.Held.{Held, Place}
use Rattle.reaching.specs.Reaching.{IsIn}
use Rattle.reach_commit.specs.commit_images.Stored.{IsCut}
use Rattle.db_dir.specs.Directories.{IsDirectoryUnder}
use Rattle.joint_held.specs.Held.{HasPlace, IsOneStore, HoldsRun}
use Rattle.joint_held.specs.Keeping.{IsEmpty, word_0}

no-name : (n : Reference) (id : ℕ) → paired [] n id → ⊥
no-name n id p = let bad : None ≡ Some n = p in absurd (cc)

no-object : (size x : ℕ) → IsHeld (fresh_heap size) x → ⊥
no-object size x held = let bad : None ≡ Some held.object = held.is in absurd (cc)

none-open : (openings : List Opening) → openings ≡ [] → open_for_writing openings ≡ []
unfolding each_once
none-open openings e = ap open_for_writing e

no-database : (number : ℕ) (d : Database) → database_at [] number ≡ Some d → ⊥
unfolding database_at database_from
no-database number d e = let bad : None ≡ Some d = e in absurd (cc)

empty-row : (outside : Outside Space) (size : ℕ) → StandsRow (seen (fresh_heap size) outside) [] []
empty-row outside size = record {
  stands = record {
    both = λ n id p. absurd (no-name n id p);
    one_number = λ n i j p q. absurd (no-name n i p);
    one_name = λ n m id p q. absurd (no-name n id p);
    tables = record {
      nodes = λ id. [];
      each = λ n id table p is. absurd (no-name n id p);
      are_nodes = λ id n among. absurd among;
      apart = λ i j n among other. absurd among;
    };
  };
  long = refl;
}

pub empty-run : (outside : Outside Space) (size : ℕ) (h : Held) → IsOneStore outside → outside.contents word_0 → IsEmpty h
    → HoldsRun (fresh_heap size) outside [] [] None h
empty-run outside size h store is e = record {
  store = store;
  world = record { row = subst (λ (of : Heap). StandsRow (seen (fresh_heap size) outside) of []) (sym e.objects) (empty-row outside size) };
  homes = λ n id p. absurd (no-name n id p);
  homed = omega (arith, ap (λ (homes : List (Option ℕ)). length homes) e.homes);
  assigned = record {
    noted = λ id k. absurd (subst (λ (places : List Place). HasPlace places id) e.assigned k);
    placed = λ x id p n. absurd (no-object size x p.held);
    known = λ x n home. absurd n.listed;
  };
  trees = λ n id table it ks t p is keyed there root stands. absurd (no-name n id p);
  current = record {
    told = record {
      content = word_0;
      is = is;
      cut = λ space k. subst IsCut (store.one word_0 space is k) (record { objects = []; cut = (omega arith, refl) });
      there = λ x held low. absurd (no-object size x held);
      whole = λ x held. absurd (no-object size x held);
    };
    stored = λ x held low away of. absurd (no-object size x held);
    noted = λ x l. absurd l;
  };
  sources = record {
    numbers = sym (none-open h.openings e.openings);
    each = λ place lt. absurd (omega (arith, lt));
    made = λ number l. absurd (subst (IsIn number) e.created l);
    roots = λ place at lt r. absurd (omega (arith, lt));
    others = λ number d k away. absurd (no-database number d (ap (λ (ds : Directory). database_at ds number) (sym e.directory) ∙ k));
  };
  asked = λ a. e.directory;
  unasked = λ a. record {
    openings = e.openings;
    created = e.created;
    none = refl;
    named = λ space k.
        subst (IsDirectoryUnder (seen (fresh_heap size) outside) (paired []) space.directory) (sym e.directory) (ap (λ (s : Space). s.directory) (store.one space word_0 k is));
  };
}
