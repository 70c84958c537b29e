-- The directory of a space that stands for a heap, as databases are called, of an area without objects.
use Rattle.std.proofs.Common.{◌≡◌, ℕ, ◌≤◌, List, [], ◌∷◌, length, refl, sym, ap, ◌∙◌, subst, arith}
use Rattle.std.specs.List.{AllByRecursion}
use Rattle.swizzle.specs.obj_layout.declared.kind.Kind.TheVariants as kind
use Rattle.swizzle.specs.obj_layout.declared.header.Header.{Header}
use Rattle.swizzle.specs.obj_layout.declared.reference.Reference.{Reference}
use Rattle.swizzle.specs.obj_layout.declared.reference.Reference.TheVariants.{Pid}
use Rattle.swizzle.specs.obj_layout.Objects as layout
use Rattle.swizzle.specs.obj_layout.Objects.{Contents, Counts, counts_of, kind_of}
use Rattle.swizzle.specs.obj_layout.Stored.{Space}
use Rattle.swizzle.proofs.of_obj_layout.StoredLaws.{HasObject-object}
use Rattle.swizzle.specs.Objects.{object_in}
use Rattle.swizzle.specs.Joint.{Shown, shown_words}
use Rattle.swizzle.proofs.FetchedLaws.{far_header}
use Rattle.swizzle.specs.Changes.{Within}
use Rattle.heap_meaning.specs.heap_places.Shapes.{IsText}
use Rattle.heap_meaning.specs.Standing.{Seen, Pairing}
use Rattle.heap_fit.specs.ps_heap.ps_base.Limits.{most_databases}
use Rattle.heap_fit.specs.ps_heap.Objects.{Heap}
use Rattle.heap_fit.specs.ps_heap.Databases.{Database, Directory}
use Rattle.heap_fit.specs.Heaps as fit
use Rattle.joint_held.specs.db_dir.Directories.{AreNamed, IsDirectoryUnder, IsFitDatabase}
use Rattle.joint_held.proofs.ImageLaws.{far-counts}
use Rattle.space_meaning.specs.Space.{SeenIn}
use Rattle.space_meaning.specs.Stands as space
use Rattle.space_meaning.specs.Stands.{IsDirectoryOf}
use Rattle.joint_begun.proofs.SeenLaws.{may-come}

-- a directory has one number word
one-number : (contents : Contents) → kind_of contents ≡ kind.Directory → (counts_of contents).nums ≡ 1
one-number (layout.text bytes) e = absurd (cc)
one-number (layout.structure references numbers) e = absurd (cc)
one-number (layout.vector_of_references elements) e = absurd (cc)
one-number (layout.vector_of_numbers elements) e = absurd (cc)
one-number (layout.scope references numbers) e = absurd (cc)
one-number layout.closure e = absurd (cc)
one-number (layout.code constants bytes) e = absurd (cc)
one-number layout.table e = absurd (cc)
one-number layout.node e = absurd (cc)
one-number (layout.directory databases) e = refl

-- so has what is seen of one
home-seen : (there : Space) (n : Reference) (it : Shown) → SeenIn there n it → it.kind ≡ kind.Directory → length it.nums ≡ 1
unfolding object_in
home-seen there n it s e =
    let o = HasObject-object there s.pid s.words s.there in
    let far = may-come s.words o s.stored in
    let header = far_header s.words o.header far in
    let of : kind_of o.contents ≡ kind.Directory = sym o.holds.kind ∙ (sym (ap (λ (h : Header). h.kind) header) ∙ (sym (ap (λ (i : Shown). i.kind) s.shown_is) ∙ e)) in
    ap (λ (i : Shown). length i.nums) s.shown_is ∙ ((far-counts s.words o.header far).1 ∙ (ap (λ (c : Counts). c.nums) o.holds.counted ∙ one-number o.contents of))

fit-databases : (heap : Heap) (ds : Directory) → AllByRecursion (fit.IsFitDatabase heap) ds → AllByRecursion IsFitDatabase ds
fit-databases heap [] f = tt
fit-databases heap (d ∷ ds) f = (record { some = f.0.named; short = f.0.name; password = f.0.password }, fit-databases heap ds f.1)

module _ (there : Space) (now : Seen) (pair more : Pairing) (grows : Within (SeenIn there) now) (on_row : (pid id : ℕ) → pair (Pid pid) id → more (Pid pid) id) where
  text-now : (n : Reference) (bytes : List ℕ) → IsText (SeenIn there) n bytes → IsText now n bytes
  text-now n bytes t = record { it = t.it; there = grows n t.it t.there; kind = t.kind; bytes_are = t.bytes_are }

  -- what is seen in the space has a PID for its name
  pair-now : (n : Reference) (id : ℕ) (it : Shown) → SeenIn there n it → pair n id → more n id
  pair-now n id it s p = subst (λ (m : Reference). more m id) (sym s.name_is) (on_row s.pid id (subst (λ (m : Reference). pair m id) s.name_is p))

  named-begun : (refs : List Reference) (ds : Directory) → space.AreNamed (SeenIn there) pair refs ds → AreNamed now more refs ds
  named-begun (name ∷ password ∷ root ∷ refs) (d ∷ ds) a = (
    text-now name d.name a.0,
    text-now password d.password a.1,
    record {
      paired = pair-now root d.root a.2.1.it a.2.1.there a.2.0;
      kind = record { it = a.2.1.it; there = grows root a.2.1.it a.2.1.there; kind_is = a.2.1.kind_is };
    },
    named-begun refs ds a.3,
  )
  named-begun [] [] a = tt
  named-begun [] (d ∷ ds) a = absurd a
  named-begun (name ∷ []) ds a = absurd a
  named-begun (name ∷ password ∷ []) ds a = absurd a
  named-begun (name ∷ password ∷ root ∷ refs) [] a = absurd a

  pub directory-begun : (pid : ℕ) (heap : Heap) (ds : Directory) → length ds ≤ most_databases → AllByRecursion (fit.IsFitDatabase heap) ds → IsDirectoryOf (SeenIn there) pair pid ds
      → IsDirectoryUnder now more pid ds
  directory-begun pid heap [] few f k = k
  directory-begun pid heap (d ∷ ds) few f k = record {
    it = k.it;
    there = grows (Pid pid) k.it k.there;
    is = record {
      kind_is = k.kind_is;
      home = home-seen there (Pid pid) k.it k.there k.kind_is;
      some = omega arith;
      few = few;
      fit = fit-databases heap (d ∷ ds) f;
      names = named-begun k.it.refs (d ∷ ds) k.names;
    };
  }
