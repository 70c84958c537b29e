-- What is seen in a space is seen beside the vault that holds it, of an area without objects.
use Rattle.std.proofs.Common.{inr, ◌≡◌, ℕ, zero, suc, ◌+◌, ◌<◌, ◌≤◌, List, [], ◌∷◌, length, refl, sym, ap, ◌∙◌, subst, arith, length-drop}
use Rattle.std.specs.Prelude.{take, drop, slice_index}
use Rattle.std.specs.List.{AllByRecursion}
use Rattle.std.proofs.lemmas.List.{length-take-le, get_or-take, get_or-drop}
use Rattle.swizzle.specs.obj_layout.ps_outside.Outside.{Outside}
use Rattle.swizzle.specs.obj_layout.declared.header.Header.{Header}
use Rattle.swizzle.specs.obj_layout.Objects as layout
use Rattle.swizzle.specs.obj_layout.Objects.{Contents, Counts, counts, counts_of, kind_of, IsObject}
use Rattle.swizzle.specs.obj_layout.Stored.{Space, HasObject, without_file}
use Rattle.swizzle.proofs.of_obj_layout.StoredLaws.{HasObject-object}
use Rattle.swizzle.specs.Objects.{HasRoomForBytes}
use Rattle.swizzle.specs.Heap.{fresh_heap}
use Rattle.swizzle.specs.Changes.{Within}
use Rattle.swizzle.specs.Fetched.{IsFarWord, IsFar}
use Rattle.swizzle.proofs.FetchedLaws.{header-spelled}
use Rattle.joint_ops.specs.World.{IsStored, seen}
use Rattle.space_meaning.specs.Space as volume
use Rattle.space_meaning.specs.Space.{IsStoredReference, SeenIn}

-- each object has a number word for its home
home-in : (contents : Contents) → 1 ≤ (counts_of contents).nums
home-in (layout.text bytes) = omega arith
home-in (layout.structure references numbers) = omega arith
home-in (layout.vector_of_references elements) = omega arith
home-in (layout.vector_of_numbers elements) = omega arith
home-in (layout.scope references numbers) = omega arith
home-in layout.closure = omega arith
home-in (layout.code constants bytes) = omega arith
home-in layout.table = omega arith
home-in layout.node = omega arith
home-in (layout.directory databases) = omega arith

-- and its bytes lie in its number words
room-in : (contents : Contents) → HasRoomForBytes (kind_of contents) (counts_of contents).nums (counts_of contents).bytes
room-in (layout.text bytes) = omega arith
room-in (layout.structure references numbers) = omega arith
room-in (layout.vector_of_references elements) = omega arith
room-in (layout.vector_of_numbers elements) = omega arith
room-in (layout.scope references numbers) = omega arith
room-in layout.closure = omega arith
room-in (layout.code constants bytes) = omega arith
room-in layout.table = omega arith
room-in layout.node = omega arith
room-in (layout.directory databases) = omega arith

far-at : (ws : List ℕ) (k : ℕ) → AllByRecursion IsStoredReference ws → k < length ws → IsFarWord (slice_index ws k)
far-at [] k f below = absurd (omega arith)
far-at (w ∷ ws) zero f below = f.0
far-at (w ∷ ws) (suc k) f below = far-at ws k f.1 (omega arith)

-- An object of a volume may come into the area.
pub may-come : (words : List ℕ) → (o : IsObject words) → volume.IsStored words → IsFar words o.header
may-come words o s =
    let header = header-spelled words o.header o.fields (sym o.spelled) in
    let refs = subst (λ (k : Header). AllByRecursion IsStoredReference (take k.refs (drop 4 words))) header s.refs in
    record {
      spelled = sym o.spelled;
      fields = o.fields;
      lengths = o.lengths;
      long = o.long;
      home = subst (λ n. 1 ≤ n) (sym (ap (λ (c : Counts). c.nums) o.holds.counted)) (home-in o.contents);
      bytes = subst (λ k. HasRoomForBytes k o.header.nums o.header.bytes) (sym o.holds.kind)
          (subst (λ (c : Counts). HasRoomForBytes (kind_of o.contents) c.nums c.bytes) (sym o.holds.counted) (room-in o.contents));
      refs = λ slot below.
          let long : length (take o.header.refs (drop 4 words)) ≡ o.header.refs = length-take-le o.header.refs (drop 4 words) (omega (arith, length-drop 4 words, o.long)) in
          let read : slice_index (take o.header.refs (drop 4 words)) slot ≡ slice_index words (4 + slot) =
          get_or-take o.header.refs (drop 4 words) slot 0 (omega arith) ∙ get_or-drop 4 words slot 0 in
          subst IsFarWord read (far-at (take o.header.refs (drop 4 words)) slot refs (omega (arith, long, below)));
    }

module _ (outside : Outside Space) (space : Space) (is : outside.contents space) where
  stored-there : (pid : ℕ) (words : List ℕ) → HasObject (without_file space) pid words → volume.IsStored words → IsStored outside pid words
  stored-there pid words h s =
      let o = HasObject-object (without_file space) pid words h in
      let header = header-spelled words o.header o.fields (sym o.spelled) in
      record {
        there = record { space = space; is = is; has = record { objects = h.objects; cut = h.cut; among = h.among } };
        header = o.header;
        far = may-come words o s;
        clean = record {
          flags = ap (λ (k : Header). k.flags) (sym header) ∙ s.flags;
          pid = ap (λ (k : Header). k.pid) (sym header) ∙ s.pid;
          chain = ap (λ (k : Header). k.chain) (sym header) ∙ s.chain;
        };
      }

  pub space-seen : (size : ℕ) → Within (SeenIn (without_file space)) (seen (fresh_heap size) outside)
  space-seen size n it s = inr (record { pid = s.pid; words = s.words; name_is = s.name_is; there = stored-there s.pid s.words s.there s.stored; away = refl; shown_is = s.shown_is })
