-- Flags are cleared: nothing of an object's image changes.
use Rattle.std.proofs.Common.{inl, inr, ◌≡◌, ℕ, ◌+◌, List, [], ◌∷◌, map, refl, sym, ap, ◌∙◌, subst, arith, Some}
use Rattle.std.specs.Prelude.{◌==◌, if◌then◌else◌}
use Rattle.std.proofs.lemmas.Bool.{cases_eq}
use Rattle.swizzle.specs.obj_layout.declared.kind.Kind.{Kind}
use Rattle.swizzle.specs.obj_layout.declared.reference.Reference.{Reference}
use Rattle.swizzle.specs.obj_layout.declared.reference.Reference.TheVariants.{Pid, Local}
use Rattle.swizzle.specs.Objects.{Object, object_words, size_of, size_of_all, find_from}
use Rattle.swizzle.specs.Heap.{Heap, object_at, header_at, with_no_marks, with_none_reached, without_mark, without_reach}
use Rattle.swizzle.specs.Joint.{Joint, name_at, name_of}
use Rattle.swizzle.specs.Changes.{Same}
use Rattle.swizzle.proofs.ObjectLaws.{here, elsewhere}
use Rattle.swizzle.proofs.NameLaws.{names_kept}
use Rattle.swizzle.proofs.TouchLaws.{same-then}
use Rattle.swizzle.proofs.MarkLaws.{IsBare, bare, bare-reach, object-less, held-less, joint-cleared, joint-left}
use Rattle.commit_images.specs.Images.{image_of}
use Rattle.reach_commit.proofs.GivenLaws.{IsBut, Remade, remade-then}

-- Objects that are no longer and no shorter lie where they lay.
found-less : (less : Object → Object) → ((o : Object) → size_of (less o) ≡ size_of o) → (at : ℕ) (os : List Object) (i : ℕ) (o : Object) → find_from at (map less os) i ≡ Some o
    → (p : Object) × (find_from at os i ≡ Some p)
found-less less size at [] i o e = absurd (cc)
found-less less size at (q ∷ os) i o e =
    elim (cases_eq i at) [
      | inl same ↦ (q, here i at (Some q) (find_from (at + size_of q) os i) same)
      | inr apart ↦
          let e2 : find_from (at + size_of (less q)) (map less os) i ≡ Some o = sym (elsewhere i at (Some (less q)) (find_from (at + size_of (less q)) (map less os) i) apart) ∙ e in
          let rest = found-less less size (at + size_of q) os i o (ap (λ n. find_from (at + n) (map less os) i) (sym (size q)) ∙ e2) in
          (rest.0, elsewhere i at (Some q) (find_from (at + size_of q) os i) apart ∙ rest.1)
    ]

size-less : (less : Object → Object) → ((o : Object) → size_of (less o) ≡ size_of o) → (os : List Object) → size_of_all (map less os) ≡ size_of_all os
size-less less size [] = refl
size-less less size (o ∷ os) = let rest = size-less less size os in let one = size o in omega (arith, rest, one)

bare-size : (o new : Object) → IsBare o new → size_of new ≡ size_of o
bare-size o new b = omega (arith, b.like.refs, b.like.nums)

bare-but : (o new : Object) → IsBare o new → IsBut o new
bare-but o new b = record { kind = b.like.kind; refs_count = b.like.refs; nums_count = b.like.nums; bytes = b.like.bytes; refs = b.refs_are; nums = b.nums_are }

-- Objects, names and images stay; and so do PIDs.
pub record Clears (old new : Heap) : Type 1 where
  pub remade : Remade old new
  pub pids : (y : ℕ) → (header_at new y).pid ≡ (header_at old y).pid
  pub seen_same : (holds : ℕ → List ℕ → Type 0) → Same (Joint old holds) (Joint new holds)

pub clears-then : (a b c : Heap) → Clears a b → Clears b c → Clears a c
clears-then a b c s t = record {
  remade = remade-then a b c s.remade t.remade;
  pids = λ y. t.pids y ∙ s.pids y;
  seen_same = λ holds. same-then (Joint a holds) (Joint b holds) (Joint c holds) (s.seen_same holds) (t.seen_same holds);
}

pub clears-marks : (heap : Heap) → Clears heap (with_no_marks heap)
clears-marks heap =
    let there : (y : ℕ) → object_at (with_no_marks heap) y ≡ without_mark (object_at heap y) = λ y. object-less without_mark bare refl heap [] heap.reached y in
    let size : (o : Object) → size_of (without_mark o) ≡ size_of o = λ o. bare-size o (without_mark o) (bare o) in
    record {
      remade = record {
        size = refl;
        top = ap (λ n. 1 + n) (size-less without_mark size heap.objects);
        held = λ y h. held-less without_mark bare refl heap [] heap.reached y h;
        back = λ y h. let p = found-less without_mark size 1 heap.objects y h.object h.is in record { object = p.0; is = p.1 };
        objects = λ y. subst (IsBut (object_at heap y)) (sym (there y)) (bare-but (object_at heap y) (without_mark (object_at heap y)) (bare (object_at heap y)));
      };
      pids = λ y. ap (λ o. o.header.pid) (there y) ∙ (bare (object_at heap y)).like.pid;
      seen_same = joint-cleared heap;
    }

pub clears-reached : (heap : Heap) → Clears heap (with_none_reached heap)
clears-reached heap =
    let there : (y : ℕ) → object_at (with_none_reached heap) y ≡ without_reach (object_at heap y) = λ y. object-less without_reach bare-reach refl heap heap.assigned [] y in
    let size : (o : Object) → size_of (without_reach o) ≡ size_of o = λ o. bare-size o (without_reach o) (bare-reach o) in
    record {
      remade = record {
        size = refl;
        top = ap (λ n. 1 + n) (size-less without_reach size heap.objects);
        held = λ y h. held-less without_reach bare-reach refl heap heap.assigned [] y h;
        back = λ y h. let p = found-less without_reach size 1 heap.objects y h.object h.is in record { object = p.0; is = p.1 };
        objects = λ y. subst (IsBut (object_at heap y)) (sym (there y)) (bare-but (object_at heap y) (without_reach (object_at heap y)) (bare-reach (object_at heap y)));
      };
      pids = λ y. ap (λ o. o.header.pid) (there y) ∙ (bare-reach (object_at heap y)).like.pid;
      seen_same = joint-left heap;
    }

pub same-names : (old new : Heap) → ((y : ℕ) → (header_at new y).pid ≡ (header_at old y).pid) → (y : ℕ) → name_at new y ≡ name_at old y
same-names old new pids y = ap (λ p. if p == 0 then Local y else Pid p) (pids y)

same_far : (k l : Kind) (r s n m b c : ℕ) (xs ys : List Reference) (ns ms : List ℕ) → k ≡ l → r ≡ s → n ≡ m → b ≡ c → xs ≡ ys → ns ≡ ms
    → object_words (record { header = record { kind = k; flags = 0; refs = r; nums = n; bytes = b; pid = 0; chain = 0 }; refs = xs; nums = ns })
    ≡ object_words (record { header = record { kind = l; flags = 0; refs = s; nums = m; bytes = c; pid = 0; chain = 0 }; refs = ys; nums = ms })
same_far k l r s n m b c xs ys ns ms ek er en eb ex es = cc

-- an object that stays, under names that stay, has the image that it had
pub image-same : (old new : Heap) (x : ℕ) → IsBut (object_at old x) (object_at new x) → map (name_of new) (object_at new x).refs ≡ map (name_of old) (object_at old x).refs → image_of new x ≡ image_of old x
unfolding image_of
image-same old new x b names =
    let o = object_at old x in
    let p = object_at new x in
    same_far p.header.kind o.header.kind p.header.refs o.header.refs p.header.nums o.header.nums p.header.bytes o.header.bytes (map (name_of new) p.refs) (map (name_of old) o.refs) p.nums o.nums
    b.kind b.refs_count b.nums_count b.bytes names b.nums

pub image-cleared : (old new : Heap) (x : ℕ) → Clears old new → image_of new x ≡ image_of old x
image-cleared old new x c =
    let b = c.remade.objects x in
    image-same old new x b (ap (map (name_of new)) b.refs ∙ names_kept old new (object_at old x).refs (λ slot to e. same-names old new c.pids to))
