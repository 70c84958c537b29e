-- Which nodes come into the area, one step after another.
use Rattle.std.proofs.Common.{◌≡◌, ◌≢◌, ◌⊎◌, ℕ, ◌+◌, ◌≤◌, List, [], ◌∷◌, ◌++◌, Option, Some, None, refl, sym, ap, ◌∙◌, subst, set, slice_set, if◌then◌else◌, true, false, arith, inl, inr}
use Rattle.std.proofs.lemmas.List.{length-append}
use Rattle.heap_places.specs.obj_layout.declared.kind.Kind.TheVariants.{Node}
use Rattle.heap_places.specs.obj_layout.declared.reference.Reference.{Reference}
use Rattle.heap_places.specs.obj_layout.declared.reference.Reference.TheVariants.{Nil, Pid, Local}
use Rattle.heap_places.specs.swizzle.Objects.{Object, replace_from}
use Rattle.heap_places.specs.swizzle.Heap.{Heap, IsHeap, IsHeld, IsMade, header_at, object_at, is_assigned, flagged, reference_to, with_ref, with_num, with_mark}
use Rattle.heap_places.specs.swizzle.Joint.{name_at, name_of}
use Rattle.heap_places.specs.swizzle.Touch.{Keeps, Only, Denotes}
use Rattle.heap_places.proofs.of_swizzle.JointLaws.{held-back, held-cases}
use Rattle.heap_places.proofs.of_swizzle.TouchLaws.{keeps-refl}
use Rattle.heap_places.proofs.of_swizzle.NameLaws.{name_at-injective}
use Rattle.node_rows.specs.Nodes.{IsAmong}
use Rattle.table_nodes.specs.Bringing.{Brings, NoneCome}
use Rattle.table_nodes.specs.Sparing.{Lasts}

pub keeps_lasts : (a b : Heap) → Keeps a b → (at : ℕ) → IsHeld a at → Lasts a b at
keeps_lasts a b keeps at h = let s = keeps.objects at h in record { held = s.held; name = s.name; kind = ap (λ it. it.kind) s.shown_as; refs = s.refs; nums = s.nums; bytes = ap (λ it. it.bytes) s.shown_as }

among_front : (n : Reference) (xs ys : List Reference) → IsAmong n xs → IsAmong n (xs ++ ys)
among_front n [] ys k = absurd k
among_front n (x ∷ xs) ys (inl e) = inl e
among_front n (x ∷ xs) ys (inr k) = inr (among_front n xs ys k)

among_back : (n : Reference) (xs ys : List Reference) → IsAmong n ys → IsAmong n (xs ++ ys)
among_back n [] ys k = k
among_back n (x ∷ xs) ys k = inr (among_back n xs ys k)

pub brings_none : (heap : Heap) (most : ℕ) → Brings heap heap most
brings_none heap most = record { names = []; few = omega arith; come = λ at held kind. inl held }

pub brings_same : (a b : Heap) (most : ℕ) → b ≡ a → Brings a b most
brings_same a b most e = subst (λ h. Brings a h most) (sym e) (brings_none a most)

pub brings_held : (a b : Heap) (most : ℕ) → NoneCome a b → Brings a b most
brings_held a b most f = record { names = []; few = omega arith; come = λ at held kind. inl (f at held) }

pub brings_more : (a b : Heap) (few most : ℕ) → few ≤ most → Brings a b few → Brings a b most
brings_more a b few most le f = record { names = f.names; few = omega (arith, f.few, le); come = f.come }

pub brings_then : (a b c : Heap) (m n most : ℕ) → ((at : ℕ) → IsHeld b at → Lasts b c at) → m + n ≤ most → Brings a b m → Brings b c n → Brings a c most
brings_then a b c m n most lasts le f g = record {
  names = f.names ++ g.names;
  few = omega (arith, length-append f.names g.names, f.few, g.few, le);
  come = come;
}
  where
    come : (at : ℕ) → IsHeld c at → (header_at c at).kind ≡ Node → IsHeld a at ⊎ IsAmong (name_at c at) (f.names ++ g.names)
    come at held kind = elim (g.come at held kind) [
      | inl there ↦ (
          let l = lasts at there in
          elim (f.come at there (sym l.kind ∙ kind)) [
            | inl before ↦ inl before
            | inr k ↦ inr (among_front (name_at c at) f.names g.names (subst (λ n. IsAmong n f.names) (sym l.name) k))
          ])
      | inr k ↦ inr (among_back (name_at c at) f.names g.names k)
    ]

-- what a touch brings
pub brings_only : (a b : Heap) (reference : Reference) (most : ℕ) → 1 ≤ most → Only a b reference → Brings a b most
brings_only a b reference most le only = record { names = reference ∷ []; few = le; come = λ at held kind. elim (only at held) [ inl before ↦ inl before | inr e ↦ inr (inl e) ] }

-- what is touched and is no node
pub brings_other : (a b : Heap) (to : Option ℕ) (reference : Reference) (most : ℕ) → IsHeap b → Only a b (name_of a reference) → ((near : Option ℕ) → reference ≡ reference_to near → b ≡ a) → Denotes b to (name_of a reference)
    → ((at : ℕ) → to ≡ Some at → (header_at b at).kind ≢ Node) → Brings a b most
brings_other a b to Nil most h only still denotes other = brings_same a b most (still None refl)
brings_other a b to (Local at) most h only still denotes other = brings_same a b most (still (Some at) refl)
brings_other a b None (Pid pid) most h only still denotes other = absurd (cc denotes)
brings_other a b (Some at) (Pid pid) most h only still denotes other = record {
  names = [];
  few = omega arith;
  come = λ j held kind. elim (only j held) [
    | inl before ↦ inl before
    | inr e ↦ absurd (other at refl (subst (λ i. (header_at b i).kind ≡ Node) (name_at-injective b j at h held denotes.0 (e ∙ sym denotes.1)) kind))
  ];
}

-- an object that was made is one
pub brings_made : (a b : Heap) (at : ℕ) (object : Object) (most : ℕ) → 1 ≤ most → IsMade a b at object → Brings a b most
brings_made a b at object most le made = record {
  names = name_at b at ∷ [];
  few = le;
  come = λ j held kind. elim (held-cases a object j (subst (λ (h : Heap). IsHeld h j) made.made held)) [
    | inl before ↦ inl before
    | inr top ↦ inr (inl (ap (name_at b) (top ∙ sym made.place)))
  ];
}

-- Where words are written, no object comes.

pub none_ref : (a b : Heap) (at slot : ℕ) (to : Reference) → IsHeld a at → b ≡ with_ref a at slot to → NoneCome a b
none_ref a b at slot to held e j there =
    let o = object_at a at in
    held-back a at j (record o { refs = set o.refs slot to }) held refl (subst (λ (h : Heap). IsHeld h j) e there)

pub none_num : (a b : Heap) (at index value : ℕ) → IsHeld a at → b ≡ with_num a at index value → NoneCome a b
none_num a b at index value held e j there =
    let o = object_at a at in
    held-back a at j (record o { nums = slice_set o.nums index value }) held refl (subst (λ (h : Heap). IsHeld h j) e there)

marked_back : (heap : Heap) (at j : ℕ) → IsHeld heap at → IsHeld (with_mark heap at) j → IsHeld heap j
marked_back heap at j held =
    elim (is_assigned (object_at heap at)) as
    (λ b. IsHeld (if b then heap else record heap { objects = replace_from 1 heap.objects at (flagged (object_at heap at)); assigned = heap.assigned ++ at ∷ [] }) j → IsHeld heap j) [
      | true ↦ λ k. k
      | false ↦ λ k. held-back heap at j (flagged (object_at heap at)) held refl (record { object = k.object; is = k.is })
    ]

pub none_mark : (a b : Heap) (at : ℕ) → IsHeld a at → b ≡ with_mark a at → NoneCome a b
none_mark a b at held e j there = marked_back a at j held (subst (λ (h : Heap). IsHeld h j) e there)

-- what was brought before words were written
pub brings_written : (a b c d : Heap) (m n most : ℕ) → ((at : ℕ) → IsHeld b at → Lasts b c at) → ((at : ℕ) → IsHeld c at → Lasts c d at) → NoneCome c d → m + n ≤ most → Brings a b m → Brings b c n → Brings a d most
brings_written a b c d m n most lasts kept none le f g = brings_then a c d most 0 most kept (omega arith) (brings_then a b c m n most lasts le f g) (brings_held c d 0 none)

pub keeps_same : (a b : Heap) → b ≡ a → Keeps a b
keeps_same a b e = subst (Keeps a) (sym e) (keeps-refl a)

-- what two touches bring
pub brings_touched : (a b c : Heap) (m n most : ℕ) → Keeps b c → m + n ≤ most → Brings a b m → Brings b c n → Brings a c most
brings_touched a b c m n most keeps le f g = brings_then a b c m n most (keeps_lasts b c keeps) le f g
