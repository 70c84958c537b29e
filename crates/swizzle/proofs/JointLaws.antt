-- The one map of objects, and what becomes of it as an object is replaced or comes.
use Rattle.std.proofs.Common.{inl, inr, ◌⊎◌, ◌≡◌, ◌≢◌, ℕ, zero, suc, ◌<◌, ◌≤◌, ◌==◌, List, ◌∷◌, map, replicate, set, refl, sym, ap, ◌∙◌, subst, arith, Option, unwrap_or, if◌then◌else◌}
use Rattle.std.proofs.lemmas.Bool.{cases_eq}
use Rattle.std.proofs.lemmas.List.{map-set}
use Rattle.obj_layout.specs.declared.kind.Kind.{Kind}
use Rattle.obj_layout.specs.declared.reference.Reference.{Reference}
use Rattle.obj_layout.specs.declared.reference.Reference.TheVariants.{Nil, Pid, Local}
use Rattle.swizzle.specs.Objects.{Object, size_of, size_of_all}
use Rattle.swizzle.specs.Heap.{Heap, IsHeap, IsHeld, IsInside, object_at, header_at, top_of, nothing, with_object, with_ref, with_num, with_new, IsMade, blank}
use Rattle.swizzle.specs.Text.{with_bytes_at, with_text}
use Rattle.swizzle.specs.Joint.{Shown, shown, name_by, name_at, name_of, shown_at, Joint}
use Rattle.swizzle.specs.Changes.{Same, ChangedAt}
use Rattle.swizzle.proofs.ObjectLaws.{split, size_of_all-append}
use Rattle.swizzle.proofs.HeapLaws.{held-replaced, held-new, find-replaced, find-replaced_other, local-replaced, find-append, find-new, find-append_cases, local-append_other}
use Rattle.swizzle.proofs.KeptLaws.{held_is, inside_nil}
use Rattle.swizzle.proofs.NameLaws.{name-pid, name-none, at_in, name_at-injective, not_away, names_kept, shown-same}

-- One object in the place of another with the same header but for flags.
pub record IsLike (o new : Object) : Type 0 where
  pub kind : new.header.kind ≡ o.header.kind
  pub refs : new.header.refs ≡ o.header.refs
  pub nums : new.header.nums ≡ o.header.nums
  pub bytes : new.header.bytes ≡ o.header.bytes
  pub pid : new.header.pid ≡ o.header.pid

pub object-replaced : (heap : Heap) (at : ℕ) (new : Object) → IsHeld heap at → object_at (with_object heap at new) at ≡ new
object-replaced heap at new held = ap (λ (x : Option Object). unwrap_or x nothing) (find-replaced 1 heap.objects at (object_at heap at) new (held_is heap at held))

pub object-replaced_other : (heap : Heap) (at j : ℕ) (new : Object) → IsHeld heap at → size_of new ≡ size_of (object_at heap at) → j ≢ at → object_at (with_object heap at new) j ≡ object_at heap j
object-replaced_other heap at j new held long ne = ap (λ (x : Option Object). unwrap_or x nothing) (find-replaced_other 1 heap.objects at j (object_at heap at) new (held_is heap at held) long ne)

pub like_long : (o new : Object) → IsLike o new → size_of new ≡ size_of o
like_long o new like = omega (arith, like.refs, like.nums)

pub name-replaced : (heap : Heap) (at j : ℕ) (new : Object) → IsHeld heap at → IsLike (object_at heap at) new → name_at (with_object heap at new) j ≡ name_at heap j
name-replaced heap at j new held like =
    elim (cases_eq j at) [
      | inl there ↦
          let it = ap (object_at (with_object heap at new)) there ∙ object-replaced heap at new held in
          let pids : (header_at (with_object heap at new) j).pid ≡ (header_at heap j).pid = ap (λ (x : Object). x.header.pid) it ∙ like.pid ∙ ap (λ (n : ℕ). (header_at heap n).pid) (sym there) in
          ap (λ (p : ℕ). if p == 0 then Local j else Pid p) pids
      | inr apart ↦ ap (λ (x : Object). name_by x.header j) (object-replaced_other heap at j new held (like_long (object_at heap at) new like) apart)
    ]

pub names-replaced : (heap : Heap) (at : ℕ) (new : Object) (refs : List Reference) → IsHeld heap at → IsLike (object_at heap at) new → map (name_of (with_object heap at new)) refs ≡ map (name_of heap) refs
names-replaced heap at new refs held like = names_kept heap (with_object heap at new) refs (λ slot to r. name-replaced heap at to new held like)

pub shown-replaced : (heap : Heap) (at : ℕ) (new : Object) → IsHeld heap at → IsLike (object_at heap at) new → shown_at (with_object heap at new) at ≡ shown (name_of heap) new
shown-replaced heap at new held like =
    ap (shown (name_of (with_object heap at new))) (object-replaced heap at new held)
    ∙ shown-same heap (with_object heap at new) new new refl refl refl (names-replaced heap at new new.refs held like)

pub shown-replaced_other : (heap : Heap) (at j : ℕ) (new : Object) → IsHeld heap at → IsLike (object_at heap at) new → j ≢ at → shown_at (with_object heap at new) j ≡ shown_at heap j
shown-replaced_other heap at j new held like ne =
    let same = object-replaced_other heap at j new held (like_long (object_at heap at) new like) ne in
    ap (shown (name_of (with_object heap at new))) same
    ∙ shown-same heap (with_object heap at new) (object_at heap j) (object_at heap j) refl refl refl (names-replaced heap at new (object_at heap j).refs held like)

pub held-back : (heap : Heap) (at j : ℕ) (new : Object) → IsHeld heap at → size_of new ≡ size_of (object_at heap at) → IsHeld (with_object heap at new) j → IsHeld heap j
held-back heap at j new held long now =
    elim (cases_eq j at) [
      | inl there ↦ subst (IsHeld heap) (sym there) held
      | inr apart ↦ record { object = now.object; is = sym (find-replaced_other 1 heap.objects at j (object_at heap at) new (held_is heap at held) long apart) ∙ now.is }
    ]

-- the joint map after an object of the area was replaced: the object of its name is changed, and no other
pub joint-replaced : (heap : Heap) (holds : ℕ → List ℕ → Type 0) (at : ℕ) (new : Object) → IsHeap heap → IsHeld heap at → IsLike (object_at heap at) new → ChangedAt (Joint heap holds) (name_at heap at) (shown (name_of heap) new) (Joint (with_object heap at new) holds)
joint-replaced heap holds at new h held like =
    let now = with_object heap at new in
    let long = like_long (object_at heap at) new like in
    let is = held_is heap at held in
    let local = λ (pid : ℕ). local-replaced 1 heap.objects at pid (object_at heap at) new is long like.pid in
    record {
      there = inl (record {
        at = at;
        held = held-replaced heap at (object_at heap at) new at is long held;
        name_is = sym (name-replaced heap at at new held like);
        shown_is = sym (shown-replaced heap at new held like);
      });
      alone = λ other j. elim j [
        | inl a ↦
            let name : name_at heap a.at ≡ name_at heap at = sym (name-replaced heap at a.at new held like) ∙ sym a.name_is in
            let was = held-back heap at a.at new held long a.held in
            let same : a.at ≡ at = name_at-injective heap a.at at h was held name in
            a.shown_is ∙ ap (shown_at now) same ∙ shown-replaced heap at new held like
        | inr v ↦ absurd (not_away heap at v.pid h held (sym v.name_is) (sym (local v.pid) ∙ v.away))
      ];
      stays = λ n other apart j. elim j [
        | inl a ↦
            let ne : a.at ≢ at = λ (e : a.at ≡ at). apart (a.name_is ∙ ap (name_at heap) e) in
            inl (record {
              at = a.at;
              held = held-replaced heap at (object_at heap at) new a.at is long a.held;
              name_is = a.name_is ∙ sym (name-replaced heap at a.at new held like);
              shown_is = a.shown_is ∙ sym (shown-replaced_other heap at a.at new held like ne);
            })
        | inr v ↦ inr (record { pid = v.pid; words = v.words; name_is = v.name_is; there = v.there; away = local v.pid ∙ v.away; shown_is = v.shown_is })
      ];
      no_more = λ n other apart j. elim j [
        | inl a ↦
            let was = held-back heap at a.at new held long a.held in
            let ne : a.at ≢ at = λ (e : a.at ≡ at). apart (a.name_is ∙ name-replaced heap at a.at new held like ∙ ap (name_at heap) e) in
            inl (record {
              at = a.at;
              held = was;
              name_is = a.name_is ∙ name-replaced heap at a.at new held like;
              shown_is = a.shown_is ∙ shown-replaced_other heap at a.at new held like ne;
            })
        | inr v ↦ inr (record { pid = v.pid; words = v.words; name_is = v.name_is; there = v.there; away = sym (local v.pid) ∙ v.away; shown_is = v.shown_is })
      ];
    }

-- a change to what was shown before is none
pub same-changed : (old new : Reference → Shown → Type 0) (name : Reference) (it : Shown) → ((n : Reference) → (n ≡ name) ⊎ (n ≢ name)) → old name it → ((other : Shown) → old name other → other ≡ it) → ChangedAt old name it new → Same old new
same-changed old new name it decide was one c = record {
  grows = λ n other j. elim (decide n) [
    | inl e ↦
        let same : it ≡ other = sym (one other (subst (λ (m : Reference). old m other) e j)) in
        subst (λ (m : Reference). new m other) (sym e) (subst (new name) same c.there)
    | inr ne ↦ c.stays n other ne j
  ];
  no_more = λ n other j. elim (decide n) [
    | inl e ↦
        let same : it ≡ other = sym (c.alone other (subst (λ (m : Reference). new m other) e j)) in
        subst (λ (m : Reference). old m other) (sym e) (subst (old name) same was)
    | inr ne ↦ c.no_more n other ne j
  ];
}

-- One more object.

pub held-top : (heap : Heap) (new : Object) → IsHeld (with_new heap new) (top_of heap)
held-top heap new = record { object = new; is = find-new 1 heap.objects new }

pub object-top : (heap : Heap) (new : Object) → object_at (with_new heap new) (top_of heap) ≡ new
object-top heap new = ap (λ (x : Option Object). unwrap_or x nothing) (find-new 1 heap.objects new)

pub object-append : (heap : Heap) (new : Object) (at : ℕ) → IsHeld heap at → object_at (with_new heap new) at ≡ object_at heap at
object-append heap new at held = ap (λ (x : Option Object). unwrap_or x nothing) (find-append 1 heap.objects new at (object_at heap at) (held_is heap at held))

pub name-append : (heap : Heap) (new : Object) (at : ℕ) → IsHeld heap at → name_at (with_new heap new) at ≡ name_at heap at
name-append heap new at held = ap (λ (x : Object). name_by x.header at) (object-append heap new at held)

pub names-append : (heap : Heap) (new o : Object) → IsInside heap o → map (name_of (with_new heap new)) o.refs ≡ map (name_of heap) o.refs
names-append heap new o inside = names_kept heap (with_new heap new) o.refs (λ slot to r. name-append heap new to (inside slot to r))

pub shown-append : (heap : Heap) (new : Object) (at : ℕ) → IsHeap heap → IsHeld heap at → shown_at (with_new heap new) at ≡ shown_at heap at
shown-append heap new at h held =
    let inside = h.inside at (object_at heap at) (held_is heap at held) in
    ap (shown (name_of (with_new heap new))) (object-append heap new at held)
    ∙ shown-same heap (with_new heap new) (object_at heap at) (object_at heap at) refl refl refl (names-append heap new (object_at heap at) inside)

pub shown-top : (heap : Heap) (new : Object) → IsInside heap new → shown_at (with_new heap new) (top_of heap) ≡ shown (name_of heap) new
shown-top heap new inside =
    ap (shown (name_of (with_new heap new))) (object-top heap new)
    ∙ shown-same heap (with_new heap new) new new refl refl refl (names-append heap new new inside)

-- an object ends at or below the top
pub held-lt : (heap : Heap) (at : ℕ) → IsHeap heap → IsHeld heap at → at < top_of heap
held-lt heap at h held =
    let s = split 1 heap.objects at (object_at heap at) h.fit (held_is heap at held) in
    let sizes = ap size_of_all s.is ∙ size_of_all-append s.front (object_at heap at ∷ s.back) in
    omega (arith, s.place, sizes)

top_apart : (heap : Heap) (at : ℕ) → IsHeap heap → IsHeld heap at → name_at heap at ≢ Local (top_of heap)
unfolding at_in
top_apart heap at h held e =
    let a = header_at heap at in
    elim (cases_eq a.pid 0) [
      | inl none ↦ let same : at ≡ top_of heap = ap at_in (sym (name-none a at none) ∙ e) in omega (arith, held-lt heap at h held)
      | inr some ↦ let bad : Pid a.pid ≡ Local (top_of heap) = sym (name-pid a at (omega arith)) ∙ e in cc
    ]

-- no object has the name that a new one gets
pub name-fresh : (heap : Heap) (holds : ℕ → List ℕ → Type 0) (it : Shown) → IsHeap heap → Joint heap holds (Local (top_of heap)) it → ⊥
name-fresh heap holds it h (inl a) = top_apart heap a.at h a.held (sym a.name_is)
name-fresh heap holds it h (inr v) = let bad = v.name_is in cc

pub held-cases : (heap : Heap) (new : Object) (at : ℕ) → IsHeld (with_new heap new) at → IsHeld heap at ⊎ (at ≡ top_of heap)
held-cases heap new at held =
    elim (find-append_cases 1 heap.objects new at held.object held.is) [
      | inl was ↦ inl (record { object = held.object; is = was })
      | inr it ↦ inr it.0
    ]

-- the joint map after a new object without a PID
pub joint-made : (heap : Heap) (holds : ℕ → List ℕ → Type 0) (new : Object) → IsHeap heap → IsInside heap new → new.header.pid ≡ 0 → ((pid : ℕ) (words : List ℕ) → holds pid words → 1 ≤ pid) → ChangedAt (Joint heap holds) (Local (top_of heap)) (shown (name_of heap) new) (Joint (with_new heap new) holds)
joint-made heap holds new h inside none placed =
    let now = with_new heap new in
    let name_top : name_at now (top_of heap) ≡ Local (top_of heap) = ap (λ (x : Object). name_by x.header (top_of heap)) (object-top heap new) ∙ name-none new.header (top_of heap) none in
    let local = λ (pid : ℕ) (some : 1 ≤ pid). local-append_other 1 heap.objects new pid (λ e. omega arith) in
    record {
      there = inl (record { at = top_of heap; held = held-top heap new; name_is = sym name_top; shown_is = sym (shown-top heap new inside) });
      alone = λ other j. elim j [
        | inl a ↦ elim (held-cases heap new a.at a.held) [
          | inl was ↦ absurd (top_apart heap a.at h was (sym (name-append heap new a.at was) ∙ sym a.name_is))
          | inr top ↦ a.shown_is ∙ ap (shown_at now) top ∙ shown-top heap new inside
        ]
        | inr v ↦ let bad = v.name_is in absurd (cc)
      ];
      stays = λ n other apart j. elim j [
        | inl a ↦ inl (record { at = a.at; held = held-new heap new a.at a.held; name_is = a.name_is ∙ sym (name-append heap new a.at a.held); shown_is = a.shown_is ∙ sym (shown-append heap new a.at h a.held) })
        | inr v ↦ inr (record { pid = v.pid; words = v.words; name_is = v.name_is; there = v.there; away = local v.pid (placed v.pid v.words v.there) ∙ v.away; shown_is = v.shown_is })
      ];
      no_more = λ n other apart j. elim j [
        | inl a ↦ elim (held-cases heap new a.at a.held) [
          | inl was ↦ inl (record { at = a.at; held = was; name_is = a.name_is ∙ name-append heap new a.at was; shown_is = a.shown_is ∙ shown-append heap new a.at h was })
          | inr top ↦ absurd (apart (a.name_is ∙ ap (name_at now) top ∙ name_top))
        ]
        | inr v ↦ inr (record { pid = v.pid; words = v.words; name_is = v.name_is; there = v.there; away = sym (local v.pid (placed v.pid v.words v.there)) ∙ v.away; shown_is = v.shown_is })
      ];
    }

-- What each call does to the one map.

-- a number word is written
pub joint-num : (heap : Heap) (holds : ℕ → List ℕ → Type 0) (at index value : ℕ) → IsHeap heap → IsHeld heap at
    → ChangedAt (Joint heap holds) (name_at heap at) (record (shown_at heap at) { nums = set (object_at heap at).nums index value }) (Joint (with_num heap at index value) holds)
joint-num heap holds at index value h held =
    let o = object_at heap at in
    joint-replaced heap holds at (record o { nums = set o.nums index value }) h held (record { kind = refl; refs = refl; nums = refl; bytes = refl; pid = refl })

pub like_ref : (heap : Heap) (at slot : ℕ) (to : Reference) → IsLike (object_at heap at) (record (object_at heap at) { refs = set (object_at heap at).refs slot to })
like_ref heap at slot to = record { kind = refl; refs = refl; nums = refl; bytes = refl; pid = refl }

-- a slot is written
pub joint-ref : (heap : Heap) (holds : ℕ → List ℕ → Type 0) (at slot : ℕ) (to : Reference) → IsHeap heap → IsHeld heap at
    → ChangedAt (Joint heap holds) (name_at heap at) (record (shown_at heap at) { refs = set (shown_at heap at).refs slot (name_of heap to) }) (Joint (with_ref heap at slot to) holds)
joint-ref heap holds at slot to h held =
    let o = object_at heap at in
    let new = record o { refs = set o.refs slot to } in
    let names : shown (name_of heap) new ≡ record (shown_at heap at) { refs = set (shown_at heap at).refs slot (name_of heap to) } =
    ap (λ (rs : List Reference). record (shown_at heap at) { refs = rs }) (map-set (name_of heap) o.refs slot to) in
    subst (λ (it : Shown). ChangedAt (Joint heap holds) (name_at heap at) it (Joint (with_ref heap at slot to) holds)) names
    (joint-replaced heap holds at new h held (like_ref heap at slot to))

-- bytes are written over those of a text or of code
pub joint-text : (heap : Heap) (holds : ℕ → List ℕ → Type 0) (at start : ℕ) (bytes : List ℕ) → IsHeap heap → IsHeld heap at
    → ChangedAt (Joint heap holds) (name_at heap at) (record (shown_at heap at) { nums = (with_bytes_at (object_at heap at) start bytes).nums }) (Joint (with_text heap at start bytes) holds)
joint-text heap holds at start bytes h held =
    joint-replaced heap holds at (with_bytes_at (object_at heap at) start bytes) h held (record { kind = refl; refs = refl; nums = refl; bytes = refl; pid = refl })

nil_names : (heap : Heap) (n : ℕ) → map (name_of heap) (replicate n Nil) ≡ replicate n Nil
nil_names heap zero = refl
nil_names heap (suc n) = ap (λ (rs : List Reference). Nil ∷ rs) (nil_names heap n)

-- what is shown of a new object
pub shown-blank : (heap : Heap) (kind : Kind) (refs nums bytes : ℕ) → shown (name_of heap) (blank kind refs nums bytes) ≡ record { kind = kind; refs = replicate refs Nil; nums = replicate nums 0; bytes = bytes }
shown-blank heap kind refs nums bytes = ap (λ (rs : List Reference). record { kind = kind; refs = rs; nums = replicate nums 0; bytes = bytes }) (nil_names heap refs)

-- an object is made
pub joint-blank : (old new : Heap) (holds : ℕ → List ℕ → Type 0) (at : ℕ) (kind : Kind) (refs nums bytes : ℕ) → IsHeap old → IsMade old new at (blank kind refs nums bytes) → ((pid : ℕ) (words : List ℕ) → holds pid words → 1 ≤ pid)
    → ChangedAt (Joint old holds) (Local at) (record { kind = kind; refs = replicate refs Nil; nums = replicate nums 0; bytes = bytes }) (Joint new holds)
joint-blank old new holds at kind refs nums bytes h made placed =
    let o = blank kind refs nums bytes in
    let it : Shown = record { kind = kind; refs = replicate refs Nil; nums = replicate nums 0; bytes = bytes } in
    subst (λ (x : Heap). ChangedAt (Joint old holds) (Local at) it (Joint x holds)) (sym made.made)
    (subst (λ (i : ℕ). ChangedAt (Joint old holds) (Local i) it (Joint (with_new old o) holds)) (sym made.place)
    (subst (λ (s : Shown). ChangedAt (Joint old holds) (Local (top_of old)) s (Joint (with_new old o) holds)) (shown-blank old kind refs nums bytes)
    (joint-made old holds o h (inside_nil old refs) refl placed)))
