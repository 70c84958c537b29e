-- What a touch keeps of the area, and steps after one another.
use Rattle.std.proofs.Common.{inl, inr, ◌≡◌, ◌≢◌, ℕ, ◌<◌, List, [], ◌∷◌, map, set, get_or, refl, sym, ap, ◌∙◌, arith, Option, ◌-◌, ◌≤◌, ◌↔◌, None, Some, subst}
use Rattle.std.proofs.lemmas.Bool.{cases_eq}
use Rattle.std.proofs.lemmas.List.{map-set, set-get_or, get_or-set_same}
use Rattle.obj_layout.specs.declared.reference.Reference.{Reference}
use Rattle.obj_layout.specs.declared.reference.Reference.TheVariants.{Nil, Local, Pid}
use Rattle.swizzle.specs.Objects.{Object}
use Rattle.swizzle.specs.Heap.{Heap, IsHeap, IsHeld, object_at, header_at, with_ref, with_new, ref_at, IsInside, local_of, top_of}
use Rattle.swizzle.specs.Joint.{Shown, shown, name_at, name_of, shown_at, Joint, shown_words, name_by}
use Rattle.swizzle.specs.Changes.{Same, Touched}
use Rattle.std.specs.Prelude.{Result, Ok, Err, OnOk}
use Rattle.obj_layout.specs.ps_outside.Outside.{Outside, SameContents, Rose}
use Rattle.obj_layout.proofs.of_ps_outside.Moments.{along_none, along_then, along_now}
use Rattle.obj_layout.specs.Stored.{Space}
use Rattle.obj_layout.specs.Storing.{IsStoreCall}
use Rattle.obj_layout.specs.declared.vault.VaultFault.{VaultFault}
use Rattle.obj_layout.specs.declared.vault.VaultFault.TheVariants.{Device, Output, Full, NoPages}
use Rattle.swizzle.specs.declared.fault.SwizzleFault.{SwizzleFault}
use Rattle.swizzle.specs.declared.fault.SwizzleFault.TheVariants.{Vault}
use Rattle.swizzle.specs.Touch.{Stays, Keeps, IsNear, AreFew, IsTouchCall}
use Rattle.swizzle.proofs.ObjectLaws.{split, size_of_all-append}
use Rattle.swizzle.proofs.HeapLaws.{held-replaced, held-new, size-replaced, local-append, local-append_other}
use Rattle.swizzle.proofs.KeptLaws.{held_is}
use Rattle.swizzle.proofs.NameLaws.{name-none, name-pid, not_away, pid_in, Joint-one, shown-same, names-decided, names_at}
use Rattle.swizzle.proofs.JointLaws.{held-cases, held-top, object-top, shown-top, same-changed, name-append, object-append, shown-append, object-replaced, object-replaced_other, name-replaced, shown-replaced, shown-replaced_other, joint-replaced, like_ref}

pub keeps-new : (heap : Heap) (new : Object) → IsHeap heap → Keeps heap (with_new heap new)
keeps-new heap new h = record {
  size = refl;
  top = omega (arith, size_of_all-append heap.objects (new ∷ []));
  assigned = refl;
  objects = λ at held.
      let same = object-append heap new at held in
      record {
        held = held-new heap new at held;
        name = name-append heap new at held;
        shown_as = shown-append heap new at h held;
        flags = ap (λ (x : Object). x.header.flags) same;
        refs = ap (λ (x : Object). x.header.refs) same;
        nums = ap (λ (x : Object). x.header.nums) same;
      };
}

-- Steps after one another.

pub stays-refl : (heap : Heap) (at : ℕ) → IsHeld heap at → Stays heap heap at
stays-refl heap at held = record { held = held; name = refl; shown_as = refl; flags = refl; refs = refl; nums = refl }

pub keeps-refl : (heap : Heap) → Keeps heap heap
keeps-refl heap = record { size = refl; top = omega arith; assigned = refl; objects = stays-refl heap }

pub stays-trans : (a b c : Heap) (at : ℕ) → Stays a b at → Stays b c at → Stays a c at
stays-trans a b c at s t = record {
  held = t.held;
  name = t.name ∙ s.name;
  shown_as = t.shown_as ∙ s.shown_as;
  flags = t.flags ∙ s.flags;
  refs = t.refs ∙ s.refs;
  nums = t.nums ∙ s.nums;
}

pub keeps-trans : (a b c : Heap) → Keeps a b → Keeps b c → Keeps a c
keeps-trans a b c k l = record {
  size = l.size ∙ k.size;
  top = omega (arith, k.top, l.top);
  assigned = l.assigned ∙ k.assigned;
  objects = λ at held. let s = k.objects at held in stays-trans a b c at s (l.objects at s.held);
}

pub touched-refl : (joint : Reference → Shown → Type 0) (name : Reference) → Touched joint joint name
touched-refl joint name = record { grows = λ n it j. j; no_more = λ k n it j. j }

pub touched-same : (a b c : Reference → Shown → Type 0) (name : Reference) → Touched a b name → Same b c → Touched a c name
touched-same a b c name t s = record {
  grows = λ n it j. s.grows n it (t.grows n it j);
  no_more = λ k n it j. t.no_more k n it (s.no_more n it j);
}

-- A reference by another spelling of its name.

pub shown-spelled : (heap : Heap) (at slot : ℕ) (to : Reference) → name_of heap to ≡ name_of heap (get_or (object_at heap at).refs slot Nil) → shown (name_of heap) (record (object_at heap at) { refs = set (object_at heap at).refs slot to }) ≡ shown_at heap at
shown-spelled heap at slot to e =
    let o = object_at heap at in
    let names : map (name_of heap) (set o.refs slot to) ≡ map (name_of heap) o.refs =
    map-set (name_of heap) o.refs slot to
    ∙ ap (set (map (name_of heap) o.refs) slot) e
    ∙ sym (map-set (name_of heap) o.refs slot (get_or o.refs slot Nil))
    ∙ ap (map (name_of heap)) (set-get_or o.refs slot Nil) in
    shown-same heap heap (record o { refs = set o.refs slot to }) o refl refl refl names

pub keeps-spelled : (heap : Heap) (at slot : ℕ) (to : Reference) → IsHeap heap → IsHeld heap at → name_of heap to ≡ name_of heap (get_or (object_at heap at).refs slot Nil) → Keeps heap (with_ref heap at slot to)
keeps-spelled heap at slot to h held e =
    let o = object_at heap at in
    let new = record o { refs = set o.refs slot to } in
    let like = like_ref heap at slot to in
    let is = held_is heap at held in
    record {
      size = refl;
      top = omega (arith, size-replaced 1 heap.objects at o new is refl);
      assigned = refl;
      objects = λ j there. elim (cases_eq j at) [
        | inl same ↦
            let it : object_at (with_ref heap at slot to) j ≡ new = ap (object_at (with_ref heap at slot to)) same ∙ object-replaced heap at new held in
            let was : o ≡ object_at heap j = ap (object_at heap) (sym same) in
            record {
              held = held-replaced heap at o new j is refl there;
              name = name-replaced heap at j new held like;
              shown_as = ap (shown_at (with_ref heap at slot to)) same ∙ shown-replaced heap at new held like ∙ shown-spelled heap at slot to e ∙ ap (shown_at heap) (sym same);
              flags = ap (λ (x : Object). x.header.flags) it ∙ ap (λ (x : Object). x.header.flags) was;
              refs = ap (λ (x : Object). x.header.refs) it ∙ ap (λ (x : Object). x.header.refs) was;
              nums = ap (λ (x : Object). x.header.nums) it ∙ ap (λ (x : Object). x.header.nums) was;
            }
        | inr apart ↦
            let it = object-replaced_other heap at j new held refl apart in
            record {
              held = held-replaced heap at o new j is refl there;
              name = name-replaced heap at j new held like;
              shown_as = shown-replaced_other heap at j new held like apart;
              flags = ap (λ (x : Object). x.header.flags) it;
              refs = ap (λ (x : Object). x.header.refs) it;
              nums = ap (λ (x : Object). x.header.nums) it;
            }
      ];
    }

pub joint-spelled : (heap : Heap) (holds : ℕ → List ℕ → Type 0) (at slot : ℕ) (to : Reference) → IsHeap heap → IsHeld heap at → ((pid : ℕ) (a b : List ℕ) → holds pid a → holds pid b → a ≡ b) → name_of heap to ≡ name_of heap (get_or (object_at heap at).refs slot Nil) → Same (Joint heap holds) (Joint (with_ref heap at slot to) holds)
joint-spelled heap holds at slot to h held one e =
    let o = object_at heap at in
    let new = record o { refs = set o.refs slot to } in
    let same = shown-spelled heap at slot to e in
    let was : Joint heap holds (name_at heap at) (shown (name_of heap) new) = inl (record { at = at; held = held; name_is = refl; shown_is = same }) in
    same-changed (Joint heap holds) (Joint (with_ref heap at slot to) holds) (name_at heap at) (shown (name_of heap) new) (λ n. names-decided n (name_at heap at)) was
    (λ other j. Joint-one heap holds (name_at heap at) other (shown (name_of heap) new) h one j was)
    (joint-replaced heap holds at new h held (like_ref heap at slot to))

-- the object of the area that a slot denotes
pub denotes-local : (heap : Heap) (at slot to : ℕ) → IsHeap heap → IsHeld heap at → get_or (object_at heap at).refs slot Nil ≡ Local to → IsHeld heap to × (name_at heap to ≡ name_of heap (get_or (object_at heap at).refs slot Nil))
denotes-local heap at slot to h held e = (h.inside at (object_at heap at) (held_is heap at held) slot to e, sym (ap (name_of heap) e))

pub slot_kept : (old new : Heap) (at slot : ℕ) → Keeps old new → IsHeld old at → name_of new (ref_at new at slot) ≡ name_of old (ref_at old at slot)
slot_kept old new at slot k held =
    sym (names_at new (object_at new at).refs slot)
    ∙ ap (λ (s : Shown). get_or s.refs slot Nil) ((k.objects at held).shown_as)
    ∙ names_at old (object_at old at).refs slot

pub slot_set : (heap : Heap) (at slot : ℕ) (to : Reference) → IsHeap heap → IsHeld heap at → slot < (header_at heap at).refs → ref_at (with_ref heap at slot to) at slot ≡ to
slot_set heap at slot to h held below =
    let o = object_at heap at in
    let fit = (split 1 heap.objects at o h.fit (held_is heap at held)).fit in
    ap (λ (x : Object). get_or x.refs slot Nil) (object-replaced heap at (record o { refs = set o.refs slot to }) held)
    ∙ get_or-set_same o.refs slot to Nil (omega (arith, fit.refs))

pub same-refl : (joint : Reference → Shown → Type 0) → Same joint joint
same-refl joint = record { grows = λ n it j. j; no_more = λ n it j. j }

pub same-then : (a b c : Reference → Shown → Type 0) → Same a b → Same b c → Same a c
same-then a b c s t = record { grows = λ n it j. t.grows n it (s.grows n it j); no_more = λ n it j. s.no_more n it (t.no_more n it j) }

ok_of : {T E : Type 0} {P : Type 0} (result : Result T E) → P → OnOk result P
ok_of (Ok x) p = p
ok_of (Err e) p = tt

-- A call that doesn't reach the vault.
pub call-none : {T : Type 0} (old new : Heap) (outside : Outside Space) (result : Result T SwizzleFault) → result ≢ Err (Vault Device) → result ≢ Err (Vault Output)
    → ((used wanted capacity : ℕ) → result ≢ Err (Vault (Full used wanted capacity)))
    → ((held wanted pages : ℕ) → result ≢ Err (Vault (NoPages held wanted pages))) → IsTouchCall old new outside outside result
call-none old new outside result device output full pages = record {
  told = along_none outside.clock outside.told;
  images = along_none outside.clock outside.images;
  contents = record { kept = λ x is. is; no_other = λ x is. is };
  counts = omega arith;
  output = refl;
  cause = λ e. absurd (device e);
  other = output;
  full = full;
  pages = pages;
  calls = ok_of result (inl refl);
}

-- The object of a PID comes.

away-before : (heap : Heap) (new : Object) (pid : ℕ) (was : Option ℕ) → local_of heap pid ≡ was → local_of (with_new heap new) pid ≡ None → local_of heap pid ≡ None
away-before heap new pid None e now = e
away-before heap new pid (Some i) e now =
    let some = local-append 1 heap.objects new pid i e in
    absurd (cc)

-- The joint map after the object of a PID was fetched: its words are those that a vault held, if that told any.
pub joint-fetched : (heap : Heap) (holds holds_now : ℕ → List ℕ → Type 0) (new : Object) (pid : ℕ) → IsHeap heap → IsInside heap new → 1 ≤ pid → new.header.pid ≡ pid → local_of heap pid ≡ None → ((p : ℕ) (words : List ℕ) → holds_now p words ↔ holds p words) → ((words : List ℕ) → holds pid words → shown_words words ≡ shown (name_of heap) new) → Touched (Joint heap holds) (Joint (with_new heap new) holds_now) (Pid pid)
unfolding pid_in
joint-fetched heap holds holds_now new pid h inside some is away same told =
    let now = with_new heap new in
    let name_top : name_at now (top_of heap) ≡ Pid pid = ap (λ (x : Object). name_by x.header (top_of heap)) (object-top heap new) ∙ name-pid new.header (top_of heap) (omega arith) ∙ ap (λ (p : ℕ). Pid p) is in
    record {
      grows = λ n other j. elim j [
        | inl a ↦ inl (record { at = a.at; held = held-new heap new a.at a.held; name_is = a.name_is ∙ sym (name-append heap new a.at a.held); shown_is = a.shown_is ∙ sym (shown-append heap new a.at h a.held) })
        | inr v ↦ elim (cases_eq v.pid pid) [
          | inl it ↦ inl (record {
            at = top_of heap;
            held = held-top heap new;
            name_is = v.name_is ∙ ap (λ (p : ℕ). Pid p) it ∙ sym name_top;
            shown_is = v.shown_is ∙ told v.words (subst (λ (p : ℕ). holds p v.words) it v.there) ∙ sym (shown-top heap new inside);
          })
          | inr apart ↦ inr (record {
            pid = v.pid;
            words = v.words;
            name_is = v.name_is;
            there = (same v.pid v.words).1 v.there;
            away = local-append_other 1 heap.objects new v.pid (λ e. apart (e ∙ is)) ∙ v.away;
            shown_is = v.shown_is;
          })
        ]
      ];
      no_more = λ known n other j. elim j [
        | inl a ↦ elim (held-cases heap new a.at a.held) [
          | inl was ↦ inl (record { at = a.at; held = was; name_is = a.name_is ∙ name-append heap new a.at was; shown_is = a.shown_is ∙ shown-append heap new a.at h was })
          | inr top ↦ elim known [
            | inl nil ↦ absurd (cc)
            | inr k ↦ elim (k.is) [
              | inl b ↦ absurd (not_away heap b.at pid h b.held b.name_is away)
              | inr v ↦
                  let pids : v.pid ≡ pid = ap pid_in (sym v.name_is) in
                  inr (record {
                    pid = v.pid;
                    words = v.words;
                    name_is = a.name_is ∙ ap (name_at now) top ∙ name_top ∙ v.name_is;
                    there = v.there;
                    away = v.away;
                    shown_is = a.shown_is ∙ ap (shown_at now) top ∙ shown-top heap new inside ∙ sym (told v.words (subst (λ (p : ℕ). holds p v.words) pids v.there));
                  })
            ]
          ]
        ]
        | inr v ↦ inr (record {
          pid = v.pid;
          words = v.words;
          name_is = v.name_is;
          there = (same v.pid v.words).0 v.there;
          away = away-before heap new v.pid (local_of heap v.pid) refl v.away;
          shown_is = v.shown_is;
        })
      ];
    }

-- Calls of the vault, as a touch makes them.

-- one call
pub touch-one : {S T : Type 0} (old new : Heap) (a b : Outside Space) (most : ℕ) (r : Result S VaultFault) (result : Result T SwizzleFault) → IsStoreCall a b most r → SameContents a b
    → (result ≡ Err (Vault Device) → r ≡ Err Device) → result ≢ Err (Vault Output) → ((used wanted capacity : ℕ) → result ≢ Err (Vault (Full used wanted capacity)))
    → ((held wanted pages : ℕ) → result ≢ Err (Vault (NoPages held wanted pages)))
    → OnOk result (AreFew a.device_calls b.device_calls (top_of new - top_of old)) → IsTouchCall old new a b result
touch-one old new a b most r result call same device output full pages calls = record {
  told = call.told;
  images = call.images;
  contents = same;
  counts = call.counts;
  output = call.output;
  cause = λ e. call.cause (device e);
  other = output;
  full = full;
  pages = pages;
  calls = calls;
}

pub rose_more : (a b c : ℕ) → a ≤ b → Rose b c → Rose a c
rose_more a b c le (inl h) = inl (omega arith)
rose_more a b c le (inr e) = inr e

-- two calls, of which the first was answered
pub touch-two : {R S T : Type 0} (old new : Heap) (a b c : Outside Space) (most next : ℕ) (q : Result R VaultFault) (r : Result S VaultFault) (result : Result T SwizzleFault) → IsStoreCall a b most q → SameContents a b → IsStoreCall b c next r → SameContents b c
    → (result ≡ Err (Vault Device) → r ≡ Err Device) → result ≢ Err (Vault Output) → ((used wanted capacity : ℕ) → result ≢ Err (Vault (Full used wanted capacity)))
    → ((held wanted pages : ℕ) → result ≢ Err (Vault (NoPages held wanted pages)))
    → OnOk result (AreFew a.device_calls c.device_calls (top_of new - top_of old)) → IsTouchCall old new a c result
touch-two old new a b c most next q r result first same second same_too device output full pages calls = record {
  told = along_then first.told second.told (λ x is. along_now first.told x is);
  images = along_then first.images second.images (λ x is. along_now first.images x is);
  contents = record { kept = λ x is. same_too.kept x (same.kept x is); no_other = λ x is. same.no_other x (same_too.no_other x is) };
  counts = omega (arith, first.counts, second.counts);
  output = second.output ∙ first.output;
  cause = λ e. rose_more a.device_faults b.device_faults c.device_faults first.counts (second.cause (device e));
  other = output;
  full = full;
  pages = pages;
  calls = calls;
}

-- after more of the touch, which reaches no vault
pub call-ok : {S T : Type 0} (old mid new : Heap) (a b : Outside Space) (x : S) (y : T) → IsTouchCall old mid a b (Ok x) → top_of new ≡ top_of mid → IsTouchCall old new a b (Ok y)
call-ok old mid new a b x y call top = record {
  told = call.told;
  images = call.images;
  contents = call.contents;
  counts = call.counts;
  output = call.output;
  cause = λ e. absurd (cc);
  other = λ e. cc;
  full = λ used wanted capacity e. cc;
  pages = λ held wanted pages e. cc;
  calls = elim (call.calls) [ inl none ↦ inl none | inr some ↦ inr (omega (arith, some.0, top), omega (arith, some.1, top)) ];
}

pub ref-top : (heap : Heap) (at slot : ℕ) (to : Reference) → IsHeld heap at → top_of (with_ref heap at slot to) ≡ top_of heap
ref-top heap at slot to held =
    let o = object_at heap at in
    omega (arith, size-replaced 1 heap.objects at o (record o { refs = set o.refs slot to }) (held_is heap at held) refl)

-- a PID that is near is one of an object of the area
pub near-local : (heap : Heap) (pid : ℕ) → IsHeap heap → IsNear heap (Pid pid) → (at : ℕ) × (local_of heap pid ≡ Some at)
unfolding pid_in
near-local heap pid h (inl nil) = absurd (cc)
near-local heap pid h (inr n) =
    let a = header_at heap n.0 in
    elim (cases_eq a.pid 0) [
      | inl none ↦ let bad : Local n.0 ≡ Pid pid = sym (name-none a n.0 none) ∙ n.2 in absurd (cc)
      | inr some ↦
          let same : a.pid ≡ pid = ap pid_in (sym (name-pid a n.0 (omega arith)) ∙ n.2) in
          (n.0, ap (local_of heap) (sym same) ∙ h.one n.0 (object_at heap n.0) (held_is heap n.0 n.1) (omega arith))
    ]
