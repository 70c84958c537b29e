-- Touches one after another.
use Rattle.std.proofs.Common.{inl, inr, ◌⊎◌, ◌≡◌, ◌*◌, ℕ, List, [], ◌∷◌, ◌++◌, refl, ap, sym, subst, ◌∙◌, arith}
use Rattle.std.specs.Prelude.{Result, Ok, Err, take, drop}
use Rattle.obj_layout.specs.ps_outside.Outside.{Outside}
use Rattle.obj_layout.proofs.of_ps_outside.Moments.{along_none, along_then, along_now}
use Rattle.obj_area.specs.Words.{bytes_of}
use Rattle.obj_layout.specs.Stored.{Space}
use Rattle.obj_layout.specs.declared.reference.Reference.{Reference}
use Rattle.obj_layout.specs.declared.reference.Reference.TheVariants.{Nil}
use Rattle.swizzle.specs.declared.fault.SwizzleFault.{SwizzleFault}
use Rattle.swizzle.specs.Objects.{words_before}
use Rattle.swizzle.specs.Heap.{Heap, IsHeld, top_of}
use Rattle.swizzle.specs.Joint.{Shown, name_at}
use Rattle.swizzle.specs.Changes.{IsKnown, Within, Touched}
use Rattle.swizzle.specs.Touch.{Keeps, Only, IsNear, IsTouchCall}
use Rattle.swizzle.specs.Reading.{joint, AreKnown, AreNear, IsAmong, LeavesOutside, Reads, FailsReading, TextsStay}
use Rattle.swizzle.proofs.TouchLaws.{keeps-refl, keeps-trans, rose_more}

pub leaves-none : (outside : Outside Space) → LeavesOutside outside outside
leaves-none outside = record {
  told = along_none outside.clock outside.told;
  images = along_none outside.clock outside.images;
  contents = record { kept = λ x is. is; no_other = λ x is. is };
  counts = omega arith;
  output = refl;
}

pub leaves-then : (a b c : Outside Space) → LeavesOutside a b → LeavesOutside b c → LeavesOutside a c
leaves-then a b c first second = record {
  told = along_then first.told second.told (λ x is. along_now first.told x is);
  images = along_then first.images second.images (λ x is. along_now first.images x is);
  contents = record { kept = λ x is. second.contents.kept x (first.contents.kept x is); no_other = λ x is. first.contents.no_other x (second.contents.no_other x is) };
  counts = omega (arith, first.counts, second.counts);
  output = second.output ∙ first.output;
}

pub leaves-touch : {T : Type 0} (old new : Heap) (a b : Outside Space) (result : Result T SwizzleFault) → IsTouchCall old new a b result → LeavesOutside a b
leaves-touch old new a b result call = record { told = call.told; images = call.images; contents = call.contents; counts = call.counts; output = call.output }

-- Nothing was touched.
pub reads-none : (heap : Heap) (outside : Outside Space) (names : List Reference) → Reads heap heap outside outside names
reads-none heap outside names = record {
  keeps = keeps-refl heap;
  grows = λ n it j. j;
  no_more = λ known n it j. j;
  idle = λ near. refl;
  only = λ at held. inl held;
  outside = leaves-none outside;
  calls = omega arith;
}

-- One touch.
pub reads-touch : {T : Type 0} (old new : Heap) (a b : Outside Space) (name : Reference) (x : T) → Keeps old new → Touched (joint old a) (joint new b) name → (IsNear old name → top_of new ≡ top_of old) → Only old new name → IsTouchCall old new a b (Ok x) → Reads old new a b (name ∷ [])
reads-touch old new a b name x keeps touched near only call = record {
  keeps = keeps;
  grows = touched.grows;
  no_more = λ known n it j. touched.no_more (known.0) n it j;
  idle = λ all. near (all.0);
  only = λ at held. elim (only at held) [ inl was ↦ inl was | inr is ↦ inr (inl is) ];
  outside = leaves-touch old new a b (Ok x) call;
  calls = elim (call.calls) [ inl none ↦ omega (arith, none) | inr some ↦ omega (arith, some.0, some.1) ];
}

-- a name among some is among more
pub among-first : (n : Reference) (names more : List Reference) → IsAmong n names → IsAmong n (names ++ more)
among-first n [] more k = absurd k
among-first n (m ∷ ms) more (inl e) = inl e
among-first n (m ∷ ms) more (inr k) = inr (among-first n ms more k)

pub among-last : (n : Reference) (names more : List Reference) → IsAmong n more → IsAmong n (names ++ more)
among-last n [] more k = k
among-last n (m ∷ ms) more k = inr (among-last n ms more k)

-- a name among known ones is nil or known
pub among-known : (seen : Reference → Shown → Type 0) (n : Reference) (names : List Reference) → AreKnown seen names → IsAmong n names → (n ≡ Nil) ⊎ IsKnown seen n
among-known seen n [] known k = absurd k
among-known seen n (m ∷ ms) known (inl e) = elim (known.0) [ inl nil ↦ inl (e ∙ nil) | inr is ↦ inr (subst (IsKnown seen) (sym e) is) ]
among-known seen n (m ∷ ms) known (inr k) = among-known seen n ms known.1 k

known-first : (seen : Reference → Shown → Type 0) (names more : List Reference) → AreKnown seen (names ++ more) → AreKnown seen names
known-first seen [] more k = tt
known-first seen (n ∷ ns) more k = (k.0, known-first seen ns more k.1)

known-last : (seen : Reference → Shown → Type 0) (names more : List Reference) → AreKnown seen (names ++ more) → AreKnown seen more
known-last seen [] more k = k
known-last seen (n ∷ ns) more k = known-last seen ns more k.1

known-grows : (seen now : Reference → Shown → Type 0) (names : List Reference) → Within seen now → AreKnown seen names → AreKnown now names
known-grows seen now [] grows k = tt
known-grows seen now (n ∷ ns) grows k = (elim (k.0) [ inl nil ↦ inl nil | inr is ↦ inr (record { it = is.it; is = grows n is.it is.is }) ], known-grows seen now ns grows k.1)

near-first : (heap : Heap) (names more : List Reference) → AreNear heap (names ++ more) → AreNear heap names
near-first heap [] more k = tt
near-first heap (n ∷ ns) more k = (k.0, near-first heap ns more k.1)

near-last : (heap : Heap) (names more : List Reference) → AreNear heap (names ++ more) → AreNear heap more
near-last heap [] more k = k
near-last heap (n ∷ ns) more k = near-last heap ns more k.1

-- names of objects that stay are near still
pub near-kept : (old new : Heap) (names : List Reference) → Keeps old new → AreNear old names → AreNear new names
near-kept old new [] keeps k = tt
near-kept old new (n ∷ ns) keeps k = (
  elim (k.0) [
    | inl nil ↦ inl nil
    | inr there ↦ let s = keeps.objects (there.0) (there.1) in inr (there.0, s.held, s.name ∙ there.2)
  ],
  near-kept old new ns keeps k.1,
)

-- Two readings.
pub reads-then : (old mid new : Heap) (a b c : Outside Space) (names more : List Reference) → Reads old mid a b names → Reads mid new b c more → Reads old new a c (names ++ more)
reads-then old mid new a b c names more first second = record {
  keeps = keeps-trans old mid new first.keeps second.keeps;
  grows = λ n it j. second.grows n it (first.grows n it j);
  no_more = λ known n it j.
      first.no_more (known-first (joint old a) names more known) n it
      (second.no_more (known-grows (joint old a) (joint mid b) more first.grows (known-last (joint old a) names more known)) n it j);
  idle = λ near. second.idle (near-kept old mid more first.keeps (near-last old names more near)) ∙ first.idle (near-first old names more near);
  only = λ at held. elim (second.only at held) [
    | inl between ↦ elim (first.only at between) [
      | inl was ↦ inl was
      | inr is ↦ inr (among-first (name_at new at) names more (subst (λ n. IsAmong n names) (sym (second.keeps.objects at between).name) is))
    ]
    | inr is ↦ inr (among-last (name_at new at) names more is)
  ];
  outside = leaves-then a b c first.outside second.outside;
  calls = omega (arith, first.calls, second.calls, first.keeps.top, second.keeps.top);
}

-- A touch that failed.
pub fails-touch : {T : Type 0} (old new : Heap) (a b : Outside Space) (fault : SwizzleFault) → IsTouchCall {T = T} old new a b (Err fault) → FailsReading a b fault
fails-touch old new a b fault call = record {
  outside = leaves-touch old new a b (Err fault) call;
  cause = λ e. call.cause (ap Err e);
  other = λ e. call.other (ap Err e);
  full = λ used wanted capacity e. call.full used wanted capacity (ap Err e);
  pages = λ held wanted pages e. call.pages held wanted pages (ap Err e);
}

-- A reading that failed after another.
pub fails-then : (old new : Heap) (a b c : Outside Space) (names : List Reference) (fault : SwizzleFault) → Reads old new a b names → FailsReading b c fault → FailsReading a c fault
fails-then old new a b c names fault first second = record {
  outside = leaves-then a b c first.outside second.outside;
  cause = λ e. rose_more a.device_faults b.device_faults c.device_faults first.outside.counts (second.cause e);
  other = second.other;
  full = second.full;
  pages = second.pages;
}

-- Texts stay where objects do.
pub texts-kept : (old new : Heap) → Keeps old new → TextsStay old new
texts-kept old new keeps at held is =
    let s = keeps.objects at held in
    let kinds = ap (λ (it : Shown). it.kind) s.shown_as in
    record {
      held = s.held;
      kind = kinds ∙ is;
      bytes = ap (λ (it : Shown). take it.bytes (drop (8 * words_before it.kind) (bytes_of it.nums))) s.shown_as;
    }

pub texts-then : (a b c : Heap) → TextsStay a b → TextsStay b c → TextsStay a c
texts-then a b c first second at held is =
    let s = first at held is in
    let t = second at s.held s.kind in
    record { held = t.held; kind = t.kind; bytes = t.bytes ∙ s.bytes }
