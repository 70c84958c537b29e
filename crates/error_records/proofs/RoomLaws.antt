-- The objects of an error record, one made after the other: what they take of the area, and where there was no room for one.
use Rattle.std.proofs.Common.{arith, inl, inr, ◌≡◌, ℕ, ◌+◌, ◌*◌, ◌<◌, List, length, refl, sym, ap, ◌∙◌, subst, Result, Err}
use Rattle.std.specs.Prelude.{IsErrAnd}
use Rattle.std.proofs.lemmas.Result.{err_from_is_err_and}
use Rattle.joint_held.specs.joint_ops.swizzle.declared.fault.SwizzleFault.{SwizzleFault}
use Rattle.joint_held.specs.joint_ops.swizzle.declared.fault.SwizzleFault.TheVariants.{AreaFull}
use Rattle.joint_held.specs.joint_ops.swizzle.Objects.{Object, size_of}
use Rattle.joint_held.specs.joint_ops.swizzle.Heap.{Heap, IsHeap, IsMade, IsFull, top_of}
use Rattle.joint_held.specs.joint_ops.swizzle.Touch.{Keeps}
use Rattle.joint_ops.proofs.of_swizzle.TouchLaws.{keeps-refl, keeps-trans}
use Rattle.joint_held.specs.joint_ops.heap_texts.Texts.{text_object, text_nums, wanted_of}
use Rattle.joint_ops.proofs.GrowthLaws.{made-keeps, made-top, same-keeps, full-short}
use Rattle.joint_held.specs.joint_ops.ps_heap.ps_typing.Library.{error_class}
use Rattle.joint_held.specs.joint_ops.ps_heap.Databases.{Fault, fault_text, explain_text}
use Rattle.joint_held.specs.joint_ops.ps_heap.Databases as databases
use Rattle.joint_held.specs.joint_ops.ps_heap.Weights.{text_weight}
use Rattle.error_records.specs.declared.refusals.Call.{Call}
use Rattle.error_records.specs.declared.refusals.Call.TheVariants as call
use Rattle.error_records.specs.Refusals.{context_of}
use Rattle.error_records.specs.Records.{IsPart, its_class, its_context, its_fault, its_explain, LacksRoom}
use Rattle.error_records.specs.inside.Texts.{IsTextMade, MakesPart}

-- objects of so many bytes were made, and all others stay
pub record IsAfter (old new : Heap) (bytes : ℕ) : Type 0 where
  pub keeps : Keeps old new
  pub top : 8 * top_of new ≡ 8 * top_of old + bytes

pub none-made : (heap : Heap) → IsAfter heap heap 0
none-made heap = record { keeps = keeps-refl heap; top = omega arith }

text-size : (bytes : List ℕ) → 8 * size_of (text_object bytes) ≡ text_weight bytes
unfolding text_object
text-size bytes = omega arith

pub one-more : (old mid new : Heap) (at before weight after : ℕ) (o : Object) → IsHeap mid → IsAfter old mid before → IsMade mid new at o → 8 * size_of o ≡ weight
    → after ≡ before + weight → IsAfter old new after
one-more old mid new at before weight after o h a m size sum = record {
  keeps = keeps-trans old mid new a.keeps (made-keeps mid new at o h m);
  top = omega (arith, a.top, made-top mid new at o m, size, sum);
}

pub text-more : (old mid new : Heap) (at before after : ℕ) (bytes : List ℕ) → IsAfter old mid before → IsTextMade mid new bytes at → after ≡ before + text_weight bytes
    → IsAfter old new after
text-more old mid new at before after bytes a t sum =
    one-more old mid new at before (text_weight bytes) after (text_object bytes) t.was_sound a t.made (text-size bytes) sum

-- There was no room for the next one.
pub no-room : (old mid new : Heap) (before weight words : ℕ) (context : List ℕ) (fault : Fault) (why : SwizzleFault) → IsAfter old mid before
    → IsFull mid new (wanted_of words) why → 8 * words ≡ weight → weight < 1000 → IsPart context fault before weight → LacksRoom old new context fault why × Keeps old new
no-room old mid new before weight words context fault why a full are small part =
    let short = full-short mid new words weight why full are in
    let size = a.keeps.size in (
      record {
        before = before;
        weight = weight;
        part = part;
        wanted = short.wanted;
        words = elim short.words [ inl same ↦ same | inr great ↦ absurd (omega (arith, great.0, great.1, small)) ];
        top = ap (λ (x : Heap). 8 * top_of x) short.stays ∙ a.top;
        size = ap (λ (x : Heap). x.size) short.stays ∙ size;
        fault_is = short.fault_is ∙ (ap (λ (x : Heap). AreaFull (top_of x) short.wanted mid.size) (sym short.stays) ∙ ap (λ (s : ℕ). AreaFull (top_of new) short.wanted s) size);
        full = subst (λ (x : Heap). old.size < top_of x + short.wanted) (sym short.stays) (subst (λ (s : ℕ). s < top_of mid + short.wanted) size short.full);
      },
      keeps-trans old mid new a.keeps (same-keeps mid new short.stays),
    )

no-text : (old mid new : Heap) (before : ℕ) (bytes context : List ℕ) (fault : Fault) (why : SwizzleFault) → IsAfter old mid before → MakesPart mid new bytes (Err why)
    → text_weight bytes < 1000 → IsPart context fault before (text_weight bytes) → LacksRoom old new context fault why × Keeps old new
no-text old mid new before bytes context fault why a full small part =
    no-room old mid new before (text_weight bytes) (4 + text_nums (length bytes)) context fault why a full (omega arith) small part

-- The texts are short.

pub short-context : (by : Call) → text_weight (context_of by) < 1000
short-context call.Create = omega arith
short-context call.Open = omega arith
short-context call.Commit = omega arith

pub short-fault : (fault : Fault) → text_weight (fault_text fault) < 1000
short-fault databases.BadName = omega arith
short-fault databases.BadPassword = omega arith
short-fault databases.Exists = omega arith
short-fault databases.TooMany = omega arith
short-fault databases.NoSuchDatabase = omega arith
short-fault databases.WrongPassword = omega arith
short-fault databases.BadMode = omega arith
short-fault databases.NotWritable = omega arith
short-fault databases.BusyWriter = omega arith
short-fault databases.StaleStart = omega arith

pub short-explain : (fault : Fault) → text_weight (explain_text fault) < 1000
short-explain databases.BadName = omega arith
short-explain databases.BadPassword = omega arith
short-explain databases.Exists = omega arith
short-explain databases.TooMany = omega arith
short-explain databases.NoSuchDatabase = omega arith
short-explain databases.WrongPassword = omega arith
short-explain databases.BadMode = omega arith
short-explain databases.NotWritable = omega arith
short-explain databases.BusyWriter = omega arith
short-explain databases.StaleStart = omega arith

-- The texts one after the other, and where there was no room for the next.

pub class-after : (old first : Heap) (at : ℕ) → IsTextMade old first error_class at → IsAfter old first (text_weight error_class)
class-after old first at t = text-more old old first at 0 (text_weight error_class) error_class (none-made old) t (omega arith)

pub context-after : (old first second : Heap) (at : ℕ) (context : List ℕ) → IsAfter old first (text_weight error_class) → IsTextMade first second context at
    → IsAfter old second (text_weight error_class + text_weight context)
context-after old first second at context a t =
    text-more old first second at (text_weight error_class) (text_weight error_class + text_weight context) context a t refl

pub fault-after : (old second third : Heap) (at : ℕ) (context : List ℕ) (fault : Fault) → IsAfter old second (text_weight error_class + text_weight context)
    → IsTextMade second third (fault_text fault) at → IsAfter old third (text_weight error_class + text_weight context + text_weight (fault_text fault))
fault-after old second third at context fault b t =
    text-more old second third at (text_weight error_class + text_weight context) (text_weight error_class + text_weight context + text_weight (fault_text fault))
    (fault_text fault) b t refl

pub no-class : (old new : Heap) (context : List ℕ) (fault : Fault) (why : SwizzleFault) → MakesPart old new error_class (Err why)
    → LacksRoom old new context fault why × Keeps old new
no-class old new context fault why full = no-text old old new 0 error_class context fault why (none-made old) full (omega arith) its_class

module _ (old first : Heap) (class : ℕ) (class_made : IsTextMade old first error_class class) (by : Call) (fault : Fault) where
  abbrev context : List ℕ
  context = context_of by

  pub no-context : (new : Heap) (why : SwizzleFault) → MakesPart first new context (Err why) → LacksRoom old new context fault why × Keeps old new
  no-context new why full =
      no-text old first new (text_weight error_class) context context fault why (class-after old first class class_made) full (short-context by) its_context

  module _ (second : Heap) (at : ℕ) (context_made : IsTextMade first second context at) where
    both-after : IsAfter old second (text_weight error_class + text_weight context)
    both-after = context-after old first second at context (class-after old first class class_made) context_made

    pub no-fault : (new : Heap) (why : SwizzleFault) → MakesPart second new (fault_text fault) (Err why) → LacksRoom old new context fault why × Keeps old new
    no-fault new why full =
        no-text old second new (text_weight error_class + text_weight context) (fault_text fault) context fault why both-after full (short-fault fault) its_fault

    pub no-explain : (third new : Heap) (named : ℕ) (why : SwizzleFault) → IsTextMade second third (fault_text fault) named → MakesPart third new (explain_text fault) (Err why)
        → LacksRoom old new context fault why × Keeps old new
    no-explain third new named why fault_made full =
        no-text old third new (text_weight error_class + text_weight context + text_weight (fault_text fault)) (explain_text fault) context fault why
        (fault-after old second third named context fault both-after fault_made) full (short-explain fault) its_explain

-- the exit of a `?`
pub exits : {T : Type 0} (r : Result T SwizzleFault) (P : Result T SwizzleFault → Type 0) (why : SwizzleFault) → IsErrAnd r (λ y. y ≡ why) → P (Err why) → P r
exits r P why is h =
    let p = err_from_is_err_and r is in
    subst P (sym (p.1 ∙ ap (λ (y : SwizzleFault). Err y) p.2)) h
