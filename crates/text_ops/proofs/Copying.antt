-- Texts that are copied into one that is being made.
use Rattle.std.proofs.Common.{SFits, w32, to_z, of_z, inl, ◌≡◌, ℕ, ◌+◌, ◌*◌, ◌<◌, ◌≤◌, ◌^◌, List, ◌++◌, length, take, drop, sym, ap, ◌∙◌, subst, arith, append_assoc, length-append, length-drop}
use Rattle.std.specs.Prelude.{Bool, ℤ, Result, Ok, Err, if◌then◌else◌}
use Rattle.std.specs.Result.{IsErrAnd}
use Rattle.std.proofs.lemmas.Bool.{lt-ltb}
use Rattle.std.proofs.lemmas.Int.{to_z-of_z}
use Rattle.std.proofs.lemmas.List.{drop-drop, drop_at, length-replicate, length-take-le, take_at, take_all}
use Rattle.heap_texts.specs.obj_area.Words.{bytes_of, words_of, overwritten, AreBytes}
use Rattle.heap_texts.proofs.of_obj_area.AreaLaws.{length-overwritten, AreBytes-bytes_of, AreBelow-overwritten}
use Rattle.heap_texts.proofs.of_obj_area.WordLaws.{bytes_of-words_of, length-bytes_of, overwritten-inside}
use Rattle.heap_texts.specs.obj_layout.declared.kind.Kind.TheVariants.{Text}
use Rattle.heap_texts.specs.swizzle.Objects.{Object}
use Rattle.heap_texts.specs.swizzle.Heap.{Heap, IsFull, IsHeld, IsMade, header_at, object_at}
use Rattle.heap_texts.specs.swizzle.Text.{HasBytes, first_byte, text_at, with_bytes_at, with_text}
use Rattle.heap_texts.proofs.of_swizzle.MadeLaws.{made-held, made-object, made-other, made-text, texts-made}
use Rattle.heap_texts.proofs.of_swizzle.TextLaws.{text-bytes}
use Rattle.ps_base.specs.declared.trap.Trap.TheVariants.{TooLong}
use Rattle.heap_texts.specs.ps_heap.Texts.{Attempt, Yields, Fails, join_of, part_of}
use Rattle.heap_texts.specs.Texts.{GivesText, blank_text, text_nums, text_object, wanted_of}
use Rattle.heap_texts.specs.declared.fault.OpFault.{OpFault}
use Rattle.heap_texts.specs.declared.fault.OpFault.TheVariants.{Swizzle, Trap}
use Rattle.heap_texts.specs.swizzle.declared.fault.SwizzleFault.{SwizzleFault}

-- A text of before, beside an object that was made.
pub record Source (old mid : Heap) (at : ℕ) : Type 0 where
  pub held : IsHeld mid at
  pub kind : HasBytes (header_at mid at).kind
  pub bytes : (header_at mid at).bytes ≡ (header_at old at).bytes
  pub text : text_at mid at ≡ text_at old at

pub source : (old mid : Heap) (at : ℕ) (o : Object) (j : ℕ) → IsMade old mid at o → IsHeld old j → (header_at old j).kind ≡ Text → Source old mid j
source old mid at o j made held is =
    let text = texts-made old mid at o made j held is in
    record {
      held = text.held;
      kind = inl text.kind;
      bytes = ap (λ (x : Object). x.header.bytes) ((made-other old mid at o j made held).1);
      text = text.bytes;
    }

-- The text that was made.
pub record Target (mid : Heap) (at bytes : ℕ) : Type 0 where
  pub held : IsHeld mid at
  pub kind : HasBytes (header_at mid at).kind
  pub bytes_are : (header_at mid at).bytes ≡ bytes

pub target : (old mid : Heap) (at : ℕ) (o : Object) → IsMade old mid at o → o.header.kind ≡ Text → Target mid at o.header.bytes
target old mid at o made is =
    let there = made-object old mid at o made in
    record {
      held = made-held old mid at o made;
      kind = inl (ap (λ (x : Object). x.header.kind) there ∙ is);
      bytes_are = ap (λ (x : Object). x.header.bytes) there;
    }

-- The same after bytes were written over the one that was made.

pub source_now : (old mid new : Heap) (at start : ℕ) (o : Object) (bytes : List ℕ) (j : ℕ) → IsMade old mid at o → new ≡ with_text mid at start bytes
    → IsHeld old j → (header_at old j).kind ≡ Text → Source old new j
source_now old mid new at start o bytes j made e held is =
    source old new at (with_bytes_at o start bytes) j (made-text old mid new at start o bytes made e) held is

pub target_now : (old mid new : Heap) (at start : ℕ) (o : Object) (bytes : List ℕ) → IsMade old mid at o → new ≡ with_text mid at start bytes
    → o.header.kind ≡ Text → Target new at o.header.bytes
target_now old mid new at start o bytes made e is = target old new at (with_bytes_at o start bytes) (made-text old mid new at start o bytes made e) is

-- Two writes side by side are one.

over_twice : (items : List ℕ) (place : ℕ) (a b : List ℕ) → place + length a + length b ≤ length items
    → overwritten (overwritten items place a) (place + length a) b ≡ overwritten items place (a ++ b)
over_twice items place a b h =
    let n = place + length a in
    let front = take place items in
    let behind = drop n items in
    let together = length-append a b in
    let first : overwritten items place a ≡ (front ++ a) ++ behind =
    overwritten-inside items place a (omega arith) ∙ sym (append_assoc front a behind) in
    let long : length (front ++ a) ≡ n = length-append front a ∙ omega (arith, length-take-le place items (omega arith)) in
    let now = (front ++ a) ++ behind in
    let fits : n + length b ≤ length now = omega (arith, ap length first, length-overwritten items place a) in
    let rest : drop (n + length b) now ≡ drop (n + length b) items =
    sym (drop-drop (length b) n now) ∙ ap (drop (length b)) (drop_at (front ++ a) behind n long) ∙ drop-drop (length b) n items in
    let end : n + length b ≡ place + length (a ++ b) = omega arith in
    ap (λ (r : List ℕ). overwritten r n b) first
    ∙ overwritten-inside now n b fits
    ∙ ap (λ (r : List ℕ). r ++ (b ++ drop (n + length b) now)) (take_at (front ++ a) behind n long)
    ∙ ap (λ (r : List ℕ). (front ++ a) ++ (b ++ r)) rest
    ∙ append_assoc front a (b ++ drop (n + length b) items)
    ∙ ap (λ (r : List ℕ). front ++ r) (sym (append_assoc a b (drop (n + length b) items)))
    ∙ ap (λ (m : ℕ). front ++ ((a ++ b) ++ drop m items)) end
    ∙ sym (overwritten-inside items place (a ++ b) (omega arith))

bytes_twice : (o : Object) (start : ℕ) (a b : List ℕ) → AreBytes a → first_byte o + start + length a + length b ≤ 8 * length o.nums
    → with_bytes_at (with_bytes_at o start a) (start + length a) b ≡ with_bytes_at o start (a ++ b)
bytes_twice o start a b good h =
    let all = bytes_of o.nums in
    let place = first_byte o + start in
    let over = overwritten all place a in
    let la = length-bytes_of o.nums in
    let lo = length-overwritten all place a in
    let behind : first_byte o + (start + length a) ≡ place + length a = omega arith in
    let read : bytes_of (words_of over) ≡ over =
    bytes_of-words_of over (omega arith) (AreBelow-overwritten 256 all place a (omega arith) (AreBytes-bytes_of o.nums) good) in
    ap (λ (ns : List ℕ). record o { nums = words_of ns })
    (ap (λ (r : List ℕ). overwritten r (first_byte o + (start + length a)) b) read
    ∙ ap (λ (m : ℕ). overwritten over m b) behind
    ∙ over_twice all place a b (omega arith))

-- Two texts were copied into one, side by side.
pub joined : (old new : Heap) (at front back : ℕ) (a b : List ℕ) → front ≡ length a → back ≡ length b → AreBytes a
    → IsMade old new at (with_bytes_at (with_bytes_at (blank_text (front + back)) 0 a) front b) → IsMade old new at (text_object (a ++ b))
unfolding text_object
joined old new at front back a b e f good made =
    let n = length (a ++ b) in
    let o = blank_text n in
    let all : front + back ≡ n = omega (arith, length-append a b) in
    let place : front ≡ 0 + length a = omega arith in
    let same : with_bytes_at (with_bytes_at (blank_text (front + back)) 0 a) front b ≡ with_bytes_at o 0 (a ++ b) =
    ap (λ (m : ℕ). with_bytes_at (with_bytes_at (blank_text m) 0 a) front b) all
    ∙ ap (λ (m : ℕ). with_bytes_at (with_bytes_at o 0 a) m b) place
    ∙ bytes_twice o 0 a b good (omega (arith, length-append a b, length-replicate {A = ℕ} (text_nums n) 0)) in
    subst (IsMade old new at) same made

-- the bytes that were copied are those of the text
pub copied : (old mid : Heap) (j count : ℕ) → Source old mid j → count ≡ length (text_at old j) → take count (drop 0 (text_at mid j)) ≡ text_at old j
copied old mid j count s e = ap (λ (r : List ℕ). take count (drop 0 r)) s.text ∙ take_all count (text_at old j) (omega arith)

pub copied_bytes : (old mid : Heap) (j count : ℕ) → Source old mid j → count ≡ length (text_at old j) → AreBytes (text_at old j)
copied_bytes old mid j count s e = subst AreBytes (copied old mid j count s e) (text-bytes (object_at mid j) 0 count)

pub gives_joined : (old new : Heap) (at : ℕ) (a b : List ℕ) → length a + length b < 2 ^ 16 → IsMade old new at (text_object (a ++ b))
    → GivesText old new (join_of a b) (Ok at)
gives_joined old new at a b h made =
    let few = lt-ltb (length (a ++ b)) (2 ^ 16) (omega (arith, length-append a b)) in
    let is : join_of a b ≡ Yields (a ++ b) = ap (λ (t : Bool). if t then Yields (a ++ b) else Fails TooLong) few in
    subst (λ (r : Attempt (List ℕ)). GivesText old new r (Ok at)) (sym is) made

-- A part of a text was copied into one.

pub parted : (old new : Heap) (at n : ℕ) (a : List ℕ) → length a ≡ n → IsMade old new at (with_bytes_at (blank_text n) 0 a)
    → IsMade old new at (text_object a)
unfolding text_object
parted old new at n a e made = subst (λ (m : ℕ). IsMade old new at (with_bytes_at (blank_text m) 0 a)) (sym e) made

pub part_long : (bytes n count : ℕ) (text : List ℕ) → bytes ≡ length text → n + count ≤ bytes → length (take count (drop n text)) ≡ count
part_long bytes n count text e h = length-take-le count (drop n text) (omega (arith, length-drop n text))

-- ints that were passed
pub passed : (text : List ℕ) (from count : ℤ) (r : Attempt (List ℕ)) → SFits w32 from → SFits w32 count
    → part_of text (to_z w32 (of_z w32 from)) (to_z w32 (of_z w32 count)) ≡ r → part_of text from count ≡ r
passed text from count r f g e =
    ap (λ (z : ℤ). part_of text z count) (sym (to_z-of_z w32 from f)) ∙ ap (part_of text (to_z w32 (of_z w32 from))) (sym (to_z-of_z w32 count g)) ∙ e

pub gives_part : (old new : Heap) (at : ℕ) (text : List ℕ) (from count : ℤ) (bytes : List ℕ) → part_of text from count ≡ Yields bytes
    → IsMade old new at (text_object bytes) → GivesText old new (part_of text from count) (Ok at)
gives_part old new at text from count bytes is made = subst (λ (r : Attempt (List ℕ)). GivesText old new r (Ok at)) (sym is) made

-- There was no room for it.
full_by : (old new : Heap) (bytes : List ℕ) (n : ℕ) (fault : SwizzleFault) (result : Result ℕ OpFault) → length bytes ≡ n
    → IsFull old new (wanted_of (4 + text_nums n)) fault → IsErrAnd result (λ of. of ≡ Swizzle fault) → GivesText old new (Yields bytes) result
full_by old new bytes n fault (Ok at) e full is = absurd is
full_by old new bytes n fault (Err (Swizzle other)) e full is =
    let same : fault ≡ other = cc in
    subst (IsFull old new (wanted_of (4 + text_nums (length bytes)))) same (subst (λ (m : ℕ). IsFull old new (wanted_of (4 + text_nums m)) fault) (sym e) full)
full_by old new bytes n fault (Err (Trap trap)) e full is = absurd (cc)

pub gives_full : (old new : Heap) (text : List ℕ) (from count : ℤ) (bytes : List ℕ) (n : ℕ) (fault : SwizzleFault) (result : Result ℕ OpFault)
    → part_of text from count ≡ Yields bytes → length bytes ≡ n
    → IsFull old new (wanted_of (4 + text_nums n)) fault → IsErrAnd result (λ of. of ≡ Swizzle fault) → GivesText old new (part_of text from count) result
gives_full old new text from count bytes n fault result is e full err =
    subst (λ (r : Attempt (List ℕ)). GivesText old new r result) (sym is) (full_by old new bytes n fault result e full err)
