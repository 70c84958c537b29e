-- New texts beside a vault, and what the operators on texts answer.
use Rattle.std.proofs.Common.{arith, ◌≡◌, ℕ, ◌+◌, ◌<◌, ◌^◌, List, [], ◌∷◌, ◌++◌, length, refl, sym, ap, ◌∙◌, subst, Bool, true, false, if◌then◌else◌}
use Rattle.std.specs.Fmt.{signed_decimal}
use Rattle.std.proofs.lemmas.Fmt.{IsAscii-signed}
use lib.Signed.{mag}
use Rattle.std.specs.Prelude.{ℤ, Result, Ok, Err, IfOk, take, drop, pos, suc, zero, negsuc, nat_lt}
use Rattle.heap_meaning.specs.obj_area.Words.{AreBytes}
use Rattle.heap_meaning.proofs.of_obj_area.WordLaws.{AreBytes-take, AreBytes-drop}
use Rattle.heap_meaning.specs.ps_base.declared.trap.Trap.TheVariants as trap
use Rattle.heap_meaning.specs.ps_outside.Outside.{Outside}
use Rattle.heap_meaning.specs.obj_layout.Objects as layout
use Rattle.heap_meaning.specs.obj_layout.Objects.{HasContents}
use Rattle.heap_meaning.specs.obj_layout.Stored.{Space}
use Rattle.heap_meaning.specs.obj_layout.declared.reference.Reference as reference
use Rattle.heap_meaning.specs.swizzle.declared.fault.SwizzleFault.{SwizzleFault}
use Rattle.heap_meaning.specs.swizzle.Objects.{Object, size_of_all}
use Rattle.heap_meaning.specs.swizzle.Heap as area
use Rattle.heap_meaning.specs.swizzle.Heap.{IsHeap, IsHeld, IsMade, IsFull, header_at, object_at, top_of, with_new}
use Rattle.heap_meaning.specs.swizzle.Text.{text_of, text_at}
use Rattle.heap_meaning.proofs.of_swizzle.ObjectLaws.{size_of_all-append, split}
use Rattle.heap_meaning.proofs.of_swizzle.KeptLaws.{held_is}
use Rattle.heap_meaning.proofs.of_swizzle.MadeLaws.{made-held, made-object}
use Rattle.heap_meaning.specs.heap_texts.Texts.{text_object, text_nums, wanted_of, GivesText}
use Rattle.heap_meaning.specs.heap_texts.Texts as made
use Rattle.heap_meaning.specs.heap_texts.declared.fault.OpFault.{OpFault}
use Rattle.heap_meaning.specs.heap_texts.declared.fault.OpFault.TheVariants as op
use Rattle.heap_meaning.specs.ps_heap.Texts.{Attempt, Yields, Fails, join_of, part_of, string_of, is_string}
use Rattle.heap_meaning.specs.ps_heap.Objects.{Heap}
use Rattle.heap_meaning.specs.ps_heap.Weights.{text_weight}
use Rattle.heap_meaning.proofs.of_proc_values.WrittenLaws.{text-of_text}
use Rattle.heap_meaning.specs.swizzle.Touch.{Keeps}
use Rattle.joint_ops.specs.World.{IsWorld, Stands}
use Rattle.joint_ops.specs.Made.{IsNewText, MakesText, BreaksAsMaking}
use Rattle.joint_ops.proofs.GainLaws.{made-gains, gains-stands, nothing-done}
use Rattle.joint_ops.proofs.ValueLaws.{denotes-text, text-bytes}
use Rattle.joint_ops.proofs.GrowthLaws.{made-keeps, same-keeps, made-top, full-short, full-breaks}

-- The operators yield bytes.

bytes-append : (a b : List ℕ) → AreBytes a → AreBytes b → AreBytes (a ++ b)
bytes-append [] b ga gb k = gb k
bytes-append (x ∷ xs) b ga gb zero = ga 0
bytes-append (x ∷ xs) b ga gb (suc k) = bytes-append xs b (λ j. ga (suc j)) gb k

join-good : (a b bytes : List ℕ) → AreBytes a → AreBytes b → join_of a b ≡ Yields bytes → AreBytes bytes
join-good a b bytes ga gb e = of (is_string (a ++ b)) e
  where
    of : (s : Bool) → (if s then Yields (a ++ b) else Fails trap.TooLong) ≡ Yields bytes
        → AreBytes bytes
    of true q = let same : a ++ b ≡ bytes = cc in subst AreBytes same (bytes-append a b ga gb)
    of false q = absurd (cc)

part-good : (text bytes : List ℕ) (from count : ℤ) → AreBytes text → part_of text from count ≡ Yields bytes → AreBytes bytes
part-good text bytes (pos zero) count g e = absurd (cc)
part-good text bytes (negsuc n) count g e = absurd (cc)
part-good text bytes (pos (suc before)) (negsuc n) g e = absurd (cc)
part-good text bytes (pos (suc before)) (pos count) g e = of (nat_lt (length text) (before + count)) e
  where
    of : (s : Bool) → (if s then Fails trap.Substring else Yields
        (take count (drop before text))) ≡ Yields bytes → AreBytes bytes
    of true q = absurd (cc)
    of false q = let same : take count (drop before text) ≡ bytes = cc in
        subst AreBytes same (AreBytes-take count (drop before text) (AreBytes-drop before text g))

pub string-good : (of : List ℕ) → AreBytes of → (bytes : List ℕ) → string_of of ≡ Yields bytes → AreBytes bytes
string-good of good bytes e = cases (is_string of) e
  where
    cases : (s : Bool) → (if s then Yields of else Fails trap.TooLong) ≡ Yields bytes → AreBytes bytes
    cases true q = let same : of ≡ bytes = cc in subst AreBytes same good
    cases false q = absurd (cc)

-- The text of an int is made of bytes.
pub int-good : (z : ℤ) → mag z < 2 ^ 63 → AreBytes (signed_decimal z)
int-good z lt k = omega (arith, IsAscii-signed z lt k)

-- A text of the area is not longer than the area.
pub text-small : (here : area.Heap) (at : ℕ) → IsHeap here → IsHeld here at → (header_at here at).bytes < 2 ^ 31
text-small here at h held =
    let o = object_at here at in
    let s = split 1 here.objects at o h.fit (held_is here at held) in
    let sizes = ap size_of_all s.is ∙ size_of_all-append s.front (o ∷ s.back) in
    let room = s.fit.bytes in
    omega (arith, sizes, room, h.within, h.small)

-- The object of a text has the counts of one.
pub text-whole : (bytes : List ℕ) → HasContents (text_object bytes).header (layout.text (length bytes))
unfolding text_object
text-whole bytes = record { kind = refl; counted = refl; allowed = tt }

module _ (outside : Outside Space) where
  -- A text was made.
  pub new-text : (old new : area.Heap) (of : Heap) (names : List reference.Reference) (bytes : List ℕ) (at : ℕ) → IsHeap old → IsHeap new → AreBytes bytes
      → IsWorld old outside of names → IsMade old new at (text_object bytes) → IsNewText old new outside of names bytes at
  unfolding text_object
  new-text old new of names bytes at h now good w m =
      let there = made-object old new at (text_object bytes) m in
      record {
        stands = gains-stands old new outside outside of names
            (made-gains old new outside at (text_object bytes) (layout.text (length bytes)) h now (λ slot to e. absurd (cc)) refl (text-whole bytes) m) w;
        top = omega (arith, made-top old new at (text_object bytes) m);
        denotes = denotes-text new outside names at bytes (made-held old new at (text_object bytes) m) (ap (λ (o : Object). o.header.kind) there)
            (ap text_of there ∙ text-of_text bytes good);
      }

  -- What an operator on texts gives.
  pub gives-text : (old new : area.Heap) (of : Heap) (names : List reference.Reference) (attempt : Attempt (List ℕ)) (result : Result ℕ OpFault)
      → IsHeap old → IsHeap new → ((bytes : List ℕ) → attempt ≡ Yields bytes → AreBytes bytes) → IsWorld old outside of names
      → GivesText old new attempt result → MakesText old new outside of names attempt result
  gives-text old new of names (Yields bytes) (Ok at) h now good w g = (bytes, refl, new-text old new of names bytes at h now (good bytes refl) w g)
  gives-text old new of names (Yields bytes) (Err (op.Swizzle fault)) h now good w g =
      (bytes, refl, full-short old new (4 + text_nums (length bytes)) (text_weight bytes) fault g (omega arith))
  gives-text old new of names (Yields bytes) (Err (op.Trap t)) h now good w g = absurd g
  gives-text old new of names (Fails why) (Ok at) h now good w g = let bad = g.0 in absurd (cc)
  gives-text old new of names (Fails why) (Err (op.Swizzle fault)) h now good w g = let bad = g.0 in absurd (cc)
  gives-text old new of names (Fails why) (Err (op.Trap t)) h now good w g = (
    (let same = g.0 in cc),
    subst (λ (x : area.Heap). Stands old x outside outside of names) (sym (g.1)) (nothing-done old outside of names h w),
  )

  -- a text that is made of given bytes
  pub makes-text : (old new : area.Heap) (of : Heap) (names : List reference.Reference) (bytes : List ℕ) (at : ℕ) → IsHeap old → IsHeap new → AreBytes bytes
      → IsWorld old outside of names
      → made.MakesText old new bytes (Ok at) → MakesText old new outside of names (Yields bytes) (Ok at)
  makes-text old new of names bytes at h now good w m = (bytes, refl, new-text old new of names bytes at h now good w m)

  pub makes-no_text : (old new : area.Heap) (of : Heap) (names : List reference.Reference) (bytes : List ℕ) (fault : SwizzleFault)
      → made.MakesText old new bytes (Err fault) → MakesText old new outside of names (Yields bytes) (Err (op.Swizzle fault))
  makes-no_text old new of names bytes fault m =
      (bytes, refl, full-short old new (4 + text_nums (length bytes)) (text_weight bytes) fault m (omega arith))

  -- One text after the other.
  pub joins : (old new : area.Heap) (of : Heap) (names : List reference.Reference) (a b : ℕ) (v w : List ℕ) (result : Result ℕ OpFault) → IsHeap old → IsHeap new
      → IsWorld old outside of names
      → text_at old a ≡ v → text_at old b ≡ w → GivesText old new (join_of (text_at old a) (text_at old b)) result
      → MakesText old new outside of names (join_of v w) result
  joins old new of names a b v w result h now world ea eb g =
      subst (λ (x : List ℕ). MakesText old new outside of names (join_of x w) result) ea
      (subst (λ (y : List ℕ). MakesText old new outside of names (join_of (text_at old a) y) result) eb
      (gives-text old new of names (join_of (text_at old a) (text_at old b)) result h now
      (λ bytes e. join-good (text_at old a) (text_at old b) bytes (text-bytes old a) (text-bytes old b) e) world g))

  -- A part of a text.
  pub parts : (old new : area.Heap) (of : Heap) (names : List reference.Reference) (a : ℕ) (from count f k : ℤ) (v : List ℕ)
      (result : Result ℕ OpFault) → IsHeap old → IsHeap new → IsWorld old outside of names
      → text_at old a ≡ v → f ≡ from → k ≡ count → GivesText old new (part_of (text_at old a) f k) result
      → MakesText old new outside of names (part_of v from count) result
  parts old new of names a from count f k v result h now world ea ef ek g =
      subst (λ (x : List ℕ). MakesText old new outside of names (part_of x from count) result) ea
      (subst (λ (z : ℤ). MakesText old new outside of names (part_of (text_at old a) z count) result) ef
      (subst (λ (z : ℤ). MakesText old new outside of names (part_of (text_at old a) f z) result) ek
      (gives-text old new of names (part_of (text_at old a) f k) result h now
      (λ bytes e. part-good (text_at old a) bytes f k (text-bytes old a) e) world g)))

  pub int-made : (old new : area.Heap) (of : Heap) (names : List reference.Reference) (z y : ℤ) (at : ℕ) → IsHeap old → IsHeap new → mag z < 2 ^ 63 → y ≡ z
      → IsWorld old outside of names
      → made.MakesText old new (signed_decimal y) (Ok at) → MakesText old new outside of names (Yields (signed_decimal z)) (Ok at)
  int-made old new of names z y at h now lt same w m =
      makes-text old new of names (signed_decimal z) at h now (int-good z lt) w
      (subst (λ (x : ℤ). made.MakesText old new (signed_decimal x) (Ok at)) same m)

  pub int-full : (old new : area.Heap) (of : Heap) (names : List reference.Reference) (z y : ℤ) (fault : SwizzleFault) → y ≡ z
      → made.MakesText old new (signed_decimal y) (Err fault) → MakesText old new outside of names (Yields (signed_decimal z)) (Err (op.Swizzle fault))
  int-full old new of names z y fault same m =
      makes-no_text old new of names (signed_decimal z) fault (subst (λ (x : ℤ). made.MakesText old new (signed_decimal x) (Err fault)) same m)

-- What is said whatever the vault.

pub text-breaks : (old new : area.Heap) (attempt : Attempt (List ℕ)) (result : Result ℕ OpFault) → GivesText old new attempt result
    → BreaksAsMaking old new result
text-breaks old new attempt (Ok at) g = tt
text-breaks old new attempt (Err (op.Trap t)) g = tt
text-breaks old new (Yields bytes) (Err (op.Swizzle fault)) g = full-breaks old new (wanted_of (4 + text_nums (length bytes))) fault g
text-breaks old new (Fails why) (Err (op.Swizzle fault)) g = let bad = g.0 in absurd (cc)

pub int-breaks : (old new : area.Heap) (bytes : List ℕ) (fault : SwizzleFault) → made.MakesText old new bytes (Err fault)
    → BreaksAsMaking {T = ℕ} old new (Err (op.Swizzle fault))
int-breaks old new bytes fault m = full-breaks old new (wanted_of (4 + text_nums (length bytes))) fault m

pub text-held : (old new : area.Heap) (attempt : Attempt (List ℕ)) (result : Result ℕ OpFault) → GivesText old new attempt result
    → IfOk result (IsHeld new)
text-held old new (Yields bytes) (Ok at) g = made-held old new at (text_object bytes) g
text-held old new (Fails why) (Ok at) g = let bad = g.0 in absurd (cc)
text-held old new attempt (Err fault) g = tt

pub text-keeps : (old new : area.Heap) (attempt : Attempt (List ℕ)) (result : Result ℕ OpFault) → IsHeap old → GivesText old new attempt result
    → Keeps old new
text-keeps old new (Yields bytes) (Ok at) h g = made-keeps old new at (text_object bytes) h g
text-keeps old new (Yields bytes) (Err (op.Swizzle fault)) h g = same-keeps old new g.stays
text-keeps old new (Yields bytes) (Err (op.Trap t)) h g = absurd g
text-keeps old new (Fails why) result h g = same-keeps old new (g.1)

pub int-held : (old new : area.Heap) (bytes : List ℕ) (at : ℕ) → made.MakesText old new bytes (Ok at) → IsHeld new at
int-held old new bytes at m = made-held old new at (text_object bytes) m

pub int-keeps : (old new : area.Heap) (bytes : List ℕ) (result : Result ℕ SwizzleFault) → IsHeap old → made.MakesText old new bytes result
    → Keeps old new
int-keeps old new bytes (Ok at) h m = made-keeps old new at (text_object bytes) h m
int-keeps old new bytes (Err fault) h m = same-keeps old new m.stays
