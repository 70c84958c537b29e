-- Worked spaces: objects of few words, one after the other, and what is seen of them.
use Rattle.std.proofs.Common.{◌≡◌, ℕ, zero, suc, ◌+◌, ◌*◌, ◌^◌, ◌<◌, ◌≤◌, Bool, true, false, nat_lt, List, [], ◌∷◌, ◌++◌, length, take, slice_index, refl, arith}
use Rattle.std.specs.Prelude.{if◌then◌else◌}
use Rattle.std.proofs.lemmas.Bool.{ltb-true, false≢true}
use Rattle.heap_meaning.specs.obj_layout.declared.kind.Kind.{Kind}
use Rattle.heap_meaning.specs.obj_layout.declared.kind.Kind.TheVariants as kind
use Rattle.heap_meaning.specs.obj_layout.declared.reference.Reference.{Reference}
use Rattle.heap_meaning.specs.obj_layout.declared.reference.Reference.TheVariants.{Pid}
use Rattle.heap_meaning.specs.obj_layout.Header.{header_words}
use Rattle.heap_meaning.specs.obj_layout.Objects.{Contents, kind_of, counts, counts_of, IsAllowed, IsObject, Placed, Cuts, HoldsObjects, IsAmong}
use Rattle.heap_meaning.specs.obj_layout.Stored.{Space}
use Rattle.heap_meaning.specs.swizzle.Joint.{Shown, shown_words}
use Rattle.heap_meaning.specs.Standing.{Seen}
use Rattle.heap_meaning.specs.heap_places.Shapes.{IsText, shown_text}
use Rattle.space_meaning.specs.Space.{IsStored, SeenIn}

-- a reference on a volume
abbrev pub pid : ℕ → ℕ
pid n = 2 ^ 63 + n

abbrev pub at : ℕ → List ℕ → Placed
at n words = record { pid = n; words = words }

abbrev pub joined : List Placed → List ℕ
joined [] = []
joined (o ∷ os) = o.words ++ joined os

-- the space of these objects, whose directory has this PID
abbrev pub space_with : List Placed → ℕ → Space
space_with objects directory = record { words = 0 ∷ joined objects; directory = directory; file = [] }

-- a small object, with nothing but its counts in its header
pub is-object : (of : Kind) (refs nums bytes : ℕ) (holds : Contents) (words : List ℕ) → refs + nums + bytes ≤ 100 → bytes ≤ 8 * nums
    → header_words (record { kind = of; flags = 0; refs = refs; nums = nums; bytes = bytes; pid = 0; chain = 0 }) ≡ take 4 words
    → length words ≡ 4 + refs + nums → of ≡ kind_of holds → counts refs nums bytes ≡ counts_of holds → IsAllowed holds → IsObject words
is-object of refs nums bytes holds words small lie spelled long is_kind counted allowed = record {
  header = record { kind = of; flags = 0; refs = refs; nums = nums; bytes = bytes; pid = 0; chain = 0 };
  contents = holds;
  fields = record { flags = omega arith; refs = omega arith; nums = omega arith; bytes = omega arith; pid = omega arith; chain = omega arith };
  lengths = record { bytes = lie; words = omega arith };
  spelled = spelled;
  long = long;
  holds = record { kind = is_kind; counted = counted; allowed = allowed };
}

-- objects, each of which begins where the one before it ends
abbrev pub Follow : ℕ → List Placed → Type 0
Follow from [] = Unit {0}
Follow from (o ∷ os) = (o.pid ≡ from) × IsObject o.words × Follow (from + length o.words) os

cuts : (from : ℕ) (os : List Placed) → Follow from os → Cuts from (joined os) os
cuts from [] f = refl
cuts from (o ∷ os) f = (f.0, f.1, (joined os, refl, cuts (from + length o.words) os f.2))

pub cut-of : (objects : List Placed) (directory : ℕ) → Follow 1 objects → HoldsObjects (space_with objects directory).words objects
cut-of objects directory follow = (omega arith, cuts 1 objects follow)

pub seen-there : (objects : List Placed) (directory n : ℕ) (words : List ℕ) (it : Shown) → Follow 1 objects → IsAmong (at n words) objects → IsStored words
    → it ≡ shown_words words → SeenIn (space_with objects directory) (Pid n) it
seen-there objects directory n words it follow among stored shown = record {
  pid = n;
  words = words;
  name_is = refl;
  there = record { objects = objects; cut = cut-of objects directory follow; among = among };
  stored = stored;
  shown_is = shown;
}

-- a text of so many bytes, in these words
abbrev pub of_text : ℕ → List ℕ → Shown
of_text bytes words = record { kind = kind.Text; refs = []; nums = 0 ∷ words; bytes = bytes }

pub text-is : (seen : Seen) (n : Reference) (bytes : ℕ) (words text : List ℕ) → seen n (of_text bytes words)
    → shown_text (of_text bytes words) ≡ text → IsText seen n text
text-is seen n bytes words text there spelled = record { it = of_text bytes words; there = there; kind = refl; bytes_are = spelled }

-- each of these is below a limit, by a test of each
abbrev pub all_below : ℕ → List ℕ → Bool
all_below limit [] = true
all_below limit (n ∷ ns) = if nat_lt n limit then all_below limit ns else false

both-true : (a b : Bool) → (if a then b else false) ≡ true → (a ≡ true) × (b ≡ true)
both-true true b is = (refl, is)
both-true false b is = absurd (false≢true is)

pub each-below : (limit : ℕ) (ns : List ℕ) → 1 ≤ limit → all_below limit ns ≡ true → (k : ℕ) → slice_index ns k < limit
each-below limit [] some is k = omega arith
each-below limit (n ∷ ns) some is zero = ltb-true n limit (both-true (nat_lt n limit) (all_below limit ns) is).0
each-below limit (n ∷ ns) some is (suc k) = each-below limit ns some (both-true (nat_lt n limit) (all_below limit ns) is).1 k
