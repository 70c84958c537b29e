-- The space of an image has as many words as its root page says.
use Rattle.std.proofs.Common.{◌≡◌, ℕ, zero, suc, ◌+◌, ◌/◌, ◌^◌, ◌<◌, Bool, true, false, nat_lt, nat_eq}
use Rattle.std.proofs.Common.{List, length, map, refl, ap, arith, Option, Some, None}
use Rattle.std.specs.Prelude.{if◌then◌else◌}
use Rattle.std.specs.List.{AllByRecursion, range_with_len}
use Rattle.std.proofs.lemmas.List.FromFn.{length-map-range_with_len}
use Rattle.std.specs.Option.{option_map}
use Rattle.ps_volumes.specs.obj_layout.Stored.{Space, IsSpace}
use Rattle.ps_volumes.specs.volume_parts.Layout.{number_at, gate, selects, root_at}
use Rattle.ps_volumes.specs.volume_parts.Holding.{Held, note_at}
use Rattle.ps_volumes.specs.volume_parts.declared.note.Note.{Note}
use Rattle.ps_volumes.specs.paged_volume.Found.{no_volume, found_in, held_at, head_damage, root_damage, names_tests, after_head, after_root, after_names}
use Rattle.ps_volumes.specs.paged_volume.Layout.{depth_at}
use Rattle.ps_volumes.specs.paged_volume.declared.committed.Committed.{Committed}
use Rattle.ps_volumes.specs.paged_volume.Standing.{held_in, held_of, IsFit}
use Rattle.ps_volumes.specs.paged_volume.declared.damage.Damage.{Damage}
use Rattle.ps_volumes.proofs.of_paged_volume.Tests.{head_passed, root_passed}
use Rattle.ps_volumes.specs.obj_store.StoreLaws.{words_low}
use Rattle.ps_volumes.specs.obj_store.Spaces.{word_at, words_of, space_of}
use Rattle.volume_meaning.specs.Space.{space_in}

-- What is held passed the tests of page 0 and of its root page.
pub record IsHeldFrom (image : List ℕ) (held : Held) : Type 0 where
  pub committed : Committed
  pub fit : IsFit committed
  pub note_is : committed.note ≡ held.note

behind-names : (pages : ℕ) (second : Bool) (image : List ℕ) (held : Held) (o : Option Damage) → held_of (after_names pages second image o) ≡ Some held → held_at second image ≡ held
behind-names pages second image held None is = cc
behind-names pages second image held (Some found) is = absurd (cc)

behind-root : (pages : ℕ) (second : Bool) (image : List ℕ) (held : Held) (o : Option Damage) → held_of (after_root pages second image o) ≡ Some held → (o ≡ None) × (held_at second image ≡ held)
behind-root pages second image held None is =
    (refl, behind-names pages second image held (names_tests pages second (depth_at second image) (number_at (root_at second + 24) 4 image) image) is)
behind-root pages second image held (Some found) is = absurd (cc)

from-head : (image : List ℕ) (held : Held) (o : Option Damage) → head_damage image ≡ o → held_of (after_head image o) ≡ Some held → IsHeldFrom image held
from-head image held (Some found) e is = absurd (cc)
from-head image held None e is =
    let format = number_at 7 1 image in
    let pages = number_at 8 4 image in
    let second = selects image in
    let root = root_at second in
    let head = head_passed (number_at 1 6 image) format pages (length image / 4096) e in
    let behind = behind-root pages second image held (root_damage format pages second image) is in
    let committed : Committed = record { format = format; pages = pages; second = second; depth = depth_at second image; note = note_at root image } in
    record {
      committed = committed;
      fit = (root_passed committed root (number_at (root + 24) 4 image) head.1 behind.0).0;
      note_is = ap (λ (h : Held). h.note) behind.1;
    }

pub held-from : (image : List ℕ) (held : Held) → held_in image ≡ Some held → IsHeldFrom image held
unfolding held_in found_in
held-from image held is = by (nat_lt (length image) 16384) (nat_eq (gate image) 1) is
  where
    by : (short opened : Bool) → held_of (if short then no_volume (length image) (gate image)
        else (if opened then after_head image (head_damage image) else no_volume (length image) (gate image))) ≡ Some held → IsHeldFrom image held
    by true opened h = absurd (cc)
    by false true h = from-head image held (head_damage image) refl h
    by false false h = absurd (cc)

-- Its words.

words-fit : (bytes : List ℕ) (from count : ℕ) → AllByRecursion (λ word. word < 2 ^ 64) (map (word_at bytes) (range_with_len from count))
unfolding word_at
words-fit bytes from zero = tt
words-fit bytes from (suc count) = (omega arith, words-fit bytes (from + 1) count)

pub space-used : (image : List ℕ) (held : Held) → IsHeldFrom image held → IsSpace held.note.used held.note.directory (space_of held.note.used held)
unfolding words_of
space-used image held from =
    let used : from.committed.note.used ≡ held.note.used = ap (λ (n : Note). n.used) from.note_is in
    let directory : from.committed.note.directory ≡ held.note.directory = ap (λ (n : Note). n.directory) from.note_is in
    let few = words_low from.committed from.fit in
    let within = from.fit.within in
    let some = from.fit.some in
    let below = from.fit.below in
    record {
      wide = words-fit held.bytes 0 held.note.used;
      long = length-map-range_with_len (word_at held.bytes) 0 held.note.used;
      some = omega arith;
      small = omega arith;
      named = refl;
      below = omega arith;
      unfiled = refl;
    }

pub space-of_held : (image : List ℕ) (held : Held) → held_in image ≡ Some held
    → (space : Space) × (space_in image ≡ Some space) × IsSpace held.note.used held.note.directory space
unfolding space_in
space-of_held image held is =
    (space_of held.note.used held, ap (option_map (λ (h : Held). space_of h.note.used h)) is, space-used image held (held-from image held is))
