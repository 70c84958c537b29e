-- Which images stand for which heaps: only those in which a volume is found; and a new volume for the heaps without a database, and no other.
use Rattle.std.proofs.Common.{◌≡◌, ⊎_elim, ℕ, ◌≤◌, Bool, List, [], ◌∷◌, length, refl, sym, ◌∙◌, ap, subst, arith, Option, Some, None}
use Rattle.std.specs.Option.{option_map}
use Rattle.std.proofs.lemmas.Option.{same_Some}
use Rattle.ps_port.specs.ps_outside.Outside.{Outside, After}
use Rattle.ps_volumes.specs.obj_layout.Stored.{Space}
use Rattle.ps_volumes.specs.volume_parts.Layout.{gate}
use Rattle.ps_volumes.specs.volume_parts.Holding.{Held}
use Rattle.ps_volumes.specs.paged_volume.Found.{Found, a_volume, no_volume, damaged, found_in}
use Rattle.ps_volumes.specs.paged_volume.Making.{IsNew}
use Rattle.ps_volumes.specs.volume_parts.Making.{empty_held}
use Rattle.ps_volumes.specs.paged_volume.Standing.{held_in, held_of}
use Rattle.ps_volumes.proofs.of_paged_volume.New.{found_new}
use Rattle.heap_fit.specs.ps_heap.Held.{StoredHeap}
use Rattle.ps_volumes.specs.obj_store.Spaces.{word_at, words_of, space_of, space_found}
use Rattle.ps_volumes.specs.Attaching.{KeepsVolume}
use Rattle.ps_volumes.specs.volume_next.Moving.{HoldsSame, IsKeptIn}
use Rattle.volume_meaning.specs.Space.{space_in, HoldSame}
use Rattle.volume_meaning.specs.Stands.{Stands, StandsSince}
use Rattle.space_meaning.proofs.Without.{stands-without, none-without}
use Rattle.volume_meaning.proofs.Used.{held-from, space-used}

-- A volume is found.

abbrev pub IsFoundIn : Found → Type 0
IsFoundIn found = (pages : ℕ) × (second : Bool) × (held : Held) × (found ≡ a_volume pages second held)

volume-of : (found : Found) (space : Space) → option_map (λ (held : Held). space_of held.note.used held) (held_of found) ≡ Some space → IsFoundIn found
volume-of (a_volume pages second held) space is = (pages, second, held, refl)
volume-of (no_volume size gate) space is = absurd (cc)
volume-of (damaged damage) space is = absurd (cc)

pub volume-found : (image : List ℕ) (heap : StoredHeap) → Stands image heap → IsFoundIn (found_in image)
unfolding space_in held_in
volume-found image heap s = volume-of (found_in image) s.space s.found

-- Files that hold the same stand for the same heaps: one without a volume has no word, and a space has word 0.

space-other : (other : Option Held) (space : Space) → 1 ≤ length space.words → space_found other ≡ space
    → option_map (λ (held : Held). space_of held.note.used held) other ≡ Some space
space-other None space used is =
    let none : 0 ≡ length space.words = ap (λ (s : Space). length s.words) is in
    absurd (omega arith)
space-other (Some held) space used is = ap (λ (s : Space). Some s) is

same-space : (image other : Option Held) (space : Space) → option_map (λ (held : Held). space_of held.note.used held) image ≡ Some space
    → ((held : Held) → image ≡ Some held → 1 ≤ length (space_of held.note.used held).words) → space_found image ≡ space_found other
    → option_map (λ (held : Held). space_of held.note.used held) other ≡ Some space
same-space None other space is used same = absurd (cc)
same-space (Some held) other space is used same =
    let here : space_of held.note.used held ≡ space = same_Some (space_of held.note.used held) space is in
    space-other other space (subst (λ (s : Space). 1 ≤ length s.words) here (used held refl)) (sym same ∙ here)

used-held : (image : List ℕ) (held : Held) → held_in image ≡ Some held → 1 ≤ length (space_of held.note.used held).words
used-held image held is =
    let space = space-used image held (held-from image held is) in
    let some = space.some in
    omega (arith, space.long)

pub stands-held : (image other : List ℕ) (heap : StoredHeap) → HoldSame image other → Stands image heap → Stands other heap
unfolding space_in
stands-held image other heap same s = record {
  space = s.space;
  found = same-space (held_in image) (held_in other) s.space s.found (used-held image) same;
  stands = s.stands;
}

-- A file that holds the same words under the same directory stands for the same heap.

same-found : (was now : Held) → HoldsSame was now → space_of was.note.used was ≡ space_of now.note.used now
same-found was now same = sym (λ i. record { words = words_of (same.used i) (same.bytes i); directory = same.directory i; file = [] })

pub stands-kept : (bytes image : List ℕ) (heap : StoredHeap) → IsKeptIn bytes image → Stands bytes heap → Stands image heap
stands-kept bytes image heap is =
    stands-held bytes image heap (ap space_found is.was_found ∙ same-found is.was is.now is.same ∙ sym (ap space_found is.now_found))

-- What is left of a volume stands for the heap that it stood for.

module _ (old new : Outside (List ℕ)) (heap : StoredHeap) (kept : KeepsVolume old new) (stood : (bytes : List ℕ) → old.contents bytes → Stands bytes heap) where
  stands-after_one : (image : List ℕ) → After old.contents IsKeptIn image → Stands image heap
  stands-after_one image at = stands-kept at.from image heap at.by (stood at.from at.was)

  pub stands-since : StandsSince old new heap
  stands-since = record {
    since = kept.from.since;
    from = kept.from.from;
    until = kept.from.until;
    stands = λ m image low high at. stands-after_one image (kept.from.settled m image low high at);
  }

  pub stands-after : (bytes : List ℕ) → new.contents bytes → Stands bytes heap
  stands-after bytes at = ⊎_elim (λ same. stood bytes same) (λ now. stands-after_one bytes now) (kept.keeps.contents bytes at)

-- The space of a new volume: word 0 and no directory.

abbrev empty_space : Space
empty_space = record { words = 0 ∷ []; directory = 0; file = [] }

space-empty : space_of 1 empty_held ≡ empty_space
unfolding words_of word_at
space-empty = refl

space-new : (pages : ℕ) (image : List ℕ) → 32 ≤ pages → pages ≤ 1048576 → IsNew pages image → gate image ≡ 1 → space_in image ≡ Some empty_space
unfolding space_in held_in
space-new pages image least most new opened =
    ap (λ (found : Found). option_map (λ (held : Held). space_of held.note.used held) (held_of found)) (found_new pages image least most new opened)
    ∙ ap (λ (s : Space). Some s) space-empty

pub new-stands : (pages : ℕ) (image : List ℕ) (heap : StoredHeap) → 32 ≤ pages → pages ≤ 1048576 → IsNew pages image → gate image ≡ 1
    → heap.directory ≡ [] → Stands image heap
new-stands pages image heap least most new opened none = record {
  space = empty_space;
  found = space-new pages image least most new opened;
  stands = stands-without empty_space [] heap (omega arith, refl) refl none;
}

pub new-stands_alone : (pages : ℕ) (image : List ℕ) (heap : StoredHeap) → 32 ≤ pages → pages ≤ 1048576 → IsNew pages image → gate image ≡ 1
    → Stands image heap → heap.directory ≡ []
new-stands_alone pages image heap least most new opened s =
    let same : Some s.space ≡ Some empty_space = sym s.found ∙ space-new pages image least most new opened in
    let is : s.space ≡ empty_space = cc in
    none-without s.space heap (ap (λ (space : Space). space.directory) is) s.stands
