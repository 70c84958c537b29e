-- The laws of a store of objects.
use Rattle.std.proofs.Common.{◌≡◌, ℕ, zero, suc, ◌+◌, ◌-◌, ◌*◌, ◌^◌, ◌<◌, ◌≤◌, min, List, length, map, refl, sym, ◌∙◌, ap, subst, arith, Option}
use Rattle.std.specs.List.{AllByRecursion, range_with_len}
use Rattle.std.specs.Option.{option_map}
use Rattle.std.proofs.lemmas.Option.{same_Some}
use Rattle.obj_layout.specs.ps_outside.Outside.{Outside}
use Rattle.paged_volume.specs.Layout.{capacity_of}
use Rattle.volume_parts.specs.Holding.{Held}
use Rattle.volume_parts.specs.Layout.{number_at}
use Rattle.paged_volume.specs.Standing.{IsFit}
use Rattle.paged_volume.specs.declared.committed.Committed.{Committed}
use Rattle.paged_volume.specs.declared.table.Table.{Table}
use Rattle.paged_volume.proofs.Bounds.{capacity_low, pages_low}
use Rattle.std.proofs.Math.Nat.{mod-lt}
use Rattle.std.proofs.lemmas.List.FromFn.{length-map-range_with_len}
use Rattle.obj_layout.specs.Stored.{Space, IsSpace}
use Rattle.obj_store.specs.declared.source.Source.{Source}
use Rattle.obj_store.specs.declared.source.Source.TheVariants.{Staged, Pinned}
use Rattle.obj_store.specs.Spaces.{word_at, words_of, space_of, shown_in, directory_in, spaces_at, IsUsable}
use Rattle.obj_store.specs.Store.{bounded}

-- the word is below 2 ^ 64
pub word_fits : (bytes : List ℕ) (index : ℕ) → word_at bytes index < 2 ^ 64
unfolding word_at
word_fits bytes index = mod-lt (number_at (8 * index) 8 bytes) (omega arith)

pub length_words : (count : ℕ) (bytes : List ℕ) → length (words_of count bytes) ≡ count
unfolding words_of
length_words count bytes = length-map-range_with_len (word_at bytes) 0 count

-- the words that can be used are few
pub words_low : (committed : Committed) → IsFit committed → capacity_of committed.pages + 511 < 2 ^ 28
words_low committed fit =
    let low = capacity_low committed.pages fit.head.least (pages_low committed.format committed.pages fit.head) in
    omega (arith, low.1)

-- the used words are few
pub order_low : (used : ℕ) {directory : ℕ} (committed : Committed) → IsUsable used directory committed → (1 ≤ used) × (used < 2 ^ 28)
order_low used committed order =
    let few = words_low committed order.fit in
    let below = order.below in
    let within = order.within in
    (omega arith, omega arith)

all_fit : (bytes : List ℕ) (from count : ℕ) → AllByRecursion (λ (word : ℕ). word < 2 ^ 64) (map (word_at bytes) (range_with_len from count))
all_fit bytes from zero = tt
all_fit bytes from (suc count) = (word_fits bytes from, all_fit bytes (from + 1) count)

wide : (bytes : List ℕ) (count : ℕ) → AllByRecursion (λ (word : ℕ). word < 2 ^ 64) (words_of count bytes)
unfolding words_of
wide bytes count = all_fit bytes 0 count

-- within the bounds the numbers are as they are
pub used_is : (used : ℕ) {directory : ℕ} (committed : Committed) → IsUsable used directory committed → bounded used ≡ used
used_is used committed order =
    let low = order_low used committed order in
    let some = low.0 in
    let few = low.1 in
    omega arith

pub most_is : (used : ℕ) {directory : ℕ} (committed : Committed) → IsUsable used directory committed → min (capacity_of committed.pages) (2 ^ 30 - 1) ≡ capacity_of committed.pages
most_is used committed order = let few = words_low committed order.fit in omega arith

-- what a source shows has its directory
shown_directory : (source : Source) (table : Table) (image : List ℕ) → (shown_in source table image).note.directory ≡ directory_in source table
shown_directory Staged table image = refl
shown_directory (Pinned pin note) table image = refl

module _ (source : Source) (used : ℕ) (table : Table) (outside : Outside (List ℕ)) where
  pub is_space : (space : Space) → (spaces_at source used table outside).contents space → IsSpace (bounded used) (directory_in source table) space
  is_space space told =
      let was = told.staged.was in
      let held = shown_in source table was.from in
      let is : space_of used held ≡ space = same_Some (space_of used held) space (ap (λ (o : Option Held). option_map (space_of used) o) was.by ∙ told.staged.by) in
      let low = order_low used table.committed told.order in
      let is_used = used_is used table.committed told.order in
      let below = told.order.below in
      let directory = shown_directory source table was.from in
      subst (λ (s : Space). IsSpace (bounded used) (directory_in source table) s) is (record {
        wide = wide held.bytes used;
        long = length_words used held.bytes ∙ sym is_used;
        some = omega arith;
        small = omega arith;
        named = directory;
        below = omega (arith, is_used, directory);
        unfiled = refl;
      })

  pub is_one : ((x y : List ℕ) → outside.contents x → outside.contents y → x ≡ y) →
      (a b : Space) → (spaces_at source used table outside).contents a → (spaces_at source used table outside).contents b → a ≡ b
  is_one one a b is other =
      let x = is.staged.was in
      let y = other.staged.was in
      let same = one x.from y.from x.was y.was in
      let held = λ (bytes : List ℕ). shown_in source table bytes in
      let is_a : space_of used (held x.from) ≡ a = same_Some (space_of used (held x.from)) a (ap (λ (o : Option Held). option_map (space_of used) o) x.by ∙ is.staged.by) in
      let is_b : space_of used (held y.from) ≡ b = same_Some (space_of used (held y.from)) b (ap (λ (o : Option Held). option_map (space_of used) o) y.by ∙ other.staged.by) in
      sym is_a ∙ ap (λ (bytes : List ℕ). space_of used (shown_in source table bytes)) same ∙ is_b

pub in_bounds : (used most : ℕ) → (1 ≤ bounded used) × (bounded used < 2 ^ 30) × (min most (2 ^ 30 - 1) < 2 ^ 30)
in_bounds used most = (omega arith, omega arith, omega arith)
