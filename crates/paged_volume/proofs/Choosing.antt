-- Pages are chosen for the index page and for the map pages.
use Rattle.std.proofs.Common.{◌≡◌, ◌≢◌, inl, inr, ℕ, ◌+◌, ◌<◌, ◌≤◌, Bool, true, false, not, ◌&&◌, List, length, get_or, set, replicate, refl, sym, ◌∙◌, ap, subst, arith, length-set, get_or-set_same, get_or-set_other, if◌then◌else◌}
use Rattle.std.specs.Prelude.{◌==◌}
use Rattle.std.proofs.lemmas.Bool.{cases_lt, cases_eq, both_ways, eq-eqb, ne_eqb}
use Rattle.std.proofs.lemmas.List.{same_lists, get_or_default, get_or-replicate, length-replicate}
use Rattle.page_map.specs.Pages.{is_free, held_of}
use Rattle.page_map.specs.Map.{MapView}
use Rattle.page_map.proofs.PageLaws.{held_replicate, is_free_taken, within}
use Rattle.paged_volume.specs.Standing.{index_of, maps_of}
use Rattle.paged_volume.specs.Changing.{next_number, differs, is_changed}
use Rattle.paged_volume.specs.Planning.{GetsPage, taken, kept, IsGiven, HasPlace, moves, stays, IsChosen}
use Rattle.paged_volume.proofs.Naming.{zero_maps, map_set, maps_before, maps_other}
use Rattle.paged_volume.proofs.Reading.{index_first}
use Rattle.paged_volume.proofs.Tables.{and_both}
use Rattle.paged_volume.proofs.Changed.{changed_zero, changed_more}

-- where none is free, all are held
pub none_free : (free : List Bool) → ((page : ℕ) → is_free free page ≡ false) → held_of free ≡ length free
none_free free none =
    ap (λ (xs : List Bool). held_of xs) (same_lists free (replicate (length free) false) (sym (length-replicate (length free) false)) (λ k d lt. get_or_default free k d false lt ∙ none k ∙ sym (get_or-replicate (length free) k false d lt)))
    ∙ held_replicate (length free)

-- what a page that is taken, or isn't, changes
pub record IsStep (old new : MapView) (wants : Bool) (number : ℕ) : Type 0 where
  pub lists : new ≡ record old { free = new.free }
  pub long : length new.free ≡ length old.free
  pub fewer : (page : ℕ) → is_free new.free page ≡ true → is_free old.free page ≡ true
  pub keeps : (page : ℕ) → is_free old.free page ≡ false → is_free new.free page ≡ false
  pub held : held_of new.free ≡ held_of old.free + (if wants then 1 else 0)
  pub given : wants ≡ true → IsGiven old new number

pub step_of : (old new : MapView) (wants : Bool) (page number : ℕ) → GetsPage old new wants page number → IsStep old new wants number
step_of old new wants page number (taken wanted free new_is held) =
    subst (λ (m : MapView). held_of m.free ≡ held_of old.free + 1 → IsStep old m wants number) (sym new_is) (λ held. record {
      lists = refl;
      long = length-set old.free number false;
      fewer = λ p still. (and_both (is_free old.free p) _ (sym (is_free_taken old.free number p) ∙ still)).0;
      keeps = λ p in_use. is_free_taken old.free number p ∙ ap (λ (b : Bool). b && not (number == p)) in_use;
      held = held ∙ ap {B = ℕ} (λ (b : Bool). held_of old.free + (if b then 1 else 0)) (sym wanted);
      given = λ still. record { was = free; taken = get_or-set_same old.free number false false (within old.free number free) };
    }) held
step_of old new wants page number (kept unwanted number_is new_is) =
    subst (λ (m : MapView). IsStep old m wants number) (sym new_is) (record {
      lists = refl;
      long = refl;
      fewer = λ p free. free;
      keeps = λ p in_use. in_use;
      held = omega (arith, ap {B = ℕ} (λ (b : Bool). if b then 1 else 0) unwanted);
      given = λ wanted. absurd (both_ways wants unwanted wanted);
    })

pub kept_is : (old new : MapView) (wants : Bool) (page number : ℕ) → GetsPage old new wants page number → wants ≡ false → number ≡ page
kept_is old new wants page number (taken wanted free new_is held) none = absurd (both_ways wants none wanted)
kept_is old new wants page number (kept unwanted number_is new_is) none = number_is

-- which map pages change doesn't hang on which pages are free
pub same_changes : (map : MapView) (free : List Bool) (logical map_page : ℕ) → is_changed (record map { free = free }) logical map_page ≡ is_changed map logical map_page
unfolding is_changed differs next_number
same_changes map free logical map_page = refl

pub same_next : (map : MapView) (free : List Bool) (logical page : ℕ) → next_number (record map { free = free }) logical page ≡ next_number map logical page
unfolding next_number
same_next map free logical page = refl

-- a given page stays given
given_still : (old now new : MapView) (wants : Bool) (number page : ℕ) → IsStep now new wants number → IsGiven old now page → IsGiven old new page
given_still old now new wants number page step given = record { was = given.was; taken = step.keeps page given.taken }

index_other : (next : List ℕ) (place number i : ℕ) → place ≢ 0 → index_of (set next place number) i ≡ index_of next i
index_other next place number i differs =
    index_first (set next place number) i ∙ get_or-set_other next place 0 number 0 (λ e. differs (sym e)) ∙ sym (index_first next i)

-- the index page has its page
module _ (old new : MapView) (named next : List ℕ) (logical depth number : ℕ) (size : length next ≡ length named) (some : 0 < length next) (zeros : (i : ℕ) → get_or next i 0 ≡ 0) (most : depth ≤ 1)
    (gets : GetsPage old new (not (depth == 0)) 0 number) where
  step_index : IsStep old new (not (depth == 0)) number
  step_index = step_of old new (not (depth == 0)) 0 number gets

  held_index : (if not (depth == 0) then 1 else 0) ≡ depth
  held_index = elim (cases_eq depth 0) [
    | inl none ↦ ap {B = ℕ} (λ (b : Bool). if not b then 1 else 0) (eq-eqb depth 0 none) ∙ sym none
    | inr deep ↦ ap {B = ℕ} (λ (b : Bool). if not b then 1 else 0) (ne_eqb depth 0 deep) ∙ omega arith
  ]

  here : (i : ℕ) → index_of (set next 0 number) i ≡ number
  here i = index_first (set next 0 number) i ∙ get_or-set_same next 0 number 0 some

  pub chosen_index : IsChosen old new named (set next 0 number) logical depth 0
  chosen_index = record {
    lists = step_index.lists;
    long = step_index.long;
    fewer = step_index.fewer;
    held = step_index.held ∙ omega (arith, held_index, changed_zero old logical);
    size = length-set next 0 number ∙ size;
    index = λ i lt. subst (λ (n : ℕ). IsGiven old new n) (sym (here i)) (step_index.given (ap (λ (b : Bool). not b) (ne_eqb depth 0 (λ none. absurd (omega arith)))));
    bare_index = λ none. get_or-set_same next 0 number 0 some ∙ kept_is old new (not (depth == 0)) 0 number gets (ap (λ (b : Bool). not b) (eq-eqb depth 0 none));
    maps = λ map_page lt. absurd (omega arith);
    bare = λ map_page above. maps_other next 0 number map_page (λ e. absurd (omega arith)) ∙ zero_maps next map_page zeros;
    apart = λ one other lt below. absurd (omega arith);
    apart_index = λ i map_page lt below. absurd (omega arith);
  }

-- one more map page has its page
module _ (old now new : MapView) (named next : List ℕ) (logical depth count number : ℕ) (is : IsChosen old now named next logical depth count) (below : 1 + count < length next)
    (gets : GetsPage now new (is_changed now logical count) (maps_of named count) number) where
  changes : is_changed now logical count ≡ is_changed old logical count
  changes = ap (λ (m : MapView). is_changed m logical count) is.lists ∙ same_changes old now.free logical count

  step : IsStep now new (is_changed now logical count) number
  step = step_of now new (is_changed now logical count) (maps_of named count) number gets

  before : (i : ℕ) → i < count → maps_of (set next (1 + count) number) i ≡ maps_of next i
  before i lt = maps_before next count number i lt

  last : maps_of (set next (1 + count) number) count ≡ number
  last = map_set next count number below

  place_before : (i : ℕ) → i < count → HasPlace old new logical i (maps_of named i) (maps_of (set next (1 + count) number) i)
  place_before i lt = subst (λ (n : ℕ). HasPlace old new logical i (maps_of named i) n) (sym (before i lt)) (by (is.maps i lt))
    where
      by : HasPlace old now logical i (maps_of named i) (maps_of next i) → HasPlace old new logical i (maps_of named i) (maps_of next i)
      by (moves changed given) = moves changed (given_still old now new (is_changed now logical count) number (maps_of next i) step given)
      by (stays same number_is) = stays same number_is

  given_last : is_changed old logical count ≡ true → IsGiven old new number
  given_last changed = let given = step.given (changes ∙ changed) in record { was = is.fewer number given.was; taken = given.taken }

  place_last : (changed : Bool) → is_changed old logical count ≡ changed → HasPlace old new logical count (maps_of named count) number
  place_last true changed = moves changed (given_last changed)
  place_last false same = stays same (kept_is now new (is_changed now logical count) (maps_of named count) number gets (changes ∙ same))

  -- a page that was given before is another one
  given_before : (page : ℕ) → is_changed old logical count ≡ true → IsGiven old now page → page ≢ number
  given_before page changed given same =
      let free = (step.given (changes ∙ changed)).was in
      both_ways (is_free now.free page) given.taken (ap (λ (n : ℕ). is_free now.free n) same ∙ free)

  given_of : (i : ℕ) → is_changed old logical i ≡ true → HasPlace old now logical i (maps_of named i) (maps_of next i) → IsGiven old now (maps_of next i)
  given_of i changed (moves also given) = given
  given_of i changed (stays same number_is) = absurd (both_ways (is_changed old logical i) same changed)

  pub chosen_more : IsChosen old new named (set next (1 + count) number) logical depth (count + 1)
  chosen_more = record {
    lists = step.lists ∙ ap (λ (m : MapView). record m { free = new.free }) is.lists;
    long = step.long ∙ is.long;
    fewer = λ page free. is.fewer page (step.fewer page free);
    held = step.held ∙ omega (arith, is.held, changed_more old logical count, ap {B = ℕ} (λ (b : Bool). if b then 1 else 0) changes);
    size = length-set next (1 + count) number ∙ is.size;
    index = λ i lt. subst (λ (n : ℕ). IsGiven old new n) (sym (index_other next (1 + count) number i (λ e. absurd (omega arith)))) (given_still old now new (is_changed now logical count) number (index_of next i) step (is.index i lt));
    bare_index = λ none. get_or-set_other next (1 + count) 0 number 0 (λ e. absurd (omega arith)) ∙ is.bare_index none;
    maps = λ i lt. elim (cases_lt i count) [
      | inl early ↦ place_before i early
      | inr late ↦
          let same : count ≡ i = omega arith in
          subst (λ (k : ℕ). HasPlace old new logical k (maps_of named k) (maps_of (set next (1 + count) number) k)) same
          (subst (λ (n : ℕ). HasPlace old new logical count (maps_of named count) n) (sym last) (place_last (is_changed old logical count) refl))
    ];
    bare = λ i above. maps_other next (1 + count) number i (λ e. absurd (omega arith)) ∙ is.bare i (omega arith);
    apart = λ one other lt under changed also. elim (cases_lt other count) [
      | inl early ↦ λ same. is.apart one other lt early changed also (sym (before one (omega arith)) ∙ same ∙ before other early)
      | inr late ↦
          let here : other ≡ count = omega arith in
          let one_lt : one < count = omega arith in
          λ same. given_before (maps_of next one) (ap (λ (n : ℕ). is_changed old logical n) (sym here) ∙ also) (given_of one changed (is.maps one one_lt))
          (sym (before one one_lt) ∙ same ∙ ap (λ (n : ℕ). maps_of (set next (1 + count) number) n) here ∙ last)
    ];
    apart_index = λ i map_page lt under changed. elim (cases_lt map_page count) [
      | inl early ↦ λ same. is.apart_index i map_page lt early changed (sym (index_other next (1 + count) number i (λ e. absurd (omega arith))) ∙ same ∙ before map_page early)
      | inr late ↦
          let here : map_page ≡ count = omega arith in
          λ same. given_before (index_of next i) (ap (λ (n : ℕ). is_changed old logical n) (sym here) ∙ changed) (is.index i lt)
          (sym (index_other next (1 + count) number i (λ e. absurd (omega arith))) ∙ same ∙ ap (λ (n : ℕ). maps_of (set next (1 + count) number) n) here ∙ last)
    ];
  }
