-- What the pins beside a view hold stays.
use Rattle.std.proofs.Common.{◌≡◌, ℕ, Bool, true, false, nat_eq, if◌then◌else◌, List, [], length, map, get_or, refl, ◌∙◌, ap, Option, Some, None}
use Rattle.std.specs.List.{range_with_len}
use Rattle.std.specs.Option.{option_map}
use Rattle.std.proofs.lemmas.List.{length-map}
use Rattle.std.proofs.lemmas.Bool.{eq-eqb}
use Rattle.paged_volume.specs.Pinning.{Repins, outdated, pin_of, pinned_list}
use Rattle.paged_volume.specs.declared.pinned.Pinned.{Pinned}
use Rattle.paged_volume.specs.declared.table.Table.{Table}
use Rattle.paged_volume.proofs.PinLaws.{pin_of_outdated}
use Rattle.std.specs.Prelude.{Result, Ok, Err, OnOk}
use Rattle.obj_layout.specs.Storing.{SameUsers, all_settled}
use Rattle.obj_store.specs.Lending.{Kept, kept_by, others_of, view_access}
use Rattle.obj_store.specs.Store.{Store}
use Rattle.obj_store.specs.declared.source.Source.{Source}

beside_same : (b : Bool) (x y : Option Kept) → (b ≡ false → x ≡ y) → (if b then None else x) ≡ (if b then None else y)
beside_same true x y same = refl
beside_same false x y same = same refl

pub others_same : (old new : Table) (pin : ℕ) → length new.pins.items ≡ length old.pins.items → ((other : ℕ) → nat_eq other pin ≡ false → kept_by new other ≡ kept_by old other) →
    others_of new pin ≡ others_of old pin
others_same old new pin count same =
    λ i. map (λ other. beside_same (nat_eq other pin) (kept_by new other) (kept_by old other) (same other) i) (range_with_len 0 (count i))

-- what a pin holds goes by its note and its list
abbrev kept_as : (held : Option Pinned) (list : List ℕ) → Option Kept
kept_as held list = option_map (λ (p : Pinned). record { note = p.note; list = list }) held

kept_outdated : (held : Option Pinned) (list : List ℕ) → kept_as (outdated held) list ≡ kept_as held list
kept_outdated None list = refl
kept_outdated (Some held) list = refl

-- once there was another commit
pub others_outdated : (old new : Table) (pin : ℕ) → new.pins.items ≡ map outdated old.pins.items → new.map.pins ≡ old.map.pins → others_of new pin ≡ others_of old pin
others_outdated old new pin pins lists = others_same old new pin (ap (λ (xs : List (Option Pinned)). length xs) pins ∙ length-map old.pins.items outdated)
    (λ other apart.
    ap (λ (held : Option Pinned). kept_as held (pinned_list new other)) (ap (λ (xs : List (Option Pinned)). get_or xs other None) pins ∙ pin_of_outdated old.pins.items other)
    ∙ kept_outdated (pin_of old other) (pinned_list new other)
    ∙ ap (λ (ls : List (List ℕ)). kept_as (pin_of old other) (get_or ls other [])) lists)

-- where nothing was done to pins
pub others_stay : (old new : Table) (pin : ℕ) → new.pins.items ≡ old.pins.items → new.map.pins ≡ old.map.pins → others_of new pin ≡ others_of old pin
others_stay old new pin pins lists = others_same old new pin (ap (λ (xs : List (Option Pinned)). length xs) pins)
    (λ other apart i. kept_as (get_or (pins i) other None) (get_or (lists i) other []))

-- and where this pin holds something else
pub others_repinned : (old new : Table) (pin : ℕ) (held : Option Pinned) (list : List ℕ) → Repins pin held list old new → others_of new pin ≡ others_of old pin
others_repinned old new pin held list is = others_same old new pin is.count_is
    (λ other apart.
    let there = is.others other (λ same. absurd (let e : nat_eq other pin ≡ true = eq-eqb other pin same in cc)) in
    λ i. kept_as (there.0 i) (there.1 i))

-- who uses a view stays, while something is staged or not
pub view_users : {H : Type 0} (reference pin : ℕ) (source : Source) (old new : Store H) → others_of new.table pin ≡ others_of old.table pin →
    SameUsers (view_access reference pin source old) (view_access reference pin source new)
view_users reference pin source old new others = λ i. record (view_access reference pin source old) { lent = record { reference = reference; pin = pin; others = others i }; staged = false }

pub view_same : {H : Type 0} (reference pin : ℕ) (source : Source) (old new : Store H) → new.table ≡ old.table → new.staged ≡ old.staged →
    view_access reference pin source new ≡ view_access reference pin source old
view_same reference pin source old new table staged =
    λ i. record (view_access reference pin source old) { lent = record { reference = reference; pin = pin; others = others_of (table i) pin }; staged = staged i }

-- and where all is settled
pub view_settled : {H : Type 0} (reference pin : ℕ) (source : Source) (old new : Store H) → others_of new.table pin ≡ others_of old.table pin → new.staged ≡ false →
    view_access reference pin source new ≡ all_settled (view_access reference pin source old)
view_settled reference pin source old new others settled =
    λ i. record (view_access reference pin source old) { lent = record { reference = reference; pin = pin; others = others i }; staged = settled i }

pub on_settled : {T E H : Type 0} (result : Result T E) (reference pin : ℕ) (source : Source) (old new : Store H) → others_of new.table pin ≡ others_of old.table pin → OnOk result (new.staged ≡ false) →
    OnOk result (view_access reference pin source new ≡ all_settled (view_access reference pin source old))
on_settled (Ok value) reference pin source old new others settled = view_settled reference pin source old new others settled
on_settled (Err fault) reference pin source old new others settled = tt
