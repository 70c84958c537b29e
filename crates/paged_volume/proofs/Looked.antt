-- What was looked at, from the file to the table.
use Rattle.std.proofs.Common.{◌≡◌, ℕ, ◌+◌, ◌≤◌, Bool, List, [], length, sym, ◌∙◌, ap, subst, arith, Option}
use Rattle.ps_port.specs.ps_outside.Outside.{Outside}
use Rattle.page_map.specs.Map.{MapView, settled}
use Rattle.volume_parts.specs.Layout.{selects}
use Rattle.volume_parts.specs.Calls.{Looks}
use Rattle.volume_parts.specs.declared.open_fault.OpenFault.{OpenFault}
use Rattle.volume_parts.specs.declared.open_fault.OpenFault.TheVariants.{Device, NotAVolume, Damaged, Memory}
use Rattle.volume_parts.proofs.Looking.{looks_then, rose_then}
use Rattle.paged_volume.specs.Found.{found_in, names_tests, after_names}
use Rattle.paged_volume.specs.Standing.{IsFit, IsTable, Says, HasHead, HasRoot, HasNames, logical_of, map_count}
use Rattle.paged_volume.specs.Naming.{IsNaming, IsFailed, FailsBy}
use Rattle.paged_volume.specs.Attaching.{IsRefusal, IsNoVolume}
use Rattle.paged_volume.specs.declared.pinned.Pinned.{Pinned}
use Rattle.paged_volume.specs.declared.table.Table.{Table}
use Rattle.paged_volume.specs.declared.damage.Damage.{Damage}
use Rattle.paged_volume.specs.declared.committed.Committed.{Committed}
use Rattle.paged_volume.proofs.Tests.{found_names}
use Rattle.paged_volume.proofs.Tables.{settling_read, settled_is_table}

pub looks_three : (a b c d : Outside (List ℕ)) (few most : ℕ) → Looks a b 3 → Looks b c 2 → Looks c d (few + 1) → few + 6 ≤ most → Looks a d most
looks_three a b c d few most one two three le = looks_then a c d 5 (few + 1) most (looks_then a b c 3 2 5 one two (omega arith)) three (omega arith)

-- what was found of page 0 and of the root page
pub record IsRootOf (committed : Committed) (bytes : List ℕ) : Type 0 where
  pub head : HasHead committed.format committed.pages bytes
  pub selected : selects bytes ≡ committed.second
  pub root : HasRoot committed.second committed.note committed.depth bytes

pub root_of_is : (committed : Committed) (format pages : ℕ) (bytes : List ℕ) → committed.format ≡ format → committed.pages ≡ pages → HasHead format pages bytes → selects bytes ≡ committed.second →
    HasRoot committed.second committed.note committed.depth bytes → IsRootOf committed bytes
root_of_is committed format pages bytes format_is pages_are head selected root =
    record { head = subst (λ (f : ℕ). HasHead f committed.pages bytes) (sym format_is) (subst (λ (p : ℕ). HasHead format p bytes) (sym pages_are) head); selected = selected; root = root }

no_volume_by : (pages : ℕ) (second : Bool) (bytes : List ℕ) (tests : Option Damage) (fault : OpenFault) → found_in bytes ≡ after_names pages second bytes tests → IsFailed tests fault → IsNoVolume fault bytes
no_volume_by pages second bytes tests Device found is = tt
no_volume_by pages second bytes tests (NotAVolume size gate) found is = absurd is
no_volume_by pages second bytes tests (Damaged at number wanted) found is = found ∙ ap (λ (o : Option Damage). after_names pages second bytes o) is
no_volume_by pages second bytes tests Memory found is = tt

refused_names_of : (a b c : Outside (List ℕ)) (committed : Committed) (fault : OpenFault) → IsFit committed → Looks a b 5 → ((bytes : List ℕ) → a.contents bytes → IsRootOf committed bytes) →
    FailsBy b c (names_tests committed.pages committed.second committed.depth (logical_of committed)) fault → IsRefusal a c fault
refused_names_of a b c committed fault fit looks roots fails = record {
  device = λ e. rose_then a.device_faults b.device_faults c.device_faults looks.counts (fails.device e);
  found = λ bytes now.
      let is = roots bytes now in
      no_volume_by committed.pages committed.second bytes (names_tests committed.pages committed.second committed.depth (logical_of committed) bytes) fault
      (found_names committed bytes fit is.head is.selected is.root) (fails.by bytes (looks.same.kept bytes now));
}

pub refused_names : (a b c d : Outside (List ℕ)) (committed other : Committed) (fault : OpenFault) → other ≡ committed → IsFit committed → Looks a b 3 → Looks b c 2 → ((bytes : List ℕ) → a.contents bytes → IsRootOf committed bytes) →
    FailsBy c d (names_tests other.pages other.second other.depth (logical_of other)) fault → IsRefusal a d fault
refused_names a b c d committed other fault same fit one two roots fails =
    refused_names_of a c d committed fault fit (looks_then a b c 3 2 5 one two (omega arith)) roots
    (subst (λ (k : Committed). FailsBy c d (names_tests k.pages k.second k.depth (logical_of k)) fault) same fails)

pub settled_table_is : (table : Table) (map : MapView) (named : List ℕ) (committed : Committed) → table.committed ≡ committed → IsNaming table committed.depth (map_count committed) (logical_of committed) →
    length table.next.items ≡ length table.named.items → table.pins.items ≡ [] → named ≡ table.named.items → map ≡ settled table.map named → IsTable (record { committed = table.committed; map = map; named = table.named; next = table.next; pins = table.pins })
settled_table_is table map named committed same naming nexts unpinned named_is map_is =
    let is = subst (λ (k : Committed). IsNaming table k.depth (map_count k) (logical_of k)) (sym same) naming in
    subst (λ (m : MapView). IsTable (record { committed = table.committed; map = m; named = table.named; next = table.next; pins = table.pins })) (sym (map_is ∙ ap (λ (xs : List ℕ). settled table.map xs) named_is)) (settled_is_table table (settling_read table is) nexts (ap (λ (xs : List (Option Pinned)). length xs) unpinned ∙ ap (λ (lists : List (List ℕ)). length lists) (sym is.pins))
    (λ pin lt. absurd (omega (arith, ap (λ (lists : List (List ℕ)). length lists) is.pins))))

pub says_after : (table : Table) (map : MapView) (named : List ℕ) (committed other : Committed) (bytes : List ℕ) → table.committed ≡ other → other ≡ committed → IsRootOf committed bytes →
    HasNames other table.named.items table.map.staged bytes → map ≡ settled table.map named → Says (record { committed = table.committed; map = map; named = table.named; next = table.next; pins = table.pins }) bytes
says_after table map named committed other bytes same again is names map_is =
    subst (λ (k : Committed). Says (record { committed = k; map = map; named = table.named; next = table.next; pins = table.pins }) bytes) (sym (same ∙ again))
    (subst (λ (m : MapView). Says (record { committed = committed; map = m; named = table.named; next = table.next; pins = table.pins }) bytes) (sym map_is) (record {
      head = is.head;
      selected = is.selected;
      root = is.root;
      names = subst (λ (k : Committed). HasNames k table.named.items table.map.staged bytes) again names;
    }))
