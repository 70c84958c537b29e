-- What stands in a file once the pages that name those that are committed next were written.
use Rattle.std.proofs.Common.{◌≡◌, ◌≢◌, ◌⊎◌, inl, inr, ℕ, ◌+◌, ◌*◌, ◌<◌, ◌≤◌, Bool, true, false, not, List, length, get_or, take, drop, sym, ◌∙◌, ap, subst, arith, Result, Ok, Err}
use Rattle.std.specs.Prelude.{OnOk}
use Rattle.std.proofs.lemmas.Result.{on_err_weaker}
use Rattle.volume_parts.specs.Calls.{Works}
use Rattle.volume_parts.proofs.Looking.{rose_then}
use Rattle.std.proofs.lemmas.Bool.{cases_lt}
use Rattle.ps_port.specs.ps_outside.Outside.{Outside, Leaves, After, IsDeviceCall}
use Rattle.ps_port.proofs.of_ps_outside.Moments.{along_then, along_now}
use Rattle.ps_port.specs.Disk.{Torn, Written, written}
use Rattle.ps_port.specs.DiskLaws.{written_torn}
use Rattle.ps_port.proofs.Torn.{written_range}
use Rattle.volume_parts.specs.Layout.{number_at, root_at}
use Rattle.volume_parts.proofs.Numbers.{number_within}
use Rattle.paged_volume.specs.Layout.{capacity_pages, map_pages_of}
use Rattle.paged_volume.specs.Standing.{IsFit, IsNamedOnce, IsSpare, Says, index_of, maps_of, map_count}
use Rattle.paged_volume.specs.Switching.{IsNext, IsKept, SamePages, HasMaps, HasIndex, IsReady}
use Rattle.paged_volume.specs.declared.table.Table.{Table}
use Rattle.paged_volume.specs.declared.committed.Committed.{Committed}
use Rattle.paged_volume.proofs.Bounds.{are_low}
use Rattle.paged_volume.proofs.Numbers.{unnamed_low}
use Rattle.paged_volume.proofs.Reading.{index_first, at_index}
use Rattle.paged_volume.proofs.Turning.{page_apart, map_apart, page_there, pages_torn, maps_torn, same_then}
use Rattle.paged_volume.proofs.Staying.{IsClear, not_pinned, apart_page, apart_low, root_page, clear_stays, number_stays}

-- the number of the index page
pub index_number_is : (table : Table) (next : Committed) (x : ℕ) → IsNext table next → x ≡ get_or table.next.items 0 x → x ≡ get_or table.next.items 0 0
index_number_is table next x is x_is = let size = is.nexts in at_index table.next.items 0 x (omega arith) x_is

pub deep_some : (next : Committed) → next.depth ≢ 0 → 0 < next.depth
deep_some next ne = elim (cases_lt 0 next.depth) [ inl some ↦ some | inr none ↦ absurd (ne (omega arith)) ]

pub index_there : (table : Table) (next : Committed) → IsNext table next → 0 < next.depth → (4 ≤ get_or table.next.items 0 0) × (get_or table.next.items 0 0 < table.committed.pages)
index_there table next is deep =
    let low = unnamed_low next.pages _ (index_of table.next.items 0) (is.index_once 0 deep) in
    let pages = is.pages_are in
    (omega (arith, low.0, index_first table.next.items 0), omega (arith, low.1, index_first table.next.items 0))

-- what the index page that was written leaves
pub index_content : (table : Table) (next : Committed) (x : ℕ) (page old new : List ℕ) → IsNext table next → 0 < next.depth → x ≡ get_or table.next.items 0 0 → length page ≡ 4096 →
    ((i : ℕ) → i < map_count next → number_at (4 * i) 4 page ≡ maps_of table.next.items i) → Says table old → Written (4096 * x) page old new → HasMaps table next (map_count next) old →
    HasMaps table next (map_count next) new × HasIndex table next new × SamePages table old new
index_content table next x page old new is deep x_is size numbers says by has =
    let number = get_or table.next.items 0 0 in
    let image = written (4096 * number) page old in
    let new_is : new ≡ image = by ∙ ap (λ (n : ℕ). written (4096 * n) page old) x_is in
    let there = index_there table next is deep in
    let high = there.1 in
    let long = says.head.long in
    let torn : Torn (4096 * number) 4096 old image = subst (λ (n : ℕ). Torn (4096 * number) n old image) size (written_torn (4096 * number) page old) in
    let few = (are_low next is.next_fit).few in
    let read : take 4096 (drop (4096 * number) image) ≡ page = ap (λ (n : ℕ). take n (drop (4096 * number) image)) (sym size) ∙ written_range (4096 * number) page old (omega arith) in
    let first = index_first table.next.items 0 in (
      subst (λ (xs : List ℕ). HasMaps table next (map_count next) xs) (sym new_is)
          (maps_torn table next (map_count next) (4096 * number) 4096 old image is (omega arith) long torn (λ i lt. apart_page (maps_of table.next.items i) number (λ same. map_apart table next is i lt 0 deep (first ∙ sym same))) has),
      subst (λ (xs : List ℕ). HasIndex table next xs) (sym new_is) (λ i lt deep.
          sym (number_within (4096 * number) 4096 (4 * i) 4 image (omega arith)) ∙ ap (λ (xs : List ℕ). number_at (4 * i) 4 xs) read ∙ numbers i lt),
      subst (λ (xs : List ℕ). SamePages table old xs) (sym new_is)
          (pages_torn table next (4096 * number) 4096 old image is long torn (λ k below. apart_page (get_or table.map.staged k 0) number (λ same. (page_apart table next is k below).0 0 deep (first ∙ sym same)))
          (λ other low pinned. apart_page other number (not_pinned table number other (subst (λ (n : ℕ). IsSpare table n) first (is.index 0 deep)) pinned))),
    )

-- the other root page is apart from what is committed
pub clear_root : (table : Table) → IsFit table.committed → IsNamedOnce table → IsClear table (root_at (not table.committed.second)) 4096
clear_root table fit once =
    let other = root_page (not table.committed.second) in
    let most = other.1 in
    let least = other.0 in
    record {
      head = omega arith;
      root = roots table.committed.second;
      index = λ i lt. let low = unnamed_low table.committed.pages _ (index_of table.named.items i) (once.index i lt) in apart_low (index_of table.named.items i) (root_at (not table.committed.second)) 4096 low.0 most;
      maps = λ i lt. let low = unnamed_low table.committed.pages _ (maps_of table.named.items i) (once.maps i lt) in apart_low (maps_of table.named.items i) (root_at (not table.committed.second)) 4096 low.0 most;
      pages = λ i lt. let low = unnamed_low table.committed.pages _ (get_or table.map.committed i 0) (once.pages i lt) in apart_low (get_or table.map.committed i 0) (root_at (not table.committed.second)) 4096 low.0 most;
    }
  where
    roots : (second : Bool) → (root_at second + 4096 ≤ root_at (not second)) ⊎ (root_at (not second) + 4096 ≤ root_at second)
    roots true = inr (omega arith)
    roots false = inl (omega arith)

-- the index page's numbers stay while root pages are written
index_torn : (table : Table) (next : Committed) (at size : ℕ) (old new : List ℕ) → IsNext table next → 4096 * table.committed.pages ≤ length old → Torn at size old new → at + size ≤ 16384 → HasIndex table next old → HasIndex table next new
index_torn table next at size old new is long torn low has i lt deep =
    let there = index_there table next is deep in
    let high = there.1 in
    let few = (are_low next is.next_fit).few in
    number_stays (get_or table.next.items 0 0) (4096 * get_or table.next.items 0 0 + 4 * i) at size old new torn (apart_low (get_or table.next.items 0 0) at size there.0 low) (omega arith) (omega arith) (omega arith) ∙ has i lt deep

-- what is ready stays ready while bytes of the first pages are written that don't say what is committed
pub ready_torn : (a : Outside (List ℕ)) (table : Table) (next : Committed) (at size : ℕ) (old new : List ℕ) → IsNext table next → IsClear table at size → 4097 ≤ at → at + size ≤ 16384 → IsReady a table next old → Torn at size old new → IsReady a table next new
ready_torn a table next at size old new is clear behind low ready torn =
    let kept = ready.kept in
    let long = kept.says.head.long in
    let stays = clear_stays table at size old new is.fit is.once clear behind torn kept.says in
    record {
      kept = record { says = stays.0; from = kept.from; was = kept.was; held = kept.held ∙ sym stays.1 };
      staged = same_then a table old new ready.staged (pages_torn table next at size old new is long torn (λ k below. apart_low (get_or table.map.staged k 0) at size (page_there table next is k below).0 low) (λ other four pinned. apart_low other at size four low));
      maps = maps_torn table next (map_count next) at size old new is (omega arith) long torn (λ i lt.
          let low_map = unnamed_low next.pages _ (maps_of table.next.items i) (is.maps_once i lt) in apart_low (maps_of table.next.items i) at size low_map.0 low) ready.maps;
      index = index_torn table next at size old new is long torn low ready.index;
    }

pub count_fits : (table : Table) (next : Committed) → IsNext table next → 1 + map_count next ≤ length table.next.items
count_fits table next is =
    let most = (are_low next is.next_fit).maps in
    let size = is.nexts in
    let same : map_pages_of (capacity_pages next.pages) ≡ map_pages_of (capacity_pages table.committed.pages) = ap (λ (n : ℕ). map_pages_of (capacity_pages n)) is.pages_are in
    omega (arith, same)

pub index_numbers : (table : Table) (next : Committed) (named : List ℕ) (count : ℕ) (page : List ℕ) → named ≡ table.next.items → count ≡ map_count next → ((i : ℕ) → i < count → number_at (4 * i) 4 page ≡ maps_of named i) →
    (i : ℕ) → i < map_count next → number_at (4 * i) 4 page ≡ maps_of table.next.items i
index_numbers table next named count page named_is count_is numbers i lt = numbers i (omega arith) ∙ ap (λ (xs : List ℕ). maps_of xs i) named_is

pub ready_of : (a b c : Outside (List ℕ)) (table : Table) (next : Committed) (image : List ℕ) → IsKept a table image → ((bytes : List ℕ) → b.contents bytes → After a.contents (SamePages table) bytes) →
    After b.contents (SamePages table) image → HasMaps table next (map_count next) image × HasIndex table next image → IsReady a table next image
ready_of a b c table next image kept first again names = record { kept = kept; staged = same_then a table again.from image (first again.from again.was) again.by; maps = names.0; index = names.1 }

pub names_ready : {T E : Type 0} (a b c : Outside (List ℕ)) (table : Table) (next : Committed) (result : Result T E) → ((bytes : List ℕ) → c.contents bytes → c.images c.clock bytes) → Leaves a c (IsKept a table) →
    ((bytes : List ℕ) → b.contents bytes → After a.contents (SamePages table) bytes) → OnOk result ((bytes : List ℕ) → c.contents bytes → After b.contents (SamePages table) bytes) →
    OnOk result ((bytes : List ℕ) → c.contents bytes → HasMaps table next (map_count next) bytes × HasIndex table next bytes) → OnOk result ((bytes : List ℕ) → c.contents bytes → IsReady a table next bytes)
names_ready a b c table next (Ok x) law kept first again names = λ bytes now. ready_of a b c table next bytes (along_now kept bytes (law bytes now)) first (again bytes now) (names bytes now)
names_ready a b c table next (Err x) law kept first again names = tt

pub works_twice : {T E U F : Type 0} (a b c : Outside (List ℕ)) (one : Result T E) (two : Result U F) → Works a b one → Works b c two → Works a c two
works_twice a b c one two first next = record {
  told = along_then first.told next.told (along_now first.told);
  counts = let x = first.counts in let y = next.counts in omega arith;
  output = next.output ∙ first.output;
  cause = on_err_weaker two (λ rose. rose_then a.device_faults b.device_faults c.device_faults first.counts rose) next.cause;
}

pub works_call : {T E : Type 0} (a b : Outside (List ℕ)) (result : Result T E) → IsDeviceCall a b result → Works a b result
works_call a b result call = record { told = call.told; counts = call.counts; output = call.output; cause = call.cause }
