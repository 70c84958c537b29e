-- The root page that names what is committed next, and the selector.
use Rattle.std.proofs.Common.{◌≡◌, ◌≢◌, ◌⊎◌, inl, inr, ℕ, ◌+◌, ◌*◌, ◌%◌, ◌==◌, ◌≤◌, Bool, true, false, not, List, [], ◌∷◌, length, get_or, take, drop, refl, sym, ◌∙◌, ap, subst, arith, if◌then◌else◌, Some}
use Rattle.std.proofs.lemmas.Bool.{cases_eq, eq-eqb, ne_eqb}
use Rattle.ps_port.specs.ps_outside.Outside.{Outside, Leaves, After}
use Rattle.ps_port.proofs.of_ps_outside.Moments.{along_then, along_weaker}
use Rattle.ps_port.specs.Disk.{Torn, Written, written}
use Rattle.ps_port.specs.DiskLaws.{written_torn}
use Rattle.ps_port.proofs.Torn.{written_range, byte_written}
use Rattle.volume_parts.specs.Layout.{number_at, root_at, selects}
use Rattle.volume_parts.proofs.Numbers.{number_within}
use Rattle.paged_volume.specs.Standing.{IsFit, IsNamedOnce, HasHead, HasRoot, index_of, maps_of}
use Rattle.paged_volume.specs.Switching.{IsNext, IsKept, IsReady, IsRootPage, IsRooted, IsSwitched, IsEither, next_table, first_name}
use Rattle.paged_volume.specs.declared.table.Table.{Table}
use Rattle.paged_volume.specs.declared.committed.Committed.{Committed}
use Rattle.paged_volume.proofs.Bounds.{are_low}
use Rattle.paged_volume.proofs.Numbers.{unnamed_low}
use Rattle.paged_volume.proofs.Reading.{index_first, maps_at_none, maps_at_one}
use Rattle.paged_volume.proofs.Held.{held_says}
use Rattle.paged_volume.proofs.Turning.{page_there, pages_torn, same_then}
use Rattle.paged_volume.proofs.Readying.{clear_root, ready_torn, deep_some}
use Rattle.paged_volume.proofs.Staying.{IsClear, SaysBut, apart_low, root_page, says_but, says_selected, but_stays, committed_stays}

roots_low : (second : Bool) → (4097 ≤ root_at second) × (root_at second + 4096 ≤ 16384)
roots_low second = let root = root_page second in let least = root.0 in (omega arith, root.1)

-- the root page was written, whole or torn
module _ (a b c : Outside (List ℕ)) (table : Table) (next : Committed) (is : IsNext table next) (at size : ℕ) (at_is : at ≡ root_at (not table.committed.second)) (size_is : size ≡ 4096)
    (ready : (image : List ℕ) → b.images b.clock image → IsReady a table next image) where
  root_torn : (old new : List ℕ) → IsReady a table next old → Torn at size old new → IsReady a table next new
  root_torn old new was torn =
      let low = roots_low (not table.committed.second) in
      ready_torn a table next (root_at (not table.committed.second)) 4096 old new is (clear_root table is.fit is.once) low.0 low.1 was
      (subst (λ (n : ℕ). Torn (root_at (not table.committed.second)) n old new) size_is (subst (λ (n : ℕ). Torn n size old new) at_is torn))

  pub root_images : Leaves a b (IsKept a table) → Leaves b c (After (b.images b.clock) (Torn at size)) → Leaves a c (IsKept a table)
  root_images first write = along_then first (along_weaker write (λ image after. (root_torn after.from image (ready after.from after.was) after.by).kept)) (λ image kept. kept)

  pub root_rooted : (page : List ℕ) → size ≡ length page → IsRootPage next (first_name table next) page → ((image : List ℕ) → c.images c.clock image → After (b.images b.clock) (Written at page) image) →
      (image : List ℕ) → c.images c.clock image → IsRooted a table next image
  root_rooted page size_of root durable image now =
      let after = durable image now in
      let was = ready after.from after.was in
      let long = was.kept.says.head.long in
      let least = is.fit.head.least in
      let low = (roots_low (not table.committed.second)).1 in
      let torn : Torn at size after.from image = subst (λ (xs : List ℕ). Torn at size after.from xs) (sym after.by) (subst (λ (n : ℕ). Torn at n after.from (written at page after.from)) (sym size_of) (written_torn at page after.from)) in
      record {
        ready = root_torn after.from image was torn;
        root = subst (λ (xs : List ℕ). IsRootPage next (first_name table next) xs)
            (sym ((λ i. take ((sym size_is ∙ size_of) i) (drop (sym at_is i) image)) ∙ ap (λ (xs : List ℕ). take (length page) (drop at xs)) after.by ∙ written_range at page after.from (omega arith))) root;
      }

-- the first name in a root page
pub first_none : (table : Table) (next : Committed) → next.depth ≡ 0 → first_name table next ≡ get_or table.next.items 1 0
unfolding first_name
first_none table next none = ap (λ (b : Bool). if b then get_or table.next.items 1 0 else get_or table.next.items 0 0) (eq-eqb next.depth 0 none)

pub first_some : (table : Table) (next : Committed) → next.depth ≢ 0 → first_name table next ≡ get_or table.next.items 0 0
unfolding first_name
first_some table next some = ap (λ (b : Bool). if b then get_or table.next.items 1 0 else get_or table.next.items 0 0) (ne_eqb next.depth 0 some)

map_zero : (named : List ℕ) → get_or named 1 0 ≡ maps_of named 0
unfolding maps_of
map_zero named = refl

-- what the file says of what is committed next
pub rooted_says : (a : Outside (List ℕ)) (table : Table) (next : Committed) (image : List ℕ) → IsNext table next → IsRooted a table next image → SaysBut (next_table table next) image
rooted_says a table next image is rooted =
    let root = rooted.root in
    let ready = rooted.ready in
    let part = take 4096 (drop (root_at (not table.committed.second)) image) in
    let number = λ (place width : ℕ) (fits : place + width ≤ 4096). sym (number_within (root_at (not table.committed.second)) 4096 place width image fits) in
    let commits : number_at (root_at (not table.committed.second)) 8 image ≡ number_at 0 8 part = ap (λ (p : ℕ). number_at p 8 image) (omega arith) ∙ number 0 8 (omega arith) in
    let head = ready.kept.says.head in
    record {
      head = subst (λ (f : ℕ). HasHead f next.pages image) (sym is.format) (subst (λ (p : ℕ). HasHead table.committed.format p image) (sym is.pages_are) head);
      root = subst (λ (s : Bool). HasRoot s next.note next.depth image) (sym is.second) (record {
        note_is = (λ i. record { commits = commits i; used = number 8 8 (omega arith) i; directory = number 16 8 (omega arith) i }) ∙ root.note;
        logical = number 24 4 (omega arith) ∙ root.logical;
        depth_is = number 4092 4 (omega arith) ∙ root.depth;
      });
      names = record {
        index = λ i lt. first ∙ first_some table next (λ none. absurd (omega arith)) ∙ sym (index_first table.next.items i);
        maps = λ i lt. elim (cases_eq next.depth 0) [
          | inl none ↦
              let one = is.one_map none in
              let zero_is : i ≡ 0 = omega arith in
              ap (λ (n : ℕ). number_at (n + 4 * i) 4 image) (maps_at_none next.second next.depth (get_or table.next.items 0 0) none)
              ∙ ap (λ (n : ℕ). number_at n 4 image) (omega arith)
              ∙ first ∙ first_none table next none ∙ map_zero table.next.items ∙ ap (λ (n : ℕ). maps_of table.next.items n) (sym zero_is)
          | inr deep ↦
              ap (λ (n : ℕ). number_at (n + 4 * i) 4 image) (maps_at_one next.second next.depth (get_or table.next.items 0 0) deep)
              ∙ ready.index i lt (deep_some next deep)
        ];
        numbers = λ k lt. ready.maps k (omega arith);
      };
    }
  where
    first : number_at (root_at next.second + 28) 4 image ≡ first_name table next
    first =
        ap (λ (s : Bool). number_at (root_at s + 28) 4 image) is.second
        ∙ sym (number_within (root_at (not table.committed.second)) 4096 28 4 image (omega arith)) ∙ rooted.root.names

-- the selector is apart from what both tables say
clear_selector : (table : Table) → IsFit table.committed → IsNamedOnce table → IsClear table 4096 1
clear_selector table fit once =
    let root = root_page table.committed.second in
    let least = root.0 in
    record {
      head = omega arith;
      root = inr (omega arith);
      index = λ i lt. let low = unnamed_low table.committed.pages _ (index_of table.named.items i) (once.index i lt) in apart_low (index_of table.named.items i) 4096 1 low.0 (omega arith);
      maps = λ i lt. let low = unnamed_low table.committed.pages _ (maps_of table.named.items i) (once.maps i lt) in apart_low (maps_of table.named.items i) 4096 1 low.0 (omega arith);
      pages = λ i lt. let low = unnamed_low table.committed.pages _ (get_or table.map.committed i 0) (once.pages i lt) in apart_low (get_or table.map.committed i 0) 4096 1 low.0 (omega arith);
    }

pub next_once : (table : Table) (next : Committed) → IsNext table next → IsNamedOnce (next_table table next)
next_once table next is = record { index = is.index_once; maps = is.maps_once; pages = is.pages_once; bare = is.bare }

either_way : (a b : Bool) → (a ≡ b) ⊎ (a ≡ not b)
either_way true true = inl refl
either_way true false = inr refl
either_way false true = inr refl
either_way false false = inl refl

module _ (a b c : Outside (List ℕ)) (table : Table) (next : Committed) (is : IsNext table next) (rooted : (image : List ℕ) → b.images b.clock image → IsRooted a table next image) where
  selector_new : (old new : List ℕ) → IsRooted a table next old → Torn 4096 1 old new → selects new ≡ not table.committed.second → IsSwitched a table next new
  selector_new old new was torn selected =
      let long = was.ready.kept.says.head.long in
      let says = but_stays (next_table table next) 4096 1 old new is.next_fit (next_once table next is) (clear_selector (next_table table next) is.next_fit (next_once table next is)) torn (rooted_says a table next old is was) in
      record {
        says = says_selected (next_table table next) new says (selected ∙ sym is.second);
        staged = same_then a table old new was.ready.staged (pages_torn table next 4096 1 old new is long torn (λ k below. apart_low (get_or table.map.staged k 0) 4096 1 (page_there table next is k below).0 (omega arith)) (λ other four pinned. apart_low other 4096 1 four (omega arith)));
      }

  selector_torn : (old new : List ℕ) → IsRooted a table next old → Torn 4096 1 old new → IsEither a table next new
  selector_torn old new was torn = elim (either_way (selects new) table.committed.second) [
    | inl same ↦
        let kept = was.ready.kept in
        let clear = clear_selector table is.fit is.once in
        let says = says_selected table new (but_stays table 4096 1 old new is.fit is.once clear torn (says_but table old kept.says)) same in
        inl (record {
          says = says;
          from = kept.from;
          was = kept.was;
          held = kept.held ∙ held_says table old is.fit is.once kept.says
              ∙ ap (λ (xs : List ℕ). Some (record { note = table.committed.note; bytes = xs })) (sym (committed_stays table 4096 1 old new is.fit is.once clear torn (says_but table old kept.says)))
              ∙ sym (held_says table new is.fit is.once says);
        })
    | inr other ↦ inr (selector_new old new was torn other)
  ]

  pub selector_images : Leaves a b (IsKept a table) → Leaves b c (After (b.images b.clock) (Torn 4096 1)) → Leaves a c (IsEither a table next)
  selector_images first write = along_then (along_weaker first (λ image kept. inl kept)) (along_weaker write (λ image after. selector_torn after.from image (rooted after.from after.was) after.by)) (λ image either. either)

  pub selector_switched : (byte : ℕ) → byte ≡ (if not table.committed.second then 1 else 0) → ((image : List ℕ) → c.images c.clock image → After (b.images b.clock) (Written 4096 (byte ∷ [])) image) →
      (image : List ℕ) → c.images c.clock image → IsSwitched a table next image
  selector_switched byte byte_is durable image now =
      let after = durable image now in
      let was = rooted after.from after.was in
      let long = was.ready.kept.says.head.long in
      let least = is.fit.head.least in
      selector_new after.from image was (subst (λ (xs : List ℕ). Torn 4096 1 after.from xs) (sym after.by) (written_torn 4096 (byte ∷ []) after.from))
      (ap (λ (xs : List ℕ). selects xs) after.by ∙ ap (λ (n : ℕ). n % 2 == 1) (byte_written 4096 byte after.from (omega arith) ∙ byte_is) ∙ chosen (not table.committed.second))
    where
      chosen : (second : Bool) → ((if second then 1 else 0) % 2 == 1) ≡ second
      chosen true = refl
      chosen false = refl

pub root_place : (second : Bool) → root_at second ≤ 12288
root_place second = let root = root_page second in let most = root.1 in omega arith

-- the numbers that a root page may name are there
pub names_there : (table : Table) (next : Committed) → IsNext table next → 2 ≤ length table.next.items
names_there table next is =
    let capacity = (are_low table.committed is.fit).maps in
    let some = (are_low table.committed is.fit).some in
    let size = is.nexts in
    omega arith
