-- Words that are put page by page.
use Rattle.std.proofs.Common.{◌≡◌, ◌≢◌, ◌⊎◌, inl, inr, ℕ, ◌+◌, ◌-◌, ◌*◌, ◌/◌, ◌<◌, ◌≤◌, min, max, List, length, get_or, refl, sym, ◌∙◌, ap, subst, arith, length-drop, length-take, Option, Some, Result, Ok, Err, OnOk}
use Rattle.std.specs.Option.{option_map}
use Rattle.std.proofs.lemmas.Option.{same_Some}
use Rattle.std.proofs.lemmas.Bool.{cases_eq}
use Rattle.std.proofs.lemmas.List.{get_or_past}
use Rattle.obj_layout.specs.ps_outside.Outside.{Outside, After, SameContents}
use Rattle.obj_layout.proofs.of_ps_outside.Moments.{along_then, along_now, same_as}
use Rattle.ps_port.specs.Disk.{written, IsOutside}
use Rattle.ps_port.specs.DiskLaws.{written_elsewhere, length-written}
use Rattle.volume_parts.specs.Layout.{pages_of_words}
use Rattle.paged_volume.specs.Layout.{capacity_pages}
use Rattle.volume_parts.specs.Holding.{Held}
use Rattle.paged_volume.specs.Standing.{seen, staged_in, staged_bytes, held_in}
use Rattle.paged_volume.specs.Pinning.{pinned_in, KeepsPins}
use Rattle.paged_volume.specs.Staging.{page_of, with_page, HasPages}
use Rattle.paged_volume.specs.Staging.{Marks as MarksPage}
use Rattle.volume_parts.specs.Calls.{Looks}
use Rattle.paged_volume.specs.declared.table.Table.{Table}
use Rattle.volume_parts.proofs.Gate.{written_inside}
use Rattle.paged_volume.proofs.Held.{length_bytes}
use Rattle.obj_store.specs.Spaces.{word_at}
use Rattle.obj_store.specs.Words.{IsApart, IsPut, HoldsPut, Differs}
use Rattle.paged_volume.specs.Staging.{Stages}
use Rattle.obj_store.specs.Staging.{Turns, Marks, LeavesStaged, SamePins}
use Rattle.obj_store.proofs.WordLaws.{word_same}
use Rattle.obj_store.proofs.ReadLaws.{page_word, seen_kept}

either : (m n : ℕ) → (m < n) ⊎ (n ≤ m)
either m n = grind arith

-- what a volume holds has all its pages
pub held_long : (table : Table) (outside : Outside (List ℕ)) (held : Held) → (seen table outside).contents (Some held) →
    length held.bytes ≡ 4096 * capacity_pages table.committed.pages
unfolding staged_bytes
held_long table outside held now =
    ap (λ (h : Held). length h.bytes) (sym (same_Some (staged_in table now.from) held now.by))
    ∙ length_bytes (λ page. get_or table.map.staged page 0) (capacity_pages table.committed.pages) now.from

-- a page that is put holds the words that were put into it
module _ (page half at : ℕ) (put buffer from : List ℕ) (held : Held) (below : page < half) (long : length held.bytes ≡ 4096 * half) (is : buffer ≡ page_of page held) (size : length buffer ≡ 4096)
    (low high : ℕ) (puts : IsPut (512 * page) low high at put buffer from) (from_low : 512 * page ≤ low) (to_high : high ≤ 512 * page + 512) where
  size_from : length from ≡ 4096
  size_from = puts.long ∙ size

  in_page : (index : ℕ) → 512 * page ≤ index → index < 512 * page + 512 → word_at (written (4096 * page) from held.bytes) index ≡ word_at from (index - 512 * page)
  in_page index at_least below_end =
      word_same (written (4096 * page) from held.bytes) from index (index - 512 * page) (λ k lt.
      written_inside (4096 * page) from held.bytes (8 * index + k) (omega (arith, long)) (omega arith) (omega (arith, size_from))
      ∙ ap (λ (p : ℕ). get_or from p 0) (let same : 8 * index + k - 4096 * page ≡ 8 * (index - 512 * page) + k = omega arith in same))

  long_written : length (written (4096 * page) from held.bytes) ≡ length held.bytes
  long_written =
      omega (arith, length-written (4096 * page) from held.bytes, length-take (4096 * page) held.bytes, length-drop (4096 * page + length from) held.bytes, size_from, long)

  out_of_page : (index : ℕ) → IsApart (512 * page) (512 * page + 512) index → word_at (written (4096 * page) from held.bytes) index ≡ word_at held.bytes index
  out_of_page index apart =
      word_same (written (4096 * page) from held.bytes) held.bytes index index (λ k lt. by k lt (either (8 * index + k) (length held.bytes)))
    where
      out : (k : ℕ) → k < 8 → IsApart (512 * page) (512 * page + 512) index → IsOutside (4096 * page) (length from) (8 * index + k)
      out k lt (inl before) = inl (omega arith)
      out k lt (inr behind) = inr (omega (arith, size_from))

      by : (k : ℕ) → k < 8 → (8 * index + k < length held.bytes) ⊎ (length held.bytes ≤ 8 * index + k) →
          get_or (written (4096 * page) from held.bytes) (8 * index + k) 0 ≡ get_or held.bytes (8 * index + k) 0
      by k lt (inl fits) = written_elsewhere (4096 * page) from held.bytes (8 * index + k) fits (out k lt apart)
      by k lt (inr past) =
          get_or_past (written (4096 * page) from held.bytes) (8 * index + k) 0 (omega (arith, long_written)) ∙ sym (get_or_past held.bytes (8 * index + k) 0 past)

  pub page_put : HoldsPut low high at put held (with_page page from held)
  page_put = record {
    note = refl;
    long = long_written;
    here = λ index at_least below_end. in_page index (omega arith) (omega arith) ∙ puts.here index at_least below_end;
    elsewhere = λ index apart. by index apart (either index (512 * page)) (either index (512 * page + 512));
  }
    where
      by : (index : ℕ) → IsApart low high index → (index < 512 * page) ⊎ (512 * page ≤ index) → (index < 512 * page + 512) ⊎ (512 * page + 512 ≤ index) →
          word_at (written (4096 * page) from held.bytes) index ≡ word_at held.bytes index
      by index apart (inl before) other = out_of_page index (inl before)
      by index apart (inr here) (inr behind) = out_of_page index (inr behind)
      by index apart (inr here) (inl within) = in_page index here within ∙ puts.elsewhere index here within apart ∙ page_word page held buffer index is here within

-- a page that was read, changed and put
pub part_turns : (a b c : Outside (List ℕ)) (p q r : Table) (page at low high : ℕ) (put buffer from : List ℕ) →
    SameContents a b → q ≡ p → page < capacity_pages p.committed.pages → length buffer ≡ 4096 →
    ((held : Held) → (seen p a).contents (Some held) → buffer ≡ page_of page held) → IsPut (512 * page) low high at put buffer from → 512 * page ≤ low → high ≤ 512 * page + 512 →
    ((found : Option Held) → (seen q b).contents found → (seen r c).contents (option_map (with_page page from) found)) →
    ((found : Option Held) → (seen r c).contents found → After (seen q b).contents (λ before after. option_map (with_page page from) before ≡ after) found) →
    Turns (seen p a) (seen r c) (HoldsPut low high at put)
part_turns a b c p q r page at low high put buffer from same is_q below size was_read puts from_low to_high stays back = record {
  forth = λ before was.
      (with_page page from before, stays (Some before) (seen_kept p q a b is_q same (Some before) was), step before was);
  back = λ after now.
      let found = back (Some after) now in
      let before = staged_in q found.was.from in
      let there : (seen q b).contents (Some before) = record { from = found.was.from; was = found.was.was; by = refl } in
      let was = seen_kept q p b a (sym is_q) (record { kept = same.no_other; no_other = same.kept }) (Some before) there in
      let is : with_page page from before ≡ after = same_Some (with_page page from before) after (ap (λ (o : Option Held). option_map (with_page page from) o) found.was.by ∙ found.by) in
      (before, was, subst (λ (h : Held). HoldsPut low high at put before h) is (step before was));
}
  where
    step : (before : Held) → (seen p a).contents (Some before) → HoldsPut low high at put before (with_page page from before)
    step before was = page_put page (capacity_pages p.committed.pages) at put buffer from before below (held_long p a before was) (was_read before was) size low high puts from_low to_high

pub turns_then : (a b c : Outside (Option Held)) (one two whole : Held → Held → Type 0) → Turns a b one → Turns b c two → ((x y z : Held) → one x y → two y z → whole x z) → Turns a c whole
turns_then a b c one two whole first next joins = record {
  forth = λ before was.
      let mid = first.forth before was in
      let end = next.forth mid.0 mid.1 in
      (end.0, end.1, joins before mid.0 end.0 mid.2 end.2);
  back = λ after now.
      let mid = next.back after now in
      let start = first.back mid.0 mid.1 in
      (start.0, start.1, joins start.0 mid.0 after start.2 mid.2);
}

-- words after words
pub puts_join : (low mid high at : ℕ) (put : List ℕ) (x y z : Held) → low ≤ mid → mid ≤ high → HoldsPut low mid at put x y → HoldsPut mid high at put y z → HoldsPut low high at put x z
puts_join low mid high at put x y z up on first next = record {
  note = next.note ∙ first.note;
  long = next.long ∙ first.long;
  here = λ index at_least below. here index at_least below (either index mid);
  elsewhere = λ index apart. next.elsewhere index (after index apart) ∙ first.elsewhere index (before index apart);
}
  where
    after : (index : ℕ) → IsApart low high index → IsApart mid high index
    after index (inl lt) = inl (omega arith)
    after index (inr ge) = inr ge

    before : (index : ℕ) → IsApart low high index → IsApart low mid index
    before index (inl lt) = inl lt
    before index (inr ge) = inr (omega arith)

    here : (index : ℕ) → low ≤ index → index < high → (index < mid) ⊎ (mid ≤ index) → word_at z.bytes index ≡ get_or put (index - at) 0
    here index at_least below (inr there) = next.here index there below
    here index at_least below (inl there) = next.elsewhere index (inl there) ∙ first.here index at_least there

pub marks_then : (from mid to : ℕ) (a b c : Table) → from ≤ mid → mid ≤ to → Marks from mid a b → Marks mid to b c → Marks from to a c
marks_then from mid to a b c up on first next = record {
  others = λ page apart. next.others page (after page apart) ∙ first.others page (before page apart);
  kept = λ page is. next.kept page (first.kept page is);
  marked = λ page at_least below. by page at_least below (either page mid);
}
  where
    after : (page : ℕ) → IsApart from to page → IsApart mid to page
    after page (inl lt) = inl (omega arith)
    after page (inr ge) = inr ge

    before : (page : ℕ) → IsApart from to page → IsApart from mid page
    before page (inl lt) = inl lt
    before page (inr ge) = inr (omega arith)

    by : (page : ℕ) → from ≤ page → page < to → (page < mid) ⊎ (mid ≤ page) → 1 ≤ get_or c.map.staged page 0
    by page at_least below (inl before) = next.kept page (first.marked page at_least before)
    by page at_least below (inr there) = next.marked page there below

pub stages_looks : (p q : Table) (a b : Outside (List ℕ)) (most : ℕ) → Looks a b most → Stages (seen p a) (seen q b) most
stages_looks p q a b most looks = record {
  told = looks.told;
  images = same_as a b held_in looks.images;
  counts = looks.counts;
  output = looks.output;
  calls = looks.calls;
}

-- a page that was put is staged, and the others are as they were
pub marks_put : {T E : Type 0} (page : ℕ) (p q : Table) (result : Result T E) → OnOk result (MarksPage page p q) → OnOk result (Marks page (page + 1) p q)
marks_put page p q (Err e) marks = tt
marks_put page p q (Ok x) marks = record {
  others = λ other apart. marks.kept other (out other apart);
  kept = λ other is. by other is (cases_eq other page);
  marked = λ other at_least below. let here : page ≡ other = omega arith in subst (λ (n : ℕ). 1 ≤ get_or q.map.staged n 0) here marks.marked;
}
  where
    out : (other : ℕ) → IsApart page (page + 1) other → other ≢ page
    out other (inl lt) e = absurd (omega (arith, e))
    out other (inr ge) e = absurd (omega (arith, e))

    by : (other : ℕ) → 1 ≤ get_or p.map.staged other 0 → (other ≡ page) ⊎ (other ≢ page) → 1 ≤ get_or q.map.staged other 0
    by other is (inl here) = subst (λ (n : ℕ). 1 ≤ get_or q.map.staged n 0) (sym here) marks.marked
    by other is (inr elsewhere) = subst (λ (n : ℕ). 1 ≤ n) (sym (marks.kept other elsewhere)) is

-- a page that was there already is staged or committed as before
pub marks_none : (page had : ℕ) (p q : Table) → q ≡ p → HasPages p had → page < had → Marks page (page + 1) p q
marks_none page had p q same has below = record {
  others = λ other apart. ap (λ (t : Table). get_or t.map.staged other 0) same;
  kept = λ other is. subst (λ (t : Table). 1 ≤ get_or t.map.staged other 0) (sym same) is;
  marked = λ other at_least lt. subst (λ (t : Table). 1 ≤ get_or t.map.staged other 0) (sym same) (has other (omega arith));
}

-- a page whose words were there already
module _ (a b : Outside (List ℕ)) (p q : Table) (page at low high : ℕ) (put buffer : List ℕ) (same : SameContents a b) (is_q : q ≡ p)
    (was_read : (held : Held) → (seen p a).contents (Some held) → buffer ≡ page_of page held) (from_low : 512 * page ≤ low) (to_high : high ≤ 512 * page + 512) where
  word_there : (held : Held) → (seen p a).contents (Some held) → (index : ℕ) → low ≤ index → index < high → word_at buffer (index - 512 * page) ≡ word_at held.bytes index
  word_there held was index at_least below = page_word page held buffer index (was_read held was) (omega arith) (omega arith)

  pub part_same : (from : List ℕ) → IsPut (512 * page) low high at put buffer from → from ≡ buffer → Turns (seen p a) (seen q b) (HoldsPut low high at put)
  part_same from puts unchanged = record {
    forth = λ before was. (before, seen_kept p q a b is_q same (Some before) was, step before was);
    back = λ after now.
        let was = seen_kept q p b a (sym is_q) (record { kept = same.no_other; no_other = same.kept }) (Some after) now in
        (after, was, step after was);
  }
    where
      step : (held : Held) → (seen p a).contents (Some held) → HoldsPut low high at put held held
      step held was = record {
        note = refl;
        long = refl;
        here = λ index at_least below.
            sym (word_there held was index at_least below) ∙ sym (ap (λ (xs : List ℕ). word_at xs (index - 512 * page)) unchanged) ∙ puts.here index at_least below;
        elsewhere = λ index apart. refl;
      }

  -- where the words are there nothing changes
  pub differs_not : Differs (512 * page) low high at put buffer → (held : Held) → (seen p a).contents (Some held) → HoldsPut low high at put held held → ⊥
  differs_not differs held was there = differs.other (word_there held was differs.index differs.low_is differs.below ∙ there.here differs.index differs.low_is differs.below)

-- the words of a range are there, and so those of a part of it
pub there_within : (low high from to at : ℕ) (put : List ℕ) (held : Held) → low ≤ from → to ≤ high → HoldsPut low high at put held held → HoldsPut from to at put held held
there_within low high from to at put held le ge is = record {
  note = refl;
  long = refl;
  here = λ index at_least below. is.here index (omega arith) (omega arith);
  elsewhere = λ index apart. refl;
}

-- the pages of a range are staged or committed, behind those that were
pub has_more : (used count : ℕ) (p q : Table) → HasPages p (pages_of_words used) → Marks (used / 512) (pages_of_words (used + count)) p q → HasPages q (pages_of_words (used + count))
has_more used count p q has marks page lt = by (either page (used / 512))
  where
    by : (page < used / 512) ⊎ (used / 512 ≤ page) → 1 ≤ get_or q.map.staged page 0
    by (inl before) = marks.kept page (has page (omega arith))
    by (inr behind) = marks.marked page behind lt

pub has_kept : (count from to : ℕ) (p q : Table) → HasPages p count → Marks from to p q → HasPages q count
has_kept count from to p q has marks page lt = marks.kept page (has page lt)

-- parts that are there, one after the other
pub leaves_then : (p q r : Table) (a b c : Outside (List ℕ)) (low high from to at : ℕ) (put : List ℕ) → low ≤ from → to ≤ high → LeavesStaged p q a b low high at put → LeavesStaged q r b c from to at put →
    LeavesStaged p r a c low high at put
leaves_then p q r a b c low high from to at put le ge first next held was there =
    let one = first held was there in
    let two = next held one.1 (there_within low high from to at put held le ge there) in
    (two.0 ∙ one.0, two.1)

-- a page whose words are there already stages nothing
pub leaves_same : (p q : Table) (a b : Outside (List ℕ)) (low high at : ℕ) (put : List ℕ) → q ≡ p → SameContents a b → LeavesStaged p q a b low high at put
leaves_same p q a b low high at put is_q same held was there = (is_q, seen_kept p q a b is_q same (Some held) was)

-- pins that hold what they held
pub pins_same : (p q : Table) → q ≡ p → SamePins p q
pins_same p q same = record { pins = ap (λ (t : Table). t.pins.items) same; lists = ap (λ (t : Table). t.map.pins) same; committed = ap (λ (t : Table). t.map.committed) same }

pub pins_then : (p q r : Table) → SamePins p q → SamePins q r → SamePins p r
pins_then p q r first next = record { pins = next.pins ∙ first.pins; lists = next.lists ∙ first.lists; committed = next.committed ∙ first.committed }

-- and what they hold stands
pub keeps_looks : (p q : Table) (a b : Outside (List ℕ)) → q ≡ p → SameContents a b → KeepsPins p q a b
keeps_looks p q a b is_q same = record {
  kept = λ pin held was. record { from = was.from; was = same.kept was.from was.was; by = (λ i. pinned_in (is_q i) pin was.from) ∙ was.by };
  no_other = λ pin held now. record { from = now.from; was = same.no_other now.from now.was; by = (λ i. pinned_in (sym is_q i) pin now.from) ∙ now.by };
}

pub keeps_then : (p q r : Table) (a b c : Outside (List ℕ)) → KeepsPins p q a b → KeepsPins q r b c → KeepsPins p r a c
keeps_then p q r a b c first next = record {
  kept = λ pin held was. next.kept pin held (first.kept pin held was);
  no_other = λ pin held now. first.no_other pin held (next.no_other pin held now);
}

pub stages_then : {X : Type 0} (a b c : Outside X) (m n most : ℕ) → Stages a b m → Stages b c n → m + n ≤ most → Stages a c most
stages_then a b c m n most first next fits = record {
  told = along_then first.told next.told (along_now first.told);
  images = along_then first.images next.images (along_now first.images);
  counts = let one = first.counts in let two = next.counts in omega arith;
  output = next.output ∙ first.output;
  calls = let one = first.calls in let two = next.calls in omega arith;
}

-- the next page of a range of words
pub next_put : (at count page : ℕ) (put : List ℕ) (x y z : Held) → 512 * page < at + count → at < 512 * page + 512 →
    HoldsPut at (max at (min (at + count) (512 * page))) at put x y → HoldsPut (max at (512 * page)) (min (at + count) (512 * page + 512)) at put y z →
    HoldsPut at (max at (min (at + count) (512 * (page + 1)))) at put x z
next_put at count page put x y z starts ends first next =
    let mid : max at (min (at + count) (512 * page)) ≡ max at (512 * page) = omega arith in
    let high : max at (min (at + count) (512 * (page + 1))) ≡ min (at + count) (512 * page + 512) = omega arith in
    subst (λ (n : ℕ). HoldsPut at n at put x z) (sym high)
    (puts_join at (max at (512 * page)) (min (at + count) (512 * page + 512)) at put x y z (omega arith) (omega arith) (subst (λ (n : ℕ). HoldsPut at n at put x y) mid first) next)

-- the calls of the pages of a range
pub calls_fit : (at count page first : ℕ) → first ≡ at / 512 → first ≤ page → page < (at + count + 511) / 512 → 2 * (page - first) + 2 ≤ count / 256 + 4
calls_fit at count page first is low high = omega arith

-- what follows from two facts of an answer
pub on_ok_two : {T E P Q R : Type 0} (r : Result T E) → (P → Q → R) → OnOk r P → OnOk r Q → OnOk r R
on_ok_two (Ok x) f p q = f p q
on_ok_two (Err e) f p q = tt

-- a step after calls that only look
pub turns_looks : (p q : Table) (a b : Outside (List ℕ)) (c : Outside (Option Held)) (step : Held → Held → Type 0) → q ≡ p → SameContents a b →
    Turns (seen q b) c step → Turns (seen p a) c step
turns_looks p q a b c step is_q same turns = record {
  forth = λ before was. turns.forth before (seen_kept p q a b is_q same (Some before) was);
  back = λ after now.
      let it = turns.back after now in
      (it.0, seen_kept q p b a (sym is_q) (record { kept = same.no_other; no_other = same.kept }) (Some it.0) it.1, it.2);
}
