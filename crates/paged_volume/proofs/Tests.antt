-- What the tests of a volume's file say of it.
use Rattle.std.proofs.Common.{◌≡◌, ◌≢◌, ◌⊎◌, inl, inr, ℕ, ◌+◌, ◌-◌, ◌/◌, ◌<◌, ◌≤◌, Bool, true, false, List, length, take, drop, refl, sym, ◌∙◌, ap, subst, arith, Option, Some, None, if◌then◌else◌, nat_lt, nat_eq}
use Rattle.std.proofs.lemmas.Bool.{cases_lt, cases_eq, le-ltb, lt-ltb, ltb-false, eq-eqb, eqb-true, ne_eqb}
use Rattle.std.specs.Option.{option_or}
use Rattle.ps_port.specs.ps_outside.Outside.{Outside}
use Rattle.volume_parts.specs.Layout.{magic, number_at, gate, selects, root_at, pages_of_words}
use Rattle.volume_parts.proofs.Numbers.{number_within}
use Rattle.volume_parts.specs.declared.open_fault.OpenFault.{OpenFault}
use Rattle.volume_parts.specs.declared.open_fault.OpenFault.TheVariants.{Device, NotAVolume, Damaged, Memory}
use Rattle.paged_volume.specs.Layout.{most_pages_of, capacity_of}
use Rattle.paged_volume.specs.Found.{no_volume, damaged, found_in, damage, after_head, after_root, after_names, head_damage, root_damage, head_tests, root_tests, names_tests, wants_equal, wants_between, wants_pages, wants_depth}
use Rattle.paged_volume.specs.Standing.{IsHeadFit, IsDepth, IsFit, HasHead, HasRoot, logical_of}
use Rattle.paged_volume.specs.Attaching.{IsHead, IsRoot, IsRefusal}
use Rattle.paged_volume.specs.declared.committed.Committed.{Committed}
use Rattle.paged_volume.specs.declared.damage.Damage.{Damage}
use Rattle.paged_volume.specs.declared.head.Head.{Head}
use Rattle.paged_volume.specs.declared.root.Root.{Root}

-- a test that is passed, and what it then says
equal_none : (at found wanted : ℕ) → found ≡ wanted → wants_equal at found wanted ≡ None
equal_none at found wanted same = ap (λ (b : Bool). if b then None else Some (damage at found wanted)) (eq-eqb found wanted same)

between_none : (at found low high : ℕ) → low ≤ found → found ≤ high → wants_between at found low high ≡ None
between_none at found low high least most =
    ap (λ (b : Bool). if b then Some (damage at found low) else (if nat_lt high found then Some (damage at found high) else None)) (le-ltb found low least)
    ∙ ap (λ (b : Bool). if b then Some (damage at found high) else None) (le-ltb high found most)

pages_none : (present pages : ℕ) → pages ≤ present → wants_pages present pages ≡ None
pages_none present pages some = ap (λ (b : Bool). if b then Some (damage 8 present pages) else None) (le-ltb present pages some)

pub none_some : {A B : Type 0} {x : A} → Some x ≡ None → B
none_some e = absurd (subst (λ (o : Option _). is_some o) e tt)
  where
    is_some : {A : Type 0} → Option A → Type 0
    is_some (Some x) = Unit {0}
    is_some None = ⊥

none_equal : (at found wanted : ℕ) → wants_equal at found wanted ≡ None → found ≡ wanted
none_equal at found wanted e = by (nat_eq found wanted) refl e
  where
    by : (b : Bool) → nat_eq found wanted ≡ b → (if b then None else Some (damage at found wanted)) ≡ None → found ≡ wanted
    by true is e = eqb-true found wanted is
    by false is e = none_some e

none_between : (at found low high : ℕ) → wants_between at found low high ≡ None → (low ≤ found) × (found ≤ high)
none_between at found low high e = by (nat_lt found low) (nat_lt high found) refl refl e
  where
    by : (a b : Bool) → nat_lt found low ≡ a → nat_lt high found ≡ b → (if a then Some (damage at found low) else (if b then Some (damage at found high) else None)) ≡ None →
        (low ≤ found) × (found ≤ high)
    by true b is_a is_b e = none_some e
    by false true is_a is_b e = none_some e
    by false false is_a is_b e = (ltb-false found low is_a, ltb-false high found is_b)

none_pages : (present pages : ℕ) → wants_pages present pages ≡ None → pages ≤ present
none_pages present pages e = by (nat_lt present pages) refl e
  where
    by : (b : Bool) → nat_lt present pages ≡ b → (if b then Some (damage 8 present pages) else None) ≡ None → pages ≤ present
    by true is e = none_some e
    by false is e = ltb-false present pages is

or_none : {A : Type 0} (a b : Option A) → a ≡ None → b ≡ None → option_or a b ≡ None
or_none {A = A} a b e f = ap (λ (o : Option A). option_or o b) e ∙ f

none_or : {A : Type 0} (a b : Option A) → option_or a b ≡ None → (a ≡ None) × (b ≡ None)
none_or None b e = (refl, e)
none_or (Some x) b e = none_some e

-- the test of the depth, by the pages and the format
depth_small : (format pages at depth : ℕ) → pages < 88 → wants_depth format pages at depth ≡ wants_equal at depth 0
depth_small format pages at depth few =
    ap (λ (b : Bool). if b then wants_equal at depth 0 else (if nat_eq format 1 then wants_between at depth 0 1 else wants_equal at depth 1)) (lt-ltb pages 88 few)

depth_first : (format pages at depth : ℕ) → 88 ≤ pages → format ≡ 1 → wants_depth format pages at depth ≡ wants_between at depth 0 1
depth_first format pages at depth many one =
    ap (λ (b : Bool). if b then wants_equal at depth 0 else (if nat_eq format 1 then wants_between at depth 0 1 else wants_equal at depth 1)) (le-ltb pages 88 many)
    ∙ ap (λ (b : Bool). if b then wants_between at depth 0 1 else wants_equal at depth 1) (eq-eqb format 1 one)

depth_second : (format pages at depth : ℕ) → 88 ≤ pages → format ≢ 1 → wants_depth format pages at depth ≡ wants_equal at depth 1
depth_second format pages at depth many other =
    ap (λ (b : Bool). if b then wants_equal at depth 0 else (if nat_eq format 1 then wants_between at depth 0 1 else wants_equal at depth 1)) (le-ltb pages 88 many)
    ∙ ap (λ (b : Bool). if b then wants_between at depth 0 1 else wants_equal at depth 1) (ne_eqb format 1 other)

depth_none : (format pages at depth : ℕ) → (1 ≤ format) × (format ≤ 2) → IsDepth format pages depth → wants_depth format pages at depth ≡ None
depth_none format pages at depth formats is =
    let low = formats.0 in
    let high = formats.1 in
    elim (cases_lt pages 88) [
      | inl few ↦ depth_small format pages at depth few ∙ equal_none at depth 0 (is.small few)
      | inr many ↦ elim (cases_eq format 1) [
        | inl one ↦ depth_first format pages at depth many one ∙ between_none at depth 0 1 (omega arith) is.at_most_one
        | inr other ↦ depth_second format pages at depth many other ∙ equal_none at depth 1 (is.large many (two format low high other))
      ]
    ]
  where
    two : (format : ℕ) → 1 ≤ format → format ≤ 2 → format ≢ 1 → format ≡ 2
    two format low high other = elim (cases_lt 1 format) [ inl more ↦ omega arith | inr less ↦ absurd (other (omega arith)) ]

none_depth : (format pages at depth : ℕ) → wants_depth format pages at depth ≡ None → IsDepth format pages depth
none_depth format pages at depth e = elim (cases_lt pages 88) [
  | inl few ↦
      let zero_is = none_equal at depth 0 (sym (depth_small format pages at depth few) ∙ e) in
      record { at_most_one = omega arith; small = λ lt. zero_is; large = λ many two. absurd (omega arith) }
  | inr many ↦ elim (cases_eq format 1) [
    | inl one ↦
        let both = none_between at depth 0 1 (sym (depth_first format pages at depth many one) ∙ e) in
        record { at_most_one = both.1; small = λ few. absurd (omega arith); large = λ lt two. absurd (omega arith) }
    | inr other ↦
        let one_is = none_equal at depth 1 (sym (depth_second format pages at depth many other) ∙ e) in
        record { at_most_one = omega arith; small = λ few. absurd (omega arith); large = λ lt two. one_is }
  ]
]

head_passes : (spelled format pages present : ℕ) → spelled ≡ magic → IsHeadFit format pages → pages ≤ present → head_tests spelled format pages present ≡ None
unfolding head_tests
head_passes spelled format pages present is fit some =
    or_none _ _ (equal_none 1 spelled magic is) (or_none _ _ (between_none 7 format 1 2 fit.formats.0 fit.formats.1) (or_none _ _ (between_none 8 pages 32 (most_pages_of format) fit.least fit.most) (pages_none present pages some)))

pub head_passed : (spelled format pages present : ℕ) → head_tests spelled format pages present ≡ None → (spelled ≡ magic) × IsHeadFit format pages × (pages ≤ present)
unfolding head_tests
head_passed spelled format pages present e =
    let first = none_or _ _ e in
    let second = none_or _ _ first.1 in
    let third = none_or _ _ second.1 in
    let between = none_between 8 pages 32 (most_pages_of format) third.0 in
    (none_equal 1 spelled magic first.0, record { formats = none_between 7 format 1 2 second.0; least = between.0; most = between.1 }, none_pages present pages third.1)

root_passes : (committed : Committed) (root logical : ℕ) → IsFit committed → logical ≡ logical_of committed → root_tests committed.format committed.pages root committed.note logical committed.depth ≡ None
unfolding root_tests
root_passes committed root logical fit is =
    let note = committed.note in
    or_none _ _ (between_none (root + 8) note.used 1 (capacity_of committed.pages) fit.some fit.within)
    (or_none _ _ (equal_none (root + 24) logical (pages_of_words note.used) is)
    (or_none _ _ (between_none (root + 16) note.directory 0 (note.used - 1) (omega arith) (let below = fit.below in omega arith))
    (depth_none committed.format committed.pages (root + 4092) committed.depth fit.head.formats fit.depth)))

pub root_passed : (committed : Committed) (root logical : ℕ) → IsHeadFit committed.format committed.pages → root_tests committed.format committed.pages root committed.note logical committed.depth ≡ None →
    IsFit committed × (logical ≡ logical_of committed)
unfolding root_tests
root_passed committed root logical head e =
    let note = committed.note in
    let first = none_or _ _ e in
    let second = none_or _ _ first.1 in
    let third = none_or _ _ second.1 in
    let used = none_between (root + 8) note.used 1 (capacity_of committed.pages) first.0 in
    let directory = none_between (root + 16) note.directory 0 (note.used - 1) third.0 in
    let some = used.0 in
    let below = directory.1 in
    (record { head = head; some = used.0; within = used.1; below = omega arith; depth = none_depth committed.format committed.pages (root + 4092) committed.depth third.1 }, none_equal (root + 24) logical (pages_of_words note.used) second.0)

-- the tests one after the other
found_after : (image : List ℕ) → 16384 ≤ length image → gate image ≡ 1 → found_in image ≡ after_head image (head_damage image)
unfolding found_in
found_after image long opened =
    ap (λ (b : Bool). if b then no_volume (length image) (gate image)
    else (if nat_eq (gate image) 1 then after_head image (head_damage image) else no_volume (length image) (gate image))) (le-ltb (length image) 16384 long)
    ∙ ap (λ (b : Bool). if b then after_head image (head_damage image) else no_volume (length image) (gate image)) (eq-eqb (gate image) 1 opened)

pub found_short : (image : List ℕ) → length image < 16384 → found_in image ≡ no_volume (length image) (gate image)
unfolding found_in
found_short image short =
    ap (λ (b : Bool). if b then no_volume (length image) (gate image)
    else (if nat_eq (gate image) 1 then after_head image (head_damage image) else no_volume (length image) (gate image))) (lt-ltb (length image) 16384 short)

pub found_shut : (image : List ℕ) → gate image ≢ 1 → found_in image ≡ no_volume (length image) (gate image)
unfolding found_in
found_shut image shut = by (nat_lt (length image) 16384) (nat_eq (gate image) 1) refl
  where
    by : (a b : Bool) → nat_eq (gate image) 1 ≡ b → (if a then no_volume (length image) (gate image)
        else (if b then after_head image (head_damage image) else no_volume (length image) (gate image))) ≡ no_volume (length image) (gate image)
    by true b is = refl
    by false true is = absurd (shut (eqb-true (gate image) 1 is))
    by false false is = refl

found_head : (image : List ℕ) (head : Head) (found : Damage) → 16384 ≤ length image → gate image ≡ 1 → IsHead image head →
    head_tests head.spelled head.format head.pages (length image / 4096) ≡ Some found → found_in image ≡ damaged found
found_head image head found long opened is e =
    found_after image long opened
    ∙ ap (λ (o : Option Damage). after_head image o) ((λ i. head_tests (is.spelled i) (is.format i) (is.pages i) (length image / 4096)) ∙ e)

-- page 0 passes its tests
found_root : (image : List ℕ) (format pages : ℕ) (second : Bool) → IsHeadFit format pages → HasHead format pages image → selects image ≡ second → found_in image ≡ after_root pages second image (root_damage format pages second image)
found_root image format pages second fit has selected =
    let long = has.long in
    let least = fit.least in
    let passes = (λ i. head_tests (has.spelled i) (has.format_is i) (has.pages_are i) (length image / 4096)) ∙ head_passes magic format pages (length image / 4096) refl fit (omega arith) in
    found_after image (omega arith) has.opened
    ∙ ap (λ (o : Option Damage). after_head image o) passes
    ∙ (λ i. after_root (has.pages_are i) (selected i) image (root_damage (has.format_is i) (has.pages_are i) (selected i) image))

pub found_root_damage : (image : List ℕ) (format pages : ℕ) (second : Bool) (root : Root) (found : Damage) → IsHeadFit format pages → HasHead format pages image → selects image ≡ second → IsRoot (root_at second) image root →
    root_tests format pages (root_at second) root.note root.logical root.depth ≡ Some found → found_in image ≡ damaged found
found_root_damage image format pages second root found fit has selected reads e =
    found_root image format pages second fit has selected
    ∙ ap (λ (o : Option Damage). after_root pages second image o) ((λ i. root_tests format pages (root_at second) (reads.note i) (reads.logical i) (reads.depth i)) ∙ e)

-- and so does the root page
pub found_names : (committed : Committed) (image : List ℕ) → IsFit committed → HasHead committed.format committed.pages image → selects image ≡ committed.second → HasRoot committed.second committed.note committed.depth image →
    found_in image ≡ after_names committed.pages committed.second image (names_tests committed.pages committed.second committed.depth (logical_of committed) image)
found_names committed image fit head selected root =
    let passes = (λ i. root_tests committed.format committed.pages (root_at committed.second) (root.note_is i) (root.logical i) (root.depth_is i)) ∙ root_passes committed (root_at committed.second) (logical_of committed) fit refl in
    found_root image committed.format committed.pages committed.second fit.head head selected
    ∙ ap (λ (o : Option Damage). after_root committed.pages committed.second image o) passes
    ∙ (λ i. after_names committed.pages committed.second image (names_tests committed.pages committed.second (root.depth_is i) (root.logical i) image))

not_device : (at found wanted : ℕ) {B : Type 0} → Damaged at found wanted ≡ Device → B
not_device at found wanted e = absurd (subst IsDamaged e tt)
  where
    IsDamaged : OpenFault → Type 0
    IsDamaged Device = ⊥
    IsDamaged (NotAVolume size gate) = ⊥
    IsDamaged (Damaged at found wanted) = Unit {0}
    IsDamaged Memory = ⊥

none_not_device : (size gate : ℕ) {B : Type 0} → NotAVolume size gate ≡ Device → B
none_not_device size gate e = absurd (subst IsNone e tt)
  where
    IsNone : OpenFault → Type 0
    IsNone Device = ⊥
    IsNone (NotAVolume size gate) = Unit {0}
    IsNone (Damaged at found wanted) = ⊥
    IsNone Memory = ⊥

-- the cause, where a test of each content failed
refused : (old new : Outside (List ℕ)) (found : Damage) (fault : OpenFault) → ((bytes : List ℕ) → old.contents bytes → found_in bytes ≡ damaged found) →
    fault ≡ Damaged found.at found.found found.wanted → IsRefusal old new fault
refused old new found fault is fault_is = subst (λ (f : OpenFault). IsRefusal old new f) (sym fault_is) (record {
  device = λ same. not_device found.at found.found found.wanted same;
  found = λ bytes now. is bytes now;
})

pub refused_none : (old new : Outside (List ℕ)) (size shown : ℕ) → ((bytes : List ℕ) → old.contents bytes → size ≡ length bytes) → ((bytes : List ℕ) → old.contents bytes → shown ≡ gate bytes) →
    (size < 16384) ⊎ (shown ≢ 1) → IsRefusal old new (NotAVolume size shown)
refused_none old new size shown size_is gate_is fails = record {
  device = λ same. none_not_device size shown same;
  found = λ bytes now. by bytes (size_is bytes now) (gate_is bytes now) fails;
}
  where
    by : (bytes : List ℕ) → size ≡ length bytes → shown ≡ gate bytes → (size < 16384) ⊎ (shown ≢ 1) → found_in bytes ≡ no_volume size shown
    by bytes size_is gate_is (inl short) = found_short bytes (omega arith) ∙ (λ i. no_volume (sym size_is i) (sym gate_is i))
    by bytes size_is gate_is (inr shut) = found_shut bytes (λ opened. shut (gate_is ∙ opened)) ∙ (λ i. no_volume (sym size_is i) (sym gate_is i))

pub refused_head : (old new : Outside (List ℕ)) (size shown : ℕ) (head : Head) (found : Damage) (fault : OpenFault) → ((bytes : List ℕ) → old.contents bytes → size ≡ length bytes) →
    ((bytes : List ℕ) → old.contents bytes → shown ≡ gate bytes) → 16384 ≤ size → shown ≡ 1 → ((bytes : List ℕ) → old.contents bytes → IsHead bytes head) →
    head_tests head.spelled head.format head.pages (size / 4096) ≡ Some found → fault ≡ Damaged found.at found.found found.wanted → IsRefusal old new fault
refused_head old new size shown head found fault size_is gate_is long opened reads e fault_is =
    refused old new found fault (λ bytes now.
    let same = size_is bytes now in
    found_head bytes head found (omega arith) (sym (gate_is bytes now) ∙ opened) (reads bytes now)
    (subst (λ (n : ℕ). head_tests head.spelled head.format head.pages (n / 4096) ≡ Some found) same e)) fault_is

pub head_was_read : (old : Outside (List ℕ)) (size shown : ℕ) (head : Head) → ((bytes : List ℕ) → old.contents bytes → size ≡ length bytes) →
    ((bytes : List ℕ) → old.contents bytes → shown ≡ gate bytes) → shown ≡ 1 → ((bytes : List ℕ) → old.contents bytes → IsHead bytes head) →
    head_tests head.spelled head.format head.pages (size / 4096) ≡ None → IsHeadFit head.format head.pages × ((bytes : List ℕ) → old.contents bytes → HasHead head.format head.pages bytes)
head_was_read old size shown head size_is gate_is opened reads e =
    let passed = head_passed head.spelled head.format head.pages (size / 4096) e in (
      passed.1,
      λ bytes now.
          let same = size_is bytes now in
          let present = passed.2 in
          let is = reads bytes now in
          record {
            long = omega arith;
            opened = sym (gate_is bytes now) ∙ opened;
            spelled = is.spelled ∙ passed.0;
            format_is = is.format;
            pages_are = is.pages;
          },
    )

pub refused_root : (old new : Outside (List ℕ)) (format pages : ℕ) (second : Bool) (root : Root) (found : Damage) (fault : OpenFault) → IsHeadFit format pages →
    ((bytes : List ℕ) → old.contents bytes → HasHead format pages bytes) → ((bytes : List ℕ) → old.contents bytes → selects bytes ≡ second) →
    ((bytes : List ℕ) → old.contents bytes → IsRoot (root_at second) bytes root) → root_tests format pages (root_at second) root.note root.logical root.depth ≡ Some found →
    fault ≡ Damaged found.at found.found found.wanted → IsRefusal old new fault
refused_root old new format pages second root found fault fit passed chosen reads e fault_is =
    refused old new found fault (λ bytes now. found_root_damage bytes format pages second root found fit (passed bytes now) (chosen bytes now) (reads bytes now) e) fault_is

pub root_was_passed : (old : Outside (List ℕ)) (format pages : ℕ) (second : Bool) (root : Root) → IsHeadFit format pages → ((bytes : List ℕ) → old.contents bytes → IsRoot (root_at second) bytes root) →
    root_tests format pages (root_at second) root.note root.logical root.depth ≡ None →
    IsFit (record { format = format; pages = pages; second = second; depth = root.depth; note = root.note })
    × ((bytes : List ℕ) → old.contents bytes → HasRoot second root.note root.depth bytes)
root_was_passed old format pages second root fit reads e =
    let tests = root_passed (record { format = format; pages = pages; second = second; depth = root.depth; note = root.note }) (root_at second) root.logical fit e in
    (tests.0, λ bytes now. record { note_is = (reads bytes now).note; logical = (reads bytes now).logical ∙ tests.1; depth_is = (reads bytes now).depth })

-- no test failed
pub not_some : {A : Type 0} (o : Option A) → ((x : A) → o ≡ Some x → ⊥) → o ≡ None
not_some None never = refl
not_some (Some x) never = absurd (never x refl)

-- a root page in the part that was read
pub root_was_read : (at from : ℕ) (image part : List ℕ) (root : Root) → at ≡ from → part ≡ take 4096 (drop at image) → IsRoot 0 part root → IsRoot from image root
root_was_read at from image part root at_is part_is is =
    let part_from : part ≡ take 4096 (drop from image) = part_is ∙ ap (λ (p : ℕ). take 4096 (drop p image)) at_is in
    let number = λ (place width : ℕ) (fits : place + width ≤ 4096). sym (number_within from 4096 place width image fits) ∙ ap (λ (xs : List ℕ). number_at place width xs) (sym part_from) in
    let commits : number_at from 8 image ≡ number_at 0 8 part = ap (λ (p : ℕ). number_at p 8 image) (omega arith) ∙ number 0 8 (omega arith) in
    record {
      note = (λ i. record { commits = commits i; used = number 8 8 (omega arith) i; directory = number 16 8 (omega arith) i }) ∙ is.note;
      logical = number 24 4 (omega arith) ∙ is.logical;
      depth = number 4092 4 (omega arith) ∙ is.depth;
    }

pub root_most : (second : Bool) → root_at second ≤ 16384
root_most true = omega arith
root_most false = omega arith
