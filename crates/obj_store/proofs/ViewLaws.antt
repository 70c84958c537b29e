-- What a pin holds, and a view of it.
use Rattle.std.proofs.Common.{◌≡◌, ℕ, ◌<◌, ◌≤◌, true, false, List, length, get_or, refl, sym, ◌∙◌, ap, subst, arith, inl, inr, Option, Some, None}
use Rattle.std.specs.Prelude.{IsSome, Result, Ok, Err, OnOk, OnErr}
use Rattle.std.proofs.lemmas.Bool.{cases_lt}
use Rattle.std.proofs.lemmas.List.{get_or_past}
use Rattle.std.proofs.lemmas.Option.{same_Some}
use Rattle.obj_layout.specs.ps_outside.Outside.{Outside, After, SameContents, seen_as}
use Rattle.volume_parts.specs.Holding.{Held}
use Rattle.volume_parts.specs.declared.note.Note.{Note}
use Rattle.paged_volume.specs.Found.{bytes_named}
use Rattle.paged_volume.specs.Layout.{capacity_pages}
use Rattle.paged_volume.specs.Standing.{IsTable, staged_bytes, seen}
use Rattle.paged_volume.specs.Standing.{held_in as file_held}
use Rattle.paged_volume.specs.Staging.{HasPages}
use Rattle.paged_volume.specs.Pinning.{Pins, Reserves, IsHeldBy, IsPin, IsCommit, pin_of, pinned_list, pinned_bytes}
use Rattle.paged_volume.specs.declared.committed.Committed.{Committed}
use Rattle.paged_volume.specs.declared.pinned.Pinned.{Pinned as PinHeld}
use Rattle.paged_volume.specs.declared.table.Table.{Table}
use Rattle.obj_layout.specs.Stored.{Space}
use Rattle.obj_store.specs.declared.kept.KeptPage.{KeptPage}
use Rattle.obj_store.specs.declared.source.Source.{Source}
use Rattle.obj_store.specs.declared.source.Source.TheVariants.{Staged, Pinned}
use Rattle.obj_store.specs.Kept.{AreHeld}
use Rattle.obj_store.specs.Spaces.{space_filed, used_in, directory_in, is_staged, IsStaged, shown_in, spaces, spaces_at, IsInOrder, IsUsable, IsTold}
use Rattle.obj_store.specs.Store.{Store, IsUnstaged, bounded, outside_at}
use Rattle.obj_store.specs.StoreLaws.{words_low}
use Rattle.obj_store.specs.Viewing.{latest, older, held_in, IsSource, IsViewed, IsFew, ShowsPin}
use Rattle.obj_store.proofs.KeptLaws.{none_some}

-- a pin that holds something is one of the pins
pub pin_below : {A : Type 0} (pins : List (Option A)) (pin : ℕ) (held : A) → get_or pins pin None ≡ Some held → pin < length pins
pin_below pins pin held is = elim (cases_lt pin (length pins)) [
  | inl below ↦ below
  | inr past ↦ absurd (none_some held (sym (get_or_past pins pin None past) ∙ is))
]

-- what a pin holds is a commit
pub commit_of : (table : Table) (pin : ℕ) (held : PinHeld) → IsTable table → IsHeldBy table pin held → IsCommit table (pinned_list table pin) held
commit_of table pin held is here =
    let below = pin_below table.pins.items pin held here in
    subst (λ (o : Option PinHeld). IsPin table (pinned_list table pin) o) here (is.pins pin (omega (arith, is.pin_count)))

pub held_some : (table : Table) (pin : ℕ) → IsSome (pin_of table pin) → (held : PinHeld) × IsHeldBy table pin held
held_some table pin some = by (pin_of table pin) some
  where
    by : (o : Option PinHeld) → IsSome o → (held : PinHeld) × (o ≡ Some held)
    by (Some held) is = (held, refl)
    by None is = absurd (cc)

-- what it holds is that of the last commit, or an older one
pub viewed_latest : (table : Table) (pin : ℕ) (held : PinHeld) → IsTable table → IsHeldBy table pin held → held.current ≡ true → IsHeldBy table pin (latest table.committed.note)
viewed_latest table pin held is here current =
    let last = (commit_of table pin held is here).last current in
    here ∙ (λ i. Some (record { note = last.1 i; current = current i }))

pub viewed_older : (table : Table) (pin : ℕ) (held : PinHeld) → IsHeldBy table pin held → held.current ≡ false → IsHeldBy table pin (older held.note)
viewed_older table pin held here current = here ∙ (λ i. Some (record { note = held.note; current = current i }))

pub commit_few : (table : Table) (pin : ℕ) (held : PinHeld) → IsTable table → IsHeldBy table pin held → IsFew (Pinned pin held.note)
commit_few table pin held is here =
    let commit = commit_of table pin held is here in
    let few = words_low table.committed is.fit in
    let some = commit.some in
    let within = commit.within in
    omega arith

-- the words that a source shows can be used
pub usable : (source : Source) (used : ℕ) (table : Table) → IsTable table → IsSource table source → IsInOrder used table.committed → IsUsable (used_in source used) (directory_in source table) table.committed
usable Staged used table is there order = order
usable (Pinned pin note) used table is there order =
    let commit = commit_of table pin (older note) is there in
    record { fit = order.fit; below = commit.below; within = commit.within }

pub viewed_source : (table : Table) (pin : ℕ) (source : Source) → IsViewed table pin source → IsSource table source
viewed_source table pin Staged is = tt
viewed_source table pin (Pinned at note) is = subst (λ (n : ℕ). IsHeldBy table n (older note)) (sym is.0) is.1

pub viewed_same : (p q : Table) (pin : ℕ) (source : Source) → q.pins.items ≡ p.pins.items → q.committed ≡ p.committed → IsViewed p pin source → IsViewed q pin source
viewed_same p q pin source pins committed is =
    (is.0, ap (λ (held : List (Option PinHeld)). get_or held pin None) pins ∙ is.1 ∙ ap (λ (k : Committed). Some (held_in source k.note)) (sym committed))

-- a pin that was set is current
pub viewed_pin : (p q : Table) (pin : ℕ) → Pins pin p q → IsViewed q pin Staged
viewed_pin p q pin to = (refl, to.here ∙ ap (λ (k : Committed). Some (latest k.note)) (sym to.committed))

pub staged_is : (source : Source) → is_staged source ≡ true → source ≡ Staged
staged_is Staged e = refl
staged_is (Pinned pin note) e = absurd (cc)

pub viewed_below : (table : Table) (pin : ℕ) → IsViewed table pin Staged → pin < length table.pins.items
viewed_below table pin is = pin_below table.pins.items pin (latest table.committed.note) is.1

-- the words that are used, within the bounds of every store
pub used_bounded : (source : Source) (used : ℕ) → IsFew source → used_in source (bounded used) ≡ bounded (used_in source used)
used_bounded Staged used few = refl
used_bounded (Pinned pin note) used few = sym few

abbrev held_with : Note → List ℕ → Held
held_with note bytes = record { note = note; bytes = bytes }

-- a table with the same commit, and the same pages staged, is seen the same
abbrev seen_with : Committed → List ℕ → Outside (List ℕ) → Outside (Option Held)
seen_with committed staged outside = record {
  clock = outside.clock;
  told = outside.told;
  images = λ m found. After (outside.images m) (λ (x : List ℕ) (z : Option Held). file_held x ≡ z) found;
  contents = λ found. After outside.contents (λ (x : List ℕ) (z : Option Held).
      Some (held_with committed.note (bytes_named (λ page. get_or staged page 0) (capacity_pages committed.pages) x)) ≡ z) found;
  device_faults = outside.device_faults;
  output_faults = outside.output_faults;
  device_calls = outside.device_calls;
}

seen_is : (table : Table) (outside : Outside (List ℕ)) → seen table outside ≡ seen_with table.committed table.map.staged outside
unfolding staged_bytes
seen_is table outside = refl

abbrev spaces_with : ℕ → Committed → Outside (Option Held) → Outside (List ℕ) → Outside Space
spaces_with used committed volume outside = record {
  clock = outside.clock;
  told = outside.told;
  images = (seen_as space_filed outside).images;
  contents = IsTold used committed.note.directory committed volume;
  device_faults = outside.device_faults;
  output_faults = outside.output_faults;
  device_calls = outside.device_calls;
}

spaces_is : (used : ℕ) (table : Table) (outside : Outside (List ℕ)) → spaces used table outside ≡ spaces_with used table.committed (seen table outside) outside
spaces_is used table outside = refl

module _ (p q : Table) (a b : Outside (List ℕ)) (committed : q.committed ≡ p.committed) (staged : q.map.staged ≡ p.map.staged) (same : b ≡ a) where
  seen_same : seen q b ≡ seen p a
  seen_same = seen_is q b ∙ (λ i. seen_with (committed i) (staged i) (same i)) ∙ sym (seen_is p a)

  pub spaces_same : (used next : ℕ) → next ≡ used → spaces next q b ≡ spaces used p a
  spaces_same used next is = spaces_is next q b ∙ (λ i. spaces_with (is i) (committed i) (seen_same i) (same i)) ∙ sym (spaces_is used p a)

  pub kept_same : (places : List (Option KeptPage)) → AreHeld places p a → AreHeld places q b
  kept_same places kept = λ place page is.
      let at = kept place page is in
      record {
        place_is = at.place_is;
        below = subst (λ (k : Committed). page.number < capacity_pages k.pages) (sym committed) at.below;
        bytes_are = λ held now. at.bytes_are held (subst (λ (o : Outside (Option Held)). o.contents (Some held)) seen_same now);
      }

-- pins that were reserved, or not, change nothing else
pub reserved : {T E : Type 0} (count : ℕ) (p q : Table) (result : Result T E) → OnOk result (Reserves count p q) → OnErr result (q ≡ p) →
    (q.committed ≡ p.committed) × (q.map.staged ≡ p.map.staged) × (q.map.committed ≡ p.map.committed)
reserved count p q (Ok x) to same = (to.committed, to.lists.1, to.lists.0)
reserved count p q (Err e) to same = (ap (λ (t : Table). t.committed) same, ap (λ (t : Table). t.map.staged) same, ap (λ (t : Table). t.map.committed) same)

pub unstaged_same : (p q : Table) (used : ℕ) → q.committed ≡ p.committed → q.map.staged ≡ p.map.staged → q.map.committed ≡ p.map.committed → IsUnstaged p used → IsUnstaged q used
unstaged_same p q used committed staged list is = record { pages = staged ∙ is.pages ∙ sym list; words = is.words ∙ sym (ap (λ (k : Committed). k.note.used) committed) }

pub has_same : (p q : Table) (count : ℕ) → q.map.staged ≡ p.map.staged → HasPages p count → HasPages q count
has_same p q count staged has page lt = subst (λ (xs : List ℕ). 1 ≤ get_or xs page 0) (sym staged) (has page lt)

-- what is shown of a pin that holds what is committed, where nothing is staged
pinned_staged : (table : Table) (pin : ℕ) (image : List ℕ) → pinned_list table pin ≡ table.map.committed → table.map.staged ≡ table.map.committed → pinned_bytes table pin image ≡ staged_bytes table image
unfolding pinned_bytes staged_bytes
pinned_staged table pin image list staged = λ i. bytes_named (λ page. get_or ((list ∙ sym staged) i) page 0) (capacity_pages table.committed.pages) image

-- and so a view of a pin shows what it holds
module _ (used next : ℕ) (p : Table) (a : Outside (List ℕ)) (one other : Source) (shows : (image : List ℕ) → shown_in one p image ≡ shown_in other p image)
    (used_is : used ≡ next) (directory : directory_in one p ≡ directory_in other p) where
  told_as : (space : Space) → (spaces_at one used p a).contents space → (spaces_at other next p a).contents space
  told_as space told = record {
    order = subst (λ (n : ℕ). IsUsable n (directory_in other p) p.committed) used_is (subst (λ (n : ℕ). IsUsable used n p.committed) directory told.order);
    staged = record {
      from = told.staged.from;
      was = record { from = told.staged.was.from; was = told.staged.was.was; by = ap (λ (h : Held). Some h) (sym (shows told.staged.was.from)) ∙ told.staged.was.by };
      by = subst (λ (n : ℕ). IsStaged n told.staged.from space) used_is told.staged.by;
    };
  }

same_shown : (used next : ℕ) (p : Table) (a : Outside (List ℕ)) (one other : Source) → ((image : List ℕ) → shown_in one p image ≡ shown_in other p image) → used ≡ next →
    directory_in one p ≡ directory_in other p → SameContents (spaces_at one used p a) (spaces_at other next p a)
same_shown used next p a one other shows used_is directory = record {
  kept = told_as used next p a one other shows used_is directory;
  no_other = told_as next used p a other one (λ image. sym (shows image)) (sym used_is) (sym directory);
}

pub shows_pin : {H : Type 0} (outside : H → Outside (List ℕ)) (store : Store H) (pin : ℕ) (source : Source) → IsTable store.table → IsUnstaged store.table store.used → IsViewed store.table pin source → ShowsPin outside store pin source
shows_pin outside store pin Staged is_table unstaged is held here =
    let table = store.table in
    let same : held ≡ latest table.committed.note = same_Some held (latest table.committed.note) (sym here ∙ is.1) in
    let note = ap (λ (h : PinHeld). h.note) same in
    let last = (commit_of table pin held is_table here).last (ap (λ (h : PinHeld). h.current) same) in
    same_shown held.note.used store.used table (outside store.host) (Pinned pin held.note) Staged
    (λ image. λ i. record { note = note i; bytes = pinned_staged table pin image last.0 unstaged.pages i })
    (ap (λ (n : Note). n.used) note ∙ sym unstaged.words) (ap (λ (n : Note). n.directory) note)
shows_pin outside store pin (Pinned at note) is_table unstaged is held here =
    let table = store.table in
    let same : held ≡ older note = same_Some held (older note) (sym here ∙ is.1) in
    let noted = ap (λ (h : PinHeld). h.note) same in
    same_shown held.note.used note.used table (outside store.host) (Pinned pin held.note) (Pinned at note)
    (λ image. λ i. record { note = noted i; bytes = pinned_bytes table (sym is.0 i) image })
    (ap (λ (n : Note). n.used) noted) (ap (λ (n : Note). n.directory) noted)

-- the outside of a store, as its fields are seen and as the words are counted
pub as_seen : {H : Type 0} (outside : H → Outside (List ℕ)) (source : Source) (used : ℕ) (store value : Store H) (next : Table) (host : H) (P : Outside Space → Outside Space → Type 0) →
    used ≡ used_in source store.used → store ≡ value → P (spaces_at source used store.table (outside store.host)) (spaces_at source used next (outside host)) →
    P (outside_at outside source value) (spaces_at source (used_in source store.used) next (outside host))
as_seen outside source used store value next host P is same x =
    subst (λ (s : Store _). P (outside_at outside source s) (spaces_at source (used_in source store.used) next (outside host))) same
    (subst (λ (n : ℕ). P (spaces_at source n store.table (outside store.host)) (spaces_at source n next (outside host))) is x)
