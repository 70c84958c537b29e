-- Words that are read page by page.
use Rattle.std.proofs.Common.{◌≡◌, ◌⊎◌, inl, inr, ℕ, ◌+◌, ◌-◌, ◌*◌, ◌/◌, ◌<◌, ◌≤◌, min, max, List, length, get_or, drop, ◌∙◌, ap, arith, Option, Some}
use Rattle.std.proofs.lemmas.List.{get_or-take, get_or-drop}
use Rattle.obj_layout.specs.ps_outside.Outside.{Outside, SameContents}
use Rattle.volume_parts.specs.Holding.{Held}
use Rattle.std.specs.Option.{option_map}
use Rattle.volume_parts.specs.declared.note.Note.{Note}
use Rattle.paged_volume.specs.Standing.{seen}
use Rattle.paged_volume.specs.Pinning.{pinned_bytes, Holds, IsHeldBy}
use Rattle.paged_volume.specs.declared.pinned.Pinned.{Pinned as PinHeld}
use Rattle.paged_volume.specs.Staging.{page_of}
use Rattle.paged_volume.specs.declared.table.Table.{Table}
use Rattle.obj_store.specs.declared.source.Source.{Source}
use Rattle.obj_store.specs.declared.source.Source.TheVariants.{Staged, Pinned}
use Rattle.obj_store.specs.Spaces.{word_at, shown_in, shown}
use Rattle.obj_store.specs.Viewing.{older}
use Rattle.obj_store.specs.Words.{IsApart, IsRead, HoldsRead}
use Rattle.obj_store.proofs.WordLaws.{word_same}

either : (m n : ℕ) → (m < n) ⊎ (n ≤ m)
either m n = grind arith

-- a page that a range of words meets is there
pub page_there : (half at count page : ℕ) → at + count ≤ 512 * half → page < (at + count + 511) / 512 → page < half
page_there half at count page within lt = omega arith

-- a word of a page
pub page_word : (page : ℕ) (held : Held) (buffer : List ℕ) (index : ℕ) → buffer ≡ page_of page held → 512 * page ≤ index → index < 512 * page + 512 →
    word_at buffer (index - 512 * page) ≡ word_at held.bytes index
page_word page held buffer index is low high =
    ap (λ (xs : List ℕ). word_at xs (index - 512 * page)) is
    ∙ word_same (page_of page held) held.bytes (index - 512 * page) index (λ k lt.
    get_or-take 4096 (drop (4096 * page) held.bytes) (8 * (index - 512 * page) + k) 0 (omega arith)
    ∙ get_or-drop (4096 * page) held.bytes (8 * (index - 512 * page) + k) 0
    ∙ ap (λ (p : ℕ). get_or held.bytes p 0) (let same : 4096 * page + (8 * (index - 512 * page) + k) ≡ 8 * index + k = omega arith in same))

pub part_read : (page first at : ℕ) (held : Held) (buffer old new : List ℕ) → first ≡ 512 * page → buffer ≡ page_of page held →
    IsRead buffer first (max at first) (min (at + length old) (first + 512)) at old new → HoldsRead held (512 * page) (512 * page + 512) at old new
part_read page first at held buffer old new first_is is read = record {
  here = λ k lt low high.
      read.here k lt (omega arith) (omega arith)
      ∙ ap (λ (n : ℕ). word_at buffer (at + k - n)) first_is
      ∙ page_word page held buffer (at + k) is low high;
  elsewhere = λ k apart. read.elsewhere k (out k apart);
}
  where
    out : (k : ℕ) → IsApart (512 * page) (512 * page + 512) (at + k) → IsApart (max at first) (min (at + length old) (first + 512)) (at + k)
    out k (inl before) = inl (omega arith)
    out k (inr behind) = inr (omega arith)

-- what is shown is what was shown before calls that only look
pub shown_kept : (source : Source) (c d : Table) (a b : Outside (List ℕ)) → d ≡ c → SameContents a b → (found : Option Held) → (shown source c a).contents found → (shown source d b).contents found
shown_kept source c d a b is_c same found was = record {
  from = was.from;
  was = same.kept was.from was.was;
  by = (λ i. Some (shown_in source (is_c i) was.from)) ∙ was.by;
}

pub seen_kept : (c d : Table) (a b : Outside (List ℕ)) → d ≡ c → SameContents a b → (found : Option Held) → (seen c a).contents found → (seen d b).contents found
seen_kept c d a b is_c same found was = shown_kept Staged c d a b is_c same found was

-- a page that was read by a pin is the page that is shown
pub pinned_read : (table : Table) (outside : Outside (List ℕ)) (pin : ℕ) (note : Note) (page : ℕ) (into : List ℕ) → IsHeldBy table pin (older note) →
    ((held : Held) → Holds table pin outside held → into ≡ page_of page held) → (held : Held) → (shown (Pinned pin note) table outside).contents (Some held) → into ≡ page_of page held
pinned_read table outside pin note page into is read held now =
    read held (record {
      from = now.from;
      was = now.was;
      by = ap (λ (o : Option PinHeld). option_map {U = Held} (λ (p : PinHeld). record { note = p.note; bytes = pinned_bytes table pin now.from }) o) is ∙ now.by;
    })

-- one page more
pub more_read : (page at : ℕ) (held : Held) (start old new : List ℕ) → length old ≡ length start →
    ((k : ℕ) → k < length start → at + k < 512 * page → get_or old k 0 ≡ word_at held.bytes (at + k)) → HoldsRead held (512 * page) (512 * page + 512) at old new →
    (k : ℕ) → k < length start → at + k < 512 * (page + 1) → get_or new k 0 ≡ word_at held.bytes (at + k)
more_read page at held start old new long before read k lt high = by (either (at + k) (512 * page))
  where
    by : (at + k < 512 * page) ⊎ (512 * page ≤ at + k) → get_or new k 0 ≡ word_at held.bytes (at + k)
    by (inl low) = read.elsewhere k (inl low) ∙ before k lt low
    by (inr here) = read.here k (omega (arith, long)) here (omega arith)
