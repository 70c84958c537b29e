-- Pages that are kept while a volume is read and written.
use Rattle.std.proofs.Common.{◌≡◌, ◌≢◌, ◌⊎◌, inl, inr, ℕ, zero, suc, ◌+◌, ◌-◌, ◌*◌, ◌%◌, ◌<◌, ◌≤◌, List, [], ◌∷◌, length, get_or, set, take, drop, replicate, refl, sym, ◌∙◌, ap, subst, arith, length-drop, length-take, get_or-set_same, get_or-set_other, Option, Some, None}
use Rattle.std.specs.Option.{option_map}
use Rattle.std.proofs.lemmas.Bool.{cases_eq, cases_lt}
use Rattle.std.proofs.lemmas.Option.{same_Some}
use Rattle.std.proofs.lemmas.Grind.{same_number_lists}
use Rattle.std.proofs.lemmas.List.{get_or-take, get_or-drop, get_or_past}
use Rattle.obj_layout.specs.ps_outside.Outside.{Outside, After, SameContents}
use Rattle.ps_port.specs.Disk.{written, IsOutside}
use Rattle.ps_port.specs.DiskLaws.{written_elsewhere, length-written}
use Rattle.volume_parts.specs.Holding.{Held}
use Rattle.volume_parts.proofs.Gate.{written_inside}
use Rattle.paged_volume.specs.Layout.{capacity_pages}
use Rattle.paged_volume.specs.Standing.{seen, staged_in}
use Rattle.paged_volume.specs.Staging.{page_of, with_page}
use Rattle.paged_volume.specs.declared.table.Table.{Table}
use Rattle.paged_volume.specs.declared.committed.Committed.{Committed}
use Rattle.obj_store.specs.declared.kept.KeptPage.{KeptPage}
use Rattle.obj_store.specs.Kept.{AreHeld, AreNone, IsThere, IsAsHeld, kept_page}
use Rattle.obj_store.proofs.ReadLaws.{seen_kept}
use Rattle.obj_store.proofs.WriteLaws.{held_long}

pub none_some : {A : Type 0} (page : A) → ◌≡◌ {A = Option A} None (Some page) → ⊥
none_some page e = absurd (cc)

pub set_past : {A : Type 0} (xs : List A) (i : ℕ) (x : A) → length xs ≤ i → set xs i x ≡ xs
set_past [] i x past = refl
set_past (y ∷ ys) zero x past = absurd (omega arith)
set_past (y ∷ ys) (suc i) x past = ap (λ (zs : List _). y ∷ zs) (set_past ys i x (omega arith))

pub none_kept : (places : List (Option KeptPage)) (table : Table) (outside : Outside (List ℕ)) → AreNone places → AreHeld places table outside
none_kept places table outside none = λ place page is. absurd (none_some page (sym (none place) ∙ is))

pub none_replicated : (count place : ℕ) → get_or (replicate {A = Option KeptPage} count None) place None ≡ None
none_replicated zero place = refl
none_replicated (suc count) zero = refl
none_replicated (suc count) (suc place) = none_replicated count place

-- what is kept stays so while the volume is only looked at
pub kept_looks : (places : List (Option KeptPage)) (p q : Table) (a b : Outside (List ℕ)) → q ≡ p → SameContents a b → AreHeld places p a → AreHeld places q b
kept_looks places p q a b is_q same kept = λ place page is.
    let at = kept place page is in
    record {
      place_is = at.place_is;
      below = subst (λ (t : Table). page.number < capacity_pages t.committed.pages) (sym is_q) at.below;
      bytes_are = λ held now. at.bytes_are held (seen_kept q p b a (sym is_q) (record { kept = same.no_other; no_other = same.kept }) (Some held) now);
    }

-- what stands in a place after a page was kept in its own
in_place : (places : List (Option KeptPage)) (own place : ℕ) (new page : KeptPage) → get_or (set places own (Some new)) place None ≡ Some page
    → ((own ≡ place) × (new ≡ page)) ⊎ ((place ≢ own) × (get_or places place None ≡ Some page))
in_place places own place new page is = elim (cases_eq place own) [
  | inl here ↦ elim (cases_lt own (length places)) [
    | inl within ↦ inl (sym here, same_Some new page (sym (get_or-set_same places own (Some new) None within) ∙ subst (λ (n : ℕ). get_or (set places own (Some new)) n None ≡ Some page) here is))
    | inr past ↦
        let none : get_or (set places own (Some new)) place None ≡ None =
        ap (λ (xs : List (Option KeptPage)). get_or xs place None) (set_past places own (Some new) past) ∙ get_or_past places place None (omega arith) in
        absurd (none_some page (sym none ∙ is))
  ]
  | inr other ↦ inr (other, sym (get_or-set_other places own place (Some new) None other) ∙ is)
]

-- a page that was read is kept
pub kept_read : (places : List (Option KeptPage)) (p : Table) (a : Outside (List ℕ)) (number : ℕ) (bytes : List ℕ) → number < capacity_pages p.committed.pages → AreHeld places p a →
    ((held : Held) → (seen p a).contents (Some held) → bytes ≡ page_of number held) → AreHeld (set places (number % 8) (Some (kept_page number bytes))) p a
kept_read places p a number bytes below kept read = λ place page is. by place page (in_place places (number % 8) place (kept_page number bytes) page is)
  where
    by : (place : ℕ) (page : KeptPage) → ((number % 8 ≡ place) × (kept_page number bytes ≡ page)) ⊎ ((place ≢ number % 8) × (get_or places place None ≡ Some page)) →
        IsAsHeld (capacity_pages p.committed.pages) (seen p a) place page
    by place page (inl here) = subst (λ (it : KeptPage). IsAsHeld (capacity_pages p.committed.pages) (seen p a) place it) here.1 (record { place_is = sym here.0; below = below; bytes_are = read })
    by place page (inr other) = kept place page other.1

-- the bytes of a page that was put, and those of another one
module _ (number count : ℕ) (from : List ℕ) (held : Held) (below : number < count) (long : length held.bytes ≡ 4096 * count) (size : length from ≡ 4096) where
  long_put : length (written (4096 * number) from held.bytes) ≡ 4096 * count
  long_put =
      omega (arith, length-written (4096 * number) from held.bytes, length-take (4096 * number) held.bytes, length-drop (4096 * number + length from) held.bytes, size, long)

  long_page : (other : ℕ) → other < count → (bytes : List ℕ) → length bytes ≡ 4096 * count → length (take 4096 (drop (4096 * other) bytes)) ≡ 4096
  long_page other low bytes is = omega (arith, length-take 4096 (drop (4096 * other) bytes), length-drop (4096 * other) bytes)

  page_at : (other k : ℕ) (bytes : List ℕ) → k < 4096 → get_or (take 4096 (drop (4096 * other) bytes)) k 0 ≡ get_or bytes (4096 * other + k) 0
  page_at other k bytes lt = get_or-take 4096 (drop (4096 * other) bytes) k 0 lt ∙ get_or-drop (4096 * other) bytes k 0

  pub page_put_is : from ≡ page_of number (with_page number from held)
  page_put_is =
      same_number_lists from (page_of number (with_page number from held)) (size ∙ sym (long_page number below (written (4096 * number) from held.bytes) long_put))
      (λ k lt.
      let low : k < 4096 = omega (arith, size) in
      sym (page_at number k (written (4096 * number) from held.bytes) low
      ∙ written_inside (4096 * number) from held.bytes (4096 * number + k) (omega (arith, long)) (omega arith) (omega (arith, size))
      ∙ ap (λ (n : ℕ). get_or from n 0) (let same : 4096 * number + k - 4096 * number ≡ k = omega arith in same)))

  pub page_other_is : (other : ℕ) → other < count → other ≢ number → page_of other held ≡ page_of other (with_page number from held)
  page_other_is other low differs =
      same_number_lists (page_of other held) (page_of other (with_page number from held))
      (long_page other low held.bytes long ∙ sym (long_page other low (written (4096 * number) from held.bytes) long_put))
      (λ k lt.
      let inside : k < 4096 = omega (arith, long_page other low held.bytes long) in
      page_at other k held.bytes inside
      ∙ sym (written_elsewhere (4096 * number) from held.bytes (4096 * other + k) (omega (arith, long)) (out k inside (cases_lt other number)))
      ∙ sym (page_at other k (written (4096 * number) from held.bytes) inside))
    where
      above : (m n : ℕ) → n ≤ m → m ≢ n → n < m
      above m n le ne = elim (cases_lt n m) [ inl lt ↦ lt | inr ge ↦ absurd (ne (omega arith)) ]

      out : (k : ℕ) → k < 4096 → (other < number) ⊎ (number ≤ other) → IsOutside (4096 * number) (length from) (4096 * other + k)
      out k inside (inl before) = inl (omega arith)
      out k inside (inr behind) = inr (let after = above other number behind differs in omega (arith, size))

-- and a page that was put
pub kept_put : (places : List (Option KeptPage)) (p q : Table) (a b : Outside (List ℕ)) (number : ℕ) (from : List ℕ) → number < capacity_pages p.committed.pages → length from ≡ 4096 → q.committed ≡ p.committed →
    ((found : Option Held) → (seen q b).contents found → After (seen p a).contents (λ before after. option_map (with_page number from) before ≡ after) found) →
    AreHeld places p a → AreHeld (set places (number % 8) (Some (kept_page number from))) q b
kept_put places p q a b number from below size same put kept = λ place page is. by place page (in_place places (number % 8) place (kept_page number from) page is)
  where
    count : capacity_pages q.committed.pages ≡ capacity_pages p.committed.pages
    count = ap (λ (c : Committed). capacity_pages c.pages) same

    was : (held : Held) → (seen q b).contents (Some held) → (before : Held) × (seen p a).contents (Some before) × (with_page number from before ≡ held)
    was held now =
        let found = put (Some held) now in (
          staged_in p found.was.from,
          record { from = found.was.from; was = found.was.was; by = refl },
          same_Some (with_page number from (staged_in p found.was.from)) held (ap (λ (o : Option Held). option_map (with_page number from) o) found.was.by ∙ found.by),
        )

    here_is : (held : Held) → (seen q b).contents (Some held) → from ≡ page_of number held
    here_is held now =
        let before = was held now in
        page_put_is number (capacity_pages p.committed.pages) from before.0 below (held_long p a before.0 before.1) size ∙ ap (λ (h : Held). page_of number h) before.2

    other_is : (page : KeptPage) → page.number < capacity_pages p.committed.pages → page.number ≢ number → ((held : Held) → (seen p a).contents (Some held) → page.bytes ≡ page_of page.number held) →
        (held : Held) → (seen q b).contents (Some held) → page.bytes ≡ page_of page.number held
    other_is page low differs is held now =
        let before = was held now in
        is before.0 before.1 ∙ page_other_is number (capacity_pages p.committed.pages) from before.0 below (held_long p a before.0 before.1) size page.number low differs ∙ ap (λ (h : Held). page_of page.number h) before.2

    by : (place : ℕ) (page : KeptPage) → ((number % 8 ≡ place) × (kept_page number from ≡ page)) ⊎ ((place ≢ number % 8) × (get_or places place None ≡ Some page)) →
        IsAsHeld (capacity_pages q.committed.pages) (seen q b) place page
    by place page (inl here) = subst (λ (it : KeptPage). IsAsHeld (capacity_pages q.committed.pages) (seen q b) place it) here.1
        (record { place_is = sym here.0; below = omega (arith, count); bytes_are = here_is })
    by place page (inr other) =
        let at = kept place page other.1 in
        record {
          place_is = at.place_is;
          below = let low = at.below in omega (arith, count);
          bytes_are = other_is page at.below (λ e. other.0 (at.place_is ∙ ap (λ (n : ℕ). n % 8) e)) at.bytes_are;
        }

-- a page that is kept is the one that is held
pub kept_there : (places : List (Option KeptPage)) (p : Table) (a : Outside (List ℕ)) (number : ℕ) (bytes : List ℕ) → IsThere places number bytes → AreHeld places p a →
    (held : Held) → (seen p a).contents (Some held) → bytes ≡ page_of number held
kept_there places p a number bytes there kept held now = (kept there.place (kept_page number bytes) there.is).bytes_are held now

pub same_default : {A : Type 0} (xs : List A) (i : ℕ) (d e : A) → i < length xs → get_or xs i d ≡ get_or xs i e
same_default [] i d e lt = absurd (omega arith)
same_default (x ∷ xs) zero d e lt = refl
same_default (x ∷ xs) (suc i) d e lt = same_default xs i d e (omega arith)
