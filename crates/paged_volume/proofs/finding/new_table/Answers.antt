use Rattle.std.proofs.Common.{ℕ, List, ◌+◌, sym, ◌∙◌, ap, subst, arith, length, get_or}
use Rattle.std.proofs.lemmas.List.{length-replicate}
use Rattle.page_map.specs.Map.{MapView, fresh_map}
use Rattle.paged_volume.specs.Layout.{map_pages_of}
use Rattle.paged_volume.specs.Naming.{IsNamingOf}
use Rattle.paged_volume.proofs.Bounds.{are_low}
use Rattle.paged_volume.proofs.Naming.{naming_none, zero_at}
use Rattle.paged_volume.proofs.finding.new_table.Goals as goal

pub capacity_pages-logical-requires : goal.capacity_pages-logical-requires
capacity_pages-logical-requires c = let low = are_low c.args.committed c.requires.fit in (c.requires.fit.head.least, low.pages)

pub map_pages-requires : goal.map_pages-requires
map_pages-requires c = let low = are_low c.args.committed c.requires.fit in let most = low.capacity in omega (arith, c.capacity_pages-logical.ensures)

pub returns-clause-naming : goal.returns-clause-naming
returns-clause-naming c =
    let k = c.args.committed in
    let items = c.in_ok-named.ensures.items_if_clones_equal (λ y same. same) in
    let size = ap (λ (xs : List ℕ). length xs) items ∙ length-replicate {A = ℕ} _ 0 ∙ ap (λ (n : ℕ). 1 + n) (c.map_pages.ensures ∙ ap map_pages_of c.capacity_pages-logical.ensures) in
    subst (λ (m : MapView). IsNamingOf k m c.in_ok-named.named.items 0 0 0) (sym (c.in_ok-map.ensures ∙ ap (λ (n : ℕ). fresh_map n k.pages) c.capacity_pages-logical.ensures)) (naming_none k c.in_ok-named.named.items c.requires.fit c.requires.commits size (λ i. ap (λ (xs : List ℕ). get_or xs i 0) items ∙ zero_at _ i))

pub returns-clause-next : goal.returns-clause-next
returns-clause-next c =
    let next = c.in_ok-next.ensures.items_if_clones_equal (λ y same. same) in
    let named = c.in_ok-named.ensures.items_if_clones_equal (λ y same. same) in
    ap (λ (xs : List ℕ). length xs) next ∙ length-replicate {A = ℕ} _ 0 ∙ sym (ap (λ (xs : List ℕ). length xs) named ∙ length-replicate {A = ℕ} _ 0)
