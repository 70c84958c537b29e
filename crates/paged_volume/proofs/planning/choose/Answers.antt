use Rattle.std.proofs.Common.{◌≡◌, ◌+◌, ℕ, List, Bool, true, get_or, sym, ◌∙◌, ap, subst, arith, if◌then◌else◌}
use Rattle.page_map.specs.Map.{MapView}
use Rattle.paged_volume.specs.Standing.{logical_of, map_count}
use Rattle.paged_volume.specs.Changing.{is_changed}
use Rattle.paged_volume.specs.Planning.{GetsPage, IsChosen}
use Rattle.paged_volume.proofs.Bounds.{are_low}
use Rattle.paged_volume.proofs.Naming.{zero_at}
use Rattle.paged_volume.proofs.Tables.{map_is}
use Rattle.paged_volume.proofs.Changed.{changed_more, changed_within}
use Rattle.paged_volume.proofs.Choosing.{same_changes, chosen_index, chosen_more}
use Rattle.paged_volume.proofs.planning.choose.Goals as goal

pub loop-map_page-init : goal.loop-map_page-init
loop-map_page-init c =
    let zeros = c.fill.ensures.after (λ y same. same) in
    let size = c.fill.ensures.len ∙ c.requires.size in
    let named = c.requires.names in
    chosen_index c.args.map.now c.page_for.new.map c.args.named.now c.fill.new.self (logical_of c.args.next) c.args.next.depth c.page_for.result size (omega arith)
    (λ i. ap (λ (xs : List ℕ). get_or xs i 0) zeros ∙ zero_at _ i) c.requires.fit.depth.at_most_one c.page_for.ensures

pub is_changed-changes-requires-clause-few : goal.is_changed-changes-requires-clause-few
is_changed-changes-requires-clause-few c =
    let few = (are_low c.args.next c.requires.fit).few in
    let lt = c.loop-map_page-test.true in
    omega (arith, c.map_count-map_page-end.ensures)

pub page_for-requires-in-loop-map_page : goal.page_for-requires-in-loop-map_page
page_for-requires-in-loop-map_page c = λ changes.
    let inv = c.loop-map_page.invariant in
    let old = c.args.map.now in
    let logical = logical_of c.args.next in
    let page = c.loop-map_page.map_page in
    let lt = c.loop-map_page-test.true in
    let here : is_changed old logical page ≡ true =
    sym (same_changes old c.loop-map_page.map.free logical page) ∙ sym (ap (λ (m : MapView). is_changed m logical page) inv.lists) ∙ sym (ap (λ (n : ℕ). is_changed c.loop-map_page.map n page) c.logical_of.ensures) ∙ sym c.is_changed-changes.ensures ∙ changes in
    let room = c.requires.room in
    omega (arith, inv.held, inv.long, changed_more old logical page, ap {B = ℕ} (λ (b : Bool). if b then 1 else 0) here, changed_within old logical (page + 1) (map_count c.args.next) (omega (arith, c.map_count-map_page-end.ensures)))

pub loop-map_page-preserved : goal.loop-map_page-preserved
loop-map_page-preserved c =
    let inv = c.loop-map_page.invariant in
    let now = c.loop-map_page.map in
    let new = c.page_for-in-loop-map_page.new.map in
    let page = c.loop-map_page.map_page in
    let lt = c.loop-map_page-test.true in
    let changes : c.is_changed-changes.result ≡ is_changed now (logical_of c.args.next) page = c.is_changed-changes.ensures ∙ ap (λ (n : ℕ). is_changed now n page) c.logical_of.ensures in
    let gets = c.page_for-in-loop-map_page.ensures in
    let few = (are_low c.args.next c.requires.fit).maps in
    let size = inv.size in
    let named = c.requires.names in
    chosen_more c.args.map.now now new c.args.named.now c.loop-map_page.chosen (logical_of c.args.next) c.args.next.depth page c.page_for-in-loop-map_page.result inv
    (omega (arith, c.map_count-map_page-end.ensures))
    (subst (λ (n : ℕ). GetsPage now new (is_changed now (logical_of c.args.next) page) n c.page_for-in-loop-map_page.result) (sym (map_is c.args.named.now page))
    (subst (λ (b : Bool). GetsPage now new b (get_or c.args.named.now (1 + page) 0) c.page_for-in-loop-map_page.result) changes gets))

pub returns : goal.returns
returns c =
    let past = c.loop-map_page-test.false in
    let end : c.loop-map_page.map_page ≡ map_count c.args.next = omega (arith, c.map_count-map_page-end.ensures, c.loop-map_page.auto.map_page-end) in
    subst (λ (n : ℕ). IsChosen c.args.map.now c.loop-map_page.map c.args.named.now c.loop-map_page.chosen (logical_of c.args.next) c.args.next.depth n) end c.loop-map_page.invariant
