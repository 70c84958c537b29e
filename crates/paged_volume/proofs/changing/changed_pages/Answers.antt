use Rattle.std.proofs.Common.{◌≡◌, ◌+◌, ℕ, sym, ◌∙◌, ap, arith, if◌then◌else◌, Bool}
use Rattle.paged_volume.specs.Changing.{changed_pages}
use Rattle.paged_volume.proofs.Changed.{changed_zero, changed_more, changed_most, one_most}
use Rattle.paged_volume.proofs.changing.changed_pages.Goals as goal

pub loop-map_page-init : goal.loop-map_page-init
loop-map_page-init c = record { counted = sym (changed_zero c.args.map.now c.args.logical) }

pub overflow_add-changed : goal.overflow_add-changed
overflow_add-changed c =
    let lt = c.loop-map_page-test.true in
    let few = c.requires.few in
    omega (arith, c.loop-map_page.invariant.counted, changed_most c.args.map.now c.args.logical c.loop-map_page.map_page, c.one_if-changed.ensures, one_most c.is_changed.result)

pub loop-map_page-preserved : goal.loop-map_page-preserved
loop-map_page-preserved c = record {
  counted = (λ i. c.loop-map_page.invariant.counted i + (c.one_if-changed.ensures ∙ ap (λ (b : Bool). if b then 1 else 0) c.is_changed.ensures) i) ∙ sym (changed_more c.args.map.now c.args.logical c.loop-map_page.map_page);
}

pub returns : goal.returns
returns c =
    let past = c.loop-map_page-test.false in
    let end : c.loop-map_page.map_page ≡ c.args.count = omega (arith, c.loop-map_page.auto.map_page-end) in
    c.loop-map_page.invariant.counted ∙ ap (λ (n : ℕ). changed_pages c.args.map.now c.args.logical n) end
