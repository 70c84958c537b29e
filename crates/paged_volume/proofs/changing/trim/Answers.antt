use Rattle.std.proofs.Common.{ℕ, List, length, refl, ◌∙◌, ap, arith, inl}
use Rattle.page_map.specs.Map.{MapView}
use Rattle.paged_volume.proofs.Changed.{trimmed, trimmed_step}
use Rattle.paged_volume.proofs.changing.trim.Goals as goal

pub loop-page-init : goal.loop-page-init
loop-page-init c = record { committed = refl; pins = refl; free = refl; size = refl; front = λ k lt. refl; zeros = λ k low high. absurd (omega arith) }

pub replace-requires-clause-page : goal.replace-requires-clause-page
replace-requires-clause-page c =
    let lt = c.loop-page-test.true in
    omega (arith, ap (λ (xs : List ℕ). length xs) c.loop-page.invariant.committed, c.logical-page-end.ensures)

pub replace-requires-clause-physical : goal.replace-requires-clause-physical
replace-requires-clause-physical c = inl refl

pub loop-page-preserved : goal.loop-page-preserved
loop-page-preserved c =
    let inv = c.loop-page.invariant in
    let lt = c.loop-page-test.true in
    let step = trimmed_step c.args.map.now c.loop-page.map c.replace.new.self c.args.logical c.loop-page.page c.replace.ensures (omega (arith, inv.size, c.sound.ensures.staged, c.logical-page-end.ensures)) c.loop-page.auto.page inv.front inv.zeros in
    record {
      committed = ap (λ (m : MapView). m.committed) c.replace.ensures ∙ inv.committed;
      pins = ap (λ (m : MapView). m.pins) c.replace.ensures ∙ inv.pins;
      free = ap (λ (m : MapView). m.free) c.replace.ensures ∙ inv.free;
      size = step.0 ∙ inv.size;
      front = step.1;
      zeros = step.2;
    }

pub returns-clause-staged : goal.returns-clause-staged
returns-clause-staged c =
    let inv = c.loop-page.invariant in
    let past = c.loop-page-test.false in
    trimmed c.args.map.now c.loop-page.map c.args.logical (inv.size ∙ c.sound.ensures.staged) inv.front (λ k low high. inv.zeros k low (omega (arith, c.logical-page-end.ensures)))
