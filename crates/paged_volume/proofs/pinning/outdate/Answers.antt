use Rattle.std.proofs.Common.{◌≡◌, ℕ, inl, inr, map, get_or, set, None, Option, sym, ◌∙◌, ap, subst, arith, get_or-set_same, get_or-set_other}
use Rattle.std.proofs.lemmas.Bool.{cases_lt}
use Rattle.std.proofs.lemmas.List.{same_lists, get_or_default, length-map}
use Rattle.paged_volume.specs.Pinning.{outdated}
use Rattle.paged_volume.specs.declared.pinned.Pinned.{Pinned}
use Rattle.paged_volume.proofs.PinLaws.{pin_of_outdated}
use Rattle.paged_volume.proofs.pinning.outdate.Goals as goal

pub loop-held-preserved : goal.loop-held-preserved
loop-held-preserved c =
    let inv = c.loop-held.invariant in
    let i = c.loop-held.held-index in
    let lt = c.loop-held-test.true in
    let size = c.loop-held.auto.pins in
    record {
      front = λ k below. elim (cases_lt k i) [
        | inl early ↦ get_or-set_other c.loop-held.pins i k c.outdated.result None (λ e. absurd (omega arith)) ∙ inv.front k early
        | inr late ↦
            let same : i ≡ k = omega arith in
            subst (λ (n : ℕ). get_or (set c.loop-held.pins i c.outdated.result) n None ≡ outdated (get_or c.args.pins.now n None)) same
            (get_or-set_same c.loop-held.pins i c.outdated.result None (omega arith) ∙ c.outdated.ensures ∙ ap (λ (o : Option Pinned). outdated o) (inv.rest i (omega arith)))
      ];
      rest = λ k above. get_or-set_other c.loop-held.pins i k c.outdated.result None (λ e. absurd (omega arith)) ∙ inv.rest k (omega arith);
    }

pub returns : goal.returns
returns c =
    let inv = c.loop-held.invariant in
    let end = c.loop-held-test.false in
    let size = c.loop-held.auto.pins in
    same_lists c.loop-held.pins (map outdated c.args.pins.now) (size ∙ sym (length-map c.args.pins.now outdated)) (λ k d below.
    get_or_default c.loop-held.pins k d None below ∙ inv.front k (omega arith) ∙ sym (pin_of_outdated c.args.pins.now k) ∙ get_or_default (map outdated c.args.pins.now) k None d (omega (arith, length-map c.args.pins.now outdated)))
