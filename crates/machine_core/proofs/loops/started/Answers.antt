use Rattle.std.proofs.Common.{◌≡◌, pos, true, false, sym, rules}
use Rattle.ps_stepping.specs.ps_meaning.Meaning.{spent}
use Rattle.ps_stepping.specs.ps_heap.Operators.{is_same}
use Rattle.ps_stepping.specs.ps_meaning.Loops.{goes_on}
use Rattle.ps_stepping.specs.Machine.{forward, started, turn_to}
use Rattle.machine_core.proofs.Between.{same-held}
use Rattle.machine_core.proofs.Jumping.{starts_with_turn, starts_past}
use Rattle.machine_core.proofs.loops.started.Goals as goal

pub returns-then-goes_on-clause-takes : goal.returns-then-goes_on-clause-takes
returns-then-goes_on-clause-takes g c =
    let a = c.args in
    let moves : is_same a.step (pos 0) ≡ false = search rules in
    let goes : goes_on a.limit a.step a.control ≡ true = search rules in
    λ v.
    let out = g.V.Vault.outside v in
    same-held out out a.m.now c.turn_to.new.m c.turn_to.result (λ d. turn_to (spent d.store) a.m.now.at d) (started a.own a.to a.line a.control a.limit a.step)
    (λ conf h. sym (starts_with_turn a.own a.to a.line a.control a.limit a.step conf a.m.now.at h.held.at_is moves goes)) (c.turn_to.ensures.takes v)

pub returns-clause-takes : goal.returns-clause-takes
returns-clause-takes g c =
    let a = c.args in
    let moves : is_same a.step (pos 0) ≡ false = search rules in
    let goes : goes_on a.limit a.step a.control ≡ false = search rules in
    λ v.
    let out = g.V.Vault.outside v in
    same-held out out a.m.now c.forward.new.m c.forward.result (forward a.own a.to) (started a.own a.to a.line a.control a.limit a.step)
    (λ conf h. sym (starts_past a.own a.to a.line a.control a.limit a.step conf moves goes)) (c.forward.ensures.takes v)
