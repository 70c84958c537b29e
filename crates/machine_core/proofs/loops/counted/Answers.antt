use Rattle.std.proofs.Common.{◌≡◌, true, false, Bool, ap, sym, ◌∙◌, subst, rules}
use Rattle.std.specs.Prelude.{if◌then◌else◌, ◌+ℤ◌, ℤ}
use Rattle.ps_stepping.specs.ps_meaning.Loops.{goes_on}
use Rattle.ps_stepping.specs.Machine.{on, with_num, back, counted}
use Rattle.machine_core.specs.Stepped.{Takes}
use Rattle.machine_core.proofs.Between.{same-step}
use Rattle.machine_core.proofs.loops.counted.Goals as goal

pub returns-in-Some-clause-takes : goal.returns-in-Some-clause-takes
returns-in-Some-clause-takes g c =
    let a = c.args in
    let next : c.in-Some.z ≡ a.control +ℤ a.step = search rules in
    let goes : goes_on a.limit a.step c.in-Some.z ≡ true = search rules in
    λ v.
    let out = g.V.Vault.outside v in
    let t =
    subst (λ (z : ℤ). Takes out out (λ d. back a.own a.to (with_num d a.slot z)) a.m.now c.back_with.new.m c.back_with.result) (search rules) (c.back_with.ensures.takes v) in
    same-step out out a.m.now c.back_with.new.m c.back_with.result (λ d. back a.own a.to (with_num d a.slot c.in-Some.z)) (counted a.own a.slot a.to a.limit a.step (a.control +ℤ a.step))
    (λ d. ap (λ (z : ℤ). if goes_on a.limit a.step z then back a.own a.to (with_num d a.slot z) else on d) (sym next) ∙ ap (λ (b : Bool). if b then back a.own a.to (with_num d a.slot c.in-Some.z) else on d) goes)
    t

pub returns-in-None-clause-takes : goal.returns-in-None-clause-takes
returns-in-None-clause-takes g c =
    let a = c.args in
    let ends : goes_on a.limit a.step (a.control +ℤ a.step) ≡ false = search rules in
    λ v.
    let out = g.V.Vault.outside v in
    same-step out out a.m.now a.m.now c.quiet.result on (counted a.own a.slot a.to a.limit a.step (a.control +ℤ a.step))
    (λ d. ap (λ (b : Bool). if b then back a.own a.to (with_num d a.slot (a.control +ℤ a.step)) else on d) ends) (c.quiet.ensures.takes v)
