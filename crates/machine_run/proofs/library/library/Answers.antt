use Rattle.std.proofs.Common.{◌≡◌, ◌≤◌, ℕ, rules, arith, sym, subst, ◌∙◌, ap}
use Rattle.machine_core.specs.ps_stepping.Config.{Config}
use Rattle.machine_core.specs.ps_stepping.Steps.{Step}
use Rattle.machine_core.specs.ps_stepping.Plain.{plain_library}
use Rattle.machine_core.specs.Stepped.{Takes}
use Rattle.machine_core.proofs.Between.{stuck-there}
use Rattle.machine_core.proofs.Failing.{whole-failing}
use Rattle.machine_run.proofs.PlainCalls.{table-call, enter-string-call, string-call, enter-int-call, int-call, cardinality-call, line-call, end-call, length-call, int-text-call, no-plain-call}
use Rattle.machine_run.proofs.library.library.Goals as goal

pub returns-in-3-clause-takes : goal.returns-in-3-clause-takes
returns-in-3-clause-takes g c =
    let out = g.V.Vault.outside c.args.vault.now in
    let did = c.make_table in
    let after = out in
    let is : c.args.code ≡ 3 = search rules in
    subst (λ (of : Config → Step). Takes out after of c.args.m.now did.new.m did.result)
    (sym (ap (λ (n : ℕ). plain_library n c.args.line) is ∙ table-call c.args.line)) did.ensures.takes

pub returns-in-4-clause-takes : goal.returns-in-4-clause-takes
returns-in-4-clause-takes g c =
    let out = g.V.Vault.outside c.args.vault.now in
    let did = c.enter_string in
    let after = g.V.Vault.outside did.new.vault in
    let is : c.args.code ≡ 4 = search rules in
    subst (λ (of : Config → Step). Takes out after of c.args.m.now did.new.m did.result)
    (sym (ap (λ (n : ℕ). plain_library n c.args.line) is ∙ enter-string-call c.args.line)) did.ensures.takes

pub returns-in-5-clause-takes : goal.returns-in-5-clause-takes
returns-in-5-clause-takes g c =
    let out = g.V.Vault.outside c.args.vault.now in
    let did = c.look_up_string in
    let after = g.V.Vault.outside did.new.vault in
    let is : c.args.code ≡ 5 = search rules in
    subst (λ (of : Config → Step). Takes out after of c.args.m.now did.new.m did.result)
    (sym (ap (λ (n : ℕ). plain_library n c.args.line) is ∙ string-call c.args.line)) did.ensures.takes

pub returns-in-6-clause-takes : goal.returns-in-6-clause-takes
returns-in-6-clause-takes g c =
    let out = g.V.Vault.outside c.args.vault.now in
    let did = c.enter_int in
    let after = g.V.Vault.outside did.new.vault in
    let is : c.args.code ≡ 6 = search rules in
    subst (λ (of : Config → Step). Takes out after of c.args.m.now did.new.m did.result)
    (sym (ap (λ (n : ℕ). plain_library n c.args.line) is ∙ enter-int-call c.args.line)) did.ensures.takes

pub returns-in-7-clause-takes : goal.returns-in-7-clause-takes
returns-in-7-clause-takes g c =
    let out = g.V.Vault.outside c.args.vault.now in
    let did = c.look_up_int in
    let after = g.V.Vault.outside did.new.vault in
    let is : c.args.code ≡ 7 = search rules in
    subst (λ (of : Config → Step). Takes out after of c.args.m.now did.new.m did.result)
    (sym (ap (λ (n : ℕ). plain_library n c.args.line) is ∙ int-call c.args.line)) did.ensures.takes

pub returns-in-8-clause-takes : goal.returns-in-8-clause-takes
returns-in-8-clause-takes g c =
    let out = g.V.Vault.outside c.args.vault.now in
    let did = c.cardinality in
    let after = out in
    let is : c.args.code ≡ 8 = search rules in
    subst (λ (of : Config → Step). Takes out after of c.args.m.now did.new.m did.result)
    (sym (ap (λ (n : ℕ). plain_library n c.args.line) is ∙ cardinality-call c.args.line)) did.ensures.takes

pub returns-in-9-clause-takes : goal.returns-in-9-clause-takes
returns-in-9-clause-takes g c =
    let out = g.V.Vault.outside c.args.vault.now in
    let did = c.read_line in
    let after = out in
    let is : c.args.code ≡ 9 = search rules in
    subst (λ (of : Config → Step). Takes out after of c.args.m.now did.new.m did.result)
    (sym (ap (λ (n : ℕ). plain_library n c.args.line) is ∙ line-call c.args.line)) (did.ensures.takes c.args.vault.now)

pub returns-in-10-clause-takes : goal.returns-in-10-clause-takes
returns-in-10-clause-takes g c =
    let out = g.V.Vault.outside c.args.vault.now in
    let did = c.at_end in
    let after = out in
    let is : c.args.code ≡ 10 = search rules in
    subst (λ (of : Config → Step). Takes out after of c.args.m.now did.new.m did.result)
    (sym (ap (λ (n : ℕ). plain_library n c.args.line) is ∙ end-call c.args.line)) (did.ensures.takes c.args.vault.now)

pub returns-in-11-clause-takes : goal.returns-in-11-clause-takes
returns-in-11-clause-takes g c =
    let out = g.V.Vault.outside c.args.vault.now in
    let did = c.length in
    let after = out in
    let is : c.args.code ≡ 11 = search rules in
    subst (λ (of : Config → Step). Takes out after of c.args.m.now did.new.m did.result)
    (sym (ap (λ (n : ℕ). plain_library n c.args.line) is ∙ length-call c.args.line)) (did.ensures.takes c.args.vault.now)

pub returns-in-12-clause-takes : goal.returns-in-12-clause-takes
returns-in-12-clause-takes g c =
    let out = g.V.Vault.outside c.args.vault.now in
    let did = c.int_text in
    let after = out in
    let is : c.args.code ≡ 12 = search rules in
    subst (λ (of : Config → Step). Takes out after of c.args.m.now did.new.m did.result)
    (sym (ap (λ (n : ℕ). plain_library n c.args.line) is ∙ int-text-call c.args.line)) did.ensures.takes

pub returns-in_default-clause-takes : goal.returns-in_default-clause-takes
returns-in_default-clause-takes g c =
    let out = g.V.Vault.outside c.args.vault.now in
    let none : 3 ≤ c.args.code → c.args.code ≤ 12 → ⊥ = λ low high. omega (arith, low, high) in
    stuck-there out out c.args.m.now c.requires.sound (plain_library c.args.code c.args.line)
    (λ d h. no-plain-call c.args.code c.args.line d none)

pub returns-in-9-clause-fails : goal.returns-in-9-clause-fails
returns-in-9-clause-fails g c = c.read_line.ensures.fails c.args.vault.now

pub returns-in-10-clause-fails : goal.returns-in-10-clause-fails
returns-in-10-clause-fails g c =
    let out = g.V.Vault.outside c.args.vault.now in whole-failing out out c.at_end.result c.at_end.new.m c.at_end.ensures.goes

pub returns-in-11-clause-fails : goal.returns-in-11-clause-fails
returns-in-11-clause-fails g c =
    let out = g.V.Vault.outside c.args.vault.now in whole-failing out out c.length.result c.length.new.m c.length.ensures.goes
