use Rattle.std.proofs.Common.{◌≡◌, ◌+◌, ◌<◌, ℤ, true, false, w32, to_z, of_z, subst, ap, rules, arith}
use Rattle.std.specs.Prelude.{if◌then◌else◌}
use Rattle.machine_core.specs.ps_heap.Values.{is_one}
use Rattle.machine_core.specs.ps_stepping.Jumps.{back}
use Rattle.machine_core.specs.ps_stepping.Scans.{one_more}
use Rattle.machine_core.specs.ps_stepping.Steps.{on, with_num}
use Rattle.machine_core.specs.inside.Taking.{Becomes}
use Rattle.machine_tables.proofs.Going.{call-counts}
use Rattle.machine_tables.proofs.scans.count_call.Goals as goal

pub returns-then-is_one-clause-takes : goal.returns-then-is_one-clause-takes
returns-then-is_one-clause-takes g c v =
    let m = c.args.m.now in
    let a = c.args in
    let out = g.V.Vault.outside v in
    let mid = c.set_num_at.new.m in
    let did = c.back in
    let below : a.slot + 2 < m.frame.nums = search (rules, arith) in
    let same : to_z w32 (of_z w32 c.one_more.result) ≡ c.one_more.result = search rules in
    let set : Becomes out (λ conf. with_num conf a.slot c.one_more.result) m mid =
    subst (λ (z : ℤ). Becomes out (λ conf. with_num conf a.slot z) m mid) same (c.set_num_at.ensures.becomes v) in
    let is : c.one_more.result ≡ one_more c.word-count.result = search rules in
    let there : is_one a.more ≡ true = search rules in
    call-counts out m mid did.new.m did.result a.own a.slot a.to a.more c.one_more.result c.word-count.result (back a.own a.to) c.set_num_at.ensures.leaves below
    c.word-count.ensures is set (λ d. ap (λ b. if b then back a.own a.to d else on d) there) (did.ensures.takes v)

pub returns-clause-takes : goal.returns-clause-takes
returns-clause-takes g c v =
    let m = c.args.m.now in
    let a = c.args in
    let out = g.V.Vault.outside v in
    let mid = c.set_num_at.new.m in
    let below : a.slot + 2 < m.frame.nums = search (rules, arith) in
    let same : to_z w32 (of_z w32 c.one_more.result) ≡ c.one_more.result = search rules in
    let set : Becomes out (λ conf. with_num conf a.slot c.one_more.result) m mid =
    subst (λ (z : ℤ). Becomes out (λ conf. with_num conf a.slot z) m mid) same (c.set_num_at.ensures.becomes v) in
    let is : c.one_more.result ≡ one_more c.word-count.result = search rules in
    let none : is_one a.more ≡ false = search rules in
    call-counts out m mid mid c.quiet.result a.own a.slot a.to a.more c.one_more.result c.word-count.result on c.set_num_at.ensures.leaves below
    c.word-count.ensures is set (λ d. ap (λ b. if b then back a.own a.to d else on d) none) (c.quiet.ensures.takes v)
