use Rattle.std.proofs.Common.{None, sym, subst}
use Rattle.machine_core.specs.joint_ops.Operands.{IsOfSort}
use Rattle.machine_core.specs.Rows.{object_in}
use Rattle.machine_operands.proofs.Popping.{all-sorted, nil-named, nil-denoting, denoting-popped, no-denoting, pointer-denoting, vector-denoting, other-denoting}
use Rattle.machine_operands.proofs.pops.pop_denoting.Goals as goal

pub returns-in-Nil-clause-pops : goal.returns-in-Nil-clause-pops
returns-in-Nil-clause-pops g c =
    let mid = c.pop_ref.new.m in
    let w = c.in_ok-word.word in
    λ v.
    let out = g.V.Vault.outside v in
    let sorted = all-sorted mid.objects out c.object.result w c.sort_of.result c.object.ensures (c.sort_of.ensures.value v) in
    let none = nil-named mid.objects c.object.result (object_in w) c.sort_of.result c.object.ensures c.sort_of.ensures.kind c.in-Nil.is in
    denoting-popped out c.args.m.now mid w c.sort_of.result (c.in_ok-word.ensures.taken v) sorted None none (λ value is. nil-denoting value (subst (IsOfSort value) c.in-Nil.is is))

pub returns-in-Pointer-clause-pops : goal.returns-in-Pointer-clause-pops
returns-in-Pointer-clause-pops g c =
    let mid = c.pop_ref.new.m in
    let w = c.in_ok-word.word in
    λ v.
    let out = g.V.Vault.outside v in
    let sorted = all-sorted mid.objects out c.object.result w c.sort_of.result c.object.ensures (c.sort_of.ensures.value v) in
    denoting-popped out c.args.m.now mid w c.sort_of.result (c.in_ok-word.ensures.taken v) sorted c.object-in-Pointer.result (sym c.object-in-Pointer.ensures) (λ value is. pointer-denoting value (subst (IsOfSort value) c.in-Pointer.is is))

pub returns-in-Vector-clause-pops : goal.returns-in-Vector-clause-pops
returns-in-Vector-clause-pops g c =
    let mid = c.pop_ref.new.m in
    let w = c.in_ok-word.word in
    λ v.
    let out = g.V.Vault.outside v in
    let sorted = all-sorted mid.objects out c.object.result w c.sort_of.result c.object.ensures (c.sort_of.ensures.value v) in
    denoting-popped out c.args.m.now mid w c.sort_of.result (c.in_ok-word.ensures.taken v) sorted c.object-in-Vector.result (sym c.object-in-Vector.ensures) (λ value is. vector-denoting value (subst (IsOfSort value) c.in-Vector.is is))

pub returns-in_default-clause-pops : goal.returns-in_default-clause-pops
returns-in_default-clause-pops g c =
    let mid = c.pop_ref.new.m in
    let w = c.in_ok-word.word in
    λ v.
    let out = g.V.Vault.outside v in
    let sorted = all-sorted mid.objects out c.object.result w c.sort_of.result c.object.ensures (c.sort_of.ensures.value v) in
    no-denoting out c.args.m.now mid w c.sort_of.result (c.in_ok-word.ensures.taken v) sorted (other-denoting c.sort_of.result c.in_default.not-Nil c.in_default.not-Pointer c.in_default.not-Vector)
