use Rattle.std.proofs.Common.{◌≡◌, ℤ, [], ◌∷◌, ◌∙◌, w32, to_z, of_z, rules, subst}
use Rattle.machine_core.specs.ps_heap.Library.{LookUpInt}
use Rattle.machine_core.specs.ps_heap.Values.{Num}
use Rattle.machine_core.specs.ps_stepping.Steps.{pop_num}
use Rattle.machine_core.specs.ps_stepping.Library.{answered_by, call_on_heap, gives_ref}
use Rattle.machine_operands.proofs.Parts.{both-leave}
use Rattle.machine_tables.specs.inside.Operands.{Follows, IsTable, int_looked_up}
use Rattle.machine_tables.proofs.Parts.{denotes-there, does-as, parts-taken}
use Rattle.machine_tables.proofs.tables.look_up_int.Goals as goal

pub returns-clause-takes : goal.returns-clause-takes
returns-clause-takes g c =
    let v = c.args.vault.now in
    let line = c.args.line in
    let m = c.args.m.now in
    let one = c.pop_object.new.m in
    let two = c.pop_int.new.m in
    let p = c.in-Some.ensures in
    let q = c.in-Some-pop_int.ensures in
    let found = c.find_int in
    let out = g.V.Vault.outside v in
    let after = g.V.Vault.outside found.new.vault in
    let key = c.in-Some-pop_int.key in
    let same : to_z w32 (of_z w32 key) ≡ key = search rules in
    let f = subst (λ (z : ℤ). Follows out after (IsTable two.objects out c.in-Some.table) (int_looked_up line z) two found.new.m found.result) same found.ensures.finds in
    parts-taken out after (call_on_heap LookUpInt line) m two (both-leave m one two p.leaves q.leaves) found.new.m found.result f.sound f.names f.size
    (λ names conf h.
    let x = (p.pops v).gives names conf h in
    let y = (q.pops v).gives names x.0 x.3 in
    does-as out after two.objects.size (call_on_heap LookUpInt line conf) (int_looked_up line c.in-Some-pop_int.key x.1 y.0) found.result found.new.m
    (x.2 (λ table d. pop_num d (λ key e. answered_by LookUpInt line gives_ref (Num key ∷ table ∷ []) e))
    ∙ y.1 (λ key e. answered_by LookUpInt line gives_ref (Num key ∷ x.1 ∷ []) e))
    (f.does names y.0 x.1 y.2 (record { table_is = denotes-there one two q.leaves.objects out names c.in-Some.table x.1 x.4 })))
