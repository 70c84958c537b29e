use Rattle.std.proofs.Common.{◌≡◌, ℤ, [], ◌∷◌, ◌∙◌, w32, to_z, of_z, rules, subst}
use Rattle.machine_core.specs.ps_heap.Library.{EnterInt}
use Rattle.machine_core.specs.ps_heap.Values.{Num}
use Rattle.machine_core.specs.ps_stepping.Steps.{pop_num}
use Rattle.machine_core.specs.ps_stepping.Objects.{pop_object}
use Rattle.machine_core.specs.ps_stepping.Library.{answered_by, call_on_heap, gives_nothing}
use Rattle.machine_operands.proofs.Parts.{both-leave}
use Rattle.machine_tables.specs.inside.Operands.{AreTableAndEntry, Follows, TableAndEntry, int_entered}
use Rattle.machine_tables.proofs.Parts.{denotes-there, does-as, is-pntr, parts-taken}
use Rattle.machine_tables.proofs.tables.enter_int.Goals as goal

pub returns-clause-takes : goal.returns-clause-takes
returns-clause-takes g c =
    let v = c.args.vault.now in
    let line = c.args.line in
    let m = c.args.m.now in
    let one = c.pop_object.new.m in
    let two = c.pop_object-2.new.m in
    let three = c.pop_int.new.m in
    let p = c.in-Some.ensures in
    let q = c.in-Some-pop_object.ensures in
    let s = c.in-Some-pop_int.ensures in
    let put = c.put_int in
    let out = g.V.Vault.outside v in
    let after = g.V.Vault.outside put.new.vault in
    let k = c.in-Some-pop_int.key in
    let same : to_z w32 (of_z w32 k) ≡ k = search rules in
    let f = subst (λ (x : ℤ). Follows out after (AreTableAndEntry three.objects out c.in-Some-pop_object.table c.in-Some.to) (int_entered line x) three put.new.m put.result) same put.ensures.puts in
    parts-taken out after (call_on_heap EnterInt line) m three (both-leave m one three p.leaves (both-leave one two three q.leaves s.leaves)) put.new.m put.result f.sound f.names f.size
    (λ names conf h.
    let x = (p.pops v).gives names conf h in
    let y = (q.pops v).gives names x.0 x.3 in
    let z = (s.pops v).gives names y.0 y.3 in
    let of : TableAndEntry = record { table = y.1; entry = x.1 } in
    does-as out after three.objects.size (call_on_heap EnterInt line conf) (int_entered line c.in-Some-pop_int.key of z.0) put.result put.new.m
    (x.2 (λ w d. pop_object d (λ table e. pop_num e (λ key k. answered_by EnterInt line gives_nothing (Num key ∷ table ∷ w ∷ []) k)))
    ∙ y.2 (λ table e. pop_num e (λ key k. answered_by EnterInt line gives_nothing (Num key ∷ table ∷ x.1 ∷ []) k))
    ∙ z.1 (λ key k. answered_by EnterInt line gives_nothing (Num key ∷ y.1 ∷ x.1 ∷ []) k))
    (f.does names z.0 of z.2 (record {
      table_is = denotes-there two three s.leaves.objects out names c.in-Some-pop_object.table y.1 y.4;
      entry_is = denotes-there one three (s.leaves.objects ∙ q.leaves.objects) out names c.in-Some.to x.1 x.4;
      is_pntr = is-pntr conf x.0 x.1 x.2;
    })))
