use Rattle.std.proofs.Common.{[], ◌∷◌, ◌∙◌}
use Rattle.machine_core.specs.ps_heap.Library.{LookUpString}
use Rattle.machine_core.specs.ps_heap.Values.{Text}
use Rattle.machine_core.specs.ps_stepping.Steps.{pop_text}
use Rattle.machine_core.specs.ps_stepping.Library.{answered_by, call_on_heap, gives_ref}
use Rattle.machine_operands.proofs.Parts.{both-leave}
use Rattle.machine_tables.specs.inside.Operands.{string_looked_up}
use Rattle.machine_tables.proofs.Parts.{denotes-there, does-as, parts-taken}
use Rattle.machine_tables.proofs.tables.look_up_string.Goals as goal

pub returns-clause-takes : goal.returns-clause-takes
returns-clause-takes g c =
    let v = c.args.vault.now in
    let line = c.args.line in
    let m = c.args.m.now in
    let one = c.pop_object.new.m in
    let two = c.pop_text.new.m in
    let p = c.in-Some.ensures in
    let q = c.in-Some-pop_text.ensures in
    let found = c.find_string in
    let f = found.ensures.finds in
    let out = g.V.Vault.outside v in
    let after = g.V.Vault.outside found.new.vault in
    parts-taken out after (call_on_heap LookUpString line) m two (both-leave m one two p.leaves q.leaves) found.new.m found.result f.sound f.names f.size
    (λ names conf h.
    let x = (p.pops v).gives names conf h in
    let y = (q.pops v).gives names x.0 x.3 in
    does-as out after two.objects.size (call_on_heap LookUpString line conf) (string_looked_up line (record { bytes = y.1; table = x.1 }) y.0) found.result found.new.m
    (x.2 (λ table d. pop_text d (λ key e. answered_by LookUpString line gives_ref (Text key ∷ table ∷ []) e))
    ∙ y.2 (λ key e. answered_by LookUpString line gives_ref (Text key ∷ x.1 ∷ []) e))
    (f.does names y.0 (record { bytes = y.1; table = x.1 }) y.3
    (record { key_is = y.4; table_is = denotes-there one two q.leaves.objects out names c.in-Some.table x.1 x.4 })))
