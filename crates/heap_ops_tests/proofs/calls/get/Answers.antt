use Rattle.std.proofs.Common.{subst}
use Rattle.std.specs.Prelude.{Ok, Err}
use Rattle.heap_ops.specs.swizzle.Text.{text_at}
use Rattle.memory_vault.specs.Silent.{nothing_told}
use Rattle.heap_ops.specs.swizzle.Heap.{Stands}
use Rattle.heap_ops.specs.heap_texts.declared.fault.OpFault.{OpFault}
use Rattle.heap_ops.specs.heap_places.declared.value.Value.{Value}
use Rattle.heap_ops.specs.Outcomes.{UnlessFault}
use Rattle.heap_ops.proofs.FieldLaws.{gets_stand}
use Rattle.heap_ops_tests.proofs.Staying.{ready_still}
use Rattle.heap_ops_tests.proofs.calls.get.Goals as goal

pub returns-in-Ok : goal.returns-in-Ok
returns-in-Ok c = ready_still c.args.world.now c.get_field.new.sw c.requires
    (gets_stand _ _ _ _ _ _ _ (Ok c.in-Ok.value) c.in-Ok.ensures.got)

pub returns-in-Err-Trap : goal.returns-in-Err-Trap
returns-in-Err-Trap c =
    let old = c.args.world.now.sw in
    let new = c.get_field.new.sw in
    ready_still c.args.world.now new c.requires
    (subst (λ (f : OpFault). UnlessFault {T = Value} (Err f) (Stands old new)) c.in-Err-Trap.field-0-is
    (gets_stand old new nothing_told nothing_told c.denoted-object.result (text_at old c.class-class.result) c.in-Some.located
    (Err c.in-Err-Trap.field-0) c.in-Err-Trap.ensures.got))
