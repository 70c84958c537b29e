use Rattle.std.proofs.Common.{subst, ℕ, List, Err}
use Rattle.error_records.specs.Refusals.{context_of, fault_by}
use Rattle.error_records.specs.inside.Texts.{IsTextMade, MakesPart, MakesTexts}
use Rattle.error_records.proofs.RoomLaws.{no-class, no-context, no-fault, no-explain, exits}
use Rattle.error_records.proofs.records.make_texts.Goals as goal

pub returns-in_err-class : goal.returns-in_err-class
returns-in_err-class c =
    exits c.from_residual.result (MakesTexts c.args.sw.now c.part.new.sw (context_of c.args.by) (fault_by c.args.why)) _ c.from_residual.ensures.1
    (no-class c.args.sw.now c.part.new.sw (context_of c.args.by) (fault_by c.args.why) _ c.in_err-class.ensures)

pub returns-in_err-context : goal.returns-in_err-context
returns-in_err-context c =
    exits c.from_residual-in_err-context.result (MakesTexts c.args.sw.now c.part-2.new.sw (context_of c.args.by) (fault_by c.args.why)) _ c.from_residual-in_err-context.ensures.1
    (no-context c.args.sw.now c.part.new.sw c.in_ok-class.class c.in_ok-class.ensures c.args.by (fault_by c.args.why) c.part-2.new.sw _
    (subst (λ (bytes : List ℕ). MakesPart c.part.new.sw c.part-2.new.sw bytes (Err c.in_err-context.field-0.0)) c.context.ensures c.in_err-context.ensures))

pub returns-in_err-fault : goal.returns-in_err-fault
returns-in_err-fault c =
    exits c.from_residual-in_err-fault.result (MakesTexts c.args.sw.now c.part-3.new.sw (context_of c.args.by) (fault_by c.args.why)) _ c.from_residual-in_err-fault.ensures.1
    (no-fault c.args.sw.now c.part.new.sw c.in_ok-class.class c.in_ok-class.ensures c.args.by (fault_by c.args.why) c.part-2.new.sw c.in_ok-context.context
    (subst (λ (bytes : List ℕ). IsTextMade c.part.new.sw c.part-2.new.sw bytes c.in_ok-context.context) c.context.ensures c.in_ok-context.ensures) c.part-3.new.sw _
    (subst (λ (bytes : List ℕ). MakesPart c.part-2.new.sw c.part-3.new.sw bytes (Err c.in_err-fault.field-0.0)) c.fault.ensures c.in_err-fault.ensures))

pub returns-in_err-explain : goal.returns-in_err-explain
returns-in_err-explain c =
    exits c.from_residual-in_err-explain.result (MakesTexts c.args.sw.now c.part-4.new.sw (context_of c.args.by) (fault_by c.args.why)) _ c.from_residual-in_err-explain.ensures.1
    (no-explain c.args.sw.now c.part.new.sw c.in_ok-class.class c.in_ok-class.ensures c.args.by (fault_by c.args.why) c.part-2.new.sw c.in_ok-context.context
    (subst (λ (bytes : List ℕ). IsTextMade c.part.new.sw c.part-2.new.sw bytes c.in_ok-context.context) c.context.ensures c.in_ok-context.ensures)
    c.part-3.new.sw c.part-4.new.sw c.in_ok-fault.fault _
    (subst (λ (bytes : List ℕ). IsTextMade c.part-2.new.sw c.part-3.new.sw bytes c.in_ok-fault.fault) c.fault.ensures c.in_ok-fault.ensures)
    (subst (λ (bytes : List ℕ). MakesPart c.part-3.new.sw c.part-4.new.sw bytes (Err c.in_err-explain.field-0.0)) c.explain.ensures c.in_err-explain.ensures))
