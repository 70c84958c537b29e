use Rattle.error_records.specs.Refusals.{context_of, fault_by}
use Rattle.error_records.proofs.RecordLaws.{class-held, fields-near, result-held, result-made, result-keeps, result-fails, result-run}
use Rattle.error_records.proofs.records.refuse.Goals as goal

pub make_structure-made-requires-clause-class : goal.make_structure-made-requires-clause-class
make_structure-made-requires-clause-class g c =
    class-held c.args.sw.now c.make_texts.new.sw (context_of c.args.by) (fault_by c.args.why) c.in_ok-texts.texts c.in_ok-texts.ensures

pub make_structure-made-requires-clause-near : goal.make_structure-made-requires-clause-near
make_structure-made-requires-clause-near g c =
    fields-near c.args.sw.now c.make_texts.new.sw (context_of c.args.by) (fault_by c.args.why) c.in_ok-texts.texts c.in_ok-texts.ensures

pub returns-clause-run : goal.returns-clause-run
returns-clause-run g c = λ names writing directory h run.
    result-run c.args.sw.now c.make_texts.new.sw c.make_structure-made.new.sw (context_of c.args.by) (fault_by c.args.why) c.in_ok-texts.texts c.in_ok-texts.ensures c.sound-3.ensures
    (g.V.Vault.outside c.args._vault.now) names writing directory h run c.make_structure-made.result c.make_structure-made.ensures.filled

pub returns-clause-held : goal.returns-clause-held
returns-clause-held g c =
    result-held c.args.sw.now c.make_texts.new.sw c.make_structure-made.new.sw (context_of c.args.by) (fault_by c.args.why) c.in_ok-texts.texts c.in_ok-texts.ensures c.sound-3.ensures
    c.make_structure-made.result c.make_structure-made.ensures.filled

pub returns-clause-made : goal.returns-clause-made
returns-clause-made g c =
    result-made c.args.sw.now c.make_texts.new.sw c.make_structure-made.new.sw (context_of c.args.by) (fault_by c.args.why) c.in_ok-texts.texts c.in_ok-texts.ensures c.sound-3.ensures
    c.make_structure-made.result c.make_structure-made.ensures.filled

pub returns-clause-keeps : goal.returns-clause-keeps
returns-clause-keeps g c =
    result-keeps c.args.sw.now c.make_texts.new.sw c.make_structure-made.new.sw (context_of c.args.by) (fault_by c.args.why) c.in_ok-texts.texts c.in_ok-texts.ensures c.sound-3.ensures
    c.make_structure-made.result c.make_structure-made.ensures.filled

pub returns-clause-fails : goal.returns-clause-fails
returns-clause-fails g c =
    result-fails c.args.sw.now c.make_texts.new.sw c.make_structure-made.new.sw (context_of c.args.by) (fault_by c.args.why) c.in_ok-texts.texts c.in_ok-texts.ensures c.sound-3.ensures
    c.make_structure-made.result c.make_structure-made.ensures.filled
