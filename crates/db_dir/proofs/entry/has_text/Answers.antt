use Rattle.std.proofs.Common.{rules}
use Rattle.joint_ops.specs.swizzle.Text.{text_at}
use Rattle.joint_ops.proofs.of_swizzle.ReadingLaws.{texts-kept}
use Rattle.db_dir.proofs.EntryLaws.{compared}
use Rattle.db_dir.proofs.entry.has_text.Goals as goal

pub compare-requires-clause-b_held : goal.compare-requires-clause-b_held
compare-requires-clause-b_held g c = (c.in-Ok.ensures.reads.reads.keeps.objects c.args.text c.requires.text_held).held

pub compare-requires-clause-b_text : goal.compare-requires-clause-b_text
compare-requires-clause-b_text g c = (texts-kept c.args.sw.now c.touch_text.new.sw c.in-Ok.ensures.reads.reads.keeps c.args.text c.requires.text_held c.requires.text_kind).kind

pub returns-in-Ok-clause-compared : goal.returns-in-Ok-clause-compared
returns-in-Ok-clause-compared g c =
    compared c.args.sw.now c.touch_text.new.sw c.args.object c.args.slot c.args.least c.args.most c.in-Ok.other (text_at c.args.sw.now c.args.text)
    (text_at c.touch_text.new.sw c.args.text) c.is_eq.result c.in-Ok.ensures.touched
    (texts-kept c.args.sw.now c.touch_text.new.sw c.in-Ok.ensures.reads.reads.keeps c.args.text c.requires.text_held c.requires.text_kind).bytes (search rules)
