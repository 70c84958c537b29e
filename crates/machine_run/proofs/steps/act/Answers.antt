-- An instruction does what the definition says of it.
use Rattle.std.proofs.Common.{rules}
use Rattle.machine_core.specs.ps_stepping.Steps.{push_num}
use Rattle.machine_core.specs.Stepped.{Takes}
use Rattle.machine_run.proofs.Dispatch.{acts_as, acts_here, acts_on}
use Rattle.machine_run.proofs.steps.act.Goals as goal

pub returns-in-Int-clause-acts : goal.returns-in-Int-clause-acts
returns-in-Int-clause-acts g c =
    let outside = g.V.Vault.outside c.args.vault.now in
    let had = c.push_num.ensures.takes c.args.vault.now in
    let takes : Takes outside outside (push_num c.in-Int.v) c.args.m.now c.push_num.new.m c.push_num.result = search rules in
    acts_on outside c.in-Int.is takes c.push_num.ensures.goes

pub returns-in-True-clause-acts : goal.returns-in-True-clause-acts
returns-in-True-clause-acts g c = acts_on (g.V.Vault.outside c.args.vault.now) c.in-True.is (c.push_num-in-True.ensures.takes c.args.vault.now) c.push_num-in-True.ensures.goes

pub returns-in-False-clause-acts : goal.returns-in-False-clause-acts
returns-in-False-clause-acts g c = acts_on (g.V.Vault.outside c.args.vault.now) c.in-False.is (c.push_num-in-False.ensures.takes c.args.vault.now) c.push_num-in-False.ensures.goes

pub returns-in-Text-clause-acts : goal.returns-in-Text-clause-acts
returns-in-Text-clause-acts g c =
    acts_as (g.V.Vault.outside c.args.vault.now) (g.V.Vault.outside c.push_text.new.vault) c.in-Text.is c.push_text.ensures.takes c.push_text.ensures.fails c.push_text.ensures.leaves

pub returns-in-Nil-clause-acts : goal.returns-in-Nil-clause-acts
returns-in-Nil-clause-acts g c = acts_on (g.V.Vault.outside c.args.vault.now) c.in-Nil.is (c.push_nil.ensures.takes c.args.vault.now) c.push_nil.ensures.goes

pub returns-in-GetM-clause-acts : goal.returns-in-GetM-clause-acts
returns-in-GetM-clause-acts g c = acts_on (g.V.Vault.outside c.args.vault.now) c.in-GetM.is (c.get_num.ensures.takes c.args.vault.now) c.get_num.ensures.goes

pub returns-in-GetP-clause-acts : goal.returns-in-GetP-clause-acts
returns-in-GetP-clause-acts g c = acts_on (g.V.Vault.outside c.args.vault.now) c.in-GetP.is (c.get_ref.ensures.takes c.args.vault.now) c.get_ref.ensures.goes

pub returns-in-SetM-clause-acts : goal.returns-in-SetM-clause-acts
returns-in-SetM-clause-acts g c = acts_on (g.V.Vault.outside c.args.vault.now) c.in-SetM.is (c.set_num.ensures.takes c.args.vault.now) c.set_num.ensures.goes

pub returns-in-SetP-clause-acts : goal.returns-in-SetP-clause-acts
returns-in-SetP-clause-acts g c = acts_on (g.V.Vault.outside c.args.vault.now) c.in-SetP.is (c.set_ref.ensures.takes c.args.vault.now) c.set_ref.ensures.goes

pub returns-in-KeptM-clause-acts : goal.returns-in-KeptM-clause-acts
returns-in-KeptM-clause-acts g c =
    acts_as (g.V.Vault.outside c.args.vault.now) (g.V.Vault.outside c.kept_num.new.vault) c.in-KeptM.is c.kept_num.ensures.takes c.kept_num.ensures.fails c.kept_num.ensures.leaves

pub returns-in-KeptP-clause-acts : goal.returns-in-KeptP-clause-acts
returns-in-KeptP-clause-acts g c =
    acts_as (g.V.Vault.outside c.args.vault.now) (g.V.Vault.outside c.kept_ref.new.vault) c.in-KeptP.is c.kept_ref.ensures.takes c.kept_ref.ensures.fails c.kept_ref.ensures.leaves

pub returns-in-KeepM-clause-acts : goal.returns-in-KeepM-clause-acts
returns-in-KeepM-clause-acts g c =
    acts_as (g.V.Vault.outside c.args.vault.now) (g.V.Vault.outside c.keep_num.new.vault) c.in-KeepM.is c.keep_num.ensures.takes c.keep_num.ensures.fails c.keep_num.ensures.leaves

pub returns-in-KeepP-clause-acts : goal.returns-in-KeepP-clause-acts
returns-in-KeepP-clause-acts g c =
    acts_as (g.V.Vault.outside c.args.vault.now) (g.V.Vault.outside c.keep_ref.new.vault) c.in-KeepP.is c.keep_ref.ensures.takes c.keep_ref.ensures.fails c.keep_ref.ensures.leaves

pub returns-in-Scope-clause-acts : goal.returns-in-Scope-clause-acts
returns-in-Scope-clause-acts g c =
    acts_as (g.V.Vault.outside c.args.vault.now) (g.V.Vault.outside c.enter_scope.new.vault) c.in-Scope.is c.enter_scope.ensures.takes c.enter_scope.ensures.fails c.enter_scope.ensures.leaves

pub returns-in-Leave-clause-acts : goal.returns-in-Leave-clause-acts
returns-in-Leave-clause-acts g c =
    acts_as (g.V.Vault.outside c.args.vault.now) (g.V.Vault.outside c.leave_scope.new.vault) c.in-Leave.is c.leave_scope.ensures.takes c.leave_scope.ensures.fails c.leave_scope.ensures.leaves

pub returns-in-Jump-clause-acts : goal.returns-in-Jump-clause-acts
returns-in-Jump-clause-acts g c = acts_on (g.V.Vault.outside c.args.vault.now) c.in-Jump.is (c.forward.ensures.takes c.args.vault.now) c.forward.ensures.goes

pub returns-in-JumpFalse-clause-acts : goal.returns-in-JumpFalse-clause-acts
returns-in-JumpFalse-clause-acts g c = acts_on (g.V.Vault.outside c.args.vault.now) c.in-JumpFalse.is (c.jump_false.ensures.takes c.args.vault.now) c.jump_false.ensures.goes

pub returns-in-Again-clause-acts : goal.returns-in-Again-clause-acts
returns-in-Again-clause-acts g c = acts_on (g.V.Vault.outside c.args.vault.now) c.in-Again.is (c.again.ensures.takes c.args.vault.now) c.again.ensures.goes

pub returns-in-And-clause-acts : goal.returns-in-And-clause-acts
returns-in-And-clause-acts g c = acts_on (g.V.Vault.outside c.args.vault.now) c.in-And.is (c.and.ensures.takes c.args.vault.now) c.and.ensures.goes

pub returns-in-Or-clause-acts : goal.returns-in-Or-clause-acts
returns-in-Or-clause-acts g c = acts_on (g.V.Vault.outside c.args.vault.now) c.in-Or.is (c.or.ensures.takes c.args.vault.now) c.or.ensures.goes

pub returns-in-Not-clause-acts : goal.returns-in-Not-clause-acts
returns-in-Not-clause-acts g c = acts_on (g.V.Vault.outside c.args.vault.now) c.in-Not.is (c.not.ensures.takes c.args.vault.now) c.not.ensures.goes

pub returns-in-Neg-clause-acts : goal.returns-in-Neg-clause-acts
returns-in-Neg-clause-acts g c = acts_on (g.V.Vault.outside c.args.vault.now) c.in-Neg.is (c.neg.ensures.takes c.args.vault.now) c.neg.ensures.goes

pub returns-in-Add-clause-acts : goal.returns-in-Add-clause-acts
returns-in-Add-clause-acts g c = acts_on (g.V.Vault.outside c.args.vault.now) c.in-Add.is (c.arith.ensures.takes c.args.vault.now) c.arith.ensures.goes

pub returns-in-Sub-clause-acts : goal.returns-in-Sub-clause-acts
returns-in-Sub-clause-acts g c = acts_on (g.V.Vault.outside c.args.vault.now) c.in-Sub.is (c.arith-in-Sub.ensures.takes c.args.vault.now) c.arith-in-Sub.ensures.goes

pub returns-in-Mul-clause-acts : goal.returns-in-Mul-clause-acts
returns-in-Mul-clause-acts g c = acts_on (g.V.Vault.outside c.args.vault.now) c.in-Mul.is (c.arith-in-Mul.ensures.takes c.args.vault.now) c.arith-in-Mul.ensures.goes

pub returns-in-Div-clause-acts : goal.returns-in-Div-clause-acts
returns-in-Div-clause-acts g c = acts_on (g.V.Vault.outside c.args.vault.now) c.in-Div.is (c.arith-in-Div.ensures.takes c.args.vault.now) c.arith-in-Div.ensures.goes

pub returns-in-Rem-clause-acts : goal.returns-in-Rem-clause-acts
returns-in-Rem-clause-acts g c = acts_on (g.V.Vault.outside c.args.vault.now) c.in-Rem.is (c.arith-in-Rem.ensures.takes c.args.vault.now) c.arith-in-Rem.ensures.goes

pub returns-in-EqM-clause-acts : goal.returns-in-EqM-clause-acts
returns-in-EqM-clause-acts g c = acts_on (g.V.Vault.outside c.args.vault.now) c.in-EqM.is (c.compare.ensures.takes c.args.vault.now) c.compare.ensures.goes

pub returns-in-NeM-clause-acts : goal.returns-in-NeM-clause-acts
returns-in-NeM-clause-acts g c = acts_on (g.V.Vault.outside c.args.vault.now) c.in-NeM.is (c.compare-in-NeM.ensures.takes c.args.vault.now) c.compare-in-NeM.ensures.goes

pub returns-in-LtM-clause-acts : goal.returns-in-LtM-clause-acts
returns-in-LtM-clause-acts g c = acts_on (g.V.Vault.outside c.args.vault.now) c.in-LtM.is (c.compare-in-LtM.ensures.takes c.args.vault.now) c.compare-in-LtM.ensures.goes

pub returns-in-LeM-clause-acts : goal.returns-in-LeM-clause-acts
returns-in-LeM-clause-acts g c = acts_on (g.V.Vault.outside c.args.vault.now) c.in-LeM.is (c.compare-in-LeM.ensures.takes c.args.vault.now) c.compare-in-LeM.ensures.goes

pub returns-in-GtM-clause-acts : goal.returns-in-GtM-clause-acts
returns-in-GtM-clause-acts g c = acts_on (g.V.Vault.outside c.args.vault.now) c.in-GtM.is (c.compare-in-GtM.ensures.takes c.args.vault.now) c.compare-in-GtM.ensures.goes

pub returns-in-GeM-clause-acts : goal.returns-in-GeM-clause-acts
returns-in-GeM-clause-acts g c = acts_on (g.V.Vault.outside c.args.vault.now) c.in-GeM.is (c.compare-in-GeM.ensures.takes c.args.vault.now) c.compare-in-GeM.ensures.goes

pub returns-in-EqP-clause-acts : goal.returns-in-EqP-clause-acts
returns-in-EqP-clause-acts g c = acts_on (g.V.Vault.outside c.args.vault.now) c.in-EqP.is (c.compare_objects.ensures.takes c.args.vault.now) c.compare_objects.ensures.goes

pub returns-in-NeP-clause-acts : goal.returns-in-NeP-clause-acts
returns-in-NeP-clause-acts g c = acts_on (g.V.Vault.outside c.args.vault.now) c.in-NeP.is (c.compare_objects-in-NeP.ensures.takes c.args.vault.now) c.compare_objects-in-NeP.ensures.goes

pub returns-in-EqT-clause-acts : goal.returns-in-EqT-clause-acts
returns-in-EqT-clause-acts g c = acts_on (g.V.Vault.outside c.args.vault.now) c.in-EqT.is (c.compare_texts.ensures.takes c.args.vault.now) c.compare_texts.ensures.goes

pub returns-in-NeT-clause-acts : goal.returns-in-NeT-clause-acts
returns-in-NeT-clause-acts g c = acts_on (g.V.Vault.outside c.args.vault.now) c.in-NeT.is (c.compare_texts-in-NeT.ensures.takes c.args.vault.now) c.compare_texts-in-NeT.ensures.goes

pub returns-in-LtT-clause-acts : goal.returns-in-LtT-clause-acts
returns-in-LtT-clause-acts g c = acts_on (g.V.Vault.outside c.args.vault.now) c.in-LtT.is (c.compare_texts-in-LtT.ensures.takes c.args.vault.now) c.compare_texts-in-LtT.ensures.goes

pub returns-in-LeT-clause-acts : goal.returns-in-LeT-clause-acts
returns-in-LeT-clause-acts g c = acts_on (g.V.Vault.outside c.args.vault.now) c.in-LeT.is (c.compare_texts-in-LeT.ensures.takes c.args.vault.now) c.compare_texts-in-LeT.ensures.goes

pub returns-in-GtT-clause-acts : goal.returns-in-GtT-clause-acts
returns-in-GtT-clause-acts g c = acts_on (g.V.Vault.outside c.args.vault.now) c.in-GtT.is (c.compare_texts-in-GtT.ensures.takes c.args.vault.now) c.compare_texts-in-GtT.ensures.goes

pub returns-in-GeT-clause-acts : goal.returns-in-GeT-clause-acts
returns-in-GeT-clause-acts g c = acts_on (g.V.Vault.outside c.args.vault.now) c.in-GeT.is (c.compare_texts-in-GeT.ensures.takes c.args.vault.now) c.compare_texts-in-GeT.ensures.goes

pub returns-in-Join-clause-acts : goal.returns-in-Join-clause-acts
returns-in-Join-clause-acts g c = acts_here (g.V.Vault.outside c.args.vault.now) c.in-Join.is c.join.ensures.takes c.join.ensures.fails

pub returns-in-Part-clause-acts : goal.returns-in-Part-clause-acts
returns-in-Part-clause-acts g c = acts_here (g.V.Vault.outside c.args.vault.now) c.in-Part.is c.part.ensures.takes c.part.ensures.fails

pub returns-in-Is-clause-acts : goal.returns-in-Is-clause-acts
returns-in-Is-clause-acts g c =
    acts_as (g.V.Vault.outside c.args.vault.now) (g.V.Vault.outside c.is_of_class.new.vault) c.in-Is.is c.is_of_class.ensures.takes c.is_of_class.ensures.fails c.is_of_class.ensures.leaves

pub returns-in-Make-clause-acts : goal.returns-in-Make-clause-acts
returns-in-Make-clause-acts g c =
    acts_as (g.V.Vault.outside c.args.vault.now) (g.V.Vault.outside c.make_structure.new.vault) c.in-Make.is c.make_structure.ensures.takes c.make_structure.ensures.fails c.make_structure.ensures.leaves

pub returns-in-FieldM-clause-acts : goal.returns-in-FieldM-clause-acts
returns-in-FieldM-clause-acts g c =
    acts_as (g.V.Vault.outside c.args.vault.now) (g.V.Vault.outside c.field_num.new.vault) c.in-FieldM.is c.field_num.ensures.takes c.field_num.ensures.fails c.field_num.ensures.leaves

pub returns-in-FieldP-clause-acts : goal.returns-in-FieldP-clause-acts
returns-in-FieldP-clause-acts g c =
    acts_as (g.V.Vault.outside c.args.vault.now) (g.V.Vault.outside c.field_ref.new.vault) c.in-FieldP.is c.field_ref.ensures.takes c.field_ref.ensures.fails c.field_ref.ensures.leaves

pub returns-in-SetFieldM-clause-acts : goal.returns-in-SetFieldM-clause-acts
returns-in-SetFieldM-clause-acts g c =
    acts_as (g.V.Vault.outside c.args.vault.now) (g.V.Vault.outside c.set_field_num.new.vault) c.in-SetFieldM.is c.set_field_num.ensures.takes c.set_field_num.ensures.fails c.set_field_num.ensures.leaves

pub returns-in-SetFieldP-clause-acts : goal.returns-in-SetFieldP-clause-acts
returns-in-SetFieldP-clause-acts g c =
    acts_as (g.V.Vault.outside c.args.vault.now) (g.V.Vault.outside c.set_field_ref.new.vault) c.in-SetFieldP.is c.set_field_ref.ensures.takes c.set_field_ref.ensures.fails c.set_field_ref.ensures.leaves

pub returns-in-FillM-clause-acts : goal.returns-in-FillM-clause-acts
returns-in-FillM-clause-acts g c =
    acts_as (g.V.Vault.outside c.args.vault.now) (g.V.Vault.outside c.fill_num.new.vault) c.in-FillM.is c.fill_num.ensures.takes c.fill_num.ensures.fails c.fill_num.ensures.leaves

pub returns-in-FillP-clause-acts : goal.returns-in-FillP-clause-acts
returns-in-FillP-clause-acts g c =
    acts_as (g.V.Vault.outside c.args.vault.now) (g.V.Vault.outside c.fill_ref.new.vault) c.in-FillP.is c.fill_ref.ensures.takes c.fill_ref.ensures.fails c.fill_ref.ensures.leaves

pub returns-in-ListM-clause-acts : goal.returns-in-ListM-clause-acts
returns-in-ListM-clause-acts g c =
    acts_as (g.V.Vault.outside c.args.vault.now) (g.V.Vault.outside c.list_num.new.vault) c.in-ListM.is c.list_num.ensures.takes c.list_num.ensures.fails c.list_num.ensures.leaves

pub returns-in-ListP-clause-acts : goal.returns-in-ListP-clause-acts
returns-in-ListP-clause-acts g c =
    acts_as (g.V.Vault.outside c.args.vault.now) (g.V.Vault.outside c.list_ref.new.vault) c.in-ListP.is c.list_ref.ensures.takes c.list_ref.ensures.fails c.list_ref.ensures.leaves

pub returns-in-ElemM-clause-acts : goal.returns-in-ElemM-clause-acts
returns-in-ElemM-clause-acts g c =
    acts_as (g.V.Vault.outside c.args.vault.now) (g.V.Vault.outside c.element_num.new.vault) c.in-ElemM.is c.element_num.ensures.takes c.element_num.ensures.fails c.element_num.ensures.leaves

pub returns-in-ElemP-clause-acts : goal.returns-in-ElemP-clause-acts
returns-in-ElemP-clause-acts g c =
    acts_as (g.V.Vault.outside c.args.vault.now) (g.V.Vault.outside c.element_ref.new.vault) c.in-ElemP.is c.element_ref.ensures.takes c.element_ref.ensures.fails c.element_ref.ensures.leaves

pub returns-in-SetElemM-clause-acts : goal.returns-in-SetElemM-clause-acts
returns-in-SetElemM-clause-acts g c =
    acts_as (g.V.Vault.outside c.args.vault.now) (g.V.Vault.outside c.set_element_num.new.vault) c.in-SetElemM.is c.set_element_num.ensures.takes c.set_element_num.ensures.fails c.set_element_num.ensures.leaves

pub returns-in-SetElemP-clause-acts : goal.returns-in-SetElemP-clause-acts
returns-in-SetElemP-clause-acts g c =
    acts_as (g.V.Vault.outside c.args.vault.now) (g.V.Vault.outside c.set_element_ref.new.vault) c.in-SetElemP.is c.set_element_ref.ensures.takes c.set_element_ref.ensures.fails c.set_element_ref.ensures.leaves

pub returns-in-Lwb-clause-acts : goal.returns-in-Lwb-clause-acts
returns-in-Lwb-clause-acts g c =
    acts_as (g.V.Vault.outside c.args.vault.now) (g.V.Vault.outside c.lower_bound.new.vault) c.in-Lwb.is c.lower_bound.ensures.takes c.lower_bound.ensures.fails c.lower_bound.ensures.leaves

pub returns-in-Upb-clause-acts : goal.returns-in-Upb-clause-acts
returns-in-Upb-clause-acts g c =
    acts_as (g.V.Vault.outside c.args.vault.now) (g.V.Vault.outside c.upper_bound.new.vault) c.in-Upb.is c.upper_bound.ensures.takes c.upper_bound.ensures.fails c.upper_bound.ensures.leaves

pub returns-in-Closure-clause-acts : goal.returns-in-Closure-clause-acts
returns-in-Closure-clause-acts g c =
    acts_as (g.V.Vault.outside c.args.vault.now) (g.V.Vault.outside c.closure.new.vault) c.in-Closure.is c.closure.ensures.takes c.closure.ensures.fails c.closure.ensures.leaves

pub returns-in-Call-clause-acts : goal.returns-in-Call-clause-acts
returns-in-Call-clause-acts g c =
    acts_as (g.V.Vault.outside c.args.vault.now) (g.V.Vault.outside c.call.new.vault) c.in-Call.is c.call.ensures.takes c.call.ensures.fails c.call.ensures.leaves

pub returns-in-Return-clause-acts : goal.returns-in-Return-clause-acts
returns-in-Return-clause-acts g c = acts_on (g.V.Vault.outside c.args.vault.now) c.in-Return.is (c.returned.ensures.takes c.args.vault.now) c.returned.ensures.goes

pub returns-in-Lib-clause-acts : goal.returns-in-Lib-clause-acts
returns-in-Lib-clause-acts g c =
    acts_as (g.V.Vault.outside c.args.vault.now) (g.V.Vault.outside c.library.new.vault) c.in-Lib.is c.library.ensures.takes c.library.ensures.fails c.library.ensures.leaves

pub returns-in-WriteI-clause-acts : goal.returns-in-WriteI-clause-acts
returns-in-WriteI-clause-acts g c = acts_on (g.V.Vault.outside c.args.vault.now) c.in-WriteI.is (c.write_int.ensures.takes c.args.vault.now) c.write_int.ensures.goes

pub returns-in-WriteB-clause-acts : goal.returns-in-WriteB-clause-acts
returns-in-WriteB-clause-acts g c = acts_on (g.V.Vault.outside c.args.vault.now) c.in-WriteB.is (c.write_flag.ensures.takes c.args.vault.now) c.write_flag.ensures.goes

pub returns-in-WriteT-clause-acts : goal.returns-in-WriteT-clause-acts
returns-in-WriteT-clause-acts g c = acts_on (g.V.Vault.outside c.args.vault.now) c.in-WriteT.is (c.write_text.ensures.takes c.args.vault.now) c.write_text.ensures.goes

pub returns-in-Abort-clause-acts : goal.returns-in-Abort-clause-acts
returns-in-Abort-clause-acts g c = acts_on (g.V.Vault.outside c.args.vault.now) c.in-Abort.is (c.abort.ensures.takes c.args.vault.now) c.abort.ensures.goes

pub returns-in-ForStart-clause-acts : goal.returns-in-ForStart-clause-acts
returns-in-ForStart-clause-acts g c = acts_on (g.V.Vault.outside c.args.vault.now) c.in-ForStart.is (c.for_start.ensures.takes c.args.vault.now) c.for_start.ensures.goes

pub returns-in-ForNext-clause-acts : goal.returns-in-ForNext-clause-acts
returns-in-ForNext-clause-acts g c = acts_on (g.V.Vault.outside c.args.vault.now) c.in-ForNext.is (c.for_next.ensures.takes c.args.vault.now) c.for_next.ensures.goes

pub returns-in-ScanT-clause-acts : goal.returns-in-ScanT-clause-acts
returns-in-ScanT-clause-acts g c =
    acts_as (g.V.Vault.outside c.args.vault.now) (g.V.Vault.outside c.scan_strings.new.vault) c.in-ScanT.is c.scan_strings.ensures.takes c.scan_strings.ensures.fails c.scan_strings.ensures.leaves

pub returns-in-ScanI-clause-acts : goal.returns-in-ScanI-clause-acts
returns-in-ScanI-clause-acts g c =
    acts_as (g.V.Vault.outside c.args.vault.now) (g.V.Vault.outside c.scan_ints.new.vault) c.in-ScanI.is c.scan_ints.ensures.takes c.scan_ints.ensures.fails c.scan_ints.ensures.leaves

pub returns-in-ScanMore-clause-acts : goal.returns-in-ScanMore-clause-acts
returns-in-ScanMore-clause-acts g c = acts_on (g.V.Vault.outside c.args.vault.now) c.in-ScanMore.is (c.scan_more.ensures.takes c.args.vault.now) c.scan_more.ensures.goes

pub returns-in-DupM-clause-acts : goal.returns-in-DupM-clause-acts
returns-in-DupM-clause-acts g c = acts_on (g.V.Vault.outside c.args.vault.now) c.in-DupM.is (c.dup_num.ensures.takes c.args.vault.now) c.dup_num.ensures.goes

pub returns-in-DupP-clause-acts : goal.returns-in-DupP-clause-acts
returns-in-DupP-clause-acts g c = acts_on (g.V.Vault.outside c.args.vault.now) c.in-DupP.is (c.dup_ref.ensures.takes c.args.vault.now) c.dup_ref.ensures.goes

pub returns-in-DropM-clause-acts : goal.returns-in-DropM-clause-acts
returns-in-DropM-clause-acts g c = acts_on (g.V.Vault.outside c.args.vault.now) c.in-DropM.is (c.drop_num.ensures.takes c.args.vault.now) c.drop_num.ensures.goes

pub returns-in-DropP-clause-acts : goal.returns-in-DropP-clause-acts
returns-in-DropP-clause-acts g c = acts_on (g.V.Vault.outside c.args.vault.now) c.in-DropP.is (c.drop_ref.ensures.takes c.args.vault.now) c.drop_ref.ensures.goes

pub returns-in-JumpTrue-clause-acts : goal.returns-in-JumpTrue-clause-acts
returns-in-JumpTrue-clause-acts g c = acts_on (g.V.Vault.outside c.args.vault.now) c.in-JumpTrue.is (c.jump_true.ensures.takes c.args.vault.now) c.jump_true.ensures.goes
