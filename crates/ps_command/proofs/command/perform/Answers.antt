use Rattle.std.proofs.Common.{◌≡◌, ◌∙◌, Some, [], arith, eqb-true, rules, sym, subst, vec_len}
use Rattle.std.proofs.lemmas.List.{nil_from_length}
use Rattle.ps_port.specs.ps_outside.Outside.{Rose}
use Rattle.ps_causes.specs.Command.{done_of}
use Rattle.ps_causes.specs.Steps.{WhyEnds}
use Rattle.ps_causes.specs.ps_reports.declared.status.Status.TheVariants.{Done}
use Rattle.ps_causes.specs.ps_reports.declared.report.Report.TheVariants.{Usage}
use Rattle.ps_causes.specs.ps_volumes.Making.{Makes}
use Rattle.ps_causes.specs.ps_args.Reading.{command_in, run_in}
use Rattle.std.specs.Prelude.{Ok, Err}
use Rattle.ps_command.proofs.Causes.{ends_in_usage, ends_made, ends_not_made, ends_told, many_none, one_done}
use Rattle.ps_command.proofs.command.perform.Goals as goal

pub returns-in-Ok-clause-why : goal.returns-in-Ok-clause-why
returns-in-Ok-clause-why g c =
    let o = g.H.Host.outside in
    let s = g.S.Shelf in
    let shelf = c.args.shelf.now in
    let rose = Rose (s.faults shelf) (s.faults shelf) in
    let old = o c.args.host in
    let new = o c.make_volume.new.host in
    subst (λ k. WhyEnds old new (done_of (command_in k)) (s.holds shelf) (s.lacks shelf) (s.may_fail shelf) rose (Ok Done)) (sym c.in-Format.is)
    (ends_made (s.holds shelf) (s.lacks shelf) (s.may_fail shelf) rose old new c.in-Format.pages _
    (subst (λ a. Makes c.in-Format.pages old new a) c.in-Ok.is c.make_volume.ensures))

pub returns-in-Err-clause-why : goal.returns-in-Err-clause-why
returns-in-Err-clause-why g c =
    let o = g.H.Host.outside in
    let s = g.S.Shelf in
    let shelf = c.args.shelf.now in
    let rose = Rose (s.faults shelf) (s.faults shelf) in
    let old = o c.args.host in
    let new = o c.make_volume.new.host in
    subst (λ k. WhyEnds old new (done_of (command_in k)) (s.holds shelf) (s.lacks shelf) (s.may_fail shelf) rose (Err c.in-Err.report)) (sym c.in-Format.is)
    (ends_not_made (s.holds shelf) (s.lacks shelf) (s.may_fail shelf) rose old new c.in-Format.pages c.in-Err.report
    (subst (λ a. Makes c.in-Format.pages old new a) c.in-Err.is c.make_volume.ensures))

pub returns-then-is_empty-clause-why : goal.returns-then-is_empty-clause-why
returns-then-is_empty-clause-why g c =
    let old = g.H.Host.outside c.args.host in
    let new = g.H.Host.outside c.run_file.result.1 in
    let s = g.S.Shelf in
    let shelf = c.args.shelf.now in
    let rose = Rose (s.faults shelf) (s.faults c.run_file.new.shelf) in
    let run = run_in c.in-Run.run' in
    let further = c.in-Run.run'.further in
    let none : further.items ≡ [] = nil_from_length further.items (let e = eqb-true (vec_len further) 0 (sym c.is_empty.ensures ∙ c.if-is_empty.true) in omega (arith, e, further.ok.0)) in
    subst (λ k. WhyEnds old new (done_of (command_in k)) (s.holds shelf) (s.lacks shelf) (s.may_fail shelf) rose c.run_file.result.0) (sym c.in-Run.is)
    (subst (λ a. WhyEnds old new a (s.holds shelf) (s.lacks shelf) (s.may_fail shelf) rose c.run_file.result.0) (sym (one_done run (λ name. name.now) c.in-Run.run'.further.items none))
    c.run_file.ensures.why)

pub returns-else-is_empty-clause-why : goal.returns-else-is_empty-clause-why
returns-else-is_empty-clause-why g c =
    let old = g.H.Host.outside c.args.host in
    let s = g.S.Shelf in
    let shelf = c.args.shelf.now in
    let rose = Rose (s.faults shelf) (s.faults shelf) in
    let run = run_in c.in-Run.run' in
    let some : c.in-Run.run'.further.items ≡ [] → ⊥ = search rules in
    subst (λ k. WhyEnds old old (done_of (command_in k)) (s.holds shelf) (s.lacks shelf) (s.may_fail shelf) rose (Err Usage)) (sym c.in-Run.is)
    (subst (λ a. WhyEnds old old a (s.holds shelf) (s.lacks shelf) (s.may_fail shelf) rose (Err Usage)) (sym (many_none run (λ name. name.now) c.in-Run.run'.further.items some))
    (ends_in_usage (s.holds shelf) (s.lacks shelf) (s.may_fail shelf) rose old))

pub returns-in-Tell-clause-why : goal.returns-in-Tell-clause-why
returns-in-Tell-clause-why g c =
    let o = g.H.Host.outside in
    let s = g.S.Shelf in
    let shelf = c.args.shelf.now in
    let rose = Rose (s.faults shelf) (s.faults shelf) in
    let told = c.tell_text-status in
    subst (λ k. WhyEnds (o c.args.host) (o told.result.1) (done_of (command_in k)) (s.holds shelf) (s.lacks shelf) (s.may_fail shelf) rose (Ok told.result.0)) (sym c.in-Tell.is)
    (ends_told (s.holds shelf) (s.lacks shelf) (s.may_fail shelf) rose (o c.args.host) (o told.result.1) c.in-Tell.text.now told.result.0 told.ensures.answers told.ensures.device)
