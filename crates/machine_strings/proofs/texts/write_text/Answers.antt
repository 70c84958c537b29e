use Rattle.std.proofs.Common.{ap, ◌∙◌, sym, List, ℕ}
use Rattle.machine_core.specs.ps_stepping.Steps.{pop_text}
use Rattle.machine_core.specs.ps_stepping.Machine.{write_text, written}
use Rattle.machine_core.specs.swizzle.Text.{text_at}
use Rattle.machine_core.proofs.of_joint_ops.SeenLaws.{text-denoted}
use Rattle.machine_strings.proofs.Parts.{both-leave, after-parts}
use Rattle.machine_strings.proofs.texts.write_text.Goals as goal

pub returns-clause-takes : goal.returns-clause-takes
returns-clause-takes g c =
    let line = c.args.line in
    let m = c.args.m.now in
    let mid = c.take_width.new.m in
    let last = c.pop_text.new.m in
    let p = c.in-Some.ensures in
    let q = c.in-Some-pop_text.ensures in
    let width = c.in-Some.width in
    let text = c.in-Some-pop_text.text in
    λ v.
    let out = g.V.Vault.outside v in
    after-parts out out (write_text c.args.given line) m last (both-leave m mid last p.leaves q.leaves) (written line width (text_at last.objects text)) c.written.new.m c.written.result
    (c.written.ensures.takes v)
    (λ names conf h.
    let w = (p.pops v).gives names conf h in
    let a = (q.pops v).gives names w.0 w.2 in
    let same = (text-denoted last.objects out names text a.1 c.sound.ensures a.4).bytes_are in (
      a.0,
      w.1 (λ x d. pop_text d (λ bytes e. written line x bytes e)) ∙ a.2 (λ bytes e. written line width bytes e)
          ∙ ap (λ (bytes : List ℕ). written line width bytes a.0) (sym same),
      a.3,
    ))
