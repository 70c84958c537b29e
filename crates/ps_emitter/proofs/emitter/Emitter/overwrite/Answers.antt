use Rattle.std.proofs.Common.{map, ap, ◌∙◌, sym}
use Rattle.ps_base.specs.CodeUnit.{constant_view}
use Rattle.ps_base.specs.Instr.{spelling}
use Rattle.ps_base.proofs.Spellings.{length-spelling}
use Rattle.ps_emitter.specs.Pieces.{over}
use Rattle.ps_emitter.proofs.Spelled.{front_is}
use Rattle.ps_emitter.proofs.emitter.Emitter.overwrite.Goals as goal

pub returns-clause-written : goal.returns-clause-written
returns-clause-written c =
    let i = c.args.instr in
    let old = c.args.self.now in
    let front = front_is c.encode-width.new.into (spelling i) _ c.encode-width.result c.encode-width.ensures.written (c.encode-width.ensures.width ∙ sym (length-spelling i)) in
    let code = c.in_ok-write_over.ensures ∙ ap (λ z. over c.args.at z old.code.items) front in
    ap (λ z. record { code = z; constants = map constant_view old.constants.items; nums = old.nums; refs = old.refs }) code
