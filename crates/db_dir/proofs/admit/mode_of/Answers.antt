use Rattle.std.specs.Cmp.Lexicographic.{other_text}
use Rattle.db_dir.proofs.AdmitLaws.{mode-none}
use Rattle.db_dir.proofs.admit.mode_of.Goals as goal

pub returns : goal.returns
returns c =
    mode-none c.args.mode.now c.as_slice.result.now c.as_slice-2.result.now c.as_slice.ensures c.as_slice-2.ensures
    (other_text c.args.mode.now c.as_slice.result.now c.if-eq.ensures) (other_text c.args.mode.now c.as_slice-2.result.now c.if-eq-2.ensures)
