-- A text that is a program runs.
use Rattle.std.proofs.Common.{◌≡◌, ℕ, List, [], subst}
use Rattle.std.specs.Prelude.{Option, Some, None}
use Rattle.ps_base.specs.TyView as types
use Rattle.ps_base.specs.declared.line.Line.{Line}
use Rattle.ps_typing_laws.specs.ps_tree.Phrase.{Phrase}
use Rattle.ps_program.specs.Node.{Node, BodyNode, body}
use Rattle.ps_typing_laws.specs.ps_type_text.Texts.{Field}
use Rattle.ps_typing_laws.specs.ps_typing.Library.{library_names}
use Rattle.ps_typing_laws.specs.ps_typing.Mentions.{mentions, declarations, kept_of}
use Rattle.ps_typing_laws.specs.ps_typing.Placed.{placed_program, no_locals, then_give, ◌>>=◌}
use Rattle.ps_typing_laws.specs.ps_typing.Checking.{Outcome, Gives, Refuses, check}
use Rattle.ps_typing_laws.specs.ps_typing.Items.{LetsAreItems}
use Rattle.ps_typing_laws.specs.ps_typing.Fault.{Fault}
use Rattle.ps_typing_laws.specs.ps_typing.Program.{Typed, first_complex, bodies, measured, verdict_of, check_program, end_line}
use Rattle.ps_typing_laws.proofs.Numbered.{Numbered}
use Rattle.ps_typing_laws.proofs.ByCheck as numbered
use Rattle.ps_typing_laws.proofs.OfProgram.{library_known as library_numbered}
use Rattle.ps_fit_laws.specs.ps_soundness.Running.{BodyRuns}
use Rattle.ps_fit_laws.specs.ps_leaf_laws.Leaves.{LeavesFit}
use Rattle.ps_fit_laws.specs.Fitting.{Fits, FitsBody}
use Rattle.ps_fit_laws.proofs.ByCheck as fitting
use Rattle.ps_fit_laws.proofs.OfProgram.{library_known as library_fits, typed_fits}
use Rattle.ps_running_laws.proofs.InScopes.{runs}

body_runs : (names : List Field) (tree : Node) (m : ℕ) (line : Line) → fitting.AllNamed names → Numbered names [] 0 0 tree types.Void m →
    FitsBody (placed_program names (body [] types.Void tree None line)) →
    BodyRuns [] (placed_program names (body [] types.Void tree None line))
unfolding then_give ◌>>=◌
body_runs names tree m line named t fit =
    (tt, runs names named (kept_of (mentions tree) (declarations tree)) t (λ k d ty is. absurd is) [] no_locals fit.1)

same_program : (whole program : BodyNode) (complex : Option Fault) → measured whole complex ≡ Typed program → whole ≡ program
same_program whole program None is = cc
same_program whole program (Some fault) is = absurd cc

given_runs : (o : Outcome Node) (program : BodyNode) → numbered.Sound (numbered.IsOf types.Void) library_names o → fitting.Sound Fits o →
    verdict_of o ≡ Typed program → FitsBody program → BodyRuns [] program
given_runs (Gives tree ty names) program h k is =
    let whole : BodyNode = placed_program names.all (body [] types.Void tree None (record { 0 = 1 })) in
    let t = h.fine.typed names.all [] 0 (numbered.same_extends names.all) library_numbered in
    subst (λ (p : BodyNode). FitsBody p → BodyRuns [] p) (same_program whole program (first_complex (bodies whole)) is)
    (body_runs names.all tree _ (record { 0 = 1 }) k.fine.known.named t)
given_runs (Refuses fault) program h k is = absurd cc

pub program_runs : (tree : Phrase) (program : BodyNode) → LetsAreItems tree → check_program tree ≡ Typed program → LeavesFit tree →
    BodyRuns [] program
program_runs tree program lets is leaves =
    given_runs _ program (numbered.of_type types.Void (end_line tree) _ (numbered.sound library_names tree lets))
    (fitting.passed _ types.Void (end_line tree) (check library_names tree) (fitting.sound library_names tree leaves library_fits))
    is (typed_fits tree program leaves is)
