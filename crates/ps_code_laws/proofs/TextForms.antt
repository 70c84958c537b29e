-- Instructions over texts do what is meant by the clauses that they stand for.
use Rattle.std.proofs.Common.{ℕ, ◌+◌, [], ◌∷◌}
use Rattle.ps_gen.specs.ps_base.TyView as types
use Rattle.ps_gen.specs.ps_base.declared.line.Line.{Line}
use Rattle.ps_gen.specs.ps_base.declared.instr.Instr.TheVariants as instr
use Rattle.ps_stepping.specs.ps_heap.Values.{Value, Text, word_of}
use Rattle.ps_stepping.specs.ps_heap.Texts.{join_of, part_of}
use Rattle.ps_stepping.specs.ps_meaning.Meaning.{made_text}
use Rattle.ps_stepping.specs.ps_meaning.Operations.{join_meant, part_meant}
use Rattle.ps_code_laws.specs.Fitting.{IsOf}
use Rattle.ps_code_laws.specs.Compiled.{compiled}
use Rattle.ps_code_laws.proofs.Doing.{Origin, Way, Does, does_meant}
use Rattle.ps_code_laws.proofs.Operands.{Stand}
use Rattle.ps_code_laws.proofs.Attempts.{quiet_attempt, quiet_made_text, attempt_steps, text_steps}

module _ (w : Way) where
  pub does_join : (n : Origin) (p : ℕ) (line : Line) (v u : Value) → IsOf n.heap types.Str v → IsOf n.heap types.Str u → Stand w p (instr.Join line) →
      Does w n [] (compiled u ∷ compiled v ∷ []) (join_meant line v u) types.Str 1 p (p + 5)
  does_join n p line (Text a) (Text b) is of at =
      does_meant w p 1 (instr.Join line)
      (λ nums refs f s room since. attempt_steps w (p + 5) nums refs types.Str f s line (join_of a b) _ made_text
      (λ bytes. text_steps w (p + 5) nums refs f s bytes room))
      (quiet_attempt line (join_of a b) made_text quiet_made_text) at
  does_join n p line (Text a) _ is of at = absurd of
  does_join n p line _ u is of at = absurd is

  pub does_part : (n : Origin) (p : ℕ) (line : Line) (v from count : Value) → IsOf n.heap types.Str v → Stand w p (instr.Part line) →
      Does w n (word_of count ∷ word_of from ∷ []) (compiled v ∷ []) (part_meant line v from count) types.Str 1 p (p + 5)
  does_part n p line (Text a) from count is at =
      let part = part_of a (word_of from) (word_of count) in
      does_meant w p 1 (instr.Part line)
      (λ nums refs f s room since. attempt_steps w (p + 5) nums refs types.Str f s line part _ made_text
      (λ bytes. text_steps w (p + 5) nums refs f s bytes room))
      (quiet_attempt line part made_text quiet_made_text) at
  does_part n p line _ from count is at = absurd is
