use Rattle.std.proofs.Common.{arith, List, None, length, subst, sym, ◌∙◌}
use Rattle.std.specs.List.{All}
use Rattle.ps_tree.specs.ps_symbols.declared.symbol.Symbol.{Symbol}
use Rattle.ps_tree.specs.ps_symbols.inside.Soundness.{IsSound}
use Rattle.ps_reader.specs.inside.Stopping.{HaltsWith, Continues}
use Rattle.std.specs.Prelude.{ℕ, Result, Ok, Err, IfOk, IfErr, MatchResult, ◌≢◌}
use Rattle.ps_tree.specs.declared.fault.ParseFault.{ParseFault}
use Rattle.ps_tree.specs.declared.fault.ParseFault.TheVariants.{Memory}
use Rattle.ps_tree.specs.declared.rough.Rough.{Rough}
use Rattle.ps_reader.specs.ps_scan.declared.token.Token.{Token}
use Rattle.ps_tree.specs.ps_symbols.Symbols.{symbols as read_as}
use Rattle.ps_tree.specs.Phrase.{phrase_of}
use Rattle.ps_parse.specs.Program.{IsParseFault, ReadsAs}
use Rattle.ps_reader.specs.Reading.{Reads}
use Rattle.ps_reader.specs.Grammar.{Go, Give, Program, a_clause}
use Rattle.ps_parse.proofs.Ends.{ends_there, symbols_stand}
use Rattle.ps_reader.proofs.Steps.{reads_as_this}
use Rattle.ps_parse.proofs.Faults.{fault_of_stop}
use Rattle.ps_tree.proofs.of_ps_symbols.SymbolLemmas.{tokens_fit, all_sound}
use Rattle.ps_parse.proofs.parser.parse.Goals as goal

pub symbols-requires : goal.symbols-requires
symbols-requires c = omega (arith, c.requires.size, tokens_fit _ 0 _ c.tokens_are_slices.ensures.slices c.tokens_are_slices.ensures.in_order (omega arith))

pub overflow_cast-reader : goal.overflow_cast-reader
overflow_cast-reader c = omega (arith, c.requires.size, tokens_fit _ 0 _ c.tokens_are_slices.ensures.slices c.tokens_are_slices.ensures.in_order (omega arith))

pub program-tree-requires : goal.program-tree-requires
program-tree-requires c = record {
  sound = record {
    size = c.requires.size;
    symbols = subst (λ (all : List Symbol). All (IsSound c.args.text.now) all) (sym (c.deref.ensures.value ∙ c.in_ok-symbols.ensures)) (all_sound c.args.text.now None 0 c.args.tokens.now c.tokens_are_slices.ensures.slices);
  };
}

-- what the method for a program did, for the symbols of these tokens, is what is said of the text
read_tokens : (text : List ℕ) (tokens : List Token) (to : ℕ) (result : Result Rough ParseFault) → MatchResult result (λ made. Continues text (length tokens) (read_as tokens) 100 (Go Program) 0 (Give (a_clause (phrase_of made))) to) (λ fault. HaltsWith text (length tokens) (read_as tokens) 100 (Go Program) 0 fault) → IfOk result (λ made. ReadsAs text tokens (phrase_of made)) × IfErr result (λ fault. fault ≢ Memory → IsParseFault text tokens fault)
read_tokens text tokens to (Ok made) goes =
    let reads = reads_as_this goes in
    (record { program = subst (λ (p : ℕ). Reads text (read_as tokens) 100 (Go Program) 0 (a_clause (phrase_of made)) p) (ends_there (symbols_stand None 0 tokens) reads) reads }, tt)
read_tokens text tokens to (Err fault) halts = (tt, fault_of_stop text tokens fault halts)

pub returns : goal.returns
returns c =
    let both = read_tokens c.args.text.now c.args.tokens.now c.program-tree.new.at c.program-tree.result (subst (λ (all : List Symbol). MatchResult c.program-tree.result (λ made. Continues c.args.text.now (length c.args.tokens.now) all 100 (Go Program) 0 (Give (a_clause (phrase_of made))) c.program-tree.new.at) (λ fault. HaltsWith c.args.text.now (length c.args.tokens.now) all 100 (Go Program) 0 fault)) (c.deref.ensures.value ∙ c.in_ok-symbols.ensures) c.program-tree.ensures) in
    record { tree = both.0; fault = both.1 }
