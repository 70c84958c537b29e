use Rattle.std.proofs.Common.{◌≡◌, ℕ, ◌+◌, ◌<◌, ◌≤◌, ◌++◌, ◌∷◌, [], List, length, drop, slice_index_or, Option, Some, sym, ap, ◌∙◌, append_assoc, append-nil, add-one, drop-cons, arith}
use Rattle.std.proofs.lemmas.List.{drop_all}
use Rattle.ps_scan.specs.declared.token.Token.{Token}
use Rattle.ps_scan.specs.declared.token.TokenKind.TheVariants.{Name}
use Rattle.ps_symbols.specs.declared.symbol.Symbol.{Symbol}
use Rattle.ps_symbols.specs.Symbols.{between, symbol, symbols_behind}
use Rattle.ps_symbols.proofs.symbol.symbols.Goals as goal

-- a token more is read
one_more : (tokens : List Token) (index number : ℕ) (last : Option Token) (d : Token) → index < length tokens → symbols_behind last number (drop index tokens) ≡ (between last number (slice_index_or tokens index d) ++ symbol number (slice_index_or tokens index d) ∷ []) ++ symbols_behind (Some (slice_index_or tokens index d)) (number + 1) (drop (index + 1) tokens)
unfolding symbols_behind
one_more tokens index number last d h = rw (drop-cons tokens index d h, add-one index, append_assoc)

none_left : (tokens : List Token) (index number : ℕ) (last : Option Token) → length tokens ≤ index → symbols_behind last number (drop index tokens) ≡ []
unfolding symbols_behind
none_left tokens index number last h = rw (drop_all index tokens h)

abbrev no_token : Token
no_token = record { what = Name; line = record { 0 = 0 }; from = 0; to = 0 }

pub loop-token-preserved : goal.loop-token-preserved
loop-token-preserved c =
    let inside : c.loop-token.token-index < length c.args.tokens.now = c.loop-token-test.true in
    let token = slice_index_or c.args.tokens.now c.loop-token.token-index no_token in
    let step = one_more c.args.tokens.now c.loop-token.token-index c.loop-token.number c.loop-token.last no_token inside in
    let added : List Symbol = between c.loop-token.last c.loop-token.number token ++ symbol c.loop-token.number token ∷ [] in
    let rest : List Symbol = symbols_behind (Some token) (c.loop-token.number + 1) (drop (c.loop-token.token-index + 1) c.args.tokens.now) in
    record {
      counted = omega (arith, c.loop-token.invariant.counted);
      read_so_far =
          c.loop-token.invariant.read_so_far
          ∙ ap (λ more. c.loop-token.symbols.items ++ more) step
          ∙ sym (append_assoc c.loop-token.symbols.items added rest)
          ∙ ap (λ read. read ++ rest) (sym c.in_ok-push_read.ensures);
    }

pub returns : goal.returns
returns c =
    sym (c.loop-token.invariant.read_so_far
    ∙ ap (λ more. c.loop-token.symbols.items ++ more) (none_left c.args.tokens.now c.loop-token.token-index c.loop-token.number c.loop-token.last c.loop-token-test.false)
    ∙ append-nil c.loop-token.symbols.items)
