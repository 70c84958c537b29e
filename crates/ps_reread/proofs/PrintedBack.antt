-- Whatever text has a tree, what it is printed as is read as that tree but for lines.
use Rattle.std.proofs.Common.{◌≡◌, ℕ, suc, ◌+◌, List, [], ◌∷◌, length, Bool, Some, slice_get, refl, sym, subst, ap, ◌∙◌, arith}
use Rattle.std.proofs.lemmas.Option.{slice_get_past}
use Rattle.ps_parse.specs.ps_scan.declared.token.Token.{Token}
use Rattle.ps_parse.specs.ps_scan.Tokens.{line_of}
use Rattle.ps_layout.specs.ps_symbols.declared.kind.Kind.{Kind}
use Rattle.ps_layout.specs.ps_symbols.declared.kind.Kind.TheVariants as kind
use Rattle.ps_layout.specs.ps_symbols.declared.symbol.Symbol.{Symbol}
use Rattle.ps_layout.specs.ps_symbols.Kinds.{kind_of, begins_item}
use Rattle.ps_layout.specs.ps_tree.Phrase.{Phrase, Phrases, none, more, at}
use Rattle.ps_layout.specs.ps_tree.Phrase as form
use Rattle.ps_parse.specs.ps_reader.Grammar as grammar
use Rattle.ps_parse.specs.ps_reader.Grammar.{a_clause, Go, Program}
use Rattle.ps_parse.specs.ps_reader.Reading.{kind_at, kind_of_next, Reads, gives, takes, goes, joins}
use Rattle.ps_layout.specs.ps_symbols.Symbols.{symbol, symbols}
use Rattle.ps_reread.specs.Bare.{bare_all}
use Rattle.ps_layout.specs.Layout.{semicolon, other, clause_lexemes, lines_lexemes, program_lexemes, printed}
use Rattle.ps_layout.specs.Lexemes.{nothing, Lexeme}
use Rattle.ps_reread.specs.Printable.{tokens_of, AreSpelledBy}
use Rattle.ps_layout.specs.Lexemes as lexemes
use Rattle.ps_reread.specs.Lines.{one_for_one}
use Rattle.ps_reread.specs.Reprint.{ReadsBack, PrintsBack}
use Rattle.ps_reread.proofs.Canonical.{AreItemsOf}
use Rattle.ps_reread.proofs.Canonical as is
use Rattle.ps_reread.proofs.Given.{canonical}
use Rattle.ps_reread.proofs.Heads.{head}
use Rattle.ps_reread.proofs.Printable.{program_good}
use Rattle.ps_reread.proofs.Read.{read_one_for_one, symbols_count}
use Rattle.ps_reread.proofs.Rereading.{sequence_item, sequence_reads}
use Rattle.ps_reread.proofs.Standing.{Stands, cut}
use Rattle.ps_reread.proofs.Texts.{printed_scans, printed_spelled}

stands_to : {text : List ℕ} {all : List Symbol} {from to other : ℕ} {ls : List Lexeme} → to ≡ other → Stands text all from ls to → Stands text all from ls other
stands_to {text} {all} {from} {ls = ls} same = subst (λ (p : ℕ). Stands text all from ls p) same

-- the symbols of tokens that lexemes spell stand as these
stands : (text : List ℕ) (all : List Symbol) (from number : ℕ) (tokens : List Token) (ls : List Lexeme) → ((i : ℕ) (one : Symbol) → slice_get (one_for_one number tokens) i ≡ Some one → slice_get all (from + i) ≡ Some one) → AreSpelledBy text tokens ls → Stands text all from ls (from + length ls)
stands text all from number [] [] found spelled = stands_to (omega arith) Stands.no_more
stands text all from number [] (l ∷ ls) found spelled = absurd spelled
stands text all from number (token ∷ tokens) [] found spelled = absurd spelled
stands text all from number (token ∷ tokens) (l ∷ ls) found spelled =
    let here : slice_get all from ≡ Some (symbol number token) = ap (λ (p : ℕ). slice_get all p) (omega arith) ∙ found 0 (symbol number token) refl in
    let rest = stands text all (from + 1) (number + 1) tokens ls (λ i one is. ap (λ (p : ℕ). slice_get all p) (omega arith) ∙ found (suc i) one is) spelled.2 in
    Stands.one_more here (ap kind_of spelled.1) spelled.0 (stands_to (omega arith) rest)

-- the items of a program
record ProgramRead (text : List ℕ) (all : List Symbol) (room : ℕ) (ps : Phrases) (to : ℕ) : Type 0 where
  pub again : Phrases
  pub read : Reads text all room (Go Program) 0 (a_clause (at (form.Sequence again) (line_of 1))) to
  pub same : bare_all again ≡ bare_all ps

program_reads : {text : List ℕ} {all : List Symbol} {room : ℕ} {ps : Phrases} (to : ℕ) → AreItemsOf room ps → Stands text all 0 (program_lexemes ps) to → kind_at all to ≡ kind.EndOfText → ProgramRead text all room ps to
program_reads to is.no_item Stands.no_more end = record { again = none; read = goes refl (joins (goes (ap (λ (k : Kind). Some (grammar.items (line_of 1) none (begins_item k))) end) (goes (ap (λ (k : Kind). Some (grammar.items_end (line_of 1) none k)) end) gives)) (goes (ap (λ (k : Kind). grammar.ending (at (form.Sequence none) (line_of 1)) k) end) gives)); same = refl }
program_reads to (is.one_more {first = first} {rest = rest} one others) st end =
    let s = cut (clause_lexemes 0 other nothing first) (semicolon ∷ lines_lexemes 0 rest) st in
    let d = head s.2 in
    let i = sequence_item one 0 nothing 0 s.0 s.1 d.kind in
    let r = sequence_reads others (line_of 1) (more i.again none) 0 (s.0 + 1) to d.more (ap begins_item end) (λ same. absurd (let k = end in cc)) in
    record { again = r.all; read = goes refl (joins (goes (ap (λ (b : Bool). Some (grammar.items (line_of 1) none b)) i.begins) (joins i.read (goes (ap (λ (k : Kind). Some (grammar.items_end (line_of 1) (more i.again none) k)) d.kind) (takes d.here d.is r.read)))) (goes (ap (λ (k : Kind). grammar.ending (at (form.Sequence r.all) (line_of 1)) k) end) gives)); same = r.same ∙ ap (λ (p : Phrase). more p (bare_all rest)) i.same }

reads_back : (nesting : ℕ) (items : Phrases) → AreItemsOf nesting items → ReadsBack (printed (at (form.Sequence items) (line_of 1))) nesting (at (form.Sequence items) (line_of 1))
reads_back nesting items are =
    let ls = program_lexemes items in
    let good = program_good are in
    let text = lexemes.printed ls in
    let tokens = tokens_of 0 1 ls in
    let one = read_one_for_one ls good.lines in
    let st = stands text (symbols tokens) 0 0 tokens ls (λ i sym is. ap (λ (p : ℕ). slice_get (symbols tokens) p) (omega arith) ∙ ap (λ (all : List Symbol). slice_get all i) one ∙ is) (printed_spelled ls) in
    let count = symbols_count ls good.lines in
    let r = program_reads (0 + length ls) are st (ap kind_of_next (slice_get_past (symbols tokens) (0 + length ls) (omega (arith, count)))) in
    record { tokens = tokens; again = at (form.Sequence r.again) (line_of 1); scanned = printed_scans ls good.printable; read = subst (λ (end : ℕ). Reads text (symbols tokens) nesting (Go Program) 0 (a_clause (at (form.Sequence r.again) (line_of 1))) end) (omega (arith, count)) r.read; same = ap (λ (ps : Phrases). at (form.Sequence ps) (line_of 1)) r.same }

-- the text that a tree is printed as is read as the tree
pub prints_back : (tree : Phrase) → PrintsBack tree
prints_back tree text tokens nesting scanned program =
    let c = canonical text tokens nesting tree scanned program in
    subst (λ (t : Phrase). ReadsBack (printed t) nesting t) (sym c.1) (reads_back nesting c.0 c.2)
