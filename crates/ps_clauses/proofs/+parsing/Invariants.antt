use Rattle.std.proofs.Common.{ℕ, ◌+◌, ◌-◌, ◌*◌, length}
use Rattle.ps_tree.specs.ps_symbols.declared.kind.Level.{Level}
use Rattle.ps_tree.specs.ps_symbols.declared.kind.Level.TheVariants.{Disjunction, Conjunction, Sum, Product}
use Rattle.ps_tree.specs.Phrase.{Phrases, none, more, phrase_of}
use Rattle.ps_tree.specs.PhraseLists.{phrases_in, arms_in, items_in}
use Rattle.ps_tree.specs.Composing.{and_item}
use Rattle.ps_reader.specs.Grammar.{Part, Rule, Go, Then, Application, Applied, Items, Cases, Chain, MoreChain, MoreWritten, Written, the_item, choosing, writing, line_at}
use Rattle.ps_reader.specs.inside.Parsing.{GoesOn}
use Rattle.ps_clauses.specs.inside.Clauses.{IsList}
use Rattle.ps_clauses.proofs.+parsing.Given as goal

-- A call of the cycle reads a smaller part of the grammar, or opens a clause, and then has less room.
abbrev work : ℕ → ℕ → ℕ
work room rank = 30 * room + rank

abbrev rank_of : Level → ℕ
rank_of Product = 11
rank_of Sum = 13
rank_of Conjunction = 18
rank_of Disjunction = 20

abbrev pub decreases-cases::choosing : goal.decreases-cases::choosing
decreases-cases::choosing l = work l.room 2

abbrev pub decreases-clauses::after : goal.decreases-clauses::after
decreases-clauses::after l = work l.room 1

abbrev pub decreases-clauses::clause : goal.decreases-clauses::clause
decreases-clauses::clause l = work l.room 0

abbrev pub decreases-clauses::condition : goal.decreases-clauses::condition
decreases-clauses::condition l = work l.room 2

abbrev pub decreases-clauses::expression : goal.decreases-clauses::expression
decreases-clauses::expression l = work l.room 22

abbrev pub decreases-clauses::filling : goal.decreases-clauses::filling
decreases-clauses::filling l = work l.room 2

abbrev pub decreases-clauses::more_clauses : goal.decreases-clauses::more_clauses
decreases-clauses::more_clauses l = work l.room 1

abbrev pub decreases-clauses::opened : goal.decreases-clauses::opened
decreases-clauses::opened l = work l.room 23

abbrev pub decreases-clauses::optional : goal.decreases-clauses::optional
decreases-clauses::optional l = work l.room 1

abbrev pub decreases-clauses::procedure : goal.decreases-clauses::procedure
decreases-clauses::procedure l = work l.room 3

abbrev pub decreases-items::item : goal.decreases-items::item
decreases-items::item l = work l.room 4

abbrev pub decreases-items::items : goal.decreases-items::items
decreases-items::items l = work l.room 6

abbrev pub decreases-items::let_item : goal.decreases-items::let_item
decreases-items::let_item l = work l.room 2

abbrev pub decreases-items::literal : goal.decreases-items::literal
decreases-items::literal l = work l.room 2

abbrev pub decreases-items::optional_item : goal.decreases-items::optional_item
decreases-items::optional_item l = work l.room 5

abbrev pub decreases-loops::counting : goal.decreases-loops::counting
decreases-loops::counting l = work l.room 2

abbrev pub decreases-loops::repeating : goal.decreases-loops::repeating
decreases-loops::repeating l = work l.room 2

abbrev pub decreases-loops::repetition : goal.decreases-loops::repetition
decreases-loops::repetition l = work l.room 2

abbrev pub decreases-operators::chain : goal.decreases-operators::chain
decreases-operators::chain l = work l.room (rank_of l.level + 1)

abbrev pub decreases-operators::compared : goal.decreases-operators::compared
decreases-operators::compared l = work l.room 16

abbrev pub decreases-operators::factor : goal.decreases-operators::factor
decreases-operators::factor l = work l.room 10

abbrev pub decreases-operators::operand : goal.decreases-operators::operand
decreases-operators::operand l = work l.room (rank_of l.level)

abbrev pub decreases-operators::relative : goal.decreases-operators::relative
decreases-operators::relative l = work l.room 17

abbrev pub decreases-primaries::application : goal.decreases-primaries::application
decreases-primaries::application l = work l.room 9

abbrev pub decreases-primaries::arguments : goal.decreases-primaries::arguments
decreases-primaries::arguments l = work l.room 2

abbrev pub decreases-primaries::block : goal.decreases-primaries::block
decreases-primaries::block l = work l.room 7

abbrev pub decreases-primaries::bound_of_vector : goal.decreases-primaries::bound_of_vector
decreases-primaries::bound_of_vector l = work l.room 3

abbrev pub decreases-primaries::bracketed : goal.decreases-primaries::bracketed
decreases-primaries::bracketed l = work l.room 2

abbrev pub decreases-primaries::elements : goal.decreases-primaries::elements
decreases-primaries::elements l = work l.room 2

abbrev pub decreases-primaries::primary : goal.decreases-primaries::primary
decreases-primaries::primary l = work l.room 8

abbrev pub decreases-writing::writing : goal.decreases-writing::writing
decreases-writing::writing l = work l.room 2

abbrev pub decreases-writing::written : goal.decreases-writing::written
decreases-writing::written l = work l.room 1

abbrev pub invariant-cases::choosing-loop-at : goal.invariant-cases::choosing-loop-at
invariant-cases::choosing-loop-at l = GoesOn l.reader l.room choosing l.fn.at (Go (Cases (line_at l.word) (phrase_of l.e) (arms_in l.arms.items))) l.at

abbrev pub decreases-cases::choosing-loop-at : goal.decreases-cases::choosing-loop-at
decreases-cases::choosing-loop-at l = length l.reader.symbols.now - l.at

abbrev pub invariant-clauses::more_clauses-loop-at : goal.invariant-clauses::more_clauses-loop-at
invariant-clauses::more_clauses-loop-at l = (part : Phrases → Part) (rest : Phrases → Rule) → IsList l.reader.text.now part rest → GoesOn l.reader l.room (Go (part (more (phrase_of l.fn.first) none))) l.fn.at (Go (part (phrases_in l.clauses.items))) l.at

abbrev pub decreases-clauses::more_clauses-loop-at : goal.decreases-clauses::more_clauses-loop-at
decreases-clauses::more_clauses-loop-at l = length l.reader.symbols.now - l.at

abbrev pub invariant-items::items-loop-items : goal.invariant-items::items-loop-items
invariant-items::items-loop-items l = GoesOn l.reader l.room (Go (Items l.line none)) l.fn.at (Go (Items l.line (phrases_in l.items.items))) l.at

abbrev pub decreases-items::items-loop-items : goal.decreases-items::items-loop-items
decreases-items::items-loop-items l = length l.reader.symbols.now - l.at

abbrev pub invariant-operators::chain-loop-operation : goal.invariant-operators::chain-loop-operation
invariant-operators::chain-loop-operation l = GoesOn l.reader l.room (Go (Chain l.level)) l.fn.at (Go (MoreChain l.level (phrase_of l.left))) l.at

abbrev pub decreases-operators::chain-loop-operation : goal.decreases-operators::chain-loop-operation
decreases-operators::chain-loop-operation l = length l.reader.symbols.now - l.at

abbrev pub invariant-primaries::application-loop-mark : goal.invariant-primaries::application-loop-mark
invariant-primaries::application-loop-mark l = GoesOn l.reader l.room (Go Application) l.fn.at (Go (Applied (phrase_of l.made))) l.at

abbrev pub decreases-primaries::application-loop-mark : goal.decreases-primaries::application-loop-mark
decreases-primaries::application-loop-mark l = length l.reader.symbols.now - l.at

abbrev pub invariant-writing::writing-loop-items : goal.invariant-writing::writing-loop-items
invariant-writing::writing-loop-items l = GoesOn l.reader l.room writing l.fn.at (Then (Go Written) (λ one. Go (MoreWritten (line_at l.word) (and_item (items_in l.items.items) (the_item one))))) l.at

abbrev pub decreases-writing::writing-loop-items : goal.decreases-writing::writing-loop-items
decreases-writing::writing-loop-items l = length l.reader.symbols.now - l.at
