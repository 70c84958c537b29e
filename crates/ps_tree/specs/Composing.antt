-- Trees made of trees: a list with one more at its end, and two clauses with an operator between them.
use Rattle.ps_base.specs.declared.line.Line.{Line}
use Rattle.ps_symbols.specs.declared.kind.Operation.{Operation}
use Rattle.ps_symbols.specs.declared.kind.Operation.TheVariants as operation
use Rattle.ps_tree.specs.Phrase.{Phrase, at, Phrases, none, more, Arm, Arms, no_arms, more_arms, WriteItem, WriteItems, no_items, more_items}
use Rattle.ps_tree.specs.Phrase as form

-- one more at the end
abbrev pub and_then : Phrases → Phrase → Phrases
and_then none last = more last none
and_then (more first rest) last = more first (and_then rest last)

abbrev pub and_arm : Arms → Arm → Arms
and_arm no_arms last = more_arms last no_arms
and_arm (more_arms first rest) last = more_arms first (and_arm rest last)

abbrev pub and_item : WriteItems → WriteItem → WriteItems
and_item no_items last = more_items last no_items
and_item (more_items first rest) last = more_items first (and_item rest last)

-- what an operator makes of its two operands
abbrev pub joined : Operation → Phrase → Phrase → Line → Phrase
joined operation.Or a b line = at (form.Or a b) line
joined operation.And a b line = at (form.And a b) line
joined operation.Join a b line = at (form.Join a b) line
joined (operation.Arith op) a b line = at (form.Arith op a b) line
