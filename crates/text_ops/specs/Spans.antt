-- Where a part lies within a text.
use Rattle.std.specs.Prelude.{ℕ, List, take, drop, Option, Some, None}
use Rattle.ps_base.specs.declared.trap.Trap.TheVariants.{Substring}
use Rattle.heap_texts.specs.ps_heap.Texts.{Attempt, Yields, Fails}
use Rattle.text_ops.specs.declared.span.Span.{Span}

-- the part of a text that lies there, or none
abbrev pub part_in : List ℕ → Option Span → Attempt (List ℕ)
part_in text None = Fails Substring
part_in text (Some span) = Yields (take span.count (drop span.before text))
