-- What a clause is, where its form matters to the clause around it.
use Rattle.std.specs.Prelude.{List, Option, Some, None}
use Rattle.ps_base.specs.TyView.{TyView}
use Rattle.ps_base.specs.declared.line.Line.{Line}
use Rattle.ps_tree.specs.Phrase.{GroupAt, Phrase, at}
use Rattle.ps_tree.specs.Phrase as form

-- a procedure literal: its parameters, the type of its result, its clause, and its line
pub record LiteralAt : Type 0 where
  pub params : List GroupAt
  pub gives : TyView
  pub s : Phrase
  pub line : Line

abbrev pub literal_in : Phrase → Option LiteralAt
literal_in (at (form.Proc params gives s) line) = Some (record { params = params; gives = gives; s = s; line = line })
literal_in _ = None
