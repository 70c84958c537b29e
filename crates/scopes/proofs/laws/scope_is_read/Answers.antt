use Rattle.closures.specs.text_forms.Forms.{forms_of, rows_of}
use Rattle.scopes.proofs.ReadLaws.{scope-sound, scope-text, scope-parent, scope-way, keeps-first}
use Rattle.scopes.proofs.laws.scope_is_read.Goals as goal

pub returns-clause-shape : goal.returns-clause-shape
returns-clause-shape c = λ old new at names parent text h made. scope-sound old new at names parent (rows_of (forms_of text)) h made

pub returns-clause-text : goal.returns-clause-text
returns-clause-text c = λ old new at names parent text made held. scope-text old new at names parent (rows_of (forms_of text)) made held

pub returns-clause-parent : goal.returns-clause-parent
returns-clause-parent c = λ old new at names parent text made held. scope-parent old new at names parent (rows_of (forms_of text)) made held

pub returns-clause-way : goal.returns-clause-way
returns-clause-way c = λ old new at names parent text h made. scope-way old new at names parent (rows_of (forms_of text)) h made

pub returns-clause-values : goal.returns-clause-values
returns-clause-values c =
    λ old new at names name parent text located made is. keeps-first old new at names located.place.index parent (rows_of (forms_of text))
    located.place.form made
