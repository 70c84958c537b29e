use Rattle.std.proofs.Common.{List, true, false, Some, refl, sym, ap, ◌∙◌, arith}
use Rattle.ps_base.specs.TyView.{TyView}
use Rattle.ps_base.specs.declared.line.Line.{Line}
use Rattle.ps_tree.specs.ps_symbols.declared.kind.Kind.TheVariants as kind
use Rattle.ps_tree.specs.Phrase.{Phrase, NameAt, GroupAt, Arm, no_arms, none, more, WriteItem, phrase_of}
use Rattle.ps_tree.specs.Phrase as form
use Rattle.ps_tree.specs.Composing.{and_item}
use Rattle.ps_reader.specs.Grammar.{Rule, a_clause, an_item, the_clause, the_item, Give, Go, Then, Binding, Literal, Step, Cases, MoreElements, MoreWritten, Written, MoreItems, MoreChain, Items, a_clause_inside, opened, skip, give, clause_of, with_clause, line_at}
use Rattle.ps_reader.specs.inside.Stopping.{HaltsWith}
use Rattle.ps_reader.proofs.Steps.{on, nearer, took, missing, by_row, behind_first, began, otherwise, unmoved, same, failed, tail, built, took_name}
use Rattle.ps_reader.proofs.Rows.{opens, goes_as, goes_by, halts_by}
use Rattle.ps_clauses.proofs.Rows.{items_other, item_other, choice_other, cases_other, width_other, written_other, assignment_other, relative_other, applied_other, arguments_other, second_argument_other, clause_opens, item_stands, primary_as, operated, not_operated, compares_there, is_there, not_related, no_sign, passed, labels_list, arguments_list, elements_list, between_optional, step_optional, binds, binds_not, phrases_begin, phrases_again, phrases_first, arms_begin, arms_again, items_begin, written_again}
use Rattle.ps_clauses.proofs.+parsing.Goals as goal

-- what stands after the name of a `let`, of a procedure and of a `for`
abbrev let_name : Line → NameAt → Rule
let_name line name = Go (Binding line name)

abbrev procedure_name : Line → NameAt → Rule
procedure_name line name = clause_of (Go (Literal line)) (λ e. give (form.Let name false e) line)

abbrev for_name : Line → NameAt → Rule
for_name line name = skip kind.Equals (with_clause (λ a. skip kind.To (with_clause (λ b. Go (Step line name a b)))))

-- what stands after the parameters and the result of a procedure
abbrev procedure_body : Line → List GroupAt → TyView → Rule
procedure_body line params gives = skip kind.Semicolon (with_clause (λ s. give (form.Proc params gives s) line))

-- what stands after the type of the elements of a vector
abbrev each_type : Line → Phrase → TyView → Rule
each_type line l t = skip kind.OpenSquare (with_clause (λ first. Go (MoreElements line l t (more first none))))

pub cases::choosing-returns-in_err-word : goal.cases::choosing-returns-in_err-word
cases::choosing-returns-in_err-word t c = failed _ _ c.from_residual.ensures.1 (c.in_err-word.ensures _)

pub cases::choosing-returns-in_err-take : goal.cases::choosing-returns-in_err-take
cases::choosing-returns-in_err-take t c =
    failed _ _ c.from_residual-in_err-take.ensures.1 ((c.in_ok-word.ensures _).halts _ (missing c.in_err-take.ensures))

pub cases::choosing-loop-at-init : goal.cases::choosing-loop-at-init
cases::choosing-loop-at-init t c =
    on (c.in_ok-word.ensures _) (on (took c.in_ok-take.ensures) (arms_begin (λ all. Go (Cases (line_at c.in_ok-word.word) (phrase_of c.in_ok-word.e)
    all)) c.new-arms.ensures.items))

pub cases::choosing-returns-in_err-d : goal.cases::choosing-returns-in_err-d
cases::choosing-returns-in_err-d t c =
    failed _ _ c.from_residual-in_err-d.ensures.1 ((on c.loop-at.invariant (began c.in-Some.ensures refl)).halts _ (c.in_err-d.ensures _))

pub cases::choosing-returns-in-Some : goal.cases::choosing-returns-in-Some
cases::choosing-returns-in-Some t c =
    built _ c.case_of.ensures.made c.case_of.ensures.fault (on c.loop-at.invariant (on (began c.in-Some.ensures refl) (c.in_ok-d.ensures _)))

pub cases::choosing-returns-in_err-first : goal.cases::choosing-returns-in_err-first
cases::choosing-returns-in_err-first t c =
    failed _ _ c.from_residual-in_err-first.ensures.1 ((on c.loop-at.invariant (otherwise c.in_default.ensures refl (λ k not. ap Some (cases_other _ _
    _ k not)))).halts _ (HaltsWith.in_first c.in_err-first.ensures))

pub cases::choosing-returns-in_err-labels : goal.cases::choosing-returns-in_err-labels
cases::choosing-returns-in_err-labels t c =
    failed _ _ c.from_residual-in_err-labels.ensures.1 ((on c.loop-at.invariant (on (otherwise c.in_default.ensures refl (λ k not. ap Some
    (cases_other _ _ _ k not))) (behind_first c.in_ok-first.ensures))).halts _ (c.in_err-labels.ensures _ _ labels_list))

pub cases::choosing-returns-in_err-a : goal.cases::choosing-returns-in_err-a
cases::choosing-returns-in_err-a t c =
    failed _ _ c.from_residual-in_err-a.ensures.1 ((on c.loop-at.invariant (on (otherwise c.in_default.ensures refl (λ k not. ap Some (cases_other _ _
    _ k not))) (on (behind_first c.in_ok-first.ensures) (c.in_ok-labels.ensures _ _ labels_list)))).halts _ (c.in_err-a.ensures _))

pub cases::choosing-returns-in_err-take-2 : goal.cases::choosing-returns-in_err-take-2
cases::choosing-returns-in_err-take-2 t c =
    failed _ _ c.from_residual-in_err-take-2.ensures.1 ((on c.loop-at.invariant (on (otherwise c.in_default.ensures refl (λ k not. ap Some
    (cases_other _ _ _ k not))) (on (behind_first c.in_ok-first.ensures) (on (c.in_ok-labels.ensures _ _ labels_list) (c.in_ok-a.ensures _))))).halts
    _ (missing c.in_err-take-2.ensures))

pub cases::choosing-loop-at-preserved : goal.cases::choosing-loop-at-preserved
cases::choosing-loop-at-preserved t c =
    on c.loop-at.invariant (on (otherwise c.in_default.ensures refl (λ k not. ap Some (cases_other _ _ _ k not))) (on (behind_first
    c.in_ok-first.ensures) (on (c.in_ok-labels.ensures _ _ labels_list) (on (c.in_ok-a.ensures _) (on (took c.in_ok-take-2.ensures) (arms_again (λ
    all. Go (Cases (line_at c.in_ok-word.word) (phrase_of c.in_ok-word.e) all)) _ _ c.arm_of.ensures c.in_ok-push.ensures.items))))))

pub cases::choosing-loop-at-smaller : goal.cases::choosing-loop-at-smaller
cases::choosing-loop-at-smaller t c =
    nearer c.in_ok-take-2.ensures (omega (
      arith,
      c.in_default.ensures.stays,
      c.in_ok-first.ensures.forward,
      (c.in_ok-labels.ensures _ _ (labels_list
          {line = c.in_ok-first.first.line} {e = phrase_of c.in_ok-first.first} {before = no_arms})).forward,
      (c.in_ok-a.ensures (λ symbol made. Go
          Written)).forward,
    )) (omega arith)

pub clauses::after-returns-in_err-symbol : goal.clauses::after-returns-in_err-symbol
clauses::after-returns-in_err-symbol t c = λ next. failed _ _ c.from_residual.ensures.1 (missing c.in_err-symbol.ensures)

pub clauses::after-returns-in_err-e : goal.clauses::after-returns-in_err-e
clauses::after-returns-in_err-e t c =
    λ next. failed _ _ c.from_residual-in_err-e.ensures.1 (((took c.in_ok-symbol.ensures)).halts _ (HaltsWith.in_first c.in_err-e.ensures))

pub clauses::after-returns : goal.clauses::after-returns
clauses::after-returns t c = λ next. on (took c.in_ok-symbol.ensures) (behind_first c.in_ok-e.ensures)

pub clauses::clause-returns : goal.clauses::clause-returns
clauses::clause-returns t c =
    opens c.args.reader.now.text.now c.args.reader.now.tokens c.args.reader.now.symbols.now (λ made. a_clause
    (phrase_of made)) _ c.args.room _ _ _ a_clause_inside (opened c.args.reader.now.text.now c.in-Some.opening) c.opened.ensures (omega
    (arith, c.if-room-eq0.false))
    (clause_opens c.args.reader.now.text.now c.args.reader.now.symbols.now _ c.kind_at.ensures c.opening_of.ensures c.in-Some.is)

pub clauses::expression-returns-in_err-left : goal.clauses::expression-returns-in_err-left
clauses::expression-returns-in_err-left t c = failed _ _ c.from_residual.ensures.1 (HaltsWith.in_first c.in_err-left.ensures)

pub clauses::expression-returns-in_default : goal.clauses::expression-returns-in_default
clauses::expression-returns-in_default t c =
    on (behind_first c.in_ok-left.ensures) (otherwise c.in_default.ensures refl (λ k not. ap Some (assignment_other _ k not)))

pub clauses::expression-returns-in_err-e : goal.clauses::expression-returns-in_err-e
clauses::expression-returns-in_err-e t c =
    failed _ _ c.from_residual-in_err-e.ensures.1 ((on (behind_first c.in_ok-left.ensures) (began c.in-Some.ensures refl)).halts _
    (HaltsWith.in_first c.in_err-e.ensures))

pub clauses::expression-returns : goal.clauses::expression-returns
clauses::expression-returns t c =
    built _ c.assign.ensures.made c.assign.ensures.fault (on (behind_first c.in_ok-left.ensures) (on (began c.in-Some.ensures refl)
    (behind_first c.in_ok-e.ensures)))

pub clauses::filling-returns-in_err-word : goal.clauses::filling-returns-in_err-word
clauses::filling-returns-in_err-word t c = failed _ _ c.from_residual.ensures.1 (c.in_err-word.ensures _)

pub clauses::filling-returns-in_err-u : goal.clauses::filling-returns-in_err-u
clauses::filling-returns-in_err-u t c = failed _ _ c.from_residual-in_err-u.ensures.1 (((c.in_ok-word.ensures _)).halts _ (c.in_err-u.ensures _))

pub clauses::filling-returns-in_err-e : goal.clauses::filling-returns-in_err-e
clauses::filling-returns-in_err-e t c =
    failed _ _ c.from_residual-in_err-e.ensures.1 ((on (c.in_ok-word.ensures _) (c.in_ok-u.ensures _)).halts _ (c.in_err-e.ensures _))

pub clauses::filling-returns : goal.clauses::filling-returns
clauses::filling-returns t c =
    built _ c.vector_of.ensures.made c.vector_of.ensures.fault (on (c.in_ok-word.ensures _) (on (c.in_ok-u.ensures _) (c.in_ok-e.ensures _)))

pub clauses::more_clauses-loop-at-init : goal.clauses::more_clauses-loop-at-init
clauses::more_clauses-loop-at-init t c =
    λ part rest list. phrases_first (λ all. Go (part all)) _ _ c.in_ok-clauses.ensures.items c.in_ok-push.ensures.items

pub clauses::more_clauses-returns-in_err-e : goal.clauses::more_clauses-returns-in_err-e
clauses::more_clauses-returns-in_err-e t c =
    λ part rest list. failed _ _ c.from_residual-in_err-e.ensures.1 ((on (c.loop-at.invariant part rest list) (began c.in-Some.ensures
    (list.comma _))).halts _ (HaltsWith.in_first c.in_err-e.ensures))

pub clauses::more_clauses-loop-at-smaller : goal.clauses::more_clauses-loop-at-smaller
clauses::more_clauses-loop-at-smaller t c = nearer c.in-Some.ensures (omega arith) c.in_ok-e.ensures.forward

pub clauses::more_clauses-loop-at-preserved : goal.clauses::more_clauses-loop-at-preserved
clauses::more_clauses-loop-at-preserved t c =
    λ part rest list. on (c.loop-at.invariant part rest list) (on (began c.in-Some.ensures (list.comma _)) (on (behind_first c.in_ok-e.ensures)
    (phrases_again (λ all. Go (part all)) _ _ c.in_ok-push-2.ensures.items)))

pub clauses::more_clauses-returns : goal.clauses::more_clauses-returns
clauses::more_clauses-returns t c =
    λ part rest list. on (c.loop-at.invariant part rest list) (otherwise c.in_default.ensures refl (λ k not. list.other _ k not))

pub clauses::optional-returns-in_default : goal.clauses::optional-returns-in_default
clauses::optional-returns-in_default t c = λ part next is. otherwise c.in_default.ensures is.symbol is.other

pub clauses::optional-returns-in_err-e : goal.clauses::optional-returns-in_err-e
clauses::optional-returns-in_err-e t c =
    λ part next is. failed _ _ c.from_residual.ensures.1 (((began c.in-Some.ensures is.there)).halts _ (HaltsWith.in_first c.in_err-e.ensures))

pub clauses::optional-returns : goal.clauses::optional-returns
clauses::optional-returns t c = λ part next is. on (began c.in-Some.ensures is.there) (behind_first c.in_ok-e.ensures)

pub clauses::procedure-returns-in_err-word : goal.clauses::procedure-returns-in_err-word
clauses::procedure-returns-in_err-word t c = failed _ _ c.from_residual.ensures.1 (missing c.in_err-word.ensures)

pub clauses::procedure-returns : goal.clauses::procedure-returns
clauses::procedure-returns t c = tail _ _ _ c.literal.ensures ((took c.in_ok-word.ensures))

pub clauses::condition-returns-in_err-word : goal.clauses::condition-returns-in_err-word
clauses::condition-returns-in_err-word t c = failed _ _ c.from_residual.ensures.1 (c.in_err-word.ensures _)

pub clauses::condition-returns-in_err-a-in-Do : goal.clauses::condition-returns-in_err-a-in-Do
clauses::condition-returns-in_err-a-in-Do t c =
    failed _ _ c.from_residual-in_err-a-in-Do.ensures.1 ((on (c.in_ok-word.ensures _) (goes_as c.kind_at.ensures c.in-Do.is refl)).halts _
    (c.in_err-a-in-Do.ensures _))

pub clauses::condition-returns-in_err-a-in-Then : goal.clauses::condition-returns-in_err-a-in-Then
clauses::condition-returns-in_err-a-in-Then t c =
    failed _ _ c.from_residual-in_err-a-in-Then.ensures.1 ((on (c.in_ok-word.ensures _) (goes_as c.kind_at.ensures c.in-Then.is refl)).halts _
    (c.in_err-a-in-Then.ensures _))

pub clauses::condition-returns-in_err-b-in-Then : goal.clauses::condition-returns-in_err-b-in-Then
clauses::condition-returns-in_err-b-in-Then t c =
    failed _ _ c.from_residual-in_err-b-in-Then.ensures.1 ((on (c.in_ok-word.ensures _) (on (goes_as c.kind_at.ensures c.in-Then.is refl)
    (c.in_ok-a-in-Then.ensures _))).halts _ (c.in_err-b-in-Then.ensures _))

pub clauses::condition-returns-in_ok-a-in-Do : goal.clauses::condition-returns-in_ok-a-in-Do
clauses::condition-returns-in_ok-a-in-Do t c =
    built _ c.if_do.ensures.made c.if_do.ensures.fault (on (c.in_ok-word.ensures _) (on (goes_as c.kind_at.ensures c.in-Do.is refl)
    (c.in_ok-a-in-Do.ensures _)))

pub clauses::condition-returns-in_ok-b-in-Then : goal.clauses::condition-returns-in_ok-b-in-Then
clauses::condition-returns-in_ok-b-in-Then t c =
    built _ c.if_else.ensures.made c.if_else.ensures.fault (on (c.in_ok-word.ensures _) (on (goes_as c.kind_at.ensures c.in-Then.is refl) (on
    (c.in_ok-a-in-Then.ensures _) (c.in_ok-b-in-Then.ensures _))))

pub clauses::condition-returns-in_default : goal.clauses::condition-returns-in_default
clauses::condition-returns-in_default t c =
    (c.in_ok-word.ensures _).halts _ (halts_by c.kind_at.ensures (choice_other _ _ _ c.in_default.not-Do c.in_default.not-Then) c.unexpected.ensures)

pub items::items-loop-items-init : goal.items::items-loop-items-init
items::items-loop-items-init t c = phrases_begin (λ all. Go (Items c.args.line all)) c.new-items.ensures.items

pub items::items-returns-in_err-optional_item : goal.items::items-returns-in_err-optional_item
items::items-returns-in_err-optional_item t c = failed _ _ c.from_residual.ensures.1 (c.loop-items.invariant.halts _ c.in_err-optional_item.ensures)

pub items::items-returns-in_default : goal.items::items-returns-in_default
items::items-returns-in_default t c =
    built _ c.sequence.ensures.made c.sequence.ensures.fault (on c.loop-items.invariant (on c.in_ok-optional_item.ensures
    (otherwise c.in_default.ensures refl (λ k not. ap Some (items_other _ _ k not)))))

pub items::items-loop-items-preserved : goal.items::items-loop-items-preserved
items::items-loop-items-preserved t c = on c.loop-items.invariant (on c.in_ok-optional_item.ensures (began c.in-Some.ensures refl))

pub items::items-loop-items-smaller : goal.items::items-loop-items-smaller
items::items-loop-items-smaller t c = nearer c.in-Some.ensures c.in_ok-optional_item.ensures.forward (omega arith)

pub items::optional_item-returns-in_err-one : goal.items::optional_item-returns-in_err-one
items::optional_item-returns-in_err-one t c =
    failed _ _ c.from_residual.ensures.1 (((item_stands c.kind_at.ensures true (sym c.if-begins_item.true ∙ c.begins_item.ensures))).halts _
    (HaltsWith.in_first c.in_err-one.ensures))

pub items::optional_item-returns-in_ok-push : goal.items::optional_item-returns-in_ok-push
items::optional_item-returns-in_ok-push t c =
    on (item_stands c.kind_at.ensures true (sym c.if-begins_item.true ∙ c.begins_item.ensures)) (on (behind_first c.in_ok-one.ensures) (phrases_again
    (λ all. Go (MoreItems c.args.line all)) _ _ c.in_ok-push.ensures.items))

pub items::optional_item-returns-else-begins_item : goal.items::optional_item-returns-else-begins_item
items::optional_item-returns-else-begins_item t c = item_stands c.kind_at.ensures false (sym c.if-begins_item.false ∙ c.begins_item.ensures)

pub items::item-returns-in-Let : goal.items::item-returns-in-Let
items::item-returns-in-Let t c = tail _ _ _ c.let_item.ensures ((goes_as c.kind_at.ensures c.in-Let.is refl))

pub items::item-returns-in-Structure : goal.items::item-returns-in-Structure
items::item-returns-in-Structure t c = tail _ _ _ c.structure_item.ensures ((goes_as c.kind_at.ensures c.in-Structure.is refl))

pub items::item-returns-in_default : goal.items::item-returns-in_default
items::item-returns-in_default t c =
    tail _ _ _ c.clause.ensures ((goes_by c.kind_at.ensures (ap Some
    (item_other _ _ c.in_default.not-Let c.in_default.not-Structure c.in_default.not-Procedure))))

pub items::item-returns-in_err-line-in-Procedure : goal.items::item-returns-in_err-line-in-Procedure
items::item-returns-in_err-line-in-Procedure t c =
    failed _ _ c.from_residual.ensures.1 ((goes_as c.kind_at.ensures c.in-Procedure.is refl).halts _ (c.in_err-line-in-Procedure.ensures c.args.room
    procedure_name))

pub items::item-returns-in_err-e-in-Procedure : goal.items::item-returns-in_err-e-in-Procedure
items::item-returns-in_err-e-in-Procedure t c =
    failed _ _ c.from_residual-in_err-e-in-Procedure.ensures.1 ((on (goes_as c.kind_at.ensures c.in-Procedure.is refl)
    (c.in_ok-line-in-Procedure.ensures c.args.room procedure_name)).halts _ (HaltsWith.in_first c.in_err-e-in-Procedure.ensures))

pub items::item-returns-in_ok-e-in-Procedure : goal.items::item-returns-in_ok-e-in-Procedure
items::item-returns-in_ok-e-in-Procedure t c =
    built _ c.let_of.ensures.made c.let_of.ensures.fault (on (goes_as c.kind_at.ensures c.in-Procedure.is refl) (on (c.in_ok-line-in-Procedure.ensures
    c.args.room procedure_name) (behind_first c.in_ok-e-in-Procedure.ensures)))

pub items::literal-returns-in_err-params : goal.items::literal-returns-in_err-params
items::literal-returns-in_err-params t c =
    failed _ _ c.from_residual.ensures.1 (HaltsWith.in_part refl (c.in_err-params.ensures (procedure_body c.args.line)))

pub items::literal-returns-in_err-s : goal.items::literal-returns-in_err-s
items::literal-returns-in_err-s t c =
    failed _ _ c.from_residual-in_err-s.ensures.1 ((on (by_row refl) (c.in_ok-params.ensures (procedure_body c.args.line))).halts _
    (c.in_err-s.ensures _))

pub items::literal-returns : goal.items::literal-returns
items::literal-returns t c =
    built _ c.proc_of.ensures.made c.proc_of.ensures.fault (on (by_row refl) (on (c.in_ok-params.ensures (procedure_body c.args.line))
    (c.in_ok-s.ensures _)))

pub items::let_item-returns-in_err-line : goal.items::let_item-returns-in_err-line
items::let_item-returns-in_err-line t c = failed _ _ c.from_residual.ensures.1 (c.in_err-line.ensures c.args.room let_name)

pub items::let_item-returns-in_default : goal.items::let_item-returns-in_default
items::let_item-returns-in_default t c =
    (c.in_ok-line.ensures c.args.room let_name).halts _ (binds_not c.kind_at-mark.ensures c.makes_variable.ensures c.in_default.is
    c.unexpected.ensures)

pub items::let_item-returns-in_err-e : goal.items::let_item-returns-in_err-e
items::let_item-returns-in_err-e t c =
    failed _ _ c.from_residual-in_err-e.ensures.1 ((on (c.in_ok-line.ensures c.args.room let_name) (binds c.kind_at-mark.ensures
    c.makes_variable.ensures c.in-Some.is)).halts _ (c.in_err-e.ensures _))

pub items::let_item-returns : goal.items::let_item-returns
items::let_item-returns t c =
    built _ c.let_of.ensures.made c.let_of.ensures.fault (on (c.in_ok-line.ensures c.args.room let_name) (on (binds c.kind_at-mark.ensures
    c.makes_variable.ensures c.in-Some.is) (c.in_ok-e.ensures _)))

pub loops::counting-returns-in_err-line : goal.loops::counting-returns-in_err-line
loops::counting-returns-in_err-line t c = failed _ _ c.from_residual.ensures.1 (c.in_err-line.ensures c.args.room for_name)

pub loops::counting-returns-in_err-a : goal.loops::counting-returns-in_err-a
loops::counting-returns-in_err-a t c =
    failed _ _ c.from_residual-in_err-a.ensures.1 (((c.in_ok-line.ensures c.args.room for_name)).halts _ (c.in_err-a.ensures _))

pub loops::counting-returns-in_err-b : goal.loops::counting-returns-in_err-b
loops::counting-returns-in_err-b t c =
    failed _ _ c.from_residual-in_err-b.ensures.1 ((on (c.in_ok-line.ensures c.args.room for_name) (c.in_ok-a.ensures _)).halts _ (c.in_err-b.ensures
    _))

pub loops::counting-returns-in_err-c : goal.loops::counting-returns-in_err-c
loops::counting-returns-in_err-c t c =
    failed _ _ c.from_residual-in_err-c.ensures.1 ((on (c.in_ok-line.ensures c.args.room for_name) (on (c.in_ok-a.ensures _)
    (c.in_ok-b.ensures _))).halts _ (c.in_err-c.ensures _ _ step_optional))

pub loops::counting-returns-in_err-s : goal.loops::counting-returns-in_err-s
loops::counting-returns-in_err-s t c =
    failed _ _ c.from_residual-in_err-s.ensures.1 ((on (c.in_ok-line.ensures c.args.room for_name) (on (c.in_ok-a.ensures _) (on (c.in_ok-b.ensures _)
    (on (c.in_ok-c.ensures _ _ step_optional) (by_row refl))))).halts _ (c.in_err-s.ensures _))

pub loops::counting-returns : goal.loops::counting-returns
loops::counting-returns t c =
    built _ c.for_of.ensures.made c.for_of.ensures.fault (on (c.in_ok-line.ensures c.args.room for_name) (on (c.in_ok-a.ensures _) (on
    (c.in_ok-b.ensures _) (on (c.in_ok-c.ensures _ _ step_optional) (on (by_row refl) (c.in_ok-s.ensures _))))))

pub loops::repeating-returns-in_err-word : goal.loops::repeating-returns-in_err-word
loops::repeating-returns-in_err-word t c = failed _ _ c.from_residual.ensures.1 (c.in_err-word.ensures _)

pub loops::repeating-returns-in_err-c : goal.loops::repeating-returns-in_err-c
loops::repeating-returns-in_err-c t c =
    failed _ _ c.from_residual-in_err-c.ensures.1 ((on (c.in_ok-word.ensures _) (on (passed c.args.reader.now _ c.accept.ensures) (by_row
    refl))).halts _ (c.in_err-c.ensures _))

pub loops::repeating-returns-in_err-b : goal.loops::repeating-returns-in_err-b
loops::repeating-returns-in_err-b t c =
    failed _ _ c.from_residual-in_err-b.ensures.1 ((on (c.in_ok-word.ensures _) (on (passed c.args.reader.now _ c.accept.ensures) (on (by_row refl)
    (c.in_ok-c.ensures _)))).halts _ (c.in_err-b.ensures _ _ between_optional))

pub loops::repeating-returns : goal.loops::repeating-returns
loops::repeating-returns t c =
    built _ c.repeat_of.ensures.made c.repeat_of.ensures.fault (on (c.in_ok-word.ensures _) (on (passed c.args.reader.now _ c.accept.ensures) (on
    (by_row refl) (on (c.in_ok-c.ensures _) (c.in_ok-b.ensures _ _ between_optional)))))

pub loops::repetition-returns-in_err-word : goal.loops::repetition-returns-in_err-word
loops::repetition-returns-in_err-word t c = failed _ _ c.from_residual.ensures.1 (c.in_err-word.ensures _)

pub loops::repetition-returns-in_err-a : goal.loops::repetition-returns-in_err-a
loops::repetition-returns-in_err-a t c = failed _ _ c.from_residual-in_err-a.ensures.1 (((c.in_ok-word.ensures _)).halts _ (c.in_err-a.ensures _))

pub loops::repetition-returns : goal.loops::repetition-returns
loops::repetition-returns t c = built _ c.while_of.ensures.made c.while_of.ensures.fault (on (c.in_ok-word.ensures _) (c.in_ok-a.ensures _))

pub operators::chain-returns-in_err-left : goal.operators::chain-returns-in_err-left
operators::chain-returns-in_err-left t c = failed _ _ c.from_residual.ensures.1 ((by_row refl).halts _ (HaltsWith.in_first c.in_err-left.ensures))

pub operators::chain-loop-operation-init : goal.operators::chain-loop-operation-init
operators::chain-loop-operation-init t c = on (by_row refl) (behind_first c.in_ok-left.ensures)

pub operators::chain-returns-in_err-right : goal.operators::chain-returns-in_err-right
operators::chain-returns-in_err-right t c =
    failed _ _ c.from_residual-in_err-right.ensures.1 ((on c.loop-operation.invariant (operated c.in-Some.ensures)).halts _
    (HaltsWith.in_first c.in_err-right.ensures))

pub operators::chain-loop-operation-smaller : goal.operators::chain-loop-operation-smaller
operators::chain-loop-operation-smaller t c = nearer c.in-Some.ensures.taken (omega arith) c.in_ok-right.ensures.forward

pub operators::chain-loop-operation-preserved : goal.operators::chain-loop-operation-preserved
operators::chain-loop-operation-preserved t c =
    on c.loop-operation.invariant (on (operated c.in-Some.ensures) (on (behind_first c.in_ok-right.ensures) (same (ap (λ (left : Phrase). Go
    (MoreChain c.args.level left)) (sym c.in_ok-left-2.ensures.made)))))

pub operators::chain-returns : goal.operators::chain-returns
operators::chain-returns t c = on c.loop-operation.invariant (not_operated c.in_default.ensures)

pub operators::compared-returns-in_err-left : goal.operators::compared-returns-in_err-left
operators::compared-returns-in_err-left t c = failed _ _ c.from_residual.ensures.1 ((by_row refl).halts _ (HaltsWith.in_first c.in_err-left.ensures))

pub operators::compared-returns-in_default : goal.operators::compared-returns-in_default
operators::compared-returns-in_default t c = on (by_row refl) (on (behind_first c.in_ok-left.ensures) (not_related c.in_default.ensures))

pub operators::compared-returns-in_ok-right-in-Compares : goal.operators::compared-returns-in_ok-right-in-Compares
operators::compared-returns-in_ok-right-in-Compares t c =
    built _ c.compare.ensures.made c.compare.ensures.fault (on (on (by_row refl) (on (behind_first c.in_ok-left.ensures) (compares_there
    c.in-Some.ensures c.in-Compares.is))) (behind_first c.in_ok-right-in-Compares.ensures))

pub operators::compared-returns-in_err-right-in-Compares : goal.operators::compared-returns-in_err-right-in-Compares
operators::compared-returns-in_err-right-in-Compares t c =
    failed _ _ c.from_residual-in_err-right-in-Compares.ensures.1 ((on (by_row refl) (on (behind_first c.in_ok-left.ensures) (compares_there
    c.in-Some.ensures c.in-Compares.is))).halts _ (HaltsWith.in_first c.in_err-right-in-Compares.ensures))

pub operators::compared-returns-in_err-class-in-IsOf : goal.operators::compared-returns-in_err-class-in-IsOf
operators::compared-returns-in_err-class-in-IsOf t c =
    failed _ _ c.from_residual-in_err-class-in-IsOf.ensures.1 ((on (by_row refl) (on (behind_first c.in_ok-left.ensures) (is_there c.in-Some.ensures
    c.in-IsOf.is))).halts _ (c.in_err-class-in-IsOf.ensures _ _))

pub operators::compared-returns-in_ok-class-in-IsOf : goal.operators::compared-returns-in_ok-class-in-IsOf
operators::compared-returns-in_ok-class-in-IsOf t c =
    built _ c.is_of.ensures.made c.is_of.ensures.fault (on (on (by_row refl) (on (behind_first c.in_ok-left.ensures) (is_there c.in-Some.ensures
    c.in-IsOf.is))) (took_name (λ name. give (form.Is (phrase_of c.in_ok-left.left) name c.in-IsOf.negated) (line_at c.in-Some.sign))
    c.in_ok-class-in-IsOf.ensures))

pub operators::factor-returns-in_err-e : goal.operators::factor-returns-in_err-e
operators::factor-returns-in_err-e t c =
    failed _ _ c.from_residual.ensures.1 (((began c.in-Some.ensures refl)).halts _ (HaltsWith.in_first c.in_err-e.ensures))

pub operators::factor-returns-in-Some : goal.operators::factor-returns-in-Some
operators::factor-returns-in-Some t c =
    built _ c.plus.ensures.made c.plus.ensures.fault (on (began c.in-Some.ensures refl) (behind_first c.in_ok-e.ensures))

pub operators::factor-returns-in_err-e-2 : goal.operators::factor-returns-in_err-e-2
operators::factor-returns-in_err-e-2 t c =
    failed _ _ c.from_residual-in_err-e-2.ensures.1 ((on (unmoved c.in_default.ensures) (began c.in-Some-accept.ensures refl)).halts _
    (HaltsWith.in_first c.in_err-e-2.ensures))

pub operators::factor-returns-in-Some-accept : goal.operators::factor-returns-in-Some-accept
operators::factor-returns-in-Some-accept t c =
    built _ c.negation.ensures.made c.negation.ensures.fault (on (unmoved c.in_default.ensures) (on (began c.in-Some-accept.ensures refl)
    (behind_first c.in_ok-e-2.ensures)))

pub operators::factor-returns : goal.operators::factor-returns
operators::factor-returns t c = tail _ _ _ c.application-2.ensures ((no_sign c.in_default.ensures c.in_default-accept.ensures))

pub operators::relative-returns-in_default : goal.operators::relative-returns-in_default
operators::relative-returns-in_default t c =
    tail _ _ _ c.compared.ensures ((otherwise c.in_default.ensures refl (λ k not. ap Some (relative_other k not))))

pub operators::relative-returns-in_err-e : goal.operators::relative-returns-in_err-e
operators::relative-returns-in_err-e t c =
    failed _ _ c.from_residual.ensures.1 (((began c.in-Some.ensures refl)).halts _ (HaltsWith.in_first c.in_err-e.ensures))

pub operators::relative-returns : goal.operators::relative-returns
operators::relative-returns t c = built _ c.not.ensures.made c.not.ensures.fault (on (began c.in-Some.ensures refl) (behind_first c.in_ok-e.ensures))

pub primaries::application-returns-in_err-made : goal.primaries::application-returns-in_err-made
primaries::application-returns-in_err-made t c =
    failed _ _ c.from_residual.ensures.1 ((by_row refl).halts _ (HaltsWith.in_first c.in_err-made.ensures))

pub primaries::application-loop-mark-init : goal.primaries::application-loop-mark-init
primaries::application-loop-mark-init t c = on (by_row refl) (behind_first c.in_ok-made.ensures)

pub primaries::application-loop-mark-smaller : goal.primaries::application-loop-mark-smaller
primaries::application-loop-mark-smaller t c = nearer c.in-Some.ensures (omega arith) c.in_ok-made-2.ensures.forward

pub primaries::application-loop-mark-preserved : goal.primaries::application-loop-mark-preserved
primaries::application-loop-mark-preserved t c = on c.loop-mark.invariant (on (began c.in-Some.ensures refl) (behind_first c.in_ok-made-2.ensures))

pub primaries::application-returns-in_err-made-2 : goal.primaries::application-returns-in_err-made-2
primaries::application-returns-in_err-made-2 t c =
    failed _ _ c.from_residual-in_err-made-2.ensures.1 ((on c.loop-mark.invariant (began c.in-Some.ensures refl)).halts _
    (HaltsWith.in_first c.in_err-made-2.ensures))

pub primaries::application-returns : goal.primaries::application-returns
primaries::application-returns t c = on c.loop-mark.invariant (otherwise c.in_default.ensures refl (λ k not. ap Some (applied_other _ k not)))

pub primaries::primary-returns-in-Name : goal.primaries::primary-returns-in-Name
primaries::primary-returns-in-Name t c =
    tail _ _ _ c.name_leaf.ensures ((primary_as c.kind_at-kind.ensures c.start_of.ensures (c.in-Some.is ∙ ap Some c.in-Name.is)))

pub primaries::primary-returns-in-Int : goal.primaries::primary-returns-in-Int
primaries::primary-returns-in-Int t c =
    tail _ _ _ c.int_leaf.ensures ((primary_as c.kind_at-kind.ensures c.start_of.ensures (c.in-Some.is ∙ ap Some c.in-Int.is)))

pub primaries::primary-returns-in-Text : goal.primaries::primary-returns-in-Text
primaries::primary-returns-in-Text t c =
    tail _ _ _ c.text_leaf.ensures ((primary_as c.kind_at-kind.ensures c.start_of.ensures (c.in-Some.is ∙ ap Some c.in-Text.is)))

pub primaries::primary-returns-in-Flag : goal.primaries::primary-returns-in-Flag
primaries::primary-returns-in-Flag t c =
    tail _ _ _ c.flag_leaf.ensures ((primary_as c.kind_at-kind.ensures c.start_of.ensures (c.in-Some.is ∙ ap Some c.in-Flag.is)))

pub primaries::primary-returns-in-Nil : goal.primaries::primary-returns-in-Nil
primaries::primary-returns-in-Nil t c =
    tail _ _ _ c.nil_leaf.ensures ((primary_as c.kind_at-kind.ensures c.start_of.ensures (c.in-Some.is ∙ ap Some c.in-Nil.is)))

pub primaries::primary-returns-in-Block : goal.primaries::primary-returns-in-Block
primaries::primary-returns-in-Block t c =
    tail _ _ _ c.block.ensures ((primary_as c.kind_at-kind.ensures c.start_of.ensures (c.in-Some.is ∙ ap Some c.in-Block.is)))

pub primaries::primary-returns-in-Bound : goal.primaries::primary-returns-in-Bound
primaries::primary-returns-in-Bound t c =
    tail _ _ _ c.bound_of_vector.ensures ((primary_as c.kind_at-kind.ensures c.start_of.ensures (c.in-Some.is ∙ ap Some c.in-Bound.is)))

pub primaries::primary-returns-in-Elements : goal.primaries::primary-returns-in-Elements
primaries::primary-returns-in-Elements t c =
    tail _ _ _ c.elements.ensures ((primary_as c.kind_at-kind.ensures c.start_of.ensures (c.in-Some.is ∙ ap Some c.in-Elements.is)))

pub primaries::primary-returns-in-Round : goal.primaries::primary-returns-in-Round
primaries::primary-returns-in-Round t c =
    tail (λ made. Give (a_clause (phrase_of made))) _ _ (c.bracketed.ensures (λ made. Give (a_clause (the_clause made))))
    (primary_as c.kind_at-kind.ensures c.start_of.ensures (c.in-Some.is ∙ ap Some c.in-Round.is))

pub primaries::bracketed-returns-in_err-e : goal.primaries::bracketed-returns-in_err-e
primaries::bracketed-returns-in_err-e t c = λ next. failed _ _ c.from_residual.ensures.1 (c.in_err-e.ensures _)

pub primaries::bracketed-returns-in_err-take : goal.primaries::bracketed-returns-in_err-take
primaries::bracketed-returns-in_err-take t c =
    λ next. failed _ _ c.from_residual-in_err-take.ensures.1 (((c.in_ok-e.ensures _)).halts _ (missing c.in_err-take.ensures))

pub primaries::bracketed-returns : goal.primaries::bracketed-returns
primaries::bracketed-returns t c = λ next. on (c.in_ok-e.ensures _) (took c.in_ok-take.ensures)

pub primaries::block-returns-in_err-mark : goal.primaries::block-returns-in_err-mark
primaries::block-returns-in_err-mark t c = failed _ _ c.from_residual.ensures.1 (missing c.in_err-mark.ensures)

pub primaries::block-returns-in_err-all : goal.primaries::block-returns-in_err-all
primaries::block-returns-in_err-all t c =
    failed _ _ c.from_residual-in_err-all.ensures.1 (((took c.in_ok-mark.ensures)).halts _ (HaltsWith.in_first c.in_err-all.ensures))

pub primaries::block-returns-in_err-take : goal.primaries::block-returns-in_err-take
primaries::block-returns-in_err-take t c =
    failed _ _ c.from_residual-in_err-take.ensures.1 ((on (took c.in_ok-mark.ensures) (behind_first c.in_ok-all.ensures)).halts _
    (missing c.in_err-take.ensures))

pub primaries::block-returns : goal.primaries::block-returns
primaries::block-returns t c = on (took c.in_ok-mark.ensures) (on (behind_first c.in_ok-all.ensures) (took c.in_ok-take.ensures))

pub primaries::bound_of_vector-returns-in_err-word : goal.primaries::bound_of_vector-returns-in_err-word
primaries::bound_of_vector-returns-in_err-word t c = failed _ _ c.from_residual.ensures.1 (missing c.in_err-word.ensures)

pub primaries::bound_of_vector-returns-in_err-e : goal.primaries::bound_of_vector-returns-in_err-e
primaries::bound_of_vector-returns-in_err-e t c =
    failed _ _ c.from_residual-in_err-e.ensures.1 (((took c.in_ok-word.ensures)).halts _ (c.in_err-e.ensures _))

pub primaries::bound_of_vector-returns : goal.primaries::bound_of_vector-returns
primaries::bound_of_vector-returns t c =
    built _ c.bound_of.ensures.made c.bound_of.ensures.fault (on (took c.in_ok-word.ensures) (c.in_ok-e.ensures _))

pub primaries::elements-returns-in_err-mark : goal.primaries::elements-returns-in_err-mark
primaries::elements-returns-in_err-mark t c = failed _ _ c.from_residual.ensures.1 (c.in_err-mark.ensures _)

pub primaries::elements-returns-in_err-ty : goal.primaries::elements-returns-in_err-ty
primaries::elements-returns-in_err-ty t c =
    failed _ _ c.from_residual-in_err-ty.ensures.1 (((c.in_ok-mark.ensures _)).halts _ (c.in_err-ty.ensures (each_type c.in_ok-mark.mark.token.line
    (phrase_of c.in_ok-mark.l))))

pub primaries::elements-returns-in_err-first : goal.primaries::elements-returns-in_err-first
primaries::elements-returns-in_err-first t c =
    failed _ _ c.from_residual-in_err-first.ensures.1 ((on (c.in_ok-mark.ensures _) (c.in_ok-ty.ensures (each_type c.in_ok-mark.mark.token.line
    (phrase_of c.in_ok-mark.l)))).halts _ (c.in_err-first.ensures _))

pub primaries::elements-returns-in_err-all : goal.primaries::elements-returns-in_err-all
primaries::elements-returns-in_err-all t c =
    failed _ _ c.from_residual-in_err-all.ensures.1 ((on (c.in_ok-mark.ensures _) (on (c.in_ok-ty.ensures (each_type c.in_ok-mark.mark.token.line
    (phrase_of c.in_ok-mark.l))) (c.in_ok-first.ensures _))).halts _ (c.in_err-all.ensures _ _ elements_list))

pub primaries::elements-returns-in_err-take : goal.primaries::elements-returns-in_err-take
primaries::elements-returns-in_err-take t c =
    failed _ _ c.from_residual-in_err-take.ensures.1 ((on (c.in_ok-mark.ensures _) (on (c.in_ok-ty.ensures (each_type c.in_ok-mark.mark.token.line
    (phrase_of c.in_ok-mark.l))) (on (c.in_ok-first.ensures _) (c.in_ok-all.ensures _ _ elements_list)))).halts _ (missing c.in_err-take.ensures))

pub primaries::elements-returns : goal.primaries::elements-returns
primaries::elements-returns t c =
    built _ c.elems.ensures.made c.elems.ensures.fault (on (c.in_ok-mark.ensures _) (on (c.in_ok-ty.ensures (each_type c.in_ok-mark.mark.token.line
    (phrase_of c.in_ok-mark.l))) (on (c.in_ok-first.ensures _) (on (c.in_ok-all.ensures _ _ elements_list) (took c.in_ok-take.ensures)))))

pub primaries::arguments-returns-in-Some : goal.primaries::arguments-returns-in-Some
primaries::arguments-returns-in-Some t c =
    built _ c.apply.ensures.made c.apply.ensures.fault (on (began c.in-Some.ensures refl) (phrases_begin (λ all. give (form.Apply (phrase_of c.args.f)
    all) c.args.line) c.new.ensures.items))

pub primaries::arguments-returns-in_err-first : goal.primaries::arguments-returns-in_err-first
primaries::arguments-returns-in_err-first t c =
    failed _ _ c.from_residual.ensures.1 ((otherwise c.in_default.ensures refl (λ k not. ap Some (arguments_other _ _ k not))).halts _
    (HaltsWith.in_first c.in_err-first.ensures))

pub primaries::arguments-returns-in_err-n : goal.primaries::arguments-returns-in_err-n
primaries::arguments-returns-in_err-n t c =
    failed _ _ c.from_residual-in_err-n.ensures.1 ((on (on (otherwise c.in_default.ensures refl (λ k not. ap Some (arguments_other _ _ k not)))
    (behind_first c.in_ok-first.ensures)) (began c.in-Some-accept.ensures refl)).halts _ (HaltsWith.in_first c.in_err-n.ensures))

pub primaries::arguments-returns-in_err-take : goal.primaries::arguments-returns-in_err-take
primaries::arguments-returns-in_err-take t c =
    failed _ _ c.from_residual-in_err-take.ensures.1 ((on (on (on (otherwise c.in_default.ensures refl (λ k not. ap Some (arguments_other _ _ k not)))
    (behind_first c.in_ok-first.ensures)) (began c.in-Some-accept.ensures refl)) (behind_first c.in_ok-n.ensures)).halts _ (missing
    c.in_err-take.ensures))

pub primaries::arguments-returns-in-Some-accept : goal.primaries::arguments-returns-in-Some-accept
primaries::arguments-returns-in-Some-accept t c =
    built _ c.part_of.ensures.made c.part_of.ensures.fault (on (on (on (otherwise c.in_default.ensures refl (λ k not. ap Some (arguments_other _ _ k
    not))) (behind_first c.in_ok-first.ensures)) (began c.in-Some-accept.ensures refl)) (on (behind_first c.in_ok-n.ensures) (took
    c.in_ok-take.ensures)))

pub primaries::arguments-returns-in_err-all : goal.primaries::arguments-returns-in_err-all
primaries::arguments-returns-in_err-all t c =
    failed _ _ c.from_residual-in_err-all.ensures.1 ((on (on (otherwise c.in_default.ensures refl (λ k not. ap Some (arguments_other _ _ k not)))
    (behind_first c.in_ok-first.ensures)) (otherwise c.in_default-accept.ensures refl (λ k not. ap Some (second_argument_other _ _ _ k not)))).halts _
    (c.in_err-all.ensures _ _ arguments_list))

pub primaries::arguments-returns-in_err-take-2 : goal.primaries::arguments-returns-in_err-take-2
primaries::arguments-returns-in_err-take-2 t c =
    failed _ _ c.from_residual-in_err-take-2.ensures.1 ((on (on (otherwise c.in_default.ensures refl (λ k not. ap Some (arguments_other _ _ k not)))
    (behind_first c.in_ok-first.ensures)) (on (otherwise c.in_default-accept.ensures refl (λ k not. ap Some (second_argument_other _ _ _ k not)))
    (c.in_ok-all.ensures _ _ arguments_list))).halts _ (missing c.in_err-take-2.ensures))

pub primaries::arguments-returns : goal.primaries::arguments-returns
primaries::arguments-returns t c =
    built _ c.apply-2.ensures.made c.apply-2.ensures.fault (on (on (on (otherwise c.in_default.ensures refl (λ k not. ap Some (arguments_other _ _ k
    not))) (behind_first c.in_ok-first.ensures)) (on (otherwise c.in_default-accept.ensures refl (λ k not. ap Some (second_argument_other _ _ _ k
    not))) (c.in_ok-all.ensures _ _ arguments_list))) (took c.in_ok-take-2.ensures))

pub writing::writing-returns-in_err-word : goal.writing::writing-returns-in_err-word
writing::writing-returns-in_err-word t c = failed _ _ c.from_residual.ensures.1 (missing c.in_err-word.ensures)

pub writing::writing-loop-items-init : goal.writing::writing-loop-items-init
writing::writing-loop-items-init t c =
    on (took c.in_ok-word.ensures) (items_begin (λ all. Then (Go Written) (λ one. Go (MoreWritten (line_at c.in_ok-word.word) (and_item all
    (the_item one))))) c.in_ok-items.ensures.items)

pub writing::writing-returns-in_err-item : goal.writing::writing-returns-in_err-item
writing::writing-returns-in_err-item t c =
    failed _ _ c.from_residual-in_err-item.ensures.1 ((c.loop-items.invariant).halts _ (HaltsWith.in_first c.in_err-item.ensures))

pub writing::writing-loop-items-smaller : goal.writing::writing-loop-items-smaller
writing::writing-loop-items-smaller t c = nearer c.in-Some.ensures c.in_ok-item.ensures.forward (omega arith)

pub writing::writing-loop-items-preserved : goal.writing::writing-loop-items-preserved
writing::writing-loop-items-preserved t c =
    on c.loop-items.invariant (on (behind_first c.in_ok-item.ensures) (on (written_again (λ all. Go (MoreWritten
    (line_at c.in_ok-word.word) all)) _ _ c.in_ok-push.ensures.items) (began c.in-Some.ensures refl)))

pub writing::writing-returns-in_default : goal.writing::writing-returns-in_default
writing::writing-returns-in_default t c =
    built _ c.write_of.ensures.made c.write_of.ensures.fault (on c.loop-items.invariant (on (behind_first c.in_ok-item.ensures) (on (written_again
    (λ all. Go (MoreWritten (line_at c.in_ok-word.word) all)) _ _ c.in_ok-push.ensures.items) (otherwise c.in_default.ensures refl (λ k not. ap Some
    (written_other _ _ k not))))))

pub writing::written-returns-in_err-e : goal.writing::written-returns-in_err-e
writing::written-returns-in_err-e t c = failed _ _ c.from_residual.ensures.1 ((by_row refl).halts _ (HaltsWith.in_first c.in_err-e.ensures))

pub writing::written-returns-in_err-w : goal.writing::written-returns-in_err-w
writing::written-returns-in_err-w t c =
    failed _ _ c.from_residual-in_err-w.ensures.1 ((on (by_row refl) (on (behind_first c.in_ok-e.ensures) (began c.in-Some.ensures refl))).halts _
    (HaltsWith.in_first c.in_err-w.ensures))

pub writing::written-returns : goal.writing::written-returns
writing::written-returns t c =
    on (by_row refl) (on (behind_first c.in_ok-e.ensures) (on (began c.in-Some.ensures refl) (on (behind_first c.in_ok-w.ensures) (same (ap (λ
    (i : WriteItem). Give (an_item i)) (sym c.item_of-2.ensures))))))

pub writing::written-returns-in_default : goal.writing::written-returns-in_default
writing::written-returns-in_default t c =
    on (by_row refl) (on (behind_first c.in_ok-e.ensures) (on (otherwise c.in_default.ensures refl (λ k not. ap Some (width_other _ k not))) (same (ap
    (λ (i : WriteItem). Give (an_item i)) (sym c.item_of.ensures)))))

-- a call of the cycle has less work before it, and each call reads a text whose symbols are sound

pub cases::choosing-after-requires : goal.cases::choosing-after-requires
cases::choosing-after-requires t c = (omega (arith, c.decreases), c.requires.sound)

pub cases::choosing-take-requires : goal.cases::choosing-take-requires
cases::choosing-take-requires t c = c.requires

pub cases::choosing-accept-requires : goal.cases::choosing-accept-requires
cases::choosing-accept-requires t c = c.requires

pub cases::choosing-after-requires-in-Some : goal.cases::choosing-after-requires-in-Some
cases::choosing-after-requires-in-Some t c = (omega (arith, c.decreases), c.requires.sound)

pub cases::choosing-clause-requires : goal.cases::choosing-clause-requires
cases::choosing-clause-requires t c = (omega (arith, c.decreases), c.requires.sound)

pub cases::choosing-more_clauses-requires : goal.cases::choosing-more_clauses-requires
cases::choosing-more_clauses-requires t c = (omega (arith, c.decreases), c.requires.sound)

pub cases::choosing-after-requires-in-loop-at : goal.cases::choosing-after-requires-in-loop-at
cases::choosing-after-requires-in-loop-at t c = (omega (arith, c.decreases), c.requires.sound)

pub cases::choosing-take-requires-in-loop-at : goal.cases::choosing-take-requires-in-loop-at
cases::choosing-take-requires-in-loop-at t c = c.requires

pub clauses::after-take-requires : goal.clauses::after-take-requires
clauses::after-take-requires t c = c.requires

pub clauses::after-clause-requires : goal.clauses::after-clause-requires
clauses::after-clause-requires t c = (omega (arith, c.decreases), c.requires.sound)

pub clauses::clause-unexpected-requires : goal.clauses::clause-unexpected-requires
clauses::clause-unexpected-requires t c = c.requires.sound

pub clauses::clause-too_nested-requires : goal.clauses::clause-too_nested-requires
clauses::clause-too_nested-requires t c = c.requires.sound

pub clauses::clause-opened-requires : goal.clauses::clause-opened-requires
clauses::clause-opened-requires t c = (omega (arith, c.decreases), c.requires.sound)

pub clauses::expression-chain-requires : goal.clauses::expression-chain-requires
clauses::expression-chain-requires t c = (omega (arith, c.decreases), c.requires.sound)

pub clauses::expression-accept-requires : goal.clauses::expression-accept-requires
clauses::expression-accept-requires t c = c.requires

pub clauses::expression-clause-requires : goal.clauses::expression-clause-requires
clauses::expression-clause-requires t c = (omega (arith, c.decreases), c.requires.sound)

pub clauses::filling-after-requires : goal.clauses::filling-after-requires
clauses::filling-after-requires t c = (omega (arith, c.decreases), c.requires.sound)

pub clauses::filling-after-requires-2 : goal.clauses::filling-after-requires-2
clauses::filling-after-requires-2 t c = (omega (arith, c.decreases), c.requires.sound)

pub clauses::filling-after-requires-3 : goal.clauses::filling-after-requires-3
clauses::filling-after-requires-3 t c = (omega (arith, c.decreases), c.requires.sound)

pub clauses::more_clauses-accept-requires : goal.clauses::more_clauses-accept-requires
clauses::more_clauses-accept-requires t c = c.requires

pub clauses::more_clauses-clause-requires : goal.clauses::more_clauses-clause-requires
clauses::more_clauses-clause-requires t c = (omega (arith, c.decreases), c.requires.sound)

pub clauses::optional-accept-requires : goal.clauses::optional-accept-requires
clauses::optional-accept-requires t c = c.requires

pub clauses::optional-clause-requires : goal.clauses::optional-clause-requires
clauses::optional-clause-requires t c = (omega (arith, c.decreases), c.requires.sound)

pub clauses::procedure-take-requires : goal.clauses::procedure-take-requires
clauses::procedure-take-requires t c = c.requires

pub clauses::procedure-literal-requires : goal.clauses::procedure-literal-requires
clauses::procedure-literal-requires t c = (omega (arith, c.decreases), c.requires.sound)

pub clauses::condition-after-requires : goal.clauses::condition-after-requires
clauses::condition-after-requires t c = (omega (arith, c.decreases), c.requires.sound)

pub clauses::condition-after-requires-in-Do : goal.clauses::condition-after-requires-in-Do
clauses::condition-after-requires-in-Do t c = (omega (arith, c.decreases), c.requires.sound)

pub clauses::condition-after-requires-in-Then : goal.clauses::condition-after-requires-in-Then
clauses::condition-after-requires-in-Then t c = (omega (arith, c.decreases), c.requires.sound)

pub clauses::condition-after-requires-in-Then-2 : goal.clauses::condition-after-requires-in-Then-2
clauses::condition-after-requires-in-Then-2 t c = (omega (arith, c.decreases), c.requires.sound)

pub clauses::condition-unexpected-requires : goal.clauses::condition-unexpected-requires
clauses::condition-unexpected-requires t c = c.requires.sound

pub clauses::opened-condition-requires : goal.clauses::opened-condition-requires
clauses::opened-condition-requires t c = (omega (arith, c.decreases), c.requires.sound)

pub clauses::opened-repetition-requires : goal.clauses::opened-repetition-requires
clauses::opened-repetition-requires t c = (omega (arith, c.decreases), c.requires.sound)

pub clauses::opened-repeating-requires : goal.clauses::opened-repeating-requires
clauses::opened-repeating-requires t c = (omega (arith, c.decreases), c.requires.sound)

pub clauses::opened-counting-requires : goal.clauses::opened-counting-requires
clauses::opened-counting-requires t c = (omega (arith, c.decreases), c.requires.sound)

pub clauses::opened-choosing-requires : goal.clauses::opened-choosing-requires
clauses::opened-choosing-requires t c = (omega (arith, c.decreases), c.requires.sound)

pub clauses::opened-writing-requires : goal.clauses::opened-writing-requires
clauses::opened-writing-requires t c = (omega (arith, c.decreases), c.requires.sound)

pub clauses::opened-aborting-requires : goal.clauses::opened-aborting-requires
clauses::opened-aborting-requires t c = c.requires

pub clauses::opened-procedure-requires : goal.clauses::opened-procedure-requires
clauses::opened-procedure-requires t c = (omega (arith, c.decreases), c.requires.sound)

pub clauses::opened-filling-requires : goal.clauses::opened-filling-requires
clauses::opened-filling-requires t c = (omega (arith, c.decreases), c.requires.sound)

pub clauses::opened-expression-requires : goal.clauses::opened-expression-requires
clauses::opened-expression-requires t c = (omega (arith, c.decreases), c.requires.sound)

pub items::items-optional_item-requires : goal.items::items-optional_item-requires
items::items-optional_item-requires t c = (omega (arith, c.decreases), c.requires.sound)

pub items::items-accept-requires : goal.items::items-accept-requires
items::items-accept-requires t c = c.requires

pub items::optional_item-item-requires : goal.items::optional_item-item-requires
items::optional_item-item-requires t c = (omega (arith, c.decreases), c.requires.sound)

pub items::item-let_item-requires : goal.items::item-let_item-requires
items::item-let_item-requires t c = (omega (arith, c.decreases), c.requires.sound)

pub items::item-structure_item-requires : goal.items::item-structure_item-requires
items::item-structure_item-requires t c = c.requires

pub items::item-clause-requires : goal.items::item-clause-requires
items::item-clause-requires t c = (omega (arith, c.decreases), c.requires.sound)

pub items::item-name_behind-requires : goal.items::item-name_behind-requires
items::item-name_behind-requires t c = c.requires

pub items::item-literal-requires : goal.items::item-literal-requires
items::item-literal-requires t c = (omega (arith, c.decreases), c.requires.sound)

pub items::literal-signature-requires : goal.items::literal-signature-requires
items::literal-signature-requires t c = c.requires

pub items::literal-after-requires : goal.items::literal-after-requires
items::literal-after-requires t c = (omega (arith, c.decreases), c.requires.sound)

pub items::let_item-name_behind-requires : goal.items::let_item-name_behind-requires
items::let_item-name_behind-requires t c = c.requires

pub items::let_item-unexpected-requires : goal.items::let_item-unexpected-requires
items::let_item-unexpected-requires t c = c.requires.sound

pub items::let_item-after-requires : goal.items::let_item-after-requires
items::let_item-after-requires t c = (omega (arith, c.decreases), c.requires.sound)

pub loops::counting-name_behind-requires : goal.loops::counting-name_behind-requires
loops::counting-name_behind-requires t c = c.requires

pub loops::counting-after-requires : goal.loops::counting-after-requires
loops::counting-after-requires t c = (omega (arith, c.decreases), c.requires.sound)

pub loops::counting-after-requires-2 : goal.loops::counting-after-requires-2
loops::counting-after-requires-2 t c = (omega (arith, c.decreases), c.requires.sound)

pub loops::counting-optional-requires : goal.loops::counting-optional-requires
loops::counting-optional-requires t c = (omega (arith, c.decreases), c.requires.sound)

pub loops::counting-after-requires-3 : goal.loops::counting-after-requires-3
loops::counting-after-requires-3 t c = (omega (arith, c.decreases), c.requires.sound)

pub loops::repeating-after-requires : goal.loops::repeating-after-requires
loops::repeating-after-requires t c = (omega (arith, c.decreases), c.requires.sound)

pub loops::repeating-accept-requires : goal.loops::repeating-accept-requires
loops::repeating-accept-requires t c = c.requires

pub loops::repeating-after-requires-2 : goal.loops::repeating-after-requires-2
loops::repeating-after-requires-2 t c = (omega (arith, c.decreases), c.requires.sound)

pub loops::repeating-optional-requires : goal.loops::repeating-optional-requires
loops::repeating-optional-requires t c = (omega (arith, c.decreases), c.requires.sound)

pub loops::repetition-after-requires : goal.loops::repetition-after-requires
loops::repetition-after-requires t c = (omega (arith, c.decreases), c.requires.sound)

pub loops::repetition-after-requires-2 : goal.loops::repetition-after-requires-2
loops::repetition-after-requires-2 t c = (omega (arith, c.decreases), c.requires.sound)

pub operators::chain-operand-requires : goal.operators::chain-operand-requires
operators::chain-operand-requires t c = (omega (arith, c.decreases), c.requires.sound)

pub operators::chain-operator-requires : goal.operators::chain-operator-requires
operators::chain-operator-requires t c = c.requires

pub operators::chain-operand-requires-in-Some : goal.operators::chain-operand-requires-in-Some
operators::chain-operand-requires-in-Some t c = (omega (arith, c.decreases), c.requires.sound)

pub operators::compared-chain-requires : goal.operators::compared-chain-requires
operators::compared-chain-requires t c = (omega (arith, c.decreases), c.requires.sound)

pub operators::compared-relation-requires : goal.operators::compared-relation-requires
operators::compared-relation-requires t c = c.requires

pub operators::compared-chain-requires-in-Compares : goal.operators::compared-chain-requires-in-Compares
operators::compared-chain-requires-in-Compares t c = (omega (arith, c.decreases), c.requires.sound)

pub operators::compared-name-requires : goal.operators::compared-name-requires
operators::compared-name-requires t c = c.requires

pub operators::factor-accept-requires : goal.operators::factor-accept-requires
operators::factor-accept-requires t c = c.requires

pub operators::factor-application-requires : goal.operators::factor-application-requires
operators::factor-application-requires t c = (omega (arith, c.decreases), c.requires.sound)

pub operators::factor-accept-requires-2 : goal.operators::factor-accept-requires-2
operators::factor-accept-requires-2 t c = c.requires

pub operators::factor-application-requires-in-Some-accept : goal.operators::factor-application-requires-in-Some-accept
operators::factor-application-requires-in-Some-accept t c = (omega (arith, c.decreases), c.requires.sound)

pub operators::factor-application-requires-2 : goal.operators::factor-application-requires-2
operators::factor-application-requires-2 t c = (omega (arith, c.decreases), c.requires.sound)

pub operators::relative-accept-requires : goal.operators::relative-accept-requires
operators::relative-accept-requires t c = c.requires

pub operators::relative-compared-requires : goal.operators::relative-compared-requires
operators::relative-compared-requires t c = (omega (arith, c.decreases), c.requires.sound)

pub operators::relative-compared-requires-2 : goal.operators::relative-compared-requires-2
operators::relative-compared-requires-2 t c = (omega (arith, c.decreases), c.requires.sound)

pub primaries::application-primary-requires : goal.primaries::application-primary-requires
primaries::application-primary-requires t c = (omega (arith, c.decreases), c.requires.sound)

pub primaries::application-accept-requires : goal.primaries::application-accept-requires
primaries::application-accept-requires t c = c.requires

pub primaries::application-arguments-requires : goal.primaries::application-arguments-requires
primaries::application-arguments-requires t c = (omega (arith, c.decreases), c.requires.sound)

pub primaries::primary-unexpected-requires : goal.primaries::primary-unexpected-requires
primaries::primary-unexpected-requires t c = c.requires.sound

pub primaries::primary-name_leaf-requires : goal.primaries::primary-name_leaf-requires
primaries::primary-name_leaf-requires t c = c.requires

pub primaries::primary-int_leaf-requires : goal.primaries::primary-int_leaf-requires
primaries::primary-int_leaf-requires t c = c.requires

pub primaries::primary-text_leaf-requires : goal.primaries::primary-text_leaf-requires
primaries::primary-text_leaf-requires t c = c.requires

pub primaries::primary-flag_leaf-requires : goal.primaries::primary-flag_leaf-requires
primaries::primary-flag_leaf-requires t c = c.requires

pub primaries::primary-nil_leaf-requires : goal.primaries::primary-nil_leaf-requires
primaries::primary-nil_leaf-requires t c = c.requires

pub primaries::primary-bracketed-requires : goal.primaries::primary-bracketed-requires
primaries::primary-bracketed-requires t c = (omega (arith, c.decreases), c.requires.sound)

pub primaries::primary-block-requires : goal.primaries::primary-block-requires
primaries::primary-block-requires t c = (omega (arith, c.decreases), c.requires.sound)

pub primaries::primary-bound_of_vector-requires : goal.primaries::primary-bound_of_vector-requires
primaries::primary-bound_of_vector-requires t c = (omega (arith, c.decreases), c.requires.sound)

pub primaries::primary-elements-requires : goal.primaries::primary-elements-requires
primaries::primary-elements-requires t c = (omega (arith, c.decreases), c.requires.sound)

pub primaries::bracketed-after-requires : goal.primaries::bracketed-after-requires
primaries::bracketed-after-requires t c = (omega (arith, c.decreases), c.requires.sound)

pub primaries::bracketed-take-requires : goal.primaries::bracketed-take-requires
primaries::bracketed-take-requires t c = c.requires

pub primaries::block-take-requires : goal.primaries::block-take-requires
primaries::block-take-requires t c = c.requires

pub primaries::block-items-requires : goal.primaries::block-items-requires
primaries::block-items-requires t c = (omega (arith, c.decreases), c.requires.sound)

pub primaries::block-take-requires-2 : goal.primaries::block-take-requires-2
primaries::block-take-requires-2 t c = c.requires

pub primaries::bound_of_vector-take-requires : goal.primaries::bound_of_vector-take-requires
primaries::bound_of_vector-take-requires t c = c.requires

pub primaries::bound_of_vector-bracketed-requires : goal.primaries::bound_of_vector-bracketed-requires
primaries::bound_of_vector-bracketed-requires t c = (omega (arith, c.decreases), c.requires.sound)

pub primaries::elements-after-requires : goal.primaries::elements-after-requires
primaries::elements-after-requires t c = (omega (arith, c.decreases), c.requires.sound)

pub primaries::elements-element_type-requires : goal.primaries::elements-element_type-requires
primaries::elements-element_type-requires t c = c.requires

pub primaries::elements-after-requires-2 : goal.primaries::elements-after-requires-2
primaries::elements-after-requires-2 t c = (omega (arith, c.decreases), c.requires.sound)

pub primaries::elements-more_clauses-requires : goal.primaries::elements-more_clauses-requires
primaries::elements-more_clauses-requires t c = (omega (arith, c.decreases), c.requires.sound)

pub primaries::elements-take-requires : goal.primaries::elements-take-requires
primaries::elements-take-requires t c = c.requires

pub primaries::arguments-accept-requires : goal.primaries::arguments-accept-requires
primaries::arguments-accept-requires t c = c.requires

pub primaries::arguments-clause-requires : goal.primaries::arguments-clause-requires
primaries::arguments-clause-requires t c = (omega (arith, c.decreases), c.requires.sound)

pub primaries::arguments-accept-requires-2 : goal.primaries::arguments-accept-requires-2
primaries::arguments-accept-requires-2 t c = c.requires

pub primaries::arguments-clause-requires-in-Some-accept : goal.primaries::arguments-clause-requires-in-Some-accept
primaries::arguments-clause-requires-in-Some-accept t c = (omega (arith, c.decreases), c.requires.sound)

pub primaries::arguments-take-requires : goal.primaries::arguments-take-requires
primaries::arguments-take-requires t c = c.requires

pub primaries::arguments-more_clauses-requires : goal.primaries::arguments-more_clauses-requires
primaries::arguments-more_clauses-requires t c = (omega (arith, c.decreases), c.requires.sound)

pub primaries::arguments-take-requires-2 : goal.primaries::arguments-take-requires-2
primaries::arguments-take-requires-2 t c = c.requires

pub writing::writing-take-requires : goal.writing::writing-take-requires
writing::writing-take-requires t c = c.requires

pub writing::writing-written-requires : goal.writing::writing-written-requires
writing::writing-written-requires t c = (omega (arith, c.decreases), c.requires.sound)

pub writing::writing-accept-requires : goal.writing::writing-accept-requires
writing::writing-accept-requires t c = c.requires

pub writing::written-clause-requires : goal.writing::written-clause-requires
writing::written-clause-requires t c = (omega (arith, c.decreases), c.requires.sound)

pub writing::written-accept-requires : goal.writing::written-accept-requires
writing::written-accept-requires t c = c.requires

pub writing::written-clause-requires-2 : goal.writing::written-clause-requires-2
writing::written-clause-requires-2 t c = (omega (arith, c.decreases), c.requires.sound)
