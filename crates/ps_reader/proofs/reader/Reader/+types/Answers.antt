use Rattle.std.proofs.Common.{true, false, Some, refl, sym, ap, ◌∙◌, arith}
use Rattle.ps_base.specs.TyView.{ty_view, ty_views}
use Rattle.ps_reader.specs.Grammar.{a_type, all_types, Give, Go, MoreTypes, a_type_inside, typed_as}
use Rattle.ps_reader.specs.inside.Stopping.{HaltsWith}
use Rattle.ps_reader.proofs.Steps.{on, nearer, took, missing, behind_first, same, failed, tail}
use Rattle.ps_reader.proofs.Rows.{result_other, types_other, opens, type_opens, goes_as, goes_by, types_stand, built_type, types_first, types_again}
use Rattle.ps_reader.proofs.reader.Reader.+types.Goals as goal

pub ty-returns : goal.ty-returns
ty-returns t c = opens c.args.self.now.text.now c.args.self.now.tokens c.args.self.now.symbols.now (λ made. a_type (ty_view made)) _ c.args.room _ _ _ a_type_inside (typed_as c.in-Some.start) c.typed_as.ensures (omega (arith, c.if-room-eq0.false)) (type_opens c.args.self.now.text.now c.args.self.now.tokens c.args.self.now.symbols.now _ c.kind_at.ensures c.type_start_of.ensures c.in-Some.is)

pub parameter_types-returns : goal.parameter_types-returns
parameter_types-returns t c = on (types_stand c.kind_at.ensures false (sym c.if-begins_type.false ∙ c.begins_type.ensures)) (same (ap (λ types. Give (all_types (ty_views types))) (sym c.new.ensures.items)))

pub types-returns-in_err-ty : goal.types-returns-in_err-ty
types-returns-in_err-ty t c = failed _ _ c.from_residual-in_err-ty.ensures.1 ((on c.loop-at.invariant (on (goes_as c.kind_at.ensures c.in-Comma.is refl) (took c.in_ok-take.ensures))).halts _ (HaltsWith.in_first c.in_err-ty.ensures))

pub types-loop-at-preserved : goal.types-loop-at-preserved
types-loop-at-preserved t c = (on c.loop-at.invariant (on (goes_as c.kind_at.ensures c.in-Comma.is refl) (on (took c.in_ok-take.ensures) (on (behind_first c.in_ok-ty.ensures) (types_again (λ all. Go (MoreTypes all)) _ _ c.in_ok-push-2.ensures.items)))))

pub types-returns : goal.types-returns
types-returns t c = (on c.loop-at.invariant (goes_by c.kind_at.ensures (ap Some (types_other _ _ c.in_default.not-Comma))))

pub procedure_type-returns-in_err-take : goal.procedure_type-returns-in_err-take
procedure_type-returns-in_err-take t c = failed _ _ c.from_residual.ensures.1 (missing c.in_err-take.ensures)

pub procedure_type-returns-in_err-take-2 : goal.procedure_type-returns-in_err-take-2
procedure_type-returns-in_err-take-2 t c = failed _ _ c.from_residual-in_err-take-2.ensures.1 ((took c.in_ok-take.ensures).halts _ (missing c.in_err-take-2.ensures))

pub procedure_type-returns-in_err-parameters : goal.procedure_type-returns-in_err-parameters
procedure_type-returns-in_err-parameters t c = failed _ _ c.from_residual-in_err-parameters.ensures.1 ((on (took c.in_ok-take.ensures) (took c.in_ok-take-2.ensures)).halts _ (HaltsWith.in_first c.in_err-parameters.ensures))

pub procedure_type-returns-in_err-gives : goal.procedure_type-returns-in_err-gives
procedure_type-returns-in_err-gives t c = failed _ _ c.from_residual-in_err-gives.ensures.1 ((on (took c.in_ok-take.ensures) (on (took c.in_ok-take-2.ensures) (behind_first c.in_ok-parameters.ensures))).halts _ (HaltsWith.in_first c.in_err-gives.ensures))

pub procedure_type-returns-in_err-take-3 : goal.procedure_type-returns-in_err-take-3
procedure_type-returns-in_err-take-3 t c = failed _ _ c.from_residual-in_err-take-3.ensures.1 ((on (took c.in_ok-take.ensures) (on (took c.in_ok-take-2.ensures) (on (behind_first c.in_ok-parameters.ensures) (behind_first c.in_ok-gives.ensures)))).halts _ (missing c.in_err-take-3.ensures))

pub procedure_type-returns : goal.procedure_type-returns
procedure_type-returns t c = built_type _ c.procedure_type.ensures.made c.procedure_type.ensures.fault (on (took c.in_ok-take.ensures) (on (took c.in_ok-take-2.ensures) (on (behind_first c.in_ok-parameters.ensures) (on (behind_first c.in_ok-gives.ensures) (took c.in_ok-take-3.ensures)))))

pub result_type-returns-in_err-take-in-Arrow : goal.result_type-returns-in_err-take-in-Arrow
result_type-returns-in_err-take-in-Arrow t c = failed _ _ c.from_residual.ensures.1 ((goes_as c.kind_at.ensures c.in-Arrow.is refl).halts _ (missing c.in_err-take-in-Arrow.ensures))

pub result_type-returns-in_ok-take-in-Arrow : goal.result_type-returns-in_ok-take-in-Arrow
result_type-returns-in_ok-take-in-Arrow t c = tail _ _ _ c.ty.ensures (on (goes_as c.kind_at.ensures c.in-Arrow.is refl) (took c.in_ok-take-in-Arrow.ensures))

pub result_type-returns-in_default : goal.result_type-returns-in_default
result_type-returns-in_default t c = (goes_by c.kind_at.ensures (ap Some (result_other _ c.in_default.not-Arrow)))

pub vector_type-returns-in_err-take : goal.vector_type-returns-in_err-take
vector_type-returns-in_err-take t c = failed _ _ c.from_residual.ensures.1 (missing c.in_err-take.ensures)

pub vector_type-returns-in_err-element : goal.vector_type-returns-in_err-element
vector_type-returns-in_err-element t c = failed _ _ c.from_residual-in_err-element.ensures.1 ((took c.in_ok-take.ensures).halts _ (HaltsWith.in_first c.in_err-element.ensures))

pub vector_type-returns : goal.vector_type-returns
vector_type-returns t c = built_type _ c.vector_type.ensures.made c.vector_type.ensures.fault (on (took c.in_ok-take.ensures) (behind_first c.in_ok-element.ensures))

pub parameter_types-returns-then-begins_type : goal.parameter_types-returns-then-begins_type
parameter_types-returns-then-begins_type t c = tail _ _ _ c.types.ensures (types_stand c.kind_at.ensures true (sym c.if-begins_type.true ∙ c.begins_type.ensures))

pub types-returns-in_err-first : goal.types-returns-in_err-first
types-returns-in_err-first t c = failed _ _ c.from_residual.ensures.1 (HaltsWith.in_first c.in_err-first.ensures)

pub types-loop-at-init : goal.types-loop-at-init
types-loop-at-init t c = on (behind_first c.in_ok-first.ensures) (types_first (λ all. Go (MoreTypes all)) _ _ c.new-types.ensures.items c.in_ok-push.ensures.items)

pub types-loop-at-smaller : goal.types-loop-at-smaller
types-loop-at-smaller t c = nearer c.in_ok-take.ensures (omega arith) c.in_ok-ty.ensures.forward
