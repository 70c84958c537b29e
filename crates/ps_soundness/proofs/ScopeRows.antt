-- Scopes and procedures of a typed heap, and a program with both, computed.
use Rattle.std.proofs.Common.{ℕ, zero, suc, List, [], ◌∷◌, Some, None, inl, inr, refl, subst, pos, false}
use Rattle.std.specs.Prelude.{codes}
use Rattle.ps_meaning.specs.ps_base.TyView.{TyView}
use Rattle.ps_meaning.specs.ps_base.TyView as types
use Rattle.ps_meaning.specs.ps_base.declared.line.Line.{Line}
use Rattle.ps_meaning.specs.ps_program.declared.place.Place.TheVariants.{Plain, Kept}
use Rattle.ps_meaning.specs.ps_program.Node.{Param, Node, none, more, BodyNode, body}
use Rattle.ps_meaning.specs.ps_program.Node as node
use Rattle.ps_type_text.specs.Texts.{Field, class_text, IsNamed, is_name_byte}
use Rattle.ps_meaning.specs.ps_typing.WellTyped.{Env, Free, IsTyped, IsBody}
use Rattle.ps_meaning.specs.ps_typing.WellTyped as typed
use Rattle.ps_heap.specs.Values.{Num, Nil, Procedure, as_written}
use Rattle.ps_heap.specs.Objects.{Object, Scope}
use Rattle.ps_meaning.specs.Meaning.{Frame, State}
use Rattle.ps_meaning.specs.Evaluation.{eval}
use Rattle.ps_meaning.specs.Calls.{context}
use Rattle.ps_soundness.specs.Running.{Runs, RunsIn, BodyRuns}
use Rattle.ps_soundness.specs.Shapes.{IsOf, HaveValues, AreScopes, IsTypedObject, IsTypedHeap, ComesToInside, IsTypedHeld}
use Rattle.ps_soundness.proofs.Telling.{Told}
use Rattle.ps_soundness.proofs.Growing.{one_object}
use Rattle.ps_soundness.proofs.Bodies.{comes_to_inside}

abbrev line : Line
line = record { 0 = 1 }

abbrev names : List Field
names = record { ty = types.Int; name = codes "n" } ∷ record { ty = types.Str; name = codes "s" } ∷ []

names_are_named : IsNamed (codes "scope") names
unfolding is_name_byte
names_are_named = record { class = (refl, (refl, (refl, (refl, (refl, tt))))); each = ((refl, tt), ((refl, tt), tt)) }

-- n has its value, and s has had none so far
abbrev begun : Object
begun = Scope (codes "scope(int n;string s)") None (Num (pos 3) ∷ Nil ∷ [])

a_typed_scope : IsTypedHeap (begun ∷ [])
a_typed_scope zero object e = subst (IsTypedObject (begun ∷ [])) (one_object begun object e)
    (record { fields = names; named = names_are_named; text_is = refl; round = tt; are = (inl (refl, tt), (inr refl, tt)) })
a_typed_scope (suc id) object e = absurd cc

first_has_its_value : AreScopes (begun ∷ []) (Some 0) (names ∷ []) ((record { ty = types.Int; name = codes "n" } ∷ []) ∷ [])
first_has_its_value = (
  record { id = 0; scope_is = refl; parent = None; names = Num (pos 3) ∷ Nil ∷ []; is = refl; named = names_are_named; front = (refl, tt); have = (tt, tt) },
  tt,
)

second_has_none : HaveValues names (Num (pos 3) ∷ Nil ∷ []) → ⊥
second_has_none h = let e = h.1.0 in cc

-- proc(int k -> int); f(k), in a scope that keeps f: the value of f is this procedure in this scope
abbrev from_int : TyView
from_int = types.Proc (types.more types.Int types.none) types.Int

abbrev f : List Field
f = record { ty = from_int; name = codes "f" } ∷ []

abbrev calls_itself : BodyNode
calls_itself = body (record { ty = types.Int; place = Plain 0 } ∷ []) types.Int
    (node.Call (node.Name (Kept 0 0) from_int) (more (node.Name (Plain 0) types.Int) none) line) None line

f_is_named : IsNamed (codes "scope") f
unfolding is_name_byte
f_is_named = record { class = (refl, (refl, (refl, (refl, (refl, tt))))); each = ((refl, tt), tt) }

body_is_typed : IsBody (f ∷ []) calls_itself
body_is_typed = typed.of_params typed.unscoped (typed.Takes.as_local refl typed.Takes.no_more) refl
    (typed.by_rule (typed.call (typed.Arguments.one_more typed.Arguments.no_more))
    (typed.AreTyped.one_more (typed.name (inl (refl, inl (refl, refl)))) (typed.AreTyped.one_more (typed.name (inl (refl, refl))) typed.AreTyped.no_more)))

body_runs : BodyRuns (f ∷ []) calls_itself
body_runs = ((tt, tt), (inl (refl, inl (refl, refl)), (tt, tt)))

abbrev of_f : Object
of_f = Scope (codes "scope(proc(int->int) f)") None (Procedure (as_written calls_itself) (Some 0) ∷ [])

f_is_of : IsOf (of_f ∷ []) from_int (Procedure (as_written calls_itself) (Some 0))
f_is_of = record {
  wholes = f ∷ [];
  scopes = f ∷ [];
  typed = body_is_typed;
  runs = body_runs;
  stand = (
    record {
      id = 0;
      scope_is = refl;
      parent = None;
      names = Procedure (as_written calls_itself) (Some 0) ∷ [];
      is = refl;
      named = f_is_named;
      front = (refl, tt);
      have = (refl, tt);
    },
    tt,
  );
  ty_is = refl;
}

a_typed_procedure : IsTypedHeap (of_f ∷ [])
unfolding f_is_of
a_typed_procedure zero object e = subst (IsTypedObject (of_f ∷ [])) (one_object of_f object e)
    (record { fields = f; named = f_is_named; text_is = refl; round = tt; are = (inl (f_is_of, tt), tt) })
a_typed_procedure (suc id) object e = absurd cc

-- { let n = 1; let f = proc( -> int); n; write f() }
abbrev no_params : TyView
no_params = types.Proc types.none types.Int

abbrev n : List Field
n = record { ty = types.Int; name = codes "n" } ∷ []

abbrev reads_n : Node
reads_n = node.Block (Some (class_text (codes "scope") n))
    (more (node.Let (Kept 0 0) types.Int (node.Int (pos 1)))
    (more (node.Let (Plain 0) no_params (node.Proc (body [] types.Int (node.Name (Kept 0 0) types.Int) None line)))
    (more (node.Write (node.Call (node.Name (Plain 0) no_params) none line) node.Empty false types.Int line) none)))

n_is_named : IsNamed (codes "scope") n
unfolding is_name_byte
n_is_named = record { class = (refl, (refl, (refl, (refl, (refl, tt))))); each = ((refl, tt), tt) }

reads_n_runs : RunsIn (Some []) reads_n
reads_n_runs = (
  record { fields = n; named = n_is_named; text_is = refl },
  ((inl (refl, inl (refl, refl)), refl), ((tt, (tt, inl (refl, inl (refl, refl)))), (((tt, tt), tt), tt))),
)

not_without_scopes : Runs reads_n → ⊥
not_without_scopes h = let e = h.0 in cc

abbrev nowhere : Env
nowhere = record { locals = []; scopes = [] }

reads_n_is_typed : IsTyped nowhere (record { nums = 0; refs = 0 }) reads_n types.Void (record { nums = 0; refs = 1 })
reads_n_is_typed =
    typed.block typed.scoped
    (typed.a_value refl (typed.as_kept (codes "n") refl refl) (typed.by_rule typed.int typed.AreTyped.no_more)
    (typed.a_literal (typed.as_local refl) (typed.literal (typed.of_params typed.unscoped typed.Takes.no_more refl
    (typed.name (inl (refl, inl (refl, refl))))))
    (typed.a_clause (typed.by_rule (typed.write refl)
    (typed.AreTyped.one_more (typed.by_rule (typed.call typed.Arguments.no_more)
    (typed.AreTyped.one_more (typed.name (inl (refl, refl))) typed.AreTyped.no_more))
    (typed.AreTyped.one_more (typed.by_rule typed.empty typed.AreTyped.no_more) typed.AreTyped.no_more)))
    typed.at_end))) refl

-- whatever turns may be left
it_comes_to : Told → (turns : ℕ) (frame : Frame) (state : State) → IsTypedHeld state.store.held →
    ComesToInside state.store.held.objects [] nowhere types.Void (eval (context turns 0) reads_n frame state)
it_comes_to told turns frame state typed_heap =
    comes_to_inside told turns 0 [] nowhere (record { nums = 0; refs = 0 }) (record { nums = 0; refs = 1 }) reads_n types.Void frame state
    reads_n_is_typed reads_n_runs tt typed_heap tt tt
