-- Slots, mentions, bodies and heaps that are fit, and some that aren't.
use Rattle.std.proofs.Common.{inl, inr, ◌≡◌, ℕ, true, false, List, [], ◌∷◌, refl, pos, arith, Some, None}
use Rattle.std.specs.Prelude.{codes, replicate}
use Rattle.ps_heap.specs.ps_base.TyView.{TyView}
use Rattle.ps_heap.specs.ps_base.TyView as types
use Rattle.ps_heap.specs.ps_base.declared.line.Line.{Line}
use Rattle.ps_heap.specs.ps_base.declared.operator.Operator.TheVariants.{Add}
use Rattle.ps_soundness.specs.ps_program.declared.place.Place.TheVariants.{Plain, Kept}
use Rattle.ps_soundness.specs.ps_program.Node.{Param, Node, Nodes, none, more, BodyNode, body}
use Rattle.ps_soundness.specs.ps_program.Node as node
use Rattle.ps_soundness.specs.ps_type_text.Texts.{Field}
use Rattle.ps_soundness.specs.ps_typing.WellTyped.{Rule, IsBody}
use Rattle.ps_soundness.specs.ps_typing.WellTyped as typed
use Rattle.ps_heap.specs.Texts.{is_string}
use Rattle.ps_heap.specs.Values.{Num, Pointer}
use Rattle.ps_heap.specs.Held.{row}
use Rattle.ps_heap.specs.Objects.{Heap, Structure}
use Rattle.heap_fit.specs.Slots.{slots_of, mentions}
use Rattle.heap_fit.specs.Bodies.{Level, whole, InScope, IsNameAt, Declares, IsFit, by_rule, name, set_name, AreFit, AreItems, at_end, a_clause, a_value, IsFitBody, of_params, Opens, unscoped, HasSlots, AreApart}
use Rattle.heap_fit.specs.Bodies as fit
use Rattle.heap_fit.specs.Heaps.{IsFitValue}

abbrev pub at : Line
at = record { 0 = 1 }

abbrev pub num : ℕ → Node
num n = node.Int (pos n)

abbrev int : ℕ → Node
int slot = node.Name (Plain slot) types.Int

-- proc(int a; string b -> int); { let c = 1; for i = 1 to 2 do {}; c + a }: the parameters stand first on each stack, and each name and the loop in slots of their own
abbrev looping : ℕ → BodyNode
looping c = body (record { ty = types.Int; place = Plain 0 } ∷ record { ty = types.Str; place = Plain 0 } ∷ []) types.Int
    (node.Block None (more (node.Let (Plain c) types.Int (num 1)) (more (node.For 2 (num 1) (num 2) (num 1) None (Plain 5) node.Empty at)
    (more (node.Arith Add (int c) (int 0) at) none)))) None at

numbers_taken : slots_of true (looping 1) ≡ 0 ∷ 1 ∷ 2 ∷ 3 ∷ 4 ∷ 5 ∷ []
unfolding row
numbers_taken = refl

references_taken : slots_of false (looping 1) ≡ 0 ∷ []
unfolding row
references_taken = refl

-- Of the last two numbers either may be the name's and the other the control's; but one slot isn't that of two names.
taken_twice : AreApart (slots_of true (looping 5)) → ⊥
unfolding row
taken_twice apart = apart.1.0.1.1.1.0 refl

-- proc( -> int); { n := n + 1; n }, inside so many scopes of its own body
abbrev counts : ℕ → Node
counts up = node.Block None (more (node.SetName (Kept up 0) types.Int (node.Arith Add (node.Name (Kept up 0) types.Int) (num 1) at)) (more (node.Name (Kept up 0) types.Int) none))

abbrev counter : BodyNode
counter = body [] types.Int (counts 0) None at

n_mentioned : mentions 0 0 counter ≡ true
n_mentioned = refl

next_name_not_mentioned : mentions 0 1 counter ≡ false
next_name_not_mentioned = refl

scope_round_it_not_mentioned : mentions 1 0 counter ≡ false
scope_round_it_not_mentioned = refl

-- from inside a scope of the body, and from inside a literal in that scope
mentioned_from_inside : mentions 0 0 (body [] types.Int (node.Block (Some (codes "scope(int m)")) (more (counts 1) none)) None at) ≡ true
mentioned_from_inside = refl

own_name_mentioned : mentions 0 0 (body [] types.Int (node.Block (Some (codes "scope(int m)")) (more (counts 0) none)) None at) ≡ false
own_name_mentioned = refl

mentioned_in_a_literal : mentions 0 0 (body [] types.Int (node.Block (Some (codes "scope(int m)")) (more (node.Proc (body [] types.Int (counts 1) None at)) none)) None at) ≡ true
mentioned_in_a_literal = refl

-- the scope of a `for` is round what it repeats alone
mentioned_by_a_limit : mentions 0 0 (body [] types.Void (node.For 0 (num 1) (node.Name (Kept 0 0) types.Int) (num 1) (Some (codes "scope(int i)")) (Kept 0 0) node.Empty at) None at) ≡ true
mentioned_by_a_limit = refl

control_mentioned : mentions 0 0 (body [] types.Void (node.For 0 (num 1) (num 2) (num 1) (Some (codes "scope(int i)")) (Kept 0 0) (counts 0) at) None at) ≡ false
control_mentioned = refl

-- The counter is fit inside a scope that keeps an int.
abbrev n : Field
n = record { ty = types.Int; name = codes "n" }

abbrev around : List Level
around = record { names = n ∷ []; declared = 0 ∷ [] } ∷ []

abbrev inside : InScope
inside = record { locals = []; levels = around }

n_there : IsNameAt inside (Kept 0 0) types.Int
n_there = inl (refl, (inl (refl, refl), inl refl))

one_more : IsFit inside (node.Arith Add (node.Name (Kept 0 0) types.Int) (num 1) at) types.Int
one_more = by_rule typed.arith tt (fit.one_more (name n_there) (fit.one_more (by_rule typed.int refl fit.no_more) fit.no_more))

counter_fits : IsFitBody around counter
unfolding row
counter_fits = of_params unscoped fit.no_more
    (fit.block unscoped (a_clause (set_name n_there one_more) (a_clause (name n_there) at_end)))
    (tt, tt) (record { nums_apart = tt; nums_in = tt; refs_apart = tt; refs_in = tt; few = omega arith })

-- { let a = 1; let b = 2; a }, in slots that aren't those of their order
abbrev turned : BodyNode
turned = body [] types.Int (node.Block None (more (node.Let (Plain 1) types.Int (num 1)) (more (node.Let (Plain 0) types.Int (num 2)) (more (int 1) none)))) None at

literal_int : (env : InScope) → IsFit env (num 1) types.Int
literal_int env = by_rule typed.int refl fit.no_more

turned_fits : IsFitBody [] turned
unfolding row
turned_fits = of_params unscoped fit.no_more
    (fit.block unscoped (a_value refl fit.as_local (literal_int (record { locals = []; levels = [] }))
    (a_value refl fit.as_local (by_rule typed.int refl fit.no_more) (a_clause (name (inr (inl (refl, refl)))) at_end))))
    (tt, tt) (record { nums_apart = ((λ e. absurd (omega (arith, e)), tt), (tt, tt)); nums_in = (omega arith, (omega arith, tt)); refs_apart = tt; refs_in = tt; few = omega arith })

-- It has no types by the rules, which give the first name the first slot: so what is proved of evaluating typed bodies doesn't reach it.
turned_has_no_types : (scopes : List (List Field)) → IsBody scopes turned → ⊥
turned_has_no_types scopes (typed.of_params typed.unscoped typed.Takes.no_more at_last (typed.block typed.unscoped (typed.a_value isnt (typed.as_local e) value rest) last)) = absurd (omega (arith, e))
turned_has_no_types scopes (typed.of_params typed.unscoped typed.Takes.no_more at_last (typed.block typed.unscoped (typed.a_clause (typed.by_rule r are) rest) last)) = elim r [ ]
turned_has_no_types scopes (typed.of_params typed.unscoped typed.Takes.no_more at_last (typed.by_rule r are)) = elim r [ ]

-- What is no value of a type: a structure where a string is wanted, and a text that is too long.
abbrev boxes : Heap
boxes = Structure (codes "box(int n)") (Num (pos 1) ∷ []) ∷ []

no_string : IsFitValue boxes types.Str (Pointer 0) → ⊥
no_string is = is

too_long : is_string (replicate 65536 97) ≡ false
too_long = refl
