-- The measures of the check, and its loops.
use Rattle.std.proofs.Common.{◌≡◌, ◌≤◌, ◌+◌, ◌*◌, drop, length, None}
use Rattle.std.specs.Prelude.{option_map}
use Rattle.ps_base.specs.TyView.{Void, ty_view, ty_views}
use Rattle.ps_program.specs.NodeView.{node_of}
use Rattle.ps_tree.specs.Phrase.{phrase_of}
use Rattle.ps_tree.specs.PhraseLists.{phrases_in, items_in, arms_in as rough_arms_in, maybe_in}
use Rattle.ps_tree.specs.declared.rough.RoughRange.{out-RoughRange}
use Rattle.ps_steps.specs.ps_scope.Content.{names_of}
use Rattle.ps_steps.specs.ps_typing.Checking.{Gives, check_all, check_written, check_each, check_args, check_arms, checkers, elements, first_type}
use Rattle.ps_program.specs.inside.PartsView.{arms_in}
use Rattle.ps_steps.specs.ps_checked.inside.Links.{check_links}
use Rattle.ps_steps.specs.ps_checked.inside.Weights.{weight, weight_all, weight_if_any, weight_arms, weight_written, weight_link, weight_links}
use Rattle.ps_steps.specs.ps_declared.inside.Views.{maybe_lent}
use Rattle.ps_checker.proofs.After.{after, after_given, after_nodes, after_arms, or_given}
use Rattle.ps_checker.proofs.checker.Checker.+clause.Given as goal

abbrev pub decreases-clause : goal.decreases-clause
decreases-clause l = 16 * weight (phrase_of l.rough.now)

abbrev pub decreases-part : goal.decreases-part
decreases-part l = 16 * weight (phrase_of l.rough.now) + 1

abbrev pub decreases-single : goal.decreases-single
decreases-single l = 16 * weight (phrase_of l.e.now) + 2

abbrev pub decreases-double : goal.decreases-double
decreases-double l = 16 * (weight (phrase_of l.a.now) + weight (phrase_of l.b.now)) + 2

abbrev pub decreases-triple : goal.decreases-triple
decreases-triple l = 16 * (weight (phrase_of l.a.now) + weight (phrase_of l.b.now) + weight (phrase_of l.c.now)) + 3

abbrev pub decreases-if_any : goal.decreases-if_any
decreases-if_any l = 16 * weight_if_any (maybe_lent l.rough) + 2

abbrev pub decreases-case_of : goal.decreases-case_of
decreases-case_of l = 16 * (weight (phrase_of l.e.now) + weight_arms (rough_arms_in l.arms.now) + weight (phrase_of l.d.now)) + 7

abbrev pub decreases-arms : goal.decreases-arms
decreases-arms l = 16 * weight_arms (rough_arms_in l.arms.now) + 6

abbrev pub decreases-each : goal.decreases-each
decreases-each l = 16 * weight_all (phrases_in l.clauses.now) + 3

abbrev pub decreases-counted : goal.decreases-counted
decreases-counted l = let range = out-RoughRange l.range.now in 16 * (weight (phrase_of range.a) + weight (phrase_of range.b) + weight_if_any (maybe_in range.c) + weight (phrase_of l.s.now)) + 3

abbrev pub decreases-sequence : goal.decreases-sequence
decreases-sequence l = 16 * weight_all (phrases_in l.items.now) + 5

abbrev pub decreases-write : goal.decreases-write
decreases-write l = 16 * weight_written (items_in l.items.now) + 5

abbrev pub decreases-elements : goal.decreases-elements
decreases-elements l = 16 * (weight (phrase_of l.l.now) + weight_all (phrases_in l.items.now)) + 4

abbrev pub decreases-named_literal : goal.decreases-named_literal
decreases-named_literal l = 16 * weight (phrase_of l.literal.s.now) + 4

abbrev pub decreases-literal : goal.decreases-literal
decreases-literal l = 16 * weight (phrase_of l.literal.s.now) + 3

abbrev pub decreases-name_applied : goal.decreases-name_applied
decreases-name_applied l = 16 * weight_all (phrases_in l.args.now) + 10

abbrev pub decreases-apply : goal.decreases-apply
decreases-apply l = 16 * weight_all (phrases_in l.args.now) + 8

abbrev pub decreases-with_args : goal.decreases-with_args
decreases-with_args l = 16 * weight_all (phrases_in l.args.now) + 6

abbrev pub decreases-chain : goal.decreases-chain
decreases-chain l = 16 * (weight (phrase_of l.left.now) + weight_link l.last) + 11

abbrev pub decreases-link : goal.decreases-link
decreases-link l = 16 * weight_link l.link + 9

abbrev pub invariant-chain-loop-link : goal.invariant-chain-loop-link
invariant-chain-loop-link l = record {
  chain : check_links l.links.items (Gives (node_of l.chain.tree) (ty_view l.chain.ty) (names_of l.self.scope)) ≡ check_links l.initial.links.items (Gives (node_of l.initial.chain.tree) (ty_view l.initial.chain.ty) (names_of l.initial.self.scope));
  lighter : weight_links l.links.items ≤ weight_links l.initial.links.items;
}

abbrev pub decreases-chain-loop-link : goal.decreases-chain-loop-link
decreases-chain-loop-link l = length l.links.items

-- the trees so far, and then those of the clauses that are left, are those of all
abbrev pub invariant-sequence-loop-item : goal.invariant-sequence-loop-item
invariant-sequence-loop-item l =
    after (after_nodes l.trees.items) (check_all (names_of l.self.scope) l.line (ty_view l.before) (phrases_in (drop l.item-index l.items)))
    ≡ check_all (names_of l.initial.self.scope) l.initial.line Void (phrases_in l.items)

abbrev pub invariant-write-loop-item : goal.invariant-write-loop-item
invariant-write-loop-item l = after (after_nodes l.trees.items) (check_written (names_of l.self.scope) (items_in (drop l.item-index l.items))) ≡ check_written (names_of l.initial.self.scope) (items_in l.items)

abbrev pub invariant-each-loop-rough : goal.invariant-each-loop-rough
invariant-each-loop-rough l = after (after_nodes l.trees.items) (check_each (names_of l.self.scope) (ty_view l.ty) (checkers (phrases_in (drop l.rough-index l.clauses)))) ≡ check_each (names_of l.initial.self.scope) (ty_view l.ty) (checkers (phrases_in l.clauses))

abbrev pub invariant-with_args-loop-i : goal.invariant-with_args-loop-i
invariant-with_args-loop-i l = after (after_nodes l.trees.items) (check_args (names_of l.self.scope) (ty_views (drop l.i l.types)) (checkers (phrases_in (drop l.i l.args)))) ≡ check_args (names_of l.initial.self.scope) (ty_views l.types) (checkers (phrases_in l.args))

-- the arms so far, and then those that are left, and the type of the first
abbrev pub invariant-arms-loop-arm : goal.invariant-arms-loop-arm
invariant-arms-loop-arm l = record {
  arms : after_given (option_map ty_view l.given) (after_arms l.made.items) (check_arms (names_of l.self.scope) (ty_view l.ty) (option_map ty_view l.given) (rough_arms_in (drop l.arm-index l.arms))) ≡ check_arms (names_of l.initial.self.scope) (ty_view l.ty) None (rough_arms_in l.arms);
  given : first_type (arms_in l.made.items) (or_given Void (option_map ty_view l.given)) ≡ option_map ty_view l.given;
}

-- the subscripts that are left, after those that are checked
abbrev pub invariant-apply-loop-arg : goal.invariant-apply-loop-arg
invariant-apply-loop-arg l =
    elements (names_of l.self.scope) l.line (node_of l.v.tree) (ty_view l.v.ty) (checkers (phrases_in (drop l.arg-index l.args)))
    ≡ elements (names_of l.initial.self.scope) l.line (node_of l.initial.v.tree) (ty_view l.initial.v.ty) (checkers (phrases_in l.args))
