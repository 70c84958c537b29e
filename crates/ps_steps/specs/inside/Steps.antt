-- What is to be done for a clause, and what comes of it.
use Rattle.std.specs.Prelude.{ℕ, ◌+◌}
use Rattle.ps_base.specs.TyView.{TyView, ty_view}
use Rattle.ps_base.specs.TyView as types
use Rattle.ps_tree.specs.Phrase.{phrase_of, named, groups_in}
use Rattle.ps_tree.specs.Phrase as form
use Rattle.ps_tree.specs.PhraseLists.{phrases_in, items_in, arms_in, maybe_in}
use Rattle.ps_tree.specs.declared.rough.RoughRange.{out-RoughRange}
use Rattle.ps_program.specs.Node.{Node}
use Rattle.ps_program.specs.Node as node
use Rattle.ps_checked.specs.ps_typing.Names.{Names, meant}
use Rattle.ps_checked.specs.ps_typing.Checking.{Outcome, Gives, check, check_form, checkers, used, structure, name_applied}
use Rattle.ps_checked.specs.ps_declared.inside.Answers.{check_unlined}
use Rattle.ps_checked.specs.ps_declared.inside.Views.{literal_of}
use Rattle.ps_checked.specs.inside.Forms.{check_literal, check_named}
use Rattle.ps_checked.specs.inside.Links.{check_link}
use Rattle.ps_checked.specs.inside.Parts.{check_single, check_double, check_triple}
use Rattle.ps_checked.specs.inside.Weights.{weight, weight_all, weight_arms, weight_written, weight_if_any, weight_link}
use Rattle.ps_steps.specs.declared.leaf.Leaf.{Leaf}
use Rattle.ps_steps.specs.declared.leaf.Leaf.TheVariants as leaf
use Rattle.ps_steps.specs.declared.step.Step.{Step}
use Rattle.ps_steps.specs.declared.step.Step.TheVariants as step

abbrev pub check_leaf : Leaf → Names → Outcome Node
check_leaf leaf.Nil names = Gives node.Nil types.Pntr names
check_leaf (leaf.Int value) names = Gives (node.Int value) types.Int names
check_leaf (leaf.Flag value) names = Gives (node.Flag value) types.Bool names
check_leaf (leaf.Text bytes) names = Gives (node.Text bytes.now) types.Str names
check_leaf (leaf.Name line name) names = used line names (meant names name.now)
check_leaf (leaf.Abort line) names = Gives (node.Abort line) types.Void names
check_leaf (leaf.Structure line name fields) names = structure names line (named name.now) (groups_in fields.now)

abbrev pub check_step : Step → Names → Outcome Node
check_step (step.Leaf leaf) names = check_leaf leaf names
check_step (step.Single form e) names = check_single form names (phrase_of e.now)
check_step (step.Double form a b) names = check_double form names (phrase_of a.now) (phrase_of b.now)
check_step (step.Triple form a b c) names = check_triple form names (phrase_of a.now) (phrase_of b.now) (phrase_of c.now)
check_step (step.Link link left) names = check_link link (check names (phrase_of left.now))
check_step (step.Literal literal) names = check_literal names (literal_of literal)
check_step (step.Named name variable literal) names = check_named names (named name.now) variable (literal_of literal)
check_step (step.Counted line name range s) names =
    let parts = out-RoughRange range.now in
    check_form names line (form.For (named name.now) (phrase_of parts.a) (phrase_of parts.b) (maybe_in parts.c) (phrase_of s.now))
check_step (step.Case e arms d) names = check_unlined names (form.Case (phrase_of e.now) (arms_in arms.now) (phrase_of d.now))
check_step (step.Write items) names = check_unlined names (form.Write (items_in items.now))
check_step (step.Elements line l element items) names = check_form names line (form.Elems (phrase_of l.now) (ty_view element.now) (phrases_in items.now))
check_step (step.Applied line name_line name args) names = name_applied names line name_line (meant names name.now) (phrases_in args.now) (checkers (phrases_in args.now))
check_step (step.Sequence line items) names = check_form names line (form.Sequence (phrases_in items.now))

-- how many clauses the parts that are left have
abbrev pub weight_step : Step → ℕ
weight_step (step.Leaf leaf) = 0
weight_step (step.Single form e) = weight (phrase_of e.now)
weight_step (step.Double form a b) = weight (phrase_of a.now) + weight (phrase_of b.now)
weight_step (step.Triple form a b c) = weight (phrase_of a.now) + weight (phrase_of b.now) + weight (phrase_of c.now)
weight_step (step.Link link left) = weight (phrase_of left.now) + weight_link link
weight_step (step.Literal literal) = weight (literal_of literal).s
weight_step (step.Named name variable literal) = weight (literal_of literal).s
weight_step (step.Counted line name range s) =
    let parts = out-RoughRange range.now in
    weight (phrase_of parts.a) + weight (phrase_of parts.b) + weight_if_any (maybe_in parts.c) + weight (phrase_of s.now)
weight_step (step.Case e arms d) = weight (phrase_of e.now) + weight_arms (arms_in arms.now) + weight (phrase_of d.now)
weight_step (step.Write items) = weight_written (items_in items.now)
weight_step (step.Elements line l element items) = weight (phrase_of l.now) + weight_all (phrases_in items.now)
weight_step (step.Applied line name_line name args) = weight_all (phrases_in args.now)
weight_step (step.Sequence line items) = weight_all (phrases_in items.now)
