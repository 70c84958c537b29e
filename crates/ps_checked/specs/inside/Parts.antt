-- What type the parts of a form are to have, and what the form comes to with them: of the forms with one part or two left.
use Rattle.std.specs.Prelude.{if◌then◌else◌}
use Rattle.ps_base.specs.TyView.{TyView, ty_view}
use Rattle.ps_base.specs.TyView as types
use Rattle.ps_base.specs.declared.line.Line.{Line}
use Rattle.ps_tree.specs.Phrase.{Phrase, named}
use Rattle.ps_program.specs.Assigning.{assignment}
use Rattle.ps_program.specs.Node.{Node}
use Rattle.ps_program.specs.Node as node
use Rattle.ps_program.specs.NodeView.{node_of}
use Rattle.ps_declared.specs.ps_typing.Library.{caller}
use Rattle.ps_declared.specs.ps_typing.Names.{Names, meant}
use Rattle.ps_declared.specs.ps_typing.Checking.{Outcome, Gives, ◌>>=◌, check, line_of, wants, passes, introduced, is_of, assigned, isnt_void}
use Rattle.ps_checked.specs.declared.fits.Test.{Test}
use Rattle.ps_checked.specs.declared.fits.Test.TheVariants as test
use Rattle.ps_checked.specs.declared.wanted.Wanted.{Wanted}
use Rattle.ps_checked.specs.declared.wanted.Wanted.TheVariants as wanted
use Rattle.ps_checked.specs.declared.single.Single.{Single}
use Rattle.ps_checked.specs.declared.single.Single.TheVariants as single
use Rattle.ps_checked.specs.declared.double.Double.{Double}
use Rattle.ps_checked.specs.declared.double.Double.TheVariants as double
use Rattle.ps_checked.specs.declared.triple.Triple.{Triple}
use Rattle.ps_checked.specs.declared.triple.Triple.TheVariants as triple
use Rattle.ps_checked.specs.inside.Tests.{test_of, wanted_by}
use Rattle.ps_checked.specs.inside.Links.{joint_ty, joint_node}

-- what type a clause is to have: any, this one, or one that passes a test
pub data Want : Type 0 where
  any : Want
  this : (ty : TyView) → Want
  passing : (test : Test) → Want

abbrev pub want_of : Wanted → Want
want_of wanted.Any = any
want_of (wanted.This ty) = this (ty_view ty)
want_of (wanted.Passing test) = passing test

-- a clause on this line that is to have such a type
abbrev pub meets : Want → Line → Outcome Node → Outcome Node
meets any line clause = clause
meets (this ty) line clause = wants ty line clause
meets (passing test) line clause = passes (test_of test) (wanted_by test) line clause

-- one part
abbrev pub single_want : Single → Want
single_want single.Not = this types.Bool
single_want single.Plus = this types.Int
single_want (single.Neg line) = this types.Int
single_want (single.Bound upper) = passing test.Vector
single_want (single.Is class negated) = this types.Pntr
single_want (single.Initial name variable) = passing test.NotVoid
single_want (single.Joined joint left) = this (joint_ty joint)
single_want (single.Element v ty line) = this types.Int

abbrev pub single_made : Single → Node → TyView → Names → Outcome Node
single_made single.Not e t names = Gives (node.Not e) types.Bool names
single_made single.Plus e t names = Gives (node.Plus e) types.Int names
single_made (single.Neg line) e t names = Gives (node.Neg e line) types.Int names
single_made (single.Bound upper) e t names = Gives (node.Bound e upper) types.Int names
single_made (single.Is class negated) e t names = is_of (named class.now) negated e names (meant names (named class.now).name)
single_made (single.Initial name variable) e t names = introduced (named name.now) variable e t names
single_made (single.Joined joint left) e t names = Gives (joint_node joint (node_of left) e) (joint_ty joint) names
single_made (single.Element v ty line) e t names = Gives (node.Element (node_of v) e (ty_view ty) line) (ty_view ty) names

abbrev pub check_single : Single → Names → Phrase → Outcome Node
check_single form names e = meets (single_want form) (line_of e) (check names e) >>= λ e t names. single_made form e t names

-- two parts, of which the second may have to be like the first
abbrev pub double_first : Double → Want
double_first double.IfDo = this types.Bool
double_first double.While = this types.Bool
double_first double.Repeat = this types.Void
double_first (double.RepeatDo a) = this types.Bool
double_first (double.IfElse c) = any
double_first (double.Compare op) = passing (test.Compared op)
double_first (double.Assign line e_line variable) = any
double_first (double.Fill l line) = this types.Int
double_first (double.Part s line) = this types.Int
double_first (double.Scan text line) = this types.Pntr

abbrev pub double_second : Double → TyView → Want
double_second double.IfDo t = this types.Void
double_second double.While t = this types.Void
double_second double.Repeat t = this types.Bool
double_second (double.RepeatDo a) t = this types.Void
double_second (double.IfElse c) t = this t
double_second (double.Compare op) t = this t
double_second (double.Assign line e_line variable) t = any
double_second (double.Fill l line) t = passing test.NotVoid
double_second (double.Part s line) t = this types.Int
double_second (double.Scan text line) t = this (caller (if text then types.Str else types.Int))

abbrev pub double_made : Double → Node → TyView → Node → TyView → Names → Outcome Node
double_made double.IfDo c t a s names = Gives (node.IfDo c a) types.Void names
double_made double.While c t a s names = Gives (node.While c a) types.Void names
double_made double.Repeat a t c s names = Gives (node.Repeat a c node.Empty) types.Void names
double_made (double.RepeatDo a) c t b s names = Gives (node.Repeat (node_of a) c b) types.Void names
double_made (double.IfElse c) a t b s names = Gives (node.IfElse (node_of c) a b) t names
double_made (double.Compare op) a t b s names = Gives (node.Compare op t a b) types.Bool names
double_made (double.Assign line e_line variable) x t e s names = assigned line e_line variable (assignment x e) t s names
double_made (double.Fill l line) u t e s names = Gives (node.Fill (node_of l) u e (types.Vector s) line) (types.Vector s) names
double_made (double.Part s line) i t n own names = Gives (node.Part (node_of s) i n line) types.Str names
double_made (double.Scan text line) a t f s names = Gives (node.Scan text a f 0 0 line) types.Int names

abbrev pub check_double : Double → Names → Phrase → Phrase → Outcome Node
check_double form names a b =
    meets (double_first form) (line_of a) (check names a) >>= λ a t names.
    meets (double_second form t) (line_of b) (check names b) >>= λ b s names. double_made form a t b s names

-- three parts: the first, and then two
abbrev pub triple_first : Triple → Want
triple_first triple.IfElse = this types.Bool
triple_first triple.Repeat = this types.Void
triple_first (triple.Fill line) = this types.Int

abbrev pub triple_rest : Triple → Node → Names → Phrase → Phrase → Outcome Node
triple_rest triple.IfElse c names a b =
    check names a >>= λ a t names.
    wants t (line_of b) (check names b) >>= λ b s names. Gives (node.IfElse c a b) t names
triple_rest triple.Repeat a names c b =
    wants types.Bool (line_of c) (check names c) >>= λ c t names.
    wants types.Void (line_of b) (check names b) >>= λ b s names. Gives (node.Repeat a c b) types.Void names
triple_rest (triple.Fill line) l names u e =
    wants types.Int (line_of u) (check names u) >>= λ u t names.
    passes isnt_void types.Bool (line_of e) (check names e) >>= λ e t names. Gives (node.Fill l u e (types.Vector t) line) (types.Vector t) names

abbrev pub check_triple : Triple → Names → Phrase → Phrase → Phrase → Outcome Node
check_triple form names a b c = meets (triple_first form) (line_of a) (check names a) >>= λ a t names. triple_rest form a names b c
