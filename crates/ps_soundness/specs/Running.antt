-- Which typed clauses run: all, and where nothing is known of the scopes round them, all but those over scopes and procedures. A literal is an int or a string, and a class has names of a text, the field that a clause names, and as many
-- fields as a clause gives values, as in each tree of a text; so has a scope names of a text. Where names may be any bytes, one text can be read as
-- that of several classes. Fields and elements are of types that have values.
use Rattle.std.specs.Prelude.{◌≡◌, ℕ, true, Option, Some, None, List, [], ◌∷◌, codes}
use Rattle.std.specs.List.{AllByRecursion}
use Rattle.ps_meaning.specs.ps_base.TyView.{TyView}
use Rattle.ps_meaning.specs.ps_base.TyView as types
use Rattle.ps_meaning.specs.ps_program.declared.place.Place.{Place}
use Rattle.ps_meaning.specs.ps_program.declared.place.Place.TheVariants.{Plain, Kept}
use Rattle.ps_meaning.specs.ps_program.Node.{Param, Node, Nodes, none, more, Arms, no_arms, more_arms, arm, BodyNode, body}
use Rattle.ps_meaning.specs.ps_program.Node as node
use Rattle.ps_type_text.specs.Texts.{Field, class_text, IsNamed}
use Rattle.ps_meaning.specs.ps_typing.WellTyped.{At, IsOfType}
use Rattle.ps_heap.specs.Operators.{is_int}
use Rattle.ps_heap.specs.Texts.{is_string}
use Rattle.ps_soundness.specs.Valued.{IsValued}

abbrev pub IsPlain : Place → Type 0
IsPlain (Plain slot) = Unit {0}
IsPlain (Kept up position) = ⊥

-- A name of this type at this place may stand where the scopes round it have these names, innermost first, or where nothing is known of them.
abbrev pub IsPlace : Option (List (List Field)) → Place → TyView → Type 0
IsPlace None place ty = IsPlain place
IsPlace (Some wholes) (Plain slot) ty = Unit {0}
IsPlace (Some wholes) (Kept up position) ty = At (λ (whole : List Field). At (IsOfType ty) whole position) wholes up

-- the text of a scope whose names are those of a text
pub record IsScopeText (text : List ℕ) : Type 0 where
  pub fields : List Field
  pub named : IsNamed (codes "scope") fields
  pub text_is : text ≡ class_text (codes "scope") fields

-- the text of a class whose name and fields have names of a text
pub record IsClassText (text : List ℕ) : Type 0 where
  pub name : List ℕ
  pub fields : List Field
  pub named : IsNamed name fields
  pub text_is : text ≡ class_text name fields
  pub valued : AllByRecursion (λ field. IsValued field.ty) fields

-- the class has a field of this type at this position
pub record HasField (text : List ℕ) (position : ℕ) (ty : TyView) : Type 0 where
  pub class : IsClassText text
  pub at : At (IsOfType ty) class.fields position

-- as many clauses as fields
abbrev pub AreAsMany : Nodes → List Field → Type 0
AreAsMany none [] = Unit {0}
AreAsMany (more first rest) (field ∷ fields) = AreAsMany rest fields
AreAsMany _ fields = ⊥

-- the class has as many fields as there are values
pub record HasAsMany (text : List ℕ) (values : Nodes) : Type 0 where
  pub class : IsClassText text
  pub are : AreAsMany values class.fields

-- the parameters of a body in these scopes
abbrev pub ArePlaces : List (List Field) → List Param → Type 0
ArePlaces wholes [] = Unit {0}
ArePlaces wholes (param ∷ params) = IsPlace (Some wholes) param.place param.ty × ArePlaces wholes params

abbrev mutual
  pub RunsIn : Option (List (List Field)) → Node → Type 0
  RunsIn around (node.Int v) = is_int v ≡ true
  RunsIn around (node.Flag b) = Unit {0}
  RunsIn around (node.Text bytes) = is_string bytes ≡ true
  RunsIn around node.Nil = Unit {0}
  RunsIn around (node.Name place ty) = IsPlace around place ty
  RunsIn around (node.SetName place ty e) = IsPlace around place ty × RunsIn around e
  RunsIn around (node.Let place ty e) = IsPlace around place ty × RunsIn around e
  RunsIn around node.Class = Unit {0}
  RunsIn around node.Empty = Unit {0}
  RunsIn None (node.Block scope items) = (scope ≡ None) × AllRunIn None items
  RunsIn (Some wholes) (node.Block None items) = AllRunIn (Some wholes) items
  RunsIn (Some wholes) (node.Block (Some text) items) = (own : IsScopeText text) × AllRunIn (Some (own.fields ∷ wholes)) items
  RunsIn around (node.IfDo c a) = RunsIn around c × RunsIn around a
  RunsIn around (node.IfElse c a b) = RunsIn around c × RunsIn around a × RunsIn around b
  RunsIn around (node.While c a) = RunsIn around c × RunsIn around a
  RunsIn around (node.Repeat a c b) = RunsIn around a × RunsIn around c × RunsIn around b
  RunsIn None (node.For slot a b c scope control s line) =
      RunsIn None a × RunsIn None b × RunsIn None c × (scope ≡ None) × IsPlain control × RunsIn None s
  RunsIn (Some wholes) (node.For slot a b c None control s line) =
      RunsIn (Some wholes) a × RunsIn (Some wholes) b × RunsIn (Some wholes) c × IsPlace (Some wholes) control types.Int × RunsIn (Some wholes) s
  RunsIn (Some wholes) (node.For slot a b c (Some text) control s line) =
      RunsIn (Some wholes) a × RunsIn (Some wholes) b × RunsIn (Some wholes) c
      × ((own : IsScopeText text) × IsPlace (Some (own.fields ∷ wholes)) control types.Int × RunsIn (Some (own.fields ∷ wholes)) s)
  RunsIn around (node.Case e arms d ty) = RunsIn around e × ArmsRunIn around arms × RunsIn around d
  RunsIn around (node.And a b) = RunsIn around a × RunsIn around b
  RunsIn around (node.Or a b) = RunsIn around a × RunsIn around b
  RunsIn around (node.Not e) = RunsIn around e
  RunsIn around (node.Neg e line) = RunsIn around e
  RunsIn around (node.Plus e) = RunsIn around e
  RunsIn around (node.Arith op a b line) = RunsIn around a × RunsIn around b
  RunsIn around (node.Compare op ty a b) = RunsIn around a × RunsIn around b
  RunsIn around (node.Is e class) = IsClassText class × RunsIn around e
  RunsIn around (node.Join a b line) = RunsIn around a × RunsIn around b
  RunsIn around (node.Part a i n line) = RunsIn around a × RunsIn around i × RunsIn around n
  RunsIn around (node.Make class args) = HasAsMany class args × AllRunIn around args
  RunsIn around (node.Field e class index ty line) = HasField class index ty × RunsIn around e
  RunsIn around (node.SetField p class index ty e line) = HasField class index ty × RunsIn around p × RunsIn around e
  RunsIn around (node.Fill l u e ty line) = RunsIn around l × RunsIn around u × RunsIn around e
  RunsIn around (node.Elems l items ty line) = IsValued ty × RunsIn around l × AllRunIn around items
  RunsIn around (node.Element v i ty line) = RunsIn around v × RunsIn around i
  RunsIn around (node.SetElement v i e ty line) = RunsIn around v × RunsIn around i × RunsIn around e
  RunsIn around (node.Bound v upper) = RunsIn around v
  RunsIn around (node.Lib code args line) = AllRunIn around args
  RunsIn around (node.Write e w wide ty line) = RunsIn around e × RunsIn around w
  RunsIn around (node.Abort line) = Unit {0}
  RunsIn None (node.Proc of) = ⊥
  RunsIn (Some wholes) (node.Proc of) = BodyRuns wholes of
  RunsIn None (node.Call f args line) = ⊥
  RunsIn (Some wholes) (node.Call f args line) = RunsIn (Some wholes) f × AllRunIn (Some wholes) args
  RunsIn None (node.Scan text a f q s line) = ⊥
  RunsIn (Some wholes) (node.Scan text a f q s line) = RunsIn (Some wholes) a × RunsIn (Some wholes) f

  pub AllRunIn : Option (List (List Field)) → Nodes → Type 0
  AllRunIn around none = Unit {0}
  AllRunIn around (more first rest) = RunsIn around first × AllRunIn around rest

  pub ArmsRunIn : Option (List (List Field)) → Arms → Type 0
  ArmsRunIn around no_arms = Unit {0}
  ArmsRunIn around (more_arms (arm labels a) rest) = AllRunIn around labels × RunsIn around a × ArmsRunIn around rest

  -- a body inside these scopes
  pub BodyRuns : List (List Field) → BodyNode → Type 0
  BodyRuns wholes (body params gives tree None line) = ArePlaces wholes params × RunsIn (Some wholes) tree
  BodyRuns wholes (body params gives tree (Some text) line) =
      (own : IsScopeText text) × ArePlaces (own.fields ∷ wholes) params × RunsIn (Some (own.fields ∷ wholes)) tree

-- without procedures
abbrev pub Runs : Node → Type 0
Runs = RunsIn None

abbrev pub AllRun : Nodes → Type 0
AllRun = AllRunIn None

abbrev pub ArmsRun : Arms → Type 0
ArmsRun = ArmsRunIn None

abbrev pub RunsWhole : BodyNode → Type 0
RunsWhole (body params gives tree scope line) = (scope ≡ None) × Runs tree
