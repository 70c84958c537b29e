-- A clause in which each name has its place, each loop and each scan its locals, and each scope its text.
use Rattle.std.specs.Prelude.{◌+◌, List, [], ◌∷◌, map}
use Rattle.ps_tree.specs.ps_base.TyView as ty
use Rattle.ps_program.specs.Node.{Param, Node, Nodes, none, more, Arm, arm, Arms, no_arms, more_arms, BodyNode, body}
use Rattle.ps_program.specs.Node as node
use Rattle.ps_type_text.specs.Texts.{Field}
use Rattle.ps_typing.specs.Mentions.{number_of, numbers, kept_names, common}
use Rattle.ps_typing.specs.Placing.{Locals, Around, with_name, with_declared, place_of, scope_text, inside, declared}

-- what has its places, and the locals after it
pub record Given (A : Type 0) : Type 0 where
  pub of : A
  pub locals : Locals

abbrev pub gives : {A : Type 0} → A → Locals → Given A
gives of locals = record { of = of; locals = locals }

-- the first, and then what follows it in the text
infixr 10 ◌>>=◌
unfoldable pub ◌>>=◌ : {A B : Type 0} → Given A → (A → Locals → Given B) → Given B
first >>= next = next first.of first.locals

unfoldable pub then_give : {A B : Type 0} → (A → B) → Given A → Given B
then_give make last = gives (make last.of) last.locals

-- the parameters take the first locals of their stacks, kept or not
abbrev pub with_params : List Param → Locals → Locals
with_params [] locals = locals
with_params (param ∷ rest) locals = with_params rest (with_name (number_of param.place) param.ty locals)

abbrev pub no_locals : Locals
no_locals = record { nums = 0; refs = 0; of = [] }

-- In the order of the text each plain name takes the next local of its stack where it is declared, a loop three of the
-- number stack before its control, and a scan three of each.
abbrev mutual
  pub placed : Around → Locals → Node → Given Node
  placed around locals (node.Int v) = gives (node.Int v) locals
  placed around locals (node.Flag b) = gives (node.Flag b) locals
  placed around locals (node.Text bytes) = gives (node.Text bytes) locals
  placed around locals node.Nil = gives node.Nil locals
  placed around locals node.Class = gives node.Class locals
  placed around locals node.Empty = gives node.Empty locals
  placed around locals (node.Name place ty) = gives (node.Name (place_of around locals place) ty) locals
  placed around locals (node.SetName place ty e) = then_give (λ e. node.SetName (place_of around locals place) ty e) (placed around locals e)
  placed around locals (node.Let place ty e) =
      let own = with_declared around (number_of place) ty locals in
      then_give (λ e. node.Let (place_of around own place) ty e) (placed around own e)
  placed around locals (node.Block scope items) =
      let kept = common (declared items) around.kept in
      then_give (node.Block (scope_text around.names kept)) (placed_all (inside around kept) locals items)
  placed around locals (node.IfDo c a) =
      placed around locals c >>= λ c l1.
      then_give (λ a. node.IfDo c a) (placed around l1 a)
  placed around locals (node.IfElse c a b) =
      placed around locals c >>= λ c l1.
      placed around l1 a >>= λ a l2.
      then_give (λ b. node.IfElse c a b) (placed around l2 b)
  placed around locals (node.While c a) =
      placed around locals c >>= λ c l1.
      then_give (λ a. node.While c a) (placed around l1 a)
  placed around locals (node.Repeat a c b) =
      placed around locals a >>= λ a l1.
      placed around l1 c >>= λ c l2.
      then_give (λ b. node.Repeat a c b) (placed around l2 b)
  placed around locals (node.For slot a b c scope control s line) =
      let k = number_of control in
      let kept = common (k ∷ []) around.kept in
      let own = with_declared around k ty.Int (record locals { nums = locals.nums + 3 }) in
      placed around own a >>= λ a l1.
      placed around l1 b >>= λ b l2.
      placed around l2 c >>= λ c l3.
      then_give (λ s. node.For locals.nums a b c (scope_text around.names kept) (place_of (inside around kept) own control) s line) (placed (inside around kept) l3 s)
  placed around locals (node.Case e arms d ty) =
      placed around locals e >>= λ e l1.
      placed_arms around l1 arms >>= λ arms l2.
      then_give (λ d. node.Case e arms d ty) (placed around l2 d)
  placed around locals (node.And a b) =
      placed around locals a >>= λ a l1.
      then_give (λ b. node.And a b) (placed around l1 b)
  placed around locals (node.Or a b) =
      placed around locals a >>= λ a l1.
      then_give (λ b. node.Or a b) (placed around l1 b)
  placed around locals (node.Not e) = then_give (λ e. node.Not e) (placed around locals e)
  placed around locals (node.Neg e line) = then_give (λ e. node.Neg e line) (placed around locals e)
  placed around locals (node.Plus e) = then_give (λ e. node.Plus e) (placed around locals e)
  placed around locals (node.Arith op a b line) =
      placed around locals a >>= λ a l1.
      then_give (λ b. node.Arith op a b line) (placed around l1 b)
  placed around locals (node.Compare op ty a b) =
      placed around locals a >>= λ a l1.
      then_give (λ b. node.Compare op ty a b) (placed around l1 b)
  placed around locals (node.Is e class) = then_give (λ e. node.Is e class) (placed around locals e)
  placed around locals (node.Join a b line) =
      placed around locals a >>= λ a l1.
      then_give (λ b. node.Join a b line) (placed around l1 b)
  placed around locals (node.Part a i n line) =
      placed around locals a >>= λ a l1.
      placed around l1 i >>= λ i l2.
      then_give (λ n. node.Part a i n line) (placed around l2 n)
  placed around locals (node.Make class args) = then_give (λ args. node.Make class args) (placed_all around locals args)
  placed around locals (node.Field e class index ty line) = then_give (λ e. node.Field e class index ty line) (placed around locals e)
  placed around locals (node.SetField p class index ty e line) =
      placed around locals p >>= λ p l1.
      then_give (λ e. node.SetField p class index ty e line) (placed around l1 e)
  placed around locals (node.Fill l u e ty line) =
      placed around locals l >>= λ l l1.
      placed around l1 u >>= λ u l2.
      then_give (λ e. node.Fill l u e ty line) (placed around l2 e)
  placed around locals (node.Elems l items ty line) =
      placed around locals l >>= λ l l1.
      then_give (λ items. node.Elems l items ty line) (placed_all around l1 items)
  placed around locals (node.Element v i ty line) =
      placed around locals v >>= λ v l1.
      then_give (λ i. node.Element v i ty line) (placed around l1 i)
  placed around locals (node.SetElement v i e ty line) =
      placed around locals v >>= λ v l1.
      placed around l1 i >>= λ i l2.
      then_give (λ e. node.SetElement v i e ty line) (placed around l2 e)
  placed around locals (node.Bound v upper) = then_give (λ v. node.Bound v upper) (placed around locals v)
  placed around locals (node.Proc of) = then_give node.Proc (placed_literal around locals of)
  placed around locals (node.Call f args line) =
      placed around locals f >>= λ f l1.
      then_give (λ args. node.Call f args line) (placed_all around l1 args)
  placed around locals (node.Lib code args line) = then_give (λ args. node.Lib code args line) (placed_all around locals args)
  placed around locals (node.Scan text a f q s line) =
      placed around (record locals { nums = locals.nums + 3; refs = locals.refs + 3 }) a >>= λ a l1.
      then_give (λ f. node.Scan text a f locals.refs locals.nums line) (placed around l1 f)
  placed around locals (node.Write e w wide ty line) =
      placed around locals e >>= λ e l1.
      then_give (λ w. node.Write e w wide ty line) (placed around l1 w)
  placed around locals (node.Abort line) = gives (node.Abort line) locals

  pub placed_all : Around → Locals → Nodes → Given Nodes
  placed_all around locals none = gives none locals
  placed_all around locals (more first rest) =
      placed around locals first >>= λ first l1. then_give (more first) (placed_all around l1 rest)

  pub placed_arms : Around → Locals → Arms → Given Arms
  placed_arms around locals no_arms = gives no_arms locals
  placed_arms around locals (more_arms (arm labels a) rest) =
      placed_all around locals labels >>= λ labels l1.
      placed around l1 a >>= λ a l2.
      then_give (more_arms (arm labels a)) (placed_arms around l2 rest)

  -- A body has locals of its own, and a scope where it keeps parameters. After a literal the locals are those before it.
  pub placed_literal : Around → Locals → BodyNode → Given BodyNode
  placed_literal around locals (body params gives_ tree scope line) =
      let kept = common (numbers params) around.kept in
      let within = inside around kept in
      let own = with_params params (record { nums = 0; refs = 0; of = locals.of }) in
      placed within own tree >>= λ tree last.
      gives (body (map (λ (param : Param). record param { place = place_of within own param.place }) params) gives_ tree (scope_text around.names kept) line) (record last { nums = locals.nums; refs = locals.refs })

abbrev pub placed_program : List Field → BodyNode → BodyNode
placed_program names program = (placed_literal (record { names = names; kept = kept_names program; scopes = [] }) no_locals program).of
