-- Which names are kept: those that are mentioned inside more literals than they are declared inside. A name is told by its
-- number, which is its place until it has a better one.
use Rattle.std.specs.Prelude.{ℕ, ◌+◌, nat_eq, nat_lt, Bool, ◌&&◌, List, [], ◌∷◌, ◌++◌, map, if◌then◌else◌}
use Rattle.std.specs.List.{list_any}
use Rattle.ps_program.specs.declared.place.Place.{Place}
use Rattle.ps_program.specs.declared.place.Place.TheVariants.{Plain, Kept}
use Rattle.ps_program.specs.Node.{Param, Node, BodyNode, body}
use Rattle.ps_program.specs.Node as node
use Rattle.ps_program.specs.Parts.{Part, operand, label, branch, literal, fold}

abbrev pub number_of : Place → ℕ
number_of (Plain slot) = slot
number_of (Kept up slot) = slot

-- a name, and how many literals of a clause it stands inside
pub record Seen : Type 0 where
  pub name : ℕ
  pub literals : ℕ

abbrev pub seen : ℕ → ℕ → Seen
seen name literals = record { name = name; literals = literals }

abbrev pub deeper : Seen → Seen
deeper it = seen it.name (it.literals + 1)

-- what is seen in the parts of a clause, in the order of the text
abbrev pub joined : List (Part (List Seen)) → List Seen
joined [] = []
joined (operand found ∷ rest) = found ++ joined rest
joined (label found ∷ rest) = found ++ joined rest
joined (branch found ∷ rest) = found ++ joined rest
joined (literal found ∷ rest) = map deeper found ++ joined rest

-- a name is mentioned where it is read or assigned
abbrev pub own_mention : Node → List Seen
own_mention (node.Name place ty) = seen (number_of place) 0 ∷ []
own_mention (node.SetName place ty e) = seen (number_of place) 0 ∷ []
own_mention _ = []

abbrev pub mentions : Node → List Seen
mentions = fold (λ clause parts. own_mention clause ++ joined parts)

abbrev pub numbers : List Param → List ℕ
numbers params = map (λ (param : Param). number_of param.place) params

-- a name is declared by a `let`, as the control of a loop, or as a parameter, which stands inside its literal
abbrev pub own_declared : Node → List Seen
own_declared (node.Let place ty e) = seen (number_of place) 0 ∷ []
own_declared (node.For slot a b c scope control s line) = seen (number_of control) 0 ∷ []
own_declared (node.Proc (body params gives tree scope line)) = map (λ k. seen k 1) (numbers params)
own_declared _ = []

abbrev pub declarations : Node → List Seen
declarations = fold (λ clause parts. own_declared clause ++ joined parts)

-- whether a name that is declared so is mentioned deeper
abbrev pub is_mentioned_deeper : List Seen → Seen → Bool
is_mentioned_deeper mentioned it = list_any (λ (m : Seen). nat_eq m.name it.name && nat_lt it.literals m.literals) mentioned

abbrev pub kept_of : List Seen → List Seen → List ℕ
kept_of mentioned [] = []
kept_of mentioned (it ∷ rest) = if is_mentioned_deeper mentioned it then it.name ∷ kept_of mentioned rest else kept_of mentioned rest

abbrev pub kept_names : BodyNode → List ℕ
kept_names (body params gives tree scope line) = kept_of (mentions tree) (map (λ k. seen k 0) (numbers params) ++ declarations tree)

abbrev pub is_among : List ℕ → ℕ → Bool
is_among names k = list_any (λ name. nat_eq name k) names

-- those of the first that are among the second, in the order of the first
abbrev pub common : List ℕ → List ℕ → List ℕ
common [] kept = []
common (k ∷ ks) kept = if is_among kept k then k ∷ common ks kept else common ks kept
