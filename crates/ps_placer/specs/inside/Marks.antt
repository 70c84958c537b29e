-- What is known of each name of a clause that stands inside so many literals: inside how many it is mentioned at most, and
-- declared at least.
use Rattle.std.specs.Prelude.{ℕ, ◌+◌, max, min, nat_eq, nat_lt, Bool, false, Option, Some, None, List, [], ◌∷◌, map, if◌then◌else◌}
use Rattle.ps_program.specs.Node.{Node, Nodes, none, more, arm, Arms, no_arms, more_arms, BodyNode, body}
use Rattle.ps_program.specs.Parts.{Part, operand, label, branch, literal}
use Rattle.ps_typing.specs.Mentions.{Seen, seen, mentions, declarations, own_mention, own_declared, numbers}
use Rattle.ps_placer.specs.declared.survey.Survey.{Survey}
use Rattle.ps_placer.specs.inside.Tables.{value_at}

pub record Marks : Type 0 where
  pub mentioned : ℕ → ℕ
  pub declared : ℕ → Option ℕ

abbrev pub least : Option ℕ → Option ℕ → Option ℕ
least None b = b
least (Some a) None = Some a
least (Some a) (Some b) = Some (min a b)

abbrev pub no_marks : Marks
no_marks = record { mentioned = λ k. 0; declared = λ k. None }

abbrev pub join : Marks → Marks → Marks
join a b = record { mentioned = λ k. max (a.mentioned k) (b.mentioned k); declared = λ k. least (a.declared k) (b.declared k) }

-- so many literals, and those that it stands inside
abbrev pub deepest : ℕ → List Seen → ℕ → ℕ
deepest around [] k = 0
deepest around (it ∷ rest) k = max (if nat_eq it.name k then around + it.literals else 0) (deepest around rest k)

abbrev pub shallowest : ℕ → List Seen → ℕ → Option ℕ
shallowest around [] k = None
shallowest around (it ∷ rest) k = least (if nat_eq it.name k then Some (around + it.literals) else None) (shallowest around rest k)

abbrev pub marks_in : ℕ → List Seen → List Seen → Marks
marks_in around mentioned declared = record { mentioned = deepest around mentioned; declared = shallowest around declared }

abbrev pub marks : ℕ → Node → Marks
marks around n = marks_in around (mentions n) (declarations n)

-- what a clause that is no literal marks by itself
abbrev pub marks_alone : ℕ → Node → Marks
marks_alone around n = marks_in around (own_mention n) (own_declared n)

abbrev pub marks_part : ℕ → Part Node → Marks
marks_part around (operand n) = marks around n
marks_part around (label n) = marks around n
marks_part around (branch n) = marks around n
marks_part around (literal n) = marks (around + 1) n

abbrev pub marks_parts : ℕ → List (Part Node) → Marks
marks_parts around [] = no_marks
marks_parts around (part ∷ rest) = join (marks_part around part) (marks_parts around rest)

abbrev pub marks_all : ℕ → Nodes → Marks
marks_all around none = no_marks
marks_all around (more first rest) = join (marks around first) (marks_all around rest)

abbrev pub marks_arms : ℕ → Arms → Marks
marks_arms around no_arms = no_marks
marks_arms around (more_arms (arm labels a) rest) = join (marks_all around labels) (join (marks around a) (marks_arms around rest))

-- a body that stands inside so many literals, with its parameters
abbrev pub marks_body : ℕ → BodyNode → Marks
marks_body around (body params gives tree scope line) = join (marks_in around [] (map (λ k. seen k 0) (numbers params))) (marks around tree)

abbrev pub marks_of : Survey → Marks
marks_of survey = record { mentioned = λ k. value_at survey.mentioned k; declared = λ k. value_at survey.declared k }

abbrev pub is_deeper : Option ℕ → ℕ → Bool
is_deeper None mentioned = false
is_deeper (Some declared) mentioned = nat_lt declared mentioned

-- a name is kept where it is declared and mentioned deeper
abbrev pub is_kept : Marks → ℕ → Bool
is_kept it k = is_deeper (it.declared k) (it.mentioned k)
