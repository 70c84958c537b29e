-- A name that is mentioned inside more literals than it is declared inside is kept: what a clause mentions and declares is
-- among what the whole program does.
use Rattle.std.proofs.Common.{◌≡◌, ℕ, ◌+◌, ◌<◌, Bool, true, false, ◌&&◌, ◌||◌, List, [], ◌∷◌, ◌++◌, inl, inr, arith, refl, sym, ◌∙◌, subst}
use Rattle.std.specs.Prelude.{if◌then◌else◌, map}
use Rattle.std.proofs.lemmas.Bool.{eq-eqb, lt-ltb}
use Rattle.std.proofs.lemmas.List.{append_assoc}
use Rattle.ps_typing.specs.ps_base.TyView.{TyView}
use Rattle.ps_typing.specs.ps_program.Node.{Node, Nodes, none, more, Arms, no_arms, more_arms, arm}
use Rattle.ps_typing.specs.ps_program.Parts.{Part, operand, label, branch, literal, fold}
use Rattle.ps_typing.specs.ps_program.inside.Listed.{parts_of, parts_all, parts_arms, part_as}
use Rattle.ps_typing.proofs.of_ps_program.PartLemmas.{fold_parts}
use Rattle.ps_typing.specs.Mentions.{Seen, deeper, joined, own_mention, mentions, own_declared, declarations, is_mentioned_deeper, kept_of, is_among}
use Rattle.ps_typing.specs.WellTyped.{Some_is, Claim, ◌has◌, all_have, arms_have, Arguments, Rule}
use Rattle.ps_typing.specs.WellTyped as rule

pub some_left : {A : Type 0} (P : A → Type 0) (xs ys : List A) → Some_is P xs → Some_is P (xs ++ ys)
some_left P (x ∷ xs) ys (inl h) = inl h
some_left P (x ∷ xs) ys (inr h) = inr (some_left P xs ys h)
some_left P [] ys h = absurd h

pub some_right : {A : Type 0} (P : A → Type 0) (xs ys : List A) → Some_is P ys → Some_is P (xs ++ ys)
some_right P [] ys h = h
some_right P (x ∷ xs) ys h = inr (some_right P xs ys h)

abbrev pub IsSeen : ℕ → ℕ → Seen → Type 0
IsSeen name literals it = (it.name ≡ name) × (it.literals ≡ literals)

-- what is seen in a clause inside so many literals is among all that is seen
abbrev pub Within : List Seen → ℕ → List Seen → Type 0
Within found depth all = (name literals : ℕ) → Some_is (IsSeen name literals) found → Some_is (IsSeen name (literals + depth)) all

some_deeper : (found : List Seen) (name literals : ℕ) → Some_is (IsSeen name literals) found → Some_is (IsSeen name (literals + 1)) (map deeper found)
some_deeper [] name literals h = h
some_deeper (it ∷ rest) name literals (inl h) = let e = h.1 in inl (h.0, omega arith)
some_deeper (it ∷ rest) name literals (inr h) = inr (some_deeper rest name literals h)

module _ (own : Node → List Seen) (all : List Seen) where
  abbrev seen_in : Node → List Seen
  seen_in = fold (λ clause parts. own clause ++ joined parts)

  abbrev AllWithin : ℕ → List (Part Node) → Type 0
  AllWithin depth [] = Unit {0}
  AllWithin depth (operand c ∷ rest) = Within (seen_in c) depth all × AllWithin depth rest
  AllWithin depth (label c ∷ rest) = Within (seen_in c) depth all × AllWithin depth rest
  AllWithin depth (branch c ∷ rest) = Within (seen_in c) depth all × AllWithin depth rest
  AllWithin depth (literal c ∷ rest) = Within (seen_in c) (depth + 1) all × AllWithin depth rest

  first_within : (xs ys : List Seen) (depth : ℕ) → Within (xs ++ ys) depth all → Within xs depth all
  first_within xs ys depth h = λ name literals found. h name literals (some_left (IsSeen name literals) xs ys found)

  rest_within : (xs ys : List Seen) (depth : ℕ) → Within (xs ++ ys) depth all → Within ys depth all
  rest_within xs ys depth h = λ name literals found. h name literals (some_right (IsSeen name literals) xs ys found)

  deeper_within : (found : List Seen) (depth : ℕ) → Within (map deeper found) depth all → Within found (depth + 1) all
  deeper_within found depth h = λ name literals f.
      let e : literals + 1 + depth ≡ literals + (depth + 1) = omega arith in
      subst (λ (n : ℕ). Some_is (IsSeen name n) all) e (h name (literals + 1) (some_deeper found name literals f))

  all_within : (depth : ℕ) (parts : List (Part Node)) → Within (joined (map (part_as seen_in) parts)) depth all → AllWithin depth parts
  all_within depth [] h = tt
  all_within depth (operand c ∷ rest) h = (first_within (seen_in c) _ depth h, all_within depth rest (rest_within (seen_in c) _ depth h))
  all_within depth (label c ∷ rest) h = (first_within (seen_in c) _ depth h, all_within depth rest (rest_within (seen_in c) _ depth h))
  all_within depth (branch c ∷ rest) h = (first_within (seen_in c) _ depth h, all_within depth rest (rest_within (seen_in c) _ depth h))
  all_within depth (literal c ∷ rest) h = (
    deeper_within (seen_in c) depth (first_within (map deeper (seen_in c)) _ depth h),
    all_within depth rest
        (rest_within (map deeper (seen_in c)) _ depth h),
  )

  parts_within : (depth : ℕ) (clause : Node) → Within (seen_in clause) depth all → Within (own clause) depth all × AllWithin depth (parts_of clause)
  parts_within depth clause h =
      let whole = subst (λ (found : List Seen). Within found depth all) (fold_parts (λ c parts. own c ++ joined parts) clause) h in
      (first_within (own clause) _ depth whole, all_within depth (parts_of clause) (rest_within (own clause) _ depth whole))

-- what a clause inside so many literals mentions and declares is among all mentions and declarations of the program
pub record Covered (mentioned declared : List Seen) (depth : ℕ) (clause : Node) : Type 0 where
  pub mentions_are : Within (mentions clause) depth mentioned
  pub declarations_are : Within (declarations clause) depth declared

abbrev pub PartsCovered : List Seen → List Seen → ℕ → List (Part Node) → Type 0
PartsCovered mentioned declared depth [] = Unit {0}
PartsCovered mentioned declared depth (operand c ∷ rest) = Covered mentioned declared depth c × PartsCovered mentioned declared depth rest
PartsCovered mentioned declared depth (label c ∷ rest) = Covered mentioned declared depth c × PartsCovered mentioned declared depth rest
PartsCovered mentioned declared depth (branch c ∷ rest) = Covered mentioned declared depth c × PartsCovered mentioned declared depth rest
PartsCovered mentioned declared depth (literal c ∷ rest) = Covered mentioned declared (depth + 1) c × PartsCovered mentioned declared depth rest

both_within : (mentioned declared : List Seen) (depth : ℕ) (parts : List (Part Node)) → AllWithin own_mention mentioned depth parts →
    AllWithin own_declared declared depth parts → PartsCovered mentioned declared depth parts
both_within mentioned declared depth [] m d = tt
both_within mentioned declared depth (operand c ∷ rest) m d =
    (record { mentions_are = m.0; declarations_are = d.0 }, both_within mentioned declared depth rest m.1 d.1)
both_within mentioned declared depth (label c ∷ rest) m d =
    (record { mentions_are = m.0; declarations_are = d.0 }, both_within mentioned declared depth rest m.1 d.1)
both_within mentioned declared depth (branch c ∷ rest) m d =
    (record { mentions_are = m.0; declarations_are = d.0 }, both_within mentioned declared depth rest m.1 d.1)
both_within mentioned declared depth (literal c ∷ rest) m d =
    (record { mentions_are = m.0; declarations_are = d.0 }, both_within mentioned declared depth rest m.1 d.1)

pub parts_covered : (mentioned declared : List Seen) (depth : ℕ) (clause : Node) → Covered mentioned declared depth clause →
    PartsCovered mentioned declared depth (parts_of clause)
parts_covered mentioned declared depth clause h =
    both_within mentioned declared depth (parts_of clause) (parts_within own_mention mentioned depth clause h.mentions_are).1
    (parts_within own_declared declared depth clause h.declarations_are).1

pub own_mentioned : (mentioned declared : List Seen) (depth : ℕ) (clause : Node) → Covered mentioned declared depth clause →
    Within (own_mention clause) depth mentioned
own_mentioned mentioned declared depth clause h = (parts_within own_mention mentioned depth clause h.mentions_are).0

pub own_declarations : (mentioned declared : List Seen) (depth : ℕ) (clause : Node) → Covered mentioned declared depth clause →
    Within (own_declared clause) depth declared
own_declarations mentioned declared depth clause h = (parts_within own_declared declared depth clause h.declarations_are).0

-- so of the parts that a rule names
abbrev pub ClaimsCovered : List Seen → List Seen → ℕ → List Claim → Type 0
ClaimsCovered mentioned declared depth [] = Unit {0}
ClaimsCovered mentioned declared depth (claim ∷ rest) = Covered mentioned declared depth claim.clause × ClaimsCovered mentioned declared depth rest

module _ (mentioned declared : List Seen) (depth : ℕ) where
  abbrev Parts : List (Part Node) → Type 0
  Parts parts = PartsCovered mentioned declared depth parts

  abbrev Claims : List Claim → Type 0
  Claims claims = ClaimsCovered mentioned declared depth claims

  all_operands : (t : TyView) (ns : Nodes) → Parts (parts_all operand ns) → Claims (all_have t ns)
  all_operands t none h = tt
  all_operands t (more n ns) h = (h.0, all_operands t ns h.1)

  arguments : {ns : Nodes} {tys : _} {claims : List Claim} → Arguments ns tys claims → Parts (parts_all operand ns) → Claims claims
  arguments rule.no_more h = tt
  arguments (rule.one_more args) h = (h.0, arguments args h.1)

  labels_then : (t : TyView) (ns : Nodes) (rest : List (Part Node)) (claims : List Claim) → (Parts rest → Claims claims) →
      Parts (parts_all label ns ++ rest) → Claims (all_have t ns ++ claims)
  labels_then t none rest claims then_ h = then_ h
  labels_then t (more n ns) rest claims then_ h = (h.0, labels_then t ns rest claims then_ h.1)

  arms_then : (value t : TyView) (arms : Arms) (d : Node) → Parts (parts_arms arms ++ branch d ∷ []) → Claims (arms_have value t arms ++ d has t ∷ [])
  arms_then value t no_arms d h = h
  arms_then value t (more_arms (arm labels a) rest) d h =
      subst Claims (sym (append_assoc (all_have value labels) (a has t ∷ arms_have value t rest) (d has t ∷ [])))
      (labels_then value labels (branch a ∷ (parts_arms rest ++ branch d ∷ [])) (a has t ∷ (arms_have value t rest ++ d has t ∷ []))
      (λ r. (r.0, arms_then value t rest d r.1))
      (subst Parts (append_assoc (parts_all label labels) (branch a ∷ parts_arms rest) (branch d ∷ [])) h))

  pub claims_covered : {clause : Node} {claims : List Claim} {t : TyView} → Rule clause claims t → Parts (parts_of clause) → Claims claims
  claims_covered (rule.make class args) h = arguments args h
  claims_covered (rule.call args) h = (h.0, arguments args h.1)
  claims_covered (rule.lib known args) h = arguments args h
  claims_covered (rule.elems {items = items} {t = t}) h = (h.0, all_operands t items h.1)
  claims_covered (rule.case {d = d} {arms = arms} {value = value} {t = t} is) h = (h.0, arms_then value t arms d h.1)
  claims_covered other h = h

by_test : {A : Type 0} (P : A → Type 0) (b : Bool) (x y : A) → (b ≡ true → P x) → (b ≡ false → P y) → P (if b then x else y)
by_test P true x y on_true on_false = on_true refl
by_test P false x y on_true on_false = on_false refl

pub or_first : (a b : Bool) → a ≡ true → (a || b) ≡ true
or_first true b h = refl
or_first false b h = absurd cc

pub or_second : (a b : Bool) → b ≡ true → (a || b) ≡ true
or_second true b h = refl
or_second false b h = h

and_true : (a b : Bool) → a ≡ true → b ≡ true → (a && b) ≡ true
and_true true b h k = k
and_true false b h k = absurd cc

is_deeper : (mentioned : List Seen) (it : Seen) (k l : ℕ) → Some_is (IsSeen k l) mentioned → it.name ≡ k → it.literals < l →
    is_mentioned_deeper mentioned it ≡ true
is_deeper [] it k l h same below = absurd h
is_deeper (m ∷ rest) it k l (inl h) same below =
    or_first _ _ (and_true _ _ (eq-eqb m.name it.name (h.0 ∙ sym same)) (lt-ltb it.literals m.literals (let e = h.1 in omega arith)))
is_deeper (m ∷ rest) it k l (inr h) same below = or_second _ _ (is_deeper rest it k l h same below)

-- what is mentioned deeper than it is declared is among the kept names
pub among_kept : (mentioned declared : List Seen) (k d l : ℕ) → Some_is (IsSeen k l) mentioned → Some_is (IsSeen k d) declared → d < l →
    is_among (kept_of mentioned declared) k ≡ true
among_kept mentioned [] k d l m h below = absurd h
among_kept mentioned (it ∷ rest) k d l m (inl h) below =
    by_test (λ (names : List ℕ). is_among names k ≡ true) (is_mentioned_deeper mentioned it) (it.name ∷ kept_of mentioned rest) (kept_of mentioned rest)
    (λ is. or_first _ _ (eq-eqb it.name k h.0))
    (λ isnt. absurd (let is = is_deeper mentioned it k l m h.0 (let e = h.1 in omega arith) in cc))
among_kept mentioned (it ∷ rest) k d l m (inr h) below =
    by_test (λ (names : List ℕ). is_among names k ≡ true) (is_mentioned_deeper mentioned it) (it.name ∷ kept_of mentioned rest) (kept_of mentioned rest)
    (λ is. or_second _ _ (among_kept mentioned rest k d l m h below))
    (λ isnt. among_kept mentioned rest k d l m h below)
