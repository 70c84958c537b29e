-- A text of a class whose names are those of a text is read in one way as a class with so many fields: their types are the same in each.
use Rattle.std.proofs.Common.{◌≡◌, ◌⊎◌, ℕ, ◌+◌, ◌-◌, Bool, true, false, true≢false, List, [], ◌∷◌, ◌++◌, length, inl, inr, refl, sym, ap, ◌∙◌, subst, append_assoc, arith, eq-eqb, ne_eqb}
use Rattle.std.specs.Prelude.{nat_eq, codes, if◌then◌else◌}
use Rattle.std.specs.List.{AllByRecursion}
use Rattle.ps_meaning.specs.ps_base.TyView.{TyView, TyViews, none, more}
use Rattle.ps_meaning.specs.ps_base.TyView as types
use Rattle.ps_type_text.specs.Texts.{type_text, result_text, parameters_text, further_text, Field, field_text, fields_text, further_fields, class_text, is_name_byte, IsName, IsNamed}
use Rattle.ps_meaning.specs.ps_typing.WellTyped.{types_of_fields}
use Rattle.ps_soundness.proofs.Telling.{Told}

abbrev one_if : Bool → ℕ
one_if true = 1
one_if false = 0

-- how often a byte stands in a text
abbrev count : ℕ → List ℕ → ℕ
count mark [] = 0
count mark (b ∷ bs) = one_if (nat_eq b mark) + count mark bs

count-append : (mark : ℕ) (xs ys : List ℕ) → count mark (xs ++ ys) ≡ count mark xs + count mark ys
count-append mark [] ys = omega arith
count-append mark (b ∷ xs) ys = let h = count-append mark xs ys in omega arith

-- the mark itself is counted
one_at : (mark : ℕ) (bs : List ℕ) → count mark (mark ∷ bs) ≡ 1 + count mark bs
one_at mark bs = ap (λ (b : Bool). one_if b + count mark bs) (eq-eqb mark mark refl)

counted : (mark b : ℕ) (bs : List ℕ) → b ≡ mark → count mark (b ∷ bs) ≡ 0 → ⊥
counted mark b bs e none_is = let one = ap (λ (n : ℕ). count mark (n ∷ bs)) e ∙ one_at mark bs in omega arith

behind_count : (mark b : ℕ) (bs : List ℕ) → count mark (b ∷ bs) ≡ 0 → count mark bs ≡ 0
behind_count mark b bs h = omega arith

-- names and types have none of some bytes
name_has_none : (mark : ℕ) (name : List ℕ) → is_name_byte mark ≡ false → IsName name → count mark name ≡ 0
name_has_none mark [] other n = refl
name_has_none mark (b ∷ name) other n =
    let here = ne_eqb b mark (λ e. true≢false (sym n.0 ∙ ap is_name_byte e ∙ other)) in
    ap (λ (t : Bool). one_if t + count mark name) here ∙ (let h = name_has_none mark name other n.1 in omega arith)

none_of_two : (mark : ℕ) (xs ys : List ℕ) → count mark xs ≡ 0 → count mark ys ≡ 0 → count mark (xs ++ ys) ≡ 0
none_of_two mark xs ys h k = let e = count-append mark xs ys in omega arith

-- a byte that none of the words of types has
record IsApart (mark : ℕ) : Type 0 where
  int : count mark (codes "int") ≡ 0
  bool : count mark (codes "bool") ≡ 0
  string : count mark (codes "string") ≡ 0
  pntr : count mark (codes "pntr") ≡ 0
  void : count mark (codes "void") ≡ 0
  star : count mark (codes "*") ≡ 0
  begins : count mark (codes "proc(") ≡ 0
  arrow : count mark (codes "->") ≡ 0
  ends : count mark (codes ")") ≡ 0
  comma : count mark (codes ",") ≡ 0

blank_apart : IsApart 32
blank_apart =
    record { int = refl; bool = refl; string = refl; pntr = refl; void = refl; star = refl; begins = refl; arrow = refl; ends = refl; comma = refl }

semicolon_apart : IsApart 59
semicolon_apart =
    record { int = refl; bool = refl; string = refl; pntr = refl; void = refl; star = refl; begins = refl; arrow = refl; ends = refl; comma = refl }

result_has_none : (mark : ℕ) → IsApart mark → (gives : TyView) → count mark (type_text gives) ≡ 0 →
    count mark (result_text gives (type_text gives)) ≡ 0
result_has_none mark a types.Void h = refl
result_has_none mark a gives h = none_of_two mark (codes "->") (type_text gives) a.arrow h

mutual
  type_has_none : (mark : ℕ) → IsApart mark → (t : TyView) → count mark (type_text t) ≡ 0
  type_has_none mark a types.Int = a.int
  type_has_none mark a types.Bool = a.bool
  type_has_none mark a types.Str = a.string
  type_has_none mark a types.Pntr = a.pntr
  type_has_none mark a types.Void = a.void
  type_has_none mark a (types.Vector element) = none_of_two mark (codes "*") (type_text element) a.star (type_has_none mark a element)
  type_has_none mark a (types.Proc parameters gives) =
      none_of_two mark (codes "proc(") (parameters_text parameters ++ (result_text gives (type_text gives) ++ codes ")")) a.begins
      (none_of_two mark (parameters_text parameters) (result_text gives (type_text gives) ++ codes ")") (parameters_have_none mark a parameters)
      (none_of_two mark (result_text gives (type_text gives)) (codes ")") (result_has_none mark a gives (type_has_none mark a gives)) a.ends))

  parameters_have_none : (mark : ℕ) → IsApart mark → (ts : TyViews) → count mark (parameters_text ts) ≡ 0
  parameters_have_none mark a none = refl
  parameters_have_none mark a (more t ts) =
      none_of_two mark (type_text t) (further_text ts) (type_has_none mark a t) (further_have_none mark a ts)

  further_have_none : (mark : ℕ) → IsApart mark → (ts : TyViews) → count mark (further_text ts) ≡ 0
  further_have_none mark a none = refl
  further_have_none mark a (more t ts) =
      none_of_two mark (codes ",") (type_text t ++ further_text ts) a.comma
      (none_of_two mark (type_text t) (further_text ts) (type_has_none mark a t) (further_have_none mark a ts))

-- how many brackets stand open after a text
abbrev moved : ℕ → ℕ → ℕ
moved depth b = if nat_eq b 40 then depth + 1 else if nat_eq b 41 then depth - 1 else depth

abbrev level : ℕ → List ℕ → ℕ
level depth [] = depth
level depth (b ∷ bs) = level (moved depth b) bs

level-append : (depth : ℕ) (xs ys : List ℕ) → level depth (xs ++ ys) ≡ level (level depth xs) ys
level-append depth [] ys = refl
level-append depth (b ∷ xs) ys = level-append (moved depth b) xs ys

-- texts that close what they open
abbrev IsClosed : List ℕ → Type 0
IsClosed xs = (depth : ℕ) → level depth xs ≡ depth

closed_two : (xs ys : List ℕ) → IsClosed xs → IsClosed ys → IsClosed (xs ++ ys)
closed_two xs ys h k depth = level-append depth xs ys ∙ ap (λ (n : ℕ). level n ys) (h depth) ∙ k depth

result_closed : (gives : TyView) → IsClosed (type_text gives) → IsClosed (result_text gives (type_text gives))
result_closed types.Void h depth = refl
result_closed gives h depth = h depth

closing : (depth : ℕ) → level (depth + 1) (codes ")") ≡ depth
closing depth = omega arith

mutual
  type_closed : (t : TyView) → IsClosed (type_text t)
  type_closed types.Int depth = refl
  type_closed types.Bool depth = refl
  type_closed types.Str depth = refl
  type_closed types.Pntr depth = refl
  type_closed types.Void depth = refl
  type_closed (types.Vector element) depth = type_closed element depth
  type_closed (types.Proc parameters gives) depth =
      level-append (depth + 1) (parameters_text parameters) (result_text gives (type_text gives) ++ codes ")")
      ∙ ap (λ (n : ℕ). level n (result_text gives (type_text gives) ++ codes ")")) (parameters_closed parameters (depth + 1))
      ∙ level-append (depth + 1) (result_text gives (type_text gives)) (codes ")")
      ∙ ap (λ (n : ℕ). level n (codes ")")) (result_closed gives (type_closed gives) (depth + 1)) ∙ closing depth

  parameters_closed : (ts : TyViews) → IsClosed (parameters_text ts)
  parameters_closed none depth = refl
  parameters_closed (more t ts) depth = closed_two (type_text t) (further_text ts) (type_closed t) (further_closed ts) depth

  further_closed : (ts : TyViews) → IsClosed (further_text ts)
  further_closed none depth = refl
  further_closed (more t ts) depth = closed_two (type_text t) (further_text ts) (type_closed t) (further_closed ts) depth

-- no type stands after an opening bracket at the end of another
not_behind_bracket : (t other : TyView) (front : List ℕ) → type_text t ≡ front ++ (40 ∷ type_text other) → ⊥
not_behind_bracket t other front e =
    let whole = sym (type_closed t 0) ∙ ap (level 0) e ∙ level-append 0 front (40 ∷ type_text other) ∙ type_closed other (level 0 front + 1) in
    omega arith

abbrev first : List ℕ → ℕ
first [] = 0
first (b ∷ bs) = b

abbrev behind : List ℕ → List ℕ
behind [] = []
behind (b ∷ bs) = bs

record Both (xs ys ps qs : List ℕ) : Type 0 where
  front : xs ≡ ys
  rest : ps ≡ qs

-- what stands before the first mark is the same, and so is what stands after it
parted : (mark : ℕ) (xs ys ps qs : List ℕ) → count mark xs ≡ 0 → count mark ys ≡ 0 → xs ++ (mark ∷ ps) ≡ ys ++ (mark ∷ qs) → Both xs ys ps qs
parted mark [] [] ps qs h k e = record { front = refl; rest = ap behind e }
parted mark [] (y ∷ ys) ps qs h k e = absurd (counted mark y ys (sym (ap first e)) k)
parted mark (x ∷ xs) [] ps qs h k e = absurd (counted mark x xs (ap first e) h)
parted mark (x ∷ xs) (y ∷ ys) ps qs h k e =
    let told = parted mark xs ys ps qs (behind_count mark x xs h) (behind_count mark y ys k) (ap behind e) in
    record { front = ap (λ (b : ℕ). b ∷ xs) (ap first e) ∙ ap (λ (l : List ℕ). y ∷ l) told.front; rest = told.rest }

-- where a text begins with another one and a mark
record Goes (mark : ℕ) (xs ys ps qs : List ℕ) : Type 0 where
  tail : List ℕ
  front : ys ≡ xs ++ (mark ∷ tail)
  rest : ps ≡ tail ++ qs

goes_on : (mark b : ℕ) (xs ys ps qs : List ℕ) → Goes mark xs ys ps qs → Goes mark (b ∷ xs) (b ∷ ys) ps qs
goes_on mark b xs ys ps qs g = record { tail = g.tail; front = ap (λ (l : List ℕ). b ∷ l) g.front; rest = g.rest }

goes_from : (mark b c : ℕ) (xs ys ps qs : List ℕ) → b ≡ c → Goes mark xs ys ps qs → Goes mark (b ∷ xs) (c ∷ ys) ps qs
goes_from mark b c xs ys ps qs e g = subst (λ (n : ℕ). Goes mark (b ∷ xs) (n ∷ ys) ps qs) e (goes_on mark b xs ys ps qs g)

-- where two texts with marks after them are the same: the marks stand at one place, or one of the texts goes on
abbrev Meets : ℕ → ℕ → List ℕ → List ℕ → List ℕ → List ℕ → Type 0
Meets mark other xs ys ps qs = ((xs ≡ ys) × (mark ≡ other) × (ps ≡ qs)) ⊎ (Goes mark xs ys ps (other ∷ qs) ⊎ Goes other ys xs qs (mark ∷ ps))

first_mark : (mark other : ℕ) (xs ys ps qs : List ℕ) → xs ++ (mark ∷ ps) ≡ ys ++ (other ∷ qs) → Meets mark other xs ys ps qs
first_mark mark other [] [] ps qs e = inl (refl, ap first e, ap behind e)
first_mark mark other [] (y ∷ ys) ps qs e =
    inr (inl (record { tail = ys; front = ap (λ (b : ℕ). b ∷ ys) (sym (ap first e)); rest = ap behind e }))
first_mark mark other (x ∷ xs) [] ps qs e =
    inr (inr (record { tail = xs; front = ap (λ (b : ℕ). b ∷ xs) (ap first e); rest = sym (ap behind e) }))
first_mark mark other (x ∷ xs) (y ∷ ys) ps qs e = of (first_mark mark other xs ys ps qs (ap behind e))
  where
    of : Meets mark other xs ys ps qs → Meets mark other (x ∷ xs) (y ∷ ys) ps qs
    of (inl same) = inl (ap (λ (b : ℕ). b ∷ xs) (ap first e) ∙ ap (λ (l : List ℕ). y ∷ l) same.0, same.1, same.2)
    of (inr (inl g)) = inr (inl (goes_from mark x y xs ys ps (other ∷ qs) (ap first e) g))
    of (inr (inr g)) = inr (inr (goes_from other y x ys xs qs (mark ∷ ps) (sym (ap first e)) g))

-- the semicolons in the names of fields
abbrev in_names : List Field → ℕ
in_names [] = 0
in_names (field ∷ fields) = count 59 field.name + in_names fields

named_have_none : (fields : List Field) → AllByRecursion (λ (f : Field). IsName f.name) fields → in_names fields ≡ 0
unfolding is_name_byte
named_have_none [] h = refl
named_have_none (field ∷ fields) h =
    let here = name_has_none 59 field.name refl h.0 in
    let others = named_have_none fields h.1 in
    omega arith

field_count : (field : Field) (rest : List ℕ) → count 59 (field_text field ++ rest) ≡ count 59 field.name + count 59 rest
field_count field rest =
    let whole = count-append 59 (field_text field) rest in
    let parts = count-append 59 (type_text field.ty) (32 ∷ field.name) in
    let ty = type_has_none 59 semicolon_apart field.ty in
    omega arith

further_count : (fields : List Field) (rest : List ℕ) → count 59 (further_fields fields ++ rest) ≡ length fields + in_names fields + count 59 rest
further_count [] rest = omega arith
further_count (field ∷ fields) rest =
    let here = ap (count 59) (append_assoc (field_text field) (further_fields fields) rest) ∙ field_count field (further_fields fields ++ rest) in
    let others = further_count fields rest in
    omega arith

-- what stands after the blank of the first field
abbrev behind_field : Field → List Field → List ℕ
behind_field field fields = field.name ++ (further_fields fields ++ codes ")")

field_first : (field : Field) (fields : List Field) →
    (field_text field ++ further_fields fields) ++ codes ")" ≡ type_text field.ty ++ (32 ∷ behind_field field fields)
field_first field fields =
    append_assoc (field_text field) (further_fields fields) (codes ")")
    ∙ append_assoc (type_text field.ty) (32 ∷ field.name) (further_fields fields ++ codes ")")

class_is : (name : List ℕ) (field : Field) (fields : List Field) →
    class_text name (field ∷ fields) ≡ name ++ (40 ∷ (type_text field.ty ++ (32 ∷ behind_field field fields)))
class_is name field fields = ap (λ (l : List ℕ). name ++ (40 ∷ l)) (field_first field fields)

class_count : (name : List ℕ) (field : Field) (fields : List Field) →
    count 59 (class_text name (field ∷ fields)) ≡ count 59 name + count 59 field.name + (length fields + in_names fields)
class_count name field fields =
    let whole = count-append 59 name (40 ∷ (fields_text (field ∷ fields) ++ codes ")")) in
    let inside = ap (count 59) (append_assoc (field_text field) (further_fields fields) (codes ")")) ∙ field_count field
    (further_fields fields ++ codes ")") in
    let others = further_count fields (codes ")") in
    omega arith

has_mark : (mark : ℕ) (xs front tail : List ℕ) → xs ≡ front ++ (mark ∷ tail) → count mark xs ≡ 0 → ⊥
has_mark mark xs front tail e h =
    let whole = ap (count mark) e ∙ count-append mark front (mark ∷ tail) in
    let one = one_at mark tail in
    omega arith

nothing_behind : (mark : ℕ) (front tail : List ℕ) → [] ≡ front ++ (mark ∷ tail) → ⊥
nothing_behind mark front tail e = has_mark mark [] front tail e refl

tail_has_none : (mark other : ℕ) (xs front tail : List ℕ) → xs ≡ front ++ (other ∷ tail) → count mark xs ≡ 0 → count mark tail ≡ 0
tail_has_none mark other xs front tail e h = let whole = ap (count mark) e ∙ count-append mark front (other ∷ tail) in omega arith

-- after the blank of a field no bracket opens before a semicolon
no_bracket : (name : List ℕ) (fields : List Field) (front rest : List ℕ) → IsName name → count 59 front ≡ 0 →
    name ++ (further_fields fields ++ codes ")") ≡ front ++ (40 ∷ rest) → ⊥
unfolding is_name_byte
no_bracket name [] front rest named h e = of (first_mark 41 40 name front [] rest e)
  where
    of : Meets 41 40 name front [] rest → ⊥
    of (inl same) = omega (arith, same.1)
    of (inr (inl g)) = nothing_behind 40 g.tail rest g.rest
    of (inr (inr g)) = has_mark 40 name front g.tail g.front (name_has_none 40 name refl named)
no_bracket name (field ∷ fields) front rest named h e =
    of (first_mark 59 40 name front ((field_text field ++ further_fields fields) ++ codes ")") rest e)
  where
    of : Meets 59 40 name front ((field_text field ++ further_fields fields) ++ codes ")") rest → ⊥
    of (inl same) = omega (arith, same.1)
    of (inr (inl g)) = has_mark 59 front name g.tail g.front h
    of (inr (inr g)) = has_mark 40 name front g.tail g.front (name_has_none 40 name refl named)

-- the name of a class ends at the first bracket in each reading
no_other_bracket : (field other : Field) (fields others : List Field) (front : List ℕ) → IsName field.name → count 59 front ≡ 0 →
    type_text field.ty ++ (32 ∷ behind_field field fields) ≡ front ++ (40 ∷ (type_text other.ty ++ (32 ∷ behind_field other others))) → ⊥
no_other_bracket field other fields others front named h e =
    of (first_mark 32 40 (type_text field.ty) front (behind_field field fields) last e)
  where
    last : List ℕ
    last = type_text other.ty ++ (32 ∷ behind_field other others)

    of : Meets 32 40 (type_text field.ty) front (behind_field field fields) last → ⊥
    of (inl same) = omega (arith, same.1)
    of (inr (inl g)) = no_bracket field.name fields g.tail last named (tail_has_none 59 32 front (type_text field.ty) g.tail g.front h) g.rest
    of (inr (inr g)) =
        let none = tail_has_none 32 40 (type_text field.ty) front g.tail g.front (type_has_none 32 blank_apart field.ty) in
        let told = parted 32 (type_text other.ty) g.tail (behind_field other others) (behind_field field fields)
        (type_has_none 32 blank_apart other.ty) none g.rest in
        not_behind_bracket field.ty other.ty front (g.front ∙ ap (λ (l : List ℕ). front ++ (40 ∷ l)) (sym told.front))

same_fields : (told : Told) (field other : Field) (fields others : List Field) → in_names (field ∷ fields) ≡ 0 → in_names (other ∷ others) ≡ 0 →
    length fields ≡ length others →
    type_text field.ty ++ (32 ∷ behind_field field fields) ≡ type_text other.ty ++ (32 ∷ behind_field other others) →
    types_of_fields (field ∷ fields) ≡ types_of_fields (other ∷ others)
same_fields told field other [] [] h k same e =
    ap (λ (t : TyView). more t none) (told.types field.ty other.ty (parted 32 (type_text field.ty) (type_text other.ty) (behind_field field [])
    (behind_field other []) (type_has_none 32 blank_apart field.ty) (type_has_none 32 blank_apart other.ty) e).front)
same_fields told field other [] (o ∷ os) h k same e = absurd (omega arith)
same_fields told field other (f ∷ fs) [] h k same e = absurd (omega arith)
same_fields told field other (f ∷ fs) (o ∷ os) h k same e =
    let ty = parted 32 (type_text field.ty) (type_text other.ty) (behind_field field (f ∷ fs)) (behind_field other (o ∷ os))
    (type_has_none 32 blank_apart field.ty) (type_has_none 32 blank_apart other.ty) e in
    let names = parted 59 field.name other.name ((field_text f ++ further_fields fs) ++ codes ")") ((field_text o ++ further_fields os) ++ codes ")")
    (omega arith) (omega arith) ty.rest in
    let rest = same_fields told f o fs os (omega arith) (omega arith) (omega arith) (sym (field_first f fs) ∙ names.rest ∙ field_first o os) in
    ap (λ (t : TyView). more t (types_of_fields (f ∷ fs))) (told.types field.ty other.ty ty.front) ∙ ap (more other.ty) rest

-- a text with names of a text and another reading of it with as many fields
pub same_types : (told : Told) (name other : List ℕ) (fields others : List Field) → IsNamed name fields → length fields ≡ length others →
    class_text name fields ≡ class_text other others → types_of_fields fields ≡ types_of_fields others
unfolding is_name_byte
same_types told name other [] [] named same e = refl
same_types told name other [] (o ∷ os) named same e = absurd (omega arith)
same_types told name other (f ∷ fs) [] named same e = absurd (omega arith)
same_types told name other (f ∷ fs) (o ∷ os) named same e =
    of (first_mark 40 40 name other inside outside (sym (class_is name f fs) ∙ e ∙ class_is other o os))
  where
    inside : List ℕ
    inside = type_text f.ty ++ (32 ∷ behind_field f fs)

    outside : List ℕ
    outside = type_text o.ty ++ (32 ∷ behind_field o os)

    no_brackets : count 40 name ≡ 0
    no_brackets = name_has_none 40 name refl named.class

    in_name : count 59 name ≡ 0
    in_name = name_has_none 59 name refl named.class

    counts : count 59 other + (in_names (o ∷ os)) ≡ 0
    counts =
        let here = class_count name f fs in
        let there = class_count other o os in
        let one = ap (count 59) e in
        let names = named_have_none (f ∷ fs) named.each in
        omega (arith, in_name)

    of : Meets 40 40 name other inside outside → types_of_fields (f ∷ fs) ≡ types_of_fields (o ∷ os)
    of (inl h) = same_fields told f o fs os (named_have_none (f ∷ fs) named.each) (omega (arith, counts)) (omega arith) h.2
    of (inr (inl g)) =
        absurd (no_other_bracket f o fs os g.tail named.each.0
        (tail_has_none 59 40 other name g.tail g.front (omega (arith, counts))) g.rest)
    of (inr (inr g)) = absurd (has_mark 40 name other g.tail g.front no_brackets)
