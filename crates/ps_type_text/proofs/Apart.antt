-- Types whose texts go on in whatever way are the same where the texts are; so are the fields of classes.
use Rattle.std.proofs.Common.{◌≡◌, ◌⊎◌, inl, inr, ℕ, true, List, [], ◌∷◌, ◌++◌, refl, sym, ap, ◌∙◌, append_assoc, append-nil, arith}
use Rattle.std.specs.List.{AllByRecursion}
use Rattle.ps_base.specs.TyView.{TyView, TyViews, none, more}
use Rattle.ps_base.specs.TyView as ty
use Rattle.ps_type_text.specs.Texts.{type_text, result_text, parameters_text, further_text, Field, field_text, fields_text, further_fields, class_text, is_name_byte, IsName, IsNamed}

abbrev first : List ℕ → ℕ
first [] = 0
first (byte ∷ bytes) = byte

abbrev behind : List ℕ → List ℕ
behind [] = []
behind (byte ∷ bytes) = bytes

-- what stands after the parameters of a procedure begins with `-` or `)`
abbrev EndsParameters : List ℕ → Type 0
EndsParameters bytes = (first bytes ≡ 45) ⊎ (first bytes ≡ 41)

record Both {A : Type 0} (a b : A) (xs ys : List ℕ) : Type 0 where
  same : a ≡ b
  rest : xs ≡ ys

begins_as_type : (t : TyView) (rest bytes : List ℕ) → EndsParameters bytes → bytes ≡ type_text t ++ rest → ⊥
begins_as_type ty.Int rest bytes (inl h) e = omega (arith, h, ap first e)
begins_as_type ty.Int rest bytes (inr h) e = omega (arith, h, ap first e)
begins_as_type ty.Bool rest bytes (inl h) e = omega (arith, h, ap first e)
begins_as_type ty.Bool rest bytes (inr h) e = omega (arith, h, ap first e)
begins_as_type ty.Str rest bytes (inl h) e = omega (arith, h, ap first e)
begins_as_type ty.Str rest bytes (inr h) e = omega (arith, h, ap first e)
begins_as_type ty.Pntr rest bytes (inl h) e = omega (arith, h, ap first e)
begins_as_type ty.Pntr rest bytes (inr h) e = omega (arith, h, ap first e)
begins_as_type ty.Void rest bytes (inl h) e = omega (arith, h, ap first e)
begins_as_type ty.Void rest bytes (inr h) e = omega (arith, h, ap first e)
begins_as_type (ty.Vector t) rest bytes (inl h) e = omega (arith, h, ap first e)
begins_as_type (ty.Vector t) rest bytes (inr h) e = omega (arith, h, ap first e)
begins_as_type (ty.Proc ps g) rest bytes (inl h) e = omega (arith, h, ap first e)
begins_as_type (ty.Proc ps g) rest bytes (inr h) e = omega (arith, h, ap first e)

-- what is given, where the types that are given are told apart
results_apart : (g h : TyView) (xs ys : List ℕ) → ((xs ys : List ℕ) → type_text g ++ xs ≡ type_text h ++ ys → Both g h xs ys) → result_text g (type_text g) ++ (41 ∷ xs) ≡ result_text h (type_text h) ++ (41 ∷ ys) → Both g h xs ys
results_apart ty.Void ty.Void xs ys types e = record { same = refl; rest = ap behind e }
results_apart ty.Void h xs ys types e = absurd (omega (arith, ap first e))
results_apart g ty.Void xs ys types e = absurd (omega (arith, ap first e))
results_apart g h xs ys types e =
    let told = types (41 ∷ xs) (41 ∷ ys) (ap behind (ap behind e)) in
    record { same = told.same; rest = ap behind told.rest }

-- the texts of the parts of a procedure type after `proc(`, joined the other way round
procedure_text : (ps : TyViews) (g : TyView) (xs : List ℕ) → (parameters_text ps ++ (result_text g (type_text g) ++ 41 ∷ [])) ++ xs ≡ parameters_text ps ++ (result_text g (type_text g) ++ (41 ∷ xs))
procedure_text ps g xs = append_assoc (parameters_text ps) (result_text g (type_text g) ++ 41 ∷ []) xs ∙ ap (λ l. parameters_text ps ++ l) (append_assoc (result_text g (type_text g)) (41 ∷ []) xs)

ends_parameters : (g : TyView) (xs : List ℕ) → EndsParameters (result_text g (type_text g) ++ (41 ∷ xs))
ends_parameters ty.Void xs = inr refl
ends_parameters g xs = inl refl

mutual
  types_apart : (a b : TyView) (xs ys : List ℕ) → type_text a ++ xs ≡ type_text b ++ ys → Both a b xs ys
  types_apart ty.Int ty.Int xs ys e = record { same = refl; rest = ap behind (ap behind (ap behind e)) }
  types_apart ty.Int b xs ys e = absurd (omega (arith, ap first e))
  types_apart ty.Bool ty.Bool xs ys e = record { same = refl; rest = ap behind (ap behind (ap behind (ap behind e))) }
  types_apart ty.Bool b xs ys e = absurd (omega (arith, ap first e))
  types_apart ty.Str ty.Str xs ys e = record { same = refl; rest = ap behind (ap behind (ap behind (ap behind (ap behind (ap behind e))))) }
  types_apart ty.Str b xs ys e = absurd (omega (arith, ap first e))
  types_apart ty.Pntr ty.Pntr xs ys e = record { same = refl; rest = ap behind (ap behind (ap behind (ap behind e))) }
  types_apart ty.Pntr (ty.Proc qs h) xs ys e = absurd (omega (arith, ap first (ap behind e)))
  types_apart ty.Pntr b xs ys e = absurd (omega (arith, ap first e))
  types_apart ty.Void ty.Void xs ys e = record { same = refl; rest = ap behind (ap behind (ap behind (ap behind e))) }
  types_apart ty.Void b xs ys e = absurd (omega (arith, ap first e))
  types_apart (ty.Vector a) (ty.Vector b) xs ys e =
      let told = types_apart a b xs ys (ap behind e) in
      record { same = ap ty.Vector told.same; rest = told.rest }
  types_apart (ty.Vector a) b xs ys e = absurd (omega (arith, ap first e))
  types_apart (ty.Proc ps g) (ty.Proc qs h) xs ys e =
      let inside = sym (procedure_text ps g xs) ∙ ap behind (ap behind (ap behind (ap behind (ap behind e)))) ∙ procedure_text qs h ys in
      let parameters = parameters_apart ps qs (result_text g (type_text g) ++ (41 ∷ xs)) (result_text h (type_text h) ++ (41 ∷ ys)) (ends_parameters g xs) (ends_parameters h ys) inside in
      let given = results_apart g h xs ys (λ xs' ys' e'. types_apart g h xs' ys' e') parameters.rest in
      record { same = ap (λ l. ty.Proc l g) parameters.same ∙ ap (ty.Proc qs) given.same; rest = given.rest }
  types_apart (ty.Proc ps g) ty.Pntr xs ys e = absurd (omega (arith, ap first (ap behind e)))
  types_apart (ty.Proc ps g) b xs ys e = absurd (omega (arith, ap first e))

  parameters_apart : (ps qs : TyViews) (xs ys : List ℕ) → EndsParameters xs → EndsParameters ys → parameters_text ps ++ xs ≡ parameters_text qs ++ ys → Both ps qs xs ys
  parameters_apart none none xs ys x y e = record { same = refl; rest = e }
  parameters_apart none (more q qs) xs ys x y e = absurd (begins_as_type q (further_text qs ++ ys) xs x (e ∙ append_assoc (type_text q) (further_text qs) ys))
  parameters_apart (more p ps) none xs ys x y e = absurd (begins_as_type p (further_text ps ++ xs) ys y (sym e ∙ append_assoc (type_text p) (further_text ps) xs))
  parameters_apart (more p ps) (more q qs) xs ys x y e =
      let one = types_apart p q (further_text ps ++ xs) (further_text qs ++ ys) (sym (append_assoc (type_text p) (further_text ps) xs) ∙ e ∙ append_assoc (type_text q) (further_text qs) ys) in
      let others = further_apart ps qs xs ys x y one.rest in
      record { same = ap (λ t. more t ps) one.same ∙ ap (more q) others.same; rest = others.rest }

  further_apart : (ps qs : TyViews) (xs ys : List ℕ) → EndsParameters xs → EndsParameters ys → further_text ps ++ xs ≡ further_text qs ++ ys → Both ps qs xs ys
  further_apart none none xs ys x y e = record { same = refl; rest = e }
  further_apart none (more q qs) xs ys (inl x) y e = absurd (omega (arith, x, ap first e))
  further_apart none (more q qs) xs ys (inr x) y e = absurd (omega (arith, x, ap first e))
  further_apart (more p ps) none xs ys x (inl y) e = absurd (omega (arith, y, ap first e))
  further_apart (more p ps) none xs ys x (inr y) e = absurd (omega (arith, y, ap first e))
  further_apart (more p ps) (more q qs) xs ys x y e =
      let one = types_apart p q (further_text ps ++ xs) (further_text qs ++ ys) (sym (append_assoc (type_text p) (further_text ps) xs) ∙ ap behind e ∙ append_assoc (type_text q) (further_text qs) ys) in
      let others = further_apart ps qs xs ys x y one.rest in
      record { same = ap (λ t. more t ps) one.same ∙ ap (more q) others.same; rest = others.rest }

pub same_type_text : (a b : TyView) → type_text a ≡ type_text b → a ≡ b
same_type_text a b e = (types_apart a b [] [] (append-nil (type_text a) ∙ e ∙ sym (append-nil (type_text b)))).same

-- what stands after a name doesn't begin with a byte of a name
abbrev EndsName : List ℕ → Type 0
EndsName bytes = is_name_byte (first bytes) ≡ true → ⊥

names_apart : (name other xs ys : List ℕ) → IsName name → IsName other → EndsName xs → EndsName ys → name ++ xs ≡ other ++ ys → Both name other xs ys
names_apart [] [] xs ys n o x y e = record { same = refl; rest = e }
names_apart [] (b ∷ other) xs ys n o x y e = absurd (x (ap is_name_byte (ap first e) ∙ o.0))
names_apart (a ∷ name) [] xs ys n o x y e = absurd (y (ap is_name_byte (sym (ap first e)) ∙ n.0))
names_apart (a ∷ name) (b ∷ other) xs ys n o x y e =
    let told = names_apart name other xs ys n.1 o.1 x y (ap behind e) in
    record { same = ap (λ c. c ∷ name) (ap first e) ∙ ap (λ l. b ∷ l) told.same; rest = told.rest }

bracket_ends : (xs : List ℕ) → EndsName (40 ∷ xs)
unfolding is_name_byte
bracket_ends xs h = cc

closing_ends : (xs : List ℕ) → EndsName (41 ∷ xs)
unfolding is_name_byte
closing_ends xs h = cc

further_end : (fields : List Field) → EndsName (further_fields fields ++ 41 ∷ [])
unfolding is_name_byte
further_end [] h = cc
further_end (f ∷ fields) h = cc

field_is : (f : Field) (t : TyView) (n : List ℕ) → f.ty ≡ t → f.name ≡ n → (g : Field) → g.ty ≡ t → g.name ≡ n → f ≡ g
field_is f t n ft fn g gt gn = ap (λ u. record { ty = u; name = f.name }) (ft ∙ sym gt) ∙ ap (λ m. record { ty = g.ty; name = m }) (fn ∙ sym gn)

field_apart : (f g : Field) (xs ys : List ℕ) → IsName f.name → IsName g.name → EndsName xs → EndsName ys → field_text f ++ xs ≡ field_text g ++ ys → Both f g xs ys
field_apart f g xs ys n o x y e =
    let one = types_apart f.ty g.ty ((32 ∷ f.name) ++ xs) ((32 ∷ g.name) ++ ys) (sym (append_assoc (type_text f.ty) (32 ∷ f.name) xs) ∙ e ∙ append_assoc (type_text g.ty) (32 ∷ g.name) ys) in
    let told = names_apart f.name g.name xs ys n o x y (ap behind one.rest) in
    record { same = field_is f g.ty g.name one.same told.same g refl refl; rest = told.rest }

further_fields_apart : (fs gs : List Field) → AllByRecursion (λ f. IsName f.name) fs → AllByRecursion (λ f. IsName f.name) gs → further_fields fs ++ 41 ∷ [] ≡ further_fields gs ++ 41 ∷ [] → fs ≡ gs
further_fields_apart [] [] n o e = refl
further_fields_apart [] (g ∷ gs) n o e = absurd (omega (arith, ap first e))
further_fields_apart (f ∷ fs) [] n o e = absurd (omega (arith, ap first e))
further_fields_apart (f ∷ fs) (g ∷ gs) n o e =
    let one = field_apart f g (further_fields fs ++ 41 ∷ []) (further_fields gs ++ 41 ∷ []) n.0 o.0 (further_end fs) (further_end gs) (sym (append_assoc (field_text f) (further_fields fs) (41 ∷ [])) ∙ ap behind e ∙ append_assoc (field_text g) (further_fields gs) (41 ∷ [])) in
    ap (λ h. h ∷ fs) one.same ∙ ap (λ l. g ∷ l) (further_fields_apart fs gs n.1 o.1 one.rest)

fields_apart : (fs gs : List Field) → AllByRecursion (λ f. IsName f.name) fs → AllByRecursion (λ f. IsName f.name) gs → fields_text fs ++ 41 ∷ [] ≡ fields_text gs ++ 41 ∷ [] → fs ≡ gs
fields_apart [] [] n o e = refl
fields_apart [] (g ∷ gs) n o e = absurd (begins_as_type g.ty ((32 ∷ g.name) ++ (further_fields gs ++ 41 ∷ [])) (41 ∷ []) (inr refl) (e ∙ append_assoc (field_text g) (further_fields gs) (41 ∷ []) ∙ append_assoc (type_text g.ty) (32 ∷ g.name) (further_fields gs ++ 41 ∷ [])))
fields_apart (f ∷ fs) [] n o e = absurd (begins_as_type f.ty ((32 ∷ f.name) ++ (further_fields fs ++ 41 ∷ [])) (41 ∷ []) (inr refl) (sym e ∙ append_assoc (field_text f) (further_fields fs) (41 ∷ []) ∙ append_assoc (type_text f.ty) (32 ∷ f.name) (further_fields fs ++ 41 ∷ [])))
fields_apart (f ∷ fs) (g ∷ gs) n o e =
    let one = field_apart f g (further_fields fs ++ 41 ∷ []) (further_fields gs ++ 41 ∷ []) n.0 o.0 (further_end fs) (further_end gs) (sym (append_assoc (field_text f) (further_fields fs) (41 ∷ [])) ∙ e ∙ append_assoc (field_text g) (further_fields gs) (41 ∷ [])) in
    ap (λ h. h ∷ fs) one.same ∙ ap (λ l. g ∷ l) (further_fields_apart fs gs n.1 o.1 one.rest)

pub same_class_text : (name other : List ℕ) (fields others : List Field) → IsNamed name fields → IsNamed other others → class_text name fields ≡ class_text other others → (name ≡ other) × (fields ≡ others)
same_class_text name other fields others n o e =
    let told = names_apart name other (40 ∷ (fields_text fields ++ 41 ∷ [])) (40 ∷ (fields_text others ++ 41 ∷ [])) n.class o.class (bracket_ends (fields_text fields ++ 41 ∷ [])) (bracket_ends (fields_text others ++ 41 ∷ [])) e in
    (told.same, fields_apart fields others n.each o.each (ap behind told.rest))
