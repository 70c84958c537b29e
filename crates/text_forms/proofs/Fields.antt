-- The fields of a class, step by step.
use Rattle.std.proofs.Common.{◌≡◌, ◌↔◌, inr, ℕ, Bool, false, List, [], ◌∷◌, ◌++◌, IsTrue, nat_eq, refl, sym, ap, ◌∙◌, append_assoc, arith}
use Rattle.std.specs.Prelude.{codes, slice_index}
use Rattle.std.specs.Cmp.Lexicographic.{pointwise}
use Rattle.std.proofs.lemmas.Bool.Decides.{Decides-eqb}
use Rattle.std.proofs.lemmas.Slice.Eq.{slice_eq-Decides}
use Rattle.std.specs.List.{AllByRecursion}
use Rattle.ps_type_text.specs.Texts.{type_text, Field, field_text, fields_text, further_fields, is_name_byte}
use Rattle.text_forms.specs.Strict.{IsProperField}
use Rattle.text_forms.specs.inside.Reading.{IsOnly, AreSame, BeginsType, BeginsName, BeginsField, AreFields, AreFurther}
use Rattle.text_forms.proofs.Reading.{NoWord, NoType, first, behind, begins-as-type}

abbrev pub NoField : ℕ → List ℕ → Type 0
NoField depth bytes = (rest : List ℕ) → BeginsField depth bytes rest → ⊥

-- a field is a type, a blank and a name
typed : (depth : ℕ) (bytes rest : List ℕ) → (b : BeginsField depth bytes rest) → BeginsType depth bytes (32 ∷ (b.field.name ++ rest))
typed depth bytes rest b = record { ty = b.field.ty; valued = b.proper.ty; spelled = b.spelled ∙ append_assoc (type_text b.field.ty) (32 ∷ b.field.name) rest }

pub field-untyped : (depth : ℕ) (bytes : List ℕ) → NoType depth bytes → NoField depth bytes
field-untyped depth bytes untyped rest b = untyped (32 ∷ (b.field.name ++ rest)) (typed depth bytes rest b)

pub field-unblanked : (depth : ℕ) (bytes blank : List ℕ) → IsOnly (BeginsType depth bytes) blank → NoWord (codes " ") blank → NoField depth bytes
field-unblanked depth bytes blank o lacking rest b =
    lacking (b.field.name ++ rest) (record { spelled = sym (o.only (32 ∷ (b.field.name ++ rest)) (typed depth bytes rest b)) })

pub field-same : (depth : ℕ) (bytes blank name : List ℕ) → IsOnly (BeginsType depth bytes) blank → blank ≡ codes " " ++ name
    → AreSame (BeginsField depth bytes) (BeginsName name)
field-same depth bytes blank name o is = record {
  there = λ rest b. record {
    name = b.field.name;
    proper = b.proper.name;
    ends = b.ends;
    spelled = ap behind (sym is ∙ sym (o.only (32 ∷ (b.field.name ++ rest)) (typed depth bytes rest b)));
  };
  back = λ rest n. record {
    field = record { ty = o.left.ty; name = n.name };
    proper = record { ty = o.left.valued; name = n.proper };
    ends = n.ends;
    spelled =
        o.left.spelled ∙ ap (λ l. type_text o.left.ty ++ l) (is ∙ ap (λ l. 32 ∷ l) n.spelled) ∙ sym (append_assoc (type_text o.left.ty) (32 ∷ n.name) rest);
  };
}

ends-field : (fs : List Field) → is_name_byte (slice_index (further_fields fs ++ codes ")") 0) ≡ false
unfolding is_name_byte
ends-field [] = refl
ends-field (f ∷ fs) = refl

pub both-ways : {A B C : Type 0} → A ↔ B → B ↔ C → A ↔ C
both-ways ab bc = (λ a. bc.0 (ab.0 a), λ c. ab.1 (bc.1 c))

-- what is told of the one is told of the other
pub iff-steps : {A B : Type 0} {r : Bool} → A ↔ B → IsTrue r ↔ B → IsTrue r ↔ A
iff-steps ab told = (λ yes'. ab.1 (told.0 yes'), λ a. told.1 (ab.0 a))

pub not-told : {A : Type 0} → (A → ⊥) → IsTrue false ↔ A
not-told none = (λ told. absurd (cc), λ a. absurd (none a))

-- the bytes are those of the word
pub tested : (r : Bool) (bytes word same : List ℕ) → r ≡ pointwise nat_eq bytes same → same ≡ word → IsTrue r ↔ (bytes ≡ word)
tested r bytes word same h is = slice_eq-Decides Decides-eqb bytes word r (h ∙ ap (pointwise nat_eq bytes) is)

-- no field
fields-single : (depth : ℕ) (bytes : List ℕ) (fs : List Field) → NoField depth bytes → AllByRecursion (IsProperField depth) fs
    → bytes ≡ fields_text fs ++ codes ")" → bytes ≡ codes ")"
fields-single depth bytes [] lacking proper e = e
fields-single depth bytes (f ∷ fs) lacking proper e =
    absurd (lacking (further_fields fs ++ codes ")")
    (record { field = f; proper = proper.0; ends = ends-field fs; spelled = e ∙ append_assoc (field_text f) (further_fields fs) (codes ")") }))

pub fields-none : (depth : ℕ) (bytes : List ℕ) → NoField depth bytes → AreFields depth bytes ↔ (bytes ≡ codes ")")
fields-none depth bytes lacking = (λ f. fields-single depth bytes f.fields lacking f.proper f.spelled, λ e. record { fields = []; proper = tt; spelled = e })

-- a first field
fields-begun : (depth : ℕ) (bytes left : List ℕ) (fs : List Field) → IsOnly (BeginsField depth bytes) left → AllByRecursion (IsProperField depth) fs
    → bytes ≡ fields_text fs ++ codes ")" → AreFurther depth left
fields-begun depth bytes left [] o proper e =
    absurd (begins-as-type o.left.field.ty ((32 ∷ o.left.field.name) ++ left) (codes ")") (inr refl)
    (sym e ∙ o.left.spelled ∙ append_assoc (type_text o.left.field.ty) (32 ∷ o.left.field.name) left))
fields-begun depth bytes left (f ∷ fs) o proper e = record {
  fields = fs;
  proper = proper.1;
  spelled = sym (o.only (further_fields fs ++ codes ")")
      (record { field = f; proper = proper.0; ends = ends-field fs; spelled = e ∙ append_assoc (field_text f) (further_fields fs) (codes ")") }));
}

pub fields-first : (depth : ℕ) (bytes left : List ℕ) → IsOnly (BeginsField depth bytes) left → AreFields depth bytes ↔ AreFurther depth left
fields-first depth bytes left o = (
  λ f. fields-begun depth bytes left f.fields o f.proper f.spelled,
  λ f. record {
    fields = o.left.field ∷ f.fields;
    proper = (o.left.proper, f.proper);
    spelled = o.left.spelled ∙ ap (λ l. field_text o.left.field ++ l) f.spelled
        ∙ sym (append_assoc (field_text o.left.field) (further_fields f.fields) (codes ")"));
  },
)

-- a further one stands after a semicolon, as the first one does
behind-semicolon : (depth : ℕ) (bytes next : List ℕ) (fs : List Field) → bytes ≡ 59 ∷ next → AllByRecursion (IsProperField depth) fs
    → bytes ≡ further_fields fs ++ codes ")"
    → (gs : List Field) × BeginsField depth next (further_fields gs ++ codes ")") × AllByRecursion (IsProperField depth) gs
behind-semicolon depth bytes next [] is proper e = absurd (omega (arith, ap first (sym is ∙ e)))
behind-semicolon depth bytes next (f ∷ fs) is proper e = (
  fs,
  record {
    field = f;
    proper = proper.0;
    ends = ends-field fs;
    spelled = ap behind (sym is ∙ e)
        ∙ append_assoc (field_text f) (further_fields fs) (codes ")");
  },
  proper.1,
)

pub further-unfielded : (depth : ℕ) (bytes next : List ℕ) → bytes ≡ 59 ∷ next → NoField depth next → AreFurther depth bytes → ⊥
further-unfielded depth bytes next is lacking f =
    let told = behind-semicolon depth bytes next f.fields is f.proper f.spelled in
    lacking (further_fields told.0 ++ codes ")") told.1

pub further-field : (depth : ℕ) (bytes next left : List ℕ) → bytes ≡ 59 ∷ next → IsOnly (BeginsField depth next) left
    → AreFurther depth bytes ↔ AreFurther depth left
further-field depth bytes next left is o = (
  λ f.
      let told = behind-semicolon depth bytes next f.fields is f.proper f.spelled in
      record { fields = told.0; proper = told.2; spelled = sym (o.only (further_fields told.0 ++ codes ")") told.1) },
  λ f. record {
    fields = o.left.field ∷ f.fields;
    proper = (o.left.proper, f.proper);
    spelled =
        is ∙ ap (λ l. 59 ∷ l) (o.left.spelled ∙ ap (λ l. field_text o.left.field ++ l) f.spelled
        ∙ sym (append_assoc (field_text o.left.field) (further_fields f.fields) (codes ")")));
  },
)

-- and after the last none
fields-ended : (depth : ℕ) (bytes : List ℕ) (fs : List Field) → NoWord (codes ";") bytes → bytes ≡ further_fields fs ++ codes ")" → bytes ≡ codes ")"
fields-ended depth bytes [] lacking e = e
fields-ended depth bytes (f ∷ fs) lacking e = absurd (lacking ((field_text f ++ further_fields fs) ++ codes ")") (record { spelled = e }))

pub further-last : (depth : ℕ) (bytes : List ℕ) → NoWord (codes ";") bytes → AreFurther depth bytes ↔ (bytes ≡ codes ")")
further-last depth bytes lacking = (λ f. fields-ended depth bytes f.fields lacking f.spelled, λ e. record { fields = []; proper = tt; spelled = e })
