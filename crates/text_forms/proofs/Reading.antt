-- What a text begins with, step by step.
use Rattle.std.proofs.Common.{◌≡◌, ◌⊎◌, inl, inr, ℕ, zero, suc, ◌-◌, true, false, List, [], ◌∷◌, ◌++◌, refl, sym, ap, ◌∙◌, subst, append_assoc, arith, Option}
use Rattle.std.proofs.Common.{Some, None, MatchOption}
use Rattle.std.specs.Prelude.{codes}
use Rattle.std.specs.Borrow.{Bor}
use Rattle.std.proofs.lemmas.List.{append_cancel_left}
use Rattle.ps_type_text.specs.ps_base.TyView.{TyView, TyViews, none, more}
use Rattle.ps_type_text.specs.ps_base.TyView as ty
use Rattle.ps_type_text.specs.Texts.{type_text, result_text, parameters_text, further_text}
use Rattle.text_forms.specs.Strict.{IsValue, AreValues, IsGiven}
use Rattle.text_forms.proofs.Places.{other_number}
use Rattle.text_forms.specs.inside.Reading.{IsOnly, Leaves, AreSame, BeginsWord, is_star, IsBasic, BeginsBasic, BeginsType, closing, BeginsResult}
use Rattle.text_forms.specs.inside.Reading.{BeginsParameters, BeginsFurther}

pub same-steps : {P Q R : List ℕ → Type 0} → AreSame P Q → AreSame Q R → AreSame P R
same-steps a b = record { there = λ rest p. b.there rest (a.there rest p); back = λ rest r. a.back rest (b.back rest r) }

pub only-by : {P Q : List ℕ → Type 0} (rest : List ℕ) → AreSame P Q → IsOnly Q rest → IsOnly P rest
only-by rest same o = record { left = same.back rest o.left; only = λ other p. o.only other (same.there other p) }

pub leaves-by : {P Q : List ℕ → Type 0} (r : Option (Bor (List ℕ))) → AreSame P Q → Leaves Q r → Leaves P r
leaves-by None same h = λ rest p. h rest (same.there rest p)
leaves-by (Some x) same h = only-by x.now same h

pub leaves-none : (P : List ℕ → Type 0) (r : Option (Bor (List ℕ))) → r ≡ None → ((rest : List ℕ) → P rest → ⊥) → Leaves P r
leaves-none P r is h = subst (Leaves P) (sym is) h

abbrev pub first : List ℕ → ℕ
first [] = 0
first (byte ∷ bytes) = byte

abbrev pub behind : List ℕ → List ℕ
behind [] = []
behind (byte ∷ bytes) = bytes

pub word-leaves : (bytes word : List ℕ) (r : Option (Bor (List ℕ)))
    → MatchOption r ((rest : List ℕ) → bytes ≡ word ++ rest → ⊥) (λ x. bytes ≡ word ++ x.now) → Leaves (BeginsWord word bytes) r
word-leaves bytes word None h = λ rest b. h rest b.spelled
word-leaves bytes word (Some x) h = record { left = record { spelled = h }; only = λ other b. append_cancel_left word other x.now (sym b.spelled ∙ h) }

-- the text of a basic type begins no other type
basic-apart : (t u : TyView) (xs ys : List ℕ) → IsBasic t → type_text t ++ xs ≡ type_text u ++ ys → ys ≡ xs
basic-apart ty.Int ty.Int xs ys basic e = sym (append_cancel_left (codes "int") xs ys e)
basic-apart ty.Int u xs ys basic e = absurd (omega (arith, ap first e))
basic-apart ty.Bool ty.Bool xs ys basic e = sym (append_cancel_left (codes "bool") xs ys e)
basic-apart ty.Bool u xs ys basic e = absurd (omega (arith, ap first e))
basic-apart ty.Str ty.Str xs ys basic e = sym (append_cancel_left (codes "string") xs ys e)
basic-apart ty.Str u xs ys basic e = absurd (omega (arith, ap first e))
basic-apart ty.Pntr ty.Pntr xs ys basic e = sym (append_cancel_left (codes "pntr") xs ys e)
basic-apart ty.Pntr (ty.Proc ps g) xs ys basic e = absurd (omega (arith, ap first (ap behind e)))
basic-apart ty.Pntr u xs ys basic e = absurd (omega (arith, ap first e))
basic-apart ty.Void u xs ys basic e = absurd basic
basic-apart (ty.Vector t) u xs ys basic e = absurd basic
basic-apart (ty.Proc ps g) u xs ys basic e = absurd basic

pub basic-is : (t : TyView) (bytes rest : List ℕ) → IsBasic t → bytes ≡ type_text t ++ rest → IsOnly (BeginsBasic bytes) rest
basic-is t bytes rest basic is = record {
  left = record { ty = t; basic = basic; spelled = is };
  only =
      λ other b. basic-apart t b.ty rest other basic (sym is ∙ b.spelled);
}

abbrev pub NoWord : List ℕ → List ℕ → Type 0
NoWord word bytes = (rest : List ℕ) → BeginsWord word bytes rest → ⊥

no-basic : (bytes rest : List ℕ) (t : TyView) → NoWord (codes "int") bytes → NoWord (codes "bool") bytes → NoWord (codes "string") bytes
    → NoWord (codes "pntr") bytes
    → IsBasic t → bytes ≡ type_text t ++ rest → ⊥
no-basic bytes rest ty.Int i b s p basic is = i rest (record { spelled = is })
no-basic bytes rest ty.Bool i b s p basic is = b rest (record { spelled = is })
no-basic bytes rest ty.Str i b s p basic is = s rest (record { spelled = is })
no-basic bytes rest ty.Pntr i b s p basic is = p rest (record { spelled = is })
no-basic bytes rest ty.Void i b s p basic is = basic
no-basic bytes rest (ty.Vector t) i b s p basic is = basic
no-basic bytes rest (ty.Proc ps g) i b s p basic is = basic

pub basic-last : (bytes : List ℕ) (r : Option (Bor (List ℕ))) → NoWord (codes "int") bytes → NoWord (codes "bool") bytes → NoWord (codes "string") bytes
    → Leaves (BeginsWord (codes "pntr") bytes) r
    → Leaves (BeginsBasic bytes) r
basic-last bytes None i b s p = λ rest it. no-basic bytes rest it.ty i b s p it.basic it.spelled
basic-last bytes (Some x) i b s p = basic-is ty.Pntr bytes x.now tt p.left.spelled

-- a vector's type begins with a star
unstarred : (depth : ℕ) (t : TyView) (element rest : List ℕ) → IsValue depth t → 42 ∷ element ≡ type_text t ++ rest → BeginsType depth element rest
unstarred depth ty.Int element rest v e = absurd (omega (arith, ap first e))
unstarred depth ty.Bool element rest v e = absurd (omega (arith, ap first e))
unstarred depth ty.Str element rest v e = absurd (omega (arith, ap first e))
unstarred depth ty.Pntr element rest v e = absurd (omega (arith, ap first e))
unstarred depth ty.Void element rest v e = absurd (omega (arith, ap first e))
unstarred depth (ty.Vector t) element rest v e = record { ty = t; valued = v; spelled = ap behind e }
unstarred depth (ty.Proc ps g) element rest v e = absurd (omega (arith, ap first e))

pub star-same : (depth : ℕ) (bytes element : List ℕ) → bytes ≡ 42 ∷ element → AreSame (BeginsType depth bytes) (BeginsType depth element)
star-same depth bytes element e = record {
  there = λ rest b. unstarred depth b.ty element rest b.valued (sym e ∙ b.spelled);
  back = λ rest b. record { ty = ty.Vector b.ty; valued = b.valued; spelled = e ∙ ap (λ l. 42 ∷ l) b.spelled };
}

pub no_star : (bytes : List ℕ) → NoWord (codes "*") bytes → is_star bytes ≡ false
no_star [] h = refl
no_star (b ∷ bs) h = other_number b 42 (λ e. h bs (record { spelled = ap (λ c. c ∷ bs) e }))

basic-valued : (depth : ℕ) (t : TyView) → IsBasic t → IsValue depth t
basic-valued depth ty.Int basic = tt
basic-valued depth ty.Bool basic = tt
basic-valued depth ty.Str basic = tt
basic-valued depth ty.Pntr basic = tt
basic-valued depth ty.Void basic = basic
basic-valued depth (ty.Vector t) basic = absurd basic
basic-valued depth (ty.Proc ps g) basic = absurd basic

pub type-basic : (depth : ℕ) (bytes rest : List ℕ) → IsOnly (BeginsBasic bytes) rest → IsOnly (BeginsType depth bytes) rest
type-basic depth bytes rest o = record {
  left = record { ty = o.left.ty; valued = basic-valued depth o.left.ty o.left.basic; spelled = o.left.spelled };
  only = λ other b. basic-apart o.left.ty b.ty rest other o.left.basic (sym o.left.spelled ∙ b.spelled);
}

-- the texts of the parts of a procedure's type, joined the other way round
procedure_text : (ps : TyViews) (g : TyView) (rest : List ℕ)
    → (parameters_text ps ++ (result_text g (type_text g) ++ 41 ∷ [])) ++ rest ≡ parameters_text ps ++ closing g rest
procedure_text ps g rest =
    append_assoc (parameters_text ps) (result_text g (type_text g) ++ 41 ∷ []) rest
    ∙ ap (λ l. parameters_text ps ++ l) (append_assoc (result_text g (type_text g)) (41 ∷ []) rest)

inside-procedure : (depth : ℕ) (t : TyView) (inside rest : List ℕ) → IsValue (suc depth) t → codes "proc(" ++ inside ≡ type_text t ++ rest
    → BeginsParameters depth inside rest
inside-procedure depth ty.Int inside rest v e = absurd (omega (arith, ap first e))
inside-procedure depth ty.Bool inside rest v e = absurd (omega (arith, ap first e))
inside-procedure depth ty.Str inside rest v e = absurd (omega (arith, ap first e))
inside-procedure depth ty.Pntr inside rest v e = absurd (omega (arith, ap first (ap behind e)))
inside-procedure depth ty.Void inside rest v e = absurd (omega (arith, ap first e))
inside-procedure depth (ty.Vector t) inside rest v e = absurd (omega (arith, ap first e))
inside-procedure depth (ty.Proc ps g) inside rest v e = record {
  parameters = ps;
  gives = g;
  valued = v.0;
  given = v.1;
  spelled = append_cancel_left (codes "proc(") inside (((parameters_text ps ++ (result_text g (type_text g) ++ 41 ∷ [])) ++ rest)) e ∙ procedure_text ps g rest;
}

pub procedure-same : (depth : ℕ) (bytes inside : List ℕ) → bytes ≡ codes "proc(" ++ inside
    → AreSame (BeginsType (suc depth) bytes) (BeginsParameters depth inside)
procedure-same depth bytes inside e = record {
  there = λ rest b. inside-procedure depth b.ty inside rest b.valued (sym e ∙ b.spelled);
  back = λ rest b. record {
    ty = ty.Proc b.parameters b.gives;
    valued = (b.valued, b.given);
    spelled = e ∙ ap (λ l. codes "proc(" ++ l) (b.spelled ∙ sym (procedure_text b.parameters b.gives rest));
  };
}

pub too_deep : (t : TyView) (inside rest : List ℕ) → IsValue 0 t → codes "proc(" ++ inside ≡ type_text t ++ rest → ⊥
too_deep ty.Int inside rest v e = omega (arith, ap first e)
too_deep ty.Bool inside rest v e = omega (arith, ap first e)
too_deep ty.Str inside rest v e = omega (arith, ap first e)
too_deep ty.Pntr inside rest v e = omega (arith, ap first (ap behind e))
too_deep ty.Void inside rest v e = omega (arith, ap first e)
too_deep (ty.Vector t) inside rest v e = omega (arith, ap first e)
too_deep (ty.Proc ps g) inside rest v e = v

no-type : (depth : ℕ) (t : TyView) (bytes rest : List ℕ) → is_star bytes ≡ false → ((rest : List ℕ) → BeginsBasic bytes rest → ⊥)
    → NoWord (codes "proc(") bytes → IsValue depth t → bytes ≡ type_text t ++ rest → ⊥
no-type depth ty.Int bytes rest star basic proc v e = basic rest (record { ty = ty.Int; basic = tt; spelled = e })
no-type depth ty.Bool bytes rest star basic proc v e = basic rest (record { ty = ty.Bool; basic = tt; spelled = e })
no-type depth ty.Str bytes rest star basic proc v e = basic rest (record { ty = ty.Str; basic = tt; spelled = e })
no-type depth ty.Pntr bytes rest star basic proc v e = basic rest (record { ty = ty.Pntr; basic = tt; spelled = e })
no-type depth ty.Void bytes rest star basic proc v e = v
no-type depth (ty.Vector t) bytes rest star basic proc v e = let bad : true ≡ false = sym (ap is_star e) ∙ star in cc
no-type depth (ty.Proc ps g) bytes rest star basic proc v e =
    proc ((parameters_text ps ++ (result_text g (type_text g) ++ 41 ∷ [])) ++ rest) (record { spelled = e })

-- what a procedure gives: nothing, or a value after an arrow
data Given (depth : ℕ) (g : TyView) : Type 0 where
  nothing : g ≡ ty.Void → Given depth g
  something : IsValue depth g → ((rest : List ℕ) → closing g rest ≡ 45 ∷ (62 ∷ (type_text g ++ (41 ∷ rest)))) → Given depth g

given-cases : (depth : ℕ) (g : TyView) → IsGiven g (IsValue depth g) → Given depth g
given-cases depth ty.Void v = nothing refl
given-cases depth ty.Int v = something v (λ rest. refl)
given-cases depth ty.Bool v = something v (λ rest. refl)
given-cases depth ty.Str v = something v (λ rest. refl)
given-cases depth ty.Pntr v = something v (λ rest. refl)
given-cases depth (ty.Vector t) v = something v (λ rest. refl)
given-cases depth (ty.Proc ps h) v = something v (λ rest. refl)

value-given : (depth : ℕ) (g : TyView) (rest : List ℕ) → IsValue depth g
    → IsGiven g (IsValue depth g) × (closing g rest ≡ 45 ∷ (62 ∷ (type_text g ++ (41 ∷ rest))))
value-given depth ty.Void rest v = absurd v
value-given depth ty.Int rest v = (v, refl)
value-given depth ty.Bool rest v = (v, refl)
value-given depth ty.Str rest v = (v, refl)
value-given depth ty.Pntr rest v = (v, refl)
value-given depth (ty.Vector t) rest v = (v, refl)
value-given depth (ty.Proc ps h) rest v = (v, refl)

-- the bracket that closes or the arrow
ends-parameters : (g : TyView) (rest : List ℕ) → (first (closing g rest) ≡ 45) ⊎ (first (closing g rest) ≡ 41)
ends-parameters ty.Void rest = inr refl
ends-parameters g rest = inl refl

pub begins-as-type : (t : TyView) (rest bytes : List ℕ) → (first bytes ≡ 45) ⊎ (first bytes ≡ 41) → bytes ≡ type_text t ++ rest → ⊥
begins-as-type ty.Int rest bytes (inl h) e = omega (arith, h, ap first e)
begins-as-type ty.Int rest bytes (inr h) e = omega (arith, h, ap first e)
begins-as-type ty.Bool rest bytes (inl h) e = omega (arith, h, ap first e)
begins-as-type ty.Bool rest bytes (inr h) e = omega (arith, h, ap first e)
begins-as-type ty.Str rest bytes (inl h) e = omega (arith, h, ap first e)
begins-as-type ty.Str rest bytes (inr h) e = omega (arith, h, ap first e)
begins-as-type ty.Pntr rest bytes (inl h) e = omega (arith, h, ap first e)
begins-as-type ty.Pntr rest bytes (inr h) e = omega (arith, h, ap first e)
begins-as-type ty.Void rest bytes (inl h) e = omega (arith, h, ap first e)
begins-as-type ty.Void rest bytes (inr h) e = omega (arith, h, ap first e)
begins-as-type (ty.Vector t) rest bytes (inl h) e = omega (arith, h, ap first e)
begins-as-type (ty.Vector t) rest bytes (inr h) e = omega (arith, h, ap first e)
begins-as-type (ty.Proc ps g) rest bytes (inl h) e = omega (arith, h, ap first e)
begins-as-type (ty.Proc ps g) rest bytes (inr h) e = omega (arith, h, ap first e)

abbrev pub NoType : ℕ → List ℕ → Type 0
NoType depth bytes = (rest : List ℕ) → BeginsType depth bytes rest → ⊥

result-closed : (depth : ℕ) (g : TyView) (left other : List ℕ) → IsGiven g (IsValue depth g) → 41 ∷ left ≡ closing g other → other ≡ left
result-closed depth g left other v e = elim (given-cases depth g v) [
  | nothing is ↦ ap behind (sym (e ∙ ap (λ t. closing t other) is))
  | something it spelled ↦ absurd (omega (arith, ap first (e ∙ spelled other)))
]

-- nothing is given
pub result-nothing : (depth : ℕ) (bytes left : List ℕ) → IsOnly (BeginsWord (codes ")") bytes) left → IsOnly (BeginsResult depth bytes) left
result-nothing depth bytes left o = record {
  left = record { gives = ty.Void; given = tt; spelled = o.left.spelled };
  only = λ other b. result-closed depth b.gives left other b.given (sym o.left.spelled ∙ b.spelled);
}

-- where lacking bracket closes, an arrow stands before what is given
arrow : (depth : ℕ) (bytes rest : List ℕ) → NoWord (codes ")") bytes → (b : BeginsResult depth bytes rest)
    → IsValue depth b.gives × (bytes ≡ 45 ∷ (62 ∷ (type_text b.gives ++ (41 ∷ rest))))
arrow depth bytes rest lacking b = elim (given-cases depth b.gives b.given) [
  | nothing is ↦ absurd (lacking rest (record { spelled = b.spelled ∙ ap (λ t. closing t rest) is }))
  | something it spelled ↦ (it, b.spelled ∙ spelled rest)
]

pub result-arrow : (depth : ℕ) (bytes : List ℕ) → NoWord (codes ")") bytes → NoWord (codes "->") bytes → (rest : List ℕ) → BeginsResult depth bytes rest → ⊥
result-arrow depth bytes lacking pointless rest b = let told =
    arrow depth bytes rest lacking b in pointless (type_text b.gives ++ (41 ∷ rest)) (record { spelled = told.1 })

behind-arrow : (depth : ℕ) (bytes gives rest : List ℕ) → NoWord (codes ")") bytes → bytes ≡ codes "->" ++ gives → (b : BeginsResult depth bytes rest)
    → BeginsType depth gives (41 ∷ rest)
behind-arrow depth bytes gives rest lacking is b =
    let told = arrow depth bytes rest lacking b in
    record { ty = b.gives; valued = told.0; spelled = append_cancel_left (codes "->") gives (type_text b.gives ++ (41 ∷ rest)) (sym is ∙ told.1) }

pub result-untyped : (depth : ℕ) (bytes gives : List ℕ) → NoWord (codes ")") bytes → bytes ≡ codes "->" ++ gives → NoType depth gives → (rest : List ℕ)
    → BeginsResult depth bytes rest → ⊥
result-untyped depth bytes gives lacking is untyped rest b = untyped (41 ∷ rest) (behind-arrow depth bytes gives rest lacking is b)

pub result-same : (depth : ℕ) (bytes gives left : List ℕ) → NoWord (codes ")") bytes → bytes ≡ codes "->" ++ gives → IsOnly (BeginsType depth gives) left
    → AreSame (BeginsResult depth bytes) (BeginsWord (codes ")") left)
result-same depth bytes gives left lacking is o = record {
  there = λ rest b. record { spelled = sym (o.only (41 ∷ rest) (behind-arrow depth bytes gives rest lacking is b)) };
  back = λ rest w.
      let told = value-given depth o.left.ty rest o.left.valued in
      record {
        gives = o.left.ty;
        given = told.0;
        spelled = is ∙ ap (λ l. codes "->" ++ l) (o.left.spelled ∙ ap (λ l. type_text o.left.ty ++ l) w.spelled)
            ∙ sym told.1;
      };
}

no-parameter : (depth : ℕ) (bytes rest : List ℕ) (ps : TyViews) (g : TyView) → NoType depth bytes → AreValues depth ps → IsGiven g (IsValue depth g)
    → bytes ≡ parameters_text ps ++ closing g rest
    → BeginsResult depth bytes rest
no-parameter depth bytes rest none g lacking vs v e = record { gives = g; given = v; spelled = e }
no-parameter depth bytes rest (more p ps) g lacking vs v e =
    absurd (lacking (further_text ps ++ closing g rest)
    (record { ty = p; valued = vs.0; spelled = e ∙ append_assoc (type_text p) (further_text ps) (closing g rest) }))

-- no parameter
pub none-same : (depth : ℕ) (bytes : List ℕ) → NoType depth bytes → AreSame (BeginsParameters depth bytes) (BeginsResult depth bytes)
none-same depth bytes lacking = record {
  there = λ rest b. no-parameter depth bytes rest b.parameters b.gives lacking b.valued b.given b.spelled;
  back = λ rest b. record { parameters = none; gives = b.gives; valued = tt; given = b.given; spelled = b.spelled };
}

-- a first parameter
begun-parameters : (depth : ℕ) (bytes left rest : List ℕ) (ps : TyViews) (g : TyView) → IsOnly (BeginsType depth bytes) left → AreValues depth ps
    → IsGiven g (IsValue depth g)
    → bytes ≡ parameters_text ps ++ closing g rest → BeginsFurther depth left rest
begun-parameters depth bytes left rest none g o vs v e =
    absurd (begins-as-type o.left.ty left (closing g rest) (ends-parameters g rest) (sym e ∙ o.left.spelled))
begun-parameters depth bytes left rest (more p ps) g o vs v e = record {
  parameters = ps;
  gives = g;
  valued = vs.1;
  given = v;
  spelled = sym (o.only (further_text ps ++ closing g rest)
      (record { ty = p; valued = vs.0; spelled = e ∙ append_assoc (type_text p) (further_text ps) (closing g rest) }));
}

pub first-same : (depth : ℕ) (bytes left : List ℕ) → IsOnly (BeginsType depth bytes) left → AreSame (BeginsParameters depth bytes) (BeginsFurther depth left)
first-same depth bytes left o = record {
  there = λ rest b. begun-parameters depth bytes left rest b.parameters b.gives o b.valued b.given b.spelled;
  back = λ rest b. record {
    parameters = more o.left.ty b.parameters;
    gives = b.gives;
    valued = (o.left.valued, b.valued);
    given = b.given;
    spelled = o.left.spelled ∙ ap (λ l. type_text o.left.ty ++ l) b.spelled
        ∙ sym (append_assoc (type_text o.left.ty) (further_text b.parameters) (closing b.gives rest));
  };
}

-- a further one stands after a comma, as the first one does
behind-comma : (depth : ℕ) (bytes next rest : List ℕ) (ps : TyViews) (g : TyView) → bytes ≡ 44 ∷ next → AreValues depth ps → IsGiven g (IsValue depth g)
    → bytes ≡ further_text ps ++ closing g rest → (t : TyView) × (ts : TyViews) ×
    (next ≡ type_text t ++ (further_text ts ++ closing g rest)) × IsValue depth t × AreValues depth ts
behind-comma depth bytes next rest none g is vs v e = elim (ends-parameters g rest) [
  | inl h ↦ absurd (omega (arith, h, ap first (sym is ∙ e)))
  | inr h ↦ absurd (omega (arith, h, ap first (sym is ∙ e)))
]
behind-comma depth bytes next rest (more p ps) g is vs v e =
    (p, ps, ap behind (sym is ∙ e) ∙ append_assoc (type_text p) (further_text ps) (closing g rest), vs.0, vs.1)

pub further-same : (depth : ℕ) (bytes next left : List ℕ) → bytes ≡ 44 ∷ next → IsOnly (BeginsType depth next) left
    → AreSame (BeginsFurther depth bytes) (BeginsFurther depth left)
further-same depth bytes next left is o =
    record {
      there = λ rest b.
          let told = behind-comma depth bytes next rest b.parameters b.gives is b.valued b.given b.spelled in
          record {
            parameters = told.1;
            gives = b.gives;
            valued = told.4;
            given = b.given;
            spelled = sym (o.only (further_text told.1 ++ closing b.gives rest) (record { ty = told.0; valued = told.3; spelled = told.2 }));
          };
      back = λ rest b. record {
        parameters = more o.left.ty b.parameters;
        gives = b.gives;
        valued = (o.left.valued, b.valued);
        given = b.given;
        spelled =
            is ∙ ap (λ l. 44 ∷ l) (o.left.spelled ∙ ap (λ l. type_text o.left.ty ++ l) b.spelled
            ∙ sym (append_assoc (type_text o.left.ty) (further_text b.parameters) (closing b.gives rest)));
      };
    }

pub further-untyped : (depth : ℕ) (bytes next : List ℕ) → bytes ≡ 44 ∷ next → NoType depth next → (rest : List ℕ) → BeginsFurther depth bytes rest → ⊥
further-untyped depth bytes next is lacking rest b =
    let told = behind-comma depth bytes next rest b.parameters b.gives is b.valued b.given b.spelled in
    lacking (further_text told.1 ++ closing b.gives rest) (record { ty = told.0; valued = told.3; spelled = told.2 })

-- and after the last none
last-parameter : (depth : ℕ) (bytes rest : List ℕ) (ps : TyViews) (g : TyView) → NoWord (codes ",") bytes → IsGiven g (IsValue depth g)
    → bytes ≡ further_text ps ++ closing g rest → BeginsResult depth bytes rest
last-parameter depth bytes rest none g lacking v e = record { gives = g; given = v; spelled = e }
last-parameter depth bytes rest (more p ps) g lacking v e = absurd (lacking ((type_text p ++ further_text ps) ++ closing g rest) (record { spelled = e }))

pub last-same : (depth : ℕ) (bytes : List ℕ) → NoWord (codes ",") bytes → AreSame (BeginsFurther depth bytes) (BeginsResult depth bytes)
last-same depth bytes lacking = record {
  there = λ rest b. last-parameter depth bytes rest b.parameters b.gives lacking b.given b.spelled;
  back = λ rest b. record { parameters = none; gives = b.gives; valued = tt; given = b.given; spelled = b.spelled };
}

-- the procedure's type that stands after the stars
pub depth-less : (depth : ℕ) → (depth ≡ 0 → ⊥) → (bytes inside : List ℕ) → bytes ≡ codes "proc(" ++ inside
    → AreSame (BeginsType depth bytes) (BeginsParameters (depth - 1) inside)
depth-less zero positive bytes inside is = absurd (positive refl)
depth-less (suc depth) positive bytes inside is = let e : suc depth - 1 ≡ depth = omega arith in rw e (procedure-same depth bytes inside is)

pub depth-zero : (bytes inside : List ℕ) → bytes ≡ codes "proc(" ++ inside → NoType 0 bytes
depth-zero bytes inside is rest b = too_deep b.ty inside rest b.valued (sym is ∙ b.spelled)

pub no-type-here : (depth : ℕ) (bytes : List ℕ) → is_star bytes ≡ false → ((rest : List ℕ) → BeginsBasic bytes rest → ⊥) → NoWord (codes "proc(") bytes
    → NoType depth bytes
no-type-here depth bytes star basic proc rest b = no-type depth b.ty bytes rest star basic proc b.valued b.spelled
