-- What stands after a clause, and that no part of an expression goes on with it.
use Rattle.std.proofs.Common.{◌≡◌, Bool, true, false, None, refl, ap}
use Rattle.ps_layout.specs.ps_symbols.declared.kind.Kind.{Kind}
use Rattle.ps_layout.specs.ps_symbols.declared.kind.Kind.TheVariants as kind
use Rattle.ps_layout.specs.ps_symbols.declared.kind.Level.TheVariants.{Disjunction, Conjunction, Sum, Product}
use Rattle.ps_layout.specs.ps_symbols.Kinds.{operation_of, relating_of}
use Rattle.ps_layout.specs.ps_tree.Phrase.{Phrase}
use Rattle.ps_parse.specs.ps_reader.Grammar.{Give, a_clause, assignment}
use Rattle.ps_layout.specs.Layout.{Behind, other, before_do, before_comma, before_colon, disjunction}
use Rattle.ps_reread.proofs.Climb.{Above, above_signed, above_product, above_sum, above_comparison, above_negation, above_conjunction, above_disjunction, opens_arguments}

-- the kinds that can stand after a clause and that no clause goes on with
abbrev pub closes : Kind → Bool
closes kind.Then = true
closes kind.Else = true
closes kind.While = true
closes kind.To = true
closes kind.By = true
closes kind.Of = true
closes kind.End = true
closes kind.Semicolon = true
closes kind.DoubleColon = true
closes kind.CloseRound = true
closes kind.CloseSquare = true
closes kind.CloseCurly = true
closes kind.Bar = true
closes kind.Question = true
closes kind.EndOfText = true
closes _ = false

-- this is of the kind that stands after
pub data InFront : Behind → Kind → Type 0 where
  of_do : {k : Kind} → k ≡ kind.Do → InFront before_do k
  of_comma : {k : Kind} → k ≡ kind.Comma → InFront before_comma k
  of_colon : {k : Kind} → k ≡ kind.Colon → InFront before_colon k
  of_other : {k : Kind} → closes k ≡ true → InFront other k

abbrev ends : Kind → Bool
ends kind.Do = true
ends kind.Comma = true
ends kind.Colon = true
ends k = closes k

closing : (k : Kind) → closes k ≡ true → ends k ≡ true
closing kind.Do is = refl
closing kind.Comma is = refl
closing kind.Colon is = refl
closing _ is = is

ends_all : {behind : Behind} {k : Kind} → InFront behind k → ends k ≡ true
ends_all (of_do is) = ap ends is
ends_all (of_comma is) = ap ends is
ends_all (of_colon is) = ap ends is
ends_all (of_other {k = k} is) = closing k is

no_disjunction : (k : Kind) → ends k ≡ true → operation_of Disjunction k ≡ None
no_disjunction kind.Or is = absurd (cc)
no_disjunction _ is = refl

no_conjunction : (k : Kind) → ends k ≡ true → operation_of Conjunction k ≡ None
no_conjunction kind.And is = absurd (cc)
no_conjunction _ is = refl

no_sum : (k : Kind) → ends k ≡ true → operation_of Sum k ≡ None
no_sum kind.Plus is = absurd (cc)
no_sum kind.Minus is = absurd (cc)
no_sum kind.Concatenate is = absurd (cc)
no_sum _ is = refl

no_product : (k : Kind) → ends k ≡ true → operation_of Product k ≡ None
no_product kind.Times is = absurd (cc)
no_product kind.Div is = absurd (cc)
no_product kind.Rem is = absurd (cc)
no_product _ is = refl

no_relation : (k : Kind) → ends k ≡ true → relating_of k ≡ None
no_relation kind.Equals is = absurd (cc)
no_relation kind.NotEquals is = absurd (cc)
no_relation kind.Less is = absurd (cc)
no_relation kind.LessEqual is = absurd (cc)
no_relation kind.Greater is = absurd (cc)
no_relation kind.GreaterEqual is = absurd (cc)
no_relation kind.Is is = absurd (cc)
no_relation kind.Isnt is = absurd (cc)
no_relation _ is = refl

no_arguments : (k : Kind) → ends k ≡ true → opens_arguments k ≡ false
no_arguments kind.OpenRound is = absurd (cc)
no_arguments _ is = refl

nothing_assigned : (left : Phrase) (k : Kind) → ends k ≡ true → assignment left k ≡ Give (a_clause left)
nothing_assigned left kind.Becomes is = absurd (cc)
nothing_assigned left _ is = refl

module _ {behind : Behind} {k : Kind} (front : InFront behind k) where
  pub no_operator : operation_of Disjunction k ≡ None
  no_operator = no_disjunction k (ends_all front)

  pub no_assignment : (left : Phrase) → assignment left k ≡ Give (a_clause left)
  no_assignment left = nothing_assigned left k (ends_all front)

  pub all_above : Above disjunction k
  all_above =
      let is = ends_all front in
      above_disjunction (no_conjunction k is) (above_conjunction (above_negation (above_comparison (no_sum k is) (no_relation k is) (above_sum (no_product k is) (above_product (above_signed (no_arguments k is)))))))
