-- Going into a chain and out of it.
use Rattle.std.proofs.Common.{◌≡◌, ◌≤◌, ◌+◌, true, false, refl, sym, ap, subst, ◌∙◌, arith}
use Rattle.ps_program.specs.Node.{Node, Nodes}
use Rattle.ps_program.specs.Node as node
use Rattle.ps_program.specs.Parts.{operand}
use Rattle.ps_program.specs.inside.Weights.{weight, weight_all}
use Rattle.ps_program.proofs.PartLemmas.{weight_is, weight_of_all}
use Rattle.ps_placer.specs.ps_typing.Placing.{Around, Locals}
use Rattle.ps_placer.specs.ps_typing.Placed.{Given, gives, ◌>>=◌, then_give, placed}
use Rattle.ps_placer.specs.declared.placer.Placer.{Placer}
use Rattle.ps_placer.specs.inside.Standing.{Stands, Does}
use Rattle.ps_names.specs.inside.Chains.{is_link, first_or, with_first, rewound, placed_parts, rises, weight_placed, Rises}

rises_law : (around : Around) (l : Locals) (above x : Node) → rises around above (placed around l x) ≡ placed around l (rewound above x)
unfolding ◌>>=◌ then_give
rises_law around l (node.And a b) x = rises_law around l a (node.And x b)
rises_law around l (node.Or a b) x = rises_law around l a (node.Or x b)
rises_law around l (node.Arith op a b line) x = rises_law around l a (node.Arith op x b line)
rises_law around l (node.Join a b line) x = rises_law around l a (node.Join x b line)
rises_law around l (node.Part a i n line) x = rises_law around l a (node.Part x i n line)
rises_law around l (node.Field e class index ty line) x = rises_law around l e (node.Field x class index ty line)
rises_law around l (node.Element v i ty line) x = rises_law around l v (node.Element x i ty line)
rises_law around l (node.Call f args line) x = rises_law around l f (node.Call x args line)
rises_law around l _ x = refl

link_rises : (around : Around) (now : Locals) (n t : Node) → is_link n ≡ true → rises around n (gives t now) ≡ rises around (first_or t n) (placed_parts around now (with_first t n))
unfolding ◌>>=◌
link_rises around now (node.And a b) t is = refl
link_rises around now (node.Or a b) t is = refl
link_rises around now (node.Arith op a b line) t is = refl
link_rises around now (node.Join a b line) t is = refl
link_rises around now (node.Part a i n line) t is = refl
link_rises around now (node.Field e class index ty line) t is = refl
link_rises around now (node.Element v i ty line) t is = refl
link_rises around now (node.Call f args line) t is = refl
link_rises around now _ t is = absurd (cc is)

end_rises : (around : Around) (n : Node) (x : Given Node) → is_link n ≡ false → rises around n x ≡ x
end_rises around (node.And a b) x is = absurd (cc is)
end_rises around (node.Or a b) x is = absurd (cc is)
end_rises around (node.Arith op a b line) x is = absurd (cc is)
end_rises around (node.Join a b line) x is = absurd (cc is)
end_rises around (node.Part a i n line) x is = absurd (cc is)
end_rises around (node.Field e class index ty line) x is = absurd (cc is)
end_rises around (node.Element v i ty line) x is = absurd (cc is)
end_rises around (node.Call f args line) x is = absurd (cc is)
end_rises around _ x is = refl

rewound_link : (above n : Node) → is_link n ≡ true → rewound (with_first above n) (first_or above n) ≡ rewound above n
rewound_link above (node.And a b) is = refl
rewound_link above (node.Or a b) is = refl
rewound_link above (node.Arith op a b line) is = refl
rewound_link above (node.Join a b line) is = refl
rewound_link above (node.Part a i n line) is = refl
rewound_link above (node.Field e class index ty line) is = refl
rewound_link above (node.Element v i ty line) is = refl
rewound_link above (node.Call f args line) is = refl
rewound_link above _ is = absurd (cc is)

-- weights

call_weight : (f : Node) (args : Nodes) (line : _) → weight (node.Call f args line) ≡ 1 + (weight f + weight_all args)
call_weight f args line = let all = weight_of_all operand (λ n. refl) args in omega (arith, weight_is (node.Call f args line))

weight_link : (n x : Node) → is_link n ≡ true → weight n ≡ weight (first_or x n) + weight_placed n
weight_link (node.And a b) x is = omega arith
weight_link (node.Or a b) x is = omega arith
weight_link (node.Arith op a b line) x is = omega arith
weight_link (node.Join a b line) x is = omega arith
weight_link (node.Part a i n line) x is = omega arith
weight_link (node.Field e class index ty line) x is = omega arith
weight_link (node.Element v i ty line) x is = omega arith
weight_link (node.Call f args line) x is = let whole = call_weight f args line in omega (arith, whole)
weight_link _ x is = absurd (cc is)

weight_with : (n x : Node) → is_link n ≡ true → weight (with_first x n) ≡ weight x + weight_placed n
weight_with (node.And a b) x is = omega arith
weight_with (node.Or a b) x is = omega arith
weight_with (node.Arith op a b line) x is = omega arith
weight_with (node.Join a b line) x is = omega arith
weight_with (node.Part a i n line) x is = omega arith
weight_with (node.Field e class index ty line) x is = omega arith
weight_with (node.Element v i ty line) x is = omega arith
weight_with (node.Call f args line) x is = let whole = call_weight x args line in omega (arith, whole)
weight_with _ x is = absurd (cc is)

placed_with : (n x : Node) → weight_placed (with_first x n) ≡ weight_placed n
placed_with (node.And a b) x = refl
placed_with (node.Or a b) x = refl
placed_with (node.Arith op a b line) x = refl
placed_with (node.Join a b line) x = refl
placed_with (node.Part a i n line) x = refl
placed_with (node.Field e class index ty line) x = refl
placed_with (node.Element v i ty line) x = refl
placed_with (node.Call f args line) x = refl
placed_with _ x = refl

placed_some : (n : Node) → is_link n ≡ true → 1 ≤ weight_placed n
placed_some (node.And a b) is = omega arith
placed_some (node.Or a b) is = omega arith
placed_some (node.Arith op a b line) is = omega arith
placed_some (node.Join a b line) is = omega arith
placed_some (node.Part a i n line) is = omega arith
placed_some (node.Field e class index ty line) is = omega arith
placed_some (node.Element v i ty line) is = omega arith
placed_some (node.Call f args line) is = omega arith
placed_some _ is = absurd (cc is)

-- a clause that is no link

pub record Whole (n : Node) : Type 0 where
  pub weighs : weight_placed n ≡ weight n
  pub places : (around : Around) (locals : Locals) → placed around locals n ≡ placed_parts around locals n

pub whole : (n : Node) → is_link n ≡ false → Whole n
whole (node.And a b) is = absurd (cc is)
whole (node.Or a b) is = absurd (cc is)
whole (node.Arith op a b line) is = absurd (cc is)
whole (node.Join a b line) is = absurd (cc is)
whole (node.Part a i n line) is = absurd (cc is)
whole (node.Field e class index ty line) is = absurd (cc is)
whole (node.Element v i ty line) is = absurd (cc is)
whole (node.Call f args line) is = absurd (cc is)
whole _ is = record {
  weighs = refl;
  places = λ around locals. refl;
}

-- one link further in

pub record Inward (above tree above' tree' whole : Node) : Type 0 where
  pub rewound : rewound above' tree' ≡ whole
  pub lighter : weight above' + weight tree' ≡ weight above + weight tree
  pub smaller : weight tree' + 1 ≤ weight tree

pub inward : (above tree above' tree' whole : Node) → is_link tree ≡ true → above' ≡ with_first above tree → tree' ≡ first_or above tree → rewound above tree ≡ whole → Inward above tree above' tree' whole
inward above tree above' tree' whole link above_is tree_is whole_is =
    let w = weight_link tree above link in
    let v = weight_with tree above link in
    let wa = ap weight above_is in
    let wt = ap weight tree_is in
    let some = placed_some tree link in
    record {
      rewound = ap (λ (n : Node). rewound n tree') above_is ∙ ap (rewound (with_first above tree)) tree_is ∙ rewound_link above tree link ∙ whole_is;
      lighter = omega (arith, w, v, wa, wt);
      smaller = omega (arith, w, wt, some);
    }

-- the innermost clause, which is no link, has its places
pub turns : (start now : Placer) (above inner tree all : Node) → is_link inner ≡ false → rewound above inner ≡ all → Does (λ around locals. placed_parts around locals inner) start tree now → Rises start now all above tree
turns start now above inner tree all end all_is does = record {
  at = λ around locals stands.
      let here = does.at around locals stands in
      let behind = (placed_parts around locals inner).locals in (
        behind,
        here.1,
        ap (λ (t : Node). rises around above (gives t behind)) here.0 ∙ ap (rises around above) (sym ((whole inner end).places around locals)) ∙ rises_law around locals above inner ∙ ap (placed around locals) all_is,
      );
}

-- one link further out
pub outward : (start now next : Placer) (whole above tree link made rest : Node) → is_link above ≡ true → link ≡ with_first tree above → rest ≡ first_or tree above → Rises start now whole above tree → Does (λ around locals. placed_parts around locals link) now made next → Rises start next whole rest made
outward start now next whole above tree link made rest is_link_ link_is rest_is rising does = record {
  at = λ around locals stands.
      let here = rising.at around locals stands in
      let more = does.at around here.0 here.1 in
      let behind = (placed_parts around here.0 link).locals in (
        behind,
        more.1,
        ap (λ (t : Node). rises around rest (gives t behind)) more.0 ∙ ap (λ (t : Node). rises around rest (placed_parts around here.0 t)) link_is
            ∙ ap (λ (t : Node). rises around t (placed_parts around here.0 (with_first tree above))) rest_is ∙ sym (link_rises around here.0 above tree is_link_) ∙ here.2,
      );
}

pub weight_out : (above tree link rest : Node) → is_link above ≡ true → link ≡ with_first tree above → rest ≡ first_or tree above → (weight rest + 1 ≤ weight above) × (weight_placed link ≤ weight above)
weight_out above tree link rest is_link_ link_is rest_is =
    let w = weight_link above tree is_link_ in
    let r = ap weight rest_is in
    let b = ap weight_placed link_is in
    let s = placed_with above tree in
    let some = placed_some above is_link_ in
    (omega (arith, w, r, some), omega (arith, w, b, s))

-- no link is left
pub out : (start now : Placer) (whole above tree : Node) → is_link above ≡ false → Rises start now whole above tree → Does (λ around locals. placed around locals whole) start tree now
out start now whole above tree none rising = record {
  at = λ around locals stands.
      let here = rising.at around locals stands in
      let whole_is : gives tree here.0 ≡ placed around locals whole = sym (end_rises around above (gives tree here.0) none) ∙ here.2 in
      (ap (λ (x : Given Node). x.of) whole_is, subst (λ (x : Given Node). Stands now around x.locals) whole_is here.1);
}
