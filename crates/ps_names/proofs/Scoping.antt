-- What has a scope: a sequence, a loop and a body.
use Rattle.std.proofs.Common.{◌≡◌, ℕ, ◌+◌, Option, List, [], ◌∷◌, OnOk, refl, sym, ap, subst, ◌∙◌}
use Rattle.ps_base.specs.TyView.{TyView}
use Rattle.ps_base.specs.TyView as ty
use Rattle.ps_base.specs.declared.line.Line.{Line}
use Rattle.ps_type_text.specs.Members.{fields_of}
use Rattle.ps_program.specs.declared.place.Place.{Place}
use Rattle.ps_program.specs.Node.{Param, Node, Nodes, BodyNode, body}
use Rattle.ps_program.specs.Node as node
use Rattle.ps_placer.specs.ps_typing.Mentions.{number_of, numbers, common}
use Rattle.ps_placer.specs.ps_typing.Placing.{Around, Locals, with_declared, place_of, scope_text, inside, declared}
use Rattle.ps_placer.specs.ps_typing.Placed.{◌>>=◌, then_give, placed, placed_all, placed_literal, with_params}
use Rattle.ps_placer.specs.declared.placer.Placer.{Placer}
use Rattle.ps_placer.specs.declared.placer.Outer.{Outer}
use Rattle.ps_placer.specs.inside.Marks.{marks_of, is_kept}
use Rattle.ps_placer.specs.inside.Standing.{Stands, Does, Enters, Leaves, chosen}
use Rattle.ps_names.specs.inside.Clauses.{Triple, triple, placed_triple, block_of, placed_block}
use Rattle.ps_placer.specs.inside.Params.{placed_params}
use Rattle.ps_names.proofs.Doing.{Made, on_ok}
use Rattle.ps_placer.proofs.Entering.{entered, left, kept_ones}

text_known : (placer : Placer) (around : Around) (locals : Locals) (kept ks : List ℕ) (text : Option (List ℕ)) → Stands placer around locals → kept ≡ ks → text ≡ scope_text (fields_of placer.names.items) kept → text ≡ scope_text around.names ks
text_known placer around locals kept ks text stands kept_is text_is = text_is ∙ ap (λ names. scope_text names kept) stands.names ∙ ap (scope_text around.names) kept_is

pub block_done : (items made : Nodes) (kept : List ℕ) (text : Option (List ℕ)) (outer : Outer) (old mid last new : Placer) (r : Made) →
    kept ≡ chosen (is_kept (marks_of old.survey)) (declared items) → text ≡ scope_text (fields_of old.names.items) kept → Enters kept old mid outer →
    Does (λ around locals. placed_all around locals items) mid made last → OnOk r (Leaves outer last new) →
    OnOk r (Does (λ around locals. placed_block around locals items) old (block_of text made) new)
unfolding then_give
block_done items made kept text outer old mid last new r kept_is text_is enters does =
    on_ok r (λ leaves. record {
      at = λ around locals stands.
          let ks = common (declared items) around.kept in
          let kept_ks : kept ≡ ks = kept_ones old around locals kept (declared items) stands kept_is in
          let goes = subst (λ l. Enters l old mid outer) kept_ks enters in
          let here = does.at (inside around ks) locals (entered ks old mid outer around locals goes stands) in (
            ap (λ t. block_of t made) (text_known old around locals kept ks text stands kept_ks text_is) ∙ ap (block_of (scope_text around.names ks)) here.0,
            left ks old mid last new outer around locals _ goes stands here.1 leaves,
          );
    })

three_more : (p : Placer) (around : Around) (locals : Locals) → Stands p around locals → Stands (record p { nums = p.nums + 3 }) around (record locals { nums = locals.nums + 3 })
three_more p around locals stands = record {
  names = stands.names;
  kept = stands.kept;
  scopes = stands.scopes;
  spots = stands.spots;
  nums = ap (λ n. n + 3) stands.nums;
  refs = stands.refs;
  of = stands.of;
}

pub loop_done : (a b c s x y z w : Node) (slot : ℕ) (scope : Option (List ℕ)) (place made : Place) (line : Line) (kept : List ℕ) (text : Option (List ℕ)) (outer : Outer) (s0 s1 s2 s3 s4 s5 s6 : Placer) (r : Made) →
    s1 ≡ record s0 { nums = s0.nums + 3 } →
    ((around : Around) (locals : Locals) → Stands s1 around locals → Stands s2 around (with_declared around (number_of place) ty.Int locals)) →
    kept ≡ chosen (is_kept (marks_of s2.survey)) (number_of place ∷ []) → text ≡ scope_text (fields_of s2.names.items) kept →
    ((around : Around) (locals : Locals) → Stands s2 around locals → kept ≡ common (number_of place ∷ []) around.kept → made ≡ place_of (inside around kept) locals place) →
    Does (λ around locals. placed_triple around locals a b c) s2 (triple x y z) s3 → Enters kept s3 s4 outer → Does (λ around locals. placed around locals s) s4 w s5 → OnOk r (Leaves outer s5 s6) →
    OnOk r (Does (λ around locals. placed around locals (node.For slot a b c scope place s line)) s0 (node.For s0.nums x y z text made w line) s6)
unfolding ◌>>=◌ then_give
loop_done a b c s x y z w slot scope place made line kept text outer s0 s1 s2 s3 s4 s5 s6 r taken declares kept_is text_is place_is three enters does =
    on_ok r (λ leaves. record {
      at = λ around locals stands.
          let k = number_of place in
          let more = record locals { nums = locals.nums + 3 } in
          let own = with_declared around k ty.Int more in
          let known = declares around more (subst (λ (p : Placer). Stands p around more) (sym taken) (three_more s0 around locals stands)) in
          let ks = common (k ∷ []) around.kept in
          let kept_ks : kept ≡ ks = kept_ones s2 around own kept (k ∷ []) known kept_is in
          let first = three.at around own known in
          let goes = subst (λ l. Enters l s3 s4 outer) kept_ks enters in
          let behind = (placed_triple around own a b c).locals in
          let here = does.at (inside around ks) behind (entered ks s3 s4 outer around behind goes first.1) in
          let placed_is : made ≡ place_of (inside around ks) own place = place_is around own known kept_ks ∙ ap (λ l. place_of (inside around l) own place) kept_ks in (
            ap (λ n. node.For n x y z text made w line) stands.nums
                ∙ ap (λ (t : Triple). node.For locals.nums t.both.first t.both.second t.third text made w line) first.0
                ∙ ap (λ t. node.For locals.nums (placed_triple around own a b c).of.both.first (placed_triple around own a b c).of.both.second (placed_triple around own a b c).of.third t made w line) (text_known s2 around own kept ks text known kept_ks text_is)
                ∙ ap (λ p. node.For locals.nums (placed_triple around own a b c).of.both.first (placed_triple around own a b c).of.both.second (placed_triple around own a b c).of.third (scope_text around.names ks) p w line) placed_is
                ∙ ap (λ n. node.For locals.nums (placed_triple around own a b c).of.both.first (placed_triple around own a b c).of.both.second (placed_triple around own a b c).of.third (scope_text around.names ks) (place_of (inside around ks) own place) n line) here.0,
            left ks s3 s4 s5 s6 outer around behind _ goes first.1 here.1 leaves,
          );
    })

with_locals : (p : Placer) (around : Around) (locals : Locals) (nums refs : ℕ) → Stands p around locals → Stands (record p { nums = nums; refs = refs }) around (record locals { nums = nums; refs = refs })
with_locals p around locals nums refs stands = record {
  names = stands.names;
  kept = stands.kept;
  scopes = stands.scopes;
  spots = stands.spots;
  nums = refl;
  refs = refl;
  of = stands.of;
}

pub literal_done : (params made : List Param) (gives : TyView) (n w : Node) (scope : Option (List ℕ)) (line : Line) (kept : List ℕ) (text : Option (List ℕ)) (outer : Outer) (s0 s1 s2 s3 s4 : Placer) →
    kept ≡ chosen (is_kept (marks_of s0.survey)) (numbers params) → text ≡ scope_text (fields_of s0.names.items) kept →
    Enters kept (record s0 { nums = 0; refs = 0 }) s1 outer →
    ((around : Around) (locals : Locals) → Stands s1 around locals → Stands s2 around (with_params params locals)) →
    ((around : Around) (locals : Locals) → Stands s2 around locals → made ≡ placed_params around locals params) →
    Does (λ around locals. placed around locals n) s2 w s3 → Leaves outer s3 s4 →
    Does (λ around locals. placed_literal around locals (body params gives n scope line)) s0 (body made gives w text line) (record s4 { nums = s0.nums; refs = s0.refs })
unfolding ◌>>=◌ then_give
literal_done params made gives n w scope line kept text outer s0 s1 s2 s3 s4 kept_is text_is enters declares places does leaves = record {
  at = λ around locals stands.
      let fresh = record locals { nums = 0; refs = 0 } in
      let start = record s0 { nums = 0; refs = 0 } in
      let begins : Stands start around fresh = with_locals s0 around locals 0 0 stands in
      let ks = common (numbers params) around.kept in
      let kept_ks : kept ≡ ks = kept_ones s0 around locals kept (numbers params) stands kept_is in
      let goes = subst (λ l. Enters l start s1 outer) kept_ks enters in
      let within = inside around ks in
      let own = with_params params fresh in
      let known = declares within fresh (entered ks start s1 outer around fresh goes begins) in
      let here = does.at within own known in
      let last = (placed within own n).locals in
      let behind : Stands s4 around last = left ks start s1 s3 s4 outer around fresh last goes begins here.1 leaves in (
        ap (λ ps. body ps gives w text line) (places within own known)
            ∙ ap (λ t. body (placed_params within own params) gives t text line) here.0
            ∙ ap (λ t. body (placed_params within own params) gives (placed within own n).of t line) (text_known s0 around locals kept ks text stands kept_ks text_is),
        record {
          names = behind.names;
          kept = behind.kept;
          scopes = behind.scopes;
          spots = behind.spots;
          nums = stands.nums;
          refs = stands.refs;
          of = behind.of;
        },
      );
}
