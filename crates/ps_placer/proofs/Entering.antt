-- Going into a scope and out of it.
use Rattle.std.proofs.Common.{◌≡◌, ℕ, ◌+◌, List, [], ◌∷◌, length, refl, sym, ap, ◌∙◌, arith}
use Rattle.ps_type_text.specs.Members.{fields_of}
use Rattle.ps_typing.specs.Mentions.{is_among, common}
use Rattle.ps_typing.specs.Placing.{Around, Locals, inside}
use Rattle.ps_placer.specs.declared.placer.Placer.{Placer}
use Rattle.ps_placer.specs.declared.placer.Outer.{Outer}
use Rattle.ps_placer.specs.inside.Tables.{value_at}
use Rattle.ps_placer.specs.inside.Marks.{marks_of, is_kept}
use Rattle.ps_placer.specs.inside.Standing.{Stands, Enters, Leaves, undone, found_from, chosen}
use Rattle.ps_placer.proofs.Choosing.{chosen_common}

-- inside the scope that keeps these names
pub entered : (names : List ℕ) (old new : Placer) (outer : Outer) (around : Around) (locals : Locals) → Enters names old new outer → Stands old around locals → Stands new (inside around names) locals
entered [] old new outer around locals enters stands = record {
  names = ap (λ (p : Placer). fields_of p.names.items) enters.same ∙ stands.names;
  kept = λ k. ap (λ (p : Placer). is_kept (marks_of p.survey) k) enters.same ∙ stands.kept k;
  scopes = enters.scopes ∙ stands.scopes;
  spots = λ k. enters.found k ∙ stands.spots k;
  nums = ap (λ (p : Placer). p.nums) enters.same ∙ stands.nums;
  refs = ap (λ (p : Placer). p.refs) enters.same ∙ stands.refs;
  of = λ k. ap (λ (p : Placer). value_at p.locals k) enters.same ∙ stands.of k;
}
entered (name ∷ names) old new outer around locals enters stands =
    let scopes : new.scopes ≡ length around.scopes + 1 = enters.scopes ∙ ap (λ n. n + 1) stands.scopes in
    record {
      names = ap (λ (p : Placer). fields_of p.names.items) enters.same ∙ stands.names;
      kept = λ k. ap (λ (p : Placer). is_kept (marks_of p.survey) k) enters.same ∙ stands.kept k;
      scopes = omega (arith, scopes);
      spots = λ k. enters.found k ∙ ap (λ n. found_from n 0 (name ∷ names) (value_at old.spots k) k) scopes ∙ ap (λ o. found_from (length around.scopes + 1) 0 (name ∷ names) o k) (stands.spots k);
      nums = ap (λ (p : Placer). p.nums) enters.same ∙ stands.nums;
      refs = ap (λ (p : Placer). p.refs) enters.same ∙ stands.refs;
      of = λ k. ap (λ (p : Placer). value_at p.locals k) enters.same ∙ stands.of k;
    }

names_inside : (around : Around) (names : List ℕ) → (inside around names).names ≡ around.names
names_inside around [] = refl
names_inside around (k ∷ ks) = refl

kept_inside : (around : Around) (names : List ℕ) → (inside around names).kept ≡ around.kept
kept_inside around [] = refl
kept_inside around (k ∷ ks) = refl

-- after the scope
pub left : (names : List ℕ) (old new last then_ : Placer) (outer : Outer) (around : Around) (locals behind : Locals) → Enters names old new outer → Stands old around locals → Stands last (inside around names) behind → Leaves outer last then_ → Stands then_ around behind
left names old new last then_ outer around locals behind enters stands within leaves =
    let inner = entered names old new outer around locals enters stands in
    record {
      names = ap (λ (p : Placer). fields_of p.names.items) leaves.same ∙ within.names ∙ names_inside around names;
      kept = λ k. ap (λ (p : Placer). is_kept (marks_of p.survey) k) leaves.same ∙ within.kept k ∙ ap (λ ks. is_among ks k) (kept_inside around names);
      scopes = ap (λ (p : Placer). p.scopes) leaves.same ∙ enters.outer_scopes ∙ stands.scopes;
      spots = λ k. leaves.undo k ∙ ap (λ o. undone outer.hidden.items o k) (within.spots k ∙ sym (inner.spots k)) ∙ enters.undo k ∙ stands.spots k;
      nums = ap (λ (p : Placer). p.nums) leaves.same ∙ within.nums;
      refs = ap (λ (p : Placer). p.refs) leaves.same ∙ within.refs;
      of = λ k. ap (λ (p : Placer). value_at p.locals k) leaves.same ∙ within.of k;
    }

-- the kept ones among some names, as the placer finds them
pub kept_ones : (placer : Placer) (around : Around) (locals : Locals) (found ks : List ℕ) → Stands placer around locals → found ≡ chosen (is_kept (marks_of placer.survey)) ks → found ≡ common ks around.kept
kept_ones placer around locals found ks stands found_is = found_is ∙ chosen_common (is_kept (marks_of placer.survey)) around.kept ks stands.kept
