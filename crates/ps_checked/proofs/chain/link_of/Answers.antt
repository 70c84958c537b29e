use Rattle.std.proofs.Common.{◌≡◌, ◌∙◌, ap, sym, arith}
use Rattle.ps_base.specs.List.{items_of}
use Rattle.ps_tree.specs.Phrase.{form_of, phrase_of}
use Rattle.ps_tree.specs.PhraseLists.{phrases_in}
use Rattle.ps_tree.proofs.PhraseLemmas.{form_of-Apply}
use Rattle.ps_tree.specs.Phrase as form
use Rattle.ps_declared.specs.ps_typing.Checking.{check, check_form, applied, checkers}
use Rattle.ps_checked.specs.inside.Links.{applied_to}
use Rattle.ps_checked.specs.inside.Weights.{weight_all, weight_form, weight_link}
use Rattle.ps_checked.proofs.chain.link_of.Goals as goal

pub returns-in-Part-clause-chain : goal.returns-in-Part-clause-chain
returns-in-Part-clause-chain c names =
    ap (λ f. check_form names c.args.rough.now.line (form_of f)) (sym c.deref.ensures ∙ c.in-Part.is) ∙ sym (c.part.ensures.link (check names (phrase_of c.in-Part.s)))

pub returns-in-None-clause-chain : goal.returns-in-None-clause-chain
returns-in-None-clause-chain c names =
    let f = phrase_of c.in-Apply.f in
    let args = phrases_in (items_of c.in-Apply.args) in
    ap (λ f. check_form names c.args.rough.now.line (form_of f)) (sym c.deref.ensures ∙ c.in-Apply.is)
    ∙ ap (check_form names c.args.rough.now.line) (form_of-Apply c.in-Apply.f c.in-Apply.args)
    ∙ ap (λ n. applied names c.args.rough.now.line c.in-Apply.f.line n (check names f) args (checkers args)) (sym c.in-None.ensures)
    ∙ ap (λ items. applied_to c.args.rough.now.line (phrases_in items) (check names f)) (sym c.as_slice.ensures)
    ∙ sym (c.apply.ensures.link (check names f))

pub returns-in-None-clause-weight : goal.returns-in-None-clause-weight
returns-in-None-clause-weight c =
    let all : weight_form (form_of c.args.rough.now.form.value) ≡ weight_form (form.Apply (phrase_of c.in-Apply.f) (phrases_in (items_of c.in-Apply.args))) = ap (λ f. weight_form (form_of f)) (sym c.deref.ensures ∙ c.in-Apply.is) ∙ ap weight_form (form_of-Apply c.in-Apply.f c.in-Apply.args) in
    let link : weight_link c.apply.result ≡ weight_all (phrases_in (items_of c.in-Apply.args)) = c.apply.ensures.weight ∙ ap (λ items. weight_all (phrases_in items)) c.as_slice.ensures in
    omega (arith, all, link)

pub returns-in-Or-clause-chain : goal.returns-in-Or-clause-chain
returns-in-Or-clause-chain c names =
    ap (λ f. check_form names c.args.rough.now.line (form_of f)) (sym c.deref.ensures ∙ c.in-Or.is) ∙ sym (c.new.ensures.link (check names (phrase_of c.in-Or.a)))

pub returns-in-And-clause-chain : goal.returns-in-And-clause-chain
returns-in-And-clause-chain c names =
    ap (λ f. check_form names c.args.rough.now.line (form_of f)) (sym c.deref.ensures ∙ c.in-And.is) ∙ sym (c.new-in-And.ensures.link (check names (phrase_of c.in-And.a)))

pub returns-in-Join-clause-chain : goal.returns-in-Join-clause-chain
returns-in-Join-clause-chain c names =
    ap (λ f. check_form names c.args.rough.now.line (form_of f)) (sym c.deref.ensures ∙ c.in-Join.is) ∙ sym (c.new-in-Join.ensures.link (check names (phrase_of c.in-Join.a)))

pub returns-in-Arith-clause-chain : goal.returns-in-Arith-clause-chain
returns-in-Arith-clause-chain c names =
    ap (λ f. check_form names c.args.rough.now.line (form_of f)) (sym c.deref.ensures ∙ c.in-Arith.is) ∙ sym (c.new-in-Arith.ensures.link (check names (phrase_of c.in-Arith.a)))

pub returns-in-Or-clause-weight : goal.returns-in-Or-clause-weight
returns-in-Or-clause-weight c =
    let all = ap (λ f. weight_form (form_of f)) (sym c.deref.ensures ∙ c.in-Or.is) in
    omega (arith, all, c.new.ensures.weight)

pub returns-in-And-clause-weight : goal.returns-in-And-clause-weight
returns-in-And-clause-weight c =
    let all = ap (λ f. weight_form (form_of f)) (sym c.deref.ensures ∙ c.in-And.is) in
    omega (arith, all, c.new-in-And.ensures.weight)

pub returns-in-Join-clause-weight : goal.returns-in-Join-clause-weight
returns-in-Join-clause-weight c =
    let all = ap (λ f. weight_form (form_of f)) (sym c.deref.ensures ∙ c.in-Join.is) in
    omega (arith, all, c.new-in-Join.ensures.weight)

pub returns-in-Arith-clause-weight : goal.returns-in-Arith-clause-weight
returns-in-Arith-clause-weight c =
    let all = ap (λ f. weight_form (form_of f)) (sym c.deref.ensures ∙ c.in-Arith.is) in
    omega (arith, all, c.new-in-Arith.ensures.weight)

pub returns-in-Part-clause-weight : goal.returns-in-Part-clause-weight
returns-in-Part-clause-weight c =
    let all = ap (λ f. weight_form (form_of f)) (sym c.deref.ensures ∙ c.in-Part.is) in
    omega (arith, all, c.part.ensures.weight)
