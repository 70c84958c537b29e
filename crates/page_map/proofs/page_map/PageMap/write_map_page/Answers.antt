use Rattle.std.proofs.Common.{◌≡◌, ℕ, ◌+◌, ◌*◌, List, [], ◌++◌, get_or, drop, sym, ap, ◌∙◌, arith}
use Rattle.std.proofs.lemmas.List.{append-nil, drop_all}
use Rattle.page_map.specs.Map.{MapView}
use Rattle.page_map.specs.Numbers.{bytes_of, numbers_from}
use Rattle.page_map.proofs.NumberLaws.{bytes_of_none, written_more}
use Rattle.page_map.proofs.page_map.PageMap.write_map_page.Goals as goal

pub loop-index-init : goal.loop-index-init
loop-index-init c = sym (ap (λ (xs : List ℕ). xs ++ c.args.into.now) (bytes_of_none c.self.inside.staged (1024 * c.args.number)))

pub loop-index-preserved : goal.loop-index-preserved
loop-index-preserved c =
    c.write_number.ensures
    ∙ written_more c.self.inside.staged c.args.into.now c.loop-index.into (1024 * c.args.number) c.loop-index.index c.number_or_none.result
    (c.number_or_none.ensures ∙ ap (λ (list : List ℕ). get_or list (1024 * c.args.number + c.loop-index.index) 0) c.list.ensures) c.loop-index.invariant

pub returns : goal.returns
returns c =
    let staged = c.self.inside.staged in
    let place = 1024 * c.args.number in
    let end : c.loop-index.index ≡ 1024 = omega arith in
    let none : drop (4 * c.loop-index.index) c.args.into.now ≡ [] = drop_all (4 * c.loop-index.index) c.args.into.now (omega arith) in
    c.loop-index.invariant
    ∙ ap (λ (xs : List ℕ). bytes_of (numbers_from staged place c.loop-index.index) ++ xs) none
    ∙ append-nil (bytes_of (numbers_from staged place c.loop-index.index))
    ∙ ap (λ (n : ℕ). bytes_of (numbers_from staged place n)) end
    ∙ ap (λ (map : MapView). bytes_of (numbers_from map.staged place 1024)) c.self.view_is
