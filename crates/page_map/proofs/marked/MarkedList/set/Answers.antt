use Rattle.std.proofs.Common.{◌≡◌, ◌&&◌, ℕ, List, ◌++◌, Bool, true, false, length, take, drop, refl, ap, ◌∙◌, sym, subst, arith}
use Rattle.std.proofs.lemmas.List.{take_all, drop_all, append-nil}
use Rattle.page_map.specs.inside.Marked.{MovesMark}
use Rattle.page_map.proofs.MarkLaws.{moved_right}
use Rattle.page_map.proofs.marked.MarkedList.set.Goals as goal

-- as many marks are put back
put_back : (new items : List Bool) (count : ℕ) → length new ≡ count → length items ≡ count → take count (new ++ drop (length new) items) ≡ new
put_back new items count long held =
    ap (λ (rest : List Bool). take count (new ++ rest)) (drop_all (length new) items (omega (arith, long, held)))
    ∙ ap (λ (list : List Bool). take count list) (append-nil new)
    ∙ take_all count new (omega (arith, long))

left_of : (a b : Bool) → (a && b) ≡ true → a ≡ true
left_of true b is = refl
left_of false b is = is

right_of : (a b : Bool) → (a && b) ≡ true → b ≡ true
right_of true b is = is
right_of false b is = absurd (cc)

pub invariant_of-self : goal.invariant_of-self
invariant_of-self c = λ apart.
    let done = right_of c.self.inside.apart c.move_mark-apart.result apart in
    let was = c.self.invariant (left_of c.self.inside.apart c.move_mark-apart.result apart) in
    let list = c.self.inside.list in
    let count : length c.self.inside.marks.items ≡ c.self.inside.marks.len = sym c.self.inside.marks.ok.0 in
    let long : length c.move_mark-apart.new.marks ≡ c.self.inside.marks.len = c.move_mark-apart.ensures.long ∙ ap length c.deref_mut.ensures.value ∙ count in
    rw (put_back c.move_mark-apart.new.marks c.self.inside.marks.items c.self.inside.marks.len long count, c.set.ensures)
    (moved_right c.self.inside.marks.items c.move_mark-apart.new.marks list c.args.page c.args.number was
    (omega (arith, c.requires, ap (λ (xs : List ℕ). length xs) c.self.view_is))
    (subst (λ (page : ℕ). MovesMark c.self.inside.marks.items c.move_mark-apart.new.marks page c.args.number true) c.number-old.ensures
    (subst (λ (marks : List Bool). MovesMark marks c.move_mark-apart.new.marks c.number-old.result c.args.number true) c.deref_mut.ensures.value
    (subst (λ (b : Bool). MovesMark c.deref_mut.result.now c.move_mark-apart.new.marks c.number-old.result c.args.number b) done c.move_mark-apart.ensures))))
