use Rattle.std.proofs.Common.{ℕ, ◌+◌, ◌≤◌, min, max, length, ap, sym, subst, arith}
use Rattle.obj_store.specs.Words.{IsPut}
use Rattle.obj_store.proofs.WordLaws.{put_done}
use Rattle.obj_store.proofs.words.put_words.Goals as goal

pub returns-clause-put : goal.returns-clause-put
returns-clause-put c =
    let a = c.args in
    let low = max a.at a.first in
    let high = min (a.at + length a.from.now) (a.first + 512) in
    let meets = c.requires.meets in
    let ends = c.meeting-low.ensures in
    let before = meets.0 in
    let behind = meets.1 in
    let ordered : low ≤ high = omega arith in
    let is_low = ap (λ (p : ℕ × ℕ). p.0) ends in
    let is_high = ap (λ (p : ℕ × ℕ). p.1) ends in
    put_done a.first low high c.loop-index.index a.at a.from.now a.page.now c.loop-index.page
    (subst (λ (n : ℕ). IsPut a.first n c.loop-index.index a.at a.from.now a.page.now c.loop-index.page) is_low c.loop-index.invariant.put)
    (subst (λ (n : ℕ). n ≤ c.loop-index.index) is_high c.loop-index-test.false)
    (λ le. subst (λ (n : ℕ). c.loop-index.index ≤ n) is_high (c.loop-index.auto.index-end (subst (λ (n : ℕ). n ≤ c.meeting-low.result.1) (sym is_low) (subst (λ (n : ℕ). low ≤ n) (sym is_high) le))))
    ordered
