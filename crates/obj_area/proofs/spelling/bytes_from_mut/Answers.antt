use Rattle.std.proofs.Common.{◌≡◌, ◌+◌, ◌-◌, ◌*◌, ℕ, take, drop, refl, ap, ◌∙◌, arith}
use Rattle.obj_area.proofs.spelling.bytes_from_mut.Goals as goal

pub returns : goal.returns
returns g c =
    let count : 8 * c.args.index + c.args.len - 8 * c.args.index ≡ c.args.len = omega arith in (
      (refl, λ w. refl),
      record {
        writes_back = tt;
        value = c.slice_mut.ensures.value ∙ ap (λ (n : ℕ). take n (drop (8 * c.args.index) c.args.bytes.now.items)) count;
        len = c.slice_mut.ensures.len ∙ count;
        spelled = rw c.deref.ensures.value at c.are_spelled.ensures;
      },
    )
