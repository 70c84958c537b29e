use Rattle.std.proofs.Common.{◌≡◌, ℕ, refl, sym, ◌∙◌, subst, Option, Some, None}
use Rattle.swizzle.specs.Fetched.{IsLocal}
use Rattle.swizzle.specs.Heap.{local_of}
use Rattle.swizzle.specs.obj_layout.Stored.{damage}
use Rattle.commit_walk.specs.Nowhere.{word_0}
use Rattle.commit_walk.proofs.NowhereLaws.{all-damaged}
use Rattle.commit_walk.proofs.walk.find.Goals as goal

-- nothing came, since no PID has an object there
unmoved : (c : goal.In-Ok) (r : Option ℕ) → local_of c.args.sw.now c.args.pid ≡ r → c.touch_pid.new.self ≡ c.args.sw.now
unmoved c (Some at) e = (c.in-Ok.ensures.near at e).0
unmoved c None e =
    let passes = (c.in-Ok.ensures.sound c.args.pid refl e).passes word_0 refl in
    let both : damage c.args.pid 1 ≡ None = sym (all-damaged c.args.pid None) ∙ passes in
    absurd (cc)

pub returns-in-Ok-clause-found : goal.returns-in-Ok-clause-found
returns-in-Ok-clause-found c = subst (λ h. IsLocal h c.args.pid c.in-Ok.at) (unmoved c (local_of c.args.sw.now c.args.pid) refl) c.in-Ok.ensures.place

pub returns-in-Ok-clause-same : goal.returns-in-Ok-clause-same
returns-in-Ok-clause-same c = unmoved c (local_of c.args.sw.now c.args.pid) refl
