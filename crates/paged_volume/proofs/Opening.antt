-- How far the making of a volume came, by moments.
use Rattle.std.proofs.Common.{◌⊎◌, ⊎_elim, ℕ, ◌≤◌, List, arith}
use Rattle.ps_port.specs.ps_outside.Outside.{Outside, LeavesSame}
use Rattle.ps_port.proofs.of_ps_outside.Moments.{along_then, along_now}
use Rattle.paged_volume.specs.Making.{OpensGate, ShutsGate}
use Rattle.paged_volume.specs.Making as calls
use Rattle.paged_volume.specs.Opening.{OpensAt, ShutsAt}
use Rattle.paged_volume.specs.Opening as moments

either : (m n : ℕ) → (m ≤ n) ⊎ (n ≤ m)
either m n = grind arith

module _ {H : Type 0} (outside : H → Outside (List ℕ)) (pages : ℕ) (old : H) where
  pub opens_at : (new : H) → OpensGate outside pages old new → OpensAt pages (outside old) (outside new)
  opens_at new is =
      let order = is.stays.later in
      record {
        shut_from = (outside is.shut).clock;
        shut_until = (outside is.full).clock;
        from = is.before.images.later;
        order = is.stays.later;
        until = is.opens.later;
        before = λ m image low high at. is.before.images.each m image low high (is.stays.no_other m image high (is.opens.no_other m image (omega arith) at));
        shut = λ m image low high at. is.stays.each m image low high (is.opens.no_other m image high at);
        opens = λ m image low high at. is.opens.each m image low high at;
      }

  pub shuts_at : (new : H) → ShutsGate outside pages old new → ShutsAt pages (outside old) (outside new)
  shuts_at new (calls.not_shut is) = moments.not_shut is
  shuts_at new (calls.still_shut shut before stays) = moments.still_shut (record {
    shut_from = (outside shut).clock;
    from = before.images.later;
    until = stays.later;
    before = λ m image low high at. before.images.each m image low high (stays.no_other m image high at);
    shut = λ m image low high at. stays.each m image low high at;
  })
  shuts_at new (calls.opened is) = moments.opened (opens_at new is)

-- calls that leave the device come after it
pub opens_then : (pages : ℕ) (a b c : Outside (List ℕ)) → OpensAt pages a b → LeavesSame b c → OpensAt pages a c
opens_then pages a b c is next =
    let order = is.order in
    let until = is.until in
    let later = next.later in
    record {
      shut_from = is.shut_from;
      shut_until = is.shut_until;
      from = is.from;
      order = is.order;
      until = omega arith;
      before = λ m image low high at. is.before m image low high (next.no_other m image (omega arith) at);
      shut = λ m image low high at. is.shut m image low high (next.no_other m image (omega arith) at);
      opens = λ m image low high at. ⊎_elim
          (λ early. is.opens m image low early (next.no_other m image early at))
          (λ late. is.opens b.clock image until (omega arith) (next.each m image late high at))
          (either m b.clock);
    }

pub shuts_then : (pages : ℕ) (a b c : Outside (List ℕ)) → ShutsAt pages a b → LeavesSame b c → ShutsAt pages a c
shuts_then pages a b c (moments.not_shut is) next = moments.not_shut (along_then is next (along_now is))
shuts_then pages a b c (moments.still_shut is) next =
    let until = is.until in
    let later = next.later in
    moments.still_shut (record {
      shut_from = is.shut_from;
      from = is.from;
      until = omega arith;
      before = λ m image low high at. is.before m image low high (next.no_other m image (omega arith) at);
      shut = λ m image low high at. ⊎_elim
          (λ early. is.shut m image low early (next.no_other m image early at))
          (λ late. is.shut b.clock image until (omega arith) (next.each m image late high at))
          (either m b.clock);
    })
shuts_then pages a b c (moments.opened is) next = moments.opened (opens_then pages a b c is next)
