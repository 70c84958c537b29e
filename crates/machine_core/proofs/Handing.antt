-- What is so of a frame that fits, and room for one body more.
use Rattle.std.proofs.Common.{◌≡◌, ℕ, ◌+◌, ◌<◌, ◌≤◌, ℤ, Bool, true, false, List, [], ◌∷◌, ◌++◌, length, refl, sym, ap, ◌∙◌, subst, arith, length-append}
use Rattle.std.specs.Prelude.{All, not, nat_lt, sum_by, vec_len}
use Rattle.std.specs.declared.alloc.Global.{Global}
use Rattle.std.specs.declared.vec.Vec.{Vec}
use Rattle.std.proofs.lemmas.Bool.{and_parts, eqb-true, ltb-false}
use Rattle.std.proofs.lemmas.List.Elements.{All-push}
use Rattle.std.proofs.lemmas.List.Sums.{sum_by_push}
use Rattle.frame_stack.specs.Frames.{Frames}
use Rattle.ps_base.specs.declared.code_unit.Frame.{Frame}
use Rattle.ps_stepping.specs.ps_meaning.Evaluation.{most_calls}
use Rattle.ps_stepping.specs.Config.{frame_words}
use Rattle.ps_stepping.specs.Procedures.{takes_refs}
use Rattle.machine_core.specs.declared.caller.Caller as in_code
use Rattle.machine_core.specs.Waiting.{IsFramed, IsOrderly, HasRoom}
use Rattle.machine_core.proofs.Callers.{sum-within}

-- what is so of a frame that takes so many references
pub record IsTaken (n : ℕ) (frame : Frame) : Type 0 where
  pub refs_are : n ≡ frame.ref_params
  pub refs_fit : frame.ref_params ≤ frame.refs
  pub nums_fit : frame.num_params ≤ frame.nums
  pub nums_below : frame.nums ≤ frame_words
  pub refs_below : frame.refs ≤ frame_words

-- a number isn't less than another one
not-less : (a b : ℕ) → not (nat_lt a b) ≡ true → b ≤ a
not-less a b is = of (nat_lt a b) refl is
  where
    of : (r : Bool) → nat_lt a b ≡ r → not r ≡ true → b ≤ a
    of true e n = absurd (cc)
    of false e n = ltb-false a b e

pub taken-frame : (n : ℕ) (frame : Frame) → takes_refs n frame ≡ true → IsTaken n frame
taken-frame n frame is =
    let a = and_parts _ _ is in
    let b = and_parts _ _ a.1 in
    let d = and_parts _ _ b.1 in
    let e = and_parts _ _ d.1 in
    record {
      refs_are = eqb-true n frame.ref_params a.0;
      refs_fit = not-less frame.refs frame.ref_params b.0;
      nums_fit = not-less frame.nums frame.num_params d.0;
      nums_below = not-less frame_words frame.nums e.0;
      refs_below = not-less frame_words frame.refs e.1;
    }

-- where no body waits they are in order
pub orderly-none : (callers : Vec in_code.Caller Global) (nums : Frames ℤ) (refs : Frames ℕ) → callers.items ≡ [] → nums.below ≡ [] → refs.below ≡ [] → HasRoom callers nums refs → IsOrderly callers nums refs
orderly-none callers nums refs none no_nums no_refs room = record {
  framed = subst (λ (ws : List in_code.Caller). All IsFramed ws) (sym none) (λ k d below. absurd (omega arith));
  nums_are = ap length no_nums ∙ sym (ap (λ (ws : List in_code.Caller). sum_by (λ (c : in_code.Caller). c.nums) ws) none);
  refs_are = ap length no_refs ∙ sym (ap (λ (ws : List in_code.Caller). sum_by (λ (c : in_code.Caller). c.refs) ws) none);
  few = let long = ap length none in omega (arith, long, callers.ok.0);
  room = room;
}

-- there is room for the words of one body more
module _ (callers : Vec in_code.Caller Global) (nums : Frames ℤ) (refs : Frames ℕ) (sound : IsOrderly callers nums refs) (few : vec_len callers < most_calls) where
  pub nums-room : frame_words + frame_words ≤ nums.room
  nums-room =
      let all = sum-within (λ (c : in_code.Caller). c.nums) (λ w f. f.nums_below) callers.items sound.framed in
      let is = sound.nums_are in
      let room = sound.room.nums_room in
      omega (arith, all, is, room, few, callers.ok.0)

  pub refs-room : frame_words + frame_words ≤ refs.room
  refs-room =
      let all = sum-within (λ (c : in_code.Caller). c.refs) (λ w f. f.refs_below) callers.items sound.framed in
      let is = sound.refs_are in
      let room = sound.room.refs_room in
      omega (arith, all, is, room, few, callers.ok.0)

  -- with one body more they are in order
  pub orderly-above : (all : Vec in_code.Caller Global) (ns : Frames ℤ) (rs : Frames ℕ) (w : in_code.Caller) → IsFramed w → all.items ≡ callers.items ++ w ∷ [] → length ns.below ≡ length nums.below + w.nums
      → length rs.below ≡ length refs.below + w.refs → HasRoom all ns rs → IsOrderly all ns rs
  orderly-above all ns rs w framed is many more room = record {
    framed = subst (λ (xs : List in_code.Caller). All IsFramed xs) (sym is) (All-push IsFramed callers.items w sound.framed framed);
    nums_are = many ∙ ap (λ (n : ℕ). n + w.nums) sound.nums_are ∙ sym (sum_by_push (λ (c : in_code.Caller). c.nums) callers.items w)
        ∙ ap (λ (xs : List in_code.Caller). sum_by (λ (c : in_code.Caller). c.nums) xs) (sym is);
    refs_are = more ∙ ap (λ (n : ℕ). n + w.refs) sound.refs_are ∙ sym (sum_by_push (λ (c : in_code.Caller). c.refs) callers.items w)
        ∙ ap (λ (xs : List in_code.Caller). sum_by (λ (c : in_code.Caller). c.refs) xs) (sym is);
    few = let long = ap length is in omega (arith, long, few, callers.ok.0, all.ok.0, length-append callers.items (w ∷ []));
    room = room;
  }
