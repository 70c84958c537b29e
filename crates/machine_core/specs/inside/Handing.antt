-- How words go from one body to another.
use Rattle.std.specs.Prelude.{◌≡◌, ℕ, ◌+◌, ◌-◌, ℤ, pos, [], ◌∷◌, ◌++◌, drop, length, replicate, take}
use Rattle.std.specs.declared.alloc.Global.{Global}
use Rattle.std.specs.declared.vec.Vec.{Vec}
use Rattle.frame_stack.specs.Frames.{Frames}
use Rattle.machine_core.specs.declared.body.Body.{Body}
use Rattle.machine_core.specs.declared.caller.Caller.{Caller}
use Rattle.machine_core.specs.declared.machine.Machine.{Machine}
use Rattle.machine_core.specs.Holding.{IsSound}

-- the body that runs, where so many words of each stack stay with it
abbrev pub caller_of : Machine → ℕ → ℕ → Caller
caller_of m nums refs = record { code = m.code; place = m.place; frame = m.frame; scope = m.scope; at = m.at; nums = nums; refs = refs }

-- the machine at the start of a body, with these stacks, where these bodies wait
abbrev pub entered : Machine → Body → Frames ℤ → Frames ℕ → Vec Caller Global → Machine
entered m body nums refs callers = record m {
  code = body.code;
  place = body.place;
  frame = body.frame;
  scope = body.scope;
  at = 0;
  nums = nums;
  refs = refs;
  callers = callers;
}

-- The body that ran waits but for its arguments, and the body that was called has those and blanks.
pub record IsEntered (body : Body) (args : ℕ) (old new : Machine) : Type 0 where
  pub low_nums : ℕ
  pub low_refs : ℕ
  pub nums_count : low_nums + body.frame.num_params ≡ length old.nums.own
  pub refs_count : low_refs + 1 + args ≡ length old.refs.own
  pub nums : Frames ℤ
  pub refs : Frames ℕ
  pub callers : Vec Caller Global
  pub new_is : new ≡ entered old body nums refs callers
  pub sound : IsSound new
  pub own_nums : nums.own ≡ drop low_nums old.nums.own ++ replicate (body.frame.nums - body.frame.num_params) (pos 0)
  pub own_refs : refs.own ≡ drop (low_refs + 1) old.refs.own ++ replicate (body.frame.refs - args) 0
  pub callers_are : callers.items ≡ old.callers.items ++ caller_of old low_nums (low_refs + 1) ∷ []
  pub nums_below : nums.below ≡ old.nums.below ++ take low_nums old.nums.own
  pub refs_below : refs.below ≡ old.refs.below ++ take (low_refs + 1) old.refs.own
