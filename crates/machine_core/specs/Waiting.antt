-- Bodies that wait for a call to come back, and the words that they left.
use Rattle.std.specs.Prelude.{◌≡◌, ◌+◌, ◌*◌, ℕ, ◌<◌, ◌≤◌, ℤ, List, [], ◌∷◌, ◌++◌, length, All, sum_by, vec_len, vec_capacity}
use Rattle.std.specs.declared.alloc.Global.{Global}
use Rattle.std.specs.declared.vec.Vec.{Vec}
use Rattle.frame_stack.specs.Frames.{Frames}
use Rattle.joint_ops.specs.ps_outside.Outside.{Outside}
use Rattle.joint_ops.specs.obj_layout.Stored.{Space}
use Rattle.joint_ops.specs.obj_layout.declared.reference.Reference.{Reference}
use Rattle.joint_ops.specs.swizzle.Heap as area
use Rattle.joint_ops.specs.proc_values.Loaded.{IsFitUnit}
use Rattle.ps_stepping.specs.ps_meaning.Evaluation.{most_calls}
use Rattle.ps_stepping.specs.Config.{Caller, frame_words, frame_in}
use Rattle.joint_ops.specs.World.{DenotesScopeIn, IsUnitIn}
use Rattle.machine_core.specs.declared.caller.Caller as in_code
use Rattle.machine_core.specs.Rows.{IsRow, IsRefRow, object_in}

-- the most words on one stack: those of all bodies that may wait, and of the one that runs
abbrev pub all_words : ℕ
all_words = (most_calls + 1) * frame_words

-- With these words it is this body that waits.
pub record IsWaiting (here : area.Heap) (outside : Outside Space) (names : List Reference) (of : in_code.Caller) (nums : List ℤ) (refs : List ℕ) (caller : Caller) : Type 0 where
  pub unit_is : IsUnitIn here outside of.code caller.unit
  pub fit : IsFitUnit caller.unit
  pub frame_is : frame_in caller.unit ≡ of.frame
  pub at_is : caller.at ≡ of.at
  pub scope_is : DenotesScopeIn here outside names (object_in of.scope) caller.scope
  pub nums_are : IsRow nums of.frame.nums caller.nums caller.locals.nums
  pub refs_are : IsRefRow here outside names refs of.frame.refs caller.refs caller.locals.refs

-- The last of some bodies, whose words stand above those of the others. On the stack of the references one word more stands above them: the
-- procedure that it called.
pub record Last (callers : List in_code.Caller) (nums : List ℤ) (refs : List ℕ) : Type 0 where
  pub below : List in_code.Caller
  pub last : in_code.Caller
  pub low_nums : List ℤ
  pub own_nums : List ℤ
  pub low_refs : List ℕ
  pub own_refs : List ℕ
  pub called : ℕ
  pub callers_are : callers ≡ below ++ last ∷ []
  pub nums_are : nums ≡ low_nums ++ own_nums
  pub refs_are : refs ≡ low_refs ++ (own_refs ++ called ∷ [])
  pub nums_count : length own_nums ≡ last.nums
  pub refs_count : length own_refs + 1 ≡ last.refs

-- with these words it is these bodies that wait, of which the last stands first here
abbrev pub AreWaiting : area.Heap → Outside Space → List Reference → List in_code.Caller → List ℤ → List ℕ → List Caller → Type 0
AreWaiting here outside names callers nums refs [] = (callers ≡ []) × (nums ≡ []) × (refs ≡ [])
AreWaiting here outside names callers nums refs (caller ∷ rest) =
    (top : Last callers nums refs) × IsWaiting here outside names top.last top.own_nums top.own_refs caller × AreWaiting here outside names top.below top.low_nums top.low_refs rest

-- a body has all its locals, and no more words than one frame may have; one of its references is the procedure that it called
pub record IsFramed (of : in_code.Caller) : Type 0 where
  pub nums_fit : of.frame.nums ≤ of.nums
  pub refs_fit : of.frame.refs < of.refs
  pub nums_below : of.nums ≤ frame_words
  pub refs_below : of.refs ≤ frame_words

module _ (callers : Vec in_code.Caller Global) (nums : Frames ℤ) (refs : Frames ℕ) where
  -- there is memory for as many bodies as may wait, and for all words
  pub record HasRoom : Type 0 where
    pub callers_room : most_calls ≤ vec_capacity callers
    pub nums_room : all_words ≤ length nums.below + nums.room
    pub refs_room : all_words ≤ length refs.below + refs.room

  -- Each has its own words, they are no more than may wait, and there is memory for those.
  pub record IsOrderly : Type 0 where
    pub framed : All IsFramed callers.items
    pub nums_are : length nums.below ≡ sum_by (λ (c : in_code.Caller). c.nums) callers.items
    pub refs_are : length refs.below ≡ sum_by (λ (c : in_code.Caller). c.refs) callers.items
    pub few : vec_len callers ≤ most_calls
    pub room : HasRoom
