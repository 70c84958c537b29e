-- What a body does that is called.
use Rattle.std.specs.Prelude.{ℕ, zero, suc, List}
use Rattle.ps_typing.specs.ps_program.Node.{BodyNode, body}
use Rattle.ps_heap.specs.Values.{Value}
use Rattle.ps_heap.specs.Ends.{OutOfTurns}
use Rattle.ps_meaning.specs.Meaning.{Meaning, stop, ◌>>=◌, in_scope, take_turn, touch_scope}
use Rattle.ps_meaning.specs.Frames.{keep_all}
use Rattle.ps_meaning.specs.Evaluation.{Context, eval}

-- in its frame: its scope is made, and the arguments that it keeps are copied there, and then comes its clause
unfoldable pub body_meant : Context → BodyNode → List Value → Meaning
body_meant c (body params gives tree text line) args = in_scope text (keep_all params args >>= λ u. eval c tree)

-- The call of this number of those inside one another: it takes a turn, the scope of the procedure is touched, and then comes the body. Where the bound
-- is 0 no turn is left.
unfoldable pub call_within : ℕ → ℕ → BodyNode → List Value → Meaning
call_within zero depth of args = stop OutOfTurns
call_within (suc n) depth of args =
    take_turn >>= λ t. touch_scope >>= λ u. body_meant (record { bound = n; depth = depth; call = call_within n (suc depth) }) of args

-- where at most so many turns are left, and so many calls are round a clause
abbrev pub context : ℕ → ℕ → Context
context n depth = record { bound = n; depth = depth; call = call_within n (suc depth) }
