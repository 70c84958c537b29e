-- The meaning of each clause. A clause goes from left to right, and an operation's own tests come after all its operands.
use Rattle.std.specs.Prelude.{ℕ, ◌+◌, Bool, true, false, not, nat_lt, List, [], ◌∷◌, Option, Some, None}
use Rattle.ps_base.specs.TyView.{TyView}
use Rattle.ps_base.specs.declared.line.Line.{Line}
use Rattle.ps_base.specs.declared.trap.Trap.TheVariants as trap
use Rattle.ps_base.specs.declared.trap.Trap.TheVariants.{TooDeep, Abort}
use Rattle.ps_typing.specs.ps_type_text.Texts.{type_text}
use Rattle.ps_typing.specs.ps_program.Node.{Node, Nodes, none, more, Arms, no_arms, more_arms, arm, BodyNode}
use Rattle.ps_typing.specs.ps_program.Node as node
pub use Rattle.ps_base.specs.Limits.{most_calls}
use Rattle.ps_heap.specs.Operators.{neg_of, arith_of}
use Rattle.ps_heap.specs.Ends.{Trapped}
use Rattle.ps_heap.specs.Values.{Value, Num, Flag, Text, Nil, Procedure, Nothing, as_written, word_of, flag_of, shown}
use Rattle.ps_heap.specs.Objects.{is_class}
use Rattle.ps_heap.specs.Library.{library_procedure}
use Rattle.ps_meaning.specs.Meaning.{Meaning, give, stop, ◌>>=◌, choose, answer, with_heap, made_procedure, in_scope, in_frame, written, get, set}
use Rattle.ps_meaning.specs.Frames.{frame_of_call}
use Rattle.ps_meaning.specs.Loops.{while_turns, for_meant, scan_turns, begin_scan}
use Rattle.ps_meaning.specs.Operations.{make_meant, elements_meant, fill_meant, field_meant, set_field_meant, element_meant, set_element_meant, bound_meant, join_meant, part_meant, compares, is_equal, lib_meant}

-- What a clause is evaluated in: a number that bounds the turns that are left, by which loops are defined; how many calls there are round it;
-- and what a body does that is called with some arguments, in its frame.
pub record Context : Type 0 where
  pub bound : ℕ
  pub depth : ℕ
  pub call : BodyNode → List Value → Meaning

-- Calls. At most `most_calls` are inside one another, and this is tested before a call takes its turn; after it the frame is the one before. No typed program calls what is no procedure: each name that a body can mention has its value when the body is called.
unfoldable pub call_meant : Context → Line → Value → List Value → Meaning
call_meant c line (Procedure (as_written of) scope) args =
    choose (nat_lt c.depth most_calls) (in_frame (frame_of_call of scope args) (c.call of args)) (stop (Trapped TooDeep line))
call_meant c line _ args = stop (Trapped trap.Nil line)

-- The meaning of a clause in a context.
unfoldable mutual
  pub eval : Context → Node → Meaning
  eval c (node.Int z) = give (Num z)
  eval c (node.Flag b) = give (Flag b)
  eval c (node.Text bytes) = give (Text bytes)
  eval c (node.Name place ty) = get place ty
  eval c (node.SetName place ty e) = eval c e >>= λ v. set place ty v
  eval c (node.Let place ty e) = eval c e >>= λ v. set place ty v
  eval c node.Empty = give Nothing
  eval c (node.Block scope items) = in_scope scope (eval_all c Nothing items)
  eval c (node.IfDo test a) = eval c test >>= λ v. choose (flag_of v) (eval c a) (give Nothing)
  eval c (node.IfElse test a b) = eval c test >>= λ v. choose (flag_of v) (eval c a) (eval c b)
  eval c (node.While test a) = while_turns c.bound (eval c test) (eval c a)
  eval c (node.Repeat a test b) = while_turns c.bound (eval c a >>= λ u. eval c test) (eval c b)
  eval c (node.For slot from to by scope control s line) =
      for_meant c.bound line slot scope control (eval c from) (eval c to) (eval c by) (eval c s)
  eval c (node.Case e arms d ty) = eval c e >>= λ v. eval_arms c ty v arms (eval c d)
  eval c (node.And a b) = eval c a >>= λ v. choose (flag_of v) (eval c b) (give v)
  eval c (node.Or a b) = eval c a >>= λ v. choose (flag_of v) (give v) (eval c b)
  eval c (node.Not e) = eval c e >>= λ v. give (Flag (not (flag_of v)))
  eval c (node.Neg e line) = eval c e >>= λ v. answer line (neg_of (word_of v))
  eval c (node.Plus e) = eval c e
  eval c (node.Arith op a b line) = eval c a >>= λ v. eval c b >>= λ w. answer line (arith_of op (word_of v) (word_of w))
  eval c (node.Compare op ty a b) = eval c a >>= λ v. eval c b >>= λ w. give (Flag (compares op ty v w))
  eval c node.Nil = give Nil
  eval c node.Class = give Nothing
  eval c (node.Is e class) = eval c e >>= λ v. with_heap (λ heap. give (Flag (is_class heap v class)))
  eval c (node.Join a b line) = eval c a >>= λ v. eval c b >>= λ w. join_meant line v w
  eval c (node.Part a i n line) = eval c a >>= λ v. eval c i >>= λ from. eval c n >>= λ count. part_meant line v from count
  eval c (node.Make class args) = eval_each c args (make_meant class)
  eval c (node.Field e class n ty line) = eval c e >>= λ o. field_meant line class n o
  eval c (node.SetField p class n ty e line) = eval c p >>= λ o. eval c e >>= λ v. set_field_meant line class n o v
  eval c (node.Fill l u e ty line) = eval c l >>= λ low. eval c u >>= λ high. eval c e >>= λ v. fill_meant line (type_text ty) low high v
  eval c (node.Elems l items ty line) = eval c l >>= λ low. eval_each c items (elements_meant line (type_text ty) low)
  eval c (node.Element v i ty line) = eval c v >>= λ vector. eval c i >>= λ at. element_meant line vector at
  eval c (node.SetElement v i e ty line) = eval c v >>= λ vector. eval c i >>= λ at. eval c e >>= λ w. set_element_meant line vector at w
  eval c (node.Bound v upper) = eval c v >>= λ vector. bound_meant upper vector
  eval c (node.Lib code args line) = eval_each c args (lib_meant line (library_procedure code))
  eval c (node.Write e w false ty line) = eval c e >>= λ v. written line None (shown ty v)
  eval c (node.Write e w true ty line) = eval c e >>= λ v. eval c w >>= λ width. written line (Some (word_of width)) (shown ty v)
  eval c (node.Abort line) = stop (Trapped Abort line)
  eval c (node.Proc of) = made_procedure of
  eval c (node.Call f args line) = eval c f >>= λ procedure. eval_each c args (call_meant c line procedure)
  eval c (node.Scan text a f q s line) =
      begin_scan text q s (eval c a) (eval c f) (λ table procedure.
      scan_turns c.bound (record { line = line; strings = text; refs = q; nums = s; table = table; call = call_meant c line procedure }) None 0)

  -- a sequence has the value of its last clause
  pub eval_all : Context → Value → Nodes → Meaning
  eval_all c v none = give v
  eval_all c v (more t ts) = eval c t >>= λ w. eval_all c w ts

  -- clauses one after the other, and what goes on with their values
  pub eval_each : Context → Nodes → (List Value → Meaning) → Meaning
  eval_each c none next = next []
  eval_each c (more t ts) next = eval c t >>= λ v. eval_each c ts (λ vs. next (v ∷ vs))

  -- The labels of the arms, in their order until one is equal to the value, and then the clause of its arm; else the default.
  pub eval_arms : Context → TyView → Value → Arms → Meaning → Meaning
  eval_arms c ty v no_arms default = default
  eval_arms c ty v (more_arms (arm labels a) rest) default =
      eval_labels c ty v labels >>= λ found. choose (flag_of found) (eval c a) (eval_arms c ty v rest default)

  pub eval_labels : Context → TyView → Value → Nodes → Meaning
  eval_labels c ty v none = give (Flag false)
  eval_labels c ty v (more label rest) = eval c label >>= λ w. choose (is_equal ty v w) (give (Flag true)) (eval_labels c ty v rest)
