-- The typed tree of a program as contracts see it, without the places in memory of the code's tree. A name is a place; types
-- and class texts stand in full.
use Rattle.std.specs.Prelude.{ℕ, ℤ, List, Bool, Option}
use Rattle.ps_base.specs.TyView.{TyView}
use Rattle.ps_base.specs.declared.line.Line.{Line}
use Rattle.ps_base.specs.declared.operator.Operator.{Operator}
use Rattle.ps_base.specs.declared.operator.Relation.{Relation}
use Rattle.ps_program.specs.declared.place.Place.{Place}

-- a parameter of a body: its type, and where its value is kept
pub record Param : Type 0 where
  pub ty : TyView
  pub place : Place

mutual
  pub data Node : Type 0 where
    Int : (value : ℤ) → Node
    Flag : (value : Bool) → Node
    Text : (bytes : List ℕ) → Node
    Nil : Node
    Name : (place : Place) (ty : TyView) → Node
    SetName : (place : Place) (ty : TyView) (e : Node) → Node
    Let : (place : Place) (ty : TyView) (e : Node) → Node
    Class : Node
    Empty : Node
    Block : (scope : Option (List ℕ)) (items : Nodes) → Node
    IfDo : (c a : Node) → Node
    IfElse : (c a b : Node) → Node
    While : (c a : Node) → Node
    Repeat : (a c b : Node) → Node
    For : (slot : ℕ) (a b c : Node) (scope : Option (List ℕ)) (control : Place) (s : Node) (line : Line) → Node
    Case : (e : Node) (arms : Arms) (d : Node) (ty : TyView) → Node
    And : (a b : Node) → Node
    Or : (a b : Node) → Node
    Not : (e : Node) → Node
    Neg : (e : Node) (line : Line) → Node
    Plus : (e : Node) → Node
    Arith : (op : Operator) (a b : Node) (line : Line) → Node
    Compare : (op : Relation) (ty : TyView) (a b : Node) → Node
    Is : (e : Node) (class : List ℕ) → Node
    Join : (a b : Node) (line : Line) → Node
    Part : (a i n : Node) (line : Line) → Node
    Make : (class : List ℕ) (args : Nodes) → Node
    Field : (e : Node) (class : List ℕ) (index : ℕ) (ty : TyView) (line : Line) → Node
    SetField : (p : Node) (class : List ℕ) (index : ℕ) (ty : TyView) (e : Node) (line : Line) → Node
    Fill : (l u e : Node) (ty : TyView) (line : Line) → Node
    Elems : (l : Node) (items : Nodes) (ty : TyView) (line : Line) → Node
    Element : (v i : Node) (ty : TyView) (line : Line) → Node
    SetElement : (v i e : Node) (ty : TyView) (line : Line) → Node
    Bound : (v : Node) (upper : Bool) → Node
    Proc : (of : BodyNode) → Node
    Call : (f : Node) (args : Nodes) (line : Line) → Node
    Lib : (code : ℕ) (args : Nodes) (line : Line) → Node
    Scan : (text : Bool) (a f : Node) (q s : ℕ) (line : Line) → Node
    Write : (e w : Node) (wide : Bool) (ty : TyView) (line : Line) → Node
    Abort : (line : Line) → Node

  pub data Nodes : Type 0 where
    none : Nodes
    more : (first : Node) (rest : Nodes) → Nodes

  -- an arm of a `case`: its labels, and its clause
  pub data Arm : Type 0 where
    arm : (labels : Nodes) (a : Node) → Arm

  pub data Arms : Type 0 where
    no_arms : Arms
    more_arms : (first : Arm) (rest : Arms) → Arms

  -- the body of a program or of a procedure: what it is handed and gives, its clause, its scope's text, and its line
  pub data BodyNode : Type 0 where
    body : (params : List Param) (gives : TyView) (tree : Node) (scope : Option (List ℕ)) (line : Line) → BodyNode
