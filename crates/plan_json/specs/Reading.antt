use Rattle.std.specs.Prelude.{Option, Some, None, Result, Ok, Err, ok_or}
use Rattle.serde_json.specs.Data.{Data}
use Rattle.plan_json.specs.declared.reading.Flaw.{Flaw}
use Rattle.plan_json.specs.declared.reading.Flaw.TheVariants as flaw

-- What is read of a node or of a part of one is a value, or the first of its flaws. The order of flaws
-- is this project's own: forms, then names, then expressions.
abbrev pub Reading : Type 0 → Type 0
Reading A = Result A Flaw

-- the first of two flaws
abbrev pub first : Flaw → Flaw → Flaw
first flaw.Node d = flaw.Node
first flaw.Name flaw.Node = flaw.Node
first flaw.Name flaw.Name = flaw.Name
first flaw.Name flaw.Expr = flaw.Name
first flaw.Expr d = d

infixl 12 ◌<*>◌
-- a value made of one more that is read, or the first flaw of all
abbrev pub ◌<*>◌ : {A B : Type 0} → Reading (A → B) → Reading A → Reading B
◌<*>◌ (Ok f) (Ok x) = Ok (f x)
◌<*>◌ (Ok f) (Err d) = Err d
◌<*>◌ (Err c) (Ok x) = Err c
◌<*>◌ (Err c) (Err d) = Err (first c d)

infixl 12 ◌<$>◌
-- a value made of the first that is read
abbrev pub ◌<$>◌ : {A B : Type 0} → (A → B) → Reading A → Reading B
f <$> Ok x = Ok (f x)
f <$> Err d = Err d

-- A value made of parts, each of which is read: the value, or the first flaw of all.

abbrev pub from_one : {A R : Type 0} → (A → R) → Reading A → Reading R
from_one f a = f <$> a

abbrev pub from_two : {A B R : Type 0} → (A → B → R) → Reading A → Reading B → Reading R
from_two f a b = f <$> a <*> b

abbrev pub from_three : {A B C R : Type 0} → (A → B → C → R) → Reading A → Reading B → Reading C → Reading R
from_three f a b c = f <$> a <*> b <*> c

abbrev pub from_four : {A B C D R : Type 0} → (A → B → C → D → R) → Reading A → Reading B → Reading C → Reading D → Reading R
from_four f a b c d = f <$> a <*> b <*> c <*> d

abbrev pub from_five : {A B C D E R : Type 0} → (A → B → C → D → E → R) → Reading A → Reading B → Reading C → Reading D → Reading E → Reading R
from_five f a b c d e = f <$> a <*> b <*> c <*> d <*> e

abbrev pub from_six : {A B C D E F R : Type 0} → (A → B → C → D → E → F → R) → Reading A → Reading B → Reading C → Reading D → Reading E → Reading F → Reading R
from_six f a b c d e g = f <$> a <*> b <*> c <*> d <*> e <*> g

abbrev pub from_seven : {A B C D E F G R : Type 0} → (A → B → C → D → E → F → G → R) → Reading A → Reading B → Reading C → Reading D → Reading E → Reading F → Reading G → Reading R
from_seven f a b c d e g h = f <$> a <*> b <*> c <*> d <*> e <*> g <*> h

abbrev pub from_nine : {A B C D E F G H I R : Type 0} → (A → B → C → D → E → F → G → H → I → R) → Reading A → Reading B → Reading C → Reading D → Reading E → Reading F → Reading G → Reading H → Reading I → Reading R
from_nine f a b c d e g h i j = f <$> a <*> b <*> c <*> d <*> e <*> g <*> h <*> i <*> j

-- two values that are read, or the first flaw of both
abbrev pub both : {A B : Type 0} → Reading A → Reading B → Reading (A × B)
both (Ok x) (Ok y) = Ok (x, y)
both (Ok x) (Err d) = Err d
both (Err c) (Ok y) = Err c
both (Err c) (Err d) = Err (first c d)

-- a value that is there, or a flaw
abbrev pub or_flaw : {A : Type 0} → Flaw → Option A → Reading A
or_flaw c o = ok_or o c

-- what is read of a form that holds; the form is the first thing that is asked for
abbrev pub formed : {A B : Type 0} → Option A → (A → Reading B) → Reading B
formed None f = Err flaw.Node
formed (Some x) f = f x

-- a member that may be absent, and is then this
abbrev pub or_absent : {A : Type 0} → A → (Data → Reading A) → Option Data → Reading A
or_absent absent f None = Ok absent
or_absent absent f (Some d) = f d
