-- What the parts are of a value that was read whole.
use Rattle.std.proofs.Common.{◌≡◌, ℕ, Bool, true, false, ◌&&◌, List, [], ◌∷◌, length, refl, sym, ap, ◌∙◌, subst, suc, Option, Some, None, Ok, Err}
use Rattle.std.specs.List.{list_all}
use Rattle.std.specs.Prelude.{nat_le}
use Rattle.flow_types.proofs.ValueLemmas.{both_pass}
use Rattle.flow_model.specs.Rules.{is_from}
use Rattle.serde_json.specs.Data.{Data}
use Rattle.plan_json.specs.declared.reading.Flaw.{Flaw}
use Rattle.plan_json.specs.Json.{◌>>=◌, only_if, collected, items_in, list_in}
use Rattle.plan_json.specs.Reading.{Reading, ◌<$>◌, ◌<*>◌, or_flaw, formed, from_one}

-- ---- a value made of parts: what holds of all that are made of parts that were read, holds of it

pub one_by : {A R : Type 0} (P : R → Type 0) (f : A → R) (a : Reading A) (r : R) → from_one f a ≡ Ok r → ((x : A) → a ≡ Ok x → P (f x)) → P r
one_by P f (Ok x) r e k = let same : f x ≡ r = cc in subst P same (k x refl)
one_by P f (Err c) r e k = cc

ap_by : {A R : Type 0} (P : R → Type 0) (g : Reading (A → R)) (b : Reading A) (r : R) → (g <*> b) ≡ Ok r → ((h : A → R) (x : A) → g ≡ Ok h → b ≡ Ok x → P (h x)) → P r
ap_by P (Ok h) (Ok x) r e k = let same : h x ≡ r = cc in subst P same (k h x refl refl)
ap_by P (Ok h) (Err d) r e k = cc
ap_by P (Err c) (Ok x) r e k = cc
ap_by P (Err c) (Err d) r e k = cc

pub two_by : {A B R : Type 0} (P : R → Type 0) (f : A → B → R) (r0 : Reading A) (r1 : Reading B) (r : R) → (f <$> r0 <*> r1) ≡ Ok r
    → ((x0 : A) (x1 : B) → r0 ≡ Ok x0 → r1 ≡ Ok x1 → P (f x0 x1)) → P r
two_by P f r0 r1 r e k = ap_by P (f <$> r0) r1 r e (λ g x1 eg e1. one_by (λ g. P (g x1)) f r0 g eg (λ x0 e0. k x0 x1 e0 e1))

pub three_by : {A B C R : Type 0} (P : R → Type 0) (f : A → B → C → R) (r0 : Reading A) (r1 : Reading B) (r2 : Reading C) (r : R) → (f <$> r0 <*> r1 <*> r2) ≡ Ok r
    → ((x0 : A) (x1 : B) (x2 : C) → r0 ≡ Ok x0 → r1 ≡ Ok x1 → r2 ≡ Ok x2 → P (f x0 x1 x2)) → P r
three_by P f r0 r1 r2 r e k = ap_by P (f <$> r0 <*> r1) r2 r e (λ g x2 eg e2. two_by (λ g. P (g x2)) f r0 r1 g eg (λ x0 x1 e0 e1. k x0 x1 x2 e0 e1 e2))

pub four_by : {A B C D R : Type 0} (P : R → Type 0) (f : A → B → C → D → R) (r0 : Reading A) (r1 : Reading B) (r2 : Reading C) (r3 : Reading D) (r : R) → (f <$> r0 <*> r1 <*> r2 <*> r3) ≡ Ok r
    → ((x0 : A) (x1 : B) (x2 : C) (x3 : D) → r0 ≡ Ok x0 → r1 ≡ Ok x1 → r2 ≡ Ok x2 → r3 ≡ Ok x3 → P (f x0 x1 x2 x3)) → P r
four_by P f r0 r1 r2 r3 r e k = ap_by P (f <$> r0 <*> r1 <*> r2) r3 r e (λ g x3 eg e3. three_by (λ g. P (g x3)) f r0 r1 r2 g eg (λ x0 x1 x2 e0 e1 e2. k x0 x1 x2 x3 e0 e1 e2 e3))

pub five_by : {A B C D E R : Type 0} (P : R → Type 0) (f : A → B → C → D → E → R) (r0 : Reading A) (r1 : Reading B) (r2 : Reading C) (r3 : Reading D) (r4 : Reading E) (r : R) → (f <$> r0 <*> r1 <*> r2 <*> r3 <*> r4) ≡ Ok r
    → ((x0 : A) (x1 : B) (x2 : C) (x3 : D) (x4 : E) → r0 ≡ Ok x0 → r1 ≡ Ok x1 → r2 ≡ Ok x2 → r3 ≡ Ok x3 → r4 ≡ Ok x4 → P (f x0 x1 x2 x3 x4)) → P r
five_by P f r0 r1 r2 r3 r4 r e k = ap_by P (f <$> r0 <*> r1 <*> r2 <*> r3) r4 r e (λ g x4 eg e4. four_by (λ g. P (g x4)) f r0 r1 r2 r3 g eg (λ x0 x1 x2 x3 e0 e1 e2 e3. k x0 x1 x2 x3 x4 e0 e1 e2 e3 e4))

pub six_by : {A B C D E F R : Type 0} (P : R → Type 0) (f : A → B → C → D → E → F → R) (r0 : Reading A) (r1 : Reading B) (r2 : Reading C) (r3 : Reading D) (r4 : Reading E) (r5 : Reading F) (r : R) → (f <$> r0 <*> r1 <*> r2 <*> r3 <*> r4 <*> r5) ≡ Ok r
    → ((x0 : A) (x1 : B) (x2 : C) (x3 : D) (x4 : E) (x5 : F) → r0 ≡ Ok x0 → r1 ≡ Ok x1 → r2 ≡ Ok x2 → r3 ≡ Ok x3 → r4 ≡ Ok x4 → r5 ≡ Ok x5 → P (f x0 x1 x2 x3 x4 x5)) → P r
six_by P f r0 r1 r2 r3 r4 r5 r e k = ap_by P (f <$> r0 <*> r1 <*> r2 <*> r3 <*> r4) r5 r e (λ g x5 eg e5. five_by (λ g. P (g x5)) f r0 r1 r2 r3 r4 g eg (λ x0 x1 x2 x3 x4 e0 e1 e2 e3 e4. k x0 x1 x2 x3 x4 x5 e0 e1 e2 e3 e4 e5))

pub seven_by : {A B C D E F G R : Type 0} (P : R → Type 0) (f : A → B → C → D → E → F → G → R) (r0 : Reading A) (r1 : Reading B) (r2 : Reading C) (r3 : Reading D) (r4 : Reading E) (r5 : Reading F) (r6 : Reading G) (r : R) → (f <$> r0 <*> r1 <*> r2 <*> r3 <*> r4 <*> r5 <*> r6) ≡ Ok r
    → ((x0 : A) (x1 : B) (x2 : C) (x3 : D) (x4 : E) (x5 : F) (x6 : G) → r0 ≡ Ok x0 → r1 ≡ Ok x1 → r2 ≡ Ok x2 → r3 ≡ Ok x3 → r4 ≡ Ok x4 → r5 ≡ Ok x5 → r6 ≡ Ok x6 → P (f x0 x1 x2 x3 x4 x5 x6)) → P r
seven_by P f r0 r1 r2 r3 r4 r5 r6 r e k = ap_by P (f <$> r0 <*> r1 <*> r2 <*> r3 <*> r4 <*> r5) r6 r e (λ g x6 eg e6. six_by (λ g. P (g x6)) f r0 r1 r2 r3 r4 r5 g eg (λ x0 x1 x2 x3 x4 x5 e0 e1 e2 e3 e4 e5. k x0 x1 x2 x3 x4 x5 x6 e0 e1 e2 e3 e4 e5 e6))

pub eight_by : {A B C D E F G H R : Type 0} (P : R → Type 0) (f : A → B → C → D → E → F → G → H → R) (r0 : Reading A) (r1 : Reading B) (r2 : Reading C) (r3 : Reading D) (r4 : Reading E) (r5 : Reading F) (r6 : Reading G) (r7 : Reading H) (r : R) → (f <$> r0 <*> r1 <*> r2 <*> r3 <*> r4 <*> r5 <*> r6 <*> r7) ≡ Ok r
    → ((x0 : A) (x1 : B) (x2 : C) (x3 : D) (x4 : E) (x5 : F) (x6 : G) (x7 : H) → r0 ≡ Ok x0 → r1 ≡ Ok x1 → r2 ≡ Ok x2 → r3 ≡ Ok x3 → r4 ≡ Ok x4 → r5 ≡ Ok x5 → r6 ≡ Ok x6 → r7 ≡ Ok x7 → P (f x0 x1 x2 x3 x4 x5 x6 x7)) → P r
eight_by P f r0 r1 r2 r3 r4 r5 r6 r7 r e k = ap_by P (f <$> r0 <*> r1 <*> r2 <*> r3 <*> r4 <*> r5 <*> r6) r7 r e (λ g x7 eg e7. seven_by (λ g. P (g x7)) f r0 r1 r2 r3 r4 r5 r6 g eg (λ x0 x1 x2 x3 x4 x5 x6 e0 e1 e2 e3 e4 e5 e6. k x0 x1 x2 x3 x4 x5 x6 x7 e0 e1 e2 e3 e4 e5 e6 e7))

pub nine_by : {A B C D E F G H I R : Type 0} (P : R → Type 0) (f : A → B → C → D → E → F → G → H → I → R) (r0 : Reading A) (r1 : Reading B) (r2 : Reading C) (r3 : Reading D) (r4 : Reading E) (r5 : Reading F) (r6 : Reading G) (r7 : Reading H) (r8 : Reading I) (r : R) → (f <$> r0 <*> r1 <*> r2 <*> r3 <*> r4 <*> r5 <*> r6 <*> r7 <*> r8) ≡ Ok r
    → ((x0 : A) (x1 : B) (x2 : C) (x3 : D) (x4 : E) (x5 : F) (x6 : G) (x7 : H) (x8 : I) → r0 ≡ Ok x0 → r1 ≡ Ok x1 → r2 ≡ Ok x2 → r3 ≡ Ok x3 → r4 ≡ Ok x4 → r5 ≡ Ok x5 → r6 ≡ Ok x6 → r7 ≡ Ok x7 → r8 ≡ Ok x8 → P (f x0 x1 x2 x3 x4 x5 x6 x7 x8)) → P r
nine_by P f r0 r1 r2 r3 r4 r5 r6 r7 r8 r e k = ap_by P (f <$> r0 <*> r1 <*> r2 <*> r3 <*> r4 <*> r5 <*> r6 <*> r7) r8 r e (λ g x8 eg e8. eight_by (λ g. P (g x8)) f r0 r1 r2 r3 r4 r5 r6 r7 g eg (λ x0 x1 x2 x3 x4 x5 x6 x7 e0 e1 e2 e3 e4 e5 e6 e7. k x0 x1 x2 x3 x4 x5 x6 x7 x8 e0 e1 e2 e3 e4 e5 e6 e7 e8))

-- ---- options and lists

pub only_if_some : {A : Type 0} (b : Bool) (x y : A) → only_if b x ≡ Some y → (b ≡ true) × (x ≡ y)
only_if_some true x y e = (refl, cc)
only_if_some false x y e = cc

pub or_flaw_ok : {A : Type 0} (c : Flaw) (o : Option A) (x : A) → or_flaw c o ≡ Ok x → o ≡ Some x
or_flaw_ok c None x e = cc
or_flaw_ok c (Some y) x e = let same : y ≡ x = cc in ap Some same

pub formed_ok : {A B : Type 0} (o : Option A) (f : A → Reading B) (y : B) → formed o f ≡ Ok y → (x : A) × ((o ≡ Some x) × (f x ≡ Ok y))
formed_ok None f y e = cc
formed_ok (Some x) f y e = (x, (refl, e))

pub then_some : {A B : Type 0} (o : Option A) (f : A → Option B) (y : B) → (o >>= f) ≡ Some y → (x : A) × ((o ≡ Some x) × (f x ≡ Some y))
then_some None f y e = cc
then_some (Some x) f y e = (x, (refl, e))

pub length-collected : {A B : Type 0} (f : A → Option B) (xs : List A) (ys : List B) → collected f xs ≡ Some ys → length ys ≡ length xs
length-collected f [] ys e = let same : [] ≡ ys = cc in ap length (sym same)
length-collected f (x ∷ xs) ys e =
    let first = then_some (f x) (λ y. collected f xs >>= λ zs. Some (y ∷ zs)) ys e in
    let others = then_some (collected f xs) (λ zs. Some (first.0 ∷ zs)) ys first.1.1 in
    let same : first.0 ∷ others.0 ≡ ys = cc in
    ap length (sym same) ∙ ap suc (length-collected f xs others.0 others.1.0)

pub all-collected : {A B : Type 0} (p : B → Bool) (f : A → Option B) → ((x : A) (y : B) → f x ≡ Some y → p y ≡ true) → (xs : List A) (ys : List B) → collected f xs ≡ Some ys → list_all p ys ≡ true
all-collected p f each [] ys e = let same : [] ≡ ys = cc in ap (list_all p) (sym same)
all-collected p f each (x ∷ xs) ys e =
    let first = then_some (f x) (λ y. collected f xs >>= λ zs. Some (y ∷ zs)) ys e in
    let others = then_some (collected f xs) (λ zs. Some (first.0 ∷ zs)) ys first.1.1 in
    let same : first.0 ∷ others.0 ≡ ys = cc in
    ap (list_all p) (sym same) ∙ both_pass (p first.0) (list_all p others.0) (each x first.0 first.1.0) (all-collected p f each xs others.0 others.1.0)

pub list_in_length : (least most : ℕ) (d : Data) (items : List Data) → list_in least most d ≡ Some items → is_from least most (length items) ≡ true
list_in_length least most d items e =
    let all = then_some (items_in d) (λ items. only_if (nat_le least (length items) && nat_le (length items) most) items) items e in
    let one = only_if_some (nat_le least (length all.0) && nat_le (length all.0) most) all.0 items all.1.1 in
    ap (λ ds. is_from least most (length ds)) (sym one.1) ∙ one.0

-- a list that was read of each item of a member has so many
pub collected_length : {B : Type 0} (least most : ℕ) (f : Data → Option B) (member : Option Data) (ys : List B) → (member >>= list_in least most >>= collected f) ≡ Some ys → is_from least most (length ys) ≡ true
collected_length least most f member ys e =
    let items = then_some (member >>= list_in least most) (collected f) ys e in
    let all = then_some member (list_in least most) items.0 items.1.0 in
    ap (is_from least most) (length-collected f items.0 ys items.1.1) ∙ list_in_length least most all.0 items.0 all.1.1
