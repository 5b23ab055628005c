-- Readings of pairs, and what is made of them.
use Rattle.std.proofs.Common.{◌≡◌, ◌∙◌, ap, Ok, Err, refl}
use Rattle.plan_json.specs.Reading.{Reading, ◌<*>◌, ◌<$>◌, both, from_two, from_three, from_four, from_five, from_six, from_seven, from_nine}

-- of a pair what is made of its parts
abbrev pub of_pair : {A B R : Type 0} → (A → B → R) → A × B → R
of_pair f p = f p.0 p.1

pub from_two_both : {A B R : Type 0} (f : A → B → R) (a : Reading A) (b : Reading B) → from_two f a b ≡ (of_pair f <$> both a b)
from_two_both f (Ok x) (Ok y) = refl
from_two_both f (Ok x) (Err d) = refl
from_two_both f (Err c) (Ok y) = refl
from_two_both f (Err c) (Err d) = refl

pub from_three_both : {A B C R : Type 0} (f : A → B → C → R) (a : Reading A) (b : Reading B) (c : Reading C) → from_three f a b c ≡ (of_pair (of_pair f) <$> both (both a b) c)
from_three_both f a b c =
    ap (λ r. r <*> c) (from_two_both f a b) ∙ from_two_both (of_pair f) (both a b) c

pub from_four_both : {A B C D R : Type 0} (f : A → B → C → D → R) (a : Reading A) (b : Reading B) (c : Reading C) (d : Reading D) → from_four f a b c d ≡ (of_pair (of_pair (of_pair f)) <$> both (both (both a b) c) d)
from_four_both f a b c d =
    ap (λ r. r <*> d) (from_three_both f a b c) ∙ from_two_both (of_pair (of_pair f)) (both (both a b) c) d

pub from_five_both : {A B C D E R : Type 0} (f : A → B → C → D → E → R) (a : Reading A) (b : Reading B) (c : Reading C) (d : Reading D) (e : Reading E) → from_five f a b c d e ≡ (of_pair (of_pair (of_pair (of_pair f))) <$> both (both (both (both a b) c) d) e)
from_five_both f a b c d e =
    ap (λ r. r <*> e) (from_four_both f a b c d) ∙ from_two_both (of_pair (of_pair (of_pair f))) (both (both (both a b) c) d) e

pub from_six_both : {A B C D E F R : Type 0} (f : A → B → C → D → E → F → R) (a : Reading A) (b : Reading B) (c : Reading C) (d : Reading D) (e : Reading E) (g : Reading F) → from_six f a b c d e g ≡ (of_pair (of_pair (of_pair (of_pair (of_pair f)))) <$> both (both (both (both (both a b) c) d) e) g)
from_six_both f a b c d e g =
    ap (λ r. r <*> g) (from_five_both f a b c d e) ∙ from_two_both (of_pair (of_pair (of_pair (of_pair f)))) (both (both (both (both a b) c) d) e) g

pub from_seven_both : {A B C D E F G R : Type 0} (f : A → B → C → D → E → F → G → R) (a : Reading A) (b : Reading B) (c : Reading C) (d : Reading D) (e : Reading E) (g : Reading F) (h : Reading G) → from_seven f a b c d e g h ≡ (of_pair (of_pair (of_pair (of_pair (of_pair (of_pair f))))) <$> both (both (both (both (both (both a b) c) d) e) g) h)
from_seven_both f a b c d e g h =
    ap (λ r. r <*> h) (from_six_both f a b c d e g) ∙ from_two_both (of_pair (of_pair (of_pair (of_pair (of_pair f))))) (both (both (both (both (both a b) c) d) e) g) h

from_eight_both : {A B C D E F G H R : Type 0} (f : A → B → C → D → E → F → G → H → R) (a : Reading A) (b : Reading B) (c : Reading C) (d : Reading D) (e : Reading E) (g : Reading F) (h : Reading G) (i : Reading H) → (f <$> a <*> b <*> c <*> d <*> e <*> g <*> h <*> i) ≡ (of_pair (of_pair (of_pair (of_pair (of_pair (of_pair (of_pair f)))))) <$> both (both (both (both (both (both (both a b) c) d) e) g) h) i)
from_eight_both f a b c d e g h i =
    ap (λ r. r <*> i) (from_seven_both f a b c d e g h) ∙ from_two_both (of_pair (of_pair (of_pair (of_pair (of_pair (of_pair f)))))) (both (both (both (both (both (both a b) c) d) e) g) h) i

pub from_nine_both : {A B C D E F G H I R : Type 0} (f : A → B → C → D → E → F → G → H → I → R) (a : Reading A) (b : Reading B) (c : Reading C) (d : Reading D) (e : Reading E) (g : Reading F) (h : Reading G) (i : Reading H) (j : Reading I) → from_nine f a b c d e g h i j ≡ (of_pair (of_pair (of_pair (of_pair (of_pair (of_pair (of_pair (of_pair f))))))) <$> both (both (both (both (both (both (both (both a b) c) d) e) g) h) i) j)
from_nine_both f a b c d e g h i j =
    ap (λ r. r <*> j) (from_eight_both f a b c d e g h i) ∙ from_two_both (of_pair (of_pair (of_pair (of_pair (of_pair (of_pair (of_pair f))))))) (both (both (both (both (both (both (both a b) c) d) e) g) h) i) j
