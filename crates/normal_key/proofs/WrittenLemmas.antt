-- Bytes written behind others, of which the first 16 are kept.
use Rattle.std.proofs.Common.{◌≡◌, ℕ, zero, suc, ◌+◌, ◌-◌, ◌<◌, ◌≤◌, false, List, [], ◌∷◌, ◌++◌, length, map, take, drop, slice_index, slice_set, slice_index_or, replicate, refl, sym, ◌∙◌, ap, subst, arith, append_assoc, length-append}
use Rattle.std.specs.List.{flat_map}
use Rattle.std.proofs.lemmas.List.{append-nil, take-append-le, take_more, length-take-le, map_more, take-replicate, drop-replicate, take_at, drop_at, drop-drop}
use Rattle.std.proofs.lemmas.List.Concat.{flat_map-append}
use Rattle.flow_types.specs.declared.order_item.OrderItem.{OrderItem}
use Rattle.flow_types.specs.Tuples.{Tuple, field}
use Rattle.normal_key.specs.Comparisons.{ascending}
use Rattle.normal_key.specs.NormalForms.{Adds, front, filled, directed_form, items_form}

pub take_of_take : (n : ℕ) (xs ys : List ℕ) → take n (take n xs ++ ys) ≡ take n (xs ++ ys)
take_of_take zero xs ys = refl
take_of_take (suc n) [] ys = refl
take_of_take (suc n) (x ∷ xs) ys = ap (λ (zs : List ℕ). x ∷ zs) (take_of_take n xs ys)

-- one after the other
pub adds_more : (old now new a b : List ℕ) → Adds old now a → Adds now new b → Adds old new (a ++ b)
adds_more old now new a b first second =
    second
    ∙ sym (take_of_take 16 now b)
    ∙ ap (λ (xs : List ℕ). front (xs ++ b)) first
    ∙ take_of_take 16 (old ++ a) b
    ∙ ap front (append_assoc old a b)

-- what is written behind 16 bytes isn't kept
pub adds_full : (old a : List ℕ) → 16 ≤ length old → Adds old old a
adds_full old a full = sym (take-append-le 16 old a full)

pub adds_filled : (new a : List ℕ) → Adds [] new a → filled new ≡ filled a
adds_filled new a added =
    sym (take_of_take 16 new (replicate 16 0))
    ∙ ap (λ (xs : List ℕ). front (xs ++ replicate 16 0)) added
    ∙ take_of_take 16 a (replicate 16 0)

-- ---- one byte

-- the byte behind others takes the place of a zero byte
set_behind : (n k x y : ℕ) (xs zs : List ℕ) → length xs ≡ k → k < n → slice_set (take n (xs ++ x ∷ zs)) k y ≡ take n (xs ++ y ∷ zs)
set_behind zero k x y xs zs long low = absurd (omega arith)
set_behind (suc n) zero x y [] zs long low = refl
set_behind (suc n) zero x y (z ∷ xs) zs long low = absurd (omega (arith, long))
set_behind (suc n) (suc k) x y [] zs long low = absurd (omega (arith, long))
set_behind (suc n) (suc k) x y (z ∷ xs) zs long low = ap (λ (bs : List ℕ). z ∷ bs) (set_behind n k x y xs zs (omega (arith, long)) (omega arith))

-- zero bytes that reach far enough
zeros_more : (n m : ℕ) (xs : List ℕ) → n ≤ length xs + m → take n (xs ++ replicate m 0) ≡ take n (xs ++ replicate (suc m) 0)
zeros_more zero m xs long = refl
zeros_more (suc n) m (x ∷ xs) long = ap (λ (bs : List ℕ). x ∷ bs) (zeros_more n m xs (omega arith))
zeros_more (suc n) zero [] long = absurd (omega arith)
zeros_more (suc n) (suc m) [] long = ap (λ (bs : List ℕ). 0 ∷ bs) (zeros_more n m [] (omega arith))

-- bytes that are filled, with one more written
pub filled_more : (bytes : List ℕ) (len y : ℕ) → length bytes ≡ 16 → len < 16 → bytes ≡ filled (take len bytes)
    → slice_set bytes len y ≡ filled (take len bytes ++ y ∷ [])
filled_more bytes len y long low is =
    let xs : List ℕ = take len bytes in
    let count : length xs ≡ len = length-take-le len bytes (omega (arith, long)) in
    ap (λ (bs : List ℕ). slice_set bs len y) is
    ∙ set_behind 16 len 0 y xs (replicate 15 0) count low
    ∙ ap front (sym (append_assoc xs (y ∷ []) (replicate 15 0)))
    ∙ zeros_more 16 15 (xs ++ y ∷ []) (omega (arith, length-append xs (y ∷ []), count))

-- what was set is the last of those up to it
take_set : (k y : ℕ) (xs : List ℕ) → k < length xs → take (k + 1) (slice_set xs k y) ≡ take k xs ++ y ∷ []
take_set k y [] low = absurd (omega arith)
take_set zero y (x ∷ xs) low = refl
take_set (suc k) y (x ∷ xs) low =
    let next : suc k + 1 ≡ suc (k + 1) = omega arith in
    ap (λ (n : ℕ). take n (x ∷ slice_set xs k y)) next ∙ ap (λ (bs : List ℕ). x ∷ bs) (take_set k y xs (omega arith))

pub pushed_is : (bytes : List ℕ) (len y : ℕ) → length bytes ≡ 16 → len < 16 → take (len + 1) (slice_set bytes len y) ≡ take len bytes ++ y ∷ []
pushed_is bytes len y long low = take_set len y bytes (omega (arith, long))

pub pushed_filled : (bytes : List ℕ) (len y : ℕ) → length bytes ≡ 16 → len < 16 → bytes ≡ filled (take len bytes)
    → slice_set bytes len y ≡ filled (take (len + 1) (slice_set bytes len y))
pushed_filled bytes len y long low is = filled_more bytes len y long low is ∙ ap filled (sym (pushed_is bytes len y long low))

-- ---- several bytes at once

-- bytes that are filled are they and zero bytes
zeros_behind : (n m : ℕ) (xs : List ℕ) → length xs ≤ n → n ≤ length xs + m → take n (xs ++ replicate m 0) ≡ xs ++ replicate (n - length xs) 0
zeros_behind n m [] long low =
    let all : n - 0 ≡ n = omega arith in
    take-replicate n m 0 (omega arith) ∙ ap (λ (k : ℕ). replicate k 0) (sym all)
zeros_behind zero m (x ∷ xs) long low = absurd (omega arith)
zeros_behind (suc n) m (x ∷ xs) long low =
    let rest : suc n - length (x ∷ xs) ≡ n - length xs = omega arith in
    ap (λ (bs : List ℕ). x ∷ bs) (zeros_behind n m xs (omega arith) (omega arith)) ∙ ap (λ (k : ℕ). (x ∷ xs) ++ replicate k 0) (sym rest)

pub extended_is : (bytes more new : List ℕ) (len : ℕ) → length bytes ≡ 16 → len + length more ≤ 16
    → new ≡ take len bytes ++ more ++ drop (len + length more) bytes → take (len + length more) new ≡ take len bytes ++ more
extended_is bytes more new len long fits is =
    let xs : List ℕ = take len bytes ++ more in
    let count : length xs ≡ len + length more = omega (arith, length-append (take len bytes) more, length-take-le len bytes (omega arith)) in
    ap (take (len + length more)) is ∙ take_at xs (drop (len + length more) bytes) (len + length more) count

pub extended_filled : (bytes more new : List ℕ) (len : ℕ) → length bytes ≡ 16 → len + length more ≤ 16 → bytes ≡ filled (take len bytes)
    → new ≡ take len bytes ++ more ++ drop (len + length more) bytes → new ≡ filled (take (len + length more) new)
extended_filled bytes more new len long fits was is =
    let front_is : List ℕ = take len bytes in
    let xs : List ℕ = front_is ++ more in
    let n : ℕ = length more in
    let few : length front_is ≡ len = length-take-le len bytes (omega arith) in
    let count : length xs ≡ len + n = omega (arith, length-append front_is more) in
    let zeros : bytes ≡ front_is ++ replicate (16 - length front_is) 0 = was ∙ zeros_behind 16 16 front_is (omega arith) (omega arith) in
    let left : 16 - length front_is - n ≡ 16 - length xs = omega arith in
    let behind : drop (len + n) bytes ≡ replicate (16 - length xs) 0 =
    sym (drop-drop n len bytes)
    ∙ ap (drop n) (ap (drop len) zeros ∙ drop_at front_is (replicate (16 - length front_is) 0) len few)
    ∙ drop-replicate n (16 - length front_is) 0
    ∙ ap (λ (k : ℕ). replicate k 0) left in
    is
    ∙ ap (λ (bs : List ℕ). xs ++ bs) behind
    ∙ sym (zeros_behind 16 16 xs (omega arith) (omega arith))
    ∙ ap filled (sym (extended_is bytes more new len long fits is))

-- ---- lists

pub map_append : (f : ℕ → ℕ) (xs ys : List ℕ) → map f (xs ++ ys) ≡ map f xs ++ map f ys
map_append f [] ys = refl
map_append f (x ∷ xs) ys = ap (λ (zs : List ℕ). f x ∷ zs) (map_append f xs ys)

-- one element more of a list whose elements' forms are written
pub forms_more : {X : Type 0} (f : X → List ℕ) (xs : List X) (i : ℕ) (d : X) → i < length xs
    → flat_map f (take (i + 1) xs) ≡ flat_map f (take i xs) ++ f (slice_index_or xs i d)
forms_more f xs i d low =
    ap (flat_map f) (take_more xs i d low)
    ∙ flat_map-append f (take i xs) (slice_index_or xs i d ∷ [])
    ∙ ap (λ (bs : List ℕ). flat_map f (take i xs) ++ bs) (append-nil (f (slice_index_or xs i d)))

-- the fields of a key up to a place and one more
pub key_more : (key : List ℕ) (i : ℕ) (t : Tuple) → i < length key
    → items_form (map ascending (take (i + 1) key)) t ≡ items_form (map ascending (take i key)) t ++ directed_form false (field (slice_index key i) t)
key_more key i t low =
    let k : ℕ = slice_index key i in
    ap (λ (items : List OrderItem). items_form items t) (map_more ascending key i 0 low)
    ∙ flat_map-append (λ (x : OrderItem). directed_form x.down (field x.field t)) (map ascending (take i key)) (ascending k ∷ [])
    ∙ ap (λ (bs : List ℕ). items_form (map ascending (take i key)) t ++ bs) (append-nil (directed_form false (field k t)))

-- the items up to a place and one more
pub items_more : (items : List OrderItem) (i : ℕ) (d : OrderItem) (t : Tuple) → i < length items
    → items_form (take (i + 1) items) t
    ≡ items_form (take i items) t ++ directed_form (slice_index_or items i d).down (field (slice_index_or items i d).field t)
items_more items i d t low = forms_more (λ (x : OrderItem). directed_form x.down (field x.field t)) items i d low

-- ---- one after the other

pub adds_same : (old new a b : List ℕ) → Adds old new a → a ≡ b → Adds old new b
adds_same old new a b added same = added ∙ ap (λ (bs : List ℕ). front (old ++ bs)) same

pub adds_next : (old now new a b c : List ℕ) → Adds old now a → Adds now new b → a ++ b ≡ c → Adds old new c
adds_next old now new a b c first second same = adds_same old new (a ++ b) c (adds_more old now new a b first second) same

pub all_written : (none one two three a b c out : List ℕ) → none ≡ [] → Adds none one a → Adds one two b → Adds two three c
    → out ≡ filled three → out ≡ filled ((a ++ b) ++ c)
all_written none one two three a b c out empty first second third is =
    let from : Adds [] three ((a ++ b) ++ c) =
    subst (λ (bs : List ℕ). Adds bs three ((a ++ b) ++ c)) empty
    (adds_more none two three (a ++ b) c (adds_more none one two a b first second) third) in
    is ∙ adds_filled three ((a ++ b) ++ c) from
