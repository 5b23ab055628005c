-- Steps of encoding.
use Rattle.std.proofs.Common.{◌≡◌, ℕ, ◌+◌, ◌<◌, ◌≤◌, true, nat_le, List, [], ◌∷◌, ◌++◌, length, take, drop, slice_index_or, sym, ◌∙◌, ap, subst, arith, append_assoc, length-append, IsTrue, IsUtf8}
use Rattle.std.specs.Str.{is_utf8}
use Rattle.std.specs.Int.{to_be_bytes, w16}
use Rattle.std.specs.List.{list_all}
use Rattle.std.proofs.lemmas.List.Concat.{flat_map-append}
use Rattle.std.proofs.lemmas.List.Folds.{list_all_more}
use Rattle.std.proofs.lemmas.Bool.{and_from, le-leb}
use Rattle.std.proofs.lemmas.List.{take_at, drop_at, drop-drop, length-take-le, take_more, take-append-drop, append-nil}
use Rattle.std.proofs.lemmas.Str.{is_utf8-from_IsUtf8}
use Rattle.flow_types.specs.Limits.{text_limit}
use Rattle.flow_types.specs.declared.value.Value.{Value}
use Rattle.flow_types.specs.declared.value.Value.TheVariants as value
use Rattle.flow_types.specs.Values.{is_value, is_text}
use Rattle.flow_types.specs.Tuples.{Tuple}
use Rattle.flow_types.specs.Records.{form, size, value_form}

-- bytes written behind others that were written
pub write_twice : (out once twice a b : List ℕ) (start middle end : ℕ) → start ≤ length out
    → middle ≡ start + length a → end ≡ middle + length b
    → once ≡ take start out ++ a ++ drop middle out → twice ≡ take middle once ++ b ++ drop end once
    → twice ≡ take start out ++ (a ++ b) ++ drop end out
write_twice out once twice a b start middle end inside after behind first second =
    let front : List ℕ = take start out ++ a in
    let long : length front ≡ middle = omega (arith, length-append (take start out) a, length-take-le start out inside) in
    let kept : take middle once ≡ front = ap (take middle) first ∙ take_at front (drop middle out) middle long in
    let left : drop middle once ≡ drop middle out = ap (drop middle) first ∙ drop_at front (drop middle out) middle long in
    let rest : drop end once ≡ drop end out =
    ap (λ (n : ℕ). drop n once) behind
    ∙ sym (drop-drop (length b) middle once)
    ∙ ap (drop (length b)) left
    ∙ drop-drop (length b) middle out
    ∙ ap (λ (n : ℕ). drop n out) (sym behind) in
    second
    ∙ ap (λ (xs : List ℕ). xs ++ b ++ drop end once) kept
    ∙ ap (λ (xs : List ℕ). xs ++ drop end once) (append_assoc (take start out) a b)
    ∙ ap (λ (xs : List ℕ). take start out ++ (a ++ b) ++ xs) rest

-- a text is a value that a field can hold
pub text_is_value : (v : Value) (s text : List ℕ) → v ≡ value.Str s → text ≡ s → length text ≤ text_limit → IsUtf8 text → IsTrue (is_value v)
text_is_value v s text is same short valid =
    let held : is_text text ≡ true =
    and_from (nat_le (length text) text_limit) (is_utf8 text) (le-leb (length text) text_limit short) (is_utf8-from_IsUtf8 text valid) in
    subst (λ (x : Value). IsTrue (is_value x)) (sym is) (subst (λ (t : List ℕ). IsTrue (is_text t)) same held)

-- a text's length and its bytes were written
pub text_written : (out once twice len text s : List ℕ) (v : Value) (start middle end : ℕ) → start ≤ length out
    → v ≡ value.Str s → text ≡ s → len ≡ to_be_bytes w16 (length text)
    → middle ≡ start + length len → end ≡ middle + length text
    → once ≡ take start out ++ len ++ drop middle out → twice ≡ take middle once ++ text ++ drop end once
    → twice ≡ take start out ++ value_form v ++ drop end out
text_written out once twice len text s v start middle end inside is same long after behind first second =
    let formed : len ++ text ≡ value_form v =
    ap (λ (xs : List ℕ). xs ++ text) long
    ∙ ap (λ (xs : List ℕ). to_be_bytes w16 (length xs) ++ xs) same
    ∙ ap value_form (sym is) in
    write_twice out once twice len text start middle end inside after behind first second
    ∙ ap (λ (xs : List ℕ). take start out ++ xs ++ drop end out) formed

-- the record of one value more
pub form_more : (values : Tuple) (i : ℕ) (v : Value) → i < length values → v ≡ slice_index_or values i v
    → form (take (i + 1) values) ≡ form (take i values) ++ value_form v
form_more values i v inside read =
    ap form (take_more values i v inside ∙ ap (λ (x : Value). take i values ++ x ∷ []) (sym read))
    ∙ flat_map-append value_form (take i values) (v ∷ [])
    ∙ ap (λ (xs : List ℕ). form (take i values) ++ xs) (append-nil (value_form v))

-- the bytes of one value more
pub size_more : (values : Tuple) (i : ℕ) (v : Value) → i < length values → v ≡ slice_index_or values i v
    → size (take (i + 1) values) ≡ size (take i values) + length (value_form v)
size_more values i v inside read = ap length (form_more values i v inside read) ∙ length-append (form (take i values)) (value_form v)

-- the first values take no more bytes than all
pub size_front : (values : Tuple) (n : ℕ) → size (take n values) ≤ size values
size_front values n =
    let split : form values ≡ form (take n values) ++ form (drop n values) =
    ap form (sym (take-append-drop n values)) ∙ flat_map-append value_form (take n values) (drop n values) in
    omega (arith, ap length split, length-append (form (take n values)) (form (drop n values)))

-- one value more was written
pub value_written : (values : Tuple) (old now new : List ℕ) (i start end : ℕ) (v : Value) → i < length values
    → v ≡ slice_index_or values i v → start ≡ size (take i values) → end ≡ start + length (value_form v)
    → now ≡ form (take i values) ++ drop start old → new ≡ take start now ++ value_form v ++ drop end now
    → new ≡ form (take (i + 1) values) ++ drop end old
value_written values old now new i start end v inside read place behind before written =
    let front : List ℕ = form (take i values) in
    let kept : take start now ≡ front = ap (take start) before ∙ take_at front (drop start old) start (sym place) in
    let left : drop start now ≡ drop start old = ap (drop start) before ∙ drop_at front (drop start old) start (sym place) in
    let rest : drop end now ≡ drop end old =
    ap (λ (n : ℕ). drop n now) behind
    ∙ sym (drop-drop (length (value_form v)) start now)
    ∙ ap (drop (length (value_form v))) left
    ∙ drop-drop (length (value_form v)) start old
    ∙ ap (λ (n : ℕ). drop n old) (sym behind) in
    written
    ∙ ap (λ (xs : List ℕ). xs ++ value_form v ++ drop end now) kept
    ∙ ap (λ (xs : List ℕ). front ++ value_form v ++ xs) rest
    ∙ ap (λ (xs : List ℕ). xs ++ drop end old) (sym (form_more values i v inside read))

-- one value more is one that a field can hold
pub held_more : (values : Tuple) (i : ℕ) (v : Value) → i < length values → v ≡ slice_index_or values i v
    → IsTrue (list_all is_value (take i values)) → IsTrue (is_value v) → IsTrue (list_all is_value (take (i + 1) values))
held_more values i v inside read before is =
    list_all_more is_value values i v inside
    ∙ and_from (list_all is_value (take i values)) (is_value (slice_index_or values i v)) before (ap is_value (sym read) ∙ is)
