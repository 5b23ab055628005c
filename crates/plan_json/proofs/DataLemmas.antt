-- A `Value`'s items, as the lists that the definitions read.
use Rattle.std.proofs.Common.{◌≡◌, ℕ, List, [], ◌∷◌, map, refl, sym, ap, ◌∙◌, ◌++◌, Option, Some, None, option_map, Bool, String, string_bytes}
use Rattle.std.specs.declared.alloc.Global.{Global}
use Rattle.std.specs.List.{list_all}
use Rattle.std.specs.Map.{keys_of}
use Rattle.std.proofs.lemmas.List.Folds.{list_all-map}
use Rattle.serde_json.specs.Data.{Data}
use Rattle.serde_json.specs.Find.{as_array, as_object}
use Rattle.serde_json.specs.View.{view, items_of, items_view, members_view}
use Rattle.serde_json.specs.declared.value.Value.{Value}
use Rattle.plan_json.specs.Json.{listed, items_in, member_names, all_names, ◌>>=◌}

pub listed-items_of : (ds : List Data) → listed (items_of ds) ≡ ds
listed-items_of [] = refl
listed-items_of (d ∷ ds) = ap (λ rest. d ∷ rest) (listed-items_of ds)

-- what was collected so far, before what is still to come
abbrev pub onto : {A : Type 0} → List A → Option (List A) → Option (List A)
onto done None = None
onto done (Some rest) = Some (done ++ rest)

-- the items of a `Value` that is an array
pub items_in-view : (d : Data) (vs : List Value) → Some (items_view vs) ≡ as_array d → Some (map view vs) ≡ items_in d
items_in-view d vs e =
    ap Some (sym (listed-items_of (map view vs))) ∙ ap (λ o. o >>= λ items. Some (listed items)) e

pub items_in-seen : {X : Type 0} (f : X → List Value) (d : Data) (o : Option X) → option_map (λ x. items_view (f x)) o ≡ as_array d → option_map (λ x. map view (f x)) o ≡ items_in d
items_in-seen f d None e = ap (λ items. items >>= λ items. Some (listed items)) e
items_in-seen f d (Some x) e = items_in-view d (f x) e

member_names-view : (ms : List (String Global × Value)) → member_names (members_view ms) ≡ map string_bytes (keys_of ms)
member_names-view [] = refl
member_names-view (m ∷ ms) = ap (λ rest. string_bytes m.0 ∷ rest) (member_names-view ms)

-- the names of a `Value` that is an object
pub all_names-view : (p : List ℕ → Bool) (d : Data) (ms : List (String Global × Value)) → Some (members_view ms) ≡ as_object d → list_all (λ name. p (string_bytes name)) (keys_of ms) ≡ all_names p (as_object d)
all_names-view p d ms e =
    sym (list_all-map p string_bytes (keys_of ms)) ∙ ap (list_all p) (sym (member_names-view ms)) ∙ ap (all_names p) e
