use Rattle.std.specs.Prelude.{ℕ, Bool, true, false, ◌&&◌, nat_le, if◌then◌else◌, ℤ, List, [], ◌∷◌, Option, Some, None, option_map, option_and_then, length}
use Rattle.std.specs.Str.{bytes_eq}
use Rattle.std.specs.List.{list_all}
use Rattle.std.specs.Borrow.{Bor}
use Rattle.serde_json.specs.declared.value.Value.{Value}
use Rattle.serde_json.specs.View.{view}
use Rattle.serde_json.specs.Data.{Data, Items, no_items, item, Members, no_members, member}
use Rattle.serde_json.specs.Find.{as_str, as_number, as_i64, as_array}

-- Words on JSON as `serde_json` reads it.

-- the data behind a reference that may be there
abbrev pub seen : Option (Bor Value) → Option Data
seen value = option_map (λ (v : Bor Value). view v.now) value

infixl 10 ◌>>=◌
-- what follows a value that is there
abbrev pub ◌>>=◌ : {A B : Type 0} → Option A → (A → Option B) → Option B
o >>= f = option_and_then f o

-- a value, where a test holds
abbrev pub only_if : {A : Type 0} → Bool → A → Option A
only_if true x = Some x
only_if false x = None

-- the values that a reading gives of each, where it gives one of all
abbrev pub collected : {A B : Type 0} → (A → Option B) → List A → Option (List B)
collected f [] = Some []
collected f (x ∷ xs) = f x >>= λ y. collected f xs >>= λ ys. Some (y ∷ ys)

-- what a word means by a table of words
abbrev pub meaning : {A : Type 0} → List (List ℕ × A) → List ℕ → Option A
meaning [] text = None
meaning (w ∷ ws) text = if bytes_eq text w.0 then Some w.1 else meaning ws text

-- a list of data
abbrev pub listed : Items → List Data
listed no_items = []
listed (item d ds) = d ∷ listed ds

-- the items of an array
abbrev pub items_in : Data → Option (List Data)
items_in d = as_array d >>= λ items. Some (listed items)

-- the items of an array that has from `least` to `most` of them
abbrev pub list_in : ℕ → ℕ → Data → Option (List Data)
list_in least most d = items_in d >>= λ items. only_if (nat_le least (length items) && nat_le (length items) most) items

-- whether a reading gave this text
abbrev pub reads_text : List ℕ → Option (List ℕ) → Bool
reads_text text None = false
reads_text text (Some s) = bytes_eq s text

-- a value that is this text
abbrev pub is_text : List ℕ → Data → Bool
is_text text d = reads_text text (as_str d)

-- a number that `serde_json` gives as a Long
abbrev pub long : Data → Option ℤ
long d = as_number d >>= as_i64

-- the names of an object's members
abbrev pub member_names : Members → List (List ℕ)
member_names no_members = []
member_names (member name d rest) = name ∷ member_names rest

-- whether every name passes, of an object that is one
abbrev pub all_names : (List ℕ → Bool) → Option Members → Bool
all_names known None = false
all_names known (Some members) = list_all known (member_names members)
