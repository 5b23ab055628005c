-- How csv reads a line without quotes, carriage returns and line feeds.
use Rattle.std.proofs.Common.{◌≡◌, ℕ, ◌<◌, ◌==◌, Bool, true, false, not, ◌&&◌, ◌||◌, IsTrue, List, [], ◌∷◌, ◌++◌, length, Some, refl, ap, ◌∙◌, arith, append_assoc, append-nil, inl, inr}
use Rattle.std.specs.List.{list_all, onto_first}
use Rattle.std.proofs.lemmas.Bool.{and_parts, not-true, cases_Bool}
use Rattle.std.proofs.lemmas.List.Splits.{length-slice_split}
use Rattle.csv.specs.Machine.{next_record}
use Rattle.csv.specs.Reading.{default_config, strip_bom}
use Rattle.csv.specs.declared.parser.Config.{Config}
use Rattle.csv.specs.declared.parser.State.TheVariants as st
use Rattle.delim_io.specs.Input.{is_unmarked, is_plain_line, starts_with_mark, parts_at, IsReadAsParts}

abbrev config : ℕ → Config
config d = record default_config { delimiter = d }

-- the tests of an unmarked byte
unmarked : (b : ℕ) → is_unmarked b ≡ true → ((b == 34) ≡ false) × ((b == 13) ≡ false) × ((b == 10) ≡ false)
unmarked b e = go (b == 34) (b == 13) (b == 10) e
  where
    go : (q r n : Bool) → (not (q || r) && not n) ≡ true → (q ≡ false) × (r ≡ false) × (n ≡ false)
    go true r n e = cc
    go false true n e = cc
    go false false true e = cc
    go false false false e = (refl, refl, refl)

-- bytes before the first of some parts
abbrev joined : List ℕ → List (List ℕ) → List (List ℕ)
joined front [] = front ∷ []
joined front (part ∷ parts) = (front ++ part) ∷ parts

joined_nothing : (parts : List (List ℕ)) → 0 < length parts → joined [] parts ≡ parts
joined_nothing [] some = absurd (omega arith)
joined_nothing (part ∷ parts) some = refl

joined_more : (front : List ℕ) (b : ℕ) (parts : List (List ℕ)) → joined (front ++ b ∷ []) parts ≡ joined front (onto_first b parts)
joined_more front b [] = refl
joined_more front b (part ∷ parts) = ap (λ l. l ∷ parts) (append_assoc front (b ∷ []) part)

-- at the start of a field an unmarked byte does what it does in a field
start_as_inside : (d : ℕ) (fields : List (List ℕ)) (text : List ℕ) → list_all is_unmarked text ≡ true → next_record (config d) st.StartField fields [] text ≡ next_record (config d) st.InField fields [] text
unfolding next_record
start_as_inside d fields [] e = refl
start_as_inside d fields (b ∷ rest) e =
    let q = unmarked b (and_parts _ _ e).0 in
    rw q.0 refl

-- a text from inside a field
inside : (d : ℕ) (fields : List (List ℕ)) (field text : List ℕ) → list_all is_unmarked text ≡ true → next_record (config d) st.InField fields field text ≡ Some (fields ++ joined field (parts_at d text), st.StartRecord, [])
unfolding next_record
inside d fields field [] e = rw (append-nil field) refl
inside d fields field (b ∷ rest) e = elim (cases_Bool (b == d)) [
  | inl same ↦
      let later = (and_parts _ _ e).1 in
      let some : 0 < length (parts_at d rest) = omega (arith, length-slice_split (λ x. x == d) rest) in
      let list : (fields ++ field ∷ []) ++ joined [] (parts_at d rest) ≡ fields ++ (field ++ []) ∷ parts_at d rest =
      rw (joined_nothing (parts_at d rest) some, append-nil field) (append_assoc fields (field ∷ []) (parts_at d rest)) in
      rw same (start_as_inside d (fields ++ field ∷ []) rest later ∙ inside d (fields ++ field ∷ []) [] rest later ∙ ap (λ (l : List (List ℕ)). Some (l, st.StartRecord, [])) list)
  | inr other ↦
      let both = and_parts _ _ e in
      let q = unmarked b both.0 in
      rw (other, q.1, q.2) (inside d fields (field ++ b ∷ []) rest both.1 ∙ ap (λ (l : List (List ℕ)). Some (fields ++ l, st.StartRecord, [])) (joined_more field b (parts_at d rest)))
]

-- a line that begins with no mark
no_mark : (line : List ℕ) → starts_with_mark line ≡ false → strip_bom line ≡ line
unfolding strip_bom
no_mark [] e = refl
no_mark (a ∷ []) e = refl
no_mark (a ∷ b ∷ []) e = refl
no_mark (a ∷ b ∷ c ∷ rest) e = rw e refl

-- at the start of a line an unmarked byte does what it does at the start of a field
record_as_start : (d b : ℕ) (rest : List ℕ) → is_unmarked b ≡ true → next_record (config d) st.StartRecord [] [] (b ∷ rest) ≡ next_record (config d) st.StartField [] [] (b ∷ rest)
unfolding next_record
record_as_start d b rest e =
    let q = unmarked b e in
    rw (q.1, q.2) refl

pub read_as_parts : (d : ℕ) (line : List ℕ) → IsTrue (is_plain_line line) → IsTrue (list_all is_unmarked line) → IsReadAsParts d line
read_as_parts d [] plain e = cc
read_as_parts d (b ∷ rest) plain e =
    let line = b ∷ rest in
    let bare = no_mark line (not-true _ (and_parts _ _ plain).1) in
    let some : 0 < length (parts_at d line) = omega (arith, length-slice_split (λ x. x == d) line) in
    ap (λ (l : List ℕ). next_record (config d) st.StartRecord [] [] l) bare
    ∙ record_as_start d b rest (and_parts _ _ e).0
    ∙ start_as_inside d [] line e
    ∙ inside d [] [] line e
    ∙ ap (λ (l : List (List ℕ)). Some (l, st.StartRecord, [])) (joined_nothing (parts_at d line) some)
