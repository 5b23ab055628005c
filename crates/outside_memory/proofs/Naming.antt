use Rattle.std.proofs.Common.{◌≡◌, ℕ, List, [], ◌∷◌, Some, ap, ◌∙◌, option_map}
use Rattle.std.proofs.lemmas.List.Quantifiers.{position-Some}
use Rattle.std.proofs.lemmas.Option.{slice_get-get_or}
use Rattle.std.proofs.lemmas.Slice.Eq.{bytes_eq-Decides}
use Rattle.std.specs.Str.{bytes_eq}
use Rattle.outside_memory.specs.Files.{File, file_at, name_in, name_or_none, bytes_in, told_in}

-- The file that is found under a name has that name.
pub named : (files : List File) (name : List ℕ) (place : ℕ) → file_at files name ≡ Some place → name_in files place ≡ name
named [] name place found = cc
named (file ∷ files) name place found =
    let first = position-Some (λ file. bytes_eq file.0 name) (file ∷ files) place file found in
    ap name_or_none (slice_get-get_or (file ∷ files) place file first.0) ∙ (bytes_eq-Decides _ _).0 first.1

-- What is told of a name is the bytes of the file that is found.
pub told_of : (files : List File) (name : List ℕ) (place : ℕ) → file_at files name ≡ Some place → told_in files name ≡ Some (bytes_in files place)
told_of files name place found = ap (option_map (bytes_in files)) found
