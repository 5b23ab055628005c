use Rattle.std.proofs.Common.{◌≡◌, ◌≢◌, ℕ, ◌+◌, ◌<◌, Option, Some, None, List, length, drop, slice_index_or, slice_set, refl, ap, ◌∙◌, sym}
use Rattle.flow_outside.specs.Readers.{Reading, Starts, LosesPlace}
use Rattle.flow_outside.specs.Slots.{living_in}
use Rattle.flow_outside.proofs.Living.{starts as starts_in}
use Rattle.outside_memory.specs.declared.places.Place.{Place}
use Rattle.outside_memory.specs.Files.{File, file_at, told_in, bytes_in}
use Rattle.outside_memory.specs.Places.{reading_at, readers_in}
use Rattle.outside_memory.proofs.Naming.{named, told_of}

-- A living reader of a file of this name, with these bytes left.
abbrev pub reader : List ℕ → Option (List ℕ) → Option Reading
reader name left = Some (record { name = name; left = left })

-- A reader is started for the file that is found under the name.
pub starts : (files : List File) (places started : List (Option Place)) (name : List ℕ) (file id : ℕ)
    → file_at files name ≡ Some file
    → id < length places
    → slice_index_or places id None ≡ None
    → started ≡ slice_set places id (Some (record { file = file; at = 0 }))
    → Starts (readers_in files places) (readers_in files started) name (told_in files name) id × (living_in started ≡ living_in places + 1)
starts files places started name file id found within free change =
    starts_in (reading_at files) places started id _ name _ refl
    (ap (λ name. reader name (Some (bytes_in files file))) (named files name file found)
    ∙ ap (reader name) (sym (told_of files name file found)))
    within free change

-- A reader that stays has only lost its place for those who look on.
pub loses_place : (files : List File) (place : Option Place) → reading_at files place ≢ None → LosesPlace (reading_at files place) (reading_at files place)
loses_place files None lives = absurd (lives refl)
loses_place files (Some place) lives =
    record { left = Some (drop place.at (bytes_in files place.file)); told = refl; lives = refl }
