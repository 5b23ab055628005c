-- Numbers in bytes.
use Rattle.std.proofs.Common.{◌≡◌, ℕ, ◌<◌, ◌^◌, List, length, slice_index, ◌∙◌, ap, arith, ℤ}
use Rattle.std.specs.Int.{to_be_bytes, from_be_bytes, cast_signed, cast_unsigned, w64}
use Rattle.std.proofs.lemmas.Int.{of_z-to_z}
use Rattle.std.proofs.lemmas.Nat.{be_bytes_8}

-- eight bytes are those of the Long that they write
pub long_bytes : (n : ℤ) (bytes : List ℕ) → length bytes ≡ 8 → ((i : ℕ) → slice_index bytes i < 256)
    → n ≡ cast_signed w64 (from_be_bytes w64 bytes) → to_be_bytes w64 (cast_unsigned w64 n) ≡ bytes
long_bytes n bytes long small same =
    let bound : from_be_bytes w64 bytes < 2 ^ 64 = omega (arith, small 0, small 1, small 2, small 3, small 4, small 5, small 6, small 7) in
    be_bytes_8 bytes (cast_unsigned w64 n) long small
    (ap (λ (z : ℤ). cast_unsigned w64 z) same ∙ of_z-to_z w64 (from_be_bytes w64 bytes) bound)
