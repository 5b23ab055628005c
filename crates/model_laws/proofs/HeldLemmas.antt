-- Bytes of a text in memory are a text's.
use Rattle.std.proofs.Common.{◌≡◌, ℕ, ◌≤◌, true, List, length, arith, subst}
use Rattle.std.specs.Prelude.{nat_le}
use Rattle.std.specs.Str.{IsUtf8, is_utf8}
use Rattle.std.proofs.lemmas.Bool.Decides.{nat_tests}
use Rattle.std.proofs.lemmas.Str.{is_utf8-from_IsUtf8}
use Rattle.flow_types.specs.Limits.{text_limit}
use Rattle.flow_types.specs.Values.{is_text}
use Rattle.flow_types.proofs.ValueLemmas.{both_pass}

pub text_from_bytes : (s t : List ℕ) → s ≡ t → length s ≤ text_limit → IsUtf8 s → is_text t ≡ true
text_from_bytes s t e low text =
    let short : nat_le (length s) text_limit ≡ true = grind (arith, nat_tests) in
    subst (λ u. is_text u ≡ true) e (both_pass (nat_le (length s) text_limit) (is_utf8 s) short (is_utf8-from_IsUtf8 s text))
