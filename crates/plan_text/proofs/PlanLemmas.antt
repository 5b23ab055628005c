-- What `serde_json` reads of bytes, and the plan's limit on bytes.
use Rattle.std.proofs.Common.{◌≡◌, ◌≤◌, ℕ, Bool, true, false, nat_lt, if◌then◌else◌, List, length, Option, None, refl, ap, ◌∙◌, arith, IsUtf8}
use Rattle.std.specs.Str.{is_utf8}
use Rattle.std.proofs.lemmas.Str.{is_utf8-from_IsUtf8, IsUtf8-from_is_utf8}
use Rattle.std.proofs.lemmas.Bool.Decides.{nat_tests}
use Rattle.serde_json.specs.Data.{Data}
use Rattle.serde_json.specs.Read.{read}
use Rattle.flow_model.specs.declared.plan_code.PlanCode.TheVariants as code
use Rattle.plan_text.specs.Plans.{byte_limit, json_of, plan_in, plan_of, refused}

small : (n : ℕ) → n ≤ byte_limit → nat_lt byte_limit n ≡ false
small n h = grind (arith, nat_tests)

pub json_of-text : (bytes : List ℕ) → IsUtf8 bytes → json_of bytes ≡ read bytes
json_of-text bytes h = ap (λ b. if b then read bytes else None) (is_utf8-from_IsUtf8 bytes h)

not_json : (bytes : List ℕ) (b : Bool) → is_utf8 bytes ≡ b → (IsUtf8 bytes → read bytes ≡ None) → (if b then read bytes else None) ≡ None
not_json bytes true e h = h (IsUtf8-from_is_utf8 bytes e)
not_json bytes false e h = refl

pub json_of-none : (bytes : List ℕ) → (IsUtf8 bytes → read bytes ≡ None) → json_of bytes ≡ None
json_of-none bytes h = not_json bytes (is_utf8 bytes) refl h

pub plan_of-small : (bytes : List ℕ) (o : Option Data) → length bytes ≤ byte_limit → json_of bytes ≡ o → plan_of bytes ≡ plan_in o
plan_of-small bytes o h e = ap (λ b. if b then refused 0 code.TooBig else plan_in (json_of bytes)) (small (length bytes) h) ∙ ap plan_in e
