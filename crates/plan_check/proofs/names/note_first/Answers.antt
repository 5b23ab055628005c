use Rattle.std.proofs.Common.{◌≡◌, false, is_some, sym, ◌∙◌, subst}
use Rattle.std.specs.Prelude.{string_bytes}
use Rattle.indexmap.specs.IndexMap.{get_by_text}
use Rattle.plan_check.specs.FirstPlaces.{NotesFirst}
use Rattle.plan_check.proofs.FirstPlaceLemmas.{noted_now}
use Rattle.plan_check.proofs.names.note_first.Goals as goal

pub returns : goal.returns
returns c =
    let old = c.args.first.now in
    let same : string_bytes c.in_ok-key.key ≡ c.args.name.now = c.in_ok-key.ensures.ok ∙ c.as_str-text.ensures.value in
    let none = subst (λ name. is_some (get_by_text old name) ≡ false) (c.as_str-text.ensures.value ∙ sym same) (sym c.contains_key.ensures ∙ c.if-contains_key.false) in
    subst (λ name. NotesFirst old name c.args.position c.insert.new.self) same (noted_now old c.insert.new.self c.in_ok-key.key c.args.position none c.in_ok-insert.ensures.updates)
