use Rattle.std.proofs.Common.{◌≡◌, ℕ, List, [], ◌∷◌, ◌++◌, sym, ◌∙◌, ap, subst}
use Rattle.flow_types.specs.Records.{form, framed}
use Rattle.packed_rows.specs.Packed.{rows_in}
use Rattle.packed_rows.proofs.PackedLemmas.{Holds, holds_more}
use Rattle.packed_rows.proofs.rows.PackedRows.push.Goals as goal

pub returns-clause-pushed : goal.returns-clause-pushed
returns-clause-pushed c =
    let now : c.push_frame.new.bytes.items ≡ c.args.self.now ++ framed (form c.args.row.now) =
    c.in_ok-push_frame.ensures.pushed ∙ ap (λ (xs : List ℕ). xs ++ framed (form c.args.row.now)) c.self.view_is in
    (subst (λ (bytes : List ℕ). Holds c.args.schema.now (rows_in c.args.schema.now c.args.self.now ++ c.args.row.now ∷ []) bytes) (sym now)
    (holds_more c.args.schema.now c.args.row.now c.args.self.now c.requires.packed c.in_ok-push_frame.ensures.row)).read

pub returns-clause-packed : goal.returns-clause-packed
returns-clause-packed c =
    let now : c.push_frame.new.bytes.items ≡ c.args.self.now ++ framed (form c.args.row.now) =
    c.in_ok-push_frame.ensures.pushed ∙ ap (λ (xs : List ℕ). xs ++ framed (form c.args.row.now)) c.self.view_is in
    (subst (λ (bytes : List ℕ). Holds c.args.schema.now (rows_in c.args.schema.now c.args.self.now ++ c.args.row.now ∷ []) bytes) (sym now)
    (holds_more c.args.schema.now c.args.row.now c.args.self.now c.requires.packed c.in_ok-push_frame.ensures.row)).packed
