use Rattle.std.proofs.Common.{◌≡◌, ◌++◌, sym, ap, ◌∙◌}
use Rattle.std.specs.Global.{Vec}
use Rattle.std.proofs.lemmas.List.{append-nil, append_assoc}
use Rattle.flow_types.specs.Tuples.{Tuple}
use Rattle.flow_model.specs.Env.{Tuples}
use Rattle.flow_model.specs.Rows.{inner_rows, left_alone, right_alone, default_row, keeps_left, keeps_right, rows_if}
use Rattle.plain_ops.proofs.Indexed.{inner_indexed, left_indexed, right_indexed}
use Rattle.plain_ops.proofs.join.join_rows.Goals as goal
use Rattle.plain_ops.proofs.join.join_rows.Goals.{then-keeps_left+in_ok-alone+in_ok-append_rows, else-keeps_left, then-keeps_right+in_ok-partners-2+in_ok-alone-2+in_ok-append_rows-2, else-keeps_right}

pub returns : goal.returns
returns c =
    let a = c.args in
    let left_key = a.meeting.now.left_key.now in
    let right_key = a.meeting.now.right_key.now in
    let columns = a.meeting.now.columns.now in
    let left = a.left.now in
    let right = a.right.now in
    let index = c.in_ok-partners.partners in
    let inner : Tuples = inner_rows left_key right_key columns left right in
    let lefts : Tuples = left_alone left_key right_key columns (default_row a.right_default.now) left right in
    let rights : Tuples = right_alone left_key right_key columns (default_row a.left_default.now) left right in
    let first : c.in_ok-rows.rows.items ≡ inner = c.in_ok-rows.ensures ∙ inner_indexed left_key right_key columns left right index c.in_ok-partners.ensures in
    let second : c.if-keeps_left.rows.items ≡ c.in_ok-rows.rows.items ++ rows_if (keeps_left a.kind) lefts = elim c.if-keeps_left.branch [
      | then-keeps_left+in_ok-alone+in_ok-append_rows w ↦
          ap (λ (v : Vec Tuple). v.items) w.rows-is
          ∙ w.in_ok-append_rows.ensures
          ∙ ap (λ (rows : Tuples). c.in_ok-rows.rows.items ++ rows) (w.in_ok-alone.ensures
          ∙ ap (λ d. left_alone left_key index.key columns d left index.rows) w.default_row.ensures
          ∙ left_indexed left_key right_key columns left right index c.in_ok-partners.ensures (default_row a.right_default.now)
          ∙ ap (λ keep. rows_if keep lefts) (sym (sym c.keeps_left.ensures ∙ w.if-keeps_left.true)))
      | else-keeps_left w ↦
          ap (λ (v : Vec Tuple). v.items) w.rows-is ∙ sym (append-nil c.in_ok-rows.rows.items) ∙ ap (λ keep. c.in_ok-rows.rows.items ++ rows_if keep lefts) (sym (sym c.keeps_left.ensures ∙ w.if-keeps_left.false))
    ] in
    let third : c.if-keeps_right.rows.items ≡ c.if-keeps_left.rows.items ++ rows_if (keeps_right a.kind) rights = elim c.if-keeps_right.branch [
      | then-keeps_right+in_ok-partners-2+in_ok-alone-2+in_ok-append_rows-2 w ↦
          ap (λ (v : Vec Tuple). v.items) w.rows-is
          ∙ w.in_ok-append_rows-2.ensures
          ∙ ap (λ (rows : Tuples). c.if-keeps_left.rows.items ++ rows) (w.in_ok-alone-2.ensures
          ∙ ap (λ d. right_alone w.in_ok-partners-2.partners.key right_key columns d w.in_ok-partners-2.partners.rows right) w.default_row-then-keeps_right.ensures
          ∙ right_indexed right_key left_key columns right left w.in_ok-partners-2.partners w.in_ok-partners-2.ensures (default_row a.left_default.now)
          ∙ ap (λ keep. rows_if keep rights) (sym (sym c.keeps_right.ensures ∙ w.if-keeps_right.true)))
      | else-keeps_right w ↦
          ap (λ (v : Vec Tuple). v.items) w.rows-is ∙ sym (append-nil c.if-keeps_left.rows.items) ∙ ap (λ keep. c.if-keeps_left.rows.items ++ rows_if keep rights) (sym (sym c.keeps_right.ensures ∙ w.if-keeps_right.false))
    ] in
    third
    ∙ ap (λ (rows : Tuples). rows ++ rows_if (keeps_right a.kind) rights) (second ∙ ap (λ (rows : Tuples). rows ++ rows_if (keeps_left a.kind) lefts) first)
    ∙ append_assoc inner (rows_if (keeps_left a.kind) lefts) (rows_if (keeps_right a.kind) rights)
