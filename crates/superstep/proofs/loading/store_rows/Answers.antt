-- One row more, and a disk that failed.
use Rattle.std.proofs.Common.{Bool, ◌+◌, arith, sym, subst, refl, ◌∙◌, [], ◌∷◌}
use Rattle.flow_outside.specs.Readers.{left_of}
use Rattle.flow_outside.specs.Told.{IfTold}
use Rattle.delim_io.specs.LinesLeft.{AdvancesLines, StaysOpen}
use Rattle.superstep.proofs.Loads.{keeps_join, keeps_shelf_then, stores_more}
use Rattle.superstep.proofs.loading.store_rows.Goals as goal

pub lines-preserved : goal.lines-preserved
lines-preserved g c =
    let open_still = subst (λ (more : Bool). StaysOpen more (g.S.Shelf.readers c.lines.shelf c.args.id) (g.S.Shelf.readers c.advance.new.shelf c.args.id) (g.S.Shelf.living c.lines.shelf) (g.S.Shelf.living c.advance.new.shelf)) c.in-Ok-true.field-0-test c.in-Ok-true.ensures.open in
    let advances = subst (λ (more : Bool). IfTold (left_of (g.S.Shelf.readers c.lines.shelf c.args.id)) (λ left. AdvancesLines more c.lines.lines c.advance.new.self left (left_of (g.S.Shelf.readers c.advance.new.shelf c.args.id)))) c.in-Ok-true.field-0-test c.in-Ok-true.ensures.rows in
    let rises = c.in-Ok-true.ensures.rises c.in-Ok-true.field-0-test in
    record {
      lives = open_still.0;
      name = open_still.1.0 ∙ c.lines.invariant.name;
      living = open_still.1.1 ∙ c.lines.invariant.living;
      shelf = keeps_shelf_then _ _ _ (g.S.Shelf.faults_at c.args.shelf.now) (g.S.Shelf.faults_at c.lines.shelf) (g.S.Shelf.faults_at c.advance.new.shelf) (g.S.Shelf.readers c.args.shelf.now) (g.S.Shelf.readers c.lines.shelf) (g.S.Shelf.readers c.advance.new.shelf) c.args.id c.lines.invariant.shelf c.advance.ensures.shelf.0 c.advance.ensures.shelf.1 c.advance.ensures.shelf.2;
      fields = c.advance.ensures.own.0 ∙ c.lines.invariant.fields;
      small = rises.below;
      counted = omega (arith, c.lines.invariant.counted, rises.rises);
      filling = c.in-Ok.ensures.filling;
      keeps = keeps_join g.D.Spill.told c.args.worker.now c.lines.worker c.store_row.new.self (c.args.source ∷ []) c.lines.invariant.keeps c.store_row.ensures.keeps;
      later = omega (arith, c.lines.invariant.later, c.store_row.ensures.cause.later);
      stores = stores_more g.D.Spill.told c.args.plan.now.nodes c.args.source c.args.lines.now c.lines.lines c.advance.new.self c.args.worker.now c.lines.worker c.store_row.new.self c.record.result.now (sym c.record.ensures) c.requires.lines.node c.requires.lines.found (c.lines.invariant.fields ∙ c.requires.lines.fields)
          c.lines.count (c.lines.count + 1) refl (left_of (g.S.Shelf.readers c.args.shelf.now c.args.id)) (left_of (g.S.Shelf.readers c.lines.shelf c.args.id)) (left_of (g.S.Shelf.readers c.advance.new.shelf c.args.id)) (c.args.source ∷ []) c.lines.invariant.keeps c.lines.invariant.stores advances c.in-Ok.ensures.stores;
    }

pub returns-in-Err-store_row-clause-keeps : goal.returns-in-Err-store_row-clause-keeps
returns-in-Err-store_row-clause-keeps g c = keeps_join g.D.Spill.told c.args.worker.now c.lines.worker c.store_row.new.self (c.args.source ∷ []) c.lines.invariant.keeps c.store_row.ensures.keeps
