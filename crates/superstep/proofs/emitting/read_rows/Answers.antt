-- Row after row is collected.
use Rattle.std.proofs.Common.{Bool, List, ℕ, arith, refl, subst, sym, ◌∙◌}
use Rattle.flow_model.specs.Env.{Tuples}
use Rattle.superstep.specs.Emitting.{Collects}
use Rattle.paged_view.specs.Streams.{Advances}
use Rattle.lot_store.specs.Lots.{IsLeft}
use Rattle.superstep.proofs.Emits.{collected_all, collected_none, collected_one, known_left, pushed_reading, reads_join, reads_none, untold_damage}
use Rattle.superstep.proofs.emitting.read_rows.Goals as goal

pub records-init : goal.records-init
records-init g c = record {
  ready = c.requires.ready;
  tells = refl;
  later = omega arith;
  reads = λ purse. reads_none _ purse c.args.place.now;
  collected = λ tuples left.
      subst (λ (rows : Tuples). Collects c.args.schema.now c.args.place.now (g.D.Spill.told c.args.disk.now) rows tuples) (sym c.new-rows.ensures.items)
      (collected_none c.args.schema.now (g.D.Spill.told c.args.disk.now) c.args.place.now tuples left);
}

pub read_next-requires-clause-known : goal.read_next-requires-clause-known
read_next-requires-clause-known g c =
    known_left c.args.schema.now (g.D.Spill.told c.args.disk.now) (g.D.Spill.told c.records.disk) c.args.place.now c.records.place c.records.rows.items c.records.invariant.tells c.requires.left c.records.invariant.collected

pub records-preserved : goal.records-preserved
records-preserved g c =
    let advances = subst (λ (more : Bool). (rows : List (List ℕ)) → IsLeft c.records.place (g.D.Spill.told c.records.disk) rows → Advances rows more c.read_next.new.self.feed.shown (IsLeft c.read_next.new.self (g.D.Spill.told c.read_next.new.disk))) c.in-Ok-true.field-0-test c.in-Ok-true.ensures.rows in
    record {
      ready = c.read_next.ensures.shows.ready;
      tells = c.read_next.ensures.disk.told_still ∙ c.records.invariant.tells;
      later = omega (arith, c.records.invariant.later, c.read_next.ensures.cause.cause.later);
      reads = λ purse. reads_join _ _ _ purse purse purse c.args.place.now c.records.place c.read_next.new.self (c.records.invariant.reads purse) (c.read_next.ensures.preserves purse);
      collected = λ tuples left.
          collected_one c.args.schema.now (g.D.Spill.told c.records.disk) (g.D.Spill.told c.read_next.new.disk) c.records.place c.read_next.new.self c.read_next.new.self.feed.shown advances c.records.rows.items c.push_shown.new.rows.items tuples c.in-Ok.ensures.adds (c.records.invariant.collected tuples left);
    }

pub returns-in-Ok-false-clause-rows : goal.returns-in-Ok-false-clause-rows
returns-in-Ok-false-clause-rows g c =
    let advances = subst (λ (more : Bool). (rows : List (List ℕ)) → IsLeft c.records.place (g.D.Spill.told c.records.disk) rows → Advances rows more c.read_next.new.self.feed.shown (IsLeft c.read_next.new.self (g.D.Spill.told c.read_next.new.disk))) c.in-Ok-false.field-0-test c.in-Ok-false.ensures.rows in
    λ tuples left. collected_all c.args.schema.now (g.D.Spill.told c.records.disk) (g.D.Spill.told c.read_next.new.disk) c.records.place c.read_next.new.self c.read_next.new.self.feed.shown c.records.rows.items tuples advances (c.records.invariant.collected tuples left)

pub returns-in-Err-push_shown-clause-reads : goal.returns-in-Err-push_shown-clause-reads
returns-in-Err-push_shown-clause-reads g c = λ purse. reads_join _ _ _ purse purse purse c.args.place.now c.records.place c.read_next.new.self (c.records.invariant.reads purse) (c.read_next.ensures.preserves purse)

pub returns-in-Err-push_shown-clause-cause : goal.returns-in-Err-push_shown-clause-cause
returns-in-Err-push_shown-clause-cause g c =
    let advances = subst (λ (more : Bool). (rows : List (List ℕ)) → IsLeft c.records.place (g.D.Spill.told c.records.disk) rows → Advances rows more c.read_next.new.self.feed.shown (IsLeft c.read_next.new.self (g.D.Spill.told c.read_next.new.disk))) c.in-Ok-true.field-0-test c.in-Ok-true.ensures.rows in
    pushed_reading (g.D.Spill.fault_count c.args.disk.now) (g.D.Spill.fault_count c.read_next.new.disk) (g.D.Spill.told c.args.disk.now) c.read_next.new.self c.push_shown.result c.in-Err-push_shown.fault c.in-Err-push_shown.is
    (omega (arith, c.records.invariant.later, c.read_next.ensures.cause.cause.later))
    (λ worker block e.
    let h = c.push_shown.ensures.damaged worker block e in
    (h.0, h.1, untold_damage c.args.schema.now (g.D.Spill.told c.args.disk.now) (g.D.Spill.told c.records.disk) (g.D.Spill.told c.read_next.new.disk) c.args.place.now c.records.place c.read_next.new.self c.records.rows.items c.read_next.new.self.feed.shown c.records.invariant.tells c.requires.left c.records.invariant.collected advances h.2))
    c.push_shown.ensures.spill c.push_shown.ensures.silent

pub returns-in-Ok-false-clause-reads : goal.returns-in-Ok-false-clause-reads
returns-in-Ok-false-clause-reads g c = λ purse. reads_join _ _ _ purse purse purse c.args.place.now c.records.place c.read_next.new.self (c.records.invariant.reads purse) (c.read_next.ensures.preserves purse)

pub returns-in-Err-clause-reads : goal.returns-in-Err-clause-reads
returns-in-Err-clause-reads g c = λ purse. reads_join _ _ _ purse purse purse c.args.place.now c.records.place c.read_next.new.self (c.records.invariant.reads purse) (c.read_next.ensures.preserves purse)
