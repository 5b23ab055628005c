use Rattle.std.proofs.Common.{arith, ℕ, ◌≤◌, List, Vec, Global, ap, sym, ◌∙◌, subst}
use Rattle.flow_model.specs.declared.rows.Rows.{Rows}
use Rattle.job_words.specs.Requests.{all_bound}
use Rattle.job_inputs.proofs.Stops.{rows_on, rows_stay, is_bound, are_bound, ends_at}
use Rattle.job_inputs.proofs.inputs.read_sources.Goals.{then-is_source+in-Ok, else-is_source}
use Rattle.job_inputs.proofs.inputs.read_sources.Goals as goal

pub returns-in-Err-clause-refused : goal.returns-in-Err-clause-refused
returns-in-Err-clause-refused g c =
    ends_at (g.S.Shelf.told c.args.shelf.now) (g.S.Shelf.told c.loop-i.shelf) (all_bound c.args.bindings.now) c.args.nodes.now c.loop-i.i c.index-nodes-i.result c.loop-i.inputs.items
    (g.S.Shelf.faults_at c.args.shelf.now) (g.S.Shelf.faults_at c.loop-i.shelf) (g.S.Shelf.faults_at c.add_source.new.shelf) c.in-Err.stopped.name.now c.in-Err.stopped.fault
    c.loop-i-test.true c.index-nodes-i.is (sym c.is_source.ensures ∙ c.if-is_source.true) c.loop-i.invariant.rows c.loop-i.invariant.tells c.loop-i.invariant.later c.in-Err.ensures.refused

pub loop-i-preserved : goal.loop-i-preserved
loop-i-preserved g c = elim c.if-is_source.branch [
  | then-is_source+in-Ok w ↦ record {
    tells = ap g.S.Shelf.told w.shelf-is ∙ w.add_source.ensures.tells ∙ c.loop-i.invariant.tells;
    later = subst (λ s. (k : List ℕ) → g.S.Shelf.faults_at c.args.shelf.now k ≤ g.S.Shelf.faults_at s k) (sym w.shelf-is) (λ k. omega (arith, c.loop-i.invariant.later k, w.add_source.ensures.later k));
    living = ap g.S.Shelf.living w.shelf-is ∙ w.in-Ok.ensures.read ∙ c.loop-i.invariant.living;
    bound = (is_bound (all_bound c.args.bindings.now) c.args.nodes.now c.loop-i.i c.index-nodes-i.result c.loop-i-test.true c.index-nodes-i.is (sym c.is_source.ensures ∙ w.if-is_source.true) c.loop-i.invariant.bound).1;
    rows = rows_on (g.S.Shelf.told c.args.shelf.now) (g.S.Shelf.told c.loop-i.shelf) (all_bound c.args.bindings.now) c.args.nodes.now c.loop-i.i c.index-nodes-i.result c.loop-i.inputs.items c.if-is_source.inputs.items w.in-Ok.ensures.rows.0
        c.loop-i-test.true c.index-nodes-i.is (sym c.is_source.ensures ∙ w.if-is_source.true) c.loop-i.invariant.tells c.loop-i.invariant.rows w.in-Ok.ensures.rows.1 (ap (λ (v : Vec Rows Global). v.items) w.inputs-is ∙ w.in-Ok.ensures.rows.2);
  }
  | else-is_source w ↦ record {
    tells = ap g.S.Shelf.told w.shelf-is ∙ c.loop-i.invariant.tells;
    later = subst (λ s. (k : List ℕ) → g.S.Shelf.faults_at c.args.shelf.now k ≤ g.S.Shelf.faults_at s k) (sym w.shelf-is) c.loop-i.invariant.later;
    living = ap g.S.Shelf.living w.shelf-is ∙ c.loop-i.invariant.living;
    bound = are_bound (all_bound c.args.bindings.now) c.args.nodes.now c.loop-i.i c.index-nodes-i.result c.loop-i-test.true c.index-nodes-i.is (sym c.is_source.ensures ∙ w.if-is_source.false) c.loop-i.invariant.bound;
    rows = rows_stay (g.S.Shelf.told c.args.shelf.now) (all_bound c.args.bindings.now) c.args.nodes.now c.loop-i.i c.index-nodes-i.result c.loop-i.inputs.items c.if-is_source.inputs.items
        c.loop-i-test.true c.index-nodes-i.is (sym c.is_source.ensures ∙ w.if-is_source.false) c.loop-i.invariant.rows (ap (λ (v : Vec Rows Global). v.items) w.inputs-is);
  }
]
