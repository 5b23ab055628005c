use Rattle.std.proofs.Common.{◌≡◌, ℕ, ◌≤◌, List, None, take, drop}
use Rattle.job_words.specs.Requests.{all_bound}
use Rattle.job_inputs.specs.Sources.{first_unbound}
use Rattle.job_inputs.specs.Inputs.{HaveRows}
use Rattle.job_inputs.proofs.Stops.{sources}
use Rattle.job_inputs.proofs.inputs.read_sources.Given as goal

abbrev pub invariant-loop-i : goal.invariant-loop-i
invariant-loop-i g l = record {
  tells : g.S.Shelf.told l.shelf ≡ g.S.Shelf.told l.fn.shelf;
  later : (k : List ℕ) → g.S.Shelf.faults_at l.fn.shelf k ≤ g.S.Shelf.faults_at l.shelf k;
  living : g.S.Shelf.living l.shelf ≡ g.S.Shelf.living l.fn.shelf;
  bound : first_unbound (all_bound l.bindings) (sources (drop l.i l.nodes)) ≡ None;
  rows : HaveRows (g.S.Shelf.told l.fn.shelf) (all_bound l.bindings) (sources (take l.i l.nodes)) l.inputs.items;
}
