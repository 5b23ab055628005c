use Rattle.std.proofs.Common.{◌≡◌, ◌-◌, ◌≤◌, [], ◌∷◌}
use Rattle.flow_outside.specs.Readers.{Lives, left_of, name_of}
use Rattle.delim_io.specs.Input.{input_limit}
use Rattle.worker_core.specs.Workers.{IsFilling, KeepsWorker}
use Rattle.superstep.specs.Both.{WhileThere}
use Rattle.superstep.specs.Loading.{KeepsShelf, StoresSome}
use Rattle.superstep.proofs.loading.store_rows.Given as goal

abbrev pub invariant-lines : goal.invariant-lines
invariant-lines g l = record {
  lives : Lives (g.S.Shelf.readers l.shelf) l.id;
  name : name_of (g.S.Shelf.readers l.shelf l.id) ≡ name_of (g.S.Shelf.readers l.fn.shelf l.id);
  living : g.S.Shelf.living l.shelf ≡ g.S.Shelf.living l.fn.shelf;
  shelf : KeepsShelf (g.S.Shelf.told l.fn.shelf) (g.S.Shelf.told l.shelf) (g.S.Shelf.faults_at l.fn.shelf) (g.S.Shelf.faults_at l.shelf) (g.S.Shelf.readers l.fn.shelf) (g.S.Shelf.readers l.shelf) l.id;
  fields : l.lines.fields ≡ l.fn.lines.fields;
  small : l.lines.given ≤ input_limit;
  counted : l.count ≤ l.lines.given;
  filling : IsFilling g.D.Spill.told l.plan l.source l.worker;
  keeps : KeepsWorker g.D.Spill.told l.fn.worker l.worker (l.source ∷ []) (l.source ∷ []);
  later : g.D.Spill.fault_count l.fn.worker.storage.disk ≤ g.D.Spill.fault_count l.worker.storage.disk;
  stores : WhileThere (StoresSome g.D.Spill.told l.plan.nodes l.source l.fn.lines l.lines l.count l.fn.worker l.worker) (left_of (g.S.Shelf.readers l.fn.shelf l.id)) (left_of (g.S.Shelf.readers l.shelf l.id));
}

abbrev pub decreases-lines : goal.decreases-lines
decreases-lines g l = input_limit - l.lines.given
