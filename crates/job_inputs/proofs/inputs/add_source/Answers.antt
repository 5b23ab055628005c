use Rattle.std.proofs.Common.{ap, sym, ◌∙◌}
use Rattle.job_words.specs.Requests.{bound, all_bound}
use Rattle.job_inputs.specs.Sources.{binding_at}
use Rattle.job_inputs.proofs.Stops.{stops_reading}
use Rattle.std.specs.Prelude.{option_map}
use Rattle.job_inputs.proofs.inputs.add_source.Goals as goal

pub returns-in-Err-clause-refused : goal.returns-in-Err-clause-refused
returns-in-Err-clause-refused g c =
    stops_reading (g.S.Shelf.told c.args.shelf.now) (all_bound c.args.bindings.now) c.args.source.now (g.S.Shelf.faults_at c.args.shelf.now) (g.S.Shelf.faults_at c.read_source.new.shelf) (bound c.in-Some.binding) c.in-Err.fault
    (ap (binding_at (all_bound c.args.bindings.now)) (sym c.as_str.ensures.value) ∙ sym c.binding_at.ensures ∙ ap (option_map bound) c.in-Some.is)
    c.in-Err.ensures.refused
