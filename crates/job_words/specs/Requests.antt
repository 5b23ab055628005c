use Rattle.std.specs.Prelude.{List, map, Option, option_map}
use Rattle.job_words.specs.declared.named_path.NamedPath.{NamedPath}
use Rattle.job_words.specs.declared.request.Request.{Request}
use Rattle.job_words.specs.declared.request.RequestTask.{RequestTask}
use Rattle.job_words.specs.declared.request.RequestTask.TheVariants as task
use Rattle.job_words.specs.declared.request.RunBudget.{RunBudget}
use Rattle.job_words.specs.Words.{Binding, Budget, Task, Asked}

-- What requests ask for, read through their references.

abbrev pub bound : NamedPath → Binding
bound n = record { name = n.name.now; path = n.path.now }

abbrev pub all_bound : List NamedPath → List Binding
all_bound names = map bound names

abbrev pub budgeted : RunBudget → Budget
budgeted b = record { workers = b.workers; segments = b.segments }

abbrev pub tasked : RequestTask → Task
tasked task.Check = Task.check
tasked (task.Need workers) = Task.need workers
tasked (task.Run budget bindings) = Task.run (option_map budgeted budget) (all_bound bindings.items)

abbrev pub asked : Request → Asked
asked r = record { plan = r.plan.now; task = tasked r.task }

abbrev pub asked_in : Option Request → Option Asked
asked_in r = option_map asked r
