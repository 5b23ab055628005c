use Rattle.row_pipe.proofs.LawLemmas.{node_opens}
use Rattle.row_pipe.proofs.laws.nodes_may_be_opened.Goals as goal

pub returns : goal.returns
returns c = node_opens
