use Rattle.model_laws.proofs.HeldLemmas.{text_from_bytes}
use Rattle.model_laws.proofs.held.text_is_held.Goals as goal

pub returns : goal.returns
returns c = text_from_bytes c.as_str.result.now c.args.text.now c.as_str.ensures.value c.as_str.ensures.bound c.as_str.utf8
